-- An index of touched paths, and what it rules out.
--     covers_none, covers_more, covers_adding      it has what it has, also where more is known
--     covers_same, covers_next      as it goes on
--     none_touched      what its answer says of what follows an ancestor
use Rattle.std.proofs.Common.{◌≡◌, ℕ, ◌+◌, ◌<◌, Bool, true, false, cond, List, [], ◌∷◌, ◌++◌, map, length, refl, sym, ap, subst, ◌∙◌, arith, ⊎_elim, length-append}
use Rattle.std.specs.Prelude.{Option, Some, None, Contains}
use Rattle.std.specs.List.{All, AllByRecursion}
use Rattle.std.proofs.lemmas.Bool.{cases_eq, false_from_ne_true}
use Rattle.std.proofs.lemmas.List.Elements.{All-weaker, All-contains, Contains-append_cases}
use Rattle.byte_fields.proofs.Lists.{each_of}
use Rattle.changeset_model.specs.Path.{Path, comparable}
use Rattle.changeset_model.specs.Changeset.{Changeset, id_of}
use Rattle.history_model.specs.History.{Known, with_id, is_known}
use Rattle.changeset_store.specs.Store.{changeset_at}
use Rattle.changeset_store.specs.Fork.{IsAncestor, following_at}
use Rattle.changeset_store.specs.Grown.{adding_one, adding}
use Rattle.changeset_store.proofs.Places.{changeset_at-append}
use Rattle.path_conflict.specs.Best.{IsBest}
use Rattle.touch_index.specs.declared.index.TouchIndex.{TouchIndex}
use Rattle.touch_index.specs.Index.{Has, Keeps}
use Rattle.repo_machine.specs.Clashes.{edited_paths}
use Rattle.repo_machine.specs.Touches.{Covers, is_in_chain}
use Rattle.repo_machine.proofs.RangeNumbers.{AreStored, IsNumbered, each_numbered}

-- ---- as more is known

pub covers_none : (index : TouchIndex) (ks : List Known) → index.indexed ≡ 0 → Covers index ks
covers_none index ks none = record { within = omega arith; touched = λ n less. absurd (omega arith) }

module _ (index : TouchIndex) (ks : List Known) (h : Covers index ks) where
  covers_longer : (more : List Known) → Covers index (ks ++ more)
  covers_longer more =
      let long = length-append ks more in
      let same : (n : ℕ) → n < index.indexed → changeset_at ks n ≡ changeset_at (ks ++ more) n = λ n less. sym (changeset_at-append ks more n (let within = h.within in omega arith)) in
      record {
        within = (let within = h.within in omega arith);
        touched = λ n less. subst (λ (c : Changeset). All (Has index n) (map (λ e. e.0) c.changes)) (same n less) (h.touched n less);
      }

  pub covers_more : (more ks' : List Known) → ks' ≡ ks ++ more → Covers index ks'
  covers_more more ks' grows = subst (Covers index) (sym grows) (covers_longer more)

  -- also where it wasn't known yet
  covers_by : (c : Changeset) → (b : Bool) → Covers index (cond b ks (ks ++ with_id c ∷ []))
  covers_by c true = h
  covers_by c false = covers_longer (with_id c ∷ [])

pub covers_adding : (index : TouchIndex) (ks : List Known) (cs : List Changeset) → Covers index ks → Covers index (adding ks cs)
covers_adding index ks [] h = h
covers_adding index ks (c ∷ cs) h = covers_adding index (adding_one ks c) cs (covers_by index ks h c (is_known ks (id_of c)))

-- ---- as it goes on

module _ (old new : TouchIndex) (ks : List Known) (h : Covers old ks) (keeps : Keeps old new) where
  pub covers_same : new.indexed ≡ old.indexed → Covers new ks
  covers_same same = record {
    within = (let within = h.within in omega arith);
    touched = λ n less. All-weaker (Has old n) (Has new n) (keeps.touches n) (map (λ e. e.0) (changeset_at ks n).changes) (h.touched n (omega arith));
  }

  pub covers_next : new.indexed ≡ old.indexed + 1 → old.indexed < length ks → All (Has new old.indexed) (map (λ e. e.0) (changeset_at ks old.indexed).changes) → Covers new ks
  covers_next more below touched = record {
    within = omega arith;
    touched = λ n less. ⊎_elim
        (λ e. subst (λ n. All (Has new n) (map (λ e. e.0) (changeset_at ks n).changes)) e touched)
        (λ other. All-weaker (Has old n) (Has new n) (keeps.touches n) (map (λ e. e.0) (changeset_at ks n).changes) (h.touched n (omega arith)))
        (cases_eq old.indexed n);
  }

-- ---- what is ruled out

module _ (index : TouchIndex) (ks : List Known) (h : Covers index ks) (s : AreStored ks) (above last : ℕ) (a : IsAncestor ks above last) (below : last < index.indexed) where
  -- of a changeset that follows
  clear_one : (outer : List Path) → ((n : ℕ) (l r : Path) → above < n → is_in_chain ks last n ≡ true → Has index n r → Contains outer l → comparable l r ≡ false)
      → (c : Changeset) → IsNumbered ks above last c → (l r : Path) → Contains outer l → Contains (map (λ e. e.0) c.changes) r → comparable l r ≡ false
  clear_one outer none c n l r in_left in_right =
      let at : Contains (map (λ e. e.0) (changeset_at ks n.number).changes) r = subst (λ (c : Changeset). Contains (map (λ e. e.0) c.changes) r) (sym n.is) in_right in
      none n.number l r n.later n.in_line (All-contains (Has index n.number) (map (λ e. e.0) (changeset_at ks n.number).changes) r (h.touched n.number (let most = n.not_after in omega arith)) at) in_left

  clear_each : (outer : List Path) → ((n : ℕ) (l r : Path) → above < n → is_in_chain ks last n ≡ true → Has index n r → Contains outer l → comparable l r ≡ false)
      → (cs : List Changeset) → AllByRecursion (IsNumbered ks above last) cs → IsBest outer (edited_paths cs) None
  clear_each outer none [] all l r in_left in_right = absurd (each_of (λ _. ⊥) [] r tt in_right)
  clear_each outer none (c ∷ cs) all l r in_left in_right =
      ⊎_elim (clear_one outer none c all.0 l r in_left) (clear_each outer none cs all.1 l r in_left) (Contains-append_cases (map (λ e. e.0) c.changes) (edited_paths cs) r in_right)

  pub none_touched : (outer : List Path) → ((n : ℕ) (l r : Path) → above < n → is_in_chain ks last n ≡ true → Has index n r → Contains outer l → comparable l r ≡ false) → IsBest outer (edited_paths (following_at ks above last)) None
  none_touched outer none = clear_each outer none (following_at ks above last) (each_numbered ks s above last a)
