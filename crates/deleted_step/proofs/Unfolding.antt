-- One more node of the first parent, under the node of the directory above it.
use Rattle.std.proofs.Common.{◌≡◌, ◌⊎◌, inl, inr, ℕ, zero, suc, ◌<◌, Bool, true, false, cond, ◌||◌, List, [], ◌∷◌, ◌++◌, length, refl, sym, ap, subst, ◌∙◌, arith}
use Rattle.std.specs.Prelude.{Option, None, Some, Result, Ok, Err, MatchResult, is_some, slice_index_or, ◌==◌}
use mathlib.Core.Bool.{true≢false}
use Rattle.std.specs.List.{list_any}
use Rattle.std.specs.Option.{option_and_then}
use Rattle.std.specs.Ordering.{eq_by_cmp}
use Rattle.std.specs.FinMap.{find as find_key}
use Rattle.std.specs.BTreeMap.{BTreeMap, get, is_at}
use Rattle.std.proofs.lemmas.Bool.{or_left, or_right, or_parts}
use Rattle.std.proofs.lemmas.List.Folds.{list_any-append}
use Rattle.std.proofs.lemmas.List.{length-append}
use Rattle.byte_fields.specs.Bytes.{Id}
use Rattle.changeset_model.specs.Path.{Path, is_prefix, path_cmp}
use Rattle.history_model.specs.Past.{At, Begin, Past}
use Rattle.history_model.proofs.Landings.{prefix_self}
use Rattle.manifest_model.specs.Deleted.{DeletedNode, deleted, deleted_id, has_deleted}
use Rattle.manifest_model.proofs.Derivations.{tied_same}
use Rattle.manifest_laws.proofs.Changes.{prefix_itself, prefix_trans}
use Rattle.manifest_laws.proofs.Flat.{prefix_length, tied_self}
use Rattle.manifest_laws.proofs.Names.{Name, name_cmp}
use Rattle.manifest_laws.proofs.Reach.{prefix_push}
use Rattle.manifest_laws.proofs.Steps.{both_ways}
use Rattle.deleted_step.specs.declared.opened.Opened.{Opened}
use Rattle.deleted_step.specs.declared.unfolded.Unfolded.{Unfolded}
use Rattle.deleted_step.specs.Opened.{IsOf, entry_at, is_there}
use Rattle.deleted_step.specs.Unfolded.{IsUnfolded, Links, entry_in, is_on_way, is_unfolded, link_after, link_in, place_at}
use Rattle.deleted_step.specs.Steps.{AreHeld, AreHeldAt, IsHeld, IsLedTo, is_on_way as is_on_way_to}
use Rattle.deleted_step.proofs.Defined.{deep_snoc, entry_there, there_is, without}
use Rattle.deleted_step.proofs.SetLinks.{untouched}

abbrev Places : Type 0
Places = BTreeMap Path Opened

-- ---- a node that is held

pub held_at : (contents : Id → Option (List ℕ)) (first : Past) (d : Path) → (length d == 0) ≡ false → AreHeld contents first → has_deleted first d ≡ true → IsHeld contents (deleted first d)
held_at contents Begin d deep held there = absurd (true≢false (sym there ∙ ap (λ b. b || false) deep))
held_at contents (At c first second) d deep held there = held d there

pub held_on : (contents : Id → Option (List ℕ)) (first : Past) (d : Path) (ps : List Path) → (length d == 0) ≡ false → AreHeldAt contents first ps → is_on_way_to ps d ≡ true → has_deleted first d ≡ true → IsHeld contents (deleted first d)
held_on contents Begin d ps deep held on there = absurd (true≢false (sym there ∙ ap (λ b. b || false) deep))
held_on contents (At c first second) d ps deep held on there = held d on there

-- on the way to fewer paths
pub held_fewer : (contents : Id → Option (List ℕ)) (first : Past) (ps qs : List Path) → ((d : Path) → list_any (λ q. is_prefix d q) qs ≡ true → list_any (λ p. is_prefix d p) ps ≡ true) → AreHeldAt contents first ps → AreHeldAt contents first qs
held_fewer contents Begin ps qs fewer held = tt
held_fewer contents (At c first second) ps qs fewer held = λ d on there. held d (by d (length d == 0) (list_any (λ q. is_prefix d q) qs) refl on) there
  where
    by : (d : Path) (b x : Bool) → list_any (λ q. is_prefix d q) qs ≡ x → (b || x) ≡ true → (b || list_any (λ p. is_prefix d p) ps) ≡ true
    by d true x e h = refl
    by d false x e h = fewer d (e ∙ h)

pub held_front : (contents : Id → Option (List ℕ)) (first : Past) (p d rest : Path) → p ≡ d ++ rest → AreHeldAt contents first (p ∷ []) → AreHeldAt contents first (d ∷ [])
held_front contents first p d rest e held = held_fewer contents first (p ∷ []) (d ∷ []) (λ q h. along q (is_prefix q d) refl h) held
  where
    along : (q : Path) (b : Bool) → is_prefix q d ≡ b → (b || false) ≡ true → (is_prefix q p || false) ≡ true
    along q true h g = ap (λ b. b || false) (prefix_trans q d p h (ap (is_prefix d) e ∙ prefix_itself d rest))
    along q false h g = absurd (true≢false (sym g))

pub held_left : (contents : Id → Option (List ℕ)) (first : Past) (ps qs : List Path) → AreHeldAt contents first (ps ++ qs) → AreHeldAt contents first ps
held_left contents first ps qs held = held_fewer contents first (ps ++ qs) ps (λ d h. list_any-append (λ p. is_prefix d p) ps qs ∙ or_left (list_any (λ p. is_prefix d p) ps) (list_any (λ p. is_prefix d p) qs) h) held

pub held_right : (contents : Id → Option (List ℕ)) (first : Past) (ps qs : List Path) → AreHeldAt contents first (ps ++ qs) → AreHeldAt contents first qs
held_right contents first ps qs held = held_fewer contents first (ps ++ qs) qs (λ d h. list_any-append (λ p. is_prefix d p) ps qs ∙ or_right (list_any (λ p. is_prefix d p) ps) (list_any (λ p. is_prefix d p) qs) h) held

any_item : (f : Path → Bool) (ps : List Path) (i : ℕ) (p : Path) → i < length ps → p ≡ slice_index_or ps i p → f p ≡ true → list_any f ps ≡ true
any_item f [] i p less e h = absurd (omega arith)
any_item f (q ∷ ps) zero p less e h = or_left (f q) (list_any f ps) (ap f (sym e) ∙ h)
any_item f (q ∷ ps) (suc i) p less e h = or_right (f q) (list_any f ps) (any_item f ps i p (omega arith) e h)

pub held_item : (contents : Id → Option (List ℕ)) (first : Past) (ps : List Path) (i : ℕ) (p : Path) → i < length ps → p ≡ slice_index_or ps i p → AreHeldAt contents first ps → AreHeldAt contents first (p ∷ [])
held_item contents first ps i p less e held = held_fewer contents first ps (p ∷ []) (λ d h. any_item (is_prefix d) ps i p less e (one (is_prefix d p) h)) held
  where
    one : (b : Bool) → (b || false) ≡ true → b ≡ true
    one true h = refl
    one false h = h

itself : (p : Path) → is_on_way_to (p ∷ []) p ≡ true
itself p = by (length p == 0) (is_prefix p p) (prefix_self p)
  where
    by : (b x : Bool) → x ≡ true → (b || (x || false)) ≡ true
    by true x h = refl
    by false true h = refl
    by false false h = h

pub of_nothing : (o : Opened) (n : DeletedNode) → is_there n ≡ false → o.link ≡ None → ((k : Name) → entry_at o k ≡ None) → IsOf o n
of_nothing o n none link entries =
    let parts = without n none in
    record { link = link ∙ sym parts.0; entries = λ k. entries k ∙ ap (find_key name_cmp k) (sym parts.1) }

-- ---- the way, one name longer

module _ (a : Path) (n : Name) where
  abbrev here : Path
  here = a ++ n ∷ []

  longer : (q : Path) → is_prefix q here ≡ (is_prefix q a || eq_by_cmp path_cmp here q)
  longer q = both_ways (is_prefix q here) (is_prefix q a || eq_by_cmp path_cmp here q) (λ h. there (prefix_push q a n h)) back
    where
      there : (is_prefix q a ≡ true) ⊎ (q ≡ here) → (is_prefix q a || eq_by_cmp path_cmp here q) ≡ true
      there (inl h) = or_left (is_prefix q a) (eq_by_cmp path_cmp here q) h
      there (inr e) = by (is_prefix q a) (ap (eq_by_cmp path_cmp here) e ∙ tied_self here)
        where
          by : (b : Bool) → eq_by_cmp path_cmp here q ≡ true → (b || eq_by_cmp path_cmp here q) ≡ true
          by true h = refl
          by false h = h

      back_by : (b : Bool) → is_prefix q a ≡ b → (b || eq_by_cmp path_cmp here q) ≡ true → is_prefix q here ≡ true
      back_by true h g = prefix_trans q a here h (prefix_itself a (n ∷ []))
      back_by false h g = ap (is_prefix q) (tied_same here q g) ∙ prefix_self q

      back : (is_prefix q a || eq_by_cmp path_cmp here q) ≡ true → is_prefix q here ≡ true
      back h = back_by (is_prefix q a) refl h

  beyond : is_prefix here a ≡ false
  beyond = by (is_prefix here a) refl
    where
      by : (b : Bool) → is_prefix here a ≡ b → b ≡ false
      by true h = absurd (let less = prefix_length here a h in let long = length-append a (n ∷ []) in omega (arith, less, long))
      by false h = refl

-- with the path p itself
with_one : (u w x e : Bool) → u ≡ (w || x) → (e ≡ true → u ≡ true) → u ≡ (w || (x || e))
with_one u true x e h g = h
with_one u false true e h g = h
with_one u false false true h g = g refl
with_one u false false false h g = h

with_new : (u w x e : Bool) → u ≡ (w || x) → cond e true u ≡ (w || (x || e))
with_new u true x true h = refl
with_new u true x false h = h
with_new u false true true h = refl
with_new u false true false h = h
with_new u false false true h = refl
with_new u false false false h = h

module _ (first : Past) (ls : Links) (a : Path) (n : Name) (u : Unfolded) (are : IsUnfolded first ls a u) where
  abbrev p : Path
  p = a ++ n ∷ []

  above_there : is_unfolded u a ≡ true
  above_there = by a are
    where
      by : (a : Path) → IsUnfolded first ls a u → is_unfolded u a ≡ true
      by [] are = refl
      by (e ∷ a) are = are.places e a ∙ or_so (is_on_way ls (e ∷ a)) (is_prefix (e ∷ a) (e ∷ a)) (prefix_self (e ∷ a))
        where
          or_so : (b c : Bool) → c ≡ true → (b || c) ≡ true
          or_so true c h = refl
          or_so false c h = h

  -- what the node above has under the name
  pub under_above : entry_in u a n ≡ cond (is_there (deleted first p)) (Some (deleted_id (deleted first p))) None
  under_above = are.entries a above_there n ∙ entry_there first a n

  pub led : (contents : Id → Option (List ℕ)) → AreHeldAt contents first (p ∷ []) → IsLedTo contents (entry_in u a n) (deleted first p)
  led contents held = subst (λ id. IsLedTo contents id (deleted first p)) (sym under_above) (by (is_there (deleted first p)) refl)
    where
      by : (b : Bool) → is_there (deleted first p) ≡ b → IsLedTo contents (cond b (Some (deleted_id (deleted first p))) None) (deleted first p)
      by true there = (refl, held_on contents first p (p ∷ []) (deep_snoc a n) held (itself p) (sym (there_is first p (deep_snoc a n)) ∙ there))
      by false there = there

  -- where it was unfolded before
  pub as_before : is_unfolded u p ≡ true → IsUnfolded first ls p u
  as_before there = record {
    root = are.root;
    places = λ e d. with_one (is_unfolded u (e ∷ d)) (is_on_way ls (e ∷ d)) (is_prefix (e ∷ d) a) (eq_by_cmp path_cmp p (e ∷ d)) (are.places e d) (λ same. ap (is_unfolded u) (sym (tied_same p (e ∷ d) same)) ∙ there) ∙ ap (λ b. is_on_way ls (e ∷ d) || b) (sym (longer a n (e ∷ d)));
    links = are.links;
    entries = are.entries;
  }

  -- where it is unfolded now
  module _ (o : Opened) (v : Unfolded) (was : is_unfolded u p ≡ false) (of : IsOf o (deleted first p)) (root : get path_cmp v.places [] ≡ None) (at : (d : Path) → place_at v d ≡ cond (eq_by_cmp path_cmp p d) (Some o) (place_at u d)) where
    off_by : (p : Path) → 0 < length p → is_unfolded u p ≡ false → is_on_way ls p ≡ false
    off_by [] some h = absurd (omega arith)
    off_by (e ∷ d) some h = (or_parts (is_on_way ls (e ∷ d)) (is_prefix (e ∷ d) a) (sym (are.places e d) ∙ h)).0

    off : is_on_way ls p ≡ false
    off = off_by p (let long = length-append a (n ∷ []) in omega (arith, long)) was

    some_cond : (b : Bool) (x : Opened) (y : Option Opened) → is_some (cond b (Some x) y) ≡ cond b true (is_some y)
    some_cond true x y = refl
    some_cond false x y = refl

    there_by : (d : Path) (b : Bool) → eq_by_cmp path_cmp p d ≡ b → is_some (cond b (Some o) (place_at u d)) ≡ true
        → (option_and_then (λ x. x.link) (cond b (Some o) (place_at u d)) ≡ link_after ls d (deleted first d).link)
        × ((k : Name) → option_and_then (λ x. entry_at x k) (cond b (Some o) (place_at u d)) ≡ find_key name_cmp k (deleted first d).entries)
    there_by d true same h =
        let is = tied_same p d same in (
          of.link ∙ sym (untouched p p (prefix_self p) ls off (deleted first p).link) ∙ ap (λ d. link_after ls d (deleted first d).link) is,
          λ k. of.entries k ∙ ap (λ d. find_key name_cmp k (deleted first d).entries) is,
        )
    there_by d false other h = (are.links d h, λ k. are.entries d h k)

    there : (d : Path) → is_unfolded v d ≡ true → (link_in v d ≡ link_after ls d (deleted first d).link) × ((k : Name) → entry_in v d k ≡ find_key name_cmp k (deleted first d).entries)
    there d h =
        let both = there_by d (eq_by_cmp path_cmp p d) refl (ap is_some (sym (at d)) ∙ h) in
        (ap (option_and_then (λ x. x.link)) (at d) ∙ both.0, λ k. ap (option_and_then (λ x. entry_at x k)) (at d) ∙ both.1 k)

    pub one_more : IsUnfolded first ls p v
    one_more = record {
      root = root;
      places = λ e d. ap is_some (at (e ∷ d)) ∙ some_cond (eq_by_cmp path_cmp p (e ∷ d)) o (place_at u (e ∷ d)) ∙ with_new (is_unfolded u (e ∷ d)) (is_on_way ls (e ∷ d)) (is_prefix (e ∷ d) a) (eq_by_cmp path_cmp p (e ∷ d)) (are.places e d) ∙ ap (λ b. is_on_way ls (e ∷ d) || b) (sym (longer a n (e ∷ d)));
      links = λ d h. (there d h).0;
      entries = λ d h. (there d h).1;
    }

-- after an insertion
pub at_insert : (u v : Unfolded) (p : Path) (o : Opened) → 0 < length p → v.root ≡ u.root → ((q : Path) → get path_cmp v.places q ≡ cond (is_at (path_cmp p) q) (Some o) (get path_cmp u.places q)) → (d : Path) → place_at v d ≡ cond (eq_by_cmp path_cmp p d) (Some o) (place_at u d)
at_insert u v [] o some root places d = absurd (omega arith)
at_insert u v (e ∷ p) o some root places [] = ap (λ r. Some r) root
at_insert u v (e ∷ p) o some root places (k ∷ d) = places (k ∷ d)

-- ---- as the code goes

pub unfolded_deep : (u : Unfolded) (p : Path) → 0 < length p → is_unfolded u p ≡ is_some (get path_cmp u.places p)
unfolded_deep u [] some = absurd (omega arith)
unfolded_deep u (e ∷ p) some = refl

some_path : (a p : Path) (n : Name) → p ≡ a ++ n ∷ [] → 0 < length p
some_path a p n e = let long = ap length e ∙ length-append a (n ∷ []) in omega (arith, long)

pub not_root : (p : Path) → 0 < length p → is_at (path_cmp p) [] ≡ false
not_root [] some = absurd (omega arith)
not_root (e ∷ p) some = refl

module _ (first : Past) (ls : Links) (a : Path) (n : Name) (u : Unfolded) (p : Path) (is : p ≡ a ++ n ∷ []) (are : IsUnfolded first ls a u) where
  pub was_unfolded : is_some (get path_cmp u.places p) ≡ true → IsUnfolded first ls p u
  was_unfolded there = subst (λ p. IsUnfolded first ls p u) (sym is) (as_before first ls a n u are (ap (is_unfolded u) (sym is) ∙ unfolded_deep u p (some_path a p n is) ∙ there))

  pub led_to : (contents : Id → Option (List ℕ)) (id : Option Id) → AreHeldAt contents first (p ∷ []) → id ≡ entry_in u a n → IsLedTo contents id (deleted first p)
  led_to contents id held e = subst (λ p. IsLedTo contents id (deleted first p)) (sym is) (subst (λ id. IsLedTo contents id (deleted first (a ++ n ∷ []))) (sym e) (led first ls a n u are contents (subst (λ p. AreHeldAt contents first (p ∷ [])) is held)))

  pub now_unfolded : (o : Opened) (v : Unfolded) → is_some (get path_cmp u.places p) ≡ false → IsOf o (deleted first p) → v.root ≡ u.root
      → ((q : Path) → get path_cmp v.places q ≡ cond (is_at (path_cmp p) q) (Some o) (get path_cmp u.places q)) → IsUnfolded first ls p v
  now_unfolded o v was of root put =
      let some = some_path a p n is in
      subst (λ p. IsUnfolded first ls p v) (sym is)
      (one_more first ls a n u are o v (ap (is_unfolded u) (sym is) ∙ unfolded_deep u p (some_path a p n is) ∙ was) (subst (λ p. IsOf o (deleted first p)) is of) (put [] ∙ ap (λ b. cond b (Some o) (get path_cmp u.places [])) (not_root p some) ∙ are.root)
      (λ d. at_insert u v p o (some_path a p n is) root put d ∙ ap (λ p. cond (eq_by_cmp path_cmp p d) (Some o) (place_at u d)) is))

-- ---- answers

pub answer_is : {T E : Type 0} (r : Result T E) (P : T → Type 0) (Q : E → Type 0) (x : T) → r ≡ Ok x → MatchResult r P Q → P x
answer_is r P Q x is h = subst (λ r. MatchResult r P Q) is h

pub fault_is : {T E : Type 0} (r : Result T E) (P : T → Type 0) (Q : E → Type 0) (e : E) → r ≡ Err e → MatchResult r P Q → Q e
fault_is r P Q e is h = subst (λ r. MatchResult r P Q) is h
