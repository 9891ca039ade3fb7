-- The least clash as more changesets are looked at.
use Rattle.std.proofs.Common.{◌≡◌, ℕ, zero, suc, Bool, true, false, ◌+◌, ◌-◌, ◌*◌, ◌^◌, ◌<◌, ◌≤◌, ◌⊎◌, inl, inr, List, [], ◌∷◌, ◌++◌, take, map, length, refl, sym, ap, subst, ◌∙◌, arith, ⊎_elim, mul-add}
use Rattle.std.specs.Prelude.{Option, None, Some, Contains, slice_index_or, is_some, not}
use mathlib.Core.Bool.{true≢false}
use Rattle.std.proofs.lemmas.Bool.{cases_lt}
use Rattle.std.proofs.lemmas.List.{length-append, length-map, append-nil, append_assoc, map_more, take_all}
use Rattle.std.proofs.Math.Pow.{pow_mono}
use Rattle.std.proofs.lemmas.Grind.{pow_more, flat_map-append}
use Rattle.std.proofs.Math.Nat.{mul-le-mul_left}
use Rattle.bonsai.specs.declared.edit.Edit.{Edit}
use Rattle.std.proofs.lemmas.List.Elements.{Contains-append_left, Contains-append_right, Contains-append_cases}
use Rattle.byte_fields.proofs.Lists.{each_of}
use Rattle.changeset_model.specs.Path.{Path, comparable}
use Rattle.changeset_model.specs.Changeset.{Changeset}
use Rattle.history_model.specs.History.{Known}
use Rattle.changeset_store.specs.Store.{changeset_at}
use Rattle.changeset_store.specs.Fork.{IsAncestor, following_at}
use Rattle.path_conflict.specs.Best.{IsBest}
use Rattle.path_conflict.specs.declared.lesser.Met.{Met}
use Rattle.repo_machine.specs.Clashes.{edited_paths}
use Rattle.repo_machine.specs.Looked.{HasLooked}
use Rattle.ancestry.proofs.Powers.{twice}

-- ---- in any order

pub best_same : (outer xs ys : List Path) (m : Option Met) → ((r : Path) → Contains ys r → Contains xs r) → ((r : Path) → Contains xs r → Contains ys r) → IsBest outer xs m → IsBest outer ys m
best_same outer xs ys None back there h = λ l r in_left in_right. h l r in_left (back r in_right)
best_same outer xs ys (Some m) back there h = (
  h.0,
  record {
    in_left = h.1.in_left;
    in_right = there m.path.now h.1.in_right;
    clashes = h.1.clashes;
    least_left = λ l r in_left in_right. h.1.least_left l r in_left (back r in_right);
    least_right = λ r in_right. h.1.least_right r (back r in_right);
  },
)

turned : (xs ys : List Path) (r : Path) → Contains (xs ++ ys) r → Contains (ys ++ xs) r
turned xs ys r c = by (Contains-append_cases xs ys r c)
  where
    by : Contains xs r ⊎ Contains ys r → Contains (ys ++ xs) r
    by (inl first) = Contains-append_right ys xs r first
    by (inr then) = Contains-append_left ys xs r then

pub best_turned : (outer xs ys : List Path) (m : Option Met) → IsBest outer (xs ++ ys) m → IsBest outer (ys ++ xs) m
best_turned outer xs ys m h = best_same outer (xs ++ ys) (ys ++ xs) m (turned ys xs) (turned xs ys) h

-- ---- steps

-- a search takes three steps more than the size has digits, at most
pub few_steps : (before now size digits : ℕ) → before ≤ now → 2 ^ (now - before) ≤ 8 * (2 * size + 1) → size < 2 ^ digits → now ≤ before + (digits + 3)
few_steps before now size digits more few fits =
    ⊎_elim
    (λ less.
    let up = pow_mono {i = digits + 1 + 1 + 1 + 1} {j = now - before} (omega arith) in
    let sixteen = twice (digits + 1 + 1 + 1) in
    let eight = twice (digits + 1 + 1) in
    let four = twice (digits + 1) in
    let two = twice digits in
    absurd (omega arith))
    (λ enough. omega arith)
    (cases_lt (digits + 3) (now - before))

below_power : (n : ℕ) → n < 2 ^ n
below_power zero = omega arith
below_power (suc n) = let before = below_power n in omega (arith, pow_more 2 n)

-- nothing is compared with no path
pub none_taken : (before now size : ℕ) (ps : List Path) → before ≤ now → ((digits : ℕ) → size < 2 ^ digits → now ≤ before + (digits + 3) * length ps) → ps ≡ [] → now ≡ before
none_taken before now size ps more cost none =
    let few = subst (λ ps. now ≤ before + (size + 3) * length ps) none (cost size (below_power size)) in
    omega arith

further : (digits before now then a b : ℕ) → now ≤ before + digits * a → then ≤ now + digits * b → then ≤ before + digits * (a + b)
further digits before now then a b first second = omega (arith, mul-add digits a b)

-- ---- edits

pub one_edit_more : (outer : List Path) (edits : List Edit) (i : ℕ) (e : Edit) (m m' : Option Met) (seen : List Path) → i < length edits → e ≡ slice_index_or edits i e
    → IsBest outer (seen ++ map (λ e. e.path) (take i edits)) m → (IsBest outer (seen ++ map (λ e. e.path) (take i edits)) m → IsBest outer ((seen ++ map (λ e. e.path) (take i edits)) ++ e.path ∷ []) m')
    → IsBest outer (seen ++ map (λ e. e.path) (take (i + 1) edits)) m'
one_edit_more outer edits i e m m' seen less is best next =
    let paths : List Edit → List Path = λ es. map (λ e. e.path) es in
    subst (λ ps. IsBest outer ps m')
    (append_assoc seen (paths (take i edits)) (e.path ∷ []) ∙ ap (λ ps. seen ++ ps) (ap (λ (e : Edit). paths (take i edits) ++ e.path ∷ []) is ∙ sym (map_more (λ (e : Edit). e.path) edits i e less)))
    (next best)

pub all_edits : (outer : List Path) (edits : List Edit) (i : ℕ) (m : Option Met) (seen : List Path) → length edits ≤ i → IsBest outer (seen ++ map (λ e. e.path) (take i edits)) m → IsBest outer (seen ++ map (λ e. e.path) edits) m
all_edits outer edits i m seen past h = subst (λ es. IsBest outer (seen ++ map (λ e. e.path) es) m) (take_all i edits past) h

pub one_more : (digits before now then i : ℕ) → now ≤ before + digits * i → then ≤ now + digits → then ≤ before + digits * (i + 1)
one_more digits before now then i first second = further digits before now then i 1 first (omega arith)

-- ---- changesets, newest first

pub none_looked : (ks : List Known) (outer : List Path) (size ancestor last before : ℕ) → IsAncestor ks ancestor last → HasLooked ks outer size ancestor last last None before before
none_looked ks outer size ancestor last before is = record {
  ancestor_is = is;
  looked = [];
  whole = sym (append-nil (following_at ks ancestor last));
  best = λ l r in_left in_right. absurd (none_in r in_right);
  counted = omega arith;
  cost = λ digits fits. omega arith;
}
  where
    none_in : (r : Path) → Contains [] r → ⊥
    none_in r c = each_of (λ _. ⊥) [] r tt c

pub looked_further : (ks : List Known) (outer : List Path) (size ancestor last number earlier : ℕ) (least least' : Option Met) (before now then : ℕ) (edits : List Edit)
    → HasLooked ks outer size ancestor last number least before now → IsAncestor ks ancestor earlier → following_at ks ancestor number ≡ following_at ks ancestor earlier ++ changeset_at ks number ∷ []
    → map (λ e. e.path) edits ≡ map (λ e. e.0) (changeset_at ks number).changes
    → ((seen : List Path) → IsBest outer seen least → IsBest outer (seen ++ map (λ e. e.path) edits) least') → now ≤ then
    → ((digits : ℕ) → size < 2 ^ digits → then ≤ now + (digits + 3) * length edits)
    → HasLooked ks outer size ancestor last earlier least' before then
looked_further ks outer size ancestor last number earlier least least' before now then edits h up newest paths best more cost =
    let x = changeset_at ks number in
    record {
      ancestor_is = up;
      looked = x ∷ h.looked;
      whole = h.whole ∙ ap (λ cs. cs ++ h.looked) newest ∙ append_assoc (following_at ks ancestor earlier) (x ∷ []) h.looked;
      best = best_turned outer (edited_paths h.looked) (map (λ e. e.0) x.changes) least' (subst (λ ps. IsBest outer (edited_paths h.looked ++ ps) least') paths (best (edited_paths h.looked) h.best));
      counted = (let counted = h.counted in omega arith);
      cost = λ digits fits.
          let long : length (edited_paths (x ∷ h.looked)) ≡ length (edited_paths h.looked) + length edits =
          length-append (map (λ e. e.0) x.changes) (edited_paths h.looked) ∙ (let same = ap length paths ∙ refl in let same_long = length-map edits (λ (e : Edit). e.path) in omega arith) in
          subst (λ n. then ≤ before + (digits + 3) * n) (sym long) (further (digits + 3) before now then (length (edited_paths h.looked)) (length edits) (h.cost digits fits) (cost digits fits));
    }

-- ---- the end of a search

pub is_none_same : (o : Option Met) (b : Bool) → is_some o ≡ not b → b ≡ true → o ≡ None
is_none_same None b is none = refl
is_none_same (Some m) b is none = absurd (true≢false (is ∙ ap not none))

pub none_follow : (ks : List Known) (outer : List Path) (ancestor number : ℕ) → following_at ks ancestor number ≡ [] → IsBest outer (edited_paths (following_at ks ancestor number)) None
none_follow ks outer ancestor number none l r in_left in_right = absurd (each_of (λ _. ⊥) [] r tt (subst (λ cs. Contains (edited_paths cs) r) none in_right))

edited_both : (xs ys : List Changeset) → edited_paths (xs ++ ys) ≡ edited_paths xs ++ edited_paths ys
edited_both xs ys = flat_map-append (λ c. map (λ e. e.0) c.changes) xs ys

module _ (ks : List Known) (outer : List Path) (size ancestor last number : ℕ) (least : Option Met) (before now : ℕ) (h : HasLooked ks outer size ancestor last number least before now) where
  pub long_enough : length (edited_paths h.looked) ≤ length (edited_paths (following_at ks ancestor last))
  long_enough =
      let long = ap (λ cs. length (edited_paths cs)) h.whole ∙ ap length (edited_both (following_at ks ancestor number) h.looked) ∙ length-append (edited_paths (following_at ks ancestor number)) (edited_paths h.looked) in
      omega arith

  pub looked_cost : (digits : ℕ) → size < 2 ^ digits → now ≤ before + (digits + 3) * length (edited_paths (following_at ks ancestor last))
  looked_cost digits fits =
      let up = mul-le-mul_left (digits + 3) long_enough in
      let cost = h.cost digits fits in
      omega arith

  -- where the rest is known to have none
  pub none_left : least ≡ None → IsBest outer (edited_paths (following_at ks ancestor number)) None → IsBest outer (edited_paths (following_at ks ancestor last)) None
  none_left is none l r in_left in_right =
      by (Contains-append_cases (edited_paths (following_at ks ancestor number)) (edited_paths h.looked) r
      (subst (λ ps. Contains ps r) (ap edited_paths h.whole ∙ edited_both (following_at ks ancestor number) h.looked) in_right))
    where
      by : Contains (edited_paths (following_at ks ancestor number)) r ⊎ Contains (edited_paths h.looked) r → comparable l r ≡ false
      by (inl first) = none l r in_left first
      by (inr then) = (let best : IsBest outer (edited_paths h.looked) None = subst (IsBest outer (edited_paths h.looked)) is h.best in best l r in_left then)

  -- where nothing is left
  pub best_of_all : following_at ks ancestor number ≡ [] → IsBest outer (edited_paths (following_at ks ancestor last)) least
  best_of_all none = subst (λ cs. IsBest outer (edited_paths cs) least) (sym (h.whole ∙ ap (λ cs. cs ++ h.looked) none)) h.best
