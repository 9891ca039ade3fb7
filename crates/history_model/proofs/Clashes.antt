-- What the search for a clash finds is the least one, and where it finds none there is none.
use Rattle.std.proofs.Common.{ℕ, ◌+◌, ◌<◌, length, ◌≤◌, drop, slice_index_or, ◌≡◌, Bool, true, false, cond, List, [], ◌∷◌, map, refl, sym, ap, subst, ◌∙◌}
use Rattle.std.specs.Prelude.{Option, Some, None, find, Contains, option_map, unwrap_or}
use mathlib.Core.Bool.{true≢false}
use Rattle.std.specs.List.{AllByRecursion}
use Rattle.std.specs.Option.{option_or}
use Rattle.std.proofs.lemmas.List.Folds.{find-append}
use Rattle.std.proofs.lemmas.List.{drop_more, drop_all}
use Rattle.changeset_model.specs.Path.{Path, path_lt, comparable, IsRising}
use Rattle.history_model.specs.Pushrebase.{pairs, clash, IsLeastClash}
use Rattle.changeset_model.proofs.Rising.{path_lt_irreflexive, path_lt_asymmetric}
use Rattle.byte_fields.proofs.Lists.{weaker, each_of, contains_head, contains_tail}

-- ---- the first path that is comparable with one

abbrev NoLess : Path → Path → Path → Type 0
NoLess l x r = comparable l r ≡ true → path_lt r x ≡ false

record IsFirst (l : Path) (right : List Path) (x : Path) : Type 0 where
  in_right : Contains right x
  clashes : comparable l x ≡ true
  least : AllByRecursion (NoLess l x) right

pub same_some : {X : Type 0} (x y : X) → Some x ≡ Some y → x ≡ y
same_some x y e = ap (λ o. unwrap_or o x) e

pub not_both : (b : Bool) → b ≡ true → b ≡ false → ⊥
not_both b h g = true≢false (sym h ∙ g)

first_by : (l r : Path) (right : List Path) (x : Path) → AllByRecursion (λ q. path_lt r q ≡ true) right → (find (comparable l) right ≡ Some x → IsFirst l right x) → (b : Bool) → comparable l r ≡ b → cond b (Some r) (find (comparable l) right) ≡ Some x → IsFirst l (r ∷ right) x
first_by l r right x above later true h found =
    subst (IsFirst l (r ∷ right)) (same_some r x found) (record {
      in_right = contains_head r right;
      clashes = h;
      least = ((λ _. path_lt_irreflexive r), weaker _ (NoLess l r) (λ q lt _. path_lt_asymmetric r q lt) right above);
    })
first_by l r right x above later false h found =
    let first = later found in
    record {
      in_right = contains_tail r x right first.in_right;
      clashes = first.clashes;
      least = ((λ g. absurd (not_both (comparable l r) g h)), first.least);
    }

is_first : (l : Path) (right : List Path) (x : Path) → IsRising right → find (comparable l) right ≡ Some x → IsFirst l right x
is_first l [] x rising found = absurd (cc)
is_first l (r ∷ right) x rising found = first_by l r right x rising.0 (is_first l right x rising.1) (comparable l r) refl found

none_by : (l r : Path) (right : List Path) → (find (comparable l) right ≡ None → AllByRecursion (λ r. comparable l r ≡ false) right) → (b : Bool) → comparable l r ≡ b → cond b (Some r) (find (comparable l) right) ≡ None → AllByRecursion (λ r. comparable l r ≡ false) (r ∷ right)
none_by l r right later true h found = absurd (cc)
none_by l r right later false h found = (h, later found)

is_none : (l : Path) (right : List Path) → find (comparable l) right ≡ None → AllByRecursion (λ r. comparable l r ≡ false) right
is_none l [] found = tt
is_none l (r ∷ right) found = none_by l r right (is_none l right) (comparable l r) refl found

-- ---- the clash

find-pairs : (l : Path) (right : List Path) → find (λ (pair : Path × Path). comparable pair.0 pair.1) (map (λ r. (l, r)) right) ≡ option_map (λ r. (l, r)) (find (comparable l) right)
find-pairs l [] = refl
find-pairs l (r ∷ right) =
    elim (comparable l r) as (λ b. cond b (Some (l, r)) (find (λ (pair : Path × Path). comparable pair.0 pair.1) (map (λ r. (l, r)) right)) ≡ option_map (λ r. (l, r)) (cond b (Some r) (find (comparable l) right))) [
      | true ↦ refl
      | false ↦ find-pairs l right
    ]

clash-cons : (l : Path) (left right : List Path) → clash (l ∷ left) right ≡ option_or (option_map (λ r. (l, r)) (find (comparable l) right)) (clash left right)
clash-cons l left right =
    find-append (λ (pair : Path × Path). comparable pair.0 pair.1) (map (λ r. (l, r)) right) (pairs left right)
    ∙ ap (λ o. option_or o (clash left right)) (find-pairs l right)

-- no pair of this path is a clash with a lesser left path
abbrev NoLeft : List Path → Path → Path → Type 0
NoLeft right x l = AllByRecursion (λ r. comparable l r ≡ true → path_lt l x ≡ false) right

record IsLeast (left right : List Path) (pair : Path × Path) : Type 0 where
  in_left : Contains left pair.0
  first : IsFirst pair.0 right pair.1
  least_left : AllByRecursion (NoLeft right pair.0) left

all_of : {X : Type 0} (P : X → Type 0) → ((x : X) → P x) → (xs : List X) → AllByRecursion P xs
all_of P f [] = tt
all_of P f (x ∷ xs) = (f x, all_of P f xs)

abbrev Pair : Type 0
Pair = Path × Path

least_by : (l : Path) (left right : List Path) (pair : Pair) → IsRising right → AllByRecursion (λ q. path_lt l q ≡ true) left → (clash left right ≡ Some pair → IsLeast left right pair) → (o : Option Path) → find (comparable l) right ≡ o → option_or (option_map (λ r. (l, r)) o) (clash left right) ≡ Some pair → IsLeast (l ∷ left) right pair
least_by l left right pair rising above later (Some r) e found =
    subst (IsLeast (l ∷ left) right) (same_some {X = Pair} (l, r) pair found) (record {
      in_left = contains_head l left;
      first = is_first l right r rising e;
      least_left = (
        all_of _ (λ q _. path_lt_irreflexive l) right,
        weaker (λ q. path_lt l q ≡ true) (NoLeft right l) (λ q lt. all_of _ (λ r _. path_lt_asymmetric l q lt) right) left above,
      );
    })
least_by l left right pair rising above later None e found =
    let least = later found in
    record {
      in_left = contains_tail l pair.0 left least.in_left;
      first = least.first;
      least_left = (weaker (λ r. comparable l r ≡ false) _ (λ r no yes. absurd (not_both (comparable l r) yes no)) right (is_none l right e), least.least_left);
    }

least : (left right : List Path) (pair : Pair) → IsRising left → IsRising right → clash left right ≡ Some pair → IsLeast left right pair
least [] right pair rising_left rising found = absurd (cc)
least (l ∷ left) right pair rising_left rising found =
    least_by l left right pair rising rising_left.0 (least left right pair rising_left.1 rising) (find (comparable l) right) refl (sym (clash-cons l left right) ∙ found)

pub clash_is_least : (left right : List Path) (pair : Pair) → IsRising left → IsRising right → clash left right ≡ Some pair → IsLeastClash left right pair
clash_is_least left right pair rising_left rising found =
    let found_least = least left right pair rising_left rising found in
    record {
      in_left = found_least.in_left;
      in_right = found_least.first.in_right;
      clashes = found_least.first.clashes;
      least_left = λ l r in_left in_right. each_of (λ r. comparable l r ≡ true → path_lt l pair.0 ≡ false) right r (each_of (NoLeft right pair.0) left l found_least.least_left in_left) in_right;
      least_right = λ r in_right. each_of (NoLess pair.0 pair.1) right r found_least.first.least in_right;
    }

no_clash_by : (l : Path) (left right : List Path) → (clash left right ≡ None → AllByRecursion (λ l. AllByRecursion (λ r. comparable l r ≡ false) right) left) → (o : Option Path) → find (comparable l) right ≡ o → option_or (option_map (λ r. (l, r)) o) (clash left right) ≡ None → AllByRecursion (λ l. AllByRecursion (λ r. comparable l r ≡ false) right) (l ∷ left)
no_clash_by l left right later (Some r) e found = absurd (cc)
no_clash_by l left right later None e found = (is_none l right e, later found)

pub all_apart : (left right : List Path) → clash left right ≡ None → AllByRecursion (λ l. AllByRecursion (λ r. comparable l r ≡ false) right) left
all_apart [] right found = tt
all_apart (l ∷ left) right found = no_clash_by l left right (all_apart left right) (find (comparable l) right) refl (sym (clash-cons l left right) ∙ found)

pub no_clash : (left right : List Path) → clash left right ≡ None → (l r : Path) → Contains left l → Contains right r → comparable l r ≡ false
no_clash left right found l r in_left in_right =
    each_of (λ r. comparable l r ≡ false) right r (each_of (λ l. AllByRecursion (λ r. comparable l r ≡ false) right) left l (all_apart left right found) in_left) in_right

-- ---- from a place on

-- the clash of one left path with these right ones, or else this
abbrev pub clash_on : Path → List Path → Option (Path × Path) → Option (Path × Path)
clash_on l right rest = option_or (option_map (λ r. (l, r)) (find (comparable l) right)) rest

pub clash_at : (left right : List Path) (i : ℕ) → i < length left → clash (drop i left) right ≡ clash_on (slice_index_or left i []) right (clash (drop (i + 1) left) right)
clash_at left right i h = ap (λ ls. clash ls right) (drop_more left i [] h) ∙ clash-cons (slice_index_or left i []) (drop (i + 1) left) right

on_cons : (l r : Path) (right : List Path) (rest : Option (Path × Path)) → clash_on l (r ∷ right) rest ≡ cond (comparable l r) (Some (l, r)) (clash_on l right rest)
on_cons l r right rest =
    elim (comparable l r) as (λ b. option_or (option_map (λ r. (l, r)) (cond b (Some r) (find (comparable l) right))) rest ≡ cond b (Some (l, r)) (clash_on l right rest)) [ true ↦ refl | false ↦ refl ]

pub clash_on_at : (l : Path) (right : List Path) (rest : Option (Path × Path)) (j : ℕ) → j < length right → clash_on l (drop j right) rest ≡ cond (comparable l (slice_index_or right j [])) (Some (l, slice_index_or right j [])) (clash_on l (drop (j + 1) right) rest)
clash_on_at l right rest j h = ap (λ rs. clash_on l rs rest) (drop_more right j [] h) ∙ on_cons l (slice_index_or right j []) (drop (j + 1) right) rest

pub clash_on_end : (l : Path) (right : List Path) (rest : Option (Path × Path)) (j : ℕ) → length right ≤ j → clash_on l (drop j right) rest ≡ rest
clash_on_end l right rest j h = ap (λ rs. clash_on l rs rest) (drop_all j right h)

pub clash_end : (left right : List Path) (i : ℕ) → length left ≤ i → clash (drop i left) right ≡ None
clash_end left right i h = ap (λ ls. clash ls right) (drop_all i left h)
