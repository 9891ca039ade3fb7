-- What stands in lists by keys stands there still.
--     stays_at      where the list of one key is another
--     kept, kept_all      so a changeset that was entered is entered still
--     last_is      the last of a path's keys;  entered_in      what was entered under each
--     one_more, all_taken      what holds of the values of a list's members, one after another
use Rattle.std.proofs.Common.{◌≡◌, ℕ, ◌+◌, ◌-◌, ◌<◌, ◌≤◌, Bool, true, false, List, ◌∷◌, ◌++◌, [], map, take, length, get_or, refl, sym, subst, ◌∙◌, ap, arith}
use Rattle.std.specs.Prelude.{Contains, nat_eq, Result, Ok, Err, OnOk}
use Rattle.std.specs.List.{All}
use Rattle.std.proofs.lemmas.Bool.{eqb-true}
use Rattle.std.proofs.lemmas.List.Elements.{All-weaker, All-push}
use Rattle.std.proofs.lemmas.List.{map_more, take_all, get_or_default}
use Rattle.changeset_model.specs.Path.{Path, is_path}
use Rattle.touch_index.specs.declared.lists.NumberLists.{NumberLists}
use Rattle.touch_index.specs.Keys.{keys, last_key}
use Rattle.touch_index.specs.Lists.{numbers_at, KeepAll}
use Rattle.touch_index.specs.Entered.{IsEntered}
use Rattle.touch_index.proofs.PathKeys.{some_keys}

module _ (old new : NumberLists) (key : ℕ) (xs ys : List ℕ) (before : numbers_at old key ≡ xs) (after : numbers_at new key ≡ ys) (apart : (q : ℕ) → nat_eq key q ≡ false → numbers_at new q ≡ numbers_at old q) (more : (n : ℕ) → Contains xs n → Contains ys n) where
  stays_by : (q n : ℕ) (b : Bool) → nat_eq key q ≡ b → Contains (numbers_at old q) n → Contains (numbers_at new q) n
  stays_by q n false e inside = subst (λ ns. Contains ns n) (sym (apart q e)) inside
  stays_by q n true e inside =
      subst (λ q. Contains (numbers_at new q) n) (eqb-true key q e)
      (subst (λ ns. Contains ns n) (sym after) (more n (subst (λ ns. Contains ns n) (ap (numbers_at old) (sym (eqb-true key q e)) ∙ before) inside)))

  pub stays_at : KeepAll old new
  stays_at q n inside = stays_by q n (nat_eq key q) refl inside

pub kept : (at under at' under' : NumberLists) → KeepAll at at' → KeepAll under under' → (n : ℕ) (p : Path) → IsEntered at under n p → IsEntered at' under' n p
kept at under at' under' first then n p h = record {
  path = h.path;
  at_it = first (last_key p) n h.at_it;
  under_each = All-weaker (λ key. Contains (numbers_at under key) n) (λ key. Contains (numbers_at under' key) n) (λ key. then key n) (keys p) h.under_each;
}

pub kept_all : (at under at' under' : NumberLists) → KeepAll at at' → KeepAll under under' → (n : ℕ) (ps : List Path) → All (IsEntered at under n) ps → All (IsEntered at' under' n) ps
kept_all at under at' under' first then n ps h = All-weaker (IsEntered at under n) (IsEntered at' under' n) (kept at under at' under' first then n) ps h

-- ---- under each key

pub last_is : (xs : List ℕ) (n key : ℕ) (p : Path) → xs ≡ keys p → is_path p ≡ true → n ≡ length xs → key ≡ get_or xs (n - 1) key → key ≡ last_key p
last_is xs n key p are path long is =
    let some = some_keys p path in
    is ∙ (λ i. get_or (are i) ((long ∙ ap length are) i - 1) key) ∙ get_or_default (keys p) (length (keys p) - 1) key 0 (omega arith)

pub entered_in : (at under : NumberLists) (n : ℕ) (p : Path) (xs : List ℕ) → xs ≡ keys p → is_path p ≡ true → (read : List ℕ) → read ≡ xs → (i : ℕ) → length read ≤ i → All (λ key. Contains (numbers_at under key) n) (take i read)
    → (key : ℕ) → key ≡ last_key p → {E : Type 0} (r : Result (Unit {0}) E) → OnOk r (Contains (numbers_at at key) n) → OnOk r (IsEntered at under n p)
entered_in at under n p xs are path read same i past each key last (Err e) there = tt
entered_in at under n p xs are path read same i past each key last (Ok u) there = record {
  path = path;
  at_it = subst (λ key. Contains (numbers_at at key) n) last there;
  under_each = subst (All (λ key. Contains (numbers_at under key) n)) (take_all i read past ∙ same ∙ are) each;
}

-- ---- one after another

module _ {A B : Type 0} (f : A → B) (P : B → Type 0) (xs : List A) (i : ℕ) where
  pub one_more : (x : A) → i < length xs → x ≡ get_or xs i x → All P (map f (take i xs)) → P (f x) → All P (map f (take (i + 1) xs))
  one_more x below is before here = subst (All P) (ap (λ y. map f (take i xs) ++ f y ∷ []) is ∙ sym (map_more f xs i x below)) (All-push P (map f (take i xs)) (f x) before here)

  pub all_taken : length xs ≤ i → All P (map f (take i xs)) → All P (map f xs)
  all_taken past each = subst (λ xs. All P (map f xs)) (take_all i xs past) each
