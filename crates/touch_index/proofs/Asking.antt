-- What an index answers no for.
--     IsOut range above ns      none of these numbers is above this one and in the range
--     AreOut range above index ls      no changeset of such a number touches a path that clashes with one of these
--     one_out, all_out      these are asked of one after another
--     apart_from      where the lists of a path have none, it clashes with none that was entered
use Rattle.std.proofs.Common.{◌≡◌, ℕ, ◌+◌, ◌<◌, ◌≤◌, Bool, true, false, ◌||◌, ◌⊎◌, inl, inr, List, [], ◌∷◌, ◌++◌, take, length, get_or, refl, sym, ap, subst, ◌∙◌}
use Rattle.std.specs.Prelude.{Contains}
use Rattle.std.specs.List.{All}
use Rattle.std.proofs.lemmas.List.Elements.{All-contains, Contains-push_cases}
use Rattle.std.proofs.lemmas.List.{map_more, take_all}
use Rattle.std.specs.Borrow.{Bor}
use Rattle.changeset_model.specs.Path.{Path, is_path, is_prefix, comparable}
use Rattle.touch_index.specs.declared.lists.NumberLists.{NumberLists}
use Rattle.touch_index.specs.declared.index.TouchIndex.{TouchIndex}
use Rattle.touch_index.specs.Keys.{keys, last_key}
use Rattle.touch_index.specs.Lists.{numbers_at}
use Rattle.touch_index.specs.Entered.{IsEntered}
use Rattle.touch_index.specs.Index.{Has, paths_of}
use Rattle.touch_index.proofs.PathKeys.{has_last}

abbrev pub IsOut : (ℕ → Bool) → ℕ → List ℕ → Type 0
IsOut range above ns = (n : ℕ) → above < n → range n ≡ true → Contains ns n → ⊥

abbrev pub AreOut : (ℕ → Bool) → ℕ → TouchIndex → List Path → Type 0
AreOut range above index ls = (n : ℕ) (l r : Path) → above < n → range n ≡ true → Has index n r → Contains ls l → comparable l r ≡ false

neither : (a b : Bool) → (a ≡ true → ⊥) → (b ≡ true → ⊥) → (a || b) ≡ false
neither true b first then = absurd (first refl)
neither false true first then = absurd (then refl)
neither false false first then = refl

pub apart_from : (range : ℕ → Bool) (above : ℕ) (at under : NumberLists) (l : Path) → is_path l ≡ true → All (λ key. IsOut range above (numbers_at at key)) (keys l) → IsOut range above (numbers_at under (last_key l))
    → (n : ℕ) (r : Path) → above < n → range n ≡ true → IsEntered at under n r → comparable l r ≡ false
apart_from range above at under l path none_at none_under n r more inside h =
    neither (is_prefix l r) (is_prefix r l)
    (λ first. none_under n more inside (All-contains (λ key. Contains (numbers_at under key) n) (keys r) (last_key l) h.under_each (has_last l r path first)))
    (λ then. All-contains (λ key. IsOut range above (numbers_at at key)) (keys l) (last_key r) none_at (has_last r l h.path then) n more inside h.at_it)

module _ (range : ℕ → Bool) (above : ℕ) (index : TouchIndex) (ps : List (Bor Path)) (i : ℕ) where
  pub one_out : (p : Bor Path) → i < length ps → p ≡ get_or ps i p → AreOut range above index (paths_of (take i ps)) → ((n : ℕ) (r : Path) → above < n → range n ≡ true → Has index n r → comparable p.now r ≡ false) → AreOut range above index (paths_of (take (i + 1) ps))
  one_out p below is before here n l r more inside has there =
      let grows : paths_of (take (i + 1) ps) ≡ paths_of (take i ps) ++ p.now ∷ [] = map_more (λ (p : Bor Path). p.now) ps i p below ∙ ap (λ (q : Bor Path). paths_of (take i ps) ++ q.now ∷ []) (sym is) in
      by (Contains-push_cases (paths_of (take i ps)) p.now l (subst (λ ls. Contains ls l) grows there))
    where
      by : Contains (paths_of (take i ps)) l ⊎ (p.now ≡ l) → comparable l r ≡ false
      by (inl first) = before n l r more inside has first
      by (inr then) = subst (λ l. comparable l r ≡ false) then (here n r more inside has)

  pub all_out : length ps ≤ i → AreOut range above index (paths_of (take i ps)) → AreOut range above index (paths_of ps)
  all_out past each = subst (λ ps. AreOut range above index (paths_of ps)) (take_all i ps past) each
