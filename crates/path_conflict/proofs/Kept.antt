-- The outermost paths of a rising list, kept from its front on.
use Rattle.std.proofs.Common.{◌≡◌, ℕ, zero, suc, ◌+◌, ◌-◌, ◌<◌, ◌≤◌, ◌⊎◌, inl, inr, Bool, true, false, ◌&&◌, List, [], ◌∷◌, ◌++◌, length, take, refl, sym, ap, subst, ◌∙◌, arith}
use Rattle.std.specs.Prelude.{Option, None, Some, Contains, nat_lt, option_map, slice_index_or}
use Rattle.std.specs.List.{AllByRecursion}
use Rattle.std.specs.declared.cmp.Ordering.{Ordering}
use Rattle.std.specs.declared.cmp.Ordering.TheVariants.{Less, Equal, Greater}
use Rattle.std.specs.Ordering.{is_lt, ordering_reverse}
use Rattle.std.proofs.lemmas.Bool.{false_from_ne_true, lt-ltb, ltb-true}
use Rattle.std.proofs.lemmas.List.{take_more, take_all, length-append}
use Rattle.std.specs.Borrow.{Bor}
use Rattle.std.proofs.lemmas.List.Elements.{Contains-append_left, Contains-append_right, Contains-append_cases, Contains-get_or}
use Rattle.byte_fields.proofs.Lists.{each_of, all_push, both_parts, contains_head}
use Rattle.changeset_model.specs.Path.{Path, comparable, path_cmp, path_lt, rising, IsRising}
use Rattle.changeset_model.proofs.Paths.{path_cmp_total, path_cmp-IsAntisymmetric}
use Rattle.changeset_model.proofs.Rising.{path_lt_irreflexive, path_lt_asymmetric, path_lt-trans, Contains-rising, IsRising-rising}
use Rattle.history_model.specs.Pushrebase.{clash, IsLeastClash}
use Rattle.history_model.proofs.Clashes.{clash_is_least, no_clash}
use Rattle.path_conflict.specs.Places.{AreApart, paths_of}
use Rattle.path_conflict.specs.Best.{IsBest, pair_of}
use Rattle.path_conflict.specs.declared.lesser.Met.{Met}
use Rattle.path_conflict.proofs.Order.{apart_from_later, comparable_from_above}
use Rattle.path_conflict.proofs.Beside.{less_at, apart_at, less_or_same}
use Rattle.path_conflict.proofs.BestSoFar.{all_from}
use Rattle.history_model.proofs.Clashes.{not_both}

abbrev at : List Path → ℕ → Path
at ps i = slice_index_or ps i []

-- o clashes with all that l clashes with, and doesn't come after it
pub record StandsFor (l o : Path) : Type 0 where
  pub no_later : path_lt l o ≡ false
  pub clashes : (r : Path) → comparable l r ≡ true → comparable o r ≡ true

-- the paths kept of those that are done
pub record Keeps (kept done : List Path) : Type 0 where
  pub rises : IsRising kept
  pub apart : AreApart kept
  pub within : (o : Path) → Contains kept o → Contains done o
  pub few : length kept ≤ length done
  pub covers : (l : Path) → Contains done l → (o : Path) × Contains kept o × StandsFor l o

none_in : (x : Path) → Contains [] x → ⊥
none_in x c = each_of (λ _. ⊥) [] x tt c

pub keeps_none : Keeps [] []
keeps_none = record { rises = tt; apart = tt; within = λ o c. c; few = omega arith; covers = λ l c. absurd (none_in l c) }

rising_push : (ps : List Path) (x : Path) → IsRising ps → AllByRecursion (λ p. path_lt p x ≡ true) ps → IsRising (ps ++ x ∷ [])
rising_push [] x h low = (tt, tt)
rising_push (p ∷ ps) x h low = (all_push (λ q. path_lt p q ≡ true) ps x h.0 low.0, rising_push ps x h.1 low.1)

apart_push : (ps : List Path) (x : Path) → AreApart ps → AllByRecursion (λ p. comparable p x ≡ false) ps → AreApart (ps ++ x ∷ [])
apart_push [] x h apart = (tt, tt)
apart_push (p ∷ ps) x h apart = (all_push (λ q. comparable p q ≡ false) ps x h.0 apart.0, apart_push ps x h.1 apart.1)

all_below : (ps : List Path) (x : Path) → IsRising (ps ++ x ∷ []) → AllByRecursion (λ p. path_lt p x ≡ true) ps
all_below [] x h = tt
all_below (p ∷ ps) x h = ((both_parts (λ q. path_lt p q ≡ true) ps (x ∷ []) h.0).1.0, all_below ps x h.1)

old_or_new : (ps : List Path) (x r : Path) → Contains (ps ++ x ∷ []) r → Contains ps r ⊎ (r ≡ x)
old_or_new ps x r c = by (Contains-append_cases ps (x ∷ []) r c)
  where
    by : Contains ps r ⊎ Contains (x ∷ []) r → Contains ps r ⊎ (r ≡ x)
    by (inl old) = inl old
    by (inr new) = inr (each_of (λ q. q ≡ x) (x ∷ []) r (refl, tt) new)

module _ (kept done : List Path) (x : Path) (keeps : Keeps kept done) (rises : IsRising (done ++ x ∷ [])) where
  below : (o : Path) → Contains kept o → path_lt o x ≡ true
  below o c = each_of (λ p. path_lt p x ≡ true) done o (all_below done x rises) (keeps.within o c)

  covers_more : (all : List Path) → ((o : Path) → Contains kept o → Contains all o) → (o : Path) → Contains all o → StandsFor x o → (l : Path) → Contains (done ++ x ∷ []) l → (o : Path) × Contains all o × StandsFor l o
  covers_more all more o in_all stands l c = by (old_or_new done x l c)
    where
      by : Contains done l ⊎ (l ≡ x) → (o : Path) × Contains all o × StandsFor l o
      by (inl old) = let found = keeps.covers l old in (found.0, more found.0 found.1, found.2)
      by (inr same) = (o, in_all, subst (λ l. StandsFor l o) (sym same) stands)

  pub left_out : (0 < length kept) → comparable (at kept (length kept - 1)) x ≡ true → Keeps kept (done ++ x ∷ [])
  left_out some meets = record {
    rises = keeps.rises;
    apart = keeps.apart;
    within = λ o c. Contains-append_left done (x ∷ []) o (keeps.within o c);
    few = (let before = keeps.few in omega (arith, length-append done (x ∷ [])));
    covers = covers_more kept (λ o c. c) (at kept (length kept - 1)) last_in (record {
      no_later = path_lt_asymmetric (at kept (length kept - 1)) x (below (at kept (length kept - 1)) last_in);
      clashes = λ r h. comparable_from_above (at kept (length kept - 1)) x r meets (below (at kept (length kept - 1)) last_in) h;
    });
  }
    where
      last_in : Contains kept (at kept (length kept - 1))
      last_in = Contains-get_or kept (length kept - 1) [] (omega arith)

  pub put_in : (0 < length kept → comparable (at kept (length kept - 1)) x ≡ false) → Keeps (kept ++ x ∷ []) (done ++ x ∷ [])
  put_in last = record {
    rises = rising_push kept x keeps.rises (all_from (λ p. path_lt p x ≡ true) kept (λ i less. below (at kept i) (Contains-get_or kept i [] less)));
    apart = apart_push kept x keeps.apart (all_from (λ p. comparable p x ≡ false) kept apart_here);
    within = in_more;
    few = (let before = keeps.few in omega (arith, length-append done (x ∷ []), length-append kept (x ∷ [])));
    covers = covers_more (kept ++ x ∷ []) (λ o c. Contains-append_left kept (x ∷ []) o c) x (Contains-append_right kept (x ∷ []) x (contains_head x [])) (record { no_later = path_lt_irreflexive x; clashes = λ r h. h });
  }
    where
      in_more : (o : Path) → Contains (kept ++ x ∷ []) o → Contains (done ++ x ∷ []) o
      in_more o c = by (old_or_new kept x o c)
        where
          by : Contains kept o ⊎ (o ≡ x) → Contains (done ++ x ∷ []) o
          by (inl old) = Contains-append_left done (x ∷ []) o (keeps.within o old)
          by (inr same) = subst (Contains (done ++ x ∷ [])) (sym same) (Contains-append_right done (x ∷ []) x (contains_head x []))

      apart_here : (i : ℕ) → i < length kept → comparable (at kept i) x ≡ false
      apart_here i less = by (less_or_same i (length kept - 1) (omega arith))
        where
          by : (i < length kept - 1) ⊎ (i ≡ length kept - 1) → comparable (at kept i) x ≡ false
          by (inl under) =
              apart_from_later (at kept i) (at kept (length kept - 1)) x (apart_at kept i (length kept - 1) under (omega arith) keeps.apart) (less_at kept i (length kept - 1) under (omega arith) keeps.rises)
              (below (at kept (length kept - 1)) (Contains-get_or kept (length kept - 1) [] (omega arith)))
          by (inr same) = ap (λ k. comparable (at kept k) x) same ∙ last (omega arith)

-- ---- one more path of a list

pub path_at : (ps : List (Bor Path)) (i : ℕ) (p : Bor Path) → i < length ps → p ≡ slice_index_or ps i p → slice_index_or (paths_of ps) i [] ≡ p.now
path_at [] i p less is = absurd (omega arith)
path_at (q ∷ ps) zero p less is = ap (λ p. p.now) (sym is)
path_at (q ∷ ps) (suc i) p less is = path_at ps i p (omega arith) is

pub paths_push : (ps : List (Bor Path)) (p : Bor Path) → paths_of (ps ++ p ∷ []) ≡ paths_of ps ++ p.now ∷ []
paths_push [] p = refl
paths_push (q ∷ ps) p = ap (λ qs. q.now ∷ qs) (paths_push ps p)

pub told : (slice items : List (Bor Path)) (x : Path) (t : Bool) → slice ≡ items → t ≡ (nat_lt 0 (length (paths_of slice)) && comparable (at (paths_of slice) (length (paths_of slice) - 1)) x) → t ≡ (nat_lt 0 (length (paths_of items)) && comparable (at (paths_of items) (length (paths_of items) - 1)) x)
told slice items x t same h = h ∙ ap (λ ps. nat_lt 0 (length (paths_of ps)) && comparable (at (paths_of ps) (length (paths_of ps) - 1)) x) same

all_take : (P : Path → Type 0) (ps : List Path) (n : ℕ) → AllByRecursion P ps → AllByRecursion P (take n ps)
all_take P ps zero h = tt
all_take P [] (suc n) h = tt
all_take P (p ∷ ps) (suc n) h = (h.0, all_take P ps n h.1)

rising_take : (ps : List Path) (n : ℕ) → IsRising ps → IsRising (take n ps)
rising_take ps zero h = tt
rising_take [] (suc n) h = tt
rising_take (p ∷ ps) (suc n) h = (all_take (λ q. path_lt p q ≡ true) ps n h.0, rising_take ps n h.1)

both_true : (a b : Bool) → (a && b) ≡ true → (a ≡ true) × (b ≡ true)
both_true true b h = (refl, h)
both_true false b h = absurd (cc)

second_false : (a b : Bool) → (a && b) ≡ false → a ≡ true → b ≡ false
second_false true b h first = h
second_false false b h first = absurd (cc)

-- t tells whether the path is comparable with the last of those kept
module _ (kept ps : List Path) (i : ℕ) (x : Path) (less : i < length ps) (is : at ps i ≡ x) (rises : IsRising ps) (keeps : Keeps kept (take i ps)) (t : Bool) (tells : t ≡ (nat_lt 0 (length kept) && comparable (at kept (length kept - 1)) x)) where
  more : take (i + 1) ps ≡ take i ps ++ x ∷ []
  more = take_more ps i [] less ∙ ap (λ p. take i ps ++ p ∷ []) is

  rises_so_far : IsRising (take i ps ++ x ∷ [])
  rises_so_far = subst IsRising more (rising_take ps (i + 1) rises)

  pub next_left_out : t ≡ true → Keeps kept (take (i + 1) ps)
  next_left_out meets =
      let parts = both_true (nat_lt 0 (length kept)) (comparable (at kept (length kept - 1)) x) (sym tells ∙ meets) in
      subst (Keeps kept) (sym more) (left_out kept (take i ps) x keeps rises_so_far (ltb-true 0 (length kept) parts.0) parts.1)

  pub next_put_in : t ≡ false → Keeps (kept ++ x ∷ []) (take (i + 1) ps)
  next_put_in apart =
      subst (Keeps (kept ++ x ∷ [])) (sym more)
      (put_in kept (take i ps) x keeps rises_so_far (λ some. second_false (nat_lt 0 (length kept)) (comparable (at kept (length kept - 1)) x) (sym tells ∙ apart) (lt-ltb 0 (length kept) some)))

pub kept_all : (kept ps : List Path) (i : ℕ) → length ps ≤ i → Keeps kept (take i ps) → Keeps kept ps
kept_all kept ps i past keeps = subst (Keeps kept) (take_all i ps past) keeps

-- ---- the least clash is determined

equal_by : (p q : Path) (o : Ordering) → path_cmp p q ≡ o → path_lt p q ≡ false → path_lt q p ≡ false → p ≡ q
equal_by p q Less e not_less not_more = absurd (not_both (path_lt p q) (ap is_lt e) not_less)
equal_by p q Equal e not_less not_more = path_cmp-IsAntisymmetric p q e
equal_by p q Greater e not_less not_more = absurd (not_both (path_lt q p) (ap is_lt (path_cmp_total.antisymm q p ∙ ap ordering_reverse e)) not_more)

equal : (p q : Path) → path_lt p q ≡ false → path_lt q p ≡ false → p ≡ q
equal p q = equal_by p q (path_cmp p q) refl

-- where o doesn't come after l, and not before k, l doesn't come before k
no_sooner_by : (l o k : Path) (b : Bool) → path_lt o l ≡ b → path_lt l o ≡ false → path_lt o k ≡ false → path_lt l k ≡ false
no_sooner_by l o k true e no_later not_less = false_from_ne_true (path_lt l k) (λ h. not_both (path_lt o k) (path_lt-trans o l k e h) not_less)
no_sooner_by l o k false e no_later not_less = ap (λ p. path_lt p k) (equal l o no_later e) ∙ not_less

module _ (left right : List Path) (pair : Path × Path) (left_rises : IsRising left) (right_rises : IsRising right) (least : IsLeastClash left right pair) where
  only_by : (o : Option (Path × Path)) → clash left right ≡ o → clash left right ≡ Some pair
  only_by None e = absurd (not_both (comparable pair.0 pair.1) least.clashes (no_clash left right e pair.0 pair.1 least.in_left least.in_right))
  only_by (Some q) e =
      let other = clash_is_least left right q left_rises right_rises e in
      let first : q.0 ≡ pair.0 = equal q.0 pair.0 (least.least_left q.0 q.1 other.in_left other.in_right other.clashes) (other.least_left pair.0 pair.1 least.in_left least.in_right least.clashes) in
      let second : q.1 ≡ pair.1 =
      equal q.1 pair.1 (least.least_right q.1 other.in_right (ap (λ p. comparable p q.1) (sym first) ∙ other.clashes)) (other.least_right pair.1 least.in_right (ap (λ p. comparable p pair.1) first ∙ least.clashes)) in
      e ∙ (λ i. Some (first i, second i))

  pub only_clash : clash left right ≡ Some pair
  only_clash = only_by (clash left right) refl

-- ---- the paths kept clash as all do

module _ (outer left seen : List Path) (rises : IsRising left) (keeps : Keeps outer left) where
  none_by : (o : Option (Path × Path)) → clash left (rising seen) ≡ o → IsBest outer seen None → clash left (rising seen) ≡ None
  none_by None e none = e
  none_by (Some q) e none =
      let other = clash_is_least left (rising seen) q rises (IsRising-rising seen) e in
      let found = keeps.covers q.0 other.in_left in
      absurd (not_both (comparable found.0 q.1) (found.2.clashes q.1 other.clashes) (none found.0 q.1 found.1 ((Contains-rising seen q.1).0 other.in_right)))

  pub same_clash : (m : Option Met) → IsBest outer seen m → clash left (rising seen) ≡ option_map (pair_of outer) m
  same_clash None best = none_by (clash left (rising seen)) refl best
  same_clash (Some m) best =
      only_clash left (rising seen) (pair_of outer m) rises (IsRising-rising seen) (record {
        in_left = keeps.within (at outer m.place) best.1.in_left;
        in_right = (Contains-rising seen m.path.now).1 best.1.in_right;
        clashes = best.1.clashes;
        least_left = λ l r in_left in_right h.
            let found = keeps.covers l in_left in
            no_sooner_by l found.0 (at outer m.place) (path_lt found.0 l) refl found.2.no_later (best.1.least_left found.0 r found.1 ((Contains-rising seen r).0 in_right) (found.2.clashes r h));
        least_right = λ r in_right h. best.1.least_right r ((Contains-rising seen r).0 in_right) h;
      })
