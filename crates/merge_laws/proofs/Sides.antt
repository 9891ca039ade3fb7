-- What is at a path directly in a directory after a changeset with two parents, and under it.
use Rattle.std.proofs.Common.{◌≡◌, ◌⊎◌, inl, inr, Bool, true, false, cond, ◌||◌, [], ◌∷◌, length, refl, sym, ap, ◌∙◌}
use Rattle.std.specs.Prelude.{Option, Some, None, nat_lt, ◌==◌}
use mathlib.Core.Bool.{true≢false}
use Rattle.std.specs.List.{list_any}
use Rattle.std.specs.Option.{option_or}
use Rattle.std.proofs.lemmas.Bool.{and_from, or_parts, or_left, or_right, ltb-false, false_from_ne_true}
use Rattle.changeset_model.specs.Path.{Path, path_eq, is_prefix, is_strict_prefix, comparable}
use Rattle.changeset_model.specs.Changeset.{File, FileChange, Set, Delete, Changeset, set_at}
use Rattle.history_model.specs.Tree.{decides_at, decides, file_at, is_dir, below}
use Rattle.history_model.proofs.Landings.{prefix_self}
use Rattle.manifest_model.proofs.Derivations.{or_case as or_either}
use Rattle.manifest_laws.specs.Changes.{covers, is_covered}
use Rattle.manifest_laws.proofs.Changes.{prefix_trans, prefixes_compare, equal_prefix, same_below}
use Rattle.manifest_laws.proofs.Flat.{is_strict_or_same, prefix_short, set_decides, unset_under, strict_parts, strict_then}
use Rattle.manifest_laws.proofs.Folded.{not_under_itself}
use Rattle.manifest_laws.proofs.Lists.{none_some, true_and_false}
use Rattle.manifest_laws.proofs.Reach.{Edits, sets_under, set_found, uncovered}
use Rattle.manifest_laws.proofs.Steps.{both_ways}
use Rattle.merge_laws.proofs.Trees.{Files, Merges, alone, dir_from, file_under}

-- ---- where no edit lies under a directory, and none covers it, nothing under it is decided

uncovered_at : (d p r : Path) (change : FileChange) → is_strict_prefix d p ≡ true → is_strict_prefix d r ≡ false → covers (r, change) d ≡ false → decides_at change r p ≡ false
uncovered_at d p r (Set f copied) under outside h =
    false_from_ne_true (comparable r p) (λ g. or_either (is_prefix r p) (is_prefix p r)
    (λ k. or_either (is_prefix r d) (is_prefix d r)
    (λ l. true_and_false (is_prefix r d) l h)
    (λ l. longer l (nat_lt (length d) (length r)) refl)
    (prefixes_compare d r p (strict_parts d p under).0 k))
    (λ k. true_and_false (is_strict_prefix d r) (strict_then d p r under k) outside) g)
  where
    longer : is_prefix d r ≡ true → (b : Bool) → nat_lt (length d) (length r) ≡ b → ⊥
    longer l true e = true_and_false (is_strict_prefix d r) (and_from (is_prefix d r) (nat_lt (length d) (length r)) l e) outside
    longer l false e = true_and_false (is_prefix r d) (prefix_short d r l (ltb-false (length d) (length r) e)) h
uncovered_at d p r Delete under outside h = false_from_ne_true (path_eq r p) (λ g. true_and_false (is_strict_prefix d r) (strict_then d p r under (equal_prefix r p g)) outside)

pub none_covers : (d p : Path) (es : Edits) → is_strict_prefix d p ≡ true → list_any (λ e. is_strict_prefix d e.0) es ≡ false → list_any (λ e. covers e d) es ≡ false → list_any (λ e. decides_at e.1 e.0 p) es ≡ false
none_covers d p [] under outside h = refl
none_covers d p (e ∷ es) under outside h =
    let out = or_parts (is_strict_prefix d e.0) (list_any (λ e. is_strict_prefix d e.0) es) outside in
    let no = or_parts (covers e d) (list_any (λ e. covers e d) es) h in
    (λ i. uncovered_at d p e.0 e.1 under out.0 no.0 i || none_covers d p es under out.1 no.1 i)

covered_at : (d q r : Path) (change : FileChange) → is_prefix d q ≡ true → covers (r, change) d ≡ true → decides_at change r q ≡ true
covered_at d q r (Set f copied) inside h = or_left (is_prefix r q) (is_prefix q r) (prefix_trans r d q h inside)
covered_at d q r Delete inside h = absurd (true≢false (sym h))

pub some_covers : (d q : Path) (es : Edits) → is_prefix d q ≡ true → list_any (λ e. covers e d) es ≡ true → list_any (λ e. decides_at e.1 e.0 q) es ≡ true
some_covers d q [] inside h = absurd (true≢false (sym h))
some_covers d q (e ∷ es) inside h =
    or_either (covers e d) (list_any (λ e. covers e d) es)
    (λ g. or_left (decides_at e.1 e.0 q) (list_any (λ e. decides_at e.1 e.0 q) es) (covered_at d q e.0 e.1 inside g))
    (λ g. or_right (decides_at e.1 e.0 q) (list_any (λ e. decides_at e.1 e.0 q) es) (some_covers d q es inside g)) h

-- ---- at a path

either_none : {X : Type 0} (a b : Option X) → a ≡ None → option_or a b ≡ b
either_none a b e = ap (λ o. option_or o b) e

pub none_right : {X : Type 0} (a b : Option X) → b ≡ None → option_or a b ≡ a
none_right None b e = e
none_right (Some x) b e = refl

pub either_of : (a b : Option File) (f : File) → option_or a b ≡ Some f → (a ≡ Some f) ⊎ (b ≡ Some f)
either_of None b f e = inr e
either_of (Some x) b f e = inl e

module _ (c : Changeset) (now left right : Files) (m : Merges c now left right) where
  pub undecided_at : (p : Path) → decides c p ≡ false → file_at now p ≡ option_or (file_at left p) (file_at right p)
  undecided_at p h = m.at p ∙ ap (λ b. cond b (set_at c p) (option_or (file_at left p) (file_at right p))) h

  pub decided_at : (p : Path) → decides c p ≡ true → file_at now p ≡ set_at c p
  decided_at p h = m.at p ∙ ap (λ b. cond b (set_at c p) (option_or (file_at left p) (file_at right p))) h

  pub set_is : (p : Path) (f : File) → set_at c p ≡ Some f → file_at now p ≡ Some f
  set_is p f h = decided_at p (set_decides c p p f h (or_left (is_prefix p p) (is_prefix p p) (prefix_self p))) ∙ h

  module _ (p : Path) (deep : (length p == 0) ≡ false) where
    abbrev pub IsFree : Type 0
    IsFree = (q : Path) → is_strict_prefix p q ≡ true → decides c q ≡ false

    pub free : list_any (λ e. is_strict_prefix p e.0) c.changes ≡ false → is_covered c p ≡ false → IsFree
    free outside uncovered q under = none_covers p q c.changes under outside uncovered

    -- where no file is under it afterwards, none is set there
    pub none_set : is_dir now p ≡ false → list_any (sets_under p) c.changes ≡ false
    none_set none = false_from_ne_true (list_any (sets_under p) c.changes) (λ h. (
        let found = set_found p c.changes m.edits h in
        true_and_false (is_dir now p) (dir_from now p found.0 found.1 found.2 (set_is found.0 found.1 found.3)) none))

    pub now_alone : is_dir now p ≡ true → file_at now p ≡ None
    now_alone dir = alone now m.now_flat p deep dir

    pub left_alone : is_dir left p ≡ true → file_at left p ≡ None
    left_alone dir = alone left m.left_flat p deep dir

    pub right_alone : is_dir right p ≡ true → file_at right p ≡ None
    right_alone dir = alone right m.right_flat p deep dir

    -- where a file is set at it or above it and no edit lies under it, nothing is under it
    pub no_dir_covered : list_any (λ e. is_strict_prefix p e.0) c.changes ≡ false → is_covered c p ≡ true → is_dir now p ≡ false
    no_dir_covered outside covered = false_from_ne_true (is_dir now p) (λ dir. (
        let found = file_under now p deep dir in
        none_some found.1 (sym (unset_under c p found.0 outside found.2) ∙ sym (decided_at found.0 (some_covers p found.0 c.changes (strict_parts p found.0 found.2).0 covered)) ∙ found.3)))

    -- ---- where all under it is left

    module _ (left_free : IsFree) where
      from_left : is_dir left p ≡ true → is_dir now p ≡ true
      from_left dir = let found = file_under left p deep dir in
          dir_from now p found.0 found.1 found.2 (undecided_at found.0 (left_free found.0 found.2) ∙ ap (λ o. option_or o (file_at right found.0)) found.3)

      from_right : is_dir right p ≡ true → is_dir now p ≡ true
      from_right dir = let found = file_under right p deep dir in by found.0 found.1 found.2 found.3 (file_at left found.0) refl
        where
          by : (q : Path) (f : File) → is_strict_prefix p q ≡ true → file_at right q ≡ Some f → (o : Option File) → file_at left q ≡ o → is_dir now p ≡ true
          by q f under there None e = dir_from now p q f under (undecided_at q (left_free q under) ∙ ap (λ o. option_or o (file_at right q)) e ∙ there)
          by q f under there (Some g) e = dir_from now p q g under (undecided_at q (left_free q under) ∙ ap (λ o. option_or o (file_at right q)) e)

      pub dir_either : is_dir now p ≡ (is_dir left p || is_dir right p)
      dir_either = both_ways (is_dir now p) (is_dir left p || is_dir right p) there back
        where
          there : is_dir now p ≡ true → (is_dir left p || is_dir right p) ≡ true
          there dir =
              let found = file_under now p deep dir in
              by found.0 found.1 found.2 (either_of (file_at left found.0) (file_at right found.0) found.1 (sym (undecided_at found.0 (left_free found.0 found.2)) ∙ found.3))
            where
              by : (q : Path) (f : File) → is_strict_prefix p q ≡ true → (file_at left q ≡ Some f) ⊎ (file_at right q ≡ Some f) → (is_dir left p || is_dir right p) ≡ true
              by q f under (inl h) = ap (λ b. b || is_dir right p) (dir_from left p q f under h)
              by q f under (inr h) = or_right (is_dir left p) (is_dir right p) (dir_from right p q f under h)

          back : (is_dir left p || is_dir right p) ≡ true → is_dir now p ≡ true
          back h = or_either (is_dir left p) (is_dir right p) from_left from_right h

      nothing_under : (fs : Files) (q : Path) → is_dir fs p ≡ false → is_strict_prefix p q ≡ true → file_at fs q ≡ None
      nothing_under fs q none under = by (file_at fs q) refl
        where
          by : (o : Option File) → file_at fs q ≡ o → file_at fs q ≡ None
          by None e = e
          by (Some f) e = true_and_false (is_dir fs p) (dir_from fs p q f under e) none

      at_or_under : (these those : Files) → (file_at these p ≡ file_at those p) → ((q : Path) → is_strict_prefix p q ≡ true → file_at these q ≡ file_at those q) → (q : Path) → is_prefix p q ≡ true → file_at these q ≡ file_at those q
      at_or_under these those here under q inside = by (is_strict_or_same p q inside)
        where
          by : (q ≡ p) ⊎ (is_strict_prefix p q ≡ true) → file_at these q ≡ file_at those q
          by (inl e) = ap (file_at these) e ∙ here ∙ ap (file_at those) (sym e)
          by (inr h) = under q h

      -- the files of a directory that one side alone has, or that both have alike
      pub left_only : is_dir left p ≡ true → is_dir right p ≡ false → below p now ≡ below p left
      left_only dir none = same_below now left p m.now_rises m.left_rises
          (at_or_under now left (now_alone (from_left dir) ∙ sym (left_alone dir)) (λ q under. undecided_at q (left_free q under) ∙ none_right (file_at left q) (file_at right q) (nothing_under right q none under)))

      pub right_only : is_dir left p ≡ false → is_dir right p ≡ true → below p now ≡ below p right
      right_only none dir = same_below now right p m.now_rises m.right_rises
          (at_or_under now right (now_alone (from_right dir) ∙ sym (right_alone dir)) (λ q under. undecided_at q (left_free q under) ∙ either_none (file_at left q) (file_at right q) (nothing_under left q none under)))

      pub both_alike : is_dir left p ≡ true → ((q : Path) → is_strict_prefix p q ≡ true → file_at left q ≡ file_at right q) → below p now ≡ below p left
      both_alike dir same = same_below now left p m.now_rises m.left_rises
          (at_or_under now left (now_alone (from_left dir) ∙ sym (left_alone dir)) (λ q under. undecided_at q (left_free q under) ∙ ap (option_or (file_at left q)) (sym (same q under)) ∙ itself (file_at left q)))
        where
          itself : (o : Option File) → option_or o o ≡ o
          itself None = refl
          itself (Some f) = refl

      -- a file that is left on one side doesn't stand above what is left of the other
      pub left_above : decides c p ≡ false → (f : File) → file_at left p ≡ Some f → is_dir right p ≡ false
      left_above alone f here = false_from_ne_true (is_dir right p) (λ dir. (
          let found = file_under right p deep dir in
          let same : p ≡ found.0 = m.none_above p found.0 f found.1 here found.3 alone (left_free found.0 found.2) (or_left (is_prefix p found.0) (is_prefix found.0 p) (strict_parts p found.0 found.2).0) in
          true_and_false (is_strict_prefix p p) (ap (is_strict_prefix p) same ∙ found.2) (not_under_itself p)))

      pub right_above : decides c p ≡ false → (f : File) → file_at right p ≡ Some f → is_dir left p ≡ false
      right_above alone f here = false_from_ne_true (is_dir left p) (λ dir. (
          let found = file_under left p deep dir in
          let same : found.0 ≡ p = m.none_above found.0 p found.1 f found.3 here (left_free found.0 found.2) alone (or_right (is_prefix found.0 p) (is_prefix p found.0) (strict_parts p found.0 found.2).0) in
          true_and_false (is_strict_prefix p p) (ap (is_strict_prefix p) (sym same) ∙ found.2) (not_under_itself p)))
