-- A file of one side against files under it of the other.
use Rattle.std.proofs.Common.{◌≡◌, ◌⊎◌, inl, inr, Bool, true, false, cond, not, ◌&&◌, Option, Some, None, List, refl, sym, ap, ◌∙◌}
use mathlib.Core.Bool.{true≢false}
use Rattle.std.specs.FinMap.{is_sorted}
use Rattle.std.proofs.lemmas.Bool.{and_parts, false_from_ne_true}
use Rattle.changeset_model.specs.Path.{Path, path_cmp, path_eq, is_prefix, is_strict_prefix, comparable}
use Rattle.changeset_model.specs.Changeset.{File, Changeset}
use Rattle.history_model.specs.Tree.{decides, file_at}
use Rattle.history_model.specs.Merge.{file_eq}
use Rattle.history_model.proofs.Clashes.{not_both as clash}
use Rattle.manifest_laws.specs.Summaries.{IsFlat}
use Rattle.manifest_laws.proofs.Changes.{prefixes_compare}
use Rattle.manifest_laws.proofs.Flat.{is_strict_or_same, strict_then}
use Rattle.manifest_laws.proofs.Folded.{not_under_itself}
use Rattle.tree_fold.proofs.Files.{same_path}
use Rattle.merge_tree.specs.Unresolved.{IsUnresolved}
use Rattle.merge_tree.proofs.Flatness.{either_true, strict_near}
use Rattle.merge_tree.proofs.Found.{file_there, there_of}

abbrev Files : Type 0
Files = List (Path × File)

apart : (p q : Path) → is_strict_prefix p q ≡ true → path_eq p q ≡ false
apart p q under = false_from_ne_true (path_eq p q) (λ same. clash (is_strict_prefix p p) (ap (is_strict_prefix p) (same_path p q same) ∙ under) (not_under_itself p))

pub stands_above : (c : Changeset) (left right : Files) (p q : Path) (f g : File) → file_at left p ≡ Some f → file_at right q ≡ Some g → is_strict_prefix p q ≡ true → decides c p ≡ false → decides c q ≡ false → IsUnresolved c left right p
stands_above c left right p q f g here there under alone far = inl (record {
  file = f;
  there = there_of left p f here;
  is_left = alone;
  other = (q, g);
  other_there = there_of right q g there;
  stands = (λ i. cond (apart p q under i) (not (file_eq f g)) (strict_near p q under i && not (far i)));
})

gone : (fs : Files) (p q : Path) (f g : File) → IsFlat fs → file_at fs p ≡ Some f → file_at fs q ≡ Some g → is_strict_prefix p q ≡ true → ⊥
gone fs p q f g flat here there under = by (file_at fs q) there (flat p q f under here)
  where
    by : (o : Option File) → o ≡ Some g → o ≡ None → ⊥
    by None h k = absurd cc
    by (Some x) h k = absurd cc

left_free : (b : Bool) → not b ≡ true → b ≡ false
left_free true h = absurd (true≢false (sym h))
left_free false h = refl

-- of two paths above one, with files of one flat tree, both are one
same_above : (c : Changeset) (fs : Files) (p q r : Path) (f g : File) → IsFlat fs → file_at fs p ≡ Some f → file_at fs r ≡ Some g → is_strict_prefix p q ≡ true → comparable q r ≡ true → decides c r ≡ false → decides c p ≡ false
same_above c fs p q r f g flat here there under near free = by (either_true (is_prefix q r) (is_prefix r q) near)
  where
    one : (r ≡ p) ⊎ (is_strict_prefix p r ≡ true) → decides c p ≡ false
    one (inl same) = ap (decides c) (sym same) ∙ free
    one (inr above) = absurd (gone fs p r f g flat here there above)

    two : (p ≡ r) ⊎ (is_strict_prefix r p ≡ true) → decides c p ≡ false
    two (inl same) = ap (decides c) same ∙ free
    two (inr above) = absurd (gone fs r p g f flat there here above)

    either : (is_prefix r p ≡ true) ⊎ (is_prefix p r ≡ true) → decides c p ≡ false
    either (inl above) = two (is_strict_or_same r p above)
    either (inr above) = one (is_strict_or_same p r above)

    by : (is_prefix q r ≡ true) ⊎ (is_prefix r q ≡ true) → decides c p ≡ false
    by (inl above) = absurd (gone fs p r f g flat here there (strict_then p q r under above))
    by (inr above) = either (either_true (is_prefix r p) (is_prefix p r) (prefixes_compare p r q (and_parts (is_prefix p q) _ under).0 above))

pub both_left : (c : Changeset) (left right : Files) (p q : Path) (f : File) → is_sorted path_cmp left ≡ true → IsFlat left → file_at left p ≡ Some f → is_strict_prefix p q ≡ true → IsUnresolved c left right q → (decides c p ≡ false) × (decides c q ≡ false)
both_left c left right p q f rises flat here under (inl u) = absurd (gone left p q f u.file flat here (file_there left (q, u.file) rises u.there) under)
both_left c left right p q f rises flat here under (inr u) = (by (path_eq q u.other.0) refl u.stands, u.is_left)
  where
    there : file_at left u.other.0 ≡ Some u.other.1
    there = file_there left u.other rises u.other_there

    by : (b : Bool) → path_eq q u.other.0 ≡ b → cond b (not (file_eq u.file u.other.1)) (comparable q u.other.0 && not (decides c u.other.0)) ≡ true → decides c p ≡ false
    by true same h = absurd (gone left p q f u.other.1 flat here (ap (file_at left) (same_path q u.other.0 same) ∙ there) under)
    by false away h =
        let parts = and_parts (comparable q u.other.0) (not (decides c u.other.0)) h in
        same_above c left p q u.other.0 f u.other.1 flat here there under parts.0 (left_free (decides c u.other.0) parts.1)
