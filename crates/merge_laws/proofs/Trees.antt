-- The trees of pasts whose merges are resolved.
use Rattle.std.proofs.Common.{◌≡◌, true, false, cond, ◌||◌, List, [], ◌∷◌, length, refl, sym, ap, ◌∙◌, arith}
use Rattle.std.specs.Prelude.{Option, Some, None, is_some, ◌==◌}
use mathlib.Core.Bool.{true≢false}
use Rattle.std.specs.List.{list_any}
use Rattle.std.specs.Option.{option_or}
use Rattle.std.specs.FinMap.{is_sorted}
use Rattle.std.proofs.lemmas.Bool.{and_parts, or_right, ne_eqb}
use Rattle.changeset_model.specs.Path.{Path, path_cmp, is_path, is_strict_prefix, comparable}
use Rattle.changeset_model.specs.Changeset.{File, Changeset, set_at, is_changeset, touched_paths}
use Rattle.changeset_model.proofs.Rising.{touched_paths_rise}
use Rattle.history_model.specs.History.{Known}
use Rattle.history_model.specs.Past.{Past, Begin, At, changesets_of}
use Rattle.history_model.specs.Tree.{decides, tree_of, files_in, file_at, is_dir}
use Rattle.history_model.proofs.Merges.{one_value, none_under}
use Rattle.manifest_model.proofs.Deletions.{file_at-files_in}
use Rattle.manifest_laws.specs.Summaries.{IsFlat}
use Rattle.manifest_laws.proofs.Changes.{filed_rise}
use Rattle.manifest_laws.proofs.Flat.{has_under, any_under}
use Rattle.manifest_laws.proofs.Lists.{none_some, true_and_false}
use Rattle.manifest_laws.proofs.PastBounds.{AllOf, rules_past}
use Rattle.merge_tree.proofs.Flatness.{merge_flat}
use Rattle.merge_tree.proofs.Found.{there_of}
use Rattle.merge_laws.specs.Resolved.{AreResolved}

abbrev pub Files : Type 0
Files = List (Path × File)

-- ---- what a changeset's rules say

pub edits_rise : (c : Changeset) → is_changeset c ≡ true → is_sorted path_cmp c.changes ≡ true
edits_rise c h = (and_parts _ (is_sorted path_cmp c.changes) (and_parts _ _ h).1).1

pub rules_of : (past : Past) → AreResolved past → AllOf (λ k. is_changeset k.changeset ≡ true) past
rules_of Begin all = tt
rules_of (At c first second) all = (all.0.rules, rules_of first all.1, rules_of second all.2)

-- ---- files

pub rises : (past : Past) → is_sorted path_cmp (files_in past) ≡ true
rises past = filed_rise (tree_of past) (touched_paths (changesets_of past)) (touched_paths_rise (changesets_of past))

pub flat : (past : Past) → AreResolved past → IsFlat (files_in past)
flat Begin all = λ p q f under h. refl
flat (At c first second) all = merge_flat c first second all.0.clear (edits_rise c.changeset all.0.rules) (flat first all.1) (flat second all.2) all.0.resolved

pub no_root : (past : Past) → AreResolved past → tree_of past [] ≡ None
no_root past all = by (tree_of past []) refl
  where
    by : (o : Option File) → tree_of past [] ≡ o → tree_of past [] ≡ None
    by None e = e
    by (Some f) e = true_and_false (is_path []) (rules_past past (rules_of past all) [] f e).path refl

some_of : (o : Option File) → is_some o ≡ true → (f : File) × (o ≡ Some f)
some_of None h = absurd (true≢false (sym h))
some_of (Some f) h = (f, refl)

abbrev pub HasFile : Files → Path → Type 0
HasFile fs d = (q : Path) × (f : File) × (is_strict_prefix d q ≡ true) × (file_at fs q ≡ Some f)

-- a directory other than the root has a file under it
pub file_under : (fs : Files) (d : Path) → (length d == 0) ≡ false → is_dir fs d ≡ true → HasFile fs d
file_under fs d deep h =
    let found = has_under fs d (ap (λ b. b || list_any (λ f. is_strict_prefix d f.0) fs) (sym deep) ∙ h) in
    let some = some_of (file_at fs found.0) found.2 in
    (found.0, some.0, found.1, some.1)

pub dir_from : (fs : Files) (d q : Path) (f : File) → is_strict_prefix d q ≡ true → file_at fs q ≡ Some f → is_dir fs d ≡ true
dir_from fs d q f under e = or_right (length d == 0) (list_any (λ f. is_strict_prefix d f.0) fs) (any_under fs d q under (ap is_some e))

pub no_file_above : (fs : Files) → IsFlat fs → (d q : Path) (f : File) → is_strict_prefix d q ≡ true → file_at fs q ≡ Some f → file_at fs d ≡ None
no_file_above fs flat d q f under e = by (file_at fs d) refl
  where
    by : (o : Option File) → file_at fs d ≡ o → file_at fs d ≡ None
    by None h = h
    by (Some g) h = none_some f (sym (flat d q g under h) ∙ e)

-- no directory but the root is a file
pub alone : (fs : Files) → IsFlat fs → (d : Path) → (length d == 0) ≡ false → is_dir fs d ≡ true → file_at fs d ≡ None
alone fs flat d deep dir = let found = file_under fs d deep dir in no_file_above fs flat d found.0 found.1 found.2 found.3

pub no_file_at : (past : Past) (d : Path) → AreResolved past → is_dir (files_in past) d ≡ true → tree_of past d ≡ None
no_file_at past [] all dir = no_root past all
no_file_at past (e ∷ d) all dir = sym (file_at-files_in past (e ∷ d)) ∙ alone (files_in past) (flat past all) (e ∷ d) (ne_eqb (length (e ∷ d)) 0 (λ k. absurd (omega (arith, k)))) dir

-- ---- the files of a changeset and of its parents

pub record Merges (c : Changeset) (now left right : Files) : Type 0 where
  pub at : (p : Path) → file_at now p ≡ cond (decides c p) (set_at c p) (option_or (file_at left p) (file_at right p))
  pub edits : is_sorted path_cmp c.changes ≡ true
  pub now_rises : is_sorted path_cmp now ≡ true
  pub left_rises : is_sorted path_cmp left ≡ true
  pub right_rises : is_sorted path_cmp right ≡ true
  pub now_flat : IsFlat now
  pub left_flat : IsFlat left
  pub right_flat : IsFlat right
  -- a file of one side that is left doesn't stand above or under one of the other that is left
  pub none_above : (p q : Path) (f g : File) → file_at left p ≡ Some f → file_at right q ≡ Some g → decides c p ≡ false → decides c q ≡ false → comparable p q ≡ true → p ≡ q
  pub agree : (p : Path) (f g : File) → file_at left p ≡ Some f → file_at right p ≡ Some g → decides c p ≡ false → f ≡ g

pub merges : (c : Known) (first second : Past) → AreResolved (At c first second) → Merges c.changeset (files_in (At c first second)) (files_in first) (files_in second)
merges c first second all = record {
  at = λ p. file_at-files_in (At c first second) p ∙ (λ i. cond (decides c.changeset p) (set_at c.changeset p) (option_or (sym (file_at-files_in first p) i) (sym (file_at-files_in second p) i)));
  edits = edits_rise c.changeset all.0.rules;
  now_rises = rises (At c first second);
  left_rises = rises first;
  right_rises = rises second;
  now_flat = flat (At c first second) all;
  left_flat = flat first all.1;
  right_flat = flat second all.2;
  none_above = λ p q f g here there alone far near. none_under c.changeset (files_in first) (files_in second) p q f g all.0.resolved (there_of (files_in first) p f here) (there_of (files_in second) q g there) alone far near;
  agree = λ p f g here there alone. one_value c.changeset (files_in first) (files_in second) p f g all.0.resolved (there_of (files_in first) p f here) (there_of (files_in second) p g there) alone;
}
