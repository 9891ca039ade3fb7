-- Equal files are resolved, and a merge that leaves nothing unresolved stays flat.
use Rattle.std.proofs.Common.{◌≡◌, ◌⊎◌, inl, inr, Bool, true, false, cond, not, ◌&&◌, ◌||◌, Option, Some, None, List, refl, sym, ap, ◌∙◌}
use Rattle.std.specs.Prelude.{bytes_eq, ◌==◌, is_some}
use mathlib.Core.Bool.{true≢false}
use Rattle.std.specs.Option.{option_or}
use Rattle.std.specs.FinMap.{is_sorted}
use Rattle.std.specs.Cmp.Lexicographic.{nat_list_eq_equiv}
use Rattle.std.proofs.lemmas.Bool.{and_parts, and_from, eq-eqb, false_from_ne_true}
use Rattle.byte_fields.proofs.Booleans.{same_some}
use Rattle.changeset_model.specs.Path.{Path, path_cmp, path_eq, is_prefix, is_strict_prefix, comparable}
use Rattle.changeset_model.specs.Changeset.{kind_byte, File, Changeset, set_at, self_conflict}
use Rattle.changeset_model.proofs.Paths.{comparable-comm}
use Rattle.history_model.specs.History.{Known}
use Rattle.history_model.specs.Past.{Past, At}
use Rattle.history_model.specs.Tree.{decides, tree_of, files_in, file_at}
use Rattle.history_model.specs.Merge.{file_eq, unresolved}
use Rattle.history_model.proofs.Clashes.{not_both as clash}
use Rattle.history_model.proofs.Merges.{one_value, none_under}
use Rattle.manifest_laws.specs.Summaries.{IsFlat}
use Rattle.manifest_laws.proofs.Flat.{is_strict_or_same}
use Rattle.manifest_laws.proofs.Folded.{not_under_itself}
use Rattle.tree_fold.proofs.AtOnce.{stays_flat, apart_without_conflict}
use Rattle.tree_fold.proofs.Files.{same_path, path_eq_itself}
use Rattle.tree_fold.proofs.Trees.{same_files}
use Rattle.merge_tree.specs.Unresolved.{IsLeftAgainst, IsUnresolved}
use Rattle.merge_tree.proofs.Found.{file_there, there_of}
use Rattle.merge_tree.proofs.Pasts.{file_at-files_in, files_in_sorted}

abbrev Files : Type 0
Files = List (Path × File)

-- ---- equal files

file_eq_itself : (f : File) → file_eq f f ≡ true
file_eq_itself f = and_from (bytes_eq f.content f.content && (kind_byte f.kind == kind_byte f.kind)) (f.size == f.size)
    (and_from (bytes_eq f.content f.content) (kind_byte f.kind == kind_byte f.kind) (nat_list_eq_equiv.refl f.content) (eq-eqb (kind_byte f.kind) (kind_byte f.kind) refl)) (eq-eqb f.size f.size refl)

-- no other file of flat files is above or under this one
alone : (fs : Files) (p q : Path) (f g : File) → IsFlat fs → file_at fs p ≡ Some f → file_at fs q ≡ Some g → path_eq p q ≡ false → is_prefix p q ≡ true → ⊥
alone fs p q f g flat here there away above = by (is_strict_or_same p q above)
  where
    no : (o : Option File) → o ≡ Some g → o ≡ None → ⊥
    no None h k = absurd cc
    no (Some x) h k = absurd cc

    by : (q ≡ p) ⊎ (is_strict_prefix p q ≡ true) → ⊥
    by (inl same) = clash (path_eq p q) (ap (path_eq p) same ∙ path_eq_itself p) away
    by (inr under) = no (file_at fs q) there (flat p q f under here)

turned : (p q : Path) → path_eq p q ≡ false → path_eq q p ≡ false
turned p q away = false_from_ne_true (path_eq q p) (λ h. clash (path_eq p q) (ap (λ r. path_eq r q) (sym (same_path q p h)) ∙ path_eq_itself q) away)

pub either_true : (a b : Bool) → (a || b) ≡ true → (a ≡ true) ⊎ (b ≡ true)
either_true true b h = inl refl
either_true false b h = inr h

equal_side : (c : Changeset) (left right : Files) (q : Path) → is_sorted path_cmp left ≡ true → is_sorted path_cmp right ≡ true → IsFlat right → file_at left q ≡ file_at right q → IsLeftAgainst c left right q → ⊥
equal_side c left right q rises other flat equal u = by (path_eq q u.other.0) refl u.stands
  where
    here : file_at right q ≡ Some u.file
    here = sym equal ∙ file_there left (q, u.file) rises u.there

    there : file_at right u.other.0 ≡ Some u.other.1
    there = file_there right u.other other u.other_there

    by : (b : Bool) → path_eq q u.other.0 ≡ b → cond b (not (file_eq u.file u.other.1)) (comparable q u.other.0 && not (decides c u.other.0)) ≡ true → ⊥
    by true same h =
        let one : u.file ≡ u.other.1 = same_some u.file u.other.1 (sym here ∙ ap (file_at right) (same_path q u.other.0 same) ∙ there) in
        true≢false (sym h ∙ ap not (ap (file_eq u.file) (sym one) ∙ file_eq_itself u.file))
    by false away h = near (either_true (is_prefix q u.other.0) (is_prefix u.other.0 q) (and_parts (comparable q u.other.0) (not (decides c u.other.0)) h).0)
      where
        near : (is_prefix q u.other.0 ≡ true) ⊎ (is_prefix u.other.0 q ≡ true) → ⊥
        near (inl above) = alone right q u.other.0 u.file u.other.1 flat here there away above
        near (inr under) = alone right u.other.0 q u.other.1 u.file flat there here (turned q u.other.0 away) under

pub equal_resolved : (c : Changeset) (left right : Files) (q : Path) → is_sorted path_cmp left ≡ true → is_sorted path_cmp right ≡ true → IsFlat left → IsFlat right → file_at left q ≡ file_at right q → IsUnresolved c left right q → ⊥
equal_resolved c left right q rises other flat other_flat equal (inl u) = equal_side c left right q rises other other_flat equal u
equal_resolved c left right q rises other flat other_flat equal (inr u) = equal_side c right left q other rises flat (sym equal) u

-- ---- the order of the parents

either_by : (d : Bool) (x : Option File) (l r : Option File) → (d ≡ false → (f g : File) → l ≡ Some f → r ≡ Some g → f ≡ g) → cond d x (option_or l r) ≡ cond d x (option_or r l)
either_by true x l r agree = refl
either_by false x None None agree = refl
either_by false x None (Some g) agree = refl
either_by false x (Some f) None agree = refl
either_by false x (Some f) (Some g) agree = ap (λ f. Some f) (agree refl f g refl refl)

pub swapped : (k : Known) (left right : Past) → unresolved k.changeset (files_in left) (files_in right) ≡ None → files_in (At k left right) ≡ files_in (At k right left)
swapped k left right none =
    same_files (files_in (At k left right)) (files_in (At k right left)) (files_in_sorted (At k left right)) (files_in_sorted (At k right left))
    (λ p. file_at-files_in (At k left right) p ∙ at p ∙ sym (file_at-files_in (At k right left) p))
  where
    at : (p : Path) → tree_of (At k left right) p ≡ tree_of (At k right left) p
    at p = by (decides k.changeset p) refl
      where
        by : (d : Bool) → decides k.changeset p ≡ d → cond d (set_at k.changeset p) (option_or (tree_of left p) (tree_of right p)) ≡ cond d (set_at k.changeset p) (option_or (tree_of right p) (tree_of left p))
        by d is = either_by d (set_at k.changeset p) (tree_of left p) (tree_of right p) (λ undecided f g l r. one_value k.changeset (files_in left) (files_in right) p f g none
            (there_of (files_in left) p f (file_at-files_in left p ∙ l)) (there_of (files_in right) p g (file_at-files_in right p ∙ r)) (is ∙ undecided))

-- ---- no file under another

some_of : {X : Type 0} (o : Option X) → is_some o ≡ true → (x : X) × (o ≡ Some x)
some_of None h = absurd (true≢false (sym h))
some_of (Some x) h = (x, refl)

either_of : {X : Type 0} (l r : Option X) → is_some (option_or l r) ≡ true → (is_some l ≡ true) ⊎ (is_some r ≡ true)
either_of None r h = inr h
either_of (Some x) r h = inl refl

flat_side : (fs : Files) (p q : Path) → IsFlat fs → is_some (file_at fs p) ≡ true → is_some (file_at fs q) ≡ true → is_strict_prefix p q ≡ false
flat_side fs p q flat here there = false_from_ne_true (is_strict_prefix p q) (λ under.
    let f = some_of (file_at fs p) here in
    clash (is_some (file_at fs q)) there (ap is_some (flat p q f.0 under f.1)))

across : (c : Changeset) (left right : Files) (p q : Path) → unresolved c left right ≡ None → decides c p ≡ false → decides c q ≡ false → is_some (file_at left p) ≡ true → is_some (file_at right q) ≡ true → comparable p q ≡ true → p ≡ q
across c left right p q none alone other here there comparable =
    let f = some_of (file_at left p) here in
    let g = some_of (file_at right q) there in
    none_under c left right p q f.0 g.0 none (there_of left p f.0 f.1) (there_of right q g.0 g.1) alone other comparable

pub strict_near : (p q : Path) → is_strict_prefix p q ≡ true → comparable p q ≡ true
strict_near p q h = ap (λ b. b || is_prefix q p) (and_parts (is_prefix p q) _ h).0

not_strict : (p q : Path) → (is_strict_prefix p q ≡ true → p ≡ q) → is_strict_prefix p q ≡ false
not_strict p q h = false_from_ne_true (is_strict_prefix p q) (λ under. clash (is_strict_prefix p q) under (ap (is_strict_prefix p) (sym (h under)) ∙ not_under_itself p))

both_flat : (c : Changeset) (left right : Files) (p q : Path) → IsFlat left → IsFlat right → unresolved c left right ≡ None → decides c p ≡ false → decides c q ≡ false → is_some (option_or (file_at left p) (file_at right p)) ≡ true → is_some (option_or (file_at left q) (file_at right q)) ≡ true → is_strict_prefix p q ≡ false
both_flat c left right p q flat other none alone far here there = by (either_of (file_at left p) (file_at right p) here) (either_of (file_at left q) (file_at right q) there)
  where
    by : (is_some (file_at left p) ≡ true) ⊎ (is_some (file_at right p) ≡ true) → (is_some (file_at left q) ≡ true) ⊎ (is_some (file_at right q) ≡ true) → is_strict_prefix p q ≡ false
    by (inl l) (inl m) = flat_side left p q flat l m
    by (inr r) (inr s) = flat_side right p q other r s
    by (inl l) (inr s) = not_strict p q (λ under. across c left right p q none alone far l s (strict_near p q under))
    by (inr r) (inl m) = not_strict p q (λ under. sym (across c left right q p none far alone m r (comparable-comm q p ∙ strict_near p q under)))

-- what a changeset leaves of what was there
undecided : (d : Bool) (x o : Option File) → cond d x (cond d None o) ≡ cond d x o
undecided true x o = refl
undecided false x o = refl

is_left : (d : Bool) (o : Option File) → is_some (cond d None o) ≡ true → (d ≡ false) × (is_some o ≡ true)
is_left true o h = absurd (true≢false (sym h))
is_left false o h = (refl, h)

none_of : (o : Option File) → (is_some o ≡ true → ⊥) → o ≡ None
none_of None h = refl
none_of (Some f) h = absurd (h refl)

pub merge_flat : (k : Known) (left right : Past) → self_conflict k.changeset ≡ None → is_sorted path_cmp k.changeset.changes ≡ true → IsFlat (files_in left) → IsFlat (files_in right) → unresolved k.changeset (files_in left) (files_in right) ≡ None → IsFlat (files_in (At k left right))
merge_flat k left right clear rises flat other none p q f under here =
    file_at-files_in (At k left right) q ∙ none_of (tree_of (At k left right) q) (λ there. clash (is_strict_prefix p q) under
    (stays_flat c.changes p q (before p) (before q) rises (apart_without_conflict c clear)
    (λ l m.
    let one = is_left (decides c p) (sides p) l in
    let two = is_left (decides c q) (sides q) m in
    both_flat c (files_in left) (files_in right) p q flat other none one.0 two.0 one.1 two.1)
    (ap is_some (at p) ∙ ap is_some (sym (file_at-files_in (At k left right) p) ∙ here))
    (ap is_some (at q) ∙ there)))
  where
    c : Changeset
    c = k.changeset

    sides : Path → Option File
    sides r = option_or (file_at (files_in left) r) (file_at (files_in right) r)

    before : Path → Option File
    before r = cond (decides c r) None (sides r)

    at : (r : Path) → cond (decides c r) (set_at c r) (before r) ≡ tree_of (At k left right) r
    at r = undecided (decides c r) (set_at c r) (sides r) ∙ (λ i. cond (decides c r) (set_at c r) (option_or (file_at-files_in left r i) (file_at-files_in right r i)))
