-- The edits under a directory, and whether it has entries.
use Rattle.std.proofs.Common.{◌≡◌, Bool, true, false, cond, ◌&&◌, List, [], ◌∷◌, length, refl, sym, ap, ◌∙◌, arith}
use Rattle.std.specs.Prelude.{◌==◌}
use mathlib.Core.Bool.{true≢false}
use Rattle.std.proofs.lemmas.Bool.{and_parts, ne_eqb}
use Rattle.std.specs.FinMap.{is_sorted}
use Rattle.std.specs.FinMap.Entries.{below_all}
use Rattle.std.specs.Ordering.{is_lt}
use Rattle.changeset_model.specs.Path.{Path, path_cmp, is_strict_prefix}
use Rattle.changeset_model.specs.Changeset.{FileChange}
use Rattle.history_model.specs.History.{Known}
use Rattle.history_model.specs.Past.{Past, At}
use Rattle.derive_step.specs.Pasts.{IsSound}
use Rattle.derive_step.specs.Slices.{edits_in}
use Rattle.derive_step.proofs.Edits.{in_twice}
use Rattle.derive_step.proofs.PastLaws.{rise}

-- the edits that are gone through are those under the directory
pub slice_is : (c : Known) (first second : Past) → IsSound (At c first second) → (d : Path) (all es : List (Path × FileChange)) → all ≡ c.changeset.changes → (is_sorted path_cmp all ≡ true → es ≡ edits_in d all) → edits_in d es ≡ edits_in d c.changeset.changes
slice_is c first second sound d all es are slice = ap (edits_in d) (slice (ap (is_sorted path_cmp) are ∙ rise c first second sound)) ∙ in_twice d all ∙ ap (edits_in d) are

-- ---- whether a directory has entries

empty_length : {X : Type 0} (xs : List X) → (length xs == 0) ≡ true → xs ≡ []
empty_length [] h = refl
empty_length (x ∷ xs) h = absurd (true≢false (sym h ∙ ne_eqb (length (x ∷ xs)) 0 (λ e. absurd (omega arith))))

pub is_empty_list : {X : Type 0} (xs : List X) (b : Bool) → b ≡ (length xs == 0) → b ≡ true → xs ≡ []
is_empty_list xs b e h = empty_length xs (sym e ∙ h)

pub is_some_list : {X : Type 0} (xs : List X) (b : Bool) → b ≡ (length xs == 0) → b ≡ false → xs ≡ [] → ⊥
is_some_list xs b e h empty = absurd (true≢false (sym (ap (λ ys. length ys == 0) empty) ∙ sym e ∙ h))

below_in : (d p : Path) (xs : List (Path × FileChange)) → below_all path_cmp p xs ≡ true → below_all path_cmp p (edits_in d xs) ≡ true
below_in d p [] below = refl
below_in d p (x ∷ xs) below = by (and_parts (is_lt (path_cmp p x.0)) (below_all path_cmp p xs) below).0 (below_in d p xs (and_parts (is_lt (path_cmp p x.0)) (below_all path_cmp p xs) below).1) (is_strict_prefix d x.0)
  where
    by : is_lt (path_cmp p x.0) ≡ true → below_all path_cmp p (edits_in d xs) ≡ true → (b : Bool) → below_all path_cmp p (cond b (x ∷ edits_in d xs) (edits_in d xs)) ≡ true
    by here later true = λ i. here i && later i
    by here later false = later

sorted_in : (d : Path) (es : List (Path × FileChange)) → is_sorted path_cmp es ≡ true → is_sorted path_cmp (edits_in d es) ≡ true
sorted_in d [] h = refl
sorted_in d (e ∷ es) h = by (below_in d e.0 es (and_parts (below_all path_cmp e.0 es) (is_sorted path_cmp es) h).0) (sorted_in d es (and_parts (below_all path_cmp e.0 es) (is_sorted path_cmp es) h).1) (is_strict_prefix d e.0)
  where
    by : below_all path_cmp e.0 (edits_in d es) ≡ true → is_sorted path_cmp (edits_in d es) ≡ true → (b : Bool) → is_sorted path_cmp (cond b (e ∷ edits_in d es) (edits_in d es)) ≡ true
    by here later true = λ i. here i && later i
    by here later false = later

-- those under a directory rise as all do
pub slice_rises : (d : Path) (all es changes : List (Path × FileChange)) → all ≡ changes → is_sorted path_cmp changes ≡ true → (is_sorted path_cmp all ≡ true → es ≡ edits_in d all) → is_sorted path_cmp es ≡ true
slice_rises d all es changes are sorted slice =
    let rises = ap (is_sorted path_cmp) are ∙ sorted in
    ap (is_sorted path_cmp) (slice rises) ∙ sorted_in d all rises
