-- What edits in order leave of the entries of one name, told by the edit of its path and whether one lies under it.
use Rattle.std.proofs.Common.{◌≡◌, Bool, true, false, cond, ◌||◌, List, [], ◌∷◌, refl, sym, ap, ◌∙◌}
use Rattle.std.specs.Prelude.{Option, Some, None}
use Rattle.std.specs.List.{list_any}
use Rattle.std.specs.Ordering.{eq_by_cmp}
use Rattle.std.specs.FinMap.{is_sorted, find as find_key}
use Rattle.std.specs.FinMap.Entries.{below_all}
use Rattle.std.proofs.lemmas.Bool.{and_parts, false_from_ne_true}
use Rattle.changeset_model.specs.Path.{Path, path_cmp, path_lt, is_strict_prefix}
use Rattle.changeset_model.specs.Changeset.{File, FileChange}
use Rattle.changeset_model.proofs.Rising.{path_lt_asymmetric}
use Rattle.manifest_model.proofs.Derivations.{tied_same}
use Rattle.manifest_laws.proofs.Lists.{true_and_false}
use Rattle.manifest_laws.proofs.Folded.{not_found, apart_same, not_under_itself, under_is_more}
use Rattle.derive_step.specs.Walk.{Sides, after_edits, edited, renewed}
use Rattle.derive_step.proofs.Edits.{renewed_twice}

apart_under : (p q r : Path) → is_strict_prefix p q ≡ true → path_lt q r ≡ true → eq_by_cmp path_cmp p r ≡ false
apart_under p q r under h = false_from_ne_true (eq_by_cmp path_cmp p r) (λ t. true_and_false (path_lt q r) h (path_lt_asymmetric r q (ap (λ x. path_lt x q) (sym (tied_same p r t)) ∙ under_is_more p q under)))

module _ {E : Type 0} (set : Sides E → File → E) (made : Option E) (is_file : E → Bool) where
  abbrev pub edited_if : Option FileChange → Sides E → Sides E
  edited_if None s = s
  edited_if (Some change) s = edited set is_file change s

  abbrev pub entries_by : Option FileChange → Bool → Sides E → Sides E
  entries_by change under s = cond under (renewed made is_file (edited_if change s)) (edited_if change s)

  again : (s : Sides E) (b : Bool) → cond b (renewed made is_file (renewed made is_file s)) (renewed made is_file s) ≡ renewed made is_file s
  again s true = renewed_twice is_file made s
  again s false = refl

  abbrev Folded : Path → List (Path × FileChange) → Type 0
  Folded p es = (s : Sides E) → after_edits set made is_file p es s ≡ entries_by (find_key path_cmp p es) (list_any (λ e. is_strict_prefix p e.0) es) s

  one : (p : Path) (e : Path × FileChange) (es : List (Path × FileChange)) → below_all path_cmp e.0 es ≡ true → Folded p es → (s : Sides E)
      → (k : Bool) → eq_by_cmp path_cmp p e.0 ≡ k → (b : Bool) → is_strict_prefix p e.0 ≡ b
      → after_edits set made is_file p es (cond k (edited set is_file e.1 s) (cond b (renewed made is_file s) s))
      ≡ entries_by (cond k (Some e.1) (find_key path_cmp p es)) (b || list_any (λ e. is_strict_prefix p e.0) es) s
  one p e es later ih s true t true u = true_and_false (is_strict_prefix p e.0) u (ap (is_strict_prefix p) (sym (tied_same p e.0 t)) ∙ not_under_itself p)
  one p e es later ih s true t false u =
      ih (edited set is_file e.1 s)
      ∙ ap (λ f. entries_by f (list_any (λ e. is_strict_prefix p e.0) es) (edited set is_file e.1 s)) (not_found p e.0 (λ r h. apart_same p e.0 r t h) es later)
  one p e es later ih s false t true u =
      let none = not_found p e.0 (λ r h. apart_under p e.0 r u h) es later in
      ih (renewed made is_file s)
      ∙ ap (λ f. entries_by f (list_any (λ e. is_strict_prefix p e.0) es) (renewed made is_file s)) none
      ∙ again s (list_any (λ e. is_strict_prefix p e.0) es)
      ∙ sym (ap (λ f. renewed made is_file (edited_if f s)) none)
  one p e es later ih s false t false u = ih s

  pub folded : (p : Path) (es : List (Path × FileChange)) (s : Sides E) → is_sorted path_cmp es ≡ true → after_edits set made is_file p es s ≡ entries_by (find_key path_cmp p es) (list_any (λ e. is_strict_prefix p e.0) es) s
  folded p [] s h = refl
  folded p (e ∷ es) s h =
      let parts = and_parts (below_all path_cmp e.0 es) (is_sorted path_cmp es) h in
      one p e es parts.0 (λ s. folded p es s parts.1) s (eq_by_cmp path_cmp p e.0) refl (is_strict_prefix p e.0) refl
