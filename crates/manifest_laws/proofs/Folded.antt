-- What edits in order leave of one entry, told by the edit of its path and whether one lies under it.
use Rattle.std.proofs.Common.{◌≡◌, ◌<◌, Bool, true, false, cond, ◌||◌, List, [], ◌∷◌, length, refl, sym, ap, ◌∙◌, arith}
use Rattle.std.specs.Prelude.{Option, Some, None, bytes_eq}
use mathlib.Core.Bool.{true≢false}
use Rattle.std.specs.declared.cmp.Ordering.{Ordering}
use Rattle.std.specs.declared.cmp.Ordering.TheVariants.{Less, Equal, Greater}
use Rattle.std.specs.List.{list_any}
use Rattle.std.specs.Option.{option_or}
use Rattle.std.specs.Ordering.{nat_cmp, eq_by_cmp, ordering_then, is_lt, is_eq}
use Rattle.std.specs.Cmp.Lexicographic.{slice_cmp, texts_ties}
use Rattle.std.specs.FinMap.{is_sorted, find as find_key}
use Rattle.std.specs.FinMap.Entries.{below_all}
use Rattle.std.proofs.lemmas.Bool.{and_parts, false_from_ne_true}
use Rattle.changeset_model.specs.Path.{Path, path_cmp, path_lt, is_prefix, is_strict_prefix}
use Rattle.changeset_model.specs.Changeset.{File, FileChange}
use Rattle.changeset_model.proofs.Rising.{path_lt_irreflexive, path_lt_asymmetric}
use Rattle.manifest_model.proofs.Derivations.{tied_same}
use Rattle.manifest_laws.proofs.Lists.{true_and_false}
use Rattle.manifest_laws.proofs.Flat.{strict_parts}
use Rattle.manifest_laws.specs.EntryEdits.{without_dir, edited, renewed, after_edits, edited_if, entry_by}

-- ---- a path is less than each under it

equal_of : (o : Ordering) → is_eq o ≡ true → o ≡ Equal
equal_of Less h = absurd (cc)
equal_of Equal h = refl
equal_of Greater h = absurd (cc)

prefix_less : (x z : Path) → is_prefix x z ≡ true → length x < length z → path_cmp x z ≡ Less
prefix_less [] [] h less = absurd (omega arith)
prefix_less [] (f ∷ z) h less = refl
prefix_less (e ∷ x) [] h less = absurd (true≢false (sym h))
prefix_less (e ∷ x) (f ∷ z) h less =
    let parts = and_parts (bytes_eq e f) (is_prefix x z) h in
    ap (λ o. ordering_then o (path_cmp x z)) (equal_of (slice_cmp nat_cmp e f) (sym (texts_ties e f) ∙ parts.0))
    ∙ prefix_less x z parts.1 (omega arith)

pub under_is_more : (x z : Path) → is_strict_prefix x z ≡ true → path_lt x z ≡ true
under_is_more x z h = let parts = strict_parts x z h in ap is_lt (prefix_less x z parts.0 parts.1)

pub not_under_itself : (p : Path) → is_strict_prefix p p ≡ false
not_under_itself p = false_from_ne_true (is_strict_prefix p p) (λ under. true_and_false (path_lt p p) (under_is_more p p under) (path_lt_irreflexive p))

-- ---- paths that come later

pub not_found : (p q : Path) → ((r : Path) → path_lt q r ≡ true → eq_by_cmp path_cmp p r ≡ false) → (es : List (Path × FileChange)) → below_all path_cmp q es ≡ true → find_key path_cmp p es ≡ None
not_found p q apart [] h = refl
not_found p q apart (e ∷ es) h =
    let parts = and_parts (is_lt (path_cmp q e.0)) (below_all path_cmp q es) h in
    ap (λ b. cond b (Some e.1) (find_key path_cmp p es)) (apart e.0 parts.0) ∙ not_found p q apart es parts.1

pub apart_same : (p q r : Path) → eq_by_cmp path_cmp p q ≡ true → path_lt q r ≡ true → eq_by_cmp path_cmp p r ≡ false
apart_same p q r same h = false_from_ne_true (eq_by_cmp path_cmp p r) (λ t. true_and_false (path_lt q r) h (ap (path_lt q) (sym (tied_same p r t) ∙ tied_same p q same) ∙ path_lt_irreflexive q))

apart_under : (p q r : Path) → is_strict_prefix p q ≡ true → path_lt q r ≡ true → eq_by_cmp path_cmp p r ≡ false
apart_under p q r under h = false_from_ne_true (eq_by_cmp path_cmp p r) (λ t. true_and_false (path_lt q r) h (path_lt_asymmetric r q (ap (λ x. path_lt x q) (sym (tied_same p r t)) ∙ under_is_more p q under)))

-- ---- the fold

module _ {E : Type 0} (set_entry : Option E → File → E) (made : Option E) (is_file : E → Bool) where
  twice_without : (o : Option E) → without_dir set_entry made is_file (without_dir set_entry made is_file o) ≡ without_dir set_entry made is_file o
  twice_without None = refl
  twice_without (Some e) = by (is_file e) refl
    where
      by : (b : Bool) → is_file e ≡ b → without_dir set_entry made is_file (cond b (Some e) None) ≡ cond b (Some e) None
      by true h = ap (λ b. cond b (Some e) None) h
      by false h = refl

  twice : (o : Option E) → renewed set_entry made is_file (renewed set_entry made is_file o) ≡ renewed set_entry made is_file o
  twice o = by made
    where
      by : (m : Option E) → option_or m (without_dir set_entry made is_file (option_or m (without_dir set_entry made is_file o))) ≡ option_or m (without_dir set_entry made is_file o)
      by None = twice_without o
      by (Some m) = refl

  again : (o : Option E) (b : Bool) → cond b (renewed set_entry made is_file (renewed set_entry made is_file o)) (renewed set_entry made is_file o) ≡ renewed set_entry made is_file o
  again o true = twice o
  again o false = refl

  abbrev Folded : Path → List (Path × FileChange) → Type 0
  Folded p es = (o : Option E) → after_edits set_entry made is_file p es o ≡ entry_by set_entry made is_file (find_key path_cmp p es) (list_any (λ e. is_strict_prefix p e.0) es) o

  one : (p : Path) (e : Path × FileChange) (es : List (Path × FileChange)) → below_all path_cmp e.0 es ≡ true → Folded p es → (o : Option E)
      → (k : Bool) → eq_by_cmp path_cmp p e.0 ≡ k → (b : Bool) → is_strict_prefix p e.0 ≡ b
      → after_edits set_entry made is_file p es (cond k (edited set_entry made is_file e.1 o) (cond b (renewed set_entry made is_file o) o))
      ≡ entry_by set_entry made is_file (cond k (Some e.1) (find_key path_cmp p es)) (b || list_any (λ e. is_strict_prefix p e.0) es) o
  one p e es later ih o true t true u = true_and_false (is_strict_prefix p e.0) u (ap (is_strict_prefix p) (sym (tied_same p e.0 t)) ∙ not_under_itself p)
  one p e es later ih o true t false u =
      ih (edited set_entry made is_file e.1 o)
      ∙ ap (λ f. entry_by set_entry made is_file f (list_any (λ e. is_strict_prefix p e.0) es) (edited set_entry made is_file e.1 o)) (not_found p e.0 (λ r h. apart_same p e.0 r t h) es later)
  one p e es later ih o false t true u =
      let none = not_found p e.0 (λ r h. apart_under p e.0 r u h) es later in
      ih (renewed set_entry made is_file o)
      ∙ ap (λ f. entry_by set_entry made is_file f (list_any (λ e. is_strict_prefix p e.0) es) (renewed set_entry made is_file o)) none
      ∙ again o (list_any (λ e. is_strict_prefix p e.0) es)
      ∙ sym (ap (λ f. renewed set_entry made is_file (edited_if set_entry made is_file f o)) none)
  one p e es later ih o false t false u = ih o

  pub folded : (p : Path) (es : List (Path × FileChange)) (o : Option E) → is_sorted path_cmp es ≡ true → after_edits set_entry made is_file p es o ≡ entry_by set_entry made is_file (find_key path_cmp p es) (list_any (λ e. is_strict_prefix p e.0) es) o
  folded p [] o h = refl
  folded p (e ∷ es) o h =
      let parts = and_parts (below_all path_cmp e.0 es) (is_sorted path_cmp es) h in
      one p e es parts.0 (λ o. folded p es o parts.1) o (eq_by_cmp path_cmp p e.0) refl (is_strict_prefix p e.0) refl
