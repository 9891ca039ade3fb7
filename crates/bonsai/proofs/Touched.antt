-- The paths that a changeset touches are those of its edits, as they stand.
use Rattle.std.proofs.Common.{◌≡◌, true, List, [], ◌∷◌, ◌++◌, map, Result, Ok, Err, refl, ap, ◌∙◌}
use Rattle.std.specs.Prelude.{IfOk}
use Rattle.std.specs.List.{AllByRecursion}
use Rattle.std.specs.FinMap.{is_sorted}
use Rattle.std.specs.FinMap.Entries.{by_order, below_all}
use Rattle.changeset_model.specs.Path.{Path, path_cmp, path_lt, IsRising, rising, in_place}
use Rattle.changeset_model.specs.Changeset.{Changeset, FileChange, touched_paths}
use Rattle.bonsai.specs.declared.edit.Edit.{Edit}
use Rattle.bonsai.specs.View.{edits_view}
use Rattle.repo_path.proofs.Faults.{first_of_two as first_of, second_of_two as second_of}
use Rattle.changeset_model.proofs.Rising.{less_of}

pub if_ok : {T E : Type 0} (P Q : T → Type 0) (r : Result T E) → ((v : T) → P v → Q v) → IfOk r P → IfOk r Q
if_ok P Q (Ok v) f h = f v h
if_ok P Q (Err e) f h = tt

pub paths_view : (es : List Edit) → map (λ e. e.path) es ≡ map (λ e. e.0) (edits_view es)
paths_view [] = refl
paths_view (e ∷ es) = ap (λ ps. e.path ∷ ps) (paths_view es)

below_rise : (p : Path) (es : List (Path × FileChange)) → below_all path_cmp p es ≡ true → AllByRecursion (λ q. path_lt p q ≡ true) (map (λ e. e.0) es)
below_rise p [] h = tt
below_rise p (e ∷ es) h = (first_of (path_lt p e.0) (below_all path_cmp p es) h, below_rise p es (second_of (path_lt p e.0) (below_all path_cmp p es) h))

paths_rise : (es : List (Path × FileChange)) → is_sorted path_cmp es ≡ true → IsRising (map (λ e. e.0) es)
paths_rise [] h = tt
paths_rise (e ∷ es) h = (below_rise e.0 es (first_of (below_all path_cmp e.0 es) (is_sorted path_cmp es) h), paths_rise es (second_of (below_all path_cmp e.0 es) (is_sorted path_cmp es) h))

rising_stays : (ps : List Path) → IsRising ps → rising ps ≡ ps
rising_stays [] h = refl
rising_stays (p ∷ []) h = refl
rising_stays (p ∷ q ∷ qs) h = ap (in_place p) (rising_stays (q ∷ qs) h.1) ∙ ap (λ o. by_order o (p ∷ q ∷ qs) (q ∷ qs) (q ∷ in_place p qs)) (less_of (path_cmp p q) h.0.0)

append_nil : (ps : List Path) → ps ++ [] ≡ ps
append_nil [] = refl
append_nil (p ∷ ps) = ap (λ qs. p ∷ qs) (append_nil ps)

pub touched_paths_are : (c : Changeset) → is_sorted path_cmp c.changes ≡ true → touched_paths (c ∷ []) ≡ map (λ e. e.0) c.changes
touched_paths_are c h = ap rising (append_nil (map (λ e. e.0) c.changes)) ∙ rising_stays (map (λ e. e.0) c.changes) (paths_rise c.changes h)
