-- Edits that are read one after another.
use Rattle.std.proofs.Common.{◌≡◌, ℕ, suc, ◌-◌, List, [], ◌∷◌, ◌++◌, length, Option, Some, None, refl, ap, ◌∙◌, arith}
use Rattle.std.specs.Prelude.{option_map, slice_get}
use Rattle.byte_fields.proofs.Run.{Run}
use Rattle.changeset_model.specs.Version.{Version}
use Rattle.changeset_model.specs.Path.{Path}
use Rattle.changeset_model.specs.Changeset.{FileChange}
use Rattle.changeset_model.specs.Decoding.{edit, edits}
use Rattle.bonsai.specs.declared.edit.Edit.{Edit}
use Rattle.bonsai.specs.LastPath.{last_path}
use Rattle.bonsai.specs.View.{edits_view}

pub last_path_push : (before : Option Path) (es : List (Path × FileChange)) (e : Path × FileChange) → last_path before (es ++ e ∷ []) ≡ Some e.0
last_path_push before [] e = refl
last_path_push before (d ∷ es) e = last_path_push (Some d.0) es e

-- edits, each of a path after the one before
abbrev pub edits_run : Version → ℕ → Run (Path × FileChange) (Option Path)
edits_run v parents = record {
  all = edits v parents;
  one = edit v parents;
  next = λ before e. Some e.0;
  none = λ before bytes. refl;
  more = λ n before bytes. refl;
}

pub last_of_edits : (before : Option Path) (e : Edit) (es : List Edit) → option_map (λ e. e.path) (slice_get (e ∷ es) (length es)) ≡ last_path before (edits_view (e ∷ es))
last_of_edits before e [] = refl
last_of_edits before e (d ∷ es) = last_of_edits (Some e.path) d es

pub one_less : (n : ℕ) → suc n - 1 ≡ n
one_less n = omega arith

pub last_path_is : (es : List Edit) (e : Edit) → Some e ≡ slice_get es (length es - 1) → Some e.path ≡ last_path None (edits_view es)
last_path_is [] e h = absurd (cc)
last_path_is (d ∷ es) e h = ap (option_map (λ e. e.path)) (h ∙ ap (slice_get (d ∷ es)) (one_less (length es))) ∙ last_of_edits None d es
