-- The tests of `Equal`, of what the code holds.
--     sources_equiv, changes_equiv, edits_equiv      they are equivalences
--     edit_lists_eq      lists of edits are compared as they are seen
use Rattle.std.specs.Prelude.{◌≡◌, ◌&&◌, List, [], ◌∷◌, refl}
use Rattle.std.specs.Cmp.{IsEquivalence, on_equiv}
use Rattle.std.specs.Cmp.Lexicographic.{pointwise}
use Rattle.bonsai.specs.declared.copy_source.CopySource.{CopySource}
use Rattle.bonsai.specs.declared.change.Change.{Change}
use Rattle.bonsai.specs.declared.edit.Edit.{Edit}
use Rattle.bonsai.specs.Equal.{source_eq, change_eq, edit_eq, source_eq_equiv, change_eq_equiv, edit_eq_equiv}
use Rattle.bonsai.specs.View.{source_view, change_view, edit_view, edits_view}

pub sources_equiv : IsEquivalence (λ (s t : CopySource). source_eq (source_view s) (source_view t))
sources_equiv = on_equiv source_view source_eq_equiv

pub changes_equiv : IsEquivalence (λ (a b : Change). change_eq (change_view a) (change_view b))
changes_equiv = on_equiv change_view change_eq_equiv

pub edits_equiv : IsEquivalence (λ (d e : Edit). edit_eq (edit_view d) (edit_view e))
edits_equiv = on_equiv edit_view edit_eq_equiv

pub edit_lists_eq : (ds es : List Edit) → pointwise (λ (d e : Edit). edit_eq (edit_view d) (edit_view e)) ds es ≡ pointwise edit_eq (edits_view ds) (edits_view es)
edit_lists_eq [] [] = refl
edit_lists_eq [] (e ∷ es) = refl
edit_lists_eq (d ∷ ds) [] = refl
edit_lists_eq (d ∷ ds) (e ∷ es) = λ i. edit_eq (edit_view d) (edit_view e) && edit_lists_eq ds es i
