use Rattle.std.proofs.Common.{◌&&◌, ◌++◌, [], List, subst}
use Rattle.std.specs.List.{list_any}
use Rattle.changeset_model.specs.Path.{Path}
use Rattle.deleted_step.specs.Steps.{AreHeldAt}
use Rattle.derive_step.specs.Views.{held_in}
use Rattle.manifest_store.specs.Moves.{has_file, takes, comes, Adds}
use Rattle.manifest_store.proofs.Changed.{files_are}
use Rattle.manifest_store.proofs.deletions.deletions_from.Goals as goal

pub returns : goal.returns
returns c = λ k first other s t right edits.
    let gone = c.in_ok-gone.field-0.gone.items in
    let come = c.in_ok-gone.field-0.come.items in
    record {
      files = files_are k first other right gone come
          (subst (λ es. Adds (λ p. has_file first p && list_any (λ e. takes e p) es) [] gone) edits (c.in_ok-gone.ensures.gone first s))
          (subst (λ es. Adds (comes first other es) [] come) edits (c.in_ok-gone.ensures.come first other s t));
      held =
          subst (λ (went : List Path). AreHeldAt (held_in c.in_ok-nodes.nodes) first (went ++ come)) c.deref.ensures.value
          (subst (λ (came : List Path). AreHeldAt (held_in c.in_ok-nodes.nodes) first (c.deref.result.now ++ came)) c.deref-2.ensures.value (c.in_ok-nodes.ensures first s));
    }
