use Rattle.std.proofs.Common.{List, subst, sym, ap, ◌∙◌}
use Rattle.changeset_model.specs.Path.{Path}
use Rattle.changeset_model.specs.Changeset.{FileChange, is_changeset, self_conflict}
use Rattle.manifest_store.specs.Parents.{AreParentsOf}
use Rattle.manifest_store.proofs.Jobs.{job_is}
use Rattle.manifest_store.proofs.store.ManifestStore.job_of.Goals as goal

pub returns-clause-job : goal.returns-clause-job
returns-clause-job c =
    let ks = c.args.changesets.now.known in
    job_is ks c.args.self.now c.requires.manifests c.args.number c.requires.known c.requires.ready (record { number = c.args.number; commit = c.in_ok-commit.commit; parents = c.in_ok-parents.parents; deletions = c.in_ok-deletions.deletions }) c.in_ok-commit.ensures
    (subst (λ (es : List (Path × FileChange)). AreParentsOf ks c.args.self.now c.args.number es c.in_ok-parents.parents) (c.edits-edits.ensures.edits ∙ ap (λ k. k.changes) (c.changeset.ensures ∙ c.deref.ensures ∙ c.in_ok-commit.ensures)) c.in_ok-parents.ensures)
    c.in_ok-deletions.ensures

pub deletions_of-requires-clause-edits : goal.deletions_of-requires-clause-edits
deletions_of-requires-clause-edits c =
    let same = c.changeset.ensures ∙ c.deref.ensures ∙ c.in_ok-commit.ensures in
    let told = c.edits-edits.ensures in
    record { kept = ap is_changeset (sym same) ∙ told.rules; clear = ap self_conflict (sym same) ∙ told.apart; changes = told.edits ∙ ap (λ k. k.changes) same }
