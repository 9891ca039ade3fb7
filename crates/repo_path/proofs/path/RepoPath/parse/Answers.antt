use Rattle.std.proofs.Common.{sym, ap, ◌∙◌}
use Rattle.changeset_model.specs.Path.{path_fault}
use Rattle.repo_path.proofs.path.RepoPath.parse.Goals as goal

pub returns-clause-bad : goal.returns-clause-bad
returns-clause-bad c =
    λ at. let same = ap path_fault c.as_bytes.ensures.value in
    let h = c.from_bytes.ensures.bad at in
    (λ e. sym same ∙ h.0 e, λ e. h.1 (same ∙ e))
