use Rattle.std.proofs.Common.{◌≡◌, None, sym, ap, ◌∙◌}
use Rattle.changeset_model.specs.Path.{elements, is_path, path_fault}
use Rattle.repo_path.proofs.Faults.{path_without_fault, no_path_with_fault, path_is_text}
use Rattle.repo_path.proofs.path.RepoPath.from_bytes.Goals as goal

pub returns-in-Some-clause-unruly : goal.returns-in-Some-clause-unruly
returns-in-Some-clause-unruly c = λ at e. no_path_with_fault c.args.bytes.now c.in-Some.at (sym c.path_fault_of.ensures ∙ c.in-Some.is)

pub unreachable-requires : goal.unreachable-requires
unreachable-requires c = c.in_default-from_utf8.ensures.cases.0 (path_is_text c.args.bytes.now (path_without_fault c.args.bytes.now (sym c.path_fault_of.ensures ∙ c.in_default.is)))

pub invariant_of-result : goal.invariant_of-result
invariant_of-result c =
    let none : path_fault c.args.bytes.now ≡ None = sym c.path_fault_of.ensures ∙ c.in_default.is in
    ap (λ t. is_path (elements t)) (c.in_ok-text.ensures.ok ∙ c.in-Ok.ensures.cases.0) ∙ path_without_fault c.args.bytes.now none

pub returns-clause-rules : goal.returns-clause-rules
returns-clause-rules c = invariant_of-result c
