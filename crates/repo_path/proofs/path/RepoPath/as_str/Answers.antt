use Rattle.std.proofs.Common.{◌≡◌, ◌≤◌, true, length, sym, ap, subst, ◌∙◌, string_bytes}
use Rattle.changeset_model.specs.Path.{text_of, is_path}
use Rattle.changeset_model.proofs.Accepting.{text_of-elements}
use Rattle.repo_path.proofs.Faults.{path_is_short}
use Rattle.repo_path.proofs.path.RepoPath.as_str.Goals as goal

pub returns-clause-text : goal.returns-clause-text
returns-clause-text c = c.as_str.ensures.value ∙ sym (text_of-elements (string_bytes c.self.inside.text)) ∙ ap text_of c.self.view_is

pub returns-clause-length : goal.returns-clause-length
returns-clause-length c = subst (λ t. length t ≤ 4096) (sym (returns-clause-text c)) (path_is_short c.args.self.now (subst (λ p. is_path p ≡ true) c.self.view_is c.self.invariant))
