use Rattle.std.proofs.Common.{sym, ◌∙◌, string_bytes}
use Rattle.changeset_model.specs.Path.{path_eq}
use Rattle.repo_path.proofs.Order.{path_eq-texts}
use Rattle.repo_path.proofs.path.RepoPathPartialEq.eq.Goals as goal

pub returns : goal.returns
returns c = c.eq.ensures ∙ sym (path_eq-texts (string_bytes c.self.inside.text) (string_bytes c.other.inside.text)) ∙ (λ i. path_eq (c.self.view_is i) (c.other.view_is i))
