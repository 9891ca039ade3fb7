use Rattle.std.proofs.Common.{◌≡◌, sym, ◌∙◌}
use Rattle.bonsai.specs.Equal.{changeset_eq, changeset_eq-Decides}
use Rattle.bonsai.proofs.changeset.ChangesetPartialEq.eq.Goals as goal

pub returns-clause-exact : goal.returns-clause-exact
returns-clause-exact c =
    let decides = changeset_eq-Decides c.args.self.now c.args.other.now in
    let test : c.are_same.result ≡ changeset_eq c.args.self.now c.args.other.now = c.are_same.ensures ∙ (λ i. changeset_eq (c.parts.ensures.parts i) (c.parts-2.ensures.parts i)) in
    (λ h. decides.0 (sym test ∙ h), λ e. test ∙ decides.1 e)
