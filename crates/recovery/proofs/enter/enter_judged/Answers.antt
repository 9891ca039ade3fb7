use Rattle.std.proofs.Common.{◌≡◌, ℕ, List, true, not, ap, ◌∙◌, Bor}
use Rattle.std.specs.Prelude.{is_some}
use Rattle.recovery.proofs.Asked.{entered_here}
use Rattle.recovery.proofs.Frames.{is_made}
use Rattle.recovery.proofs.enter.enter_judged.Goals as goal

pub returns-clause-enters : goal.returns-clause-enters
returns-clause-enters c =
    let some : is_some c.frame.result ≡ true = c.is_none.ensures ∙ ap not c.if-is_none.false in
    entered_here c.args.machine.now.header c.args.machine.now.history c.args.judged c.admit-granted.new.self.history c.requires.judged c.requires.by
    (is_made (λ (bytes : Bor (List ℕ)). bytes.now) (λ body. c.args.judged.frame) c.frame.result c.args.judged.made c.frame.ensures.frame some) c.admit-granted.ensures.history
