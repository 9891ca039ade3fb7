use Rattle.std.proofs.Common.{sym, subst, arith}
use Rattle.repo_machine.specs.Prepared.{IsReadyChangeset}
use Rattle.repo_machine.proofs.MadeReady.{ready_changeset}
use Rattle.repo_machine.proofs.prepared.framed_changeset.Goals as goal

pub returns-clause-ready : goal.returns-clause-ready
returns-clause-ready c =
    subst (λ m. IsReadyChangeset m c.in_ok-frame.frame.items) (sym c.in_ok-commit.ensures.ok)
    (ready_changeset c.args.bytes.now c.args.commit c.in_ok-frame.frame.items c.requires.spelled c.requires.decoded (λ i. omega (arith, c.type_inv.bytes i)) c.in_ok-frame.ensures)
