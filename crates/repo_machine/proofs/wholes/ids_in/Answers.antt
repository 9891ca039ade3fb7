use Rattle.std.proofs.Common.{◌∙◌, arith}
use Rattle.repo_machine.proofs.Joining.{ids_push}
use Rattle.repo_machine.proofs.wholes.ids_in.Goals as goal

pub ids-preserved : goal.ids-preserved
ids-preserved c =
    let found = c.in-Some.ensures.cases in
    ids_push c.ids.rest.now c.ids.ids.items c.push.new.self.items _ c.from_bytes.result c.in-Some.after.now c.ids.invariant (omega (arith, found.2)) (c.from_bytes.ensures ∙ found.0) found.1 c.in_ok-push.ensures.items
