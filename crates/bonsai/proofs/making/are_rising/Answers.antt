use Rattle.bonsai.specs.View.{edits_view}
use Rattle.bonsai.proofs.Rising.{rises_sorted}
use Rattle.bonsai.proofs.making.are_rising.Goals as goal

pub loop-edit-init : goal.loop-edit-init
loop-edit-init c = rises_sorted (edits_view c.args.edits.now)
