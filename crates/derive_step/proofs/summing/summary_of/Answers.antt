use Rattle.std.proofs.Common.{◌∙◌}
use Rattle.fsnode.specs.Parts.{children_seen}
use Rattle.derive_step.proofs.Sums.{uncut_sums}
use Rattle.derive_step.proofs.summing.summary_of.Goals as goal

pub returns : goal.returns
returns c = record { sums = λ h. c.capped_summary.ensures ∙ uncut_sums (children_seen c.args.children.now) h }
