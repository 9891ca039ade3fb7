use Rattle.std.proofs.Common.{ap, ◌∙◌, arith}
use Rattle.std.proofs.lemmas.Grind.{common_steps}
use Rattle.std.specs.FinMap.{is_sorted}
use Rattle.std.specs.Ordering.{nat_cmp}
use Rattle.std.specs.Cmp.Lexicographic.{slice_cmp}
use Rattle.deleted_step.proofs.Entries.{seen_rise, whole_list}
use Rattle.deleted_step.proofs.closing.listed.Goals as goal

pub returns-clause-rising : goal.returns-clause-rising
returns-clause-rising c =
    ap (is_sorted (slice_cmp nat_cmp)) (whole_list c.args.entries.entries c.loop-name.children.items c.loop-name.entries.entries (grind (arith, common_steps)) c.loop-name.invariant)
    ∙ seen_rise c.args.entries.entries c.len.ensures.ordered
