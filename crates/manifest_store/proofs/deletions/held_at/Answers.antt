use Rattle.std.proofs.Common.{subst}
use Rattle.byte_fields.proofs.Lists.{weaker}
use Rattle.manifest_store.specs.Holding.{AreOnWay}
use Rattle.manifest_store.specs.Moves.{Stands}
use Rattle.manifest_store.proofs.OnWays.{are_held}
use Rattle.manifest_store.proofs.Ways.{way_more}
use Rattle.manifest_store.proofs.deletions.held_at.Goals as goal

pub returns : goal.returns
returns c = λ past s.
    let m = c.args.table.now.nodes in
    let root = c.in-Some.roots.deleted in
    let first = c.hold_ways.new.nodes in
    let last = c.hold_ways-2.new.nodes in
    are_held m past c.in-Some.roots (record { nodes = last }) c.args.gone.now c.args.come.now (subst (λ parent. Stands m parent past) c.in-Some.is s) c.in_ok-hold_ways-2.ensures.root
    (weaker (AreOnWay m first root) (AreOnWay m last root) (λ p way. way_more m first last root p c.in_ok-hold_ways-2.ensures.more way) c.args.gone.now c.in_ok-hold_ways.ensures.ways)
    c.in_ok-hold_ways-2.ensures.ways
