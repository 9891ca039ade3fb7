use Rattle.std.proofs.Common.{sym, subst, arith}
use Rattle.std.specs.List.{AllByRecursion}
use Rattle.std.proofs.lemmas.List.{drop_all}
use Rattle.manifest_store.specs.Holding.{AreOnWay}
use Rattle.manifest_store.proofs.Ways.{here_more, way_more}
use Rattle.manifest_store.proofs.Taken.{from_here}
use Rattle.manifest_store.proofs.holding.hold_ways.Goals as goal

pub loop-path-preserved : goal.loop-path-preserved
loop-path-preserved c =
    let m = c.args.table.now.nodes in
    let root = c.args.root.now in
    record {
      are = c.in_ok-hold_way.ensures.are;
      more = λ x bytes e. c.in_ok-hold_way.ensures.more x bytes (c.loop-path.invariant.more x bytes e);
      root = here_more m c.loop-path.nodes c.hold_way.new.nodes root c.in_ok-hold_way.ensures.more c.loop-path.invariant.root;
      ways = λ last more rest.
          c.loop-path.invariant.ways last (λ x bytes e. more x bytes (c.in_ok-hold_way.ensures.more x bytes e))
          (subst (AllByRecursion (AreOnWay m last root)) (sym (from_here c.args.paths.now c.loop-path.path-index c.path-item.result c.loop-path-test.true c.path-item.is))
          (way_more m c.hold_way.new.nodes last root c.path-item.result more (subst (AreOnWay m c.hold_way.new.nodes root) c.as_str.ensures.elements c.in_ok-hold_way.ensures.way), rest));
    }

pub returns-clause-ways : goal.returns-clause-ways
returns-clause-ways c =
    let m = c.args.table.now.nodes in
    let root = c.args.root.now in
    c.loop-path.invariant.ways c.loop-path.nodes (λ x bytes e. e)
    (subst (AllByRecursion (AreOnWay m c.loop-path.nodes root)) (sym (drop_all c.loop-path.path-index c.args.paths.now (omega (arith, c.loop-path-test.false)))) tt)
