use Rattle.std.proofs.Common.{sym, ap, subst, ◌∙◌}
use Rattle.std.specs.Prelude.{option_map}
use Rattle.manifest_model.specs.Unode.{UnodeDir}
use Rattle.manifest_store.specs.Dirs.{left}
use Rattle.manifest_store.specs.Holding.{IsMore, AreOnWay}
use Rattle.manifest_store.proofs.Ways.{way_from, way_ends, way_here, here_more}
use Rattle.manifest_store.proofs.holding.hold_way.Goals as goal

pub returns-in_default-id_in-clause-way : goal.returns-in_default-id_in-clause-way
returns-in_default-id_in-clause-way c =
    let m = c.args.table.now.nodes in
    c.loop-rest.invariant.way c.loop-rest.nodes (λ x bytes e. e)
    (subst (AreOnWay m c.loop-rest.nodes c.loop-rest.at) (sym (ap left c.in-Some.is ∙ c.parted.ensures))
    (way_ends m c.loop-rest.nodes c.loop-rest.at c.parted.result.0.now (left c.parted.result.1) c.loop-rest.invariant.here (ap (option_map UnodeDir) (sym c.in_default-id_in.is) ∙ c.id_in.ensures)))

pub loop-rest-preserved : goal.loop-rest-preserved
loop-rest-preserved c =
    let m = c.args.table.now.nodes in
    record {
      are = c.in_ok-hold.ensures.are;
      more = λ x bytes e. c.in_ok-hold.ensures.more x bytes (c.loop-rest.invariant.more x bytes e);
      here = c.in_ok-hold.ensures.here;
      way = λ last more below.
          let all : IsMore c.loop-rest.nodes last = λ x bytes e. more x bytes (c.in_ok-hold.ensures.more x bytes e) in
          c.loop-rest.invariant.way last all
          (subst (AreOnWay m last c.loop-rest.at) (sym (ap left c.in-Some.is ∙ c.parted.ensures))
          (way_from m last c.loop-rest.at c.in-Some-id_in.id c.parted.result.0.now (left c.parted.result.1) (here_more m c.loop-rest.nodes last c.loop-rest.at all c.loop-rest.invariant.here)
          (ap (option_map UnodeDir) (sym c.in-Some-id_in.is) ∙ c.id_in.ensures) below));
    }

pub returns-clause-way : goal.returns-clause-way
returns-clause-way c =
    let m = c.args.table.now.nodes in
    c.loop-rest.invariant.way c.loop-rest.nodes (λ x bytes e. e)
    (subst (AreOnWay m c.loop-rest.nodes c.loop-rest.at) (sym (ap left c.in_default.is)) (way_here m c.loop-rest.nodes c.loop-rest.at c.loop-rest.invariant.here))
