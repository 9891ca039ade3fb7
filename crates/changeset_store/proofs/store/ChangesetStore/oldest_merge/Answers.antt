use Rattle.std.proofs.Common.{Some, ap}
use Rattle.changeset_store.proofs.Oldest.{one_older, no_older}
use Rattle.changeset_store.proofs.store.ChangesetStore.oldest_merge.Goals as goal

pub merges-preserved : goal.merges-preserved
merges-preserved c = record {
  ancestor = c.in-Some-previous.ensures.ancestor;
  found = one_older c.args.self.now.known c.args.ancestor c.args.last c.merges.number c.merges.oldest c.merges.invariant.found c.in-Some.merge c.in-Some-previous.earlier c.at.result.now _ c.in-Some.ensures.same c.in-Some.ensures.merge c.in-Some-previous.ensures.newest c.at.ensures (ap Some c.id.ensures);
}

pub returns : goal.returns
returns c = no_older c.args.self.now.known c.args.ancestor c.args.last c.merges.number c.merges.oldest c.merges.invariant.found c.in_default.ensures.none
