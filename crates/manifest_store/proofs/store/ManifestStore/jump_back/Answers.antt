use Rattle.std.proofs.Common.{arith}
use Rattle.manifest_store.proofs.Lines.{itself}
use Rattle.manifest_store.proofs.store.ManifestStore.jump_back.Goals as goal

pub loop-exponent-init : goal.loop-exponent-init
loop-exponent-init c = record {
  in_chain = itself c.args.changesets.now.known c.requires.manifests.store c.args.number c.requires.known;
  unsettled = c.requires.unsettled;
  earlier = omega arith;
}
