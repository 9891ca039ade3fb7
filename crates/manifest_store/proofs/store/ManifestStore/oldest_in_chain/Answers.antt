use Rattle.std.proofs.Common.{sym, ◌∙◌, arith}
use Rattle.manifest_store.proofs.Lines.{ancestor_up}
use Rattle.manifest_store.proofs.store.ManifestStore.oldest_in_chain.Goals as goal

pub loop-parent-init : goal.loop-parent-init
loop-parent-init c = record { in_chain = c.jump_back-oldest.ensures.in_chain; unsettled = c.jump_back-oldest.ensures.unsettled; earlier = c.jump_back-oldest.ensures.earlier }

pub loop-parent-preserved : goal.loop-parent-preserved
loop-parent-preserved c = record {
  in_chain = ancestor_up c.args.changesets.now.known c.requires.manifests.store c.loop-parent.oldest c.args.number c.in-Some.parent c.loop-parent.invariant.in_chain (sym c.parent.ensures.parent ∙ c.in-Some.is);
  unsettled = sym c.is_settled.ensures ∙ c.if-is_settled.false;
  earlier = omega (arith, c.in-Some.ensures.earlier, c.loop-parent.invariant.earlier);
}
