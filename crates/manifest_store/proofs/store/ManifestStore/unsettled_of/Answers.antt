use Rattle.std.proofs.Common.{sym, ◌∙◌}
use Rattle.manifest_store.proofs.Reached.{all_settled, reached_chain, reached_itself, reached_second}
use Rattle.manifest_store.proofs.store.ManifestStore.unsettled_of.Goals as goal

pub returns-then-is_settled-clause-none : goal.returns-then-is_settled-clause-none
returns-then-is_settled-clause-none c = λ m of.
    all_settled c.args.changesets.now.known c.args.self.now c.requires.manifests c.args.number (sym c.is_settled.ensures ∙ c.if-is_settled.true) m of

pub loop-second-init : goal.loop-second-init
loop-second-init c =
    let ks = c.args.changesets.now.known in
    let store = c.requires.manifests.store in
    let found = c.oldest_in_chain-oldest.ensures in
    record {
      reached = reached_chain ks store c.oldest_in_chain-oldest.result c.args.number c.args.number (reached_itself ks store c.args.number c.requires.known) found.in_chain;
      unsettled = found.unsettled;
      first_settled = found.first_settled;
    }

pub loop-second-preserved : goal.loop-second-preserved
loop-second-preserved c =
    let ks = c.args.changesets.now.known in
    let store = c.requires.manifests.store in
    let found = c.oldest_in_chain-oldest-in-Some.ensures in
    record {
      reached = reached_chain ks store c.oldest_in_chain-oldest-in-Some.result c.in-Some.second c.args.number (reached_second ks store c.loop-second.oldest c.args.number c.in-Some.second c.loop-second.invariant.reached c.in-Some.ensures.second.0) found.in_chain;
      unsettled = found.unsettled;
      first_settled = found.first_settled;
    }
