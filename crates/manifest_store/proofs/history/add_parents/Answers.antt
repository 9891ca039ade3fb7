use Rattle.std.proofs.Common.{[], ◌∷◌, subst}
use Rattle.unode.specs.Parts.{parents_seen}
use Rattle.manifest_store.specs.Histories.{AreUnodesOf}
use Rattle.manifest_store.proofs.Makings.{first_of, second_of}
use Rattle.manifest_store.proofs.history.add_parents.Goals as goal

pub add_node-requires : goal.add_node-requires
add_node-requires c =
    let ks = c.args.changesets.now.known in
    let m = c.args.unodes.now.table.now.nodes in
    first_of m ks c.in-One.parent [] c.requires.0 (subst (λ ps. AreUnodesOf m ks (parents_seen ps) c.requires.0) c.in-One.is c.requires.1)

pub add_node-requires-in-Two : goal.add_node-requires-in-Two
add_node-requires-in-Two c =
    let ks = c.args.changesets.now.known in
    let m = c.args.unodes.now.table.now.nodes in
    first_of m ks c.in-Two.first (c.in-Two.second ∷ []) c.requires.0 (subst (λ ps. AreUnodesOf m ks (parents_seen ps) c.requires.0) c.in-Two.is c.requires.1)

pub add_node-requires-in-Two-2 : goal.add_node-requires-in-Two-2
add_node-requires-in-Two-2 c =
    let ks = c.args.changesets.now.known in
    let m = c.args.unodes.now.table.now.nodes in
    second_of m ks c.in-Two.first c.in-Two.second [] c.requires.0 (subst (λ ps. AreUnodesOf m ks (parents_seen ps) c.requires.0) c.in-Two.is c.requires.1)
