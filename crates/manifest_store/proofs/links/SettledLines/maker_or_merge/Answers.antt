use Rattle.std.proofs.Math.Logic.{∥∥₁_elim}
use Rattle.manifest_store.proofs.LinkMoves.{is_link_of, link_known}
use Rattle.manifest_store.proofs.links.SettledLines.maker_or_merge.Goals as goal

pub unreachable-requires : goal.unreachable-requires
unreachable-requires c =
    let lines = c.args.self.now in
    ∥∥₁_elim lines.manifests (λ x y. absurd x) (λ a. link_known lines.changesets.now.known lines.table.now a c.args.path.now c.args.at c.requires c.in_ok-id.id c.in_ok-id.ensures c.in_default.ensures.number)

pub returns-clause-end : goal.returns-clause-end
returns-clause-end c =
    let ks = c.args.self.now.changesets.now.known in
    let p = c.args.path.now in
    let is = is_link_of ks p c.args.at c.in_ok-id.id c.in-Some.link c.in_ok-id.ensures c.in-Some.ensures.number in
    let told = c.merge_or_link.ensures in
    record { settled = told.settled; upto = told.upto; file = told.file p is; last = told.last p is }
