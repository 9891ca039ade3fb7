use Rattle.std.proofs.Common.{◌≡◌, ap, ◌∙◌, arith}
use Rattle.std.specs.BTreeMap.{btree_map_len, insert_entry}
use Rattle.std.specs.Ordering.{nat_cmp}
use Rattle.std.proofs.lemmas.Grind.{common_steps}
use Rattle.std.specs.Prelude.{map}
use Rattle.unode.specs.Parts.{file_seen}
use Rattle.manifest_store.specs.Histories.{left_seen, one_seen}
use Rattle.manifest_store.proofs.Makings.{below_seen, cut_seen, ended, falls, found_first, found_next, goes, new_below, next, none_left, started}
use Rattle.manifest_store.proofs.history.makers.Goals as goal

pub add_node-requires : goal.add_node-requires
add_node-requires c =
    let f = c.requires.file in
    found_first c.args.changesets.now.known c.args.unodes.now.table.now c.requires.manifests f.1 f.0 c.args.id.now f.2

pub loop-file-init : goal.loop-file-init
loop-file-init c = λ n p is.
    let ks = c.args.changesets.now.known in
    let t = c.args.unodes.now.table.now in
    let first = found_first ks t c.requires.manifests p n c.args.id.now is in
    started ks t c.requires.manifests p n c.args.id.now is (left_seen c.add_node.new.left) c.new-ids.result.items
    (c.in_ok-add_node.ensures first.0 first.1 first.2 ∙ ap (λ es. insert_entry nat_cmp (map one_seen es) first.0 first.1) c.new-left.ensures.empty) c.new-ids.ensures.items

pub add_parents-requires : goal.add_parents-requires
add_parents-requires c =
    let ks = c.args.changesets.now.known in
    let t = c.args.unodes.now.table.now in
    let f = c.requires.file in
    let m = c.in-Some.field-0-0 in
    let u = file_seen c.in-Some.file in
    let rest = c.pop_last.new.self.entries in
    let cut = cut_seen c.loop-file.left.entries rest (m, c.in-Some.file) c.in-Some.ensures.removal in
    let below = below_seen rest m c.in-Some.ensures.all_below in
    let going = c.loop-file.invariant f.0 f.1 f.2 in (
      next ks t c.requires.manifests f.1 f.0 (left_seen c.loop-file.left) (left_seen c.pop_last.new.self) m u c.loop-file.ids.items cut below going,
      found_next ks t c.requires.manifests f.1 f.0 (left_seen c.loop-file.left) (left_seen c.pop_last.new.self) m u c.loop-file.ids.items cut below going,
    )

pub loop-file-preserved : goal.loop-file-preserved
loop-file-preserved c = λ n p is.
    let ks = c.args.changesets.now.known in
    let t = c.args.unodes.now.table.now in
    let m = c.in-Some.field-0-0 in
    let u = file_seen c.in-Some.file in
    let old = left_seen c.loop-file.left in
    let rest = left_seen c.pop_last.new.self in
    let ids = c.loop-file.ids.items in
    let cut = cut_seen c.loop-file.left.entries c.pop_last.new.self.entries (m, c.in-Some.file) c.in-Some.ensures.removal in
    let below = below_seen c.pop_last.new.self.entries m c.in-Some.ensures.all_below in
    let going = c.loop-file.invariant n p is in
    goes ks t c.requires.manifests p n old rest m u ids cut below going (left_seen c.add_parents.new.left) c.push.new.self.items
    (c.in_ok-add_parents.ensures (next ks t c.requires.manifests p n old rest m u ids cut below going) (found_next ks t c.requires.manifests p n old rest m u ids cut below going))
    c.in_ok-push.ensures.items

pub loop-file-smaller : goal.loop-file-smaller
loop-file-smaller c =
    let ks = c.args.changesets.now.known in
    let t = c.args.unodes.now.table.now in
    let f = c.requires.file in
    let m = c.in-Some.field-0-0 in
    let u = file_seen c.in-Some.file in
    let old = left_seen c.loop-file.left in
    let rest = left_seen c.pop_last.new.self in
    let ids = c.loop-file.ids.items in
    let cut = cut_seen c.loop-file.left.entries c.pop_last.new.self.entries (m, c.in-Some.file) c.in-Some.ensures.removal in
    let below = below_seen c.pop_last.new.self.entries m c.in-Some.ensures.all_below in
    let going = c.loop-file.invariant f.0 f.1 f.2 in
    falls old rest (left_seen c.add_parents.new.left) (m, u) cut
    (new_below ks t c.requires.manifests f.1 f.0 old rest m u ids cut below going (left_seen c.add_parents.new.left) c.push.new.self.items
    (c.in_ok-add_parents.ensures (next ks t c.requires.manifests f.1 f.0 old rest m u ids cut below going) (found_next ks t c.requires.manifests f.1 f.0 old rest m u ids cut below going))
    c.in_ok-push.ensures.items)

pub returns : goal.returns
returns c = λ n p is.
    let ks = c.args.changesets.now.known in
    let t = c.args.unodes.now.table.now in
    let none : btree_map_len c.loop-file.left ≡ 0 = grind (arith, common_steps) in
    ended ks t c.requires.manifests p n (left_seen c.loop-file.left) c.loop-file.ids.items (none_left c.loop-file.left.entries none) (c.loop-file.invariant n p is)
