use Rattle.std.proofs.Common.{length, map, take, [], refl, sym, ap, ◌∙◌, arith}
use Rattle.std.specs.Option.{option_map_or}
use Rattle.std.proofs.lemmas.List.{length-drop}
use Rattle.ancestry.specs.Forest.{line}
use Rattle.ancestry.proofs.Kept.{has_parent, climbs, earlier_known, takes}
use Rattle.ancestry.proofs.Following.{higher, following_is_front}
use Rattle.changeset_store.specs.Store.{changeset_at}
use Rattle.changeset_store.proofs.Stored.{are_known, members}
use Rattle.changeset_store.proofs.Forks.{is_member, following_by_numbers, found_more, found_all}
use Rattle.changeset_store.specs.Shared.{values}
use Rattle.std.specs.Arc.{arc_value}
use Rattle.changeset_store.proofs.store.ChangesetStore.following_shared.Goals as goal

pub distance-count-requires-clause-known : goal.distance-count-requires-clause-known
distance-count-requires-clause-known c =
    omega (arith, c.requires.known, members (values c.self.inside.commits.items) c.self.invariant _ (ap (λ s. s.known) c.self.view_is))

pub distance-count-requires-clause-ancestor : goal.distance-count-requires-clause-ancestor
distance-count-requires-clause-ancestor c =
    is_member c.args.self.now.known c.self.inside.chain.parents (are_known (values c.self.inside.commits.items) c.self.invariant _ (ap (λ s. s.known) c.self.view_is)) c.args.ancestor c.args.last c.requires

pub loop-init : goal.loop-init
loop-init c = record {
  known = omega (arith, c.requires.known, members (values c.self.inside.commits.items) c.self.invariant _ (ap (λ s. s.known) c.self.view_is));
  left = refl;
  taken = ap (map arc_value) c.in_ok-found.ensures.items;
  size = c.in_ok-found.ensures.len;
  room = c.in_ok-found.ensures.exact;
}

pub shared_at-requires : goal.shared_at-requires
shared_at-requires c =
    omega (arith, c.loop.invariant.known, members (values c.self.inside.commits.items) c.self.invariant _ (ap (λ s. s.known) c.self.view_is))

pub unwrap-number-requires : goal.unwrap-number-requires
unwrap-number-requires c =
    let ps = c.self.inside.chain.parents in
    let there = is_member c.args.self.now.known ps (are_known (values c.self.inside.commits.items) c.self.invariant _ (ap (λ s. s.known) c.self.view_is)) c.args.ancestor c.args.last c.requires in
    let higher = higher ps c.args.ancestor c.args.last c.distance-count.result c.distance-count.ensures.earlier there c.distance-count.ensures.distance in
    let left = ap length c.loop.invariant.left ∙ length-drop c.loop.counter (line ps c.args.last) in
    has_parent ps c.loop.number c.parent.result c.parent.ensures.line (omega arith)

pub loop-preserved : goal.loop-preserved
loop-preserved c =
    let ps = c.self.inside.chain.parents in
    record {
      known = earlier_known (length ps) c.loop.number c.unwrap-number.result c.parent.result c.unwrap-number.ensures c.parent.ensures.earlier c.loop.invariant.known;
      left = climbs ps (line ps c.args.last) c.loop.counter c.loop.number c.unwrap-number.result c.parent.result c.unwrap-number.ensures c.parent.ensures.line c.loop.invariant.left;
      taken = found_more c.args.self.now.known arc_value (line ps c.args.last) c.loop.counter c.loop.number c.loop.found.items _ c.in_ok-shared_at.field-0 c.loop.invariant.taken c.push_reserved.ensures.items c.in_ok-shared_at.ensures
          (takes (line ps c.args.last) c.loop.counter c.loop.number (option_map_or (line ps) c.parent.result []) (sym c.loop.invariant.left ∙ c.parent.ensures.line));
      size = omega (arith, c.push_reserved.ensures.len);
      room = omega (arith, c.push_reserved.ensures.capacity);
    }

pub returns : goal.returns
returns c =
    let ks = c.args.self.now.known in
    let ps = c.self.inside.chain.parents in
    let known = are_known (values c.self.inside.commits.items) c.self.invariant _ (ap (λ s. s.known) c.self.view_is) in
    let there = is_member ks ps known c.args.ancestor c.args.last c.requires in
    let earlier = c.distance-count.ensures.earlier in
    found_all ks arc_value (take c.distance-count.result (line ps c.args.last)) c.loop.found.items _ (c.loop.invariant.taken ∙ ap (λ k. map (changeset_at ks) (take k (line ps c.args.last))) (omega arith)) c.reverse.ensures.items
    ∙ ap (map (changeset_at ks)) (sym (following_is_front ps c.args.ancestor c.args.last c.distance-count.result earlier there (higher ps c.args.ancestor c.args.last c.distance-count.result earlier there c.distance-count.ensures.distance).above))
    ∙ sym (following_by_numbers ks ps known c.args.ancestor c.args.last c.requires)
