use Rattle.std.specs.Prelude.{All}
use Rattle.std.proofs.Common.{◌+◌, ◌≤◌, ◌∙◌, ap, sym, subst, ℕ}
use Rattle.std.proofs.lemmas.List.Elements.{All-push}
use Rattle.bookmark_lock.specs.Place.{Place}
use Rattle.server_lanes.specs.Lanes.{IsAt}
use Rattle.server_lanes.proofs.Splitting.{at_new, parts_less, split_more}
use Rattle.server_lanes.proofs.lanes.split_lanes.Goals as goal

pub loop-preserved : goal.loop-preserved
loop-preserved g c =
    let inv = c.loop.invariant in
    let site = c.args.repo.now in
    let lock = ap (λ (p : Place). p.lock) inv.0 ∙ c.requires.place in
    let lane = at_new site c.loop.lead c.new-seat.result c.split_off.result c.new.result lock (c.new-seat.ensures ∙ (c.new-served.ensures ∙ c.split.ensures.seat)) c.split_off.ensures.part c.new.ensures in (
      split_more c.args.lead.now c.loop.lead c.split.new.lead c.loop.counter inv.0 c.split.ensures.lead,
      parts_less c.loop.tally c.split_off.new.self c.args.lanes c.loop.counter inv.1 c.split_off.ensures.rest,
      c.push_reserved.ensures.len ∙ ap (λ (n : ℕ). n + 1) inv.2,
      subst (λ (n : ℕ). c.args.lanes ≤ n) (sym c.push_reserved.ensures.capacity) inv.3,
      subst (All (IsAt site)) (sym c.push_reserved.ensures.items) (All-push (IsAt site) c.loop.made.items c.new.result inv.4 lane),
    )
