use Rattle.std.specs.Prelude.{All, vec_len}
use Rattle.std.proofs.Common.{◌≡◌, ◌+◌, ◌≤◌, ◌∙◌, [], length, ap, sym, subst, arith, ℕ}
use Rattle.std.proofs.lemmas.List.Elements.{All-push}
use Rattle.history_model.specs.History.{entries_by}
use Rattle.bookmark_lock.specs.Place.{Place, new_place}
use Rattle.server_lanes.specs.Derivers.{AreNumbered, IsIdle}
use Rattle.server_lanes.proofs.Idle.{numbered_push}
use Rattle.server_lanes.proofs.Splitting.{split_more}
use Rattle.server_lanes.proofs.derivers.split_derivers.Goals as goal

pub loop-preserved : goal.loop-preserved
loop-preserved g c =
    let inv = c.loop.invariant in
    let site = c.args.repo.now in
    let items = c.loop.made.items in
    let first = c.args.lead.now.split + 1 in
    let seat = c.new.ensures ∙ c.new-seat.ensures in
    let is : c.new.result ≡ new_place c.loop.lead = seat ∙ c.split.ensures.seat in
    let idle : IsIdle site c.new.result = record {
      lock = ap (λ (p : Place). p.lock) is ∙ (ap (λ (p : Place). p.lock) inv.0 ∙ c.requires.place);
      none = subst (λ (p : Place). entries_by p.number p.front ≡ []) (sym seat) c.split.ensures.unused;
    } in
    let drawn : c.new.result.number ≡ c.loop.lead.split + 1 = ap (λ (p : Place). p.number) is in
    let split : c.loop.lead.split ≡ c.args.lead.now.split + c.loop.counter = ap (λ (p : Place). p.split) inv.0 in
    let many : c.loop.made.len ≡ length items = c.loop.made.ok.0 in
    let count : c.loop.made.len ≡ c.loop.counter = inv.1 in
    let number : c.new.result.number ≡ first + length items = omega (arith, drawn, split, many, count) in
    let popped : vec_len c.pop.new.self + 1 ≡ vec_len c.loop.ends = c.in-Some.ensures.cases in
    let ends : vec_len c.loop.ends + c.loop.counter ≡ c.args.derivers = inv.3 in (
      split_more c.args.lead.now c.loop.lead c.split.new.lead c.loop.counter inv.0 c.split.ensures.lead,
      c.push_reserved.ensures.len ∙ ap (λ (n : ℕ). n + 1) inv.1,
      subst (λ (n : ℕ). c.args.derivers ≤ n) (sym c.push_reserved.ensures.capacity) inv.2,
      omega (arith, popped, ends),
      subst (All (IsIdle site)) (sym c.push_reserved.ensures.items) (All-push (IsIdle site) items c.new.result inv.4 idle),
      subst (AreNumbered first) (sym c.push_reserved.ensures.items) (numbered_push first items c.new.result inv.5 number),
    )
