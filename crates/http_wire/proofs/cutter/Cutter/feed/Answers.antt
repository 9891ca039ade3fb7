use Rattle.std.proofs.Common.{◌≡◌, ◌++◌, List, ℕ, ◌≤◌, length, take, false, subst, sym, ap, ◌∙◌, arith, length-append}
use Rattle.http_model.specs.Stream.{ends_head}
use Rattle.http_wire.specs.Holding.{held, Awaits}
use Rattle.http_wire.proofs.CutterLemmas.{none_more, awaits_more}
use Rattle.http_wire.proofs.cutter.Cutter.feed.Goals as goal

pub invariant_of-self : goal.invariant_of-self
invariant_of-self c =
    let before = c.self.invariant in
    let old = held c.self.inside in
    let piece = c.args.piece.now in
    let added = rw c.unwrap.ensures at c.extend_from_slice.ensures.items in
    let items : c.extend_from_slice.new.self.items ≡ old ++ piece = added ∙ ap (λ bs. bs ++ piece) c.move_to_front.ensures.items in
    let none : List ℕ → Type 0 = λ bs. (n : ℕ) → n ≤ c.self.inside.scanned → ends_head (take n bs) ≡ false in
    let awaits : List ℕ → Type 0 = λ bs. Awaits bs c.self.inside.wanted in
    let scanned : List ℕ → Type 0 = λ bs. c.self.inside.scanned ≤ length bs in
    record {
      start = omega arith;
      room = let moved = c.move_to_front.ensures.room in let grown = c.extend_from_slice.ensures.capacity in let room = before.room in omega arith;
      headers = before.headers;
      scanned = subst scanned (sym items) (let within = before.scanned in omega (arith, length-append old piece));
      none = subst none (sym items) (none_more old piece c.self.inside.scanned before.scanned before.none);
      awaits = subst awaits (sym items) (awaits_more old piece c.self.inside.wanted before.awaits);
      most = before.most;
    }
