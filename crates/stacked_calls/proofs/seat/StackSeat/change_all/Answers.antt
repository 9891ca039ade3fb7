use Rattle.std.proofs.Common.{◌≡◌, ◌<◌, ◌+◌, ◌∙◌, ◌++◌, ◌∷◌, [], get_or, take, drop, length, refl, sym, ap, subst, inl, inr, Ok, Err, arith}
use Rattle.std.proofs.lemmas.List.{append_assoc, length-take-le, take_all}
use Rattle.repo_calls.specs.Asking.{stored_answer}
use Rattle.repo_calls.specs.Calls.{granted_seen}
use Rattle.reply_model.specs.After.{Grants}
use Rattle.stacked_calls.specs.Chain.{AreGranted}
use Rattle.stacked_calls.specs.Stacking.{calls_seen}
use Rattle.stacked_calls.proofs.Stacking.{one_more, chain_ends, split_at, fault_grants_nothing}
use Rattle.stacked_calls.proofs.seat.StackSeat.change_all.Goals as goal

pub returns-in-Err-clause-reply : goal.returns-in-Err-clause-reply
returns-in-Err-clause-reply g c =
    let asks = c.args.asks.now in
    let earlier = c.in-Some.earlier.now in
    let last = c.in-Some.last.now in
    let at = c.loop-ask.at in
    let kept = c.loop-ask.invariant in
    let less = subst (λ i. i < length earlier) (sym kept.place) c.loop-ask-test.true in
    let here = subst (λ i. c.ask-item.result ≡ get_or earlier i c.ask-item.result) (sym kept.place) c.ask-item.is in
    let split = c.in-Some.ensures.cases.0 ∙ ap (λ xs. xs ++ last ∷ []) (split_at earlier at c.ask-item.result less here) ∙ append_assoc (take at earlier) (c.ask-item.result ∷ drop (at + 1) earlier) (last ∷ []) in
    chain_ends g.Self.Seat.replies g.met.Self.Seat.widens (g.Self.Seat.home c.args.self.now) (g.Self.Seat.header c.args.self.now) (g.Self.Seat.number c.args.self.now) (g.Self.Seat.front c.args.self.now) g.Self.StackSeat.enters asks (take at earlier) (drop (at + 1) earlier ++ last ∷ []) c.ask-item.result at (g.Self.Seat.sealed c.loop-ask.self) (g.Self.Seat.sealed c.change.new.self) (stored_answer (Err c.in-Err.fault))
    (g.Self.Seat.home c.loop-ask.self) (g.Self.Seat.header c.loop-ask.self) (g.Self.Seat.number c.loop-ask.self) (g.Self.Seat.front c.loop-ask.self) (g.Self.Seat.front c.change.new.self)
    c.change.ensures.seals split (sym (length-take-le at earlier (omega arith))) (inr (fault_grants_nothing c.in-Err.fault)) kept.home kept.header kept.number kept.granted c.in-Err.ensures.reply

pub loop-ask-preserved : goal.loop-ask-preserved
loop-ask-preserved g c =
    let earlier = c.in-Some.earlier.now in
    let kept = c.loop-ask.invariant in
    let less = subst (λ i. i < length earlier) (sym kept.place) c.loop-ask-test.true in
    let here = subst (λ i. c.ask-item.result ≡ get_or earlier i c.ask-item.result) (sym kept.place) c.ask-item.is in
    record {
      place = ap (λ n. n + 1) kept.place;
      granted =
          one_more g.Self.Seat.replies g.met.Self.Seat.widens (g.Self.Seat.home c.args.self.now) (g.Self.Seat.header c.args.self.now) (g.Self.Seat.number c.args.self.now) (g.Self.Seat.front c.args.self.now) earlier c.loop-ask.at c.ask-item.result (g.Self.Seat.sealed c.loop-ask.self) (g.Self.Seat.sealed c.change.new.self) (granted_seen c.in_default-change.field-0)
          (g.Self.Seat.home c.loop-ask.self) (g.Self.Seat.header c.loop-ask.self) (g.Self.Seat.number c.loop-ask.self) (g.Self.Seat.front c.loop-ask.self) (g.Self.Seat.front c.change.new.self)
          c.change.ensures.seals less here kept.home kept.header kept.number kept.granted c.in_default-change.ensures.reply;
      header = c.change.ensures.header ∙ kept.header;
      number = c.change.ensures.number ∙ kept.number;
      seals = (let seals = kept.seals in let more = c.change.ensures.seals in omega arith);
      home = c.change.ensures.home ∙ kept.home;
    }

pub returns-in-Ok-clause-reply : goal.returns-in-Ok-clause-reply
returns-in-Ok-clause-reply g c =
    let earlier = c.in-Some.earlier.now in
    let at = c.loop-ask.at in
    let kept = c.loop-ask.invariant in
    let all : take at earlier ≡ earlier = take_all at earlier (omega arith) in
    let at_is : at ≡ length earlier = omega arith in (
      at,
      chain_ends g.Self.Seat.replies g.met.Self.Seat.widens (g.Self.Seat.home c.args.self.now) (g.Self.Seat.header c.args.self.now) (g.Self.Seat.number c.args.self.now) (g.Self.Seat.front c.args.self.now) g.Self.StackSeat.enters c.args.asks.now earlier [] c.in-Some.last.now at (g.Self.Seat.sealed c.loop-ask.self) (g.Self.Seat.sealed c.change-2.new.self) (Grants (granted_seen c.in-Ok.granted))
          (g.Self.Seat.home c.loop-ask.self) (g.Self.Seat.header c.loop-ask.self) (g.Self.Seat.number c.loop-ask.self) (g.Self.Seat.front c.loop-ask.self) (g.Self.Seat.front c.change-2.new.self)
          c.change-2.ensures.seals c.in-Some.ensures.cases.0 at_is (inl refl) kept.home kept.header kept.number
          (subst (λ xs. AreGranted (g.Self.Seat.replies (g.Self.Seat.home c.args.self.now) (g.Self.Seat.sealed c.loop-ask.self)) (g.Self.Seat.header c.args.self.now) (g.Self.Seat.number c.args.self.now) (g.Self.Seat.front c.args.self.now) (calls_seen xs) (g.Self.Seat.front c.loop-ask.self)) all kept.granted) c.in-Ok.ensures.reply,
    )

pub returns-in-Err-change-clause-reply : goal.returns-in-Err-change-clause-reply
returns-in-Err-change-clause-reply g c =
    let earlier = c.in-Some.earlier.now in
    let at = c.loop-ask.at in
    let kept = c.loop-ask.invariant in
    let all : take at earlier ≡ earlier = take_all at earlier (omega arith) in
    let at_is : at ≡ length earlier = omega arith in
    chain_ends g.Self.Seat.replies g.met.Self.Seat.widens (g.Self.Seat.home c.args.self.now) (g.Self.Seat.header c.args.self.now) (g.Self.Seat.number c.args.self.now) (g.Self.Seat.front c.args.self.now) g.Self.StackSeat.enters c.args.asks.now earlier [] c.in-Some.last.now at (g.Self.Seat.sealed c.loop-ask.self) (g.Self.Seat.sealed c.change-2.new.self) (stored_answer (Err c.in-Err-change.fault))
    (g.Self.Seat.home c.loop-ask.self) (g.Self.Seat.header c.loop-ask.self) (g.Self.Seat.number c.loop-ask.self) (g.Self.Seat.front c.loop-ask.self) (g.Self.Seat.front c.change-2.new.self)
    c.change-2.ensures.seals c.in-Some.ensures.cases.0 at_is (inl refl) kept.home kept.header kept.number
    (subst (λ xs. AreGranted (g.Self.Seat.replies (g.Self.Seat.home c.args.self.now) (g.Self.Seat.sealed c.loop-ask.self)) (g.Self.Seat.header c.args.self.now) (g.Self.Seat.number c.args.self.now) (g.Self.Seat.front c.args.self.now) (calls_seen xs) (g.Self.Seat.front c.loop-ask.self)) all kept.granted) c.in-Err-change.ensures.reply
