use Rattle.std.proofs.Common.{◌≡◌, ◌<◌, ◌≤◌, ◌+◌, ◌∙◌, ◌++◌, ◌∷◌, [], ℕ, get_or, take, drop, length, refl, sym, ap, subst, inl, inr, Ok, Err, arith}
use Rattle.std.proofs.lemmas.List.{append_assoc, length-take-le, take_all}
use Rattle.bookmark_lock.specs.Place.{Place}
use Rattle.reply_model.specs.After.{Grants, Relation}
use Rattle.repo_calls.specs.Asking.{stored_answer}
use Rattle.repo_calls.specs.Calls.{granted_seen}
use Rattle.repo_calls.specs.Replying.{Honestly}
use Rattle.repo_calls.specs.Sealing.{SealedAfter}
use Rattle.repo_calls.specs.Widening.{Widens}
use Rattle.repo_calls.proofs.Sealing.{widens}
use Rattle.stacked_calls.specs.Chain.{AreGranted}
use Rattle.stacked_calls.specs.Stacking.{calls_seen}
use Rattle.stacked_calls.proofs.Stacking.{one_more, chain_ends, split_at, fault_grants_nothing}
use Rattle.bookmark_lock.specs.Place.{home_of}
use Rattle.shared_repo.proofs.served.ServedStackSeat.change_all.Goals as goal

abbrev replies_at : Place → ℕ → Relation
replies_at place n = Honestly place.lock.opening.honest (SealedAfter n)

widens_at : (place : Place) (m n : ℕ) → m ≤ n → Widens (replies_at place m) (replies_at place n)
widens_at place m n le = widens place.lock.opening.honest m n le

pub returns-in-Err-clause-reply : goal.returns-in-Err-clause-reply
returns-in-Err-clause-reply g c =
    let earlier = c.in-Some.earlier.now in
    let last = c.in-Some.last.now in
    let old = c.args.self.now in
    let was = c.loop-ask.self in
    let at = c.loop-ask.at in
    let kept = c.loop-ask.invariant in
    let less = subst (λ i. i < length earlier) (sym kept.place) c.loop-ask-test.true in
    let here = subst (λ i. c.ask-item.result ≡ get_or earlier i c.ask-item.result) (sym kept.place) c.ask-item.is in
    let split = c.in-Some.ensures.cases.0 ∙ ap (λ xs. xs ++ last ∷ []) (split_at earlier at c.ask-item.result less here) ∙ append_assoc (take at earlier) (c.ask-item.result ∷ drop (at + 1) earlier) (last ∷ []) in
    chain_ends replies_at widens_at (home_of old) old.lock.opening.header old.number old.front (λ _ _ _ _ _ _. ⊥) c.args.asks.now (take at earlier) (drop (at + 1) earlier ++ last ∷ []) c.ask-item.result at was.sealed c.change.new.self.sealed (stored_answer (Err c.in-Err.fault))
    (home_of was) was.lock.opening.header was.number was.front c.change.new.self.front
    c.change.ensures.seals split (sym (length-take-le at earlier (omega arith))) (inr (fault_grants_nothing c.in-Err.fault)) kept.home (ap (λ (p : Place). p.lock.opening.header) kept.home) (ap (λ (p : Place). p.number) kept.home) kept.granted c.in-Err.ensures.reply

pub loop-ask-preserved : goal.loop-ask-preserved
loop-ask-preserved g c =
    let earlier = c.in-Some.earlier.now in
    let old = c.args.self.now in
    let was = c.loop-ask.self in
    let kept = c.loop-ask.invariant in
    let less = subst (λ i. i < length earlier) (sym kept.place) c.loop-ask-test.true in
    let here = subst (λ i. c.ask-item.result ≡ get_or earlier i c.ask-item.result) (sym kept.place) c.ask-item.is in
    record {
      place = ap (λ n. n + 1) kept.place;
      granted =
          one_more replies_at widens_at (home_of old) old.lock.opening.header old.number old.front earlier c.loop-ask.at c.ask-item.result was.sealed c.change.new.self.sealed (granted_seen c.in_default-change.field-0)
          (home_of was) was.lock.opening.header was.number was.front c.change.new.self.front
          c.change.ensures.seals less here kept.home (ap (λ (p : Place). p.lock.opening.header) kept.home) (ap (λ (p : Place). p.number) kept.home) kept.granted c.in_default-change.ensures.reply;
      home = c.change.ensures.home ∙ kept.home;
      seals = (let seals = kept.seals in let more = c.change.ensures.seals in omega arith);
    }

pub returns-in-Ok-clause-reply : goal.returns-in-Ok-clause-reply
returns-in-Ok-clause-reply g c =
    let earlier = c.in-Some.earlier.now in
    let old = c.args.self.now in
    let was = c.loop-ask.self in
    let at = c.loop-ask.at in
    let kept = c.loop-ask.invariant in
    let all : take at earlier ≡ earlier = take_all at earlier (omega arith) in
    let at_is : at ≡ length earlier = omega arith in (
      at,
      chain_ends replies_at widens_at (home_of old) old.lock.opening.header old.number old.front (λ _ _ _ _ _ _. ⊥) c.args.asks.now earlier [] c.in-Some.last.now at was.sealed c.change-2.new.self.sealed (Grants (granted_seen c.in-Ok.granted))
          (home_of was) was.lock.opening.header was.number was.front c.change-2.new.self.front
          c.change-2.ensures.seals c.in-Some.ensures.cases.0 at_is (inl refl) kept.home (ap (λ (p : Place). p.lock.opening.header) kept.home) (ap (λ (p : Place). p.number) kept.home)
          (subst (λ xs. AreGranted (replies_at (home_of old) was.sealed) old.lock.opening.header old.number old.front (calls_seen xs) was.front) all kept.granted) c.in-Ok.ensures.reply,
    )

pub returns-in-Err-change-clause-reply : goal.returns-in-Err-change-clause-reply
returns-in-Err-change-clause-reply g c =
    let earlier = c.in-Some.earlier.now in
    let old = c.args.self.now in
    let was = c.loop-ask.self in
    let at = c.loop-ask.at in
    let kept = c.loop-ask.invariant in
    let all : take at earlier ≡ earlier = take_all at earlier (omega arith) in
    let at_is : at ≡ length earlier = omega arith in
    chain_ends replies_at widens_at (home_of old) old.lock.opening.header old.number old.front (λ _ _ _ _ _ _. ⊥) c.args.asks.now earlier [] c.in-Some.last.now at was.sealed c.change-2.new.self.sealed (stored_answer (Err c.in-Err-change.fault))
    (home_of was) was.lock.opening.header was.number was.front c.change-2.new.self.front
    c.change-2.ensures.seals c.in-Some.ensures.cases.0 at_is (inl refl) kept.home (ap (λ (p : Place). p.lock.opening.header) kept.home) (ap (λ (p : Place). p.number) kept.home)
    (subst (λ xs. AreGranted (replies_at (home_of old) was.sealed) old.lock.opening.header old.number old.front (calls_seen xs) was.front) all kept.granted) c.in-Err-change.ensures.reply
