use Rattle.std.proofs.Common.{subst}
use Rattle.reply_model.specs.After.{After, Looks}
use Rattle.bookmark_lock.specs.Place.{Place, Site}
use Rattle.shared_repo.proofs.Stored.{look_stores}
use Rattle.shared_repo.proofs.Turning.{front_in, replied_in, stores_none}
use Rattle.shared_repo.proofs.repo.Repo.look_in_turn.Goals as goal

pub invariant_of-seat : goal.invariant_of-seat
invariant_of-seat g c =
    let t = c.enter.ensures.turn in
    let ran = t.ran in
    let reply = ran.met.0 in
    let seat = c.seat.inside.inner in
    let who = c.number-who.result in
    let shown = ran.shown.now in
    let left = ran.left.now in (
      front_in _ _ seat c.enter.new.seat c.enter.result t who c.number-who.ensures shown left ran.shows ran.leaves ran.met.1.1.1,
      stores_none _ _ seat c.enter.new.seat c.enter.result t who c.number-who.ensures shown left ran.shows ran.leaves c.seat.invariant.1 (look_stores _ _ _ _ _ _ reply.2),
    )

pub returns-clause-after : goal.returns-clause-after
returns-clause-after g c =
    let t = c.enter.ensures.turn in
    let ran = t.ran in
    let reply = ran.met.0 in
    let seat = c.seat.inside.inner in
    let new = c.enter.new.seat in
    let call = Looks (g.Q.TurnRead.asked c.args.question.now) in
    let after = replied_in _ _ seat new c.enter.result t c.number-who.result c.number-who.ensures ran.shown.now ran.left.now ran.shows ran.leaves call reply.0 reply.2 in (
      reply.0,
      reply.1,
      subst (λ (s : Site). After s.opening.header c.args.seat.now.front c.args.seat.now.number call reply.0 new.front) c.requires.place
          (subst (λ (p : Place). After p.lock.opening.header p.front p.number call reply.0 new.front) c.seat.view_is after),
    )
