use Rattle.std.proofs.Common.{subst}
use Rattle.std.proofs.lemmas.Result.{IfErr-weaker}
use Rattle.reply_model.specs.After.{After, Looks}
use Rattle.reply_model.specs.Reply.{ContentOf}
use Rattle.repo_calls.specs.Asking.{fault_answer}
use Rattle.bookmark_lock.specs.Place.{Place, Site}
use Rattle.shared_repo.proofs.Stored.{read_stores}
use Rattle.shared_repo.proofs.Turning.{front_in, replied_in, stores_none}
use Rattle.shared_repo.proofs.repo.Repo.found_content.Goals as goal

pub invariant_of-seat : goal.invariant_of-seat
invariant_of-seat g c =
    let t = c.enter.ensures.turn in
    let ran = t.ran in
    let seat = c.seat.inside.inner in
    let who = c.number-who.result in
    let shown = ran.shown.now in
    let left = ran.left.now in (
      front_in _ _ seat c.enter.new.seat c.enter.result t who c.number-who.ensures shown left ran.shows ran.leaves ran.met.1.1.1.1.1,
      stores_none _ _ seat c.enter.new.seat c.enter.result t who c.number-who.ensures shown left ran.shows ran.leaves c.seat.invariant.1 (read_stores _ _ _ _ (ContentOf c.args.id) c.enter.result _ ran.met.0 ran.met.1.0),
    )

pub returns-clause-err : goal.returns-clause-err
returns-clause-err g c =
    let t = c.enter.ensures.turn in
    let ran = t.ran in
    let seat = c.seat.inside.inner in
    let new = c.enter.new.seat in
    let call = Looks (ContentOf c.args.id) in
    IfErr-weaker c.enter.result _ _
    (λ fault replies.
    let after = replied_in _ _ seat new c.enter.result t c.number-who.result c.number-who.ensures ran.shown.now ran.left.now ran.shows ran.leaves call (fault_answer fault) replies in
    subst (λ (s : Site). After s.opening.header c.args.seat.now.front c.args.seat.now.number call (fault_answer fault) new.front) c.requires.place
    (subst (λ (p : Place). After p.lock.opening.header p.front p.number call (fault_answer fault) new.front) c.seat.view_is after))
    ran.met.1.0
