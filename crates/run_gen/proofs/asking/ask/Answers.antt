use Rattle.std.proofs.Common.{[], ◌∷◌, Err, Ok, subst, sym}
use Rattle.reply_model.specs.After.{After, Call}
use Rattle.repo_calls.specs.Calls.{granted_seen}
use Rattle.repo_calls.specs.declared.ask.Granted.{Granted}
use Rattle.run_gen.specs.Answers.{Answered}
use Rattle.run_gen.specs.declared.fault.LoadFault.{LoadFault}
use Rattle.run_gen.proofs.Joined.{one_granted}
use Rattle.repo_calls.specs.Asking.{stored_answer}
use Rattle.repo_calls.specs.declared.calls.ChangeFault.{ChangeFault}
use Rattle.run_gen.proofs.Outcomes.{fits, stopped, never_fails, never_misread, never_unread}
use Rattle.run_gen.proofs.asking.ask.Goals as goal

pub returns-in-Ok-clause-answered : goal.returns-in-Ok-clause-answered
returns-in-Ok-clause-answered g c = λ asked is.
    let header = c.args.repo.now.opening.header in
    let who = c.args.seat.now.number in
    let from = c.args.seat.now.front in
    let to = c.change.new.seat.front in
    one_granted header who from to asked (granted_seen c.in-Ok.granted) c.in-Ok.granted (subst (λ (call : Call). After header from who call (stored_answer (Ok c.in-Ok.granted)) to) is c.in-Ok.ensures.after)

pub returns-in-Ok-clause-fits : goal.returns-in-Ok-clause-fits
returns-in-Ok-clause-fits g c = λ asked is.
    let header = c.args.repo.now.opening.header in
    let who = c.args.seat.now.number in
    let from = c.args.seat.now.front in
    let to = c.change.new.seat.front in
    fits header who from to asked (granted_seen c.in-Ok.granted) (subst (λ (call : Call). After header from who call (stored_answer (Ok c.in-Ok.granted)) to) is c.in-Ok.ensures.after)

pub returns-in-Err-Refused-clause-answered : goal.returns-in-Err-Refused-clause-answered
returns-in-Err-Refused-clause-answered g c = λ asked is.
    let header = c.args.repo.now.opening.header in
    let who = c.args.seat.now.number in
    let from = c.args.seat.now.front in
    let to = c.change.new.seat.front in
    let after = subst (λ (t : Call × ChangeFault). After header from who t.0 (stored_answer (Err t.1)) to) (λ i. (is i, c.in-Err-Refused.field-0-is i)) c.in-Err-Refused.ensures.after in
    subst (λ (f : LoadFault). Answered {X = Granted} header who from (asked ∷ []) [] (Err f) to) (sym c.fault_of.ensures) (stopped header who from to asked (c.change.ensures.front.calm c.requires.quiet) c.in-Err-Refused.refusal after)

pub unreachable-requires : goal.unreachable-requires
unreachable-requires g c =
    let header = c.args.repo.now.opening.header in
    let who = c.args.seat.now.number in
    let from = c.args.seat.now.front in
    let to = c.change.new.seat.front in
    let after = subst (λ (t : Call × ChangeFault). After header from who t.0 (stored_answer (Err t.1)) to) (λ i. (c.requires.asks.1 i, c.in-Err-DiskFault.field-0-is i)) c.in-Err-DiskFault.ensures.after in
    never_fails header who from to c.requires.asks.0 after (c.change.ensures.front.calm c.requires.quiet)

pub unreachable-requires-in-Err-ReadFault : goal.unreachable-requires-in-Err-ReadFault
unreachable-requires-in-Err-ReadFault g c =
    let header = c.args.repo.now.opening.header in
    let who = c.args.seat.now.number in
    let from = c.args.seat.now.front in
    let to = c.change.new.seat.front in
    let after = subst (λ (t : Call × ChangeFault). After header from who t.0 (stored_answer (Err t.1)) to) (λ i. (c.requires.asks.1 i, c.in-Err-ReadFault.field-0-is i)) c.in-Err-ReadFault.ensures.after in
    never_unread header who from to c.requires.asks.0 after

pub unreachable-requires-in-Err-BadBytes : goal.unreachable-requires-in-Err-BadBytes
unreachable-requires-in-Err-BadBytes g c =
    let header = c.args.repo.now.opening.header in
    let who = c.args.seat.now.number in
    let from = c.args.seat.now.front in
    let to = c.change.new.seat.front in
    let after = subst (λ (t : Call × ChangeFault). After header from who t.0 (stored_answer (Err t.1)) to) (λ i. (c.requires.asks.1 i, c.in-Err-BadBytes.field-0-is i)) c.in-Err-BadBytes.ensures.after in
    never_misread header who from to c.requires.asks.0 _ _ after
