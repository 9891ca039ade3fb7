use Rattle.std.proofs.Common.{◌++◌, length, refl, sym, ap, subst, ◌∙◌, arith}
use Rattle.std.proofs.lemmas.List.{length-map}
use Rattle.changeset_model.specs.Changeset.{id_of}
use Rattle.reply_model.specs.Legal.{IsLegal}
use Rattle.repo_machine.proofs.LandingLaws.{lands}
use Rattle.repo_machine.proofs.LandingEntry.{old_landed, ids_landed}
use Rattle.std.specs.Prelude.{None}
use Rattle.reply_model.specs.Reply.{LandDraft}
use Rattle.reply_model.specs.After.{Asks, Grants, Replies, entries_of}
use Rattle.repo_calls.specs.Calls.{granted_seen, landing_answer}
use Rattle.repo_machine.proofs.Judging.{answers_refusal, replies_admitted}
use Rattle.repo_machine.proofs.machine.Machine.land.Goals as goal

pub returns-in_err-judged-clause-reply : goal.returns-in_err-judged-clause-reply
returns-in_err-judged-clause-reply c =
    answers_refusal landing_answer (λ e. refl) c.args.self.now.header c.args.self.now.history c.args.who (LandDraft c.args.caller.now c.args.name.now c.args.draft c.args.moment) c.from_residual.result _ c.judge_landing.new.self.history c.from_residual.ensures.1 c.in_err-judged.ensures.err c.judge_landing.ensures.history

pub returns-clause-reply : goal.returns-clause-reply
returns-clause-reply c =
    subst (λ g. Replies c.args.self.now.header c.args.self.now.history c.args.who (Asks (LandDraft c.args.caller.now c.args.name.now c.args.draft c.args.moment)) (Grants g) c.admit.new.self.history) (sym c.admit.ensures.granted ∙ ap granted_seen c.in-Landing.is)
    (replies_admitted c.args.self.now.header c.args.self.now.history c.args.who (LandDraft c.args.caller.now c.args.name.now c.args.draft c.args.moment) c.in_ok-judged.judged c.admit.new.self.history c.in_ok-judged.ensures.ok.is_judged c.in_ok-judged.ensures.ok.by
    (c.admit.ensures.history ∙ ap (λ h. h ++ entries_of c.in_ok-judged.judged.who (record { entry = c.in_ok-judged.judged.made; fault = None })) c.judge_landing.ensures.history))

pub returns-clause-few : goal.returns-clause-few
returns-clause-few c =
    let ids = ids_landed _ _ _ _ (sym c.in_ok-judged.ensures.lands.granted_is ∙ sym c.admit.ensures.granted ∙ ap granted_seen c.in-Landing.is) in
    let long = ap length ids ∙ length-map c.in_ok-judged.ensures.lands.landing.new id_of in
    let few = c.in_ok-judged.ensures.lands.able.few in
    omega arith

pub returns-clause-lands : goal.returns-clause-lands
returns-clause-lands c =
    let e = sym c.in_ok-judged.ensures.lands.granted_is ∙ sym c.admit.ensures.granted ∙ ap granted_seen c.in-Landing.is in
    lands c.args.self.now.header c.args.self.now.history c.in_ok-judged.judged.who c.in_ok-judged.ensures.lands.landing c.args.caller.now c.args.name.now c.args.draft c.args.moment c.in_ok-judged.ensures.lands.able c.admit.new.self.history
    (c.admit.ensures.history ∙ (λ i. c.judge_landing.ensures.history i ++ entries_of c.in_ok-judged.judged.who (record { entry = c.in_ok-judged.ensures.lands.made_is i; fault = None })))
    (subst (λ header. IsLegal header c.admit.new.self.history) (c.admit.ensures.header ∙ c.judge_landing.ensures.header) c.admit.ensures.legal)
    _ _ (old_landed _ _ _ _ e) (ids_landed _ _ _ _ e)
