use Rattle.std.proofs.Common.{◌≡◌, ◌≤◌, sym, subst, length}
use Rattle.std.specs.Prelude.{Some, IfOk, IfErr}
use Rattle.history_model.specs.Bookmark.{head}
use Rattle.history_model.specs.History.{Land}
use Rattle.reply_model.specs.Reply.{LandDraft, told, judge}
use Rattle.repo_machine.specs.Held.{HasRoom}
use Rattle.repo_machine.specs.Entering.{Judges}
use Rattle.repo_machine.specs.Landings.{IsLanded}
use Rattle.repo_machine.specs.Plans.{RebasedLanding, WasPlanned, RefusesAs, IsAllowed, landing_in, frame_size}
use Rattle.repo_machine.proofs.Judging.{passes_refusal}
use Rattle.repo_machine.proofs.Planning.{denied_refused}
use Rattle.repo_machine.proofs.machine.Machine.judge_rebased.Goals as goal

pub returns-in_err-rebased-clause-err : goal.returns-in_err-rebased-clause-err
returns-in_err-rebased-clause-err c =
    passes_refusal _ c.from_residual-in_err-rebased.result _ c.from_residual-in_err-rebased.ensures.1
    (denied_refused c.args.self.now.header c.args.self.now.history c.args.rebased c.requires.planned c.requires.head c.in_ok-check_up.ensures.ok _ c.in_err-rebased.ensures.err)

pub judge_allowed-requires-clause-planned : goal.judge_allowed-requires-clause-planned
judge_allowed-requires-clause-planned c = subst (WasPlanned c.args.self.now.history) (sym c.in_ok-rebased.ensures.ok.0) c.requires.planned

pub judge_allowed-requires-clause-head : goal.judge_allowed-requires-clause-head
judge_allowed-requires-clause-head c = subst (λ (r : RebasedLanding). head c.args.self.now.history r.name ≡ Some r.old) (sym c.in_ok-rebased.ensures.ok.0) c.requires.head

pub judge_allowed-requires-clause-allowed : goal.judge_allowed-requires-clause-allowed
judge_allowed-requires-clause-allowed c = subst (λ (r : RebasedLanding). IsAllowed c.args.self.now.history r.caller r.touched) (sym c.in_ok-rebased.ensures.ok.0) c.in_ok-rebased.ensures.ok.1

pub judge_allowed-requires-clause-room : goal.judge_allowed-requires-clause-room
judge_allowed-requires-clause-room c = subst (λ (r : RebasedLanding). HasRoom c.args.self.now.room (Some (Land (landing_in r (told c.args.self.now.history r.caller))))) (sym c.in_ok-rebased.ensures.ok.0) c.requires.room

pub returns-clause-ok : goal.returns-clause-ok
returns-clause-ok c =
    subst (λ (r : RebasedLanding). IfOk c.judge_allowed.result (Judges c.args.self.now.header c.args.self.now.history c.args.self.now.room c.args.who (LandDraft r.caller r.name r.draft r.asked))) c.in_ok-rebased.ensures.ok.0 c.judge_allowed.ensures.ok

pub returns-clause-lands : goal.returns-clause-lands
returns-clause-lands c =
    subst (λ (r : RebasedLanding). IfOk c.judge_allowed.result (IsLanded c.args.self.now.header c.args.self.now.history r.caller r.name r.draft r.asked)) c.in_ok-rebased.ensures.ok.0 c.judge_allowed.ensures.lands

pub returns-clause-made : goal.returns-clause-made
returns-clause-made c =
    subst (λ (r : RebasedLanding). IfOk c.judge_allowed.result (λ judged. (judged.made ≡ Some (Land (landing_in r (told c.args.self.now.history r.caller)))) × (length judged.frame ≤ frame_size r))) c.in_ok-rebased.ensures.ok.0 c.judge_allowed.ensures.made

pub returns-clause-err : goal.returns-clause-err
returns-clause-err c =
    subst (λ (r : RebasedLanding). IfErr c.judge_allowed.result (RefusesAs (judge c.args.self.now.header c.args.self.now.history (LandDraft r.caller r.name r.draft r.asked)))) c.in_ok-rebased.ensures.ok.0 c.judge_allowed.ensures.err
