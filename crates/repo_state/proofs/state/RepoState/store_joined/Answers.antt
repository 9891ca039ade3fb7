use Rattle.std.proofs.Common.{refl, sym, ap, subst, ◌∙◌}
use Rattle.reply_model.specs.After.{Joins, MayRead}
use Rattle.disk_model.specs.Meaning.{Meaning}
use Rattle.disk_model.specs.Calls.{Kept, Looked}
use Rattle.repo_state.specs.Joining.{ids_of}
use Rattle.repo_state.specs.Groups.{left_of}
use Rattle.repo_state.specs.State.{State, opening_of}
use Rattle.repo_state.proofs.Asked.{for_call}
use Rattle.repo_state.proofs.JoinAnswers.{entered_whole, holds_moved, join_core, join_replies, may_enter, may_read, whole_holds, whole_refused}
use Rattle.repo_state.proofs.Stepping.{granted_call, refused_call}
use Rattle.repo_state.proofs.Storing.{refused_replies}
use Rattle.repo_state.proofs.state.RepoState.store_joined.Goals as goal

-- ---- they are refused before they are read

pub returns-in-Err-clause-reply : goal.returns-in-Err-clause-reply
returns-in-Err-clause-reply g c =
    let s = c.self.inside in
    let why = c.in-Err.ensures.refuses in
    rw (← c.self.view_is) (for_call why.asks (refused_replies s.machine.header s.machine.history s.machine.history c.args.who why.ask c.in-Err.refusal refl why.refuses))

pub returns-in-Err-clause-core : goal.returns-in-Err-clause-core
returns-in-Err-clause-core g c = refused_call _ _ _ _ (Joins c.args.body.now) c.in-Err.refusal _ (returns-in-Err-clause-reply g c)

-- ---- they aren't read

pub returns-in-Err-join-clause-reply : goal.returns-in-Err-join-clause-reply
returns-in-Err-join-clause-reply g c =
    let s = c.self.inside in
    let now = c.args.self.now in
    let parts = c.as_slice.result.now in
    let may = subst (λ ps. MayRead now.header now.history c.args.body.now (ids_of ps)) (sym c.as_slice.ensures.value) (subst (λ (s : State). MayRead s.header s.history c.args.body.now (ids_of c.in-Ok.parts.items)) c.self.view_is (may_read s.machine.header s.machine.history c.args.body.now (ids_of c.in-Ok.parts.items) c.in-Ok.ensures.judged)) in
    join_replies now.header now.history c.join.new.self.history c.args.who c.args.body.now (ids_of parts) c.in-Err-join.fault may c.in-Err-join.ensures.err

pub returns-in-Err-join-clause-core : goal.returns-in-Err-join-clause-core
returns-in-Err-join-clause-core g c =
    let s = c.self.inside in
    let now = c.args.self.now in
    let parts = c.as_slice.result.now in
    let may = subst (λ ps. MayRead now.header now.history c.args.body.now (ids_of ps)) (sym c.as_slice.ensures.value) (subst (λ (s : State). MayRead s.header s.history c.args.body.now (ids_of c.in-Ok.parts.items)) c.self.view_is (may_read s.machine.header s.machine.history c.args.body.now (ids_of c.in-Ok.parts.items) c.in-Ok.ensures.judged)) in
    join_core now.header now.history c.join.new.self.history now.sealed c.args.who c.args.body.now (ids_of parts) c.in-Err-join.fault may c.in-Err-join.ensures.err

-- ---- the whole is refused

pub returns-in-Err-judge_whole-clause-reply : goal.returns-in-Err-judge_whole-clause-reply
returns-in-Err-judge_whole-clause-reply g c =
    let s = c.self.inside in
    let now = c.args.self.now in
    let parts = c.as_slice.result.now in
    let may = subst (λ ps. MayRead now.header now.history c.args.body.now (ids_of ps)) (sym c.as_slice.ensures.value) (subst (λ (s : State). MayRead s.header s.history c.args.body.now (ids_of c.in-Ok.parts.items)) c.self.view_is (may_read s.machine.header s.machine.history c.args.body.now (ids_of c.in-Ok.parts.items) c.in-Ok.ensures.judged)) in
    let header = ap (λ (s : State). s.header) c.self-2.view_is ∙ c.join.ensures.header in
    let history = ap (λ (s : State). s.history) c.self-2.view_is ∙ c.in-Ok-join.ensures.same in
    let whole = c.in-Ok-join.whole in
    let join = c.in-Ok-join.ensures.ok in
    whole_refused now c.args.body.now parts whole c.requires.bytes may join header history c.args.who c.in-Err-judge_whole.refusal c.judge_whole.new.self.history c.judge_whole.ensures.history c.in-Err-judge_whole.ensures.err

pub returns-in-Err-judge_whole-clause-core : goal.returns-in-Err-judge_whole-clause-core
returns-in-Err-judge_whole-clause-core g c = refused_call _ _ _ _ (Joins c.args.body.now) c.in-Err-judge_whole.refusal _ (returns-in-Err-judge_whole-clause-reply g c)

-- ---- it is judged, and entered

pub enter-requires-clause-judged : goal.enter-requires-clause-judged
enter-requires-clause-judged g c =
    let s = c.self.inside in
    let now = c.args.self.now in
    let parts = c.as_slice.result.now in
    let may = subst (λ ps. MayRead now.header now.history c.args.body.now (ids_of ps)) (sym c.as_slice.ensures.value) (subst (λ (s : State). MayRead s.header s.history c.args.body.now (ids_of c.in-Ok.parts.items)) c.self.view_is (may_read s.machine.header s.machine.history c.args.body.now (ids_of c.in-Ok.parts.items) c.in-Ok.ensures.judged)) in
    let header = ap (λ (s : State). s.header) c.self-2.view_is ∙ c.join.ensures.header in
    let history = ap (λ (s : State). s.history) c.self-2.view_is ∙ c.in-Ok-join.ensures.same in
    let whole = c.in-Ok-join.whole in
    let join = c.in-Ok-join.ensures.ok in
    may_enter now c.args.body.now parts whole c.requires.bytes may join header history c.judge_whole.new.self.room c.args.who c.in-Ok-judge_whole.judged c.in-Ok-judge_whole.ensures.ok c.judge_whole.ensures.header c.judge_whole.ensures.history

pub enter-requires-clause-holds : goal.enter-requires-clause-holds
enter-requires-clause-holds g c =
    let s = c.self.inside in
    let now = c.args.self.now in
    let parts = c.as_slice.result.now in
    let may = subst (λ ps. MayRead now.header now.history c.args.body.now (ids_of ps)) (sym c.as_slice.ensures.value) (subst (λ (s : State). MayRead s.header s.history c.args.body.now (ids_of c.in-Ok.parts.items)) c.self.view_is (may_read s.machine.header s.machine.history c.args.body.now (ids_of c.in-Ok.parts.items) c.in-Ok.ensures.judged)) in
    let header = ap (λ (s : State). s.header) c.self-2.view_is ∙ c.join.ensures.header in
    let history = ap (λ (s : State). s.history) c.self-2.view_is ∙ c.in-Ok-join.ensures.same in
    let whole = c.in-Ok-join.whole in
    let join = c.in-Ok-join.ensures.ok in
    let machine = c.judge_whole.new.self in
    let inside = c.self-2.inside in
    let new : State = record {
      header = machine.header;
      history = machine.history;
      sealed = inside.sealed;
      pending = inside.journal.pending;
      left = left_of inside.group_end inside.journal.left;
      room = machine.room;
      table = inside.manifests;
      disk = g.D.Disk.meaning inside.disk;
      opening = opening_of machine.header inside.journal.opening (g.D.Disk.meaning inside.first.value);
    } in
    let disk = ap (λ (s : State). s.disk) c.self-2.view_is in
    holds_moved now new c.in-Ok-judge_whole.judged.made (c.judge_whole.ensures.history ∙ history) (ap (λ (s : State). s.sealed) c.self-2.view_is ∙ c.join.ensures.sealed) (ap (λ (s : State). s.pending) c.self-2.view_is ∙ c.join.ensures.waits)
    (subst (λ (d : Meaning). Kept now.disk d) (sym disk) c.join.ensures.kept) (subst (λ (d : Meaning). Looked now.disk d) (sym disk) c.join.ensures.looked)
    (whole_holds now c.args.body.now parts whole c.requires.bytes may join header history c.judge_whole.new.self.room c.args.who c.in-Ok-judge_whole.judged c.in-Ok-judge_whole.ensures.ok)

pub returns-in-Ok-enter-clause-reply : goal.returns-in-Ok-enter-clause-reply
returns-in-Ok-enter-clause-reply g c =
    let s = c.self.inside in
    let now = c.args.self.now in
    let parts = c.as_slice.result.now in
    let may = subst (λ ps. MayRead now.header now.history c.args.body.now (ids_of ps)) (sym c.as_slice.ensures.value) (subst (λ (s : State). MayRead s.header s.history c.args.body.now (ids_of c.in-Ok.parts.items)) c.self.view_is (may_read s.machine.header s.machine.history c.args.body.now (ids_of c.in-Ok.parts.items) c.in-Ok.ensures.judged)) in
    let header = ap (λ (s : State). s.header) c.self-2.view_is ∙ c.join.ensures.header in
    let history = ap (λ (s : State). s.history) c.self-2.view_is ∙ c.in-Ok-join.ensures.same in
    let whole = c.in-Ok-join.whole in
    let join = c.in-Ok-join.ensures.ok in
    entered_whole now c.args.body.now parts whole c.requires.bytes may join header history c.judge_whole.new.self.room c.args.who c.in-Ok-judge_whole.judged c.in-Ok-judge_whole.ensures.ok c.judge_whole.ensures.header c.judge_whole.ensures.history c.in-Ok-enter.ensures.reply

pub returns-in-Ok-enter-clause-core : goal.returns-in-Ok-enter-clause-core
returns-in-Ok-enter-clause-core g c = granted_call _ _ _ _ _ _ _ (returns-in-Ok-enter-clause-reply g c)

-- ---- or memory runs out

pub returns-clause-reply : goal.returns-clause-reply
returns-clause-reply g c =
    let s = c.self.inside in
    let now = c.args.self.now in
    let parts = c.as_slice.result.now in
    let may = subst (λ ps. MayRead now.header now.history c.args.body.now (ids_of ps)) (sym c.as_slice.ensures.value) (subst (λ (s : State). MayRead s.header s.history c.args.body.now (ids_of c.in-Ok.parts.items)) c.self.view_is (may_read s.machine.header s.machine.history c.args.body.now (ids_of c.in-Ok.parts.items) c.in-Ok.ensures.judged)) in
    let header = ap (λ (s : State). s.header) c.self-2.view_is ∙ c.join.ensures.header in
    let history = ap (λ (s : State). s.history) c.self-2.view_is ∙ c.in-Ok-join.ensures.same in
    let whole = c.in-Ok-join.whole in
    let join = c.in-Ok-join.ensures.ok in
    entered_whole now c.args.body.now parts whole c.requires.bytes may join header history c.judge_whole.new.self.room c.args.who c.in-Ok-judge_whole.judged c.in-Ok-judge_whole.ensures.ok c.judge_whole.ensures.header c.judge_whole.ensures.history c.in-Err-enter.ensures.reply

pub returns-clause-core : goal.returns-clause-core
returns-clause-core g c = refused_call _ _ _ _ (Joins c.args.body.now) c.in-Err-enter.refusal _ (returns-clause-reply g c)
