use Rattle.std.proofs.Common.{ap, ◌∙◌}
use Rattle.repo_machine.specs.Prepared.{asked_by}
use Rattle.bookmark_lock.specs.Opening.{Opening}
use Rattle.repo_state.specs.Groups.{left_of}
use Rattle.repo_state.specs.State.{State, opening_of}
use Rattle.repo_state.proofs.Asked.{for_call}
use Rattle.repo_state.proofs.Landed.{lands_as}
use Rattle.repo_state.proofs.Stepping.{granted_call, refused_call}
use Rattle.repo_state.proofs.Storing.{entered_replies, refused_replies}
use Rattle.repo_state.proofs.Wholes.{needs_nothing, no_join}
use Rattle.repo_state.proofs.state.RepoState.store_found.Goals as goal

-- ---- it is refused

pub returns-in-Err-clause-reply : goal.returns-in-Err-clause-reply
returns-in-Err-clause-reply g c =
    let why = c.in-Err.ensures.err in
    rw (← c.self.view_is)
    (for_call why.asks (refused_replies c.self.inside.machine.header c.self.inside.machine.history c.judge_prepared.new.self.history c.args.who why.ask c.in-Err.refusal c.judge_prepared.ensures.history why.refuses))

pub returns-in-Err-clause-core : goal.returns-in-Err-clause-core
returns-in-Err-clause-core g c = refused_call _ _ _ _ (asked_by c.args.prepared) c.in-Err.refusal _ (returns-in-Err-clause-reply g c)

-- ---- it is entered

pub enter-requires-clause-holds : goal.enter-requires-clause-holds
enter-requires-clause-holds g c =
    let ok = c.in-Ok.ensures.ok in
    let machine = c.judge_prepared.new.self in
    let s : State = record {
      header = machine.header;
      history = machine.history;
      sealed = c.self.inside.sealed;
      pending = c.self.inside.journal.pending;
      left = left_of c.self.inside.group_end c.self.inside.journal.left;
      room = machine.room;
      table = c.self.inside.manifests;
      disk = g.D.Disk.meaning c.self.inside.disk;
      opening = opening_of machine.header c.self.inside.journal.opening (g.D.Disk.meaning c.self.inside.first.value);
    } in
    needs_nothing s c.self.inside.machine.history c.self.inside.machine.header ok.ask c.in-Ok.judged
    (no_join c.self.inside.machine.header c.self.inside.machine.history c.args.prepared.ask.now ok.ask c.requires.single ok.asks) ok.judges.is_judged

pub returns-in-Ok-enter-clause-reply : goal.returns-in-Ok-enter-clause-reply
returns-in-Ok-enter-clause-reply g c = rw (← c.self.view_is) (entered_replies c.in-Ok.ensures.ok c.judge_prepared.ensures.header c.judge_prepared.ensures.history c.in-Ok-enter.ensures.reply)

pub returns-in-Ok-enter-clause-lands : goal.returns-in-Ok-enter-clause-lands
returns-in-Ok-enter-clause-lands g c =
    lands_as _ _ _ _ _ _ _ (ap (λ (o : Opening). o.header) c.enter.ensures.opening ∙ c.judge_prepared.ensures.header ∙ ap (λ (s : State). s.header) c.self.view_is) c.enter.ensures.sound.legal (returns-in-Ok-enter-clause-reply g c)

pub returns-in-Ok-enter-clause-core : goal.returns-in-Ok-enter-clause-core
returns-in-Ok-enter-clause-core g c = granted_call _ _ _ _ _ _ _ (returns-in-Ok-enter-clause-reply g c)

-- ---- or memory runs out

pub returns-in-Err-enter-clause-reply : goal.returns-in-Err-enter-clause-reply
returns-in-Err-enter-clause-reply g c = rw (← c.self.view_is) (entered_replies c.in-Ok.ensures.ok c.judge_prepared.ensures.header c.judge_prepared.ensures.history c.in-Err-enter.ensures.reply)

pub returns-in-Err-enter-clause-core : goal.returns-in-Err-enter-clause-core
returns-in-Err-enter-clause-core g c = refused_call _ _ _ _ (asked_by c.args.prepared) c.in-Err-enter.refusal _ (returns-in-Err-enter-clause-reply g c)
