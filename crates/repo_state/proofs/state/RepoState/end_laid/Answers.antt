use Rattle.std.proofs.Common.{sym, ap, subst, ◌∙◌, inr}
use Rattle.std.specs.Prelude.{Option, is_err}
use Rattle.std.proofs.lemmas.Result.{on_err_weaker, on_ok_weaker}
use Rattle.blob_disk.proofs.Clients.{kept_then}
use Rattle.repo_journal.specs.declared.left.At.TheVariants as stages
use Rattle.repo_state.specs.Groups.{IsAt, group_end}
use Rattle.repo_state.specs.State.{State}
use Rattle.repo_state.specs.declared.left.Left.{Left}
use Rattle.repo_state.proofs.Turns.{counts_both, ends_by_first, ends_by_two, leaves_both, moved_open, moved_shut, seals_both}
use Rattle.repo_state.proofs.state.RepoState.end_laid.Goals as goal

pub open_group-requires : goal.open_group-requires
open_group-requires g c = record { laid = subst (λ (s : State). IsAt stages.Laid s.left) (sym c.flush_here-unmade.ensures) c.requires.laid }

pub close_group-requires : goal.close_group-requires
close_group-requires g c =
    let a = c.flush_here-unmade.new.self in
    let b = c.open_group.new.self in
    let laid = subst (λ (s : State). IsAt stages.Laid s.left) (sym c.flush_here-unmade.ensures) c.requires.laid in
    record { opened = (group_end a.sealed a.left, (moved_open a b laid c.in-Ok.ensures.moves).1) }

-- ---- the gate is opened, and the group is sealed, or that fails

pub returns-in-Ok-clause-history : goal.returns-in-Ok-clause-history
returns-in-Ok-clause-history g c = rw (← c.flush_here-unmade.ensures) (seals_both c.flush_here-unmade.new.self c.open_group.new.self c.close_group.new.self c.args.who (is_err c.close_group.result) c.in-Ok.ensures.history c.close_group.ensures.history)

pub returns-in-Ok-clause-done : goal.returns-in-Ok-clause-done
returns-in-Ok-clause-done g c =
    let a = c.flush_here-unmade.new.self in
    let b = c.open_group.new.self in
    let d = c.close_group.new.self in
    let laid = subst (λ (s : State). IsAt stages.Laid s.left) (sym c.flush_here-unmade.ensures) c.requires.laid in
    let open_now = (moved_open a b laid c.in-Ok.ensures.moves).1 in
    rw (← c.flush_here-unmade.ensures)
    (on_ok_weaker c.close_group.result (λ moved. (let there = moved_shut b d (group_end a.sealed a.left, open_now) moved in (there.0 ∙ ap (λ (o : Option Left). group_end b.sealed o) open_now, there.1))) c.close_group.ensures.moves)

pub returns-in-Ok-clause-fails : goal.returns-in-Ok-clause-fails
returns-in-Ok-clause-fails g c = rw (← c.flush_here-unmade.ensures) (on_err_weaker c.close_group.result (λ same. same ∙ c.in-Ok.ensures.sealed) c.close_group.ensures.fails)

pub returns-in-Ok-clause-leaves : goal.returns-in-Ok-clause-leaves
returns-in-Ok-clause-leaves g c =
    let e = c.in-Ok.ensures in
    rw (← c.flush_here-unmade.ensures)
    (leaves_both c.flush_here-unmade.new.self c.open_group.new.self c.close_group.new.self c.args.who (is_err c.close_group.result) e.header e.history e.sealed (inr c.close_group.ensures.reaches) c.close_group.ensures.history e.kept e.leaves c.close_group.ensures.leaves)

pub returns-in-Ok-clause-kept : goal.returns-in-Ok-clause-kept
returns-in-Ok-clause-kept g c = rw (← c.flush_here-unmade.ensures) (kept_then c.flush_here-unmade.new.self.disk c.open_group.new.self.disk c.close_group.new.self.disk c.in-Ok.ensures.kept c.close_group.ensures.kept)

pub returns-in-Ok-clause-faults : goal.returns-in-Ok-clause-faults
returns-in-Ok-clause-faults g c = rw (← c.flush_here-unmade.ensures) (counts_both c.flush_here-unmade.new.self.disk c.open_group.new.self.disk c.close_group.new.self.disk (is_err c.close_group.result) c.in-Ok.ensures.faults c.close_group.ensures.faults)

pub returns-in-Ok-clause-core : goal.returns-in-Ok-clause-core
returns-in-Ok-clause-core g c =
    let e = c.in-Ok.ensures in
    let laid = subst (λ (s : State). IsAt stages.Laid s.left) (sym c.flush_here-unmade.ensures) c.requires.laid in
    rw (← c.flush_here-unmade.ensures)
    (ends_by_two c.flush_here-unmade.new.self c.open_group.new.self c.close_group.new.self c.args.who (is_err c.close_group.result) laid e.moves e.header e.core c.close_group.ensures.core)

-- ---- or a call failed

pub returns-in-Err-clause-core : goal.returns-in-Err-clause-core
returns-in-Err-clause-core g c =
    let laid = subst (λ (s : State). IsAt stages.Laid s.left) (sym c.flush_here-unmade.ensures) c.requires.laid in
    rw (← c.flush_here-unmade.ensures) (ends_by_first c.flush_here-unmade.new.self c.open_group.new.self c.args.who laid c.in-Err.ensures.core)
