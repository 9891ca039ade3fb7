use Rattle.std.proofs.Common.{ap, ◌∙◌, inl, length}
use Rattle.std.specs.Prelude.{Option, is_err}
use Rattle.std.proofs.lemmas.Result.{on_err_weaker, on_ok_weaker}
use Rattle.blob_disk.proofs.Clients.{kept_then}
use Rattle.history_model.specs.History.{bodies, is_down}
use Rattle.repo_state.specs.Groups.{group_end}
use Rattle.repo_state.specs.declared.left.Left.{Left}
use Rattle.repo_state.proofs.Turns.{counts_both, leaves_both, moved_laid, reach_laid, rest_by_first, rest_by_two, seals_both}
use Rattle.repo_state.proofs.state.RepoState.seal_rest.Goals as goal

pub end_group-requires : goal.end_group-requires
end_group-requires g c = record { up = ap is_down c.in-Ok.ensures.history ∙ c.requires.up }

-- ---- it is written, and sealed, or that fails

pub returns-in-Ok-clause-history : goal.returns-in-Ok-clause-history
returns-in-Ok-clause-history g c = seals_both c.args.self.now c.begin_group.new.self c.end_group.new.self c.args.who (is_err c.end_group.result) c.in-Ok.ensures.history c.end_group.ensures.history

pub returns-in-Ok-clause-done : goal.returns-in-Ok-clause-done
returns-in-Ok-clause-done g c =
    let a = c.args.self.now in
    let b = c.begin_group.new.self in
    let laid = (moved_laid a b c.requires.none c.in-Ok.ensures.moves).1 in
    on_ok_weaker c.end_group.result (λ done. (done.0 ∙ ap (λ (o : Option Left). group_end b.sealed o) laid, done.1)) c.end_group.ensures.done

pub returns-in-Ok-clause-fails : goal.returns-in-Ok-clause-fails
returns-in-Ok-clause-fails g c = on_err_weaker c.end_group.result (λ same. same ∙ c.in-Ok.ensures.sealed) c.end_group.ensures.fails

pub returns-in-Ok-clause-leaves : goal.returns-in-Ok-clause-leaves
returns-in-Ok-clause-leaves g c =
    let e = c.in-Ok.ensures in
    let a = c.args.self.now in
    let b = c.begin_group.new.self in
    leaves_both a b c.end_group.new.self c.args.who (is_err c.end_group.result) e.header e.history e.sealed (inl (reach_laid b (length (bodies a.history)) (moved_laid a b c.requires.none e.moves).1 ∙ e.sealed)) c.end_group.ensures.history e.kept e.leaves c.end_group.ensures.leaves

pub returns-in-Ok-clause-kept : goal.returns-in-Ok-clause-kept
returns-in-Ok-clause-kept g c = kept_then c.args.self.now.disk c.begin_group.new.self.disk c.end_group.new.self.disk c.in-Ok.ensures.kept c.end_group.ensures.kept

pub returns-in-Ok-clause-faults : goal.returns-in-Ok-clause-faults
returns-in-Ok-clause-faults g c = counts_both c.args.self.now.disk c.begin_group.new.self.disk c.end_group.new.self.disk (is_err c.end_group.result) c.in-Ok.ensures.faults c.end_group.ensures.faults

pub returns-in-Ok-clause-core : goal.returns-in-Ok-clause-core
returns-in-Ok-clause-core g c =
    let e = c.in-Ok.ensures in
    rest_by_two c.args.self.now c.begin_group.new.self c.end_group.new.self c.args.who (is_err c.end_group.result) c.requires.none e.moves e.header e.core c.end_group.ensures.core

-- ---- or it isn't written

pub returns-in-Err-clause-core : goal.returns-in-Err-clause-core
returns-in-Err-clause-core g c = rest_by_first c.args.self.now c.begin_group.new.self c.args.who c.requires.none c.in-Err.ensures.core
