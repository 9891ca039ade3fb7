use Rattle.std.proofs.Common.{subst, sym}
use Rattle.reply_model.specs.After.{Call}
use Rattle.repo_state.specs.Alone.{RepliesAlone}
use Rattle.repo_state.specs.State.{IsQuiet}
use Rattle.repo_calls.specs.Asking.{stored_answer}
use Rattle.std.proofs.lemmas.Result.{on_ok_weaker}
use Rattle.run_gen.proofs.Begins.{entry_made, may_be}
use Rattle.run_gen.proofs.begin.store.Goals as goal

pub whether-requires : goal.whether-requires
whether-requires c =
    let enters = c.requires.enters in
    let header = c.args.state.now.header in
    let h = c.args.state.now.history in
    let new = c.store-answer.new.self.history in
    let reply = subst (λ (call : Call). RepliesAlone header h 0 call (stored_answer c.store-answer.result) new) enters.1 c.store-answer.ensures.reply in
    may_be header h enters.0 enters.3.granted enters.2 enters.3.judged new c.store-answer.result reply
    (c.store-answer.ensures.sound.calm (subst IsQuiet (sym c.store-answer.ensures.opening) c.requires.quiet))

pub returns-clause-entered : goal.returns-clause-entered
returns-clause-entered c asked body is e =
    let header = c.args.state.now.header in
    let h = c.args.state.now.history in
    let new = c.store-answer.new.self.history in
    let reply = subst (λ (call : Call). RepliesAlone header h 0 call (stored_answer c.store-answer.result) new) is c.store-answer.ensures.reply in
    on_ok_weaker c.whether.result (λ ok. entry_made header h asked e.granted body e.judged new c.store-answer.result reply ok) c.whether.ensures
