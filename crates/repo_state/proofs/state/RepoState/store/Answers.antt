use Rattle.std.proofs.Common.{subst}
use Rattle.std.specs.Prelude.{IfOk}
use Rattle.reply_model.specs.After.{Call, Memory, Replies}
use Rattle.repo_calls.specs.Asking.{stored_answer}
use Rattle.repo_calls.specs.Calls.{call_seen, granted_seen}
use Rattle.repo_calls.specs.declared.refusal.Refusal.TheVariants as refusals
use Rattle.repo_state.specs.Cores.{StoresCall}
use Rattle.repo_state.specs.Trees.{LandsAs}
use Rattle.repo_state.proofs.Answered.{unmade}
use Rattle.repo_state.proofs.Asked.{any_wants}
use Rattle.repo_state.proofs.Stepping.{refused_call}
use Rattle.repo_state.proofs.state.RepoState.store.Goals as goal

pub returns-in-Err-clause-reply : goal.returns-in-Err-clause-reply
returns-in-Err-clause-reply g c = unmade c.args.self.now.header c.args.self.now.history c.args.who (call_seen c.args.ask.now) Memory (any_wants c.args.self.now.header c.args.self.now.history (call_seen c.args.ask.now))

pub returns-in-Err-clause-core : goal.returns-in-Err-clause-core
returns-in-Err-clause-core g c = refused_call _ _ _ _ (call_seen c.args.ask.now) refusals.Memory _ (returns-in-Err-clause-reply g c)

pub returns-in-Ok-clause-reply : goal.returns-in-Ok-clause-reply
returns-in-Ok-clause-reply g c =
    subst (λ (call : Call). Replies c.args.self.now.header c.args.self.now.history c.args.who call (stored_answer c.store_prepared.result) c.store_prepared.new.self.history) c.in-Ok.ensures.asks c.store_prepared.ensures.reply

pub returns-in-Ok-clause-lands : goal.returns-in-Ok-clause-lands
returns-in-Ok-clause-lands g c =
    subst (λ (call : Call). IfOk c.store_prepared.result (λ granted. LandsAs call (granted_seen granted) c.args.self.now.history c.store_prepared.new.self.history)) c.in-Ok.ensures.asks c.store_prepared.ensures.lands

pub returns-in-Ok-clause-core : goal.returns-in-Ok-clause-core
returns-in-Ok-clause-core g c =
    subst (λ (call : Call). StoresCall c.args.self.now.header c.args.self.now.history c.args.self.now.sealed c.args.who call (stored_answer c.store_prepared.result) c.store_prepared.new.self.history) c.in-Ok.ensures.asks c.store_prepared.ensures.core
