use Rattle.std.proofs.Common.{subst}
use Rattle.reply_model.specs.After.{Call, Replies}
use Rattle.repo_calls.specs.Asking.{stored_answer}
use Rattle.repo_calls.specs.Calls.{line_seen}
use Rattle.follower.specs.Making.{call_of}
use Rattle.follower.proofs.Refused.{is_change, memory_replies}
use Rattle.follower.proofs.replay.make_entry.Goals as goal

pub returns-in_default-clause-reply : goal.returns-in_default-clause-reply
returns-in_default-clause-reply g c =
    memory_replies (g.R.OwnRepository.opening c.args.own.now).header (g.R.OwnRepository.history c.args.own.now) (call_of (line_seen c.args.entry.now) c.args.fetched.now) (is_change (line_seen c.args.entry.now) c.args.fetched.now)

pub returns-clause-reply : goal.returns-clause-reply
returns-clause-reply g c =
    subst (λ (call : Call). Replies (g.R.OwnRepository.opening c.args.own.now).header (g.R.OwnRepository.history c.args.own.now) 0 call (stored_answer c.make.result) (g.R.OwnRepository.history c.make.new.self)) c.ask_for-ask.ensures c.make.ensures.reply
