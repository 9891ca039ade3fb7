use Rattle.std.proofs.Common.{refl}
use Rattle.reply_model.specs.Reply.{PutContent}
use Rattle.repo_state.proofs.Stepping.{granted_call}
use Rattle.repo_state.proofs.Storing.{entered_replies, refused_replies}
use Rattle.repo_state.proofs.state.RepoState.store_framed.Goals as goal

-- ---- it is refused

pub returns-in-Err-clause-reply : goal.returns-in-Err-clause-reply
returns-in-Err-clause-reply g c =
    let machine = c.self.inside.machine in
    rw (← c.self.view_is) (refused_replies machine.header machine.history c.judge_framed.new.self.history c.args.who (PutContent c.args.content) c.in-Err.refusal c.judge_framed.ensures.history c.in-Err.ensures.err)

-- ---- it is entered

pub returns-in-Ok-enter-clause-reply : goal.returns-in-Ok-enter-clause-reply
returns-in-Ok-enter-clause-reply g c =
    rw (← c.self.view_is)
    (entered_replies (record { ask = PutContent c.args.content; asks = refl; judges = c.in-Ok.ensures.ok }) c.judge_framed.ensures.header c.judge_framed.ensures.history c.in-Ok-enter.ensures.reply)

pub returns-in-Ok-enter-clause-core : goal.returns-in-Ok-enter-clause-core
returns-in-Ok-enter-clause-core g c = granted_call _ _ _ _ _ _ _ (returns-in-Ok-enter-clause-reply g c)
