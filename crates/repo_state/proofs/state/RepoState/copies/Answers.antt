use Rattle.std.proofs.Common.{refl, sym}
use Rattle.reply_model.specs.After.{Shows}
use Rattle.reply_model.specs.Reply.{SeenCopies}
use Rattle.repo_calls.specs.Asking.{copies_seen}
use Rattle.repo_state.proofs.Answered.{copies_lack}
use Rattle.repo_state.proofs.state.RepoState.copies.Goals as goal

pub returns-in-Ok-clause-answer : goal.returns-in-Ok-clause-answer
returns-in-Ok-clause-answer g c =
    rw (← c.self.view_is)
    (Shows (SeenCopies (copies_seen c.in-Ok.copies.items)), refl, (refl, sym c.in-Ok.ensures.ok))

pub returns-in-Err-clause-answer : goal.returns-in-Err-clause-answer
returns-in-Err-clause-answer g c =
    rw (← c.self.view_is)
    (copies_lack c.self.inside.machine.header c.self.inside.machine.history c.args.id c.in-Err.fault c.in-Err.ensures.err)
