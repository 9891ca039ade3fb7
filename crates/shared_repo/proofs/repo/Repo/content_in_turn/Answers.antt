use Rattle.reply_model.specs.After.{Looks}
use Rattle.reply_model.specs.Reply.{ContentOf}
use Rattle.shared_repo.proofs.Fronts.{after_nothing}
use Rattle.shared_repo.proofs.repo.Repo.content_in_turn.Goals as goal

pub returns-in-Ok-clause-after : goal.returns-in-Ok-clause-after
returns-in-Ok-clause-after g c =
    let header = c.args.self.now.opening.header in
    let front = c.content_unchecked.new.seat.front in
    let told = c.checked.ensures.answers header front c.in-Ok.ensures.ok.1 in (
      told.0,
      told.1,
      after_nothing header c.args.seat.now.front front c.args.seat.now.number (Looks (ContentOf c.args.id)) told.0 c.in-Ok.ensures.ok.0 told.2,
    )
