use Rattle.std.proofs.Common.{subst}
use Rattle.reply_model.specs.After.{Looks}
use Rattle.reply_model.specs.Reply.{ContentOf}
use Rattle.shared_repo.specs.Reading.{IsFoundOf}
use Rattle.shared_repo.proofs.Fronts.{after_nothing}
use Rattle.shared_repo.proofs.repo.Repo.checked_content.Goals as goal

pub returns-in-Ok-Read-clause-after : goal.returns-in-Ok-Read-clause-after
returns-in-Ok-Read-clause-after g c =
    let header = c.args.self.now.opening.header in
    let front = c.found_content.new.seat.front in
    let is = subst (IsFoundOf front c.args.id) c.in-Ok-Read.field-0-is c.in-Ok-Read.ensures.ok.1 in
    let told = c.checked.ensures.answers header front is in (
      told.0,
      told.1,
      after_nothing header c.args.seat.now.front front c.args.seat.now.number (Looks (ContentOf c.args.id)) told.0 c.in-Ok-Read.ensures.ok.0 told.2,
    )
