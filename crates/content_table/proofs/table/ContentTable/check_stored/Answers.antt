use Rattle.std.proofs.Common.{inr, refl, sym, ap, ◌∙◌}
use Rattle.reply_model.specs.Reply as reply
use Rattle.reply_model.specs.Reply.{refuse_some}
use Rattle.content_table.proofs.table.ContentTable.check_stored.Goals as goal

pub returns-in-Some : goal.returns-in-Some
returns-in-Some c = inr (reply.NoPiece c.in-Some.id, ap (λ o. refuse_some o reply.NoPiece) (sym c.first_absent.ensures ∙ c.in-Some.is), refl)
