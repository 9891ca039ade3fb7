use Rattle.std.proofs.Common.{inr, refl, ap}
use Rattle.std.specs.Prelude.{option_map}
use Rattle.reply_model.specs.Reply.{Unresolved}
use Rattle.repo_machine.proofs.uploads.check_resolved.Goals as goal

pub returns-in-Some : goal.returns-in-Some
returns-in-Some c = inr (Unresolved c.in-Some.path, ap (option_map Unresolved) c.in-Some.is, refl)

pub returns-in-None : goal.returns-in-None
returns-in-None c = ap (option_map Unresolved) c.in-None.is
