use Rattle.std.proofs.Common.{◌≡◌, length, refl, subst}
use Rattle.std.specs.Prelude.{IfSome}
use Rattle.sha2.specs.Sha256.{sha256}
use Rattle.reply_model.specs.After.{Looks, Memory, Shows}
use Rattle.reply_model.specs.Reply.{ContentOf, SeenBytes}
use Rattle.shared_repo.proofs.Answering.{after_outside}
use Rattle.shared_repo.proofs.Fronts.{after_memory}
use Rattle.shared_repo.proofs.repo.Repo.content_outside.Goals as goal

pub returns-in-Ok-Some-clause-after : goal.returns-in-Ok-Some-clause-after
returns-in-Ok-Some-clause-after g c =
    let same = subst (λ found. IfSome found (λ bytes. (length bytes.items ≡ c.args.places.length) × (sha256 bytes.items ≡ c.args.id))) c.in-Ok-Some.field-0-is c.in-Ok-Some.ensures in (
      Shows (SeenBytes c.in-Ok-Some.bytes.items),
      refl,
      after_outside c.args.self.now.opening.header c.args.seat.now.front c.args.seat.now.number c.args.id c.args.places.length c.in-Ok-Some.bytes.items c.requires.stored same.0 same.1,
    )

pub returns-in-Err-clause-after : goal.returns-in-Err-clause-after
returns-in-Err-clause-after g c = (Memory, refl, after_memory c.args.self.now.opening.header c.args.seat.now.front c.args.seat.now.number (Looks (ContentOf c.args.id)))
