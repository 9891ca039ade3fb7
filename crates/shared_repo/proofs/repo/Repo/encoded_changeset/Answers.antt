use Rattle.std.proofs.Common.{refl, ap, ◌∙◌}
use Rattle.std.specs.Arc.{arc_value}
use Rattle.changeset_model.specs.Changeset.{spelling}
use Rattle.reply_model.specs.After.{Shows}
use Rattle.reply_model.specs.Reply.{SeenBytes}
use Rattle.shared_repo.proofs.Answering.{after_encoded}
use Rattle.shared_repo.proofs.repo.Repo.encoded_changeset.Goals as goal

pub returns-in-Ok-encode-clause-after : goal.returns-in-Ok-encode-clause-after
returns-in-Ok-encode-clause-after g c = (
  Shows (SeenBytes c.in-Ok-encode.bytes.items),
  refl,
  after_encoded c.args.self.now.opening.header c.args.seat.now.front c.shared_changeset.new.seat.front c.args.seat.now.number c.args.id (arc_value c.in-Ok.commit) _ c.in-Ok.ensures.more c.in-Ok.ensures.ok
      (c.in-Ok-encode.ensures ∙ ap spelling (c.changeset.ensures ∙ c.deref.ensures)),
)
