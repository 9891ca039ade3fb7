use Rattle.std.proofs.Common.{refl, ap, ◌∙◌}
use Rattle.std.specs.Arc.{arc_value}
use Rattle.changeset_model.specs.Changeset.{copies_of}
use Rattle.reply_model.specs.After.{Shows}
use Rattle.reply_model.specs.Reply.{SeenCopies}
use Rattle.repo_calls.specs.Asking.{copies_seen}
use Rattle.shared_repo.proofs.Answering.{after_copies, after_no_copies}
use Rattle.shared_repo.proofs.repo.Repo.told_copies.Goals as goal

pub returns-in-Err-clause-after : goal.returns-in-Err-clause-after
returns-in-Err-clause-after g c =
    after_no_copies c.args.self.now.opening.header c.args.seat.now.front c.shared_changeset.new.seat.front c.args.seat.now.number c.args.id c.in-Err.fault c.in-Err.ensures.more c.in-Err.ensures.err

pub returns-in-Ok-copied_paths-clause-after : goal.returns-in-Ok-copied_paths-clause-after
returns-in-Ok-copied_paths-clause-after g c = (
  Shows (SeenCopies (copies_seen c.in-Ok-copied_paths.copies.items)),
  refl,
  after_copies c.args.self.now.opening.header c.args.seat.now.front c.shared_changeset.new.seat.front c.args.seat.now.number c.args.id (arc_value c.in-Ok.commit) _ c.in-Ok.ensures.more c.in-Ok.ensures.ok
      (c.in-Ok-copied_paths.ensures ∙ ap copies_of (c.changeset.ensures ∙ c.deref.ensures)),
)
