-- Reads that name what they are of by its id.
--     AsksById question      it is of a content, a changeset, or what stands at a path of a changeset's tree
use Rattle.reply_model.specs.Reply.{Question, HeadOf, ContentOf, ChangesetOf, LogFrom, FsnodeOf, UnodeOf, HistoryOf, CopiesOf, PathLogOf, DeletedOf, PolicyOf}

abbrev pub AsksById : Question → Type 0
AsksById (HeadOf name) = ⊥
AsksById (ContentOf x) = Unit {0}
AsksById (ChangesetOf x) = Unit {0}
AsksById (LogFrom n) = ⊥
AsksById (FsnodeOf x d) = Unit {0}
AsksById (UnodeOf x p) = Unit {0}
AsksById (HistoryOf x p) = Unit {0}
AsksById (CopiesOf x) = Unit {0}
AsksById (PathLogOf x p) = Unit {0}
AsksById (DeletedOf x d) = Unit {0}
AsksById (PolicyOf number) = ⊥
