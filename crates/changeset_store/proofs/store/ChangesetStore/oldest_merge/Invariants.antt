use Rattle.std.proofs.Common.{◌≡◌, None}
use Rattle.changeset_store.specs.Fork.{following_at, IsAncestor}
use Rattle.changeset_store.proofs.Oldest.{oldest_or}
use Rattle.changeset_store.proofs.store.ChangesetStore.oldest_merge.Given as goal

-- what was found later, and what is left
abbrev pub invariant-merges : goal.invariant-merges
invariant-merges l = record {
  ancestor : IsAncestor l.self.known l.ancestor l.number;
  found : oldest_or (following_at l.self.known l.ancestor l.number) l.oldest ≡ oldest_or (following_at l.self.known l.ancestor l.last) None;
}

abbrev pub decreases-merges : goal.decreases-merges
decreases-merges l = l.number
