use Rattle.std.proofs.Common.{◌≡◌, ◌++◌}
use Rattle.std.specs.Vec.Iter.{into_iter_items, into_iter_len}
use Rattle.changeset_store.specs.Shared.{values}
use Rattle.repo_machine.proofs.rebased.shared.Given as goal

-- those that are shared, with those that are left
abbrev pub invariant-commits : goal.invariant-commits
invariant-commits l = values l.shared.items ++ into_iter_items l.rest ≡ l.fn.commits.items

abbrev pub decreases-commits : goal.decreases-commits
decreases-commits l = into_iter_len l.rest
