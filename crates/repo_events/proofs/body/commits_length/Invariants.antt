use Rattle.std.proofs.Common.{◌≡◌, ◌≤◌, ◌*◌, ◌+◌}
use Rattle.std.proofs.Common.{drop}
use Rattle.repo_events.specs.Entries.{commits_length}
use Rattle.repo_events.proofs.body.commits_length.Given as goal

-- the length so far and that of the rest
abbrev pub invariant-commits : goal.invariant-commits
invariant-commits l = record {
  sum : l.length + commits_length (drop l.commit-index l.commits) ≡ commits_length l.commits;
  short : l.length ≤ 134_217_728 * l.commit-index;
}
