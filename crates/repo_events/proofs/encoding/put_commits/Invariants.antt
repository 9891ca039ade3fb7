use Rattle.std.proofs.Common.{◌≡◌, ◌++◌, drop, map}
use Rattle.std.specs.List.{concat}
use Rattle.std.specs.Int.{w32}
use Rattle.byte_fields.specs.Bytes.{sized}
use Rattle.changeset_model.specs.Changeset.{spelling}
use Rattle.repo_events.proofs.encoding.put_commits.Given as goal

-- what was written, with the changesets that are left, is what is to be written
abbrev pub invariant-loop-commit : goal.invariant-loop-commit
invariant-loop-commit l =
    l.out.items ++ concat (map (λ c. sized w32 (spelling c)) (drop l.commit-index l.commits)) ≡ l.fn.out.items ++ concat (map (λ c. sized w32 (spelling c)) l.commits)
