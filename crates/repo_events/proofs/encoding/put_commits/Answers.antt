use Rattle.std.specs.Int.{w32}
use Rattle.byte_fields.specs.Bytes.{sized}
use Rattle.changeset_model.specs.Changeset.{spelling}
use Rattle.repo_events.proofs.Written.{write_more}
use Rattle.repo_events.proofs.encoding.put_commits.Goals as goal

pub loop-commit-preserved : goal.loop-commit-preserved
loop-commit-preserved c =
    write_more (λ c. sized w32 (spelling c)) c.args.commits.now c.loop-commit.commit-index c.commit-item.result c.loop-commit.out.items c.put_sized.new.out.items _ c.loop-commit-test.true c.commit-item.is c.in_ok-put_sized.ensures c.loop-commit.invariant
