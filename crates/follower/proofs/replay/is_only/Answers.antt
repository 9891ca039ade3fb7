use Rattle.std.proofs.Common.{length}
use Rattle.std.proofs.lemmas.Bool.{eqb-true}
use Rattle.repo_calls.specs.Calls.{line_seen}
use Rattle.follower.proofs.Single.{one_line_long, only_line}
use Rattle.follower.proofs.replay.is_only.Goals as goal

pub returns-then-entries-eq1 : goal.returns-then-entries-eq1
returns-then-entries-eq1 c =
    only_line c.args.entries.now (line_seen c.args.entry.now) c.index-entries-0.result c.is_same_line.result c.if-entries-eq1.true c.index-entries-0.is c.is_same_line.ensures

pub returns-else-entries-eq1 : goal.returns-else-entries-eq1
returns-else-entries-eq1 c = (λ one. absurd (c.if-entries-eq1.false (eqb-true (length c.args.entries.now) 1 one)), one_line_long c.args.entries.now (line_seen c.args.entry.now))
