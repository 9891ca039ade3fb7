use Rattle.std.proofs.Common.{take}
use Rattle.land_policy.specs.Index.{IsTablesOf}
use Rattle.land_policy.specs.View.{rules_view}
use Rattle.land_policy.proofs.tables.tables_of.Given as goal

-- the callers that the rules so far name
abbrev pub invariant-loop-rule : goal.invariant-loop-rule
invariant-loop-rule l = IsTablesOf (rules_view l.rules) (rules_view (take l.rule-index l.rules)) l.tables
