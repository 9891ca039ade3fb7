use Rattle.std.proofs.Common.{◌≡◌, ◌≤◌, length}
use Rattle.std.specs.List.{slice_split}
use Rattle.policy_model.specs.Grammar.{rules_from, is_line_feed}
use Rattle.land_policy.specs.View.{rules_view}
use Rattle.land_policy.proofs.Lines.{after_rules}
use Rattle.land_policy.proofs.reading.rules_of_lines.Given as goal

-- the rules so far, and then those of the rest, are those of the text
abbrev pub invariant-loop-len : goal.invariant-loop-len
invariant-loop-len l = record {
  read : after_rules (rules_view l.rules.items) (rules_from (length (rules_view l.rules.items)) (slice_split is_line_feed l.rest)) ≡ rules_from 0 (slice_split is_line_feed l.text);
  short : length l.rest ≤ length l.text;
}

abbrev pub decreases-loop-len : goal.decreases-loop-len
decreases-loop-len l = length l.rest
