use Rattle.std.proofs.Common.{◌+◌, cond, Some, take, sym, subst, ap, ◌∙◌}
use Rattle.std.specs.BTreeMap.{get}
use Rattle.std.specs.Cmp.Lexicographic.{slice_cmp}
use Rattle.std.specs.Ordering.{nat_cmp, is_eq}
use Rattle.land_policy.specs.Index.{IsTablesOf, same_caller}
use Rattle.land_policy.specs.View.{rules_view}
use Rattle.land_policy.proofs.Entering.{one_table, same_tables, nobody, present}
use Rattle.land_policy.proofs.tables.tables_of.Goals as goal
use Rattle.land_policy.proofs.tables.tables_of.Goals.{in-Some+then-not-contains_key+in_ok-firsts+in_ok-copy+in_ok-insert+in-Some-1, in-Some+then-not-contains_key+in_ok-firsts+in_ok-copy+in_ok-insert+in-None-1, in-Some+else-not-contains_key, in_default}

pub loop-rule-preserved : goal.loop-rule-preserved
loop-rule-preserved c =
    let rules = c.args.rules.now in
    let n = c.loop-rule.rule-index in
    let r = c.rule-item.result in
    elim c.match-rule.branch [
      | in-Some+then-not-contains_key+in_ok-firsts+in_ok-copy+in_ok-insert+in-Some-1 w ↦
          subst (λ m. IsTablesOf (rules_view rules) (rules_view (take (n + 1) rules)) m) (sym w.tables-is)
          (one_table (rules_view rules) rules n r w.in-Some.name c.loop-rule.tables w.insert.new.self w.in_ok-firsts.firsts c.loop-rule-test.true c.rule-item.is w.in-Some.is w.in_ok-firsts.ensures
          (λ caller. w.in_ok-insert.ensures.updates.0 caller ∙ ap (λ k. cond (is_eq (slice_cmp nat_cmp k caller)) (Some w.in_ok-firsts.firsts) (get (slice_cmp nat_cmp) c.loop-rule.tables caller)) w.in_ok-copy.ensures)
          c.loop-rule.invariant)
      | in-Some+then-not-contains_key+in_ok-firsts+in_ok-copy+in_ok-insert+in-None-1 w ↦
          subst (λ m. IsTablesOf (rules_view rules) (rules_view (take (n + 1) rules)) m) (sym w.tables-is)
          (one_table (rules_view rules) rules n r w.in-Some.name c.loop-rule.tables w.insert.new.self w.in_ok-firsts.firsts c.loop-rule-test.true c.rule-item.is w.in-Some.is w.in_ok-firsts.ensures
          (λ caller. w.in_ok-insert.ensures.updates.0 caller ∙ ap (λ k. cond (is_eq (slice_cmp nat_cmp k caller)) (Some w.in_ok-firsts.firsts) (get (slice_cmp nat_cmp) c.loop-rule.tables caller)) w.in_ok-copy.ensures)
          c.loop-rule.invariant)
      | in-Some+else-not-contains_key w ↦
          subst (λ m. IsTablesOf (rules_view rules) (rules_view (take (n + 1) rules)) m) (sym w.tables-is)
          (same_tables (rules_view rules) rules n r c.loop-rule.tables c.loop-rule-test.true c.rule-item.is
          (λ caller none. ap (same_caller (Some caller)) w.in-Some.is ∙ present c.loop-rule.tables w.in-Some.name caller (sym w.contains_key.ensures ∙ w.if-not-contains_key.false) none)
          c.loop-rule.invariant)
      | in_default w ↦
          subst (λ m. IsTablesOf (rules_view rules) (rules_view (take (n + 1) rules)) m) (sym w.tables-is)
          (same_tables (rules_view rules) rules n r c.loop-rule.tables c.loop-rule-test.true c.rule-item.is (λ caller none. nobody caller r.name w.in_default.is) c.loop-rule.invariant)
    ]
