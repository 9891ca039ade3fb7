use Rattle.std.proofs.Common.{◌≡◌, ◌+◌, ℕ, false, length, sym, ap, ◌∙◌, arith}
use Rattle.std.specs.Prelude.{option_map, ◌==◌}
use Rattle.std.proofs.lemmas.Bool.{eqb-false}
use Rattle.std.proofs.lemmas.List.{length-drop}
use Rattle.std.proofs.lemmas.List.Quantifiers.{position-Some}
use Rattle.policy_model.specs.Grammar.{is_line_feed}
use Rattle.land_policy.specs.View.{rule_view}
use Rattle.repo_path.proofs.Faults.{take_rest}
use Rattle.land_policy.proofs.Lines.{further, bad, good, not_ended}
use Rattle.land_policy.proofs.reading.rules_of_lines.Goals as goal

pub returns-then-len-eq-MOST_RULES-clause-bad : goal.returns-then-len-eq-MOST_RULES-clause-bad
returns-then-len-eq-MOST_RULES-clause-bad c = λ line said.
    let size : c.len.result ≡ length c.loop-len.rules.items = omega arith in
    let full : 1000 ≡ line = cc in
    further c.loop-len.rules.items c.loop-len.rest.now c.in-Some.len c.len.result _ (sym c.first_line_feed.ensures ∙ c.in-Some.is) size c.loop-len.invariant.read line c.if-len-eq-MOST_RULES.true full

pub returns-in_default-2-clause-bad : goal.returns-in_default-2-clause-bad
returns-in_default-2-clause-bad c = λ line said.
    let items = c.loop-len.rules.items in
    let same : c.len.result ≡ c.len-in_default-2.result = c.len.ensures ∙ sym c.len-in_default-2.ensures in
    let named : c.len-in_default-2.result ≡ line = cc in
    let size : c.len.result ≡ length c.loop-len.rules.items = omega arith in
    bad items c.loop-len.rest.now c.in-Some.len c.len.result _ (sym c.first_line_feed.ensures ∙ c.in-Some.is) size c.loop-len.invariant.read line c.if-len-eq-MOST_RULES.false
    (ap (option_map rule_view) (sym c.in_default-2.is) ∙ c.in_ok-rule.ensures) (same ∙ named)

pub overflow_add-rest : goal.overflow_add-rest
overflow_add-rest c = let less = (position-Some is_line_feed c.loop-len.rest.now c.in-Some.len 0 (sym c.first_line_feed.ensures ∙ c.in-Some.is)).0 in omega arith

pub loop-len-preserved : goal.loop-len-preserved
loop-len-preserved c =
    let rest = c.loop-len.rest.now in
    let n = c.in-Some.len in
    let size : c.len.result ≡ length c.loop-len.rules.items = omega arith in
    record {
      read = good c.loop-len.rules.items rest n c.len.result _ (sym c.first_line_feed.ensures ∙ c.in-Some.is) size c.loop-len.invariant.read c.in-Some-2.rule _ _ c.if-len-eq-MOST_RULES.false
          (ap (option_map rule_view) (sym c.in-Some-2.is) ∙ c.in_ok-rule.ensures) c.in_ok-push.ensures.items (take_rest rest (n + 1));
      short = omega (arith, length-drop {A = ℕ}, ap length (take_rest rest (n + 1)));
    }

pub returns-else-is_empty-clause-bad : goal.returns-else-is_empty-clause-bad
returns-else-is_empty-clause-bad c = λ line said.
    let named : c.len-else-is_empty.result ≡ line = cc in
    let size : c.len-else-is_empty.result ≡ length c.loop-len.rules.items = omega arith in
    let some : (length c.loop-len.rest.now == 0) ≡ false = sym c.is_empty.ensures ∙ c.if-is_empty.false in
    not_ended c.loop-len.rules.items c.loop-len.rest.now c.len-else-is_empty.result line _ (sym c.first_line_feed.ensures ∙ c.in_default.is) size (eqb-false (length c.loop-len.rest.now) 0 some) named c.loop-len.invariant.read
