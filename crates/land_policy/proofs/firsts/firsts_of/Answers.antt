use Rattle.std.proofs.Common.{sym, ap, ◌∙◌}
use Rattle.std.specs.Prelude.{option_map}
use Rattle.std.specs.BTreeMap.{get_by_text}
use Rattle.land_policy.proofs.Entering.{entered, passed_over}
use Rattle.land_policy.proofs.firsts.firsts_of.Goals as goal
use Rattle.land_policy.proofs.firsts.firsts_of.Goals.{then-is_of+in_ok-enter, else-is_of}

pub loop-number-preserved : goal.loop-number-preserved
loop-number-preserved c = λ key.
    let caller = option_map (λ n. n.now) c.args.caller in
    let rules = c.args.rules.now in
    let n = c.loop-number.number in
    let r = c.index-rules-number.result in
    let before = get_by_text c.loop-number.firsts key in
    let after = get_by_text c.if-is_of.firsts key in
    elim c.if-is_of.branch [
      | then-is_of+in_ok-enter w ↦ entered caller key w.place.result.now rules n r before after c.loop-number-test.true c.index-rules-number.is (sym c.is_of.ensures ∙ w.if-is_of.true) (w.place.ensures key) (c.loop-number.invariant key)
          (ap (λ m. get_by_text m key) w.firsts-is ∙ w.in_ok-enter.ensures key)
      | else-is_of w ↦ ap (λ m. get_by_text m key) w.firsts-is ∙ passed_over caller key rules n r before c.loop-number-test.true c.index-rules-number.is (sym c.is_of.ensures ∙ w.if-is_of.false) (c.loop-number.invariant key)
    ]
