use Rattle.std.proofs.Common.{◌-◌, ◌<◌, ⊎_elim, not, get_or, arith, rules, sym, ap, ◌∙◌}
use Rattle.std.specs.Prelude.{nat_lt}
use Rattle.std.specs.Borrow.{Bor}
use mathlib.Core.Bool.{true≢false}
use Rattle.std.proofs.lemmas.Bool.{ltb-true}
use Rattle.std.proofs.lemmas.List.Sorted.{IsPartitionPoint-from_clause}
use Rattle.byte_fields.proofs.Booleans.{not_false}
use Rattle.changeset_model.specs.Path.{Path, comparable, path_lt}
use Rattle.changeset_model.proofs.Spelling.{is_false as not_true}
use Rattle.derive_step.proofs.Covered.{parted_sets}
use Rattle.manifest_store.proofs.Deciding.{agree, set_far, set_here, some_near}
use Rattle.manifest_store.proofs.decided.is_set_near.Goals as goal
use Rattle.manifest_store.proofs.decided.is_set_near.Goals.{else-count-gt0-via-then-count-gt0+else-comparable, else-count-gt0-via-else-count-gt0}

pub returns-then-comparable : goal.returns-then-comparable
returns-then-comparable c = λ k kept clear are.
    let p = c.args.path.now in
    let ps = c.args.sets.now in
    let count = c.partition_point-count in
    let last = c.index-sets-count in
    sym (set_here k p ps kept clear are (count.result - 1) last.result (omega (arith, count.ensures.bound)) (ap (λ (q : Bor Path). comparable q.now p) (sym last.is) ∙ sym c.comparable.ensures ∙ c.if-comparable.true))

pub returns-then-count-sets : goal.returns-then-count-sets
returns-then-count-sets c = λ k kept clear are.
    let p = c.args.path.now in
    let ps = c.args.sets.now in
    let count = c.partition_point-count in
    let point = IsPartitionPoint-from_clause (λ (q : Bor Path). not (path_lt p q.now)) ps count.result count.ensures.partitioned (parted_sets k p ps kept clear are) (λ a r q g. search rules) in
    let next = c.index-sets-count-then-count-sets in
    let here = c.comparable-then-count-sets.ensures ∙ ap (λ (q : Bor Path). comparable q.now p) next.is in
    agree c.comparable-then-count-sets.result (some_near k p ps kept clear are)
    (λ h. set_here k p ps kept clear are count.result next.result (omega arith) (sym here ∙ h))
    (λ h. ⊎_elim
    (λ last.
    let some : 0 < count.result = last.0 in
    elim c.else-count-gt0.branch [
      | else-count-gt0-via-then-count-gt0+else-comparable w ↦ absurd (true≢false (sym (last.1 w.index-sets-count.result) ∙ ap (λ (q : Bor Path). comparable q.now p) (sym w.index-sets-count.is) ∙ sym w.comparable.ensures ∙ w.if-comparable.false))
      | else-count-gt0-via-else-count-gt0 w ↦ absurd (omega (arith, some, w.if-count-gt0.false))
    ])
    (λ first. here ∙ first.1 next.result)
    (set_far k p ps kept clear are count.result (λ i z less. not_true (path_lt p (get_or ps i z).now) (point.0 i z (omega arith) less)) (λ i z over less. not_false (path_lt p (get_or ps i z).now) (point.1 i z over less)) count.ensures.bound h))

pub returns-else-count-sets : goal.returns-else-count-sets
returns-else-count-sets c = λ k kept clear are.
    let p = c.args.path.now in
    let ps = c.args.sets.now in
    let count = c.partition_point-count in
    let point = IsPartitionPoint-from_clause (λ (q : Bor Path). not (path_lt p q.now)) ps count.result count.ensures.partitioned (parted_sets k p ps kept clear are) (λ a r q g. search rules) in
    agree (nat_lt count.result _) (some_near k p ps kept clear are)
    (λ h. let less = ltb-true count.result _ h in absurd (omega arith))
    (λ h. ⊎_elim
    (λ last.
    let some : 0 < count.result = last.0 in
    elim c.else-count-gt0.branch [
      | else-count-gt0-via-then-count-gt0+else-comparable w ↦ absurd (true≢false (sym (last.1 w.index-sets-count.result) ∙ ap (λ (q : Bor Path). comparable q.now p) (sym w.index-sets-count.is) ∙ sym w.comparable.ensures ∙ w.if-comparable.false))
      | else-count-gt0-via-else-count-gt0 w ↦ absurd (omega (arith, some, w.if-count-gt0.false))
    ])
    (λ first. let less = first.0 in absurd (omega arith))
    (set_far k p ps kept clear are count.result (λ i z less. not_true (path_lt p (get_or ps i z).now) (point.0 i z (omega arith) less)) (λ i z over less. not_false (path_lt p (get_or ps i z).now) (point.1 i z over less)) count.ensures.bound h))
