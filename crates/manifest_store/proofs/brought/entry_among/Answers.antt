use Rattle.std.proofs.Common.{cond, arith, rules, sym, ap, ◌∙◌}
use Rattle.std.specs.Prelude.{None, Some}
use Rattle.std.specs.Cmp.Lexicographic.{texts_ties}
use Rattle.std.proofs.lemmas.List.Sorted.{IsPartitionPoint-from_clause}
use Rattle.derive_step.proofs.Edits.{name_swap}
use Rattle.fsnode.specs.Parts.{entry_seen}
use Rattle.manifest_store.proofs.Searched.{Entry, found_at, found_nowhere, is_before, parted_before}
use Rattle.manifest_store.proofs.brought.entry_among.Goals as goal

pub returns-then-at-len : goal.returns-then-at-len
returns-then-at-len c = λ rise.
    let n = c.args.name.now in
    let xs = c.args.children.now in
    let at = c.partition_point-at in
    let point = IsPartitionPoint-from_clause (λ (x : Entry). is_before x.name n) xs at.result at.ensures.partitioned (parted_before n xs rise) (λ a r q k. search rules) in
    sym (found_nowhere n xs (λ k z less. point.0 k z (omega arith) (omega arith)))

pub returns-then-eq : goal.returns-then-eq
returns-then-eq c = λ rise.
    let n = c.args.name.now in
    let xs = c.args.children.now in
    let at = c.partition_point-at in
    let y = c.index-children-at in
    let point = IsPartitionPoint-from_clause (λ (x : Entry). is_before x.name n) xs at.result at.ensures.partitioned (parted_before n xs rise) (λ a r q k. search rules) in
    sym (
    found_at n xs at.result y.result rise (λ k z less. point.0 k z (omega arith) less) (omega arith) y.is (ap (λ (x : Entry). is_before x.name n) y.is ∙ point.1 at.result y.result (omega arith) (omega arith))
    ∙ ap (λ b. cond b (Some (entry_seen y.result.entry)) None) (name_swap n y.result.name ∙ sym (texts_ties y.result.name n) ∙ sym c.eq.ensures ∙ c.if-eq.true)
    )

pub returns-else-eq : goal.returns-else-eq
returns-else-eq c = λ rise.
    let n = c.args.name.now in
    let xs = c.args.children.now in
    let at = c.partition_point-at in
    let y = c.index-children-at in
    let point = IsPartitionPoint-from_clause (λ (x : Entry). is_before x.name n) xs at.result at.ensures.partitioned (parted_before n xs rise) (λ a r q k. search rules) in
    sym (
    found_at n xs at.result y.result rise (λ k z less. point.0 k z (omega arith) less) (omega arith) y.is (ap (λ (x : Entry). is_before x.name n) y.is ∙ point.1 at.result y.result (omega arith) (omega arith))
    ∙ ap (λ b. cond b (Some (entry_seen y.result.entry)) None) (name_swap n y.result.name ∙ sym (texts_ties y.result.name n) ∙ sym c.eq.ensures ∙ c.if-eq.false)
    )
