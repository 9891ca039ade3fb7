use Rattle.std.proofs.Common.{◌-◌, not, arith, rules, sym, ◌∙◌}
use Rattle.std.specs.Prelude.{nat_lt}
use Rattle.std.proofs.lemmas.Bool.{ltb-true}
use Rattle.std.proofs.lemmas.List.Sorted.{IsPartitionPoint-from_clause}
use Rattle.bonsai.specs.declared.edit.Edit.{Edit}
use Rattle.byte_fields.proofs.Booleans.{not_false}
use Rattle.changeset_model.specs.Path.{path_lt}
use Rattle.changeset_model.proofs.Spelling.{is_false as not_true}
use Rattle.derive_step.proofs.Together.{parted_after}
use Rattle.manifest_store.proofs.Deciding.{agree, edited_here, edited_last, some_edited}
use Rattle.manifest_store.proofs.decided.is_edited.Goals as goal

pub returns-then-count-gt0 : goal.returns-then-count-gt0
returns-then-count-gt0 c = λ rise.
    let p = c.args.path.now in
    let es = c.args.edits.now in
    let count = c.partition_point-count in
    let point = IsPartitionPoint-from_clause (λ (e : Edit). not (path_lt p e.path)) es count.result count.ensures.partitioned (parted_after p es rise) (λ a r q k. search rules) in
    let last = c.index-edits-count in
    let here = c.eq.ensures in
    agree c.eq.result (some_edited p es)
    (λ h. edited_here p es (count.result - 1) last.result (omega (arith, count.ensures.bound)) (sym here ∙ h))
    (λ h. here ∙ (edited_last p es rise count.result (λ k z less. not_true (path_lt p _) (point.0 k z (omega arith) less)) (λ k z over less. not_false (path_lt p _) (point.1 k z over less)) count.ensures.bound h).1 last.result)

pub returns-else-count-gt0 : goal.returns-else-count-gt0
returns-else-count-gt0 c = λ rise.
    let p = c.args.path.now in
    let es = c.args.edits.now in
    let count = c.partition_point-count in
    let point = IsPartitionPoint-from_clause (λ (e : Edit). not (path_lt p e.path)) es count.result count.ensures.partitioned (parted_after p es rise) (λ a r q k. search rules) in
    agree (nat_lt 0 count.result) (some_edited p es)
    (λ h. let some = ltb-true 0 count.result h in absurd (omega arith))
    (λ h. let some = (edited_last p es rise count.result (λ k z less. not_true (path_lt p _) (point.0 k z (omega arith) less)) (λ k z over less. not_false (path_lt p _) (point.1 k z over less)) count.ensures.bound h).0 in absurd (omega arith))
