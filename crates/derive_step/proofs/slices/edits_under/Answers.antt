use Rattle.std.proofs.Common.{arith, rules, ◌∙◌}
use Rattle.std.proofs.lemmas.List.Sorted.{IsPartitionPoint-from_clause}
use Rattle.bonsai.specs.declared.edit.Edit.{Edit}
use Rattle.changeset_model.specs.Path.{is_strict_prefix}
use Rattle.derive_step.proofs.Together.{parted_under, taken_is}
use Rattle.derive_step.proofs.slices.edits_under.Goals as goal

pub returns : goal.returns
returns c = λ rise.
    let d = c.args.dir.now in
    let told = c.edits_after-after.ensures in
    let es = c.edits_after-after.result.now in
    let count = c.partition_point-count in
    let point = IsPartitionPoint-from_clause (λ (e : Edit). is_strict_prefix d e.path) es count.result count.ensures.partitioned (parted_under d es (told.sorted rise) (told.after rise)) (λ a r q k. search rules) in
    taken_is d count.result es (λ k z less. point.0 k z (omega arith) less) (λ k z over less. point.1 k z over less)
    ∙ told.same rise
