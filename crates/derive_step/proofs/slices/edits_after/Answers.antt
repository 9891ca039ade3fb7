use Rattle.std.proofs.Common.{not, arith, rules, ap, ◌∙◌}
use Rattle.std.specs.FinMap.{is_sorted}
use Rattle.std.specs.FinMap.Entries.{below_all}
use Rattle.std.proofs.lemmas.List.{take_rest}
use Rattle.std.proofs.lemmas.List.Sorted.{IsPartitionPoint-from_clause}
use Rattle.bonsai.specs.declared.edit.Edit.{Edit}
use Rattle.bonsai.specs.View.{edits_view}
use Rattle.changeset_model.specs.Path.{path_cmp, path_lt}
use Rattle.derive_step.specs.Slices.{edits_in}
use Rattle.derive_step.proofs.Together.{parted_after, sorted_drop, below_drop, same_dropped}
use Rattle.changeset_model.proofs.Spelling.{is_false as not_true}
use Rattle.byte_fields.proofs.Booleans.{not_false}
use Rattle.derive_step.proofs.slices.edits_after.Goals as goal

pub returns-clause-sorted : goal.returns-clause-sorted
returns-clause-sorted c = λ rise.
    let es = c.args.edits.now in
    let start = c.partition_point-start.result in
    ap (λ xs. is_sorted path_cmp (edits_view xs)) (take_rest es start) ∙ sorted_drop start es rise

pub returns-clause-after : goal.returns-clause-after
returns-clause-after c = λ rise.
    let d = c.args.dir.now in
    let es = c.args.edits.now in
    let start = c.partition_point-start in
    let point = IsPartitionPoint-from_clause (λ (e : Edit). not (path_lt d e.path)) es start.result start.ensures.partitioned (parted_after d es rise) (λ a r q k. search rules) in
    ap (λ xs. below_all path_cmp d (edits_view xs)) (take_rest es start.result) ∙ below_drop d start.result es (λ k z over less. not_false (path_lt d _) (point.1 k z over less))

pub returns-clause-same : goal.returns-clause-same
returns-clause-same c = λ rise.
    let d = c.args.dir.now in
    let es = c.args.edits.now in
    let start = c.partition_point-start in
    let point = IsPartitionPoint-from_clause (λ (e : Edit). not (path_lt d e.path)) es start.result start.ensures.partitioned (parted_after d es rise) (λ a r q k. search rules) in
    ap (λ xs. edits_in d (edits_view xs)) (take_rest es start.result) ∙ same_dropped d start.result es (λ k z less. not_true (path_lt d _) (point.0 k z (omega arith) less))
