use Rattle.std.proofs.Common.{List, length, ap, arith}
use Rattle.std.specs.Prelude.{Option, is_some}
use Rattle.std.specs.BTreeMap.{values}
use Rattle.std.proofs.lemmas.List.Sums.{length-filter, count_by-le-length}
use Rattle.byte_fields.specs.Bytes.{Id}
use Rattle.repo_machine.proofs.counts.heads_in.Goals as goal

pub overflow_add-count : goal.overflow_add-count
overflow_add-count c =
    let all = values c.args.heads.now in
    omega (arith, length-filter is_some all, count_by-le-length is_some all, c.values-head-items.ensures.fits, c.values-head-items.ensures.len, ap (λ (l : List (Option Id)). length l) c.values-head-items.ensures.rest, c.loop-head.invariant)
