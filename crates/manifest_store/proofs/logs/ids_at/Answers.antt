use Rattle.std.proofs.Common.{ℕ, ap, map, ◌∙◌}
use Rattle.byte_fields.specs.Bytes.{Id}
use Rattle.changeset_model.specs.Changeset.{id_of}
use Rattle.changeset_store.specs.Store.{changeset_at}
use Rattle.manifest_store.proofs.LogLinks.{ids_more}
use Rattle.manifest_store.proofs.logs.ids_at.Goals as goal

pub loop-number-preserved : goal.loop-number-preserved
loop-number-preserved c =
    let f : ℕ → Id = λ n. id_of (changeset_at c.args.changesets.now.known n) in
    ids_more f c.args.numbers.now c.loop-number.number-index _ c.loop-number-test.true c.loop-number.ids.items c.push.new.self.items c.id.result (map f c.args.numbers.now) c.loop-number.invariant c.in_ok-push.ensures.items (c.id.ensures ∙ ap id_of c.at.ensures)
