use Rattle.std.proofs.Common.{length, arith}
use Rattle.byte_fields.proofs.Run.{read_to_end}
use Rattle.changeset_model.specs.Decoding.{changeset}
use Rattle.changeset_model.proofs.Accepting.{read_spells}
use Rattle.bonsai.specs.View.{fields_view}
use Rattle.bonsai.proofs.decoding.all_of.Goals as goal

pub returns-in-Ok-default-empty-clause-rules : goal.returns-in-Ok-default-empty-clause-rules
returns-in-Ok-default-empty-clause-rules c =
    let m = c.in-Ok-default-empty in
    let bytes = c.args.bytes.now in
    (read_spells bytes (fields_view m.fields) (λ i. omega (arith, c.type_inv.bytes i)) (read_to_end (length bytes) (changeset bytes) (fields_view m.fields) m.field-0-1.now m.ensures m.len_below)).0
