use Rattle.byte_fields.proofs.Places.{last_keeps, names_place}
use Rattle.changeset_model.specs.Decoding.{changeset}
use Rattle.changeset_model.proofs.Places.{keeps_changeset}
use Rattle.changeset_model.proofs.laws.a_fault_is_at_its_field.Goals as goal

pub returns : goal.returns
returns c = names_place 0 changeset (last_keeps 0 keeps_changeset)
