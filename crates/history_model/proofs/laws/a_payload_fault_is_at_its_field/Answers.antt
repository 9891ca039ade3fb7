use Rattle.history_model.proofs.Places.{payload_fault}
use Rattle.history_model.proofs.laws.a_payload_fault_is_at_its_field.Goals as goal

pub returns : goal.returns
returns c = payload_fault
