use Rattle.std.proofs.Common.{ap, subst, ◌∙◌, arith}
use Rattle.manifest_model.specs.Deleted.{deleted_bytes, is_deleted}
use Rattle.manifest_model.specs.NodeReading.{deleted_of}
use Rattle.deleted_node.proofs.Spelled.{deleted_is_read}
use Rattle.deleted_node.proofs.Decoded.{deleted_read_exactly}
use Rattle.node_fields.specs.Answers.{DecodesTo}
use Rattle.node_fields.proofs.Exact.{is_spelled}
use Rattle.deleted_node.specs.Views.{deleted_seen}
use Rattle.deleted_node.proofs.reading.decode.Goals as goal

pub returns-clause-spelled : goal.returns-clause-spelled
returns-clause-spelled c = is_spelled deleted_seen deleted_bytes is_deleted c.args.bytes.now (deleted_of c.args.bytes.now) c.node_of.result (λ n e. (deleted_read_exactly c.args.bytes.now n (λ i. omega (arith, c.type_inv.bytes i))).0 e) c.node_of.ensures

pub returns-clause-only : goal.returns-clause-only
returns-clause-only c = λ n valid e. subst (λ read. DecodesTo deleted_seen c.node_of.result read) (ap deleted_of e ∙ deleted_is_read n valid) c.node_of.ensures
