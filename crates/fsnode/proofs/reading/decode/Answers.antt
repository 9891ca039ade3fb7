use Rattle.std.proofs.Common.{ap, subst, ◌∙◌, arith}
use Rattle.manifest_model.specs.Fsnode.{fsnode_bytes, is_fsnode}
use Rattle.manifest_model.specs.NodeReading.{fsnode_of}
use Rattle.manifest_model.proofs.Nodes.{fsnode_is_read}
use Rattle.manifest_model.proofs.Decoded.{fsnode_read_exactly}
use Rattle.node_fields.specs.Answers.{DecodesTo}
use Rattle.node_fields.proofs.Exact.{is_spelled}
use Rattle.fsnode.specs.Views.{fsnode_seen}
use Rattle.fsnode.proofs.reading.decode.Goals as goal

pub returns-clause-spelled : goal.returns-clause-spelled
returns-clause-spelled c = is_spelled fsnode_seen fsnode_bytes is_fsnode c.args.bytes.now (fsnode_of c.args.bytes.now) c.node_of.result (λ n e. (fsnode_read_exactly c.args.bytes.now n (λ i. omega (arith, c.type_inv.bytes i))).0 e) c.node_of.ensures

pub returns-clause-only : goal.returns-clause-only
returns-clause-only c = λ n valid e. subst (λ read. DecodesTo fsnode_seen c.node_of.result read) (ap fsnode_of e ∙ fsnode_is_read n valid) c.node_of.ensures
