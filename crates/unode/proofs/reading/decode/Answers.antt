use Rattle.std.proofs.Common.{ap, subst, ◌∙◌, arith}
use Rattle.manifest_model.specs.Unode.{unode_bytes, is_unode}
use Rattle.manifest_model.specs.NodeReading.{unode_of}
use Rattle.manifest_model.proofs.Nodes.{unode_is_read}
use Rattle.manifest_model.proofs.Decoded.{unode_read_exactly}
use Rattle.node_fields.specs.Answers.{DecodesTo}
use Rattle.node_fields.proofs.Exact.{is_spelled}
use Rattle.unode.specs.Views.{unode_seen}
use Rattle.unode.proofs.reading.decode.Goals as goal

pub returns-clause-spelled : goal.returns-clause-spelled
returns-clause-spelled c = is_spelled unode_seen unode_bytes is_unode c.args.bytes.now (unode_of c.args.bytes.now) c.node_of.result (λ n e. (unode_read_exactly c.args.bytes.now n (λ i. omega (arith, c.type_inv.bytes i))).0 e) c.node_of.ensures

pub returns-clause-only : goal.returns-clause-only
returns-clause-only c = λ n valid e. subst (λ read. DecodesTo unode_seen c.node_of.result read) (ap unode_of e ∙ unode_is_read n valid) c.node_of.ensures
