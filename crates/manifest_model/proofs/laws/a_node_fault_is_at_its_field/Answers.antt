use Rattle.byte_fields.proofs.Places.{last_keeps, names_place}
use Rattle.manifest_model.specs.NodeReading.{fsnode_fields, unode_fields, deleted_fields}
use Rattle.manifest_model.proofs.Places.{keeps_fsnode, keeps_unode, keeps_deleted}
use Rattle.manifest_model.proofs.laws.a_node_fault_is_at_its_field.Goals as goal

pub returns-clause-fsnode : goal.returns-clause-fsnode
returns-clause-fsnode c = names_place 0 fsnode_fields (last_keeps 0 keeps_fsnode)

pub returns-clause-unode : goal.returns-clause-unode
returns-clause-unode c = names_place 0 unode_fields (last_keeps 0 keeps_unode)

pub returns-clause-deleted : goal.returns-clause-deleted
returns-clause-deleted c = names_place 1 deleted_fields (last_keeps 1 keeps_deleted)
