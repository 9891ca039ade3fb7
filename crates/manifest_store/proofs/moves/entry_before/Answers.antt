use Rattle.std.proofs.Common.{subst}
use Rattle.std.specs.Prelude.{option_map}
use Rattle.unode.specs.Parts.{entry_seen}
use Rattle.manifest_store.specs.Moves.{Stands}
use Rattle.manifest_store.proofs.Taken.{entry_walked, nothing_walked}
use Rattle.manifest_store.proofs.moves.entry_before.Goals as goal

pub returns-in-Some-clause-entry : goal.returns-in-Some-clause-entry
returns-in-Some-clause-entry c = λ past s. entry_walked c.args.table.now.nodes past c.in-Some.roots c.args.path.now (option_map entry_seen c.walk.result) (subst (λ parent. Stands c.args.table.now.nodes parent past) c.in-Some.is s) c.walk.ensures

pub returns-in-None-clause-entry : goal.returns-in-None-clause-entry
returns-in-None-clause-entry c = λ past s. nothing_walked c.args.table.now.nodes past c.args.path.now c.has_elements.ensures (subst (λ parent. Stands c.args.table.now.nodes parent past) c.in-None.is s)
