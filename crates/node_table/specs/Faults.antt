-- When nodes could not be put in.
--     FaultOf fault first      the fault is the collision at this id, or want of memory
--     OfTwo fault m ns      a collision is of two different nodes of the table and of these
--     IsHeld held n found      what was found is nothing, n, or something other
use Rattle.std.specs.Prelude.{◌≡◌, ℕ, true, List, Option, None, Some}
use Rattle.byte_fields.specs.Bytes.{Id}
use Rattle.node_table.specs.declared.fault.TableFault.{TableFault}
use Rattle.node_table.specs.declared.fault.TableFault.TheVariants as faults
use Rattle.node_table.specs.declared.store.Held.{Held}
use Rattle.node_table.specs.declared.store.Held.TheVariants as held
use Rattle.node_table.specs.Table.{Nodes, is_other, Collide}

abbrev pub FaultOf : TableFault → Option Id → Type 0
FaultOf (faults.Collision id) first = first ≡ Some id
FaultOf faults.Memory first = Unit {0}

abbrev pub OfTwo : TableFault → Nodes → List (List ℕ) → Type 0
OfTwo (faults.Collision id) m ns = Collide m ns id
OfTwo faults.Memory m ns = Unit {0}

abbrev pub IsHeld : Held → List ℕ → Option (List ℕ) → Type 0
IsHeld held.Nothing n found = found ≡ None
IsHeld held.Same n found = found ≡ Some n
IsHeld held.Other n found = is_other n found ≡ true
