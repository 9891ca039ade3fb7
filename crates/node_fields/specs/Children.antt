-- How contracts see entries with their names, where seen tells an entry.
--     child_seen seen c, children_seen seen cs      one, and a list of them
use Rattle.std.specs.Prelude.{ℕ, List, map}
use Rattle.node_fields.specs.declared.child.Child.{Child}

abbrev pub child_seen : {R E : Type 0} → (R → E) → Child R → List ℕ × E
child_seen seen c = (c.name, seen c.entry)

abbrev pub children_seen : {R E : Type 0} → (R → E) → List (Child R) → List (List ℕ × E)
children_seen seen cs = map (child_seen seen) cs
