use Rattle.std.proofs.Common.{◌≡◌, map, drop, ◌++◌}
use Rattle.std.specs.List.{All}
use Rattle.content_table.specs.Table.{stands}
use Rattle.content_table.proofs.table.ContentTable.placed.Given as goal

-- the ids so far, and those that are left
abbrev pub invariant-loop-id : goal.invariant-loop-id
invariant-loop-id l = (map (λ p. p.id) l.parts.items ++ drop l.id-index l.ids ≡ l.ids) × All (stands l.self) l.parts.items
