use Rattle.std.proofs.Common.{◌≡◌, drop}
use Rattle.std.specs.Prelude.{find}
use Rattle.content_table.specs.Table.{is_whole_in}
use Rattle.content_table.proofs.table.ContentTable.first_joined.Given as goal

-- the first of those that are left is the first of all
abbrev pub invariant-loop-id : goal.invariant-loop-id
invariant-loop-id l = find (is_whole_in l.self) (drop l.id-index l.ids) ≡ find (is_whole_in l.self) l.ids
