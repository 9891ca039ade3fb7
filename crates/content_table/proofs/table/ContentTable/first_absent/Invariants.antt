use Rattle.std.proofs.Common.{◌≡◌, drop}
use Rattle.std.specs.Prelude.{find, is_none}
use Rattle.content_table.specs.Table.{lengths}
use Rattle.content_table.proofs.table.ContentTable.first_absent.Given as goal

-- the first of those that are left is the first of all
abbrev pub invariant-loop-id : goal.invariant-loop-id
invariant-loop-id l = find (λ x. is_none (lengths l.self x)) (drop l.id-index l.ids) ≡ find (λ x. is_none (lengths l.self x)) l.ids
