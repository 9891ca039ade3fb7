use Rattle.std.proofs.Common.{◌≡◌, ◌∙◌, false, sym, ap, subst}
use Rattle.node_table.specs.Table.{Table, IsTable, is_settled}
use Rattle.node_table.proofs.Tables.{a_table, noted_is, not_failed}
use Rattle.node_table.proofs.table.NodeTable.note.Goals as goal

pub invariant_of-self-else-is_err : goal.invariant_of-self-else-is_err
invariant_of-self-else-is_err c =
    let inside = c.self.inside in
    let t : Table = a_table inside.store inside.roots inside.settled.items in
    let new : is_settled t c.args.number ≡ false = ap (λ t. is_settled t c.args.number) c.self.view_is ∙ c.requires in
    let roots = not_failed c.insert.result c.is_err.result c.is_err.ensures.value c.if-is_err.false c.insert.ensures.ok in
    subst IsTable (λ i. a_table inside.store (sym roots i) (sym c.in_ok-push.ensures.items i)) (noted_is t c.args.number c.args.roots c.self.invariant new)
