use Rattle.std.proofs.Common.{◌∙◌, ap, cond}
use Rattle.std.specs.Prelude.{Some}
use Rattle.std.specs.Ordering.{is_eq, nat_cmp}
use Rattle.std.specs.Cmp.Lexicographic.{slice_cmp}
use Rattle.node_table.proofs.Steps.{put_again, stored}
use Rattle.node_table.proofs.store.cut_under.Goals as goal

pub returns : goal.returns
returns c =
    let old = c.args.nodes.now.entries in
    put_again old c.insert.new.self.entries c.args.id.now c.in-Some.node
    (λ q. c.in_ok-insert.ensures.updates.0 q ∙ ap (λ n. cond (is_eq (slice_cmp nat_cmp c.args.id.now q)) (Some n) (stored q old)) c.in_ok-wide.ensures)
    (rw c.in-Some.is at c.in_ok-node.ensures)
