use Rattle.std.proofs.Common.{sym, ap, ◌∙◌, cond, Some, option_map}
use Rattle.std.specs.Ordering.{nat_cmp, eq_by_cmp}
use Rattle.std.specs.Cmp.Lexicographic.{slice_cmp}
use Rattle.std.specs.BTreeMap.{get}
use Rattle.node_table.specs.Reads.{bytes_seen}
use Rattle.manifest_store.proofs.Ways.{are_with, more_with}
use Rattle.manifest_store.proofs.holding.hold.Goals as goal

pub returns-in_ok-insert-clause-are : goal.returns-in_ok-insert-clause-are
returns-in_ok-insert-clause-are c =
    are_with c.args.table.now.nodes c.args.nodes.now c.insert.new.self c.args.id.now (bytes_seen c.in-Some.bytes) (sym c.in_ok-bytes.ensures.found ∙ ap (option_map bytes_seen) c.in-Some.is)
    (λ y. c.in_ok-insert.ensures.updates.0 y ∙ ap (λ b. cond (eq_by_cmp (slice_cmp nat_cmp) c.args.id.now y) (Some b) (get (slice_cmp nat_cmp) c.args.nodes.now y)) (c.of.ensures ∙ c.in_ok-into_vec.ensures))
    c.requires

pub returns-in_ok-insert-clause-more : goal.returns-in_ok-insert-clause-more
returns-in_ok-insert-clause-more c =
    more_with c.args.table.now.nodes c.args.nodes.now c.insert.new.self c.args.id.now (bytes_seen c.in-Some.bytes) (sym c.in_ok-bytes.ensures.found ∙ ap (option_map bytes_seen) c.in-Some.is)
    (λ y. c.in_ok-insert.ensures.updates.0 y ∙ ap (λ b. cond (eq_by_cmp (slice_cmp nat_cmp) c.args.id.now y) (Some b) (get (slice_cmp nat_cmp) c.args.nodes.now y)) (c.of.ensures ∙ c.in_ok-into_vec.ensures))
    (sym c.contains_key.ensures ∙ c.if-contains_key.false)
