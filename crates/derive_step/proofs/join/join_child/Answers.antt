use Rattle.std.proofs.Common.{◌++◌, ◌∷◌, [], cond, ap, sym, ◌∙◌}
use Rattle.std.specs.Prelude.{None, Some, option_map}
use Rattle.std.specs.Ordering.{eq_by_cmp}
use Rattle.changeset_model.specs.Path.{is_element}
use Rattle.node_fields.specs.Children.{children_seen}
use Rattle.derive_step.specs.Places.{dir_of}
use Rattle.derive_step.specs.Merge.{entry_in, is_before}
use Rattle.derive_step.specs.Walk.{made_in}
use Rattle.derive_step.specs.Join.{joined_by, made_at, nodes_where}
use Rattle.derive_step.proofs.Entries.{by_name}
use Rattle.derive_step.proofs.Merged.{put_over}
use Rattle.derive_step.proofs.join.join_child.Goals as goal

pub take-requires-clause-before : goal.take-requires-clause-before
take-requires-clause-before g c = ap (λ n. is_before n (children_seen g.K.Kind.seen c.args.entries.now.done.items)) c.as_bytes-bytes.ensures.bytes ∙ c.requires.before

pub put-requires-clause-name : goal.put-requires-clause-name
put-requires-clause-name g c = ap is_element c.as_bytes-bytes.ensures.bytes ∙ c.as_bytes-bytes.ensures.element

pub returns-clause-before : goal.returns-clause-before
returns-clause-before g c =
    let seen = g.K.Kind.seen in
    ap (λ xs. is_before c.args.child.name (children_seen seen xs)) c.in_ok-put.ensures.done
    ∙ sym (ap (λ n. is_before n (children_seen seen c.take.new.entries.done.items)) c.as_bytes-bytes.ensures.bytes)
    ∙ c.in_ok-first.ensures.before

pub returns-clause-entries : goal.returns-clause-entries
returns-clause-entries g c = λ n.
    let seen = g.K.Kind.seen in
    let d = dir_of c.args.dir in
    let old = c.args.entries.now in
    let name = c.args.child.name in
    let is = c.as_bytes-bytes.ensures.bytes in
    let join = g.K.Kind.joined c.args.kind.now d name (made_at (made_in g.K.Kind.made c.args.made.now) (d ++ name ∷ [])) in
    let entry = c.in_ok-entry.ensures.entry ∙ ap (λ o. joined_by join (o, Some (seen c.args.child.entry))) (c.in_ok-first.ensures.found ∙ ap (entry_in seen old) is) in
    put_over c.as_bytes-bytes.result.now None (option_map seen c.in_ok-entry.entry) (entry_in seen c.put.new.entries) (entry_in seen c.take.new.entries) (entry_in seen old) c.in_ok-put.ensures.put c.in_ok-first.ensures.without n
    ∙ (λ i. cond (eq_by_cmp by_name (is i) n) (entry i) (entry_in seen old n))

pub returns-clause-nodes : goal.returns-clause-nodes
returns-clause-nodes g c =
    let seen = g.K.Kind.seen in
    let own = g.K.Kind.own_joined c.args.kind.now (dir_of c.args.dir) c.args.child.name in
    c.in_ok-entry.ensures.nodes
    ∙ ap (λ o. c.args.nodes.now.items ++ nodes_where own o (seen c.args.child.entry)) (c.in_ok-first.ensures.found ∙ ap (entry_in seen c.args.entries.now) c.as_bytes-bytes.ensures.bytes)
