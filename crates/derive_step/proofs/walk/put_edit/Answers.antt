use Rattle.std.proofs.Common.{◌++◌, ◌∷◌, [], ap, sym, ◌∙◌, append_assoc, arith}
use Rattle.std.proofs.lemmas.List.{length_push}
use Rattle.std.specs.Prelude.{None}
use Rattle.changeset_model.specs.Path.{elements}
use Rattle.changeset_model.proofs.Accepting.{elements_some as some_elements}
use Rattle.bonsai.specs.View.{change_view}
use Rattle.node_fields.specs.Children.{children_seen}
use Rattle.derive_step.specs.Places.{dir_of}
use Rattle.derive_step.specs.Merge.{entries_in}
use Rattle.derive_step.specs.Walk.{both_seen, edited, made_in, renewed}
use Rattle.derive_step.proofs.Edits.{outside_edit, put_here, put_under, child_on, here_nodes, under_nodes}
use Rattle.derive_step.proofs.Merged.{ahead_on, put_over}
use Rattle.derive_step.proofs.walk.put_edit.Goals as goal

pub returns-in-Outside-clause-entries : goal.returns-in-Outside-clause-entries
returns-in-Outside-clause-entries g c = λ n. outside_edit (g.K.Kind.set c.args.kind.now) g.K.Kind.is_file (made_in g.K.Kind.made c.args.made.now) (dir_of c.args.dir) c.args.edit.now.path n (change_view c.args.edit.now.change) (entries_in g.K.Kind.seen c.args.entries.now n) c.in-Outside.ensures

-- ---- directly in the directory

pub take_both-requires-clause-before : goal.take_both-requires-clause-before
take_both-requires-clause-before g c = (c.requires.ahead.0.0 c.in-Here.name.now [] c.in-Here.ensures.0, c.requires.ahead.1.0 c.in-Here.name.now [] c.in-Here.ensures.0)

pub returns-in_ok-put_both-in-Here-clause-ahead : goal.returns-in_ok-put_both-in-Here-clause-ahead
returns-in_ok-put_both-in-Here-clause-ahead g c = λ es below ahead.
    let seen = g.K.Kind.seen in
    let old = c.args.entries.now in
    let mid = c.take_both.new.entries in
    let new = c.put_both.new.entries in
    let told = c.in_ok-before-in-Here.ensures.before in (
      ahead_on (dir_of c.args.dir) c.args.edit.now.path c.in-Here.name.now [] (children_seen seen old.first.done.items) (children_seen seen mid.first.done.items) (children_seen seen new.first.done.items) es
          c.in-Here.ensures.0 told.0 (ap (children_seen seen) c.in_ok-put_both-in-Here.ensures.first) below ahead.0,
      ahead_on (dir_of c.args.dir) c.args.edit.now.path c.in-Here.name.now [] (children_seen seen old.second.done.items) (children_seen seen mid.second.done.items) (children_seen seen new.second.done.items) es
          c.in-Here.ensures.0 told.1 (ap (children_seen seen) c.in_ok-put_both-in-Here.ensures.second) below ahead.1,
    )

pub returns-in_ok-put_both-in-Here-clause-entries : goal.returns-in_ok-put_both-in-Here-clause-entries
returns-in_ok-put_both-in-Here-clause-entries g c =
    let key = c.in-Here.name.now in
    let d = dir_of c.args.dir in
    let change = change_view c.args.edit.now.change in
    let set = g.K.Kind.set c.args.kind.now in
    let told = c.in_ok-before-in-Here.ensures in
    let both = both_seen g.K.Kind.seen c.in_ok-both-in-Here.both in
    put_here set g.K.Kind.is_file (entries_in g.K.Kind.seen c.put_both.new.entries) (entries_in g.K.Kind.seen c.args.entries.now) d c.args.edit.now.path key change both (made_in g.K.Kind.made c.args.made.now)
    (put_over key (None, None) both (entries_in g.K.Kind.seen c.put_both.new.entries) (entries_in g.K.Kind.seen c.take_both.new.entries) (entries_in g.K.Kind.seen c.args.entries.now) c.in_ok-put_both-in-Here.ensures.put told.without)
    c.in-Here.ensures.0
    (c.in_ok-both-in-Here.ensures.both ∙ ap (λ p. edited (set p) g.K.Kind.is_file change (both_seen g.K.Kind.seen c.in_ok-before-in-Here.before)) c.in-Here.ensures.0 ∙ ap (λ o. edited (set (d ++ key ∷ [])) g.K.Kind.is_file change o) told.found)

pub returns-in_ok-put_both-in-Here-clause-nodes : goal.returns-in_ok-put_both-in-Here-clause-nodes
returns-in_ok-put_both-in-Here-clause-nodes g c =
    c.in_ok-both-in-Here.ensures.nodes
    ∙ ap (λ ns. c.args.nodes.now.items ++ ns) (here_nodes (g.K.Kind.own c.args.kind.now) (dir_of c.args.dir) c.args.edit.now.path c.in-Here.name.now (change_view c.args.edit.now.change) (entries_in g.K.Kind.seen c.args.entries.now) (both_seen g.K.Kind.seen c.in_ok-before-in-Here.before) c.in-Here.ensures.0 c.in_ok-before-in-Here.ensures.found)

-- ---- under a directory in it

pub dir_before-requires : goal.dir_before-requires
dir_before-requires g c = (dir_of c.args.dir ++ c.in-Under.name.now ∷ [], omega (arith, length_push (dir_of c.args.dir) c.in-Under.name.now), c.in-Under.ensures.0 ∙ sym (append_assoc (dir_of c.args.dir) (c.in-Under.name.now ∷ []) (elements c.in-Under.rest.now)))

pub take_both-requires-in-Under-clause-before : goal.take_both-requires-in-Under-clause-before
take_both-requires-in-Under-clause-before g c = (c.requires.ahead.0.0 c.in-Under.name.now (elements c.in-Under.rest.now) c.in-Under.ensures.0, c.requires.ahead.1.0 c.in-Under.name.now (elements c.in-Under.rest.now) c.in-Under.ensures.0)

pub returns-in_ok-put_both-in-Under-clause-ahead : goal.returns-in_ok-put_both-in-Under-clause-ahead
returns-in_ok-put_both-in-Under-clause-ahead g c = λ es below ahead.
    let seen = g.K.Kind.seen in
    let rest = elements c.in-Under.rest.now in
    let old = c.args.entries.now in
    let mid = c.take_both-in-Under.new.entries in
    let new = c.put_both-in-Under.new.entries in
    let told = c.in_ok-before-in-Under.ensures.before in (
      ahead_on (dir_of c.args.dir) c.args.edit.now.path c.in-Under.name.now rest (children_seen seen old.first.done.items) (children_seen seen mid.first.done.items) (children_seen seen new.first.done.items) es
          c.in-Under.ensures.0 told.0 (ap (children_seen seen) c.in_ok-put_both-in-Under.ensures.first) below ahead.0,
      ahead_on (dir_of c.args.dir) c.args.edit.now.path c.in-Under.name.now rest (children_seen seen old.second.done.items) (children_seen seen mid.second.done.items) (children_seen seen new.second.done.items) es
          c.in-Under.ensures.0 told.1 (ap (children_seen seen) c.in_ok-put_both-in-Under.ensures.second) below ahead.1,
    )

pub returns-in_ok-put_both-in-Under-clause-entries : goal.returns-in_ok-put_both-in-Under-clause-entries
returns-in_ok-put_both-in-Under-clause-entries g c =
    let key = c.in-Under.name.now in
    let d = dir_of c.args.dir in
    let rest = elements c.in-Under.rest.now in
    let made = made_in g.K.Kind.made c.args.made.now in
    let told = c.in_ok-before-in-Under.ensures in
    let child = c.in_ok-child-in-Under.ensures (d ++ key ∷ []) (c.in-Under.ensures.0 ∙ sym (append_assoc d (key ∷ []) rest)) in
    let both = both_seen g.K.Kind.seen c.renewed-both.result in
    put_under (g.K.Kind.set c.args.kind.now) g.K.Kind.is_file (entries_in g.K.Kind.seen c.put_both-in-Under.new.entries) (entries_in g.K.Kind.seen c.args.entries.now) d c.args.edit.now.path key rest (change_view c.args.edit.now.change) both made
    (put_over key (None, None) both (entries_in g.K.Kind.seen c.put_both-in-Under.new.entries) (entries_in g.K.Kind.seen c.take_both-in-Under.new.entries) (entries_in g.K.Kind.seen c.args.entries.now) c.in_ok-put_both-in-Under.ensures.put told.without)
    (some_elements c.in-Under.rest.now)
    c.in-Under.ensures.0
    (c.renewed-both.ensures
    ∙ ap (λ o. renewed o g.K.Kind.is_file (both_seen g.K.Kind.seen c.in_ok-before-in-Under.before)) (c.entry_made.ensures ∙ ap made child)
    ∙ ap (λ o. renewed (made (d ++ key ∷ [])) g.K.Kind.is_file o) told.found)

pub returns-in_ok-put_both-in-Under-clause-nodes : goal.returns-in_ok-put_both-in-Under-clause-nodes
returns-in_ok-put_both-in-Under-clause-nodes g c =
    under_nodes (g.K.Kind.own c.args.kind.now) (dir_of c.args.dir) c.args.edit.now.path c.in-Under.name.now (elements c.in-Under.rest.now) (change_view c.args.edit.now.change) (entries_in g.K.Kind.seen c.args.entries.now) c.args.nodes.now.items (some_elements c.in-Under.rest.now) c.in-Under.ensures.0

pub returns-in_ok-put_both-in-Under-clause-child : goal.returns-in_ok-put_both-in-Under-clause-child
returns-in_ok-put_both-in-Under-clause-child g c =
    let d = dir_of c.args.dir in
    let name = c.in-Under.name.now in
    let rest = elements c.in-Under.rest.now in
    let parts = c.in-Under.ensures.0 ∙ sym (append_assoc d (name ∷ []) rest) in
    let child = c.in_ok-child-in-Under.child in
    let is = c.in_ok-child-in-Under.ensures (d ++ name ∷ []) parts in
    child_on child d c.args.edit.now.path rest name is (parts ∙ ap (λ x. x ++ rest) (sym is)) (some_elements c.in-Under.rest.now)
