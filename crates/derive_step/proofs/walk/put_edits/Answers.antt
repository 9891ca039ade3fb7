use Rattle.std.proofs.Common.{◌≡◌, ◌++◌, ◌∷◌, [], ℕ, List, ap, sym, subst, ◌∙◌, append_assoc}
use Rattle.std.specs.FinMap.{is_sorted}
use Rattle.bonsai.specs.View.{change_view, edit_view, edits_view}
use Rattle.changeset_model.specs.Path.{path_cmp}
use Rattle.node_fields.specs.Children.{children_seen}
use Rattle.derive_step.specs.Places.{dir_of}
use Rattle.derive_step.specs.Slices.{left_after}
use Rattle.derive_step.specs.Merge.{AreBothAhead, entries_in}
use Rattle.derive_step.specs.Walk.{Sides, after, after_edits, all_nodes, made_in, nodes_by}
use Rattle.derive_step.proofs.Edits.{left_same, left_nodes}
use Rattle.derive_step.proofs.Merged.{ahead_left, rising_parts, sorted_left}
use Rattle.derive_step.proofs.walk.put_edits.Goals as goal

pub put_edit-requires-clause-ahead : goal.put_edit-requires-clause-ahead
put_edit-requires-clause-ahead g c =
    let cut : edits_view c.putting.left.now ≡ edit_view c.in-Some.edit.now ∷ edits_view c.in-Some.rest.now = ap edits_view c.in-Some.ensures.cases.0 in
    let ahead = subst (λ q. AreBothAhead g.K.Kind.seen (dir_of c.args.dir) q c.putting.entries) cut c.putting.invariant.ahead in
    ((ahead.0.0, tt), (ahead.1.0, tt))

pub putting-preserved : goal.putting-preserved
putting-preserved g c =
    let d = dir_of c.args.dir in
    let set = g.K.Kind.set c.args.kind.now in
    let own = g.K.Kind.own c.args.kind.now in
    let is_file = g.K.Kind.is_file in
    let made = made_in g.K.Kind.made c.args.made.now in
    let x = c.in-Some.edit.now in
    let change = change_view x.change in
    let child = c.in_ok-child.child in
    let rest = edits_view c.in-Some.rest.now in
    let before = entries_in g.K.Kind.seen c.putting.entries in
    let then = entries_in g.K.Kind.seen c.put_edit.new.entries in
    let one : List ℕ → Sides g.K.Kind.Seen = λ n. after set made is_file d (edit_view x ∷ []) before n in
    let cut : edits_view c.putting.left.now ≡ edit_view x ∷ rest = ap edits_view c.in-Some.ensures.cases.0 in
    let put : (n : List ℕ) → then n ≡ one n = c.in_ok-child.ensures.entries in
    let same : then ≡ one = λ j n. put n j in
    let had = c.putting.nodes.items in
    let parts = rising_parts (edit_view x) rest (ap (is_sorted path_cmp) (sym cut) ∙ c.putting.invariant.rising) in
    let was = subst (λ q. AreBothAhead g.K.Kind.seen d q c.putting.entries) cut c.putting.invariant.ahead in
    let later = c.in_ok-child.ensures.ahead rest parts.0 (was.0.1, was.1.1) in
    record {
      merge = c.in_ok-child.ensures.merge;
      ahead = subst (λ q. AreBothAhead g.K.Kind.seen d q c.put_edit.new.entries) (sym c.edits_left-left.ensures.left) (ahead_left d child (children_seen g.K.Kind.seen c.put_edit.new.entries.first.done.items) rest later.0, ahead_left d child (children_seen g.K.Kind.seen c.put_edit.new.entries.second.done.items) rest later.1);
      rising = ap (is_sorted path_cmp) c.edits_left-left.ensures.left ∙ sorted_left child rest parts.1;
      entries = λ n.
          ap (λ q. after set made is_file d q then n) c.edits_left-left.ensures.left
          ∙ ap (after_edits (set (d ++ n ∷ [])) (made (d ++ n ∷ [])) is_file (d ++ n ∷ []) (left_after child rest)) (put n)
          ∙ left_same set is_file made d x.path n change (before n) child c.in_ok-child.ensures.child rest
          ∙ ap (λ q. after set made is_file d q before n) (sym cut)
          ∙ c.putting.invariant.entries n;
      nodes =
          ap (λ q. c.put_edit.new.nodes.items ++ all_nodes set made is_file own d q then) c.edits_left-left.ensures.left
          ∙ ap (λ f. c.put_edit.new.nodes.items ++ all_nodes set made is_file own d (left_after child rest) f) same
          ∙ ap (λ ns. c.put_edit.new.nodes.items ++ ns) (left_nodes set made is_file own d x.path change before child c.in_ok-child.ensures.child rest)
          ∙ ap (λ ns. ns ++ all_nodes set made is_file own d rest one) c.in_ok-child.ensures.nodes
          ∙ append_assoc had (nodes_by own d before (edit_view x)) (all_nodes set made is_file own d rest one)
          ∙ ap (λ q. had ++ all_nodes set made is_file own d q before) (sym cut)
          ∙ c.putting.invariant.nodes;
    }
