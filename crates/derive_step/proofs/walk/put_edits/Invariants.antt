use Rattle.std.proofs.Common.{◌≡◌, ◌++◌, ℕ, List, true, length}
use Rattle.std.specs.FinMap.{is_sorted}
use Rattle.bonsai.specs.View.{edits_view}
use Rattle.changeset_model.specs.Path.{path_cmp}
use Rattle.derive_step.specs.Places.{dir_of}
use Rattle.derive_step.specs.Merge.{AreBothAhead, AreMerges, entries_in}
use Rattle.derive_step.specs.Walk.{after, all_nodes, made_in}
use Rattle.derive_step.proofs.walk.put_edits.Given as goal

-- what the edits that are left make of what is there, and the nodes with those that they put to them
abbrev pub invariant-putting : goal.invariant-putting
invariant-putting g l = record {
  merge : AreMerges g.K.Kind.seen g.K.Kind.is_kept l.entries;
  ahead : AreBothAhead g.K.Kind.seen (dir_of l.dir) (edits_view l.left) l.entries;
  rising : is_sorted path_cmp (edits_view l.left) ≡ true;
  entries : (n : List ℕ) → after (g.K.Kind.set l.kind) (made_in g.K.Kind.made l.made) g.K.Kind.is_file (dir_of l.dir) (edits_view l.left) (entries_in g.K.Kind.seen l.entries) n ≡ after (g.K.Kind.set l.kind) (made_in g.K.Kind.made l.made) g.K.Kind.is_file (dir_of l.dir) (edits_view l.edits) (entries_in g.K.Kind.seen l.fn.entries) n;
  nodes : l.nodes.items ++ all_nodes (g.K.Kind.set l.kind) (made_in g.K.Kind.made l.made) g.K.Kind.is_file (g.K.Kind.own l.kind) (dir_of l.dir) (edits_view l.left) (entries_in g.K.Kind.seen l.entries) ≡ l.fn.nodes.items ++ all_nodes (g.K.Kind.set l.kind) (made_in g.K.Kind.made l.made) g.K.Kind.is_file (g.K.Kind.own l.kind) (dir_of l.dir) (edits_view l.edits) (entries_in g.K.Kind.seen l.fn.entries);
}

abbrev pub decreases-putting : goal.decreases-putting
decreases-putting g l = length l.left
