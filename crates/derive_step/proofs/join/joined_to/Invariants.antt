use Rattle.std.proofs.Common.{◌≡◌, ◌++◌, ◌∷◌, [], ℕ, List, true, length}
use Rattle.std.specs.FinMap.{is_sorted}
use Rattle.node_fields.specs.Children.{children_seen}
use Rattle.derive_step.specs.Places.{dir_of}
use Rattle.derive_step.specs.Merge.{IsMerge, entry_in}
use Rattle.derive_step.specs.Walk.{entries_among, entry_among, made_in}
use Rattle.derive_step.specs.Join.{joined_by, joined_nodes, made_at}
use Rattle.derive_step.proofs.Entries.{by_name}
use Rattle.derive_step.proofs.JoinedWalk.{AreLater}
use Rattle.derive_step.proofs.join.joined_to.Given as goal

-- what is left of the second parent's entries, joined to what is there, and the nodes with those that this puts to them
abbrev pub invariant-joining : goal.invariant-joining
invariant-joining g l = record {
  merge : IsMerge g.K.Kind.is_kept (children_seen g.K.Kind.seen l.entries.done.items) (children_seen g.K.Kind.seen l.entries.left.items);
  later : AreLater (children_seen g.K.Kind.seen l.left.items) (children_seen g.K.Kind.seen l.entries.done.items);
  rising : is_sorted by_name (children_seen g.K.Kind.seen l.left.items) ≡ true;
  entries : (n : List ℕ) → joined_by (g.K.Kind.joined l.kind (dir_of l.dir) n (made_at (made_in g.K.Kind.made l.made) (dir_of l.dir ++ n ∷ []))) (entry_in g.K.Kind.seen l.entries n, entry_among g.K.Kind.seen l.left.items n) ≡ joined_by (g.K.Kind.joined l.kind (dir_of l.dir) n (made_at (made_in g.K.Kind.made l.made) (dir_of l.dir ++ n ∷ []))) (entries_among g.K.Kind.seen l.fn.first.items l.fn.second.items n);
  nodes : l.nodes.items ++ joined_nodes (g.K.Kind.own_joined l.kind (dir_of l.dir)) (entry_in g.K.Kind.seen l.entries) (children_seen g.K.Kind.seen l.left.items) ≡ l.fn.nodes.items ++ joined_nodes (g.K.Kind.own_joined l.kind (dir_of l.dir)) (entry_among g.K.Kind.seen l.fn.first.items) (children_seen g.K.Kind.seen l.fn.second.items);
}

abbrev pub decreases-joining : goal.decreases-joining
decreases-joining g l = length l.left.items
