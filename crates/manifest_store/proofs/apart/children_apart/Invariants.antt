use Rattle.std.proofs.Common.{◌≡◌, ◌⊎◌, ℕ, true, List, drop}
use Rattle.std.specs.List.{AllByRecursion}
use Rattle.derive_step.specs.Views.{before_seen}
use Rattle.manifest_store.specs.Apart.{IsChildIn, is_child_apart, is_named}
use Rattle.manifest_store.proofs.Named.{has_name}
use Rattle.manifest_store.proofs.apart.children_apart.Given as goal

abbrev pub invariant-loop-child : goal.invariant-loop-child
invariant-loop-child l = record {
  children : AllByRecursion (IsChildIn (before_seen l.first) (before_seen l.second)) l.apart.items;
  whole : (n : List ℕ) → is_child_apart (before_seen l.first) (before_seen l.second) n ≡ true → (is_named n l.apart.items ≡ true) ⊎ (has_name n (drop l.child-index l.child-items) ≡ true);
}
