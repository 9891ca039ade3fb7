-- The deleted nodes of a past at paths and above them.
use Rattle.std.proofs.Common.{◌≡◌, true, List, [], ◌∷◌, ◌++◌, length, refl, sym, ap, ◌∙◌, arith}
use Rattle.std.specs.Prelude.{Some, ◌==◌}
use Rattle.std.specs.List.{AllByRecursion, list_any}
use mathlib.Core.Bool.{true≢false}
use Rattle.std.proofs.lemmas.Bool.{ne_eqb}
use Rattle.std.proofs.lemmas.List.Folds.{list_any-append}
use Rattle.byte_fields.specs.Bytes.{Id}
use Rattle.changeset_model.specs.Path.{Path, is_prefix}
use Rattle.history_model.specs.Past.{Past, Begin, At}
use Rattle.manifest_model.specs.Deleted.{deleted, deleted_bytes, has_deleted}
use Rattle.manifest_model.specs.Unode.{UnodeDir}
use Rattle.manifest_model.proofs.Derivations.{or_case as or_either}
use Rattle.node_table.specs.Table.{Nodes}
use Rattle.node_table.specs.declared.roots.Roots.{Roots}
use Rattle.deleted_step.specs.Steps.{AreHeldAt, is_on_way}
use Rattle.derive_step.specs.declared.held.HeldNodes.{HeldNodes}
use Rattle.derive_step.specs.Views.{held_in}
use Rattle.manifest_store.specs.Nodes.{deleted_entry_under, walk}
use Rattle.manifest_store.specs.Moves.{Stands}
use Rattle.manifest_store.specs.Holding.{ByIds, IsHere, AreOnWay}
use Rattle.manifest_store.proofs.GoneNodes.{gone_id, gone_if, gone_stands, gone_walked}
use Rattle.manifest_store.proofs.Ways.{way_here}

among_ways : (m : Nodes) (nodes : ByIds) (root : Id) (ps : List Path) (d : Path) (x : Id) → AllByRecursion (AreOnWay m nodes root) ps → walk (deleted_entry_under m) (UnodeDir root) d ≡ Some (UnodeDir x) → list_any (λ p. is_prefix d p) ps ≡ true → IsHere m nodes x
among_ways m nodes root [] d x all walked h = absurd (true≢false (sym h))
among_ways m nodes root (p ∷ ps) d x all walked h = or_either (is_prefix d p) (list_any (λ p. is_prefix d p) ps) (λ k. all.0 d x k walked) (λ k. among_ways m nodes root ps d x all.1 walked k) h

pub are_held : (m : Nodes) (past : Past) (r : Roots) (nodes : HeldNodes) (gone come : List Path) → Stands m (Some r) past → IsHere m nodes.nodes r.deleted → AllByRecursion (AreOnWay m nodes.nodes r.deleted) gone → AllByRecursion (AreOnWay m nodes.nodes r.deleted) come → AreHeldAt (held_in nodes) past (gone ++ come)
are_held m Begin r nodes gone come s root went came = tt
are_held m (At c first second) r nodes gone come s root went came = λ d way there. record {
  there = here d way there (deleted_bytes (deleted (At c first second) d)) (gone_stands m c first second s.right s.held d there);
  rules = s.right.deletions d;
}
  where
    here : (d : Path) → is_on_way (gone ++ come) d ≡ true → has_deleted (At c first second) d ≡ true → IsHere m nodes.nodes (gone_id (At c first second) d)
    here d way there = or_either (length d == 0) (list_any (λ p. is_prefix d p) (gone ++ come)) (λ k. at_root d k walked) (λ k. or_either (list_any (λ p. is_prefix d p) gone) (list_any (λ p. is_prefix d p) come)
        (among_ways m nodes.nodes r.deleted gone d (gone_id (At c first second) d) went walked)
        (among_ways m nodes.nodes r.deleted come d (gone_id (At c first second) d) came walked)
        (sym (list_any-append (λ p. is_prefix d p) gone come) ∙ k)) way
      where
        walked : walk (deleted_entry_under m) (UnodeDir r.deleted) d ≡ Some (UnodeDir (gone_id (At c first second) d))
        walked = gone_walked m (At c first second) s.right s.held r s.roots d ∙ ap (λ b. gone_if b (gone_id (At c first second) d)) there

        at_root : (d : Path) → (length d == 0) ≡ true → walk (deleted_entry_under m) (UnodeDir r.deleted) d ≡ Some (UnodeDir (gone_id (At c first second) d)) → IsHere m nodes.nodes (gone_id (At c first second) d)
        at_root [] k walked = way_here m nodes.nodes r.deleted root [] (gone_id (At c first second) []) refl walked
        at_root (e ∷ d) k walked = absurd (true≢false (sym k ∙ ne_eqb (length (e ∷ d)) 0 (λ e. absurd (omega arith))))
