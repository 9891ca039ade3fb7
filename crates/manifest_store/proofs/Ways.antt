-- The nodes that are held.
use Rattle.std.proofs.Common.{◌≡◌, ℕ, Bool, true, false, cond, List, [], ◌∷◌, refl, sym, ap, subst, ◌∙◌}
use Rattle.std.specs.Prelude.{Option, Some, None, bytes_eq, is_some}
use Rattle.std.specs.Option.{option_and_then}
use Rattle.std.specs.Ordering.{nat_cmp, eq_by_cmp}
use Rattle.std.specs.Cmp.Lexicographic.{slice_cmp, texts_ties}
use Rattle.std.specs.BTreeMap.{get}
use Rattle.std.specs.FinMap as map
use mathlib.Core.Bool.{true≢false}
use Rattle.std.proofs.lemmas.Bool.{and_parts}
use Rattle.byte_fields.specs.Bytes.{Id}
use Rattle.changeset_model.specs.Path.{Path, is_prefix}
use Rattle.manifest_model.specs.Unode.{UnodeEntry, UnodeDir}
use Rattle.manifest_laws.proofs.Names.{same_name, name_itself}
use Rattle.manifest_laws.proofs.Lists.{none_some}
use Rattle.node_table.specs.Table.{Nodes}
use Rattle.manifest_store.specs.Nodes.{deleted_entry_under, walk}
use Rattle.manifest_store.specs.Holding.{ByIds, AreOf, IsMore, IsHere, AreOnWay}

abbrev by_id : Id → Id → Bool
by_id x y = eq_by_cmp (slice_cmp nat_cmp) x y

tied_id : (x y : Id) → by_id x y ≡ true → x ≡ y
tied_id x y t = same_name x y (texts_ties x y ∙ t)

tied_itself : (x : Id) → by_id x x ≡ true
tied_itself x = sym (texts_ties x x) ∙ name_itself x

-- ---- one node more

module _ (m : Nodes) (before after : ByIds) (x : Id) (bytes : List ℕ) (stands : map.get m x ≡ Some bytes) (got : (y : Id) → get (slice_cmp nat_cmp) after y ≡ cond (by_id x y) (Some bytes) (get (slice_cmp nat_cmp) before y)) where
  pub are_with : AreOf m before → AreOf m after
  are_with are y found e = by (by_id x y) refl (sym (got y) ∙ e)
    where
      by : (b : Bool) → by_id x y ≡ b → cond b (Some bytes) (get (slice_cmp nat_cmp) before y) ≡ Some found → map.get m y ≡ Some found
      by true t h = ap (map.get m) (sym (tied_id x y t)) ∙ stands ∙ h
      by false t h = are y found h

  pub more_with : is_some (get (slice_cmp nat_cmp) before x) ≡ false → IsMore before after
  more_with new y found e = got y ∙ by (by_id x y) refl
    where
      by : (b : Bool) → by_id x y ≡ b → cond b (Some bytes) (get (slice_cmp nat_cmp) before y) ≡ Some found
      by true t = absurd (true≢false (sym (ap is_some (ap (get (slice_cmp nat_cmp) before) (tied_id x y t) ∙ e)) ∙ new))
      by false t = e

-- ---- a way

-- a node with the rest of the way below it
pub way_from : (m : Nodes) (nodes : ByIds) (at id : Id) (name : List ℕ) (rest : Path) → IsHere m nodes at → Some (UnodeDir id) ≡ deleted_entry_under m at name → AreOnWay m nodes id rest → AreOnWay m nodes at (name ∷ rest)
way_from m nodes at id name rest here entry below [] x front e = subst (IsHere m nodes) (same_dir at x e) here
  where
    same_dir : (a b : Id) → ◌≡◌ {A = Option UnodeEntry} (Some (UnodeDir a)) (Some (UnodeDir b)) → a ≡ b
    same_dir a b e = cc
way_from m nodes at id name rest here entry below (n ∷ q) x front e =
    let parts = and_parts (bytes_eq n name) (is_prefix q rest) front in
    below q x parts.1
    (ap (option_and_then (λ e. walk (deleted_entry_under m) e q)) (entry ∙ ap (deleted_entry_under m at) (sym (same_name n name parts.0))) ∙ e)

-- no node is below
pub way_ends : (m : Nodes) (nodes : ByIds) (at : Id) (name : List ℕ) (rest : Path) → IsHere m nodes at → None ≡ deleted_entry_under m at name → AreOnWay m nodes at (name ∷ rest)
way_ends m nodes at name rest here none [] x front e = subst (IsHere m nodes) (same_dir at x e) here
  where
    same_dir : (a b : Id) → ◌≡◌ {A = Option UnodeEntry} (Some (UnodeDir a)) (Some (UnodeDir b)) → a ≡ b
    same_dir a b e = cc
way_ends m nodes at name rest here none (n ∷ q) x front e =
    let parts = and_parts (bytes_eq n name) (is_prefix q rest) front in
    none_some (UnodeDir x) (ap (option_and_then (λ e. walk (deleted_entry_under m) e q)) (none ∙ ap (deleted_entry_under m at) (sym (same_name n name parts.0))) ∙ e)

pub way_here : (m : Nodes) (nodes : ByIds) (at : Id) → IsHere m nodes at → AreOnWay m nodes at []
way_here m nodes at here [] x front e = subst (IsHere m nodes) (same_dir at x e) here
  where
    same_dir : (a b : Id) → ◌≡◌ {A = Option UnodeEntry} (Some (UnodeDir a)) (Some (UnodeDir b)) → a ≡ b
    same_dir a b e = cc
way_here m nodes at here (n ∷ q) x front e = absurd (true≢false (sym front))

pub here_more : (m : Nodes) (before after : ByIds) (x : Id) → IsMore before after → IsHere m before x → IsHere m after x
here_more m before after x more here bytes e = more x bytes (here bytes e)

pub way_more : (m : Nodes) (before after : ByIds) (root : Id) (p : Path) → IsMore before after → AreOnWay m before root p → AreOnWay m after root p
way_more m before after root p more way q x front e = here_more m before after x more (way q x front e)
