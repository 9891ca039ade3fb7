-- The directories above edits, as the edits are gone through.
use Rattle.std.proofs.Common.{◌≡◌, ◌⊎◌, inl, inr, ℕ, suc, ◌<◌, ◌≤◌, ◌+◌, Bool, true, false, not, cond, ◌&&◌, ◌||◌, ◌==◌, List, [], ◌∷◌, ◌++◌, length, drop, drop-cons, get_or, sym, ap, subst, ◌∙◌, arith, Bor}
use Rattle.std.specs.Prelude.{Option, Some, None, is_some, IfSome, nat_lt}
use Rattle.std.specs.List.{list_any}
use Rattle.std.specs.Option.{option_and_then, option_copied}
use Rattle.std.specs.FinMap as map
use mathlib.Core.Bool.{true≢false}
use Rattle.std.proofs.lemmas.Bool.{and_parts, ne_eqb, ltb-true}
use Rattle.std.proofs.lemmas.List.{drop_all}
use Rattle.changeset_model.specs.Path.{Path, is_prefix, is_strict_prefix}
use Rattle.changeset_model.specs.Changeset.{FileChange}
use Rattle.bonsai.specs.declared.edit.Edit.{Edit}
use Rattle.bonsai.specs.View.{edits_view}
use Rattle.manifest_model.proofs.Derivations.{or_case as or_either}
use Rattle.byte_fields.proofs.Booleans.{same_some}
use Rattle.node_table.specs.Table.{Nodes, Table}
use Rattle.node_table.specs.declared.roots.Roots.{Roots}
use Rattle.derive_step.specs.declared.job.Parent.{Parent}
use Rattle.derive_step.specs.Touched.{is_above}
use Rattle.derive_step.specs.Views.{Before, before_seen, nodes_before}
use Rattle.manifest_store.specs.Nodes.{dir_under, dir_from, dir_ids}
use Rattle.manifest_store.specs.Dirs.{IsFull, IsMore}
use Rattle.manifest_store.specs.Parents.{root_in, IsParentIn}
use Rattle.manifest_store.proofs.Gathered.{Dirs}
use Rattle.manifest_laws.proofs.Reach.{prefix_push as prefix_snoc}

-- ---- edit by edit

abbrev pub any_above : Path → List Edit → Bool
any_above d es = list_any (λ e. is_above d e.0) (edits_view es)

-- each directory above an edit is there, or an edit that is left lies under it
abbrev pub GoneThrough : Nodes → Before → Dirs → List Edit → ℕ → Type 0
GoneThrough m b dirs es i = (d : Path) → any_above d es ≡ true → IsFull m b dirs d ⊎ (any_above d (drop i es) ≡ true)

pub next_edit : (m : Nodes) (b : Before) (before after : Dirs) (es : List Edit) (i : ℕ) (x : Edit) → i < length es → x ≡ get_or es i x → GoneThrough m b before es i → IsMore m b before after → ((d : Path) → is_above d x.path ≡ true → IsFull m b after d) → GoneThrough m b after es (i + 1)
next_edit m b before after es i x less is gone more here d h = by (gone d h)
  where
    next : drop i es ≡ x ∷ drop (i + 1) es
    next = drop-cons es i x less ∙ (λ k. sym is k ∷ drop (sym (one i) k) es)
      where
        one : (i : ℕ) → i + 1 ≡ suc i
        one i = omega arith

    by : IsFull m b before d ⊎ (any_above d (drop i es) ≡ true) → IsFull m b after d ⊎ (any_above d (drop (i + 1) es) ≡ true)
    by (inl full) = inl (more d full)
    by (inr left) = or_either (is_above d x.path) (any_above d (drop (i + 1) es)) (λ e. inl (here d e)) (λ e. inr e) (sym (ap (any_above d) next) ∙ left)

pub all_gone : (m : Nodes) (b : Before) (dirs : Dirs) (es : List Edit) (i : ℕ) → length es ≤ i → GoneThrough m b dirs es i → (d : Path) → any_above d es ≡ true → IsFull m b dirs d
all_gone m b dirs es i most gone d h = by (gone d h)
  where
    by : IsFull m b dirs d ⊎ (any_above d (drop i es) ≡ true) → IsFull m b dirs d
    by (inl full) = full
    by (inr left) = absurd (true≢false (sym left ∙ ap (any_above d) (drop_all i es most)))

pub last_full : (P : List ℕ → Type 0) (o : Option (Bor (List ℕ))) (t : List ℕ) → option_copied o ≡ Some t → IfSome o (λ x. P x.now) → P t
last_full P None t e h = absurd cc
last_full P (Some x) t e h = subst P (same_some x.now t e) h

-- a directory above a path is at or above the one that the path lies in
pub above_is : (d p a : Path) (n : List ℕ) → p ≡ a ++ n ∷ [] → is_above d p ≡ true → is_prefix d a ≡ true
above_is d p a n is h = by (prefix_snoc d a n (ap (is_prefix d) (sym is) ∙ inside.0))
  where
    inside : (is_prefix d p ≡ true) × (nat_lt (length d) (length p) ≡ true)
    inside = and_parts (is_prefix d p) (nat_lt (length d) (length p)) (and_parts (not (length d == 0)) (is_strict_prefix d p) h).1

    by : (is_prefix d a ≡ true) ⊎ (d ≡ a ++ n ∷ []) → is_prefix d a ≡ true
    by (inl g) = g
    by (inr e) = absurd (let less = ltb-true (length d) (length p) inside.1 in let same = ap length e in let long = ap length is in omega arith)

pub no_dir_above : {P : Type 0} (d p : Path) (n : List ℕ) → p ≡ n ∷ [] → is_above d p ≡ true → P
no_dir_above d p n is h =
    let parts = and_parts (not (length d == 0)) (is_strict_prefix d p) h in
    let less = ltb-true (length d) (length p) (and_parts (is_prefix d p) (nat_lt (length d) (length p)) parts.1).1 in
    let one = ap length is in
    some (length d) parts.0 (omega arith)
  where
    some : {P : Type 0} (k : ℕ) → not (k == 0) ≡ true → k ≡ 0 → P
    some k h e = absurd (true≢false (sym h ∙ ap (λ k. not (k == 0)) e))

-- ---- a parent

pub parent_is : (t : Table) (n : ℕ) (es : List (Path × FileChange)) (p : Parent) (r : Roots) → Some r ≡ map.get t.roots n → dir_under t.nodes (dir_ids r) ≡ Some (before_seen p.root) → p.roots ≡ r
    → ((d : Path) → list_any (λ e. is_above d e.0) es ≡ true → IsFull t.nodes (before_seen p.root) p.dirs d) → IsParentIn t n es (Some p)
parent_is t n es p r at under same full = record {
  roots = ap Some same ∙ at ∙ sym (ap (λ o. cond (is_some o) (map.get t.roots n) None) root);
  nodes = λ d h. nodes d h;
}
  where
    root : root_in t n ≡ Some (before_seen p.root)
    root = ap (option_and_then (λ r. dir_under t.nodes (dir_ids r))) (sym at) ∙ under

    nodes : (d : Path) → ((length d == 0) || list_any (λ e. is_strict_prefix d e.0) es) ≡ true → nodes_before (Some p) d ≡ option_and_then (λ b. dir_from t.nodes b d) (root_in t n)
    nodes [] h = sym (ap (option_and_then (λ b. dir_from t.nodes b [])) root)
    nodes (x ∷ d) h =
        let deep : (length (x ∷ d) == 0) ≡ false = ne_eqb (length (x ∷ d)) 0 (λ e. omega arith) in
        full (x ∷ d) ((λ i. list_any (λ e. not (deep i) && is_strict_prefix (x ∷ d) e.0) es) ∙ sym (ap (λ b. b || list_any (λ e. is_strict_prefix (x ∷ d) e.0) es) deep) ∙ h)
        ∙ sym (ap (option_and_then (λ b. dir_from t.nodes b (x ∷ d))) root)
