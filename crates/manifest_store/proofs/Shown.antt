-- What a job has of its parents, told of the table and of the pasts.
use Rattle.std.proofs.Common.{◌≡◌, ℕ, ◌<◌, Bool, true, false, cond, not, ◌&&◌, ◌||◌, ◌==◌, List, [], ◌∷◌, length, refl, sym, ap, subst, ◌∙◌}
use Rattle.std.specs.Prelude.{Option, Some, None, is_some, bytes_eq}
use Rattle.std.specs.List.{list_any}
use Rattle.std.specs.Option.{option_and_then}
use Rattle.std.specs.FinMap as map
use mathlib.Core.Bool.{true≢false}
use Rattle.changeset_model.specs.Path.{Path, is_path, is_strict_prefix}
use Rattle.changeset_model.specs.Changeset.{FileChange}
use Rattle.history_model.specs.History.{Known}
use Rattle.history_model.specs.Past.{Past, Begin, At}
use Rattle.manifest_model.specs.Merged.{unode_at}
use Rattle.manifest_model.specs.Unode.{unode_id}
use Rattle.merge_laws.specs.Joined.{dirs_differ}
use Rattle.merge_laws.specs.Resolved.{AreAllApart, has_dir}
use Rattle.node_table.specs.Table.{Nodes, Table, is_settled}
use Rattle.node_table.specs.declared.roots.Roots.{Roots}
use Rattle.changeset_store.specs.Pasts.{past_at, past_at_some}
use Rattle.derive_step.specs.declared.job.Parent.{Parent}
use Rattle.derive_step.specs.Pasts.{nodes_in_past, nodes_of, roots_of}
use Rattle.derive_step.specs.Views.{Before, are_apart, before_seen, nodes_before, roots_before}
use Rattle.derive_step.proofs.PastLaws.{dir_path}
use Rattle.derive_step.proofs.PastNodes.{last_cut}
use Rattle.manifest_store.specs.Dirs.{found}
use Rattle.manifest_store.specs.Manifests.{AreManifests, HoldsAll, IsRight}
use Rattle.manifest_store.specs.Nodes.{dir_from, dir_ids, dir_under}
use Rattle.manifest_store.specs.Parents.{IsParentIn, IsParentOf, dir_in, root_in}
use Rattle.manifest_store.proofs.Held.{dirs_are, root_there}
use Rattle.manifest_store.proofs.NodesApart.{settled_apart}

-- ---- a table shows a past

record Shows (m : Nodes) (past : Past) (o : Option Roots) : Type 0 where
  roots : cond (is_some (option_and_then (λ r. dir_under m (dir_ids r)) o)) o None ≡ roots_of past
  nodes : (d : Path) → option_and_then (λ b. dir_from m b d) (option_and_then (λ r. dir_under m (dir_ids r)) o) ≡ nodes_of past d

shown : (m : Nodes) (past : Past) → IsRight past → HoldsAll m past → AreAllApart past → (o : Option Roots) → o ≡ roots_of past → Shows m past o
shown m Begin right held apart o e = subst (Shows m Begin) (sym e) (record { roots = refl; nodes = λ d. refl })
shown m (At c first second) right held apart o e =
    let there = root_there m c first second right held apart in
    subst (Shows m (At c first second)) (sym e) (record {
      roots = ap (λ x. cond (is_some x) (roots_of (At c first second)) None) there;
      nodes = λ d. ap (option_and_then (λ b. dir_from m b d)) there ∙ dirs_are m c first second right held apart d [] refl;
    })

-- a directory of a past lies above a file, so its path may stand in a changeset
dir_is_path : (past : Past) → IsRight past → AreAllApart past → (d : Path) → 0 < length d → has_dir past d ≡ true → is_path d ≡ true
dir_is_path Begin right apart d some h = absurd (true≢false (sym h))
dir_is_path (At c first second) right apart d some h =
    let cut = last_cut d some in
    ap is_path cut.2 ∙ dir_path c first second (record { resolved = right.resolved; apart = apart; counted = right.counted }) cut.0 cut.1 (ap (has_dir (At c first second)) (sym cut.2) ∙ h)

-- both parents' nodes of a directory are apart where the definitions' are
apart_is : (first second : Past) (d : Path) → are_apart (nodes_of first d) (nodes_of second d) ≡ dirs_differ first second d
apart_is first second d = by (has_dir first d) (has_dir second d)
  where
    by : (a b : Bool) → are_apart (cond a (Some (nodes_in_past first d)) None) (cond b (Some (nodes_in_past second d)) None) ≡ (a && (b && not (bytes_eq (unode_id (unode_at first d)) (unode_id (unode_at second d)))))
    by true true = refl
    by true false = refl
    by false b = refl

apart_None : (a : Option Before) → are_apart a None ≡ false
apart_None None = refl
apart_None (Some x) = refl

module _ (ks : List Known) (t : Table) (a : AreManifests ks t) where
  abbrev pub AreSettled : Option ℕ → Type 0
  AreSettled o = (p : ℕ) → o ≡ Some p → is_settled t p ≡ true

  shows : (p : ℕ) → is_settled t p ≡ true → Shows t.nodes (past_at ks p) (map.get t.roots p)
  shows p h = shown t.nodes (past_at ks p) (a.right p (a.numbered p h)) (a.held p h) (settled_apart ks t a p h) (map.get t.roots p) (a.roots p h)

  pub dir_is : (o : Option ℕ) → AreSettled o → (d : Path) → dir_in t o d ≡ nodes_of (past_at_some ks o) d
  dir_is None h d = refl
  dir_is (Some p) h d = (shows p (h p refl)).nodes d

  pub apart_in_is : (o r : Option ℕ) → AreSettled o → AreSettled r → (d : Path) → are_apart (dir_in t o d) (dir_in t r d) ≡ dirs_differ (past_at_some ks o) (past_at_some ks r) d
  apart_in_is o r h g d = (λ i. are_apart (dir_is o h d i) (dir_is r g d i)) ∙ apart_is (past_at_some ks o) (past_at_some ks r) d

  pub roots_are : (o : Option ℕ) → AreSettled o → (es : List (Path × FileChange)) (parent : Option Parent) → IsParentOf o t es parent → roots_before parent ≡ roots_of (past_at_some ks o)
  roots_are None h es parent of = ap roots_before of
  roots_are (Some p) h es parent of = of.roots ∙ (shows p (h p refl)).roots

  -- of the directories above edits
  pub nodes_above : (o : Option ℕ) → AreSettled o → (es : List (Path × FileChange)) (parent : Option Parent) → IsParentOf o t es parent → (d : Path) → ((length d == 0) || list_any (λ e. is_strict_prefix d e.0) es) ≡ true → nodes_before parent d ≡ nodes_of (past_at_some ks o) d
  nodes_above None h es parent of d above = ap (λ p. nodes_before p d) of
  nodes_above (Some p) h es parent of d above = of.nodes d above ∙ (shows p (h p refl)).nodes d

  pub path_of_dir : (o : Option ℕ) → AreSettled o → (d : Path) → 0 < length d → has_dir (past_at_some ks o) d ≡ true → is_path d ≡ true
  path_of_dir None h d some there = absurd (true≢false (sym there))
  path_of_dir (Some p) h d some there = let settled = h p refl in dir_is_path (past_at ks p) (a.right p (a.numbered p settled)) (settled_apart ks t a p settled) d some there

  -- a settled parent is there
  pub root_of : (p : ℕ) → is_settled t p ≡ true → p < length ks → (past_at ks p ≡ Begin → ⊥) → (es : List (Path × FileChange)) → IsParentIn t p es None → ⊥
  root_of p h less some es of = by (past_at ks p) some (of.nodes [] refl ∙ (shows p h).nodes [])
    where
      by : (past : Past) → (past ≡ Begin → ⊥) → None ≡ nodes_of past [] → ⊥
      by Begin some e = some refl
      by (At c first second) some e = absurd cc

-- ---- of the table alone

pub nodes_found : (p : Parent) (b : Before) → before_seen p.root ≡ b → (d : Path) → nodes_before (Some p) d ≡ found b p.dirs d
nodes_found p b e [] = ap Some e
nodes_found p b e (n ∷ d) = refl

pub root_seen : (t : Table) (n : ℕ) (es : List (Path × FileChange)) (p : Parent) → IsParentIn t n es (Some p) → root_in t n ≡ Some (before_seen p.root)
root_seen t n es p of = by (root_in t n) (of.nodes [] refl)
  where
    by : (o : Option Before) → Some (before_seen p.root) ≡ option_and_then (λ b. dir_from t.nodes b []) o → o ≡ Some (before_seen p.root)
    by None e = absurd cc
    by (Some b) e = sym e

-- a parent of which there is nothing
pub none_in : (o : Option ℕ) (t : Table) (es : List (Path × FileChange)) → IsParentOf o t es None → (d : Path) → dir_in t o d ≡ None
none_in None t es of d = refl
none_in (Some p) t es of d = ap (option_and_then (λ b. dir_from t.nodes b d)) (by (root_in t p) (of.nodes [] refl))
  where
    by : (o : Option Before) → None ≡ option_and_then (λ b. dir_from t.nodes b []) o → o ≡ None
    by None e = refl
    by (Some b) e = absurd cc

pub apart_from_none : (a b : Option Before) → b ≡ None → are_apart a b ≡ true → ⊥
apart_from_none a b e h = true≢false (sym h ∙ ap (are_apart a) e ∙ apart_None a)
