-- The fsnodes of settled changesets list their trees, so that what a merge leaves is found by walking them.
use Rattle.std.proofs.Common.{◌≡◌, ℕ, ◌≤◌, true, List, [], ◌∷◌, drop, get_or, length, sym, ap, subst, ◌∙◌, arith}
use Rattle.std.specs.Prelude.{Option, Some, Result, Ok, Err, IfOk}
use Rattle.std.specs.List.{AllByRecursion}
use Rattle.byte_fields.specs.Bytes.{Id}
use Rattle.byte_fields.proofs.Lists.{weaker}
use Rattle.changeset_model.specs.Path.{Path, is_path}
use Rattle.changeset_model.specs.Changeset.{Changeset, File, touched_paths}
use Rattle.history_model.specs.History.{Known}
use Rattle.history_model.specs.Past.{Past, Begin, At, changesets_of}
use Rattle.history_model.specs.Merge.{unresolved}
use Rattle.history_model.specs.Tree.{files_in, files_of, tree_of}
use Rattle.manifest_laws.proofs.Bounds.{FileRules, rules_filed}
use Rattle.manifest_laws.proofs.PastBounds.{rules_past}
use Rattle.merge_laws.specs.Resolved.{AreResolved}
use Rattle.merge_laws.proofs.Trees.{rules_of, rises, flat}
use Rattle.merge_walk.specs.Cost.{reads}
use Rattle.merge_walk.specs.Table.{entries_under}
use Rattle.merge_walk.specs.Walk.{IsTreeAt}
use Rattle.merge_walk.proofs.Manifests.{tree_in_table}
use Rattle.reply_model.specs.Reply.{unresolved_of}
use Rattle.node_table.specs.Table.{Nodes, Table, is_settled}
use Rattle.node_table.specs.declared.roots.Roots.{Roots}
use Rattle.changeset_store.specs.Store.{number_in}
use Rattle.changeset_store.specs.Pasts.{past_at}
use Rattle.derive_step.specs.Pasts.{roots_of}
use Rattle.manifest_store.specs.Manifests.{AreManifests, HoldsAll, IsRight}
use Rattle.manifest_store.specs.Merging.{root_fsnode, read_between}
use Rattle.manifest_store.proofs.Answered.{number_of, of_past}
use Rattle.manifest_store.proofs.NodesApart.{are_under}

-- ---- trees

ruled : (past : Past) → AreResolved past → AllByRecursion (λ f. is_path f.0 ≡ true) (files_in past)
ruled past resolved =
    weaker (λ (f : Path × File). FileRules f.0 f.1) (λ (f : Path × File). is_path f.0 ≡ true) (λ f rules. rules.path) (files_in past)
    (rules_filed (tree_of past) (rules_past past (rules_of past resolved)) (touched_paths (changesets_of past)))

tree_held : (m : Nodes) (past : Past) (roots : Roots) → IsRight past → HoldsAll m past → Some roots ≡ roots_of past → IsTreeAt (entries_under m) roots.fsnode (files_in past)
tree_held m Begin roots right held e = absurd cc
tree_held m (At c first second) roots right held e =
    let under = are_under m (At c first second) right held in
    subst (λ x. IsTreeAt (entries_under m) x (files_in (At c first second))) (sym (of_past (At c first second) roots e).0)
    (tree_in_table m (files_in (At c first second)) (rises (At c first second)) (ruled (At c first second) right.resolved) (flat (At c first second) right.resolved) (λ d dir. under.fsnodes d dir))

module _ (ks : List Known) (t : Table) (a : AreManifests ks t) (x : Id) (n : ℕ) (numbered : number_in ks x ≡ Some n) (settled : is_settled t n ≡ true) (roots : Roots) (there : Some roots ≡ roots_of (past_at ks n)) where
  pub root_is : roots.fsnode ≡ root_fsnode ks x
  root_is = (of_past (past_at ks n) roots there).0 ∙ ap (root_fsnode ks) (number_of ks x n numbered).id

  pub tree_is : IsTreeAt (entries_under t.nodes) roots.fsnode (files_of ks x)
  tree_is = subst (λ y. IsTreeAt (entries_under t.nodes) roots.fsnode (files_of ks y)) (number_of ks x n numbered).id (tree_held t.nodes (past_at ks n) roots (a.right n (a.numbered n settled)) (a.held n settled) there)

-- ---- parents

-- the first two of at least two
pub two_of : (ps : List Id) → 2 ≤ length ps → (p q : Id) → p ≡ get_or ps 0 p → q ≡ get_or ps 1 q → ps ≡ p ∷ q ∷ drop 2 ps
two_of [] many p q p_is q_is = absurd (omega arith)
two_of (x ∷ []) many p q p_is q_is = absurd (omega arith)
two_of (x ∷ y ∷ ps) many p q p_is q_is = (λ i. sym p_is i ∷ sym q_is i ∷ ps)

module _ (ks : List Known) (t : Table) (c : Changeset) (ps : List Id) (p q : Id) (rest : List Id) (are : ps ≡ p ∷ q ∷ rest) where
  pub left_between : {E : Type 0} (x y : Id) (result : Result (Option Path) E) → IfOk result (λ path. (l r : List (Path × File)) → IsTreeAt (entries_under t.nodes) x l → IsTreeAt (entries_under t.nodes) y r → path ≡ unresolved c l r)
      → IsTreeAt (entries_under t.nodes) x (files_of ks p) → IsTreeAt (entries_under t.nodes) y (files_of ks q) → IfOk result (λ path. path ≡ unresolved_of ks c ps)
  left_between x y (Ok path) exact left right = exact (files_of ks p) (files_of ks q) left right ∙ ap (unresolved_of ks c) (sym are)
  left_between x y (Err e) exact left right = tt

  pub read_by : (x y : Id) → x ≡ root_fsnode ks p → y ≡ root_fsnode ks q → reads (entries_under t.nodes) c x y ≡ read_between ks t c ps
  read_by x y left right = (λ i. reads (entries_under t.nodes) c (left i) (right i)) ∙ ap (read_between ks t c) (sym are)
