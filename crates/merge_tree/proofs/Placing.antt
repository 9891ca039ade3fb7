-- What is at a path, once the files of a changeset and of its parents are placed.
use Rattle.std.proofs.Common.{◌≡◌, ℕ, Bool, true, false, cond, not, ◌&&◌, Option, Some, None, List, [], ◌∷◌, refl, sym, ap, subst, ◌∙◌}
use Rattle.std.specs.Prelude.{option_map, is_some}
use Rattle.std.specs.List.{list_any}
use Rattle.std.specs.Option.{option_and_then, option_or}
use Rattle.std.specs.Map.{lookup}
use Rattle.std.specs.BTreeMap.{BTreeMap, get, is_at, IsEmpty, Updates}
use Rattle.std.specs.FinMap.{is_sorted, find as find_key}
use Rattle.std.specs.FinMap.Entries.{below_all}
use Rattle.std.proofs.lemmas.Bool.{false_from_ne_true}
use mathlib.Core.Bool.{true≢false}
use Rattle.byte_fields.proofs.Booleans.{neither}
use Rattle.byte_fields.proofs.Lists.{option_or-None, option_or-assoc}
use Rattle.changeset_model.specs.Path.{Path, path_cmp, path_lt, path_eq}
use Rattle.changeset_model.specs.Changeset as model
use Rattle.changeset_model.specs.Changeset.{FileChange, Set, Delete, Changeset, file_of, set_at}
use Rattle.changeset_model.proofs.Rising.{path_lt_irreflexive}
use Rattle.history_model.specs.Tree.{decides, file_at}
use Rattle.history_model.proofs.Clashes.{not_both as clash}
use Rattle.repo_path.specs.Order.{path_eq_equiv, path_eq_ties}
use Rattle.repo_path.proofs.Faults.{first_of_two as first_of, second_of_two as second_of}
use Rattle.object_id.specs.declared.id.Id.{Id}
use Rattle.bonsai.specs.declared.kind.FileKind.{FileKind}
use Rattle.bonsai.specs.declared.copy_source.CopySource.{CopySource}
use Rattle.bonsai.specs.declared.change.Change.TheVariants as changes
use Rattle.bonsai.specs.declared.edit.Edit.{Edit}
use Rattle.bonsai.specs.View.{change_view, edit_view}
use Rattle.tree_fold.specs.declared.file.File.{File}
use Rattle.tree_fold.specs.View.{file_view}
use Rattle.tree_fold.specs.Fold.{clears, file_in}
use Rattle.tree_fold.proofs.Files.{same_path, is_some-file_in, file_in-updates}
use Rattle.tree_fold.proofs.AtOnce.{decides-at}
use Rattle.merge_tree.specs.declared.flat.FlatFile.{FlatFile}
use Rattle.merge_tree.specs.View.{flat_view}
use Rattle.merge_tree.specs.Placed.{set_once, set_all, left_once, left_all}

abbrev Edits : Type 0
Edits = List (Path × FileChange)

abbrev Files : Type 0
Files = List (Path × model.File)

-- the edit at a path, by the test of equality
pub at_first : {X : Type 0} (p : Path) (e : Path × X) (es : List (Path × X)) → find_key path_cmp p (e ∷ es) ≡ cond (path_eq e.0 p) (Some e.1) (find_key path_cmp p es)
at_first p e es = ap (λ b. cond b (Some e.1) (find_key path_cmp p es)) (sym (path_eq_ties p e.0) ∙ path_eq_equiv.symm p e.0)

-- ---- what edits set

pub less_apart : (p q : Path) → path_lt p q ≡ true → path_eq q p ≡ false
less_apart p q less = false_from_ne_true (path_eq q p) (λ e. clash (path_lt p q) less (ap (path_lt p) (same_path q p e) ∙ path_lt_irreflexive p))

none_behind : (p : Path) (es : Edits) → below_all path_cmp p es ≡ true → find_key path_cmp p es ≡ None
none_behind p [] h = refl
none_behind p (e ∷ es) h =
    at_first p e es ∙ ap (λ b. cond b (Some e.1) (find_key path_cmp p es)) (less_apart p e.0 (first_of (path_lt p e.0) (below_all path_cmp p es) h))
    ∙ none_behind p es (second_of (path_lt p e.0) (below_all path_cmp p es) h)

once_away : (e : Path × FileChange) (p : Path) (o : Option model.File) → path_eq e.0 p ≡ false → set_once e p o ≡ o
once_away (q, Set f copied) p o away = ap (λ b. cond b (Some f) o) away
once_away (q, Delete) p o away = refl

once_here : (e : Path × FileChange) (p : Path) (o : Option model.File) → path_eq e.0 p ≡ true → set_once e p o ≡ option_or (file_of e.1) o
once_here (q, Set f copied) p o same = ap (λ b. cond b (Some f) o) same
once_here (q, Delete) p o same = refl

set_by : (e : Path × FileChange) (es : Edits) (p : Path) (o : Option model.File) → below_all path_cmp e.0 es ≡ true → (b : Bool) → path_eq e.0 p ≡ b → option_or (option_and_then file_of (find_key path_cmp p es)) (set_once e p o) ≡ option_or (option_and_then file_of (cond b (Some e.1) (find_key path_cmp p es))) o
set_by e es p o below true same =
    ap (λ r. option_or (option_and_then file_of r) (set_once e p o)) (subst (λ q. find_key path_cmp q es ≡ None) (same_path e.0 p same) (none_behind e.0 es below))
    ∙ once_here e p o same
set_by e es p o below false away = ap (option_or (option_and_then file_of (find_key path_cmp p es))) (once_away e p o away)

-- edits by rising paths leave what the edit at the path sets
pub set_all-at : (es : Edits) (p : Path) (o : Option model.File) → is_sorted path_cmp es ≡ true → set_all es p o ≡ option_or (option_and_then file_of (find_key path_cmp p es)) o
set_all-at [] p o rises = refl
set_all-at (e ∷ es) p o rises =
    set_all-at es p (set_once e p o) (second_of (below_all path_cmp e.0 es) (is_sorted path_cmp es) rises)
    ∙ set_by e es p o (first_of (below_all path_cmp e.0 es) (is_sorted path_cmp es) rises) (path_eq e.0 p) refl
    ∙ ap (λ r. option_or (option_and_then file_of r) o) (sym (at_first p e es))

abbrev pub file_set : Id → FileKind → ℕ → File
file_set x k n = record { content = x; kind = k; size = n }

set_once-Set : (e : Edit) (x : Id) (k : FileKind) (n : ℕ) (s : Option CopySource) → e.change ≡ changes.Set x k n s → (p : Path) (o : Option model.File) → set_once (edit_view e) p o ≡ cond (path_eq e.path p) (Some (file_view (file_set x k n))) o
set_once-Set e x k n s is p o = ap (λ change. set_once (e.path, change_view change) p o) is

pub set-placed : (m after : BTreeMap Path File) (e : Edit) (x : Id) (k : FileKind) (n : ℕ) (s : Option CopySource) (q : Path) → e.change ≡ changes.Set x k n s → q ≡ e.path → Updates path_cmp m after q (Some (file_set x k n)) → (p : Path) → file_in after p ≡ set_once (edit_view e) p (file_in m p)
set-placed m after e x k n s q is copy u p =
    file_in-updates m after q (Some (file_set x k n)) u p
    ∙ ap (λ q. cond (path_eq q p) (Some (file_view (file_set x k n))) (file_in m p)) copy
    ∙ sym (set_once-Set e x k n s is p (file_in m p))

pub set-deleted : (m : BTreeMap Path File) (e : Edit) → e.change ≡ changes.Delete → (p : Path) → file_in m p ≡ set_once (edit_view e) p (file_in m p)
set-deleted m e is p = sym (ap (λ change. set_once (e.path, change_view change) p (file_in m p)) is)

-- ---- what a changeset leaves

either : {X : Type 0} (b : Bool) (x : X) → cond b x x ≡ x
either true x = refl
either false x = refl

pub left-decided : (c : Changeset) (e : Path × model.File) (p : Path) (o : Option model.File) → decides c e.0 ≡ true → o ≡ left_once c e p o
left-decided c e p o h = sym (ap (λ d. cond (path_eq e.0 p && not d) (option_or o (Some e.1)) o) h ∙ by (path_eq e.0 p))
  where
    by : (b : Bool) → cond (b && false) (option_or o (Some e.1)) o ≡ o
    by true = refl
    by false = refl

here_already : {X : Type 0} (o : Option X) (x : X) → is_some o ≡ true → option_or o (Some x) ≡ o
here_already None x h = absurd (true≢false (sym h))
here_already (Some y) x h = refl

pub left-there : (m : BTreeMap Path File) (c : Changeset) (f : FlatFile) → is_some (get path_cmp m f.path) ≡ true → (p : Path) → file_in m p ≡ left_once c (flat_view f) p (file_in m p)
left-there m c f there p = sym (by (path_eq f.path p) refl (not (decides c f.path)))
  where
    by : (b : Bool) → path_eq f.path p ≡ b → (d : Bool) → cond (b && d) (option_or (file_in m p) (Some (file_view f.file))) (file_in m p) ≡ file_in m p
    by true same true = here_already (file_in m p) (file_view f.file) (is_some-file_in m p ∙ ap (λ q. is_some (get path_cmp m q)) (sym (same_path f.path p same)) ∙ there)
    by true same false = refl
    by false away d = refl

absent_file : (m : BTreeMap Path File) (p : Path) → is_some (get path_cmp m p) ≡ false → file_in m p ≡ None
absent_file m p h = by (file_in m p) (is_some-file_in m p ∙ h)
  where
    by : (o : Option model.File) → is_some o ≡ false → o ≡ None
    by None h = refl
    by (Some f) h = absurd (true≢false h)

pub left-placed : (m after : BTreeMap Path File) (c : Changeset) (f : FlatFile) (q : Path) → decides c f.path ≡ false → is_some (get path_cmp m f.path) ≡ false → q ≡ f.path → Updates path_cmp m after q (Some f.file) → (p : Path) → file_in after p ≡ left_once c (flat_view f) p (file_in m p)
left-placed m after c f q alone absent copy u p =
    file_in-updates m after q (Some f.file) u p
    ∙ ap (λ q. cond (path_eq q p) (Some (file_view f.file)) (file_in m p)) copy
    ∙ by (path_eq f.path p) refl
    ∙ sym (ap (λ d. cond (path_eq f.path p && not d) (option_or (file_in m p) (Some (file_view f.file))) (file_in m p)) alone)
  where
    by : (b : Bool) → path_eq f.path p ≡ b → cond b (Some (file_view f.file)) (file_in m p) ≡ cond (b && true) (option_or (file_in m p) (Some (file_view f.file))) (file_in m p)
    by true same = sym (ap (λ o. option_or o (Some (file_view f.file))) (absent_file m p (ap (λ q. is_some (get path_cmp m q)) (sym (same_path f.path p same)) ∙ absent)))
    by false away = refl

left_by : (c : Changeset) (e : Path × model.File) (es : Files) (p : Path) (o : Option model.File) → (d : Bool) → decides c p ≡ d → (b : Bool) → path_eq e.0 p ≡ b
    → cond d (cond (b && not (decides c e.0)) (option_or o (Some e.1)) o) (option_or (cond (b && not (decides c e.0)) (option_or o (Some e.1)) o) (file_at es p)) ≡ cond d o (option_or o (cond b (Some e.1) (file_at es p)))
left_by c e es p o true is true same = ap (λ d. cond (not d) (option_or o (Some e.1)) o) (ap (decides c) (same_path e.0 p same) ∙ is)
left_by c e es p o false is true same =
    ap (λ d. option_or (cond (not d) (option_or o (Some e.1)) o) (file_at es p)) (ap (decides c) (same_path e.0 p same) ∙ is)
    ∙ option_or-assoc o (Some e.1) (file_at es p)
left_by c e es p o true is false away = refl
left_by c e es p o false is false away = refl

-- where the changeset leaves a path, the first file that is there stays
pub left_all-at : (c : Changeset) (es : Files) (p : Path) (o : Option model.File) → left_all c es p o ≡ cond (decides c p) o (option_or o (file_at es p))
left_all-at c [] p o = sym (ap (cond (decides c p) o) (option_or-None o) ∙ either (decides c p) o)
left_all-at c (e ∷ es) p o =
    left_all-at c es p (left_once c e p o) ∙ left_by c e es p o (decides c p) refl (path_eq e.0 p) refl
    ∙ ap (λ r. cond (decides c p) o (option_or o r)) (sym (at_first p e es))

-- ---- both sides

left_alone : (c : Changeset) (p : Path) → decides c p ≡ false → set_at c p ≡ None
left_alone c p h = by (find_key path_cmp p c.changes) (neither (is_some (find_key path_cmp p c.changes)) (list_any (clears p) c.changes) (sym (decides-at c.changes p) ∙ h)).0
  where
    by : (o : Option FileChange) → is_some o ≡ false → option_and_then file_of o ≡ None
    by None h = refl
    by (Some x) h = absurd (true≢false h)

pub both_sides : (c : Changeset) (first second : Files) (p : Path) → is_sorted path_cmp c.changes ≡ true → left_all c second p (left_all c first p (set_all c.changes p None)) ≡ cond (decides c p) (set_at c p) (option_or (file_at first p) (file_at second p))
both_sides c first second p rises =
    ap (λ o. left_all c second p (left_all c first p o)) (set_all-at c.changes p None rises ∙ option_or-None (set_at c p))
    ∙ ap (left_all c second p) (left_all-at c first p (set_at c p))
    ∙ left_all-at c second p (cond (decides c p) (set_at c p) (option_or (set_at c p) (file_at first p)))
    ∙ by (decides c p) refl
  where
    by : (d : Bool) → decides c p ≡ d → cond d (cond d (set_at c p) (option_or (set_at c p) (file_at first p))) (option_or (cond d (set_at c p) (option_or (set_at c p) (file_at first p))) (file_at second p)) ≡ cond d (set_at c p) (option_or (file_at first p) (file_at second p))
    by true h = refl
    by false h = ap (λ o. option_or (option_or o (file_at first p)) (file_at second p)) (left_alone c p h)

pub empty_file : (m : BTreeMap Path File) (p : Path) → IsEmpty m → file_in m p ≡ None
empty_file m p none = ap (λ es. option_map file_view (lookup (is_at (path_cmp p)) es)) none
