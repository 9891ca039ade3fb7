-- The file at a path, before and after a change at one path.
use Rattle.std.proofs.Common.{◌≡◌, ℕ, Bool, true, false, cond, ◌&&◌, ◌||◌, Option, Some, None, List, [], ◌∷◌, ◌++◌, refl, sym, ap, ◌∙◌}
use Rattle.std.specs.Prelude.{option_map, is_some, is_none, filter}
use Rattle.std.specs.List.{list_any}
use Rattle.std.specs.Ordering.{is_eq}
use Rattle.std.specs.Map.{lookup, keys_of}
use Rattle.std.specs.BTreeMap.{BTreeMap, get, is_at, IsUnchanged, Updates}
use Rattle.std.proofs.lemmas.Cmp.{tied_itself}
use Rattle.std.proofs.lemmas.Map.Views.{tells_apart}
use Rattle.std.proofs.lemmas.List.Folds.{list_any-append}
use Rattle.changeset_model.specs.Path.{Path, path_cmp, path_eq, is_strict_prefix}
use Rattle.changeset_model.specs.Changeset as model
use Rattle.changeset_model.proofs.Paths.{path_cmp_total, path_cmp-IsAntisymmetric}
use Rattle.repo_path.specs.Order.{path_eq_equiv, path_eq_ties}
use Rattle.object_id.specs.declared.id.Id.{Id}
use Rattle.bonsai.specs.declared.kind.FileKind.{FileKind}
use Rattle.bonsai.specs.declared.copy_source.CopySource.{CopySource}
use Rattle.bonsai.specs.declared.change.Change.TheVariants as changes
use Rattle.bonsai.specs.declared.edit.Edit.{Edit}
use Rattle.bonsai.specs.View.{change_view, edit_view}
use Rattle.tree_fold.specs.declared.file.File.{File}
use Rattle.tree_fold.specs.View.{file_view}
use Rattle.tree_fold.specs.Fold.{is_set_of, clears, edited_once, file_in}
use Rattle.byte_fields.proofs.Booleans.{is_some_cond, or_false}

-- ---- equal paths

pub same_path : (p q : Path) → path_eq p q ≡ true → p ≡ q
same_path p q h = tells_apart path_cmp-IsAntisymmetric p q (sym (path_eq_ties p q) ∙ h)

pub path_eq_itself : (p : Path) → path_eq p p ≡ true
path_eq_itself p = path_eq_ties p p ∙ ap is_eq (tied_itself path_cmp_total p)

-- ---- a change at one path

pub get-updates : (m n : BTreeMap Path File) (q : Path) (w : Option File) → Updates path_cmp m n q w → (p : Path) → get path_cmp n p ≡ cond (path_eq q p) w (get path_cmp m p)
get-updates m n q w u p = u.0 p ∙ ap (λ b. cond b w (get path_cmp m p)) (sym (path_eq_ties q p))

pub get-unchanged : (m n : BTreeMap Path File) → IsUnchanged m n → (p : Path) → get path_cmp n p ≡ get path_cmp m p
get-unchanged m n e p = ap (λ es. lookup (is_at (path_cmp p)) es) e

is_some-map : {A B : Type 0} (f : A → B) (o : Option A) → is_some (option_map f o) ≡ is_some o
is_some-map f None = refl
is_some-map f (Some x) = refl

pub is_some-file_in : (m : BTreeMap Path File) (p : Path) → is_some (file_in m p) ≡ is_some (get path_cmp m p)
is_some-file_in m p = is_some-map file_view (get path_cmp m p)

-- ---- where a path is set

not_none : {A : Type 0} (o : Option A) → is_some o ≡ true → is_none o ≡ false
not_none None h = absurd (cc)
not_none (Some x) h = refl

is_absent : {A : Type 0} (o : Option A) → is_some o ≡ false → is_none o ≡ true
is_absent None h = refl
is_absent (Some x) h = absurd (cc)

pub set_present : (m : BTreeMap Path File) (q p : Path) → is_some (get path_cmp m q) ≡ true → (path_eq q p && is_none (get path_cmp m p)) ≡ false
set_present m q p h = by (path_eq q p) refl
  where
    by : (b : Bool) → path_eq q p ≡ b → (b && is_none (get path_cmp m p)) ≡ false
    by true e = not_none (get path_cmp m p) (ap (λ r. is_some (get path_cmp m r)) (sym (same_path q p e)) ∙ h)
    by false e = refl

pub set_absent : (m : BTreeMap Path File) (q p : Path) → is_some (get path_cmp m q) ≡ false → path_eq q p ≡ (path_eq q p && is_none (get path_cmp m p))
set_absent m q p h = by (path_eq q p) refl
  where
    by : (b : Bool) → path_eq q p ≡ b → b ≡ (b && is_none (get path_cmp m p))
    by true e = sym (is_absent (get path_cmp m p) (ap (λ r. is_some (get path_cmp m r)) (sym (same_path q p e)) ∙ h))
    by false e = refl

pub is_set_of-Set : (e : Edit) (x : Id) (k : FileKind) (n : ℕ) (s : Option CopySource) → e.change ≡ changes.Set x k n s → (p : Path) → is_set_of p (edit_view e) ≡ path_eq e.path p
is_set_of-Set e x k n s is p = ap (λ change. is_set_of p (e.path, change_view change)) is

pub clears-Set : (e : Edit) (x : Id) (k : FileKind) (n : ℕ) (s : Option CopySource) → e.change ≡ changes.Set x k n s → (p : Path) → clears p (edit_view e) ≡ (is_strict_prefix p e.path || is_strict_prefix e.path p)
clears-Set e x k n s is p = ap (λ change. clears p (e.path, change_view change)) is

-- ---- among the paths of files

found_by : (p q : Path) (b u : Bool) → (path_eq q p ≡ true → u ≡ b) → (e : Bool) → path_eq q p ≡ e → (rest : Bool) → cond u (e || (b && rest)) (b && rest) ≡ (b && (e || rest))
found_by p q true u same true h rest = ap (λ u. cond u true rest) (same h)
found_by p q false u same true h rest = ap (λ u. cond u true false) (same h)
found_by p q true true same false h rest = refl
found_by p q true false same false h rest = refl
found_by p q false true same false h rest = refl
found_by p q false false same false h rest = refl

any_cond : {A : Type 0} (t : A → Bool) (b : Bool) (x : A) (xs : List A) (f : Bool) → list_any t xs ≡ f → list_any t (cond b (x ∷ xs) xs) ≡ cond b (t x || f) f
any_cond t true x xs f e = ap (λ f. t x || f) e
any_cond t false x xs f e = e

keys_cond : {A : Type 0} (b : Bool) (e : Path × A) (es : List (Path × A)) → keys_of (cond b (e ∷ es) es) ≡ cond b (e.0 ∷ keys_of es) (keys_of es)
keys_cond true e es = refl
keys_cond false e es = refl

at_path : (p q : Path) → is_at (path_cmp p) q ≡ path_eq q p
at_path p q = sym (path_eq_ties p q) ∙ path_eq_equiv.symm p q

-- a path is among those that pass a test exactly where it passes and a file is there
pub any-keys-filter : (t : Path → Bool) (p : Path) (es : List (Path × File)) → list_any (λ q. path_eq q p) (keys_of (filter (λ e. t e.0) es)) ≡ (t p && is_some (lookup (is_at (path_cmp p)) es))
any-keys-filter t p [] = none (t p)
  where
    none : (b : Bool) → false ≡ (b && false)
    none true = refl
    none false = refl
any-keys-filter t p (e ∷ es) =
    let later = filter (λ e. t e.0) es in
    let found = is_some (lookup (is_at (path_cmp p)) es) in
    ap (list_any (λ q. path_eq q p)) (keys_cond (t e.0) e later)
    ∙ any_cond (λ q. path_eq q p) (t e.0) e.0 (keys_of later) (t p && found) (any-keys-filter t p es)
    ∙ found_by p e.0 (t p) (t e.0) (λ h. ap t (same_path e.0 p h)) (path_eq e.0 p) refl found
    ∙ ap (λ b. t p && (b || found)) (sym (at_path p e.0))
    ∙ ap (λ b. t p && b) (sym (is_some_cond (is_at (path_cmp p) e.0) e.1 (lookup (is_at (path_cmp p)) es)))

pub any-under : (m : BTreeMap Path File) (q p : Path) (old new : List Path) → new ≡ old ++ keys_of (filter (λ e. is_strict_prefix q e.0) m.entries) → list_any (λ r. path_eq r p) new ≡ (list_any (λ r. path_eq r p) old || (is_strict_prefix q p && is_some (file_in m p)))
any-under m q p old new e =
    ap (list_any (λ r. path_eq r p)) e ∙ list_any-append (λ r. path_eq r p) old (keys_of (filter (λ e. is_strict_prefix q e.0) m.entries))
    ∙ ap (λ b. list_any (λ r. path_eq r p) old || b) (any-keys-filter (is_strict_prefix q) p m.entries ∙ ap (λ b. is_strict_prefix q p && b) (sym (is_some-file_in m p)))

both_ways : (o a b s : Bool) → ((o || (a && s)) || (b && s)) ≡ (o || ((a || b) && s))
both_ways true a b s = refl
both_ways false true true true = refl
both_ways false true true false = refl
both_ways false true false s = or_false s
both_ways false false b s = refl

-- the paths above and the paths under a set path
pub any-cleared : (m : BTreeMap Path File) (q p : Path) (old mid new : List Path) → list_any (λ r. path_eq r p) mid ≡ (list_any (λ r. path_eq r p) old || (is_strict_prefix p q && is_some (file_in m p))) → new ≡ mid ++ keys_of (filter (λ e. is_strict_prefix q e.0) m.entries) → list_any (λ r. path_eq r p) new ≡ (list_any (λ r. path_eq r p) old || ((is_strict_prefix p q || is_strict_prefix q p) && is_some (file_in m p)))
any-cleared m q p old mid new first second =
    any-under m q p mid new second ∙ ap (λ b. b || (is_strict_prefix q p && is_some (file_in m p))) first
    ∙ both_ways (list_any (λ r. path_eq r p) old) (is_strict_prefix p q) (is_strict_prefix q p) (is_some (file_in m p))

-- ---- one edit

const_some : {A B C : Type 0} (f : A → B) (y : C) (o : Option A) → is_some o ≡ true → Some y ≡ option_map (λ _. y) (option_map f o)
const_some f y None h = absurd (cc)
const_some f y (Some x) h = refl

const_none : {A B C : Type 0} (f : A → B) (y : C) (o : Option A) → o ≡ None → option_map {U = C} (λ _. y) (option_map f o) ≡ None
const_none f y o h = ap (λ o. option_map (λ _. y) (option_map f o)) h

map_cond : {A B : Type 0} (f : A → B) (b : Bool) (x y : Option A) → option_map f (cond b x y) ≡ cond b (option_map f x) (option_map f y)
map_cond f true x y = refl
map_cond f false x y = refl

pub file_in-updates : (m n : BTreeMap Path File) (q : Path) (w : Option File) → Updates path_cmp m n q w → (p : Path) → file_in n p ≡ cond (path_eq q p) (option_map file_view w) (file_in m p)
file_in-updates m n q w u p = ap (option_map file_view) (get-updates m n q w u p) ∙ map_cond file_view (path_eq q p) w (get path_cmp m p)

abbrev file_set : Id → FileKind → ℕ → File
file_set x k n = record { content = x; kind = k; size = n }

edited_once-Set : (e : Edit) (x : Id) (k : FileKind) (n : ℕ) (s : Option CopySource) → e.change ≡ changes.Set x k n s → (p : Path) (o : Option model.File) → edited_once (edit_view e) p o ≡ cond (path_eq e.path p) (option_map (λ _. file_view (file_set x k n)) o) o
edited_once-Set e x k n s is p o = ap (λ change. edited_once (e.path, change_view change) p o) is

-- a file is put in the place of the one that is there
pub edited-set : (m after : BTreeMap Path File) (e : Edit) (x : Id) (k : FileKind) (n : ℕ) (s : Option CopySource) → e.change ≡ changes.Set x k n s → is_some (get path_cmp m e.path) ≡ true → Updates path_cmp m after e.path (Some (file_set x k n)) → (p : Path) → file_in after p ≡ edited_once (edit_view e) p (file_in m p)
edited-set m after e x k n s is here u p =
    file_in-updates m after e.path (Some (file_set x k n)) u p ∙ by (path_eq e.path p) refl ∙ sym (edited_once-Set e x k n s is p (file_in m p))
  where
    by : (b : Bool) → path_eq e.path p ≡ b → cond b (Some (file_view (file_set x k n))) (file_in m p) ≡ cond b (option_map (λ _. file_view (file_set x k n)) (file_in m p)) (file_in m p)
    by true same = const_some file_view (file_view (file_set x k n)) (get path_cmp m p) (ap (λ r. is_some (get path_cmp m r)) (sym (same_path e.path p same)) ∙ here)
    by false same = refl

-- where none is there, nothing is put
pub edited-absent : (m after : BTreeMap Path File) (e : Edit) (x : Id) (k : FileKind) (n : ℕ) (s : Option CopySource) → e.change ≡ changes.Set x k n s → get path_cmp m e.path ≡ None → after ≡ m → (p : Path) → file_in after p ≡ edited_once (edit_view e) p (file_in m p)
edited-absent m after e x k n s is none same_map p =
    ap (λ m. file_in m p) same_map ∙ by (path_eq e.path p) refl ∙ sym (edited_once-Set e x k n s is p (file_in m p))
  where
    by : (b : Bool) → path_eq e.path p ≡ b → file_in m p ≡ cond b (option_map (λ _. file_view (file_set x k n)) (file_in m p)) (file_in m p)
    by true same =
        let absent : get path_cmp m p ≡ None = ap (get path_cmp m) (sym (same_path e.path p same)) ∙ none in
        ap (option_map file_view) absent ∙ sym (const_none file_view (file_view (file_set x k n)) (get path_cmp m p) absent)
    by false same = refl

pub edited-deleted : (m after : BTreeMap Path File) (e : Edit) → e.change ≡ changes.Delete → Updates path_cmp m after e.path None → (p : Path) → file_in after p ≡ edited_once (edit_view e) p (file_in m p)
edited-deleted m after e is u p = file_in-updates m after e.path None u p ∙ sym (ap (λ change. edited_once (e.path, change_view change) p (file_in m p)) is)

-- ---- removed paths

removed_by : (b r : Bool) (o : Option model.File) → cond r None (cond b None o) ≡ cond (b || r) None o
removed_by true true o = refl
removed_by true false o = refl
removed_by false r o = refl

pub removed-more : (q : Path) (later left : List Path) (p : Path) (o new old : Option model.File) → left ≡ q ∷ later → new ≡ cond (path_eq q p) None o → cond (list_any (λ q. path_eq q p) left) None o ≡ old → cond (list_any (λ q. path_eq q p) later) None new ≡ old
removed-more q later left p o new old is removed before =
    ap (cond (list_any (λ q. path_eq q p) later) None) removed ∙ removed_by (path_eq q p) (list_any (λ q. path_eq q p) later) o
    ∙ ap (λ qs. cond (list_any (λ q. path_eq q p) qs) None o) (sym is) ∙ before
