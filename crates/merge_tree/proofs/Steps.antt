-- A step of a loop over a list, by what is left of it.
use Rattle.std.proofs.Common.{◌≡◌, ℕ, ◌+◌, ◌<◌, Bool, true, false, cond, List, [], ◌∷◌, ◌++◌, length, drop, map, filter, refl, sym, ap, ◌∙◌, arith}
use Rattle.std.specs.Prelude.{◌||◌, slice_index_or, Option, Some}
use Rattle.std.specs.List.{list_any}
use Rattle.std.proofs.lemmas.List.{drop_more, append-nil}
use Rattle.changeset_model.specs.Path.{Path, path_eq}
use Rattle.changeset_model.specs.Changeset as model
use Rattle.history_model.specs.Tree.{file_at}
use Rattle.history_model.specs.Merge.{least_of}
use Rattle.repo_path.specs.Order.{path_eq_ties}
use Rattle.tree_fold.specs.declared.file.File.{File}
use Rattle.tree_fold.specs.View.{file_view, files_view}
use Rattle.merge_tree.specs.declared.flat.FlatFile.{FlatFile}
use Rattle.merge_tree.specs.View.{flat_view, flats_view}

pub left_of : {X : Type 0} (xs : List X) (i : ℕ) (x : X) → i < length xs → x ≡ slice_index_or xs i x → drop i xs ≡ x ∷ drop (i + 1) xs
left_of xs i x less item = drop_more xs i x less ∙ ap (λ y. y ∷ drop (i + 1) xs) (sym item)

pub any_step : {X Y : Type 0} (t : Y → Bool) (v : X → Y) (xs : List X) (i : ℕ) (x : X) (b : Bool) → i < length xs → x ≡ slice_index_or xs i x → t (v x) ≡ b → list_any t (map v (drop i xs)) ≡ (b || list_any t (map v (drop (i + 1) xs)))
any_step t v xs i x b less item is = ap (λ ys. list_any t (map v ys)) (left_of xs i x less item) ∙ ap (λ b. b || list_any t (map v (drop (i + 1) xs))) is

pub file_step : (p : Path) (fs : List FlatFile) (i : ℕ) (f : FlatFile) (b : Bool) → i < length fs → f ≡ slice_index_or fs i f → path_eq p f.path ≡ b → file_at (flats_view (drop i fs)) p ≡ cond b (Some (file_view f.file)) (file_at (flats_view (drop (i + 1) fs)) p)
file_step p fs i f b less item same =
    ap (λ fs. file_at (flats_view fs) p) (left_of fs i f less item)
    ∙ ap (λ b. cond b (Some (file_view f.file)) (file_at (flats_view (drop (i + 1) fs)) p)) (sym (path_eq_ties p f.path) ∙ same)

-- the first path of those that pass
abbrev pub first_that : (Path × model.File → Bool) → List (Path × model.File) → Option Path
first_that pass fs = least_of (map (λ e. e.0) (filter pass fs))

first_by : (pass : Path × model.File → Bool) (e : Path × model.File) (fs : List (Path × model.File)) (b : Bool) → pass e ≡ b → first_that pass (e ∷ fs) ≡ cond b (Some e.0) (first_that pass fs)
first_by pass e fs b is = ap (λ b. least_of (map (λ e. e.0) (cond b (e ∷ filter pass fs) (filter pass fs)))) is ∙ by b
  where
    by : (b : Bool) → least_of (map (λ e. e.0) (cond b (e ∷ filter pass fs) (filter pass fs))) ≡ cond b (Some e.0) (first_that pass fs)
    by true = refl
    by false = refl

pub first_step : (pass : Path × model.File → Bool) (fs : List FlatFile) (i : ℕ) (f : FlatFile) (b : Bool) → i < length fs → f ≡ slice_index_or fs i f → pass (flat_view f) ≡ b → first_that pass (flats_view (drop i fs)) ≡ cond b (Some f.path) (first_that pass (flats_view (drop (i + 1) fs)))
first_step pass fs i f b less item is = ap (λ fs. first_that pass (flats_view fs)) (left_of fs i f less item) ∙ first_by pass (flat_view f) (flats_view (drop (i + 1) fs)) b is

-- where nothing is left, all was listed
pub listed_all : (xs ys : List (Path × model.File)) (es : List (Path × File)) → length es ≡ 0 → xs ++ files_view es ≡ ys → xs ≡ ys
listed_all xs ys [] e h = sym (append-nil xs) ∙ h
listed_all xs ys (x ∷ es) e h = absurd (omega arith)
