-- The links that a changeset sets make those of its first parent its own.
use Rattle.std.proofs.Common.{◌≡◌, Bool, true, false, cond, ◌&&◌, ◌||◌, List, [], ◌∷◌, ◌++◌, map, refl, sym, ap, ◌∙◌, append-nil}
use Rattle.std.specs.Prelude.{Option, None, Some, is_none, is_some}
use mathlib.Core.Bool.{true≢false}
use Rattle.std.specs.Ordering.{eq_by_cmp}
use Rattle.std.specs.FinMap.{find as find_key}
use Rattle.std.proofs.lemmas.Bool.{or_parts}
use Rattle.std.proofs.lemmas.List.{map-append}
use Rattle.byte_fields.specs.Bytes.{Id}
use Rattle.changeset_model.specs.Path.{Path, is_prefix, path_cmp}
use Rattle.changeset_model.specs.Changeset.{File}
use Rattle.history_model.specs.History.{Known}
use Rattle.history_model.specs.Past.{At, Past}
use Rattle.history_model.specs.Tree.{tree_of}
use Rattle.manifest_model.specs.Deleted.{deleted_at, deletions, last_deletion}
use Rattle.manifest_model.proofs.Derivations.{tied_same}
use Rattle.manifest_model.proofs.Deletions.{deletion_found, gone_before, gone_by_it, none_where_there}
use Rattle.deleted_step.specs.Unfolded.{Links, is_on_way, link_after}
use Rattle.deleted_step.specs.Steps.{AreComeAndGone, are_set, is_among}

-- ---- several links

either : {X : Type 0} (a b : Bool) (x y : X) → cond b x (cond a x y) ≡ cond (a || b) x y
either true true x y = refl
either true false x y = refl
either false b x y = refl

pub after_all : (x : Option Id) (ps : List Path) (ls : Links) (d : Path) (y : Option Id) → link_after (map (λ p. (p, x)) ps ++ ls) d y ≡ link_after ls d (cond (is_among d ps) x y)
after_all x [] ls d y = refl
after_all x (p ∷ ps) ls d y = after_all x ps ls d (cond (eq_by_cmp path_cmp d p) x y) ∙ ap (link_after ls d) (either (eq_by_cmp path_cmp d p) (is_among d ps) x y)

pub after_both : (ls ms : Links) (d : Path) (y : Option Id) → link_after (ls ++ ms) d y ≡ link_after ms d (link_after ls d y)
after_both [] ms d y = refl
after_both (l ∷ ls) ms d y = after_both ls ms d (cond (eq_by_cmp path_cmp d l.0) l.1 y)

pub set_after : (x : Id) (gone come : List Path) (d : Path) (y : Option Id) → link_after (are_set x gone come) d y ≡ cond (is_among d come) None (cond (is_among d gone) (Some x) y)
set_after x gone come d y =
    after_all (Some x) gone (map (λ p. (p, None)) come) d y
    ∙ ap (λ ls. link_after ls d (cond (is_among d gone) (Some x) y)) (sym (append-nil (map (λ p. (p, None)) come)))
    ∙ after_all None come [] d (cond (is_among d gone) (Some x) y)

-- the paths of the links
paths_of : (x : Option Id) (ps : List Path) → map (λ (l : Path × Option Id). l.0) (map (λ p. (p, x)) ps) ≡ ps
paths_of x [] = refl
paths_of x (p ∷ ps) = ap (λ qs. p ∷ qs) (paths_of x ps)

pub paths_set : (x : Id) (gone come : List Path) → map (λ (l : Path × Option Id). l.0) (are_set x gone come) ≡ gone ++ come
paths_set x gone come = map-append (λ (l : Path × Option Id). l.0) (map (λ p. (p, Some x)) gone) (map (λ p. (p, None)) come) ∙ (λ i. paths_of (Some x) gone i ++ paths_of None come i)

-- ---- a path that no link reaches

pub untouched : (d p : Path) → is_prefix d p ≡ true → (ls : Links) → is_on_way ls d ≡ false → (y : Option Id) → link_after ls p y ≡ y
untouched d p inside [] h y = refl
untouched d p inside (l ∷ ls) h y =
    let parts = or_parts (is_prefix d l.0) (is_on_way ls d) h in
    untouched d p inside ls parts.1 (cond (eq_by_cmp path_cmp p l.0) l.1 y) ∙ by (eq_by_cmp path_cmp p l.0) refl parts.0
  where
    by : (b : Bool) → eq_by_cmp path_cmp p l.0 ≡ b → is_prefix d l.0 ≡ false → cond b l.1 y ≡ y
    by true same far = absurd (true≢false (sym inside ∙ ap (is_prefix d) (tied_same p l.0 same) ∙ far))
    by false other far = refl

-- ---- the links of a changeset

module _ (c : Known) (first second : Past) (gone come : List Path) (files : AreComeAndGone c first second gone come) where
  abbrev now : Past
  now = At c first second

  by_files : (d : Path) (here was : Option File) → tree_of now d ≡ here → tree_of first d ≡ was → (came went : Bool) → came ≡ (is_none was && is_some here) → went ≡ (is_some was && is_none here)
      → deleted_at now d ≡ cond came None (cond went (Some c.id) (deleted_at first d))
  by_files d (Some f) (Some g) h w came went a b =
      none_where_there c first second d f h
      ∙ sym ((λ i. cond (a i) None (cond (b i) (Some c.id) (deleted_at first d))) ∙ ap (λ was. cond (is_some was) None (last_deletion first d)) w)
  by_files d (Some f) None h w came went a b = none_where_there c first second d f h ∙ sym (ap (λ came. cond came None (cond went (Some c.id) (deleted_at first d))) a)
  by_files d None (Some g) h w came went a b = gone_by_it c first second d g h w ∙ sym (λ i. cond (a i) None (cond (b i) (Some c.id) (deleted_at first d)))
  by_files d None None h w came went a b = gone_before c first second d h w ∙ sym (λ i. cond (a i) None (cond (b i) (Some c.id) (deleted_at first d)))

  deleted_is : (d : Path) → deleted_at now d ≡ cond (is_among d come) None (cond (is_among d gone) (Some c.id) (deleted_at first d))
  deleted_is d = by_files d (tree_of now d) (tree_of first d) refl refl (is_among d come) (is_among d gone) (files.came d) (files.went d)

  pub links_are : (d : Path) → deleted_at now d ≡ link_after (are_set c.id gone come) d (deleted_at first d)
  links_are d = deleted_is d ∙ sym (set_after c.id gone come d (deleted_at first d))

  pub deletions_are : (p : Path) → find_key path_cmp p (deletions now) ≡ cond (is_among p come) None (cond (is_among p gone) (Some c.id) (find_key path_cmp p (deletions first)))
  deletions_are p = deletion_found now p ∙ deleted_is p ∙ ap (λ o. cond (is_among p come) None (cond (is_among p gone) (Some c.id) o)) (sym (deletion_found first p))
