-- The first parent's nodes, once one more link is set.
use Rattle.std.proofs.Common.{◌≡◌, ℕ, zero, suc, ◌+◌, ◌<◌, ◌≤◌, Bool, true, false, cond, ◌&&◌, ◌||◌, List, [], ◌∷◌, ◌++◌, length, refl, sym, ap, ◌∙◌, arith, append-nil}
use Rattle.std.specs.Prelude.{Option, map, drop, slice_index_or}
use Rattle.std.specs.Cmp.{eq_by_cmp_equiv}
use Rattle.std.specs.Ordering.{eq_by_cmp}
use Rattle.std.proofs.lemmas.List.{drop_more}
use Rattle.std.specs.BTreeMap.{get}
use Rattle.byte_fields.specs.Bytes.{Id}
use Rattle.changeset_model.specs.Path.{Path, is_prefix, path_cmp}
use Rattle.changeset_model.proofs.Paths.{path_cmp_total}
use Rattle.history_model.specs.Past.{Past}
use Rattle.manifest_model.specs.Deleted.{deleted}
use Rattle.manifest_laws.proofs.Names.{Name}
use Rattle.deleted_step.specs.declared.unfolded.Unfolded.{Unfolded}
use Rattle.deleted_step.specs.Unfolded.{IsUnfolded, Links, entry_in, is_on_way, is_unfolded, link_after, link_in}
use Rattle.deleted_step.proofs.SetLinks.{after_both}

any_last : (ls : Links) (l : Path × Option Id) (d : Path) → is_on_way (ls ++ l ∷ []) d ≡ (is_on_way ls d || is_prefix d l.0)
any_last [] l d = by (is_prefix d l.0)
  where
    by : (b : Bool) → (b || false) ≡ b
    by true = refl
    by false = refl
any_last (x ∷ ls) l d = by (is_prefix d x.0) (any_last ls l d)
  where
    by : (b : Bool) → is_on_way (ls ++ l ∷ []) d ≡ (is_on_way ls d || is_prefix d l.0) → (b || is_on_way (ls ++ l ∷ []) d) ≡ ((b || is_on_way ls d) || is_prefix d l.0)
    by true h = refl
    by false h = h

or_false : (b : Bool) → b ≡ (b || false)
or_false true = refl
or_false false = refl

-- the link of a path is set, which was unfolded with those above it
module _ (first : Past) (ls : Links) (p : Path) (x : Option Id) (u v : Unfolded) (are : IsUnfolded first ls p u)
    (root : get path_cmp v.places [] ≡ get path_cmp u.places [])
    (same : (d : Path) → is_unfolded v d ≡ is_unfolded u d)
    (links : (d : Path) → link_in v d ≡ cond (is_unfolded u d && eq_by_cmp path_cmp p d) x (link_in u d))
    (entries : (d : Path) (n : Name) → entry_in v d n ≡ entry_in u d n) where
  after_last : (d : Path) → link_after (ls ++ (p, x) ∷ []) d (deleted first d).link ≡ cond (eq_by_cmp path_cmp p d) x (link_after ls d (deleted first d).link)
  after_last d = after_both ls ((p, x) ∷ []) d (deleted first d).link ∙ ap (λ b. cond b x (link_after ls d (deleted first d).link)) ((eq_by_cmp_equiv path_cmp_total).symm d p)

  pub link_set : IsUnfolded first (ls ++ (p, x) ∷ []) [] v
  link_set = record {
    root = root ∙ are.root;
    places = λ e d. same (e ∷ d) ∙ are.places e d ∙ sym (any_last ls (p, x) (e ∷ d)) ∙ or_false (is_on_way (ls ++ (p, x) ∷ []) (e ∷ d));
    links = λ d h.
        let there = sym (same d) ∙ h in
        links d
        ∙ ap (λ b. cond (b && eq_by_cmp path_cmp p d) x (link_in u d)) there
        ∙ ap (cond (eq_by_cmp path_cmp p d) x) (are.links d there)
        ∙ sym (after_last d);
    entries = λ d h n. entries d n ∙ are.entries d (sym (same d) ∙ h) n;
  }

-- ---- each path in turn

pub so_far : (ls : Links) (x : Option Id) (ps qs : List Path) (p : Path) → ps ≡ p ∷ qs → (ls ++ (p, x) ∷ []) ++ map (λ q. (q, x)) qs ≡ ls ++ map (λ q. (q, x)) ps
so_far ls x ps qs p e = shift ls ∙ ap (λ ps. ls ++ map (λ q. (q, x)) ps) (sym e)
  where
    shift : (ls : Links) → (ls ++ (p, x) ∷ []) ++ map (λ q. (q, x)) qs ≡ ls ++ (p, x) ∷ map (λ q. (q, x)) qs
    shift [] = refl
    shift (l ∷ ls) = ap (λ r. l ∷ r) (shift ls)

next : (ps : List Path) (i : ℕ) (p : Path) → i < length ps → p ≡ slice_index_or ps i p → drop i ps ≡ p ∷ drop (i + 1) ps
next ps i p less item = drop_more ps i p less ∙ ap (λ q. q ∷ drop (i + 1) ps) (sym item)

pub with_next : (ls done : Links) (x : Option Id) (ps : List Path) (i : ℕ) (p : Path) → i < length ps → p ≡ slice_index_or ps i p → done ++ map (λ q. (q, x)) (drop i ps) ≡ ls ++ map (λ q. (q, x)) ps → (done ++ (p, x) ∷ []) ++ map (λ q. (q, x)) (drop (i + 1) ps) ≡ ls ++ map (λ q. (q, x)) ps
with_next ls done x ps i p less item e = so_far done x (drop i ps) (drop (i + 1) ps) p (next ps i p less item) ∙ e

none_left : (ps : List Path) (i : ℕ) → length ps ≤ i → drop i ps ≡ []
none_left [] zero h = refl
none_left [] (suc i) h = refl
none_left (p ∷ ps) zero h = absurd (omega (arith, h))
none_left (p ∷ ps) (suc i) h = none_left ps i (omega (arith, h))

pub all_set : (ls done : Links) (x : Option Id) (ps : List Path) (i : ℕ) → length ps ≤ i → done ++ map (λ q. (q, x)) (drop i ps) ≡ ls ++ map (λ q. (q, x)) ps → done ≡ ls ++ map (λ q. (q, x)) ps
all_set ls done x ps i most e = sym (append-nil done) ∙ ap (λ qs. done ++ map (λ q. (q, x)) qs) (sym (none_left ps i most)) ∙ e
