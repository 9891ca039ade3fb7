-- A node that is put in the place of another.
use Rattle.std.proofs.Common.{◌≡◌, ◌<◌, Bool, true, false, cond, ◌&&◌, [], ◌∷◌, ◌++◌, length, refl, sym, ap, ◌∙◌, arith}
use Rattle.std.specs.Prelude.{Option, None, Some, is_some}
use Rattle.std.specs.Option.{option_and_then}
use Rattle.std.specs.Ordering.{eq_by_cmp, is_eq}
use Rattle.std.specs.declared.cmp.Ordering.TheVariants.{Less, Equal, Greater}
use Rattle.std.specs.BTreeMap.{BTreeMap, get, is_at}
use Rattle.std.specs.Map.{lookup}
use Rattle.byte_fields.specs.Bytes.{Id}
use Rattle.changeset_model.specs.Path.{Path, path_cmp}
use Rattle.manifest_model.proofs.Derivations.{tied_same}
use Rattle.manifest_laws.proofs.Lists.{and_assoc}
use Rattle.manifest_laws.proofs.Names.{Name, first_tells, name_cmp}
use Rattle.deleted_step.specs.declared.opened.Opened.{Opened}
use Rattle.deleted_step.specs.declared.unfolded.Unfolded.{Unfolded}
use Rattle.deleted_step.specs.Opened.{entry_at}
use Rattle.deleted_step.specs.Unfolded.{entry_in, is_unfolded, link_in, place_at}

abbrev Places : Type 0
Places = BTreeMap Path Opened

-- ---- paths that are longer by a name

less_snoc : (d : Path) (n : Name) → path_cmp [] (d ++ n ∷ []) ≡ Less
less_snoc [] n = refl
less_snoc (e ∷ d) n = refl

more_snoc : (d : Path) (n : Name) → path_cmp (d ++ n ∷ []) [] ≡ Greater
more_snoc [] n = refl
more_snoc (e ∷ d) n = refl

never : (b : Bool) → (b && false) ≡ false
never true = refl
never false = refl

always : (b : Bool) → (b && true) ≡ b
always true = refl
always false = refl

pub tied_snoc : (p d : Path) (k n : Name) → eq_by_cmp path_cmp (p ++ k ∷ []) (d ++ n ∷ []) ≡ (eq_by_cmp path_cmp p d && eq_by_cmp name_cmp k n)
tied_snoc [] [] k n = first_tells (name_cmp k n) Equal ∙ always (is_eq (name_cmp k n))
tied_snoc [] (e ∷ d) k n = first_tells (name_cmp k e) (path_cmp [] (d ++ n ∷ [])) ∙ ap (λ o. is_eq (name_cmp k e) && is_eq o) (less_snoc d n) ∙ never (is_eq (name_cmp k e))
tied_snoc (e ∷ p) [] k n = first_tells (name_cmp e n) (path_cmp (p ++ k ∷ []) []) ∙ ap (λ o. is_eq (name_cmp e n) && is_eq o) (more_snoc p k) ∙ never (is_eq (name_cmp e n))
tied_snoc (e ∷ p) (f ∷ d) k n =
    first_tells (name_cmp e f) (path_cmp (p ++ k ∷ []) (d ++ n ∷ []))
    ∙ ap (λ b. is_eq (name_cmp e f) && b) (tied_snoc p d k n)
    ∙ sym (and_assoc (is_eq (name_cmp e f)) (eq_by_cmp path_cmp p d) (eq_by_cmp name_cmp k n))
    ∙ ap (λ b. b && eq_by_cmp name_cmp k n) (sym (first_tells (name_cmp e f) (path_cmp p d)))

-- ---- put where another was

twice : {X : Type 0} (b : Bool) (x y z : X) → cond b x (cond b y z) ≡ cond b x z
twice true x y z = refl
twice false x y z = refl

pub at_put : (u v : Unfolded) (mid : Places) (p : Path) (o : Opened) → 0 < length p → v.root ≡ u.root
    → ((q : Path) → get path_cmp mid q ≡ cond (is_at (path_cmp p) q) None (get path_cmp u.places q))
    → ((q : Path) → get path_cmp v.places q ≡ cond (is_at (path_cmp p) q) (Some o) (get path_cmp mid q))
    → (d : Path) → place_at v d ≡ cond (eq_by_cmp path_cmp p d) (Some o) (place_at u d)
at_put u v mid [] o some root taken put d = absurd (omega arith)
at_put u v mid (e ∷ p) o some root taken put [] = ap (λ r. Some r) root
at_put u v mid (e ∷ p) o some root taken put (k ∷ d) =
    put (k ∷ d) ∙ ap (cond (is_at (path_cmp (e ∷ p)) (k ∷ d)) (Some o)) (taken (k ∷ d)) ∙ twice (is_at (path_cmp (e ∷ p)) (k ∷ d)) (Some o) None (get path_cmp u.places (k ∷ d))

pub place_of : (u : Unfolded) (p : Path) (o : Option Opened) → 0 < length p → get path_cmp u.places p ≡ o → place_at u p ≡ o
place_of u [] o some h = absurd (omega arith)
place_of u (e ∷ p) o some h = h

module _ (u v : Unfolded) (p : Path) (o new : Opened) (was : place_at u p ≡ Some o) (at : (d : Path) → place_at v d ≡ cond (eq_by_cmp path_cmp p d) (Some new) (place_at u d)) where
  was_at : (d : Path) → eq_by_cmp path_cmp p d ≡ true → place_at u d ≡ Some o
  was_at d same = ap (place_at u) (sym (tied_same p d same)) ∙ was

  -- what is asked of a place that may be empty
  module _ {X : Type 0} (ask : Option Opened → X) where
    by_place : (d : Path) (b : Bool) → eq_by_cmp path_cmp p d ≡ b → ask (cond b (Some new) (place_at u d)) ≡ cond (is_unfolded u d && b) (ask (Some new)) (ask (place_at u d))
    by_place d true same = sym (ap (λ place. cond (is_some place && true) (ask (Some new)) (ask (place_at u d))) (was_at d same))
    by_place d false other = sym (ap (λ b. cond b (ask (Some new)) (ask (place_at u d))) (never (is_unfolded u d)))

    pub asked : (d : Path) → ask (place_at v d) ≡ cond (is_unfolded u d && eq_by_cmp path_cmp p d) (ask (Some new)) (ask (place_at u d))
    asked d = ap ask (at d) ∙ by_place d (eq_by_cmp path_cmp p d) refl

    same_by : (d : Path) (b : Bool) → eq_by_cmp path_cmp p d ≡ b → ask (Some new) ≡ ask (Some o) → ask (cond b (Some new) (place_at u d)) ≡ ask (place_at u d)
    same_by d true same h = h ∙ sym (ap ask (was_at d same))
    same_by d false other h = refl

    pub asked_same : ask (Some new) ≡ ask (Some o) → (d : Path) → ask (place_at v d) ≡ ask (place_at u d)
    asked_same h d = ap ask (at d) ∙ same_by d (eq_by_cmp path_cmp p d) refl h

  pub put_same : (d : Path) → is_unfolded v d ≡ is_unfolded u d
  put_same = asked_same is_some refl

  pub put_link : (d : Path) → link_in v d ≡ cond (is_unfolded u d && eq_by_cmp path_cmp p d) new.link (link_in u d)
  put_link = asked (option_and_then (λ o. o.link))

  pub link_kept : new.link ≡ o.link → (d : Path) → link_in v d ≡ link_in u d
  link_kept = asked_same (option_and_then (λ o. o.link))

  pub entries_kept : ((n : Name) → entry_at new n ≡ entry_at o n) → (d : Path) (n : Name) → entry_in v d n ≡ entry_in u d n
  entries_kept h d n = asked_same (option_and_then (λ o. entry_at o n)) (h n) d

  module _ (k : Name) (id : Option Id) (set : (n : Name) → entry_at new n ≡ cond (eq_by_cmp name_cmp k n) id (entry_at o n)) where
    entry_by : (d : Path) (n : Name) (b : Bool) → eq_by_cmp path_cmp p d ≡ b → (t : Bool)
        → cond (is_unfolded u d && b) (cond t id (entry_at o n)) (entry_in u d n) ≡ cond (is_unfolded u d && (b && t)) id (entry_in u d n)
    entry_by d n true same true = refl
    entry_by d n true same false = ap (λ place. cond (is_some place && true) (entry_at o n) (option_and_then (λ x. entry_at x n) place)) (was_at d same) ∙ sym (ap (λ b. cond b id (entry_in u d n)) (never (is_unfolded u d)) ∙ ap (option_and_then (λ x. entry_at x n)) (was_at d same))
    entry_by d n false other t = ap (λ b. cond b (cond t id (entry_at o n)) (entry_in u d n)) (never (is_unfolded u d)) ∙ sym (ap (λ b. cond b id (entry_in u d n)) (never (is_unfolded u d)))

    pub put_entry : (d : Path) (n : Name) → entry_in v d n ≡ cond (is_unfolded u d && eq_by_cmp path_cmp (p ++ k ∷ []) (d ++ n ∷ [])) id (entry_in u d n)
    put_entry d n =
        asked (option_and_then (λ o. entry_at o n)) d
        ∙ ap (λ e. cond (is_unfolded u d && eq_by_cmp path_cmp p d) e (entry_in u d n)) (set n)
        ∙ entry_by d n (eq_by_cmp path_cmp p d) refl (eq_by_cmp name_cmp k n)
        ∙ ap (λ b. cond (is_unfolded u d && b) id (entry_in u d n)) (sym (tied_snoc p d k n))

-- ---- where there was none

module _ (u v : Unfolded) (p : Path) (was : place_at u p ≡ None) (same : (d : Path) → place_at v d ≡ place_at u d) where
  not_there : (d : Path) (b : Bool) → eq_by_cmp path_cmp p d ≡ b → (is_unfolded u d && b) ≡ false
  not_there d true h = ap (λ place. is_some place && true) (ap (place_at u) (sym (tied_same p d h)) ∙ was)
  not_there d false h = never (is_unfolded u d)

  pub no_link : (x : Option Id) (d : Path) → link_in v d ≡ cond (is_unfolded u d && eq_by_cmp path_cmp p d) x (link_in u d)
  no_link x d = ap (option_and_then (λ o. o.link)) (same d) ∙ sym (ap (λ b. cond b x (link_in u d)) (not_there d (eq_by_cmp path_cmp p d) refl))

  none_by : (d : Path) (k n : Name) → (eq_by_cmp path_cmp p d && eq_by_cmp name_cmp k n) ≡ (eq_by_cmp name_cmp k n && eq_by_cmp path_cmp p d)
  none_by d k n = by (eq_by_cmp path_cmp p d) (eq_by_cmp name_cmp k n)
    where
      by : (a b : Bool) → (a && b) ≡ (b && a)
      by true true = refl
      by true false = refl
      by false true = refl
      by false false = refl

  pub no_entry : (k : Name) (id : Option Id) (d : Path) (n : Name) → entry_in v d n ≡ cond (is_unfolded u d && eq_by_cmp path_cmp (p ++ k ∷ []) (d ++ n ∷ [])) id (entry_in u d n)
  no_entry k id d n =
      ap (option_and_then (λ o. entry_at o n)) (same d)
      ∙ sym (ap (λ b. cond b id (entry_in u d n)) (
      ap (λ b. is_unfolded u d && b) (tied_snoc p d k n)
      ∙ sym (and_assoc (is_unfolded u d) (eq_by_cmp path_cmp p d) (eq_by_cmp name_cmp k n))
      ∙ ap (λ b. b && eq_by_cmp name_cmp k n) (not_there d (eq_by_cmp path_cmp p d) refl)))

pub at_same : (u v : Unfolded) → v.root ≡ u.root → v.places.entries ≡ u.places.entries → (d : Path) → place_at v d ≡ place_at u d
at_same u v root places [] = ap (λ r. Some r) root
at_same u v root places (e ∷ d) = ap (lookup (is_at (path_cmp (e ∷ d)))) places

off_root : (p : Path) → 0 < length p → is_at (path_cmp p) [] ≡ false
off_root [] some = absurd (omega arith)
off_root (e ∷ p) some = refl

pub root_kept : (old mid new : Places) (p : Path) (o : Opened) → 0 < length p
    → ((q : Path) → get path_cmp mid q ≡ cond (is_at (path_cmp p) q) None (get path_cmp old q))
    → ((q : Path) → get path_cmp new q ≡ cond (is_at (path_cmp p) q) (Some o) (get path_cmp mid q))
    → get path_cmp new [] ≡ get path_cmp old []
root_kept old mid new p o some taken put =
    put [] ∙ ap (λ b. cond b (Some o) (get path_cmp mid [])) (off_root p some) ∙ taken [] ∙ ap (λ b. cond b None (get path_cmp old [])) (off_root p some)

pub root_same : (old new : Places) → new.entries ≡ old.entries → get path_cmp new [] ≡ get path_cmp old []
root_same old new e = ap (lookup (is_at (path_cmp []))) e
