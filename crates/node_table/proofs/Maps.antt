-- Maps that contracts see as finite maps.
use Rattle.std.proofs.Common.{◌≡◌, Bool, true, false, cond, List, [], ◌∷◌, map, refl, sym, ap, subst, ◌∙◌}
use Rattle.std.specs.Prelude.{Option, None, Some, option_map}
use Rattle.std.specs.declared.cmp.Ordering.{Ordering}
use Rattle.std.specs.Ordering.{is_eq, eq_by_cmp}
use Rattle.std.specs.Cmp.{IsTotalOrder}
use Rattle.std.specs.Map.{lookup}
use Rattle.std.specs.FinMap.{FinMap, IsAntisymmetric, find, get, insert, remove, from_entries, get-from_entries, get-insert, get-remove, same_map}
use Rattle.std.proofs.lemmas.Cmp.{eq_by_cmp_equiv}

mapped : {V B : Type 0} (g : V → B) (b : Bool) (v : V) (o : Option V) → option_map g (cond b (Some v) o) ≡ cond b (Some (g v)) (option_map g o)
mapped g true v o = refl
mapped g false v o = refl

mapped_none : {V B : Type 0} (g : V → B) (b : Bool) (o : Option V) → option_map g (cond b None o) ≡ cond b None (option_map g o)
mapped_none g true o = refl
mapped_none g false o = refl

-- keys are seen by f, of which h is the way back, and values by g
module _ {K V A B : Type 0} (f : K → A) (h : A → K) (back : (a : A) → f (h a) ≡ a) (g : V → B) {R : A → A → Ordering} (total : IsTotalOrder R) (exact : IsAntisymmetric R) where
  abbrev pub seen : List (K × V) → FinMap R B
  seen es = from_entries (map (λ e. (f e.0, g e.1)) es)

  abbrev at : K → List (K × V) → Option V
  at q es = lookup (λ k. is_eq (R (f q) (f k))) es

  find_seen : (es : List (K × V)) (q : K) → find R (f q) (map (λ e. (f e.0, g e.1)) es) ≡ option_map g (at q es)
  find_seen [] q = refl
  find_seen (e ∷ es) q = ap (cond (is_eq (R (f q) (f e.0))) (Some (g e.1))) (find_seen es q) ∙ sym (mapped g (is_eq (R (f q) (f e.0))) e.1 (at q es))

  pub get_seen : (es : List (K × V)) (q : K) → get (seen es) (f q) ≡ option_map g (at q es)
  get_seen es q = get-from_entries total (map (λ e. (f e.0, g e.1)) es) (f q) ∙ find_seen es q

  by_keys : (m n : FinMap R B) → ((q : K) → get m (f q) ≡ get n (f q)) → m ≡ n
  by_keys m n same = same_map total exact m n (λ a. subst (λ a. get m a ≡ get n a) (back a) (same (h a)))

  turned : (k q : K) → is_eq (R (f k) (f q)) ≡ eq_by_cmp R (f q) (f k)
  turned k q = (eq_by_cmp_equiv total).symm (f k) (f q)

  pub put_seen : (es fs : List (K × V)) (k : K) (v : V) → ((q : K) → at q fs ≡ cond (is_eq (R (f k) (f q))) (Some v) (at q es)) → seen fs ≡ insert (seen es) (f k) (g v)
  put_seen es fs k v put = by_keys (seen fs) (insert (seen es) (f k) (g v)) (λ q.
      get_seen fs q ∙ ap (option_map g) (put q) ∙ mapped g (is_eq (R (f k) (f q))) v (at q es)
      ∙ ap (λ b. cond b (Some (g v)) (option_map g (at q es))) (turned k q)
      ∙ sym (get-insert total (seen es) (f k) (g v) (f q) ∙ ap (cond (eq_by_cmp R (f q) (f k)) (Some (g v))) (get_seen es q)))

  pub removed_seen : (es fs : List (K × V)) (k : K) → ((q : K) → at q fs ≡ cond (is_eq (R (f k) (f q))) None (at q es)) → seen fs ≡ remove (seen es) (f k)
  removed_seen es fs k removed = by_keys (seen fs) (remove (seen es) (f k)) (λ q.
      get_seen fs q ∙ ap (option_map g) (removed q) ∙ mapped_none g (is_eq (R (f k) (f q))) (at q es)
      ∙ ap (λ b. cond b None (option_map g (at q es))) (turned k q)
      ∙ sym (get-remove total (seen es) (f k) (f q) ∙ ap (cond (eq_by_cmp R (f q) (f k)) None) (get_seen es q)))

-- ---- keys and values that are seen as they are

pub as_they_are : {K V : Type 0} (es : List (K × V)) → map (λ e. (e.0, e.1)) es ≡ es
as_they_are [] = refl
as_they_are (e ∷ es) = ap (λ es. e ∷ es) (as_they_are es)

pub option_as_it_is : {V : Type 0} (o : Option V) → option_map (λ v. v) o ≡ o
option_as_it_is None = refl
option_as_it_is (Some v) = refl
