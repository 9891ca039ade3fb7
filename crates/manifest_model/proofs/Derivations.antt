-- The paths of manifests.
use Rattle.std.proofs.Common.{◌≡◌, ℕ, ◌<◌, Bool, true, false, cond, ◌||◌, ◌&&◌, List, [], ◌∷◌, map, length, refl, sym, ap, ◌∙◌, arith}
use Rattle.std.specs.Prelude.{Some, flat_map, bytes_eq, unwrap_or, ◌==◌, nat_lt}
use mathlib.Core.Bool.{true≢false}
use Rattle.std.specs.List.{AllByRecursion, list_any}
use Rattle.std.specs.declared.cmp.Ordering.{Ordering}
use Rattle.std.specs.declared.cmp.Ordering.TheVariants.{Less, Equal, Greater}
use Rattle.std.specs.Ordering.{is_eq, eq_by_cmp, ordering_then}
use Rattle.std.specs.Cmp.{tied_itself}
use Rattle.std.specs.Cmp.Lexicographic.{nat_list_cmp_total}
use Rattle.std.specs.FinMap.{find as find_key}
use Rattle.std.specs.FinMap.Entries.{is_some-find}
use Rattle.std.proofs.lemmas.List.Folds.{list_any-append}
use Rattle.std.proofs.lemmas.Bool.{and_parts, and_from, lt-ltb, ltb-true, eqb-true}
use Rattle.std.proofs.lemmas.Slice.Eq.{bytes_eq-Decides}
use Rattle.changeset_model.specs.Path.{Path, path_cmp, is_prefix, is_strict_prefix, rising}
use Rattle.changeset_model.specs.Changeset.{File}
use Rattle.history_model.specs.Tree.{is_file, is_dir}
use Rattle.manifest_model.specs.Unode.{Unode, no_unode}
use Rattle.manifest_model.specs.Manifests.{above, dirs_of, paths_of}
use Rattle.changeset_model.proofs.Paths.{path_cmp-IsAntisymmetric}
use Rattle.changeset_model.proofs.Rising.{from_rising}
use Rattle.history_model.proofs.Landings.{or_left, or_true as or_right}

-- ---- paths among others

abbrev pub among : Path → List Path → Bool
among p ps = list_any (eq_by_cmp path_cmp p) ps

pub or_case : {P : Type 0} (a b : Bool) → (a ≡ true → P) → (b ≡ true → P) → (a || b) ≡ true → P
or_case true b f g h = f refl
or_case false b f g h = g h

is_equal : (o : Ordering) → is_eq o ≡ true → o ≡ Equal
is_equal Less h = absurd (true≢false (sym h))
is_equal Equal h = refl
is_equal Greater h = absurd (true≢false (sym h))

pub tied_same : (p q : Path) → eq_by_cmp path_cmp p q ≡ true → p ≡ q
tied_same p q h = path_cmp-IsAntisymmetric p q (is_equal (path_cmp p q) h)

look_by : (f : Path → Unode) (p q : Path) (qs : List Path) → (among p qs ≡ true → unwrap_or (find_key path_cmp p (map (λ q. (q, f q)) qs)) no_unode ≡ f p) → (b : Bool) → eq_by_cmp path_cmp p q ≡ b → (b || among p qs) ≡ true → unwrap_or (cond b (Some (f q)) (find_key path_cmp p (map (λ q. (q, f q)) qs))) no_unode ≡ f p
look_by f p q qs ih true e h = ap f (sym (tied_same p q e))
look_by f p q qs ih false e h = ih h

-- a path among those listed is found with what was listed for it
pub look : (f : Path → Unode) (p : Path) (ps : List Path) → among p ps ≡ true → unwrap_or (find_key path_cmp p (map (λ q. (q, f q)) ps)) no_unode ≡ f p
look f p [] h = absurd (true≢false (sym h))
look f p (q ∷ qs) h = look_by f p q qs (look f p qs) (eq_by_cmp path_cmp p q) refl h

-- ---- the directories

among_under : (e : List ℕ) (p : Path) (ds : List Path) → among (e ∷ p) (map (λ d. e ∷ d) ds) ≡ among p ds
among_under e p [] = refl
among_under e p (d ∷ ds) = λ i. is_eq (ordering_then (tied_itself nat_list_cmp_total e i) (path_cmp p d)) || among_under e p ds i

same_first : (f e : List ℕ) (p : Path) (ds : List Path) → f ≡ e → among p ds ≡ true → among (f ∷ p) (map (λ d. e ∷ d) ds) ≡ true
same_first f e p ds s h = ap (λ x. among (x ∷ p) (map (λ d. e ∷ d) ds)) s ∙ among_under e p ds ∙ h

above_has : (p q : Path) → is_strict_prefix p q ≡ true → among p (above q) ≡ true
above_has [] [] h = absurd (true≢false (sym h))
above_has [] (e ∷ q) h = refl
above_has (f ∷ p) [] h = absurd (true≢false (sym h))
above_has (f ∷ p) (e ∷ q) h =
    let both = and_parts (bytes_eq f e && is_prefix p q) (nat_lt (length (f ∷ p)) (length (e ∷ q))) h in
    let two = and_parts (bytes_eq f e) (is_prefix p q) both.0 in
    let more : length (f ∷ p) < length (e ∷ q) = ltb-true _ _ both.1 in
    let less : length p < length q = omega arith in
    same_first f e p (above q) ((bytes_eq-Decides f e).0 two.0) (above_has p q (and_from _ _ two.1 (lt-ltb (length p) (length q) less)))

pub none_of : {X : Type 0} (t : X → Bool) (xs : List X) → list_any t xs ≡ false → AllByRecursion (λ x. t x ≡ false) xs
none_of t [] h = tt
none_of t (x ∷ xs) h = by (none_of t xs) (t x) refl h
  where
    by : (list_any t xs ≡ false → AllByRecursion (λ x. t x ≡ false) xs) → (b : Bool) → t x ≡ b → (b || list_any t xs) ≡ false → (t x ≡ false) × AllByRecursion (λ x. t x ≡ false) xs
    by rest true e h = absurd (true≢false h)
    by rest false e h = (e, rest h)

pub no_any : {X : Type 0} (t : X → Bool) (xs : List X) → AllByRecursion (λ x. t x ≡ false) xs → list_any t xs ≡ false
no_any t [] all = refl
no_any t (x ∷ xs) all = λ i. all.0 i || no_any t xs all.1 i

rising_by : (p : Path) (ps : List Path) → among p ps ≡ true → (b : Bool) → among p (rising ps) ≡ b → among p (rising ps) ≡ true
rising_by p ps h true e = e
rising_by p ps h false e =
    absurd (true≢false (sym h ∙ no_any (eq_by_cmp path_cmp p) ps (from_rising (λ q. eq_by_cmp path_cmp p q ≡ false) ps (none_of (eq_by_cmp path_cmp p) (rising ps) e))))

pub rising_has : (p : Path) (ps : List Path) → among p ps ≡ true → among p (rising ps) ≡ true
rising_has p ps h = rising_by p ps h (among p (rising ps)) refl

flat_has : (p : Path) (fs : List (Path × File)) → list_any (λ f. is_strict_prefix p f.0) fs ≡ true → among p (flat_map (λ f. above f.0) fs) ≡ true
flat_has p [] h = absurd (true≢false (sym h))
flat_has p (f ∷ fs) h =
    list_any-append (eq_by_cmp path_cmp p) (above f.0) (flat_map (λ f. above f.0) fs)
    ∙ or_case (is_strict_prefix p f.0) (list_any (λ f. is_strict_prefix p f.0) fs) (λ g. or_left _ _ (above_has p f.0 g)) (λ g. or_right (among p (above f.0)) _ (flat_has p fs g)) h

dir_above : (fs : List (Path × File)) (p : Path) → is_dir fs p ≡ true → among p ([] ∷ flat_map (λ f. above f.0) fs) ≡ true
dir_above fs [] h = refl
dir_above fs (e ∷ p) h =
    or_case (length (e ∷ p) == 0) (list_any (λ f. is_strict_prefix (e ∷ p) f.0) fs) (λ g. (let none = eqb-true (length (e ∷ p)) 0 g in absurd (omega arith))) (λ g. flat_has (e ∷ p) fs g) h

-- a directory's path is among the paths
pub dir_has : (fs : List (Path × File)) (p : Path) → is_dir fs p ≡ true → among p (paths_of fs) ≡ true
dir_has fs p h = list_any-append (eq_by_cmp path_cmp p) (dirs_of fs) (map (λ f. f.0) fs) ∙ or_left _ _ (rising_has p ([] ∷ flat_map (λ f. above f.0) fs) (dir_above fs p h))

-- and a file's too
pub file_has : (fs : List (Path × File)) (p : Path) → is_file fs p ≡ true → among p (paths_of fs) ≡ true
file_has fs p h = list_any-append (eq_by_cmp path_cmp p) (dirs_of fs) (map (λ f. f.0) fs) ∙ or_right (among p (dirs_of fs)) _ (sym (is_some-find path_cmp p fs) ∙ h)
