-- What a match says of the route of a path.
use Rattle.std.proofs.Common.{◌≡◌, ℕ, suc, ◌+◌, ◌<◌, List, [], ◌∷◌, ◌++◌, length, drop, take, get_or, Option, Some, None, Bool, true, false, cond, refl, sym, ap, subst, ◌∙◌, arith, ltb, ◌&&◌, nat_eq, Fits, w8, length-append}
use Rattle.std.specs.Prelude.{codes, map, option_map, bytes_eq, not, IsSome, option_to_list}
use Rattle.std.specs.List.{starts_with, list_all}
use Rattle.std.specs.Option.{option_or}
use lib.Utf8.{encode}
use Rattle.std.specs.Str.{IsUtf8, is_utf8, chars}
use Rattle.std.proofs.lemmas.Str.{IsUtf8-from_is_utf8, IsUtf8-nil, IsUtf8-append, IsUtf8-take, IsUtf8-drop, IsCharBoundary-before_ascii, IsCharBoundary-after_ascii}
use Rattle.std.proofs.lemmas.Bool.{and_parts, eqb-true, ltb-true}
use Rattle.std.proofs.lemmas.Slice.Eq.{bytes_eq-Decides}
use Rattle.std.proofs.Math.Seq.{drop-append_seam}
use Rattle.byte_fields.specs.Bytes.{first_some}
use Rattle.changeset_model.specs.Path.{elements, text_of}
use Rattle.session_model.specs.declared.route_name.RouteName.{RouteName}
use Rattle.session_model.specs.Routes.{Route, pattern_of, order, values, is_empty, route_by, is_target, route_of}
use Rattle.matchit.specs.Rows.{RowsOf}
use Rattle.matchit.specs.Seek.{first, same_text}
use Rattle.matchit.specs.Level.{IsText}
use Rattle.matchit.specs.Params.{named, walk, AllText}
use Rattle.matchit.specs.Router.{RouteOf}
use Rattle.matchit.specs.declared.params.Params.{Params}
use Rattle.routes.specs.Rows.{names, tokens, text_after, places, entry_of, table}
use Rattle.routes.specs.Rows as rows
use Rattle.routes.specs.Taken.{taken, part_of, route_taken, AreThere, Takes}
use Rattle.routes.proofs.Segments.{Split, whole, cut, split, text-split}
use Rattle.routes.proofs.Found.{is_plain, first-table}
use Rattle.routes.proofs.Walked.{Follows, ends, goes, walked, zipped, all_names, named-zipped}
use Rattle.changeset_model.proofs.Spelling.{is_false as not_true}
use Rattle.routes.proofs.Walked.{all_rest, is_some_values as one_more}

-- ---- what holds of the patterns

-- the name is itself, and none of these
abbrev differs : List ℕ → List (List ℕ) → Bool
differs n [] = same_text n n
differs n (m ∷ ns) = not (same_text n m) && differs n ns

abbrev are_distinct : List (List ℕ) → Bool
are_distinct [] = true
are_distinct (n ∷ ns) = differs n ns && are_distinct ns

-- the tokens are few, and the names are texts, each another
abbrev pub is_good : RouteName → Bool
is_good k =
    is_plain (pattern_of k).word && (ltb (length (tokens (pattern_of k))) 1000
    && (list_all is_utf8 (all_names (pattern_of k).parameters (pattern_of k).rest) && are_distinct (all_names (pattern_of k).parameters (pattern_of k).rest)))

good : list_all is_good order ≡ true
unfolding is_utf8 chars encode
good = refl

-- ---- the values of the names

are_same : (n : List ℕ) (ns : List (List ℕ)) → differs n ns ≡ true → same_text n n ≡ true
are_same n [] e = e
are_same n (m ∷ ns) e = are_same n ns (and_parts (not (same_text n m)) (differs n ns) e).1

-- as many values as names
abbrev AsMany : List (List ℕ) → List (List ℕ) → Type 0
AsMany [] [] = Unit {0}
AsMany [] (v ∷ vs) = ⊥
AsMany (n ∷ ns) [] = ⊥
AsMany (n ∷ ns) (v ∷ vs) = AsMany ns vs

skip_first : (n v : List ℕ) (ms : List (List ℕ)) (pairs : List (List ℕ × List ℕ)) → differs n ms ≡ true → map (part_of ((n, v) ∷ pairs)) ms ≡ map (part_of pairs) ms
skip_first n v [] pairs e = refl
skip_first n v (m ∷ ms) pairs e =
    let parts = and_parts (not (same_text n m)) (differs n ms) e in
    rw (not_true (same_text n m) parts.0) (ap (λ l. part_of pairs m ∷ l) (skip_first n v ms pairs parts.1))

values_of : (ns vs : List (List ℕ)) → are_distinct ns ≡ true → AsMany ns vs → map (part_of (zipped ns vs)) ns ≡ vs
values_of [] [] e many = refl
values_of [] (v ∷ vs) e many = absurd many
values_of (n ∷ ns) [] e many = absurd many
values_of (n ∷ ns) (v ∷ vs) e many =
    let parts = and_parts (differs n ns) (are_distinct ns) e in
    rw (are_same n ns parts.0) (ap (λ l. v ∷ l) (skip_first n v ns (zipped ns vs) parts.0 ∙ values_of ns vs parts.1 many))

there_more : (n v : List ℕ) (ms : List (List ℕ)) (pairs : List (List ℕ × List ℕ)) → differs n ms ≡ true → AreThere ms pairs → AreThere ms ((n, v) ∷ pairs)
there_more n v [] pairs e there = tt
there_more n v (m ∷ ms) pairs e there =
    let parts = and_parts (not (same_text n m)) (differs n ms) e in
    (subst (λ b. IsSome (cond b (Some v) (named m pairs))) (sym (not_true (same_text n m) parts.0)) there.0, there_more n v ms pairs parts.1 there.1)

all_there : (ns vs : List (List ℕ)) → are_distinct ns ≡ true → AsMany ns vs → AreThere ns (zipped ns vs)
all_there [] vs e many = tt
all_there (n ∷ ns) [] e many = absurd many
all_there (n ∷ ns) (v ∷ vs) e many =
    let parts = and_parts (differs n ns) (are_distinct ns) e in
    (subst (λ b. IsSome (cond b (Some v) (named n (zipped ns vs)))) (sym (are_same n ns parts.0)) refl, there_more n v ns (zipped ns vs) parts.0 (all_there ns vs parts.1 many))

-- ---- the values of a match

before_slash : (a u : List ℕ) → IsUtf8 (a ++ 47 ∷ u) → IsUtf8 a × IsUtf8 u
before_slash a u h =
    let long : length (a ++ 47 ∷ u) ≡ length a + suc (length u) = length-append a (47 ∷ u) in
    let at : get_or (a ++ 47 ∷ u) (length a) 0 ≡ 47 = get_or-seam a u in
    let small : get_or (a ++ 47 ∷ u) (length a) 0 < 128 = omega arith in (
      subst IsUtf8 (take-front a (47 ∷ u)) (IsUtf8-take (a ++ 47 ∷ u) (length a) h (IsCharBoundary-before_ascii (a ++ 47 ∷ u) (length a) (omega arith) small)),
      subst IsUtf8 (drop-after a u) (IsUtf8-drop (a ++ 47 ∷ u) (length a + 1) h (IsCharBoundary-after_ascii (a ++ 47 ∷ u) (length a) h (omega arith) small)),
    )
  where
    get_or-seam : (a u : List ℕ) → get_or (a ++ 47 ∷ u) (length a) 0 ≡ 47
    get_or-seam [] u = refl
    get_or-seam (c ∷ a) u = get_or-seam a u

    take-front : (a rest : List ℕ) → take (length a) (a ++ rest) ≡ a
    take-front [] rest = refl
    take-front (c ∷ a) rest = ap (λ z. c ∷ z) (take-front a rest)

    suc_is : (n : ℕ) → n + 1 ≡ suc n
    suc_is n = omega arith

    drop_suc : (a u : List ℕ) → drop (suc (length a)) (a ++ 47 ∷ u) ≡ u
    drop_suc [] u = refl
    drop_suc (c ∷ a) u = drop_suc a u

    drop-after : (a u : List ℕ) → drop (length a + 1) (a ++ 47 ∷ u) ≡ u
    drop-after a u = rw (suc_is (length a)) (drop_suc a u)

slash_alone : IsUtf8 (codes "/")
unfolding encode
slash_alone = (codes "/", (refl, refl))

slash_text : (u : List ℕ) → IsUtf8 u → IsUtf8 (47 ∷ u)
slash_text u h = IsUtf8-append (codes "/") u slash_alone h

-- what is taken of these segments: as many values, each a text
record Taking (ns vs : List (List ℕ)) : Type 0 where
  many : AsMany ns vs
  text : AllText (zipped ns vs)

take_one : (n a : List ℕ) (ns vs later : List (List ℕ)) → IsUtf8 n → IsUtf8 a → vs ≡ a ∷ later → Taking ns later → Taking (n ∷ ns) vs
take_one n a ns vs later name value e t = subst (Taking (n ∷ ns)) (sym e) (record { many = t.many; text = (name, value, t.text) })

taking : (ns : List (List ℕ)) (r : Option (List ℕ)) (after : List ℕ) (parts vs : List (List ℕ)) → Follows after parts → IsUtf8 after → list_all is_utf8 (all_names ns r) ≡ true → values ns r parts ≡ Some vs → Taking (all_names ns r) vs
taking [] None _ _ vs ends utf8 names e = subst (Taking []) (let same : [] ≡ vs = cc in same) (record { many = tt; text = tt })
taking [] None _ _ vs (goes u a more split) utf8 names e = absurd (cc)
taking [] (Some n) _ _ vs ends utf8 names e = absurd (cc)
taking [] (Some n) _ _ vs (goes u a more split) utf8 names e =
    let is = all_rest (is_empty (text_of (a ∷ more))) (text_of (a ∷ more)) vs e ∙ ap (λ t. t ∷ []) (text-split u (a ∷ more) split) in
    take_one n u [] vs [] (IsUtf8-from_is_utf8 n (and_parts (is_utf8 n) true names).0) (before_slash [] u utf8).1 is (record { many = tt; text = tt })
taking (n ∷ ns) r _ _ vs ends utf8 names e = absurd (cc)
taking (n ∷ ns) r _ _ vs (goes _ _ _ (whole a p)) utf8 names e =
    let parts = and_parts (is_utf8 n) (list_all is_utf8 (all_names ns r)) names in
    let some = one_more a (is_empty a) (values ns r []) vs e in
    let value = (before_slash [] a utf8).1 in
    take_one n a (all_names ns r) vs some.0 (IsUtf8-from_is_utf8 n parts.0) value some.2 (taking ns r [] [] some.0 ends IsUtf8-nil parts.1 some.1)
taking (n ∷ ns) r _ _ vs (goes _ _ _ (cut a u b more p rest)) utf8 names e =
    let parts = and_parts (is_utf8 n) (list_all is_utf8 (all_names ns r)) names in
    let some = one_more a (is_empty a) (values ns r (b ∷ more)) vs e in
    let both = before_slash a u (before_slash [] (a ++ 47 ∷ u) utf8).1 in
    take_one n a (all_names ns r) vs some.0 (IsUtf8-from_is_utf8 n parts.0) both.0 some.2 (taking ns r (47 ∷ u) (b ∷ more) some.0 (goes u b more rest) (slash_text u both.1) parts.1 some.1)

-- ---- the route of a path

-- the pattern that a route is of
record Chosen (parts : List (List ℕ)) (r : Route) : Type 0 where
  good : is_good r.name ≡ true
  is : route_by r.name parts ≡ Some r

by_name : (k : RouteName) (parts : List (List ℕ)) (r : Route) → route_by k parts ≡ Some r → r.name ≡ k
by_name k [] r e = absurd (cc)
by_name k (word ∷ parts) r e = by (bytes_eq word (pattern_of k).word) (values (pattern_of k).parameters (pattern_of k).rest parts) e
  where
    by : (v : Bool) (o : Option (List (List ℕ))) → cond v (option_map (λ vs. record { name = k; values = vs }) o) None ≡ Some r → r.name ≡ k
    by true None e = absurd (cc)
    by true (Some vs) e = let same : ◌≡◌ {A = Route} (record { name = k; values = vs }) r = cc in sym (ap (λ q. q.name) same)
    by false o e = absurd (cc)

chosen : (parts : List (List ℕ)) (r : Route) (ks : List RouteName) → list_all is_good ks ≡ true → first_some (λ k. route_by k parts) ks ≡ Some r → Chosen parts r
chosen parts r [] h e = absurd (cc)
chosen parts r (k ∷ ks) h e = by (route_by k parts) refl (λ f. chosen parts r ks (and_parts (is_good k) (list_all is_good ks) h).1 f) e
  where
    by : (o : Option Route) → route_by k parts ≡ o → (first_some (λ k. route_by k parts) ks ≡ Some r → Chosen parts r) → option_or o (first_some (λ k. route_by k parts) ks) ≡ Some r → Chosen parts r
    by None f later e = later e
    by (Some q) f later e =
        let same : q ≡ r = cc in
        let found : route_by k parts ≡ Some r = f ∙ ap Some same in
        let name = by_name k parts r found in
        record { good = ap is_good name ∙ (and_parts (is_good k) (list_all is_good ks) h).0; is = ap (λ n. route_by n parts) name ∙ found }

-- a path with the word of a pattern and these values
record Shaped (k : RouteName) (t : List ℕ) (vs : List (List ℕ)) : Type 0 where
  after : List ℕ
  parts : List (List ℕ)
  text : t ≡ (pattern_of k).word ++ after
  follows : Follows after parts
  is : values (pattern_of k).parameters (pattern_of k).rest parts ≡ Some vs

values_are : (k : RouteName) (word : List ℕ) (parts : List (List ℕ)) (r : Route) → route_by k (word ∷ parts) ≡ Some r → (word ≡ (pattern_of k).word) × (values (pattern_of k).parameters (pattern_of k).rest parts ≡ Some r.values)
values_are k word parts r e = by (bytes_eq word (pattern_of k).word) refl (values (pattern_of k).parameters (pattern_of k).rest parts) e
  where
    by : (v : Bool) → bytes_eq word (pattern_of k).word ≡ v → (o : Option (List (List ℕ))) → cond v (option_map (λ vs. record { name = k; values = vs }) o) None ≡ Some r → (word ≡ (pattern_of k).word) × (o ≡ Some r.values)
    by true f None e = absurd (cc)
    by true f (Some vs) e = let same : ◌≡◌ {A = Route} (record { name = k; values = vs }) r = cc in ((bytes_eq-Decides word (pattern_of k).word).0 f, ap (λ q. Some q.values) same)
    by false f o e = absurd (cc)

shaped : (t : List ℕ) (parts : List (List ℕ)) (r : Route) → Split t parts → route_by r.name parts ≡ Some r → Shaped r.name t r.values
shaped _ _ r (whole s p) e =
    let is = values_are r.name s [] r e in
    record { after = []; parts = []; text = is.0 ∙ sym (append_none (pattern_of r.name).word); follows = ends; is = is.1 }
  where
    append_none : (w : List ℕ) → w ++ [] ≡ w
    append_none [] = refl
    append_none (b ∷ w) = ap (λ z. b ∷ z) (append_none w)
shaped _ _ r (cut s u a more p rest) e =
    let is = values_are r.name s (a ∷ more) r e in
    record { after = 47 ∷ u; parts = a ∷ more; text = ap (λ w. w ++ 47 ∷ u) is.0; follows = goes u a more rest; is = is.1 }

IsText-plain : (w : List ℕ) → is_plain w ≡ true → IsText w
IsText-plain [] e = tt
IsText-plain (b ∷ w) e =
    let parts = and_parts (ltb b 256) (not (nat_eq b 47) && is_plain w) e in
    (ltb-true b 256 parts.0, IsText-plain w (and_parts (not (nat_eq b 47)) (is_plain w) parts.1).1)

drop-word : (w x : List ℕ) → drop (length w + 1) (47 ∷ (w ++ x)) ≡ x
drop-word w x = ap (λ n. drop n (47 ∷ (w ++ x))) (suc_is (length w)) ∙ drop-append_seam w x
  where
    suc_is : (n : ℕ) → n + 1 ≡ suc n
    suc_is n = omega arith

names-all : (ns : List (List ℕ)) (r : Option (List ℕ)) → ns ++ option_to_list r ≡ all_names ns r
names-all [] None = refl
names-all [] (Some n) = refl
names-all (n ∷ ns) r = ap (λ l. n ∷ l) (names-all ns r)

-- ---- what the router finds

IsText-from : (path : List ℕ) → ((i : ℕ) → Fits w8 (get_or path i 0)) → IsText path
IsText-from [] h = tt
IsText-from (b ∷ path) h = (omega (arith, h 0), IsText-from path (λ i. h (suc i)))

-- the entry that a match is of
abbrev pub match_of : RouteName → Params → RouteOf RouteName
match_of name params = record { pattern = params.pattern.now; text = params.text.now; names = params.names.now; value = name }

-- a match of a path is of the path's route
pub record Matches (path : List ℕ) (name : RouteName) (params : Params) : Type 0 where
  pub is : route_of path ≡ Some (route_taken name (taken params))
  pub takes : Takes name params

slash_first : (b : ℕ) (t : List ℕ) → is_target (b ∷ t) ≡ true → (b ≡ 47) × IsUtf8 (b ∷ t)
slash_first b t h =
    let parts = and_parts (starts_with nat_eq (b ∷ t) (codes "/")) (is_utf8 (b ∷ t)) h in
    let front = and_parts (nat_eq 47 b) true parts.0 in
    (sym (eqb-true 47 b front.0), IsUtf8-from_is_utf8 (b ∷ t) parts.1)

text_after_word : (w after : List ℕ) (parts : List (List ℕ)) → Follows after parts → IsUtf8 (47 ∷ (w ++ after)) → IsUtf8 after
text_after_word w _ _ ends h = IsUtf8-nil
text_after_word w _ _ (goes u a more split) h = slash_text u (before_slash (47 ∷ w) u h).1

abbrev all_of : RouteName → List (List ℕ)
all_of k = all_names (pattern_of k).parameters (pattern_of k).rest

record Walks (r : Route) (t : List ℕ) : Type 0 where
  pairs : walk (tokens (pattern_of r.name)) (rows.text_of (pattern_of r.name)) (47 ∷ t) (places (pattern_of r.name)) 0 0 ≡ zipped (all_of r.name) r.values
  taking : Taking (all_of r.name) r.values
  distinct : are_distinct (all_of r.name) ≡ true

walks : (r : Route) (t : List ℕ) → Chosen (elements t) r → IsText t → IsUtf8 (47 ∷ t) → Walks r t
walks r t c text utf8 =
    let p = pattern_of r.name in
    let s = shaped t (elements t) r (split t text) c.is in
    let plain = and_parts (is_plain p.word) (ltb (length (tokens p)) 1000 && (list_all is_utf8 (all_of r.name) && are_distinct (all_of r.name))) c.good in
    let small = and_parts (ltb (length (tokens p)) 1000) (list_all is_utf8 (all_of r.name) && are_distinct (all_of r.name)) plain.1 in
    let named = and_parts (list_all is_utf8 (all_of r.name)) (are_distinct (all_of r.name)) small.1 in
    record {
      pairs =
          walked p.parameters p.rest (tokens p) (rows.text_of p) (47 ∷ t) 0 0 (length p.word + 1) (47 ∷ p.word) s.after s.parts r.values
          (ltb-true (length (tokens p)) 1000 small.0) refl (omega arith, IsText-plain p.word plain.0) (ap (λ z. 47 ∷ z) s.text) s.follows s.is
          ∙ named-zipped p.parameters p.rest (rows.text_of p) (length p.word + 1) r.values (drop-word p.word (text_after p.parameters p.rest));
      taking = taking p.parameters p.rest s.after s.parts r.values s.follows (text_after_word p.word s.after s.parts s.follows (subst (λ z. IsUtf8 (47 ∷ z)) s.text utf8)) named.0 s.is;
      distinct = named.1;
    }

matching : (t : List ℕ) (name : RouteName) (params : Params) → IsText t → IsUtf8 (47 ∷ t) → (o : Option Route) → route_of (47 ∷ t) ≡ o
    → first table (47 ∷ t) ≡ Some (match_of name params) → params.path.now ≡ 47 ∷ t → Matches (47 ∷ t) name params
matching t name params text utf8 None e found path = absurd (let none = first-table t text in cc)
matching t name params text utf8 (Some r) e found path =
    let same : entry_of r.name ≡ match_of name params = (let row = first-table t text in cc) in
    let is : r.name ≡ name = ap (λ z. z.value) same in
    let w = walks r t (chosen (elements t) r order good e) text utf8 in
    let all : taken params ≡ zipped (all_of r.name) r.values =
    rw (sym (ap (λ z. z.pattern) same), sym (ap (λ z. z.text) same), sym (ap (λ z. z.names) same), path) w.pairs in
    let names_are : names (pattern_of r.name) ≡ all_of r.name = names-all (pattern_of r.name).parameters (pattern_of r.name).rest in
    let values_are : map (part_of (taken params)) (names (pattern_of r.name)) ≡ r.values = (λ i. map (part_of (all i)) (names_are i)) ∙ values_of (all_of r.name) r.values w.distinct w.taking.many in
    let route : r ≡ route_taken r.name (taken params) = ap (λ vs. record { name = r.name; values = vs }) (sym values_are) in
    let there : AreThere (names (pattern_of r.name)) (taken params) = subst (λ ns. AreThere ns (taken params)) (sym names_are) (subst (AreThere (all_of r.name)) (sym all) (all_there (all_of r.name) r.values w.distinct w.taking.many)) in
    record {
      is = e ∙ ap Some (route ∙ ap (λ n. route_taken n (taken params)) is);
      takes = record { there = subst (λ n. AreThere (names (pattern_of n)) (taken params)) is there; text = subst AllText (sym all) w.taking.text };
    }

at_slash : (b : ℕ) (t : List ℕ) (name : RouteName) (params : Params) → is_target (b ∷ t) ≡ true → IsText t
    → first table (b ∷ t) ≡ Some (match_of name params) → params.path.now ≡ b ∷ t → Matches (b ∷ t) name params
at_slash b t name params h text found same =
    let begins = slash_first b t h in
    let P : ℕ → Type 0 = λ z. IsUtf8 (z ∷ t) → first table (z ∷ t) ≡ Some (match_of name params) → params.path.now ≡ z ∷ t → Matches (z ∷ t) name params in
    subst P (sym begins.0) (λ utf8 f e. matching t name params text utf8 (route_of (47 ∷ t)) refl f e) begins.1 found same

pub matches : (rs : RowsOf (RouteOf RouteName)) (path : List ℕ) (name : RouteName) (params : Params) → rs ≡ table → is_target path ≡ true → ((i : ℕ) → Fits w8 (get_or path i 0))
    → first rs path ≡ Some (match_of name params) → params.path.now ≡ path → Matches path name params
matches rs [] name params e h bytes found same = absurd (cc)
matches rs (b ∷ t) name params e h bytes found same =
    at_slash b t name params h (IsText-from t (λ i. bytes (suc i))) (ap (λ r. first r (b ∷ t)) (sym e) ∙ found) same

nothing_found : {K : Type 0} (o : Option K) (k : K) → o ≡ None → o ≡ Some k → ⊥
nothing_found o k none some = let both : None ≡ Some k = sym none ∙ some in cc

none_found : (t : List ℕ) → IsText t → (o : Option Route) → route_of (47 ∷ t) ≡ o → first table (47 ∷ t) ≡ None → o ≡ None
none_found t text None e found = refl
none_found t text (Some r) e found = absurd (nothing_found (first table (47 ∷ t)) (entry_of r.name) found (first-table t text ∙ ap (option_map (λ q. entry_of q.name)) e))

-- that it finds nothing
pub unmatched : (rs : RowsOf (RouteOf RouteName)) (path : List ℕ) → rs ≡ table → is_target path ≡ true → ((i : ℕ) → Fits w8 (get_or path i 0)) → first rs path ≡ None → route_of path ≡ None
unmatched rs [] e h bytes found = refl
unmatched rs (b ∷ t) e h bytes found =
    let P : ℕ → Type 0 = λ z. first table (z ∷ t) ≡ None → route_of (z ∷ t) ≡ None in
    subst P (sym (slash_first b t h).0) (λ f. none_found t (IsText-from t (λ i. bytes (suc i))) (route_of (47 ∷ t)) refl f) (ap (λ r. first r (b ∷ t)) (sym e) ∙ found)
