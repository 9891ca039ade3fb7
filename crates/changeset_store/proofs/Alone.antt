-- No other changeset is known by an id, and what that says of collisions.
use Rattle.std.proofs.Common.{◌≡◌, ℕ, ◌+◌, ◌<◌, ◌≤◌, Bool, true, false, cond, not, ◌||◌, List, [], ◌∷◌, ◌++◌, map, length, take, drop, drop-cons, add-one, get_or, refl, sym, ap, subst, ◌∙◌}
use Rattle.std.specs.Prelude.{◌&&◌, filter, find, bytes_eq, Option, None, Some, option_map}
use Rattle.std.specs.List.{AllByRecursion}
use Rattle.std.specs.Borrow.{Bor}
use mathlib.Core.Bool.{true≢false}
use Rattle.std.proofs.Math.Seq.{take-suc}
use Rattle.std.proofs.lemmas.List.{append_assoc, map-append, drop_all}
use Rattle.std.proofs.lemmas.List.Folds.{list_any-append}
use Rattle.std.proofs.lemmas.Slice.Eq.{bytes_eq-Decides}
use Rattle.byte_fields.specs.Bytes.{Id}
use Rattle.byte_fields.proofs.Lists.{weaker}
use Rattle.changeset_model.specs.Changeset.{Changeset, id_of, spelling, is_changeset}
use Rattle.changeset_model.proofs.Spelling.{one_spelling}
use Rattle.bonsai.specs.Equal.{changeset_eq, changeset_eq-Decides}
use Rattle.history_model.specs.History.{Known, with_id, each_id_once, changeset_of}
use Rattle.reply_model.specs.Reply.{collides, first_collision}
use Rattle.reply_model.proofs.Parents.{same_id}
use Rattle.history_model.proofs.Landings.{or_left}
use Rattle.changeset_store.specs.Grown.{IsAlone, AreAlone, with_known}
use Rattle.byte_fields.proofs.Booleans.{not_false as same_by}

-- ---- one changeset for each id

abbrev pub IsOnce : List Known → Type 0
IsOnce ks = each_id_once ks ≡ ks

abbrev HasId : Id → List Known → Known → Type 0
HasId x ks k = bytes_eq k.id x ≡ true → find (λ k. bytes_eq k.id x) ks ≡ Some k

find_left_by : (y x : Id) (z : Known) (rest zs : List Known) → bytes_eq y x ≡ false → find (λ k. bytes_eq k.id x) rest ≡ find (λ k. bytes_eq k.id x) zs → (b : Bool) → bytes_eq y z.id ≡ b → find (λ k. bytes_eq k.id x) (cond (not b) (z ∷ rest) rest) ≡ cond (bytes_eq z.id x) (Some z) (find (λ k. bytes_eq k.id x) zs)
find_left_by y x z rest zs apart ih true same =
    let other : bytes_eq z.id x ≡ false = ap (λ a. bytes_eq a x) (sym ((bytes_eq-Decides y z.id).0 same)) ∙ apart in
    ih ∙ ap (λ b. cond b (Some z) (find (λ k. bytes_eq k.id x) zs)) (sym other)
find_left_by y x z rest zs apart ih false same = ap (λ o. cond (bytes_eq z.id x) (Some z) o) ih

-- leaving out one id keeps what is found under others
find_left : (y x : Id) (zs : List Known) → bytes_eq y x ≡ false → find (λ k. bytes_eq k.id x) (filter (λ later. not (bytes_eq y later.id)) zs) ≡ find (λ k. bytes_eq k.id x) zs
find_left y x [] apart = refl
find_left y x (z ∷ zs) apart = find_left_by y x z (filter (λ later. not (bytes_eq y later.id)) zs) zs apart (find_left y x zs apart) (bytes_eq y z.id) refl

all_left_by : (P : Known → Type 0) (z : Known) (rest : List Known) → P z → AllByRecursion P rest → (b : Bool) → AllByRecursion P (cond b (z ∷ rest) rest)
all_left_by P z rest here later true = (here, later)
all_left_by P z rest here later false = later

all_left : (P : Known → Type 0) (q : Known → Bool) (zs : List Known) → AllByRecursion P zs → AllByRecursion P (filter q zs)
all_left P q [] all = tt
all_left P q (z ∷ zs) all = all_left_by P z (filter q zs) all.0 (all_left P q zs all.1) (q z)

others_by : (y : Id) (z : Known) (rest : List Known) → AllByRecursion (λ k. bytes_eq y k.id ≡ false) rest → (b : Bool) → bytes_eq y z.id ≡ b → AllByRecursion (λ k. bytes_eq y k.id ≡ false) (cond (not b) (z ∷ rest) rest)
others_by y z rest later true e = later
others_by y z rest later false e = (e, later)

others_left : (y : Id) (zs : List Known) → AllByRecursion (λ k. bytes_eq y k.id ≡ false) (filter (λ later. not (bytes_eq y later.id)) zs)
others_left y [] = tt
others_left y (z ∷ zs) = others_by y z (filter (λ later. not (bytes_eq y later.id)) zs) (others_left y zs) (bytes_eq y z.id) refl

found_by : (x : Id) (j : Known) (es : List Known) → AllByRecursion (HasId x es) es → (b : Bool) → bytes_eq j.id x ≡ b → AllByRecursion (λ k. bytes_eq k.id x ≡ true → cond b (Some j) (find (λ k. bytes_eq k.id x) (filter (λ later. not (bytes_eq j.id later.id)) es)) ≡ Some k) (j ∷ filter (λ later. not (bytes_eq j.id later.id)) es)
found_by x j es ih true e = (
  (λ _. refl),
  weaker (λ k. bytes_eq j.id k.id ≡ false) (λ k. bytes_eq k.id x ≡ true → Some j ≡ Some k)
      (λ k apart has. absurd (true≢false (sym ((bytes_eq-Decides j.id k.id).1 ((bytes_eq-Decides j.id x).0 e ∙ sym ((bytes_eq-Decides k.id x).0 has))) ∙ apart)))
      (filter (λ later. not (bytes_eq j.id later.id)) es) (others_left j.id es),
)
found_by x j es ih false e = (
  (λ has. absurd (true≢false (sym has ∙ e))),
  all_left (λ k. bytes_eq k.id x ≡ true → find (λ k. bytes_eq k.id x) (filter (λ later. not (bytes_eq j.id later.id)) es) ≡ Some k) (λ later. not (bytes_eq j.id later.id)) es
      (weaker (HasId x es) (λ k. bytes_eq k.id x ≡ true → find (λ k. bytes_eq k.id x) (filter (λ later. not (bytes_eq j.id later.id)) es) ≡ Some k) (λ k found has. find_left j.id x es e ∙ found has) es ih),
)

found_once : (x : Id) (js : List Known) → AllByRecursion (HasId x (each_id_once js)) (each_id_once js)
found_once x [] = tt
found_once x (j ∷ js) = found_by x j (each_id_once js) (found_once x js) (bytes_eq j.id x) refl

found_in : (ks : List Known) (x : Id) → IsOnce ks → AllByRecursion (HasId x ks) ks
found_in ks x once = subst (λ ks. AllByRecursion (HasId x ks) ks) once (found_once x ks)

-- ---- alone

same_changeset : (ks : List Known) (x : Id) (c : Changeset) (k : Known) → changeset_of ks x ≡ Some c → find (λ k. bytes_eq k.id x) ks ≡ Some k → k.changeset ≡ c
same_changeset ks x c k is found = let e : ◌≡◌ {A = Option Changeset} (Some k.changeset) (Some c) = sym (ap (option_map (λ k. k.changeset)) found) ∙ is in cc

pub alone_known : (ks : List Known) (c d : Changeset) (x : Id) → x ≡ id_of c → IsOnce ks → changeset_of ks x ≡ Some d → d ≡ c → IsAlone ks c
alone_known ks c d x x_is once is same =
    weaker (HasId x ks) (λ k. k.id ≡ id_of c → k.changeset ≡ c)
    (λ k found has. same_changeset ks x d k is (found ((bytes_eq-Decides k.id x).1 (has ∙ sym x_is))) ∙ same) ks (found_in ks x once)

none_by : (x : Id) (k : Known) (b : Bool) (o : Option Known) → bytes_eq k.id x ≡ b → option_map (λ k. k.changeset) (cond b (Some k) o) ≡ None → (bytes_eq k.id x ≡ false) × (option_map (λ k. k.changeset) o ≡ None)
none_by x k true o e none = absurd cc
none_by x k false o e none = (e, none)

pub alone_unknown : (ks : List Known) (c : Changeset) (x : Id) → x ≡ id_of c → changeset_of ks x ≡ None → IsAlone ks c
alone_unknown [] c x x_is none = tt
alone_unknown (k ∷ ks) c x x_is none =
    let both = none_by x k (bytes_eq k.id x) (find (λ k. bytes_eq k.id x) ks) refl none in
    ((λ has. absurd (true≢false (sym ((bytes_eq-Decides k.id x).1 (has ∙ sym x_is)) ∙ both.0))), alone_unknown ks c x x_is both.1)

-- ---- collisions

no_other_by : (k : Known) (c : Changeset) (rest : Bool) → rest ≡ false → (b : Bool) → bytes_eq k.id (id_of c) ≡ b → (k.id ≡ id_of c → k.changeset ≡ c) → ((b && not (bytes_eq (spelling k.changeset) (spelling c))) || rest) ≡ false
no_other_by k c rest later false e alone = later
no_other_by k c rest later true e alone =
    let spelled : bytes_eq (spelling k.changeset) (spelling c) ≡ true = ap (λ d. bytes_eq (spelling d) (spelling c)) (alone ((bytes_eq-Decides k.id (id_of c)).0 e)) ∙ same_id (spelling c) in
    (λ i. not (spelled i) || later i)

pub collides_alone : (ks : List Known) (c : Changeset) → IsAlone ks c → collides ks c ≡ false
collides_alone [] c alone = refl
collides_alone (k ∷ ks) c alone = no_other_by k c (collides ks c) (collides_alone ks c alone.1) (bytes_eq k.id (id_of c)) refl alone.0

other_by : (c d : Changeset) (k : Known) (rest : Bool) (b : Bool) (o : Option Known) → (option_map (λ k. k.changeset) o ≡ Some d → rest ≡ true) → option_map (λ k. k.changeset) (cond b (Some k) o) ≡ Some d → bytes_eq (spelling d) (spelling c) ≡ false → ((b && not (bytes_eq (spelling k.changeset) (spelling c))) || rest) ≡ true
other_by c d k rest true o later e apart =
    let same : k.changeset ≡ d = cc in
    (λ i. not (bytes_eq (spelling (same i)) (spelling c)) || rest) ∙ (λ i. not (apart i) || rest)
other_by c d k rest false o later e apart = later e

pub collides_other : (ks : List Known) (c d : Changeset) (x : Id) → x ≡ id_of c → changeset_of ks x ≡ Some d → bytes_eq (spelling d) (spelling c) ≡ false → collides ks c ≡ true
collides_other ks c d x x_is e apart = subst (λ y. changeset_of ks y ≡ Some d → collides ks c ≡ true) (sym x_is) (by ks) e
  where
    by : (ks : List Known) → changeset_of ks (id_of c) ≡ Some d → collides ks c ≡ true
    by [] e = absurd cc
    by (k ∷ ks) e = other_by c d k (collides ks c) (bytes_eq k.id (id_of c)) (find (λ k. bytes_eq k.id (id_of c)) ks) (by ks) e apart

-- ---- some before

pub alone_append : (ks js : List Known) (c : Changeset) → IsAlone ks c → IsAlone js c → IsAlone (ks ++ js) c
alone_append [] js c left right = right
alone_append (k ∷ ks) js c left right = (left.0, alone_append ks js c left.1 right)

pub collides_left : (ks js : List Known) (c : Changeset) → collides ks c ≡ true → collides (ks ++ js) c ≡ true
collides_left ks js c e = list_any-append (λ k. bytes_eq k.id (id_of c) && not (bytes_eq (spelling k.changeset) (spelling c))) ks js ∙ or_left (collides ks c) (collides js c) e

pub collides_right : (ks js : List Known) (c : Changeset) (found : Bool) → collides ks c ≡ false → found ≡ collides js c → found ≡ collides (ks ++ js) c
collides_right ks js c found left e = e ∙ ap (λ b. b || collides js c) (sym left) ∙ sym (list_any-append (λ k. bytes_eq k.id (id_of c) && not (bytes_eq (spelling k.changeset) (spelling c))) ks js)

module _ (ks : List Known) (c d : Changeset) (x : Id) (x_is : x ≡ id_of c) (once : IsOnce ks) (is : changeset_of ks x ≡ Some d) where
  pub collides_known : (same : Bool) → same ≡ bytes_eq (spelling d) (spelling c) → (same ≡ true → d ≡ c) → not same ≡ collides ks c
  collides_known true e one = sym (collides_alone ks c (alone_known ks c d x x_is once is (one refl)))
  collides_known false e one = sym (collides_other ks c d x x_is is (sym e))

  pub alone_same : (same : Bool) → (same ≡ true → d ≡ c) → not same ≡ false → IsAlone ks c
  alone_same true one e = alone_known ks c d x x_is once is (one refl)
  alone_same false one e = absurd cc

pub of_found : (ks : List Known) (x : Id) (found : Option (Bor Changeset)) (d : Bor Changeset) → option_map (λ c. c.now) found ≡ changeset_of ks x → found ≡ Some d → changeset_of ks x ≡ Some d.now
of_found ks x found d is some = sym is ∙ ap (option_map (λ c. c.now)) some

pub same_as : {c d l r : Changeset} {same : Bool} → same ≡ bytes_eq (spelling l) (spelling r) → l ≡ d → r ≡ c → same ≡ bytes_eq (spelling d) (spelling c)
same_as e l_is r_is = e ∙ (λ i. bytes_eq (spelling (l_is i)) (spelling (r_is i)))

-- ---- one encoding

pub one_if_same : (c d : Changeset) (t : Bool) → t ≡ changeset_eq c d → t ≡ true → c ≡ d
one_if_same c d t is e = (changeset_eq-Decides c d).0 (sym is ∙ e)

pub same_encoding : (c d : Changeset) → is_changeset c ≡ true → is_changeset d ≡ true → (t : Bool) → t ≡ changeset_eq c d → t ≡ bytes_eq (spelling c) (spelling d)
same_encoding c d c_rules d_rules true is = sym (ap (λ e. bytes_eq (spelling c) (spelling e)) (sym (one_if_same c d true is refl)) ∙ same_id (spelling c))
same_encoding c d c_rules d_rules false is = by (bytes_eq (spelling c) (spelling d)) refl
  where
    by : (b : Bool) → bytes_eq (spelling c) (spelling d) ≡ b → false ≡ bytes_eq (spelling c) (spelling d)
    by false e = sym e
    by true e = absurd (true≢false (sym ((changeset_eq-Decides c d).1 (one_spelling c d c_rules d_rules ((bytes_eq-Decides (spelling c) (spelling d)).0 e))) ∙ sym is))

-- ---- one after another

module _ (xs : List Changeset) (i : ℕ) (x : Changeset) (below : i < length xs) (is : x ≡ get_or xs i x) where
  pub next_left : drop i xs ≡ x ∷ drop (i + 1) xs
  next_left = drop-cons xs i x below ∙ (λ j. sym is j ∷ drop (sym (add-one i) j) xs)

  pub next_taken : take (i + 1) xs ≡ take i xs ++ x ∷ []
  next_taken = (λ j. take (add-one i j) xs) ∙ take-suc xs i x below ∙ (λ j. take i xs ++ sym is j ∷ [])

  module _ (c : Changeset) where
    left_as : collides (map with_id (drop i xs)) c ≡ collides (with_id x ∷ map with_id (drop (i + 1) xs)) c
    left_as = ap (λ xs. collides (map with_id xs) c) next_left

    pub other_here : bytes_eq (id_of x) (id_of c) ≡ true → false ≡ bytes_eq (spelling x) (spelling c) → collides (map with_id (drop i xs)) c ≡ true
    other_here same apart = left_as ∙ (λ j. (same j && not (sym apart j)) || collides (map with_id (drop (i + 1) xs)) c)

    pub none_here : IsAlone (with_id x ∷ []) c → collides (map with_id (drop i xs)) c ≡ collides (map with_id (drop (i + 1) xs)) c
    none_here alone = left_as ∙ here (bytes_eq (id_of x) (id_of c)) refl
      where
        here : (b : Bool) → bytes_eq (id_of x) (id_of c) ≡ b → ((b && not (bytes_eq (spelling x) (spelling c))) || collides (map with_id (drop (i + 1) xs)) c) ≡ collides (map with_id (drop (i + 1) xs)) c
        here true e = (λ j. not ((ap (λ d. bytes_eq (spelling d) (spelling c)) (alone.0 ((bytes_eq-Decides (id_of x) (id_of c)).0 e)) ∙ same_id (spelling c)) j) || collides (map with_id (drop (i + 1) xs)) c)
        here false e = refl

    pub alone_here : IsAlone (with_id x ∷ []) c → IsAlone (map with_id (drop (i + 1) xs)) c → IsAlone (map with_id (drop i xs)) c
    alone_here alone later = subst (λ xs. IsAlone (map with_id xs) c) (sym next_left) (alone.0, later)

pub alone_apart : (x c : Changeset) → (id_of x ≡ id_of c → ⊥) → IsAlone (with_id x ∷ []) c
alone_apart x c apart = ((λ same. absurd (apart same)), tt)

pub alone_one : (x c : Changeset) → x ≡ c → IsAlone (with_id x ∷ []) c
alone_one x c same = ((λ _. same), tt)

-- ---- the new ones in turn

first_by : (ks : List Known) (c : Changeset) (cs : List Changeset) (found : Bool) → collides ks c ≡ found → first_collision ks (c ∷ cs) ≡ cond found (Some (id_of c)) (first_collision (ks ++ with_id c ∷ []) cs)
first_by ks c cs found e = ap (λ b. cond b (Some (id_of c)) (first_collision (ks ++ with_id c ∷ []) cs)) e

module _ (ks : List Known) (new : List Changeset) (i : ℕ) (c : Changeset) (below : i < length new) (is : c ≡ get_or new i c) where
  one_more : with_known ks (take (i + 1) new) ≡ with_known ks (take i new) ++ with_id c ∷ []
  one_more = ap (with_known ks) (next_taken new i c below is) ∙ ap (λ (js : List Known). ks ++ js) (map-append with_id (take i new) (c ∷ [])) ∙ sym (append_assoc ks (map with_id (take i new)) (with_id c ∷ []))

  pub collision_here : collides (with_known ks (take i new)) c ≡ true → first_collision (with_known ks (take i new)) (drop i new) ≡ Some (id_of c)
  collision_here e = ap (first_collision (with_known ks (take i new))) (next_left new i c below is) ∙ first_by (with_known ks (take i new)) c (drop (i + 1) new) true e

  pub none_so_far : collides (with_known ks (take i new)) c ≡ false → first_collision (with_known ks (take (i + 1) new)) (drop (i + 1) new) ≡ first_collision (with_known ks (take i new)) (drop i new)
  none_so_far e =
      ap (λ js. first_collision js (drop (i + 1) new)) one_more
      ∙ sym (ap (first_collision (with_known ks (take i new))) (next_left new i c below is) ∙ first_by (with_known ks (take i new)) c (drop (i + 1) new) false e)

  pub alone_so_far : IsAlone (with_known ks (take i new)) c → AreAlone (with_known ks (take (i + 1) new)) (drop (i + 1) new) → AreAlone (with_known ks (take i new)) (drop i new)
  alone_so_far alone later = subst (AreAlone (with_known ks (take i new))) (sym (next_left new i c below is)) (alone, subst (λ js. AreAlone js (drop (i + 1) new)) one_more later)

pub none_left : (ks : List Known) (new : List Changeset) (i : ℕ) → length new ≤ i → first_collision (with_known ks (take i new)) (drop i new) ≡ None
none_left ks new i past = ap (first_collision (with_known ks (take i new))) (drop_all i new past)

pub alone_left : (ks : List Known) (new : List Changeset) (i : ℕ) → length new ≤ i → AreAlone (with_known ks (take i new)) (drop i new)
alone_left ks new i past = subst (AreAlone (with_known ks (take i new))) (sym (drop_all i new past)) tt

pub no_others : (xs : List Changeset) (i : ℕ) (c : Changeset) → length xs ≤ i → collides (map with_id (drop i xs)) c ≡ false
no_others xs i c past = ap (λ xs. collides (map with_id xs) c) (drop_all i xs past)

pub alone_past : (xs : List Changeset) (i : ℕ) (c : Changeset) → length xs ≤ i → IsAlone (map with_id (drop i xs)) c
alone_past xs i c past = subst (λ xs. IsAlone (map with_id xs) c) (sym (drop_all i xs past)) tt

-- ---- a test of two ids

differ_by : (a b : List ℕ) (t : Bool) → t ≡ not (bytes_eq a b) → t ≡ true → a ≡ b → ⊥
differ_by a b t e differ same = true≢false (sym differ ∙ e ∙ ap not ((bytes_eq-Decides a b).1 same))

pub apart_ids : {a b x y : Id} {t : Bool} → a ≡ x → b ≡ y → t ≡ not (bytes_eq a b) → t ≡ true → x ≡ y → ⊥
apart_ids {a = a} {b = b} {t = t} a_is b_is e differ same = differ_by a b t e differ (a_is ∙ same ∙ sym b_is)

pub same_id_of : {a b x y : Id} {t : Bool} → a ≡ x → b ≡ y → t ≡ not (bytes_eq a b) → t ≡ false → bytes_eq x y ≡ true
same_id_of {a = a} {b = b} a_is b_is e differ = (λ i. bytes_eq (sym a_is i) (sym b_is i)) ∙ same_by (bytes_eq a b) (sym e ∙ differ)
