-- New changesets become known one by one, and have their numbers.
use Rattle.std.proofs.Common.{◌≡◌, ℕ, ◌<◌, zero, suc, Bool, true, false, cond, List, [], ◌∷◌, ◌++◌, map, length, refl, sym, ap, subst, ◌∙◌, arith, get_or, length-append}
use Rattle.std.specs.Prelude.{bytes_eq, Some, Contains}
use Rattle.std.specs.List.{AllByRecursion}
use Rattle.std.proofs.lemmas.List.{append_assoc, append-nil, map-append}
use Rattle.std.proofs.lemmas.List.Quantifiers.{position-Some}
use Rattle.std.proofs.lemmas.Slice.Eq.{bytes_eq-Decides}
use Rattle.byte_fields.specs.Bytes.{Id}
use Rattle.byte_fields.proofs.Lists.{weaker, each_of, all_push, both_parts}
use Rattle.changeset_model.specs.Changeset.{Changeset, id_of}
use Rattle.history_model.specs.History.{Known, with_id, is_known}
use Rattle.history_model.specs.Pushrebase.{rewrite, on_parent}
use Rattle.reply_model.proofs.Parents.{known_last}
use Rattle.changeset_store.specs.Store.{changeset_at, known_at, number_in}
use Rattle.changeset_store.proofs.Places.{changeset_at-append, changeset_at-last, known_at-changeset}
use Rattle.changeset_store.specs.Grown.{IsAlone, AreAlone, with_known, adding_one, adding, CanAdd}
use Rattle.byte_fields.proofs.Lists.{all_both}

-- ---- one

all_at : (P : Known → Type 0) (ks : List Known) (n : ℕ) → n < length ks → AllByRecursion P ks → P (known_at ks n)
all_at P [] n below all = absurd (omega arith)
all_at P (k ∷ ks) zero below all = all.0
all_at P (k ∷ ks) (suc n) below all = all_at P ks n (omega arith) all.1

one_known : (ks : List Known) (c : Changeset) (there : Bool) → is_known ks (id_of c) ≡ there → adding_one ks c ≡ cond there ks (ks ++ with_id c ∷ [])
one_known ks c there e = ap (λ b. cond b ks (ks ++ with_id c ∷ [])) e

pub adds_none : (ks : List Known) (c : Changeset) → is_known ks (id_of c) ≡ true → adding_one ks c ≡ ks
adds_none ks c e = one_known ks c true e

pub adds_it : (ks : List Known) (c : Changeset) → is_known ks (id_of c) ≡ false → adding_one ks c ≡ ks ++ with_id c ∷ []
adds_it ks c e = one_known ks c false e

at_place : (ks : List Known) (n : ℕ) (d : Known) → n < length ks → known_at ks n ≡ get_or ks n d
at_place [] n d below = absurd (omega arith)
at_place (k ∷ ks) zero d below = refl
at_place (k ∷ ks) (suc n) d below = at_place ks n d (omega arith)

-- the one that is known by the id
pub number_known : (ks : List Known) (c : Changeset) (n : ℕ) (x : Id) → number_in ks x ≡ Some n → x ≡ id_of c → IsAlone ks c → changeset_at ks n ≡ c
number_known ks c n x e x_is alone =
    let found = position-Some (λ k. bytes_eq k.id x) ks n (with_id c) e in
    let has : (known_at ks n).id ≡ id_of c = ap (λ (k : Known). k.id) (at_place ks n (with_id c) found.0) ∙ (bytes_eq-Decides (get_or ks n (with_id c)).id x).0 found.1 ∙ x_is in
    sym (known_at-changeset ks n) ∙ all_at (λ k. k.id ≡ id_of c → k.changeset ≡ c) ks n found.0 alone has

pub number_new : (ks after : List Known) (c : Changeset) (n : ℕ) → after ≡ ks ++ with_id c ∷ [] → n ≡ length ks → changeset_at after n ≡ c
number_new ks after c n grows n_is = (λ i. changeset_at (grows i) (n_is i)) ∙ changeset_at-last ks c

-- ---- all of them

pub adds_some : (ks : List Known) (c : Changeset) → (more : List Known) × (adding_one ks c ≡ ks ++ more)
adds_some ks c = by (is_known ks (id_of c)) refl
  where
    by : (there : Bool) → is_known ks (id_of c) ≡ there → (more : List Known) × (adding_one ks c ≡ ks ++ more)
    by true e = ([], adds_none ks c e ∙ sym (append-nil ks))
    by false e = (with_id c ∷ [], adds_it ks c e)

numbers_stay : (ks more : List Known) (ns : List ℕ) → AllByRecursion (λ n. n < length ks) ns → map (changeset_at (ks ++ more)) ns ≡ map (changeset_at ks) ns
numbers_stay ks more [] within = refl
numbers_stay ks more (n ∷ ns) within = (λ i. changeset_at-append ks more n within.0 i ∷ numbers_stay ks more ns within.1 i)

module _ (ks after : List Known) (c : Changeset) (grows : after ≡ adding_one ks c) (ns : List ℕ) (within : AllByRecursion (λ n. n < length ks) ns) (n : ℕ) (ns' : List ℕ) (noted : ns' ≡ ns ++ n ∷ []) where
  grown : after ≡ ks ++ (adds_some ks c).0
  grown = grows ∙ (adds_some ks c).1

  pub numbers_noted : (rest new : List Changeset) → changeset_at after n ≡ c → map (changeset_at ks) ns ++ c ∷ rest ≡ new → map (changeset_at after) ns' ++ rest ≡ new
  numbers_noted rest new is all =
      let stay : map (changeset_at after) ns ≡ map (changeset_at ks) ns = ap (λ ks. map (changeset_at ks) ns) grown ∙ numbers_stay ks (adds_some ks c).0 ns within in
      (λ i. map (changeset_at after) (noted i) ++ rest)
      ∙ ap (λ (cs : List Changeset). cs ++ rest) (map-append (changeset_at after) ns (n ∷ []))
      ∙ (λ i. (stay i ++ is i ∷ []) ++ rest)
      ∙ append_assoc (map (changeset_at ks) ns) (c ∷ []) rest
      ∙ all

  pub within_noted : n < length after → AllByRecursion (λ n. n < length after) ns'
  within_noted below =
      let len = ap length grown ∙ length-append ks (adds_some ks c).0 in
      subst (AllByRecursion (λ n. n < length after)) (sym noted)
      (all_push (λ n. n < length after) ns n (weaker (λ m. m < length ks) (λ m. m < length after) (λ m fits. omega arith) ns within) below)

-- ---- a rewritten stack

all_one : (P : Known → Type 0) (ks : List Known) (c : Changeset) → AllByRecursion P ks → P (with_id c) → AllByRecursion P (adding_one ks c)
all_one P ks c all one = by (is_known ks (id_of c)) refl
  where
    by : (there : Bool) → is_known ks (id_of c) ≡ there → AllByRecursion P (adding_one ks c)
    by true e = subst (AllByRecursion P) (sym (adds_none ks c e)) all
    by false e = subst (AllByRecursion P) (sym (adds_it ks c e)) (all_push P ks (with_id c) all one)

known_now : (ks : List Known) (c : Changeset) → is_known (adding_one ks c) (id_of c) ≡ true
known_now ks c = by (is_known ks (id_of c)) refl
  where
    by : (there : Bool) → is_known ks (id_of c) ≡ there → is_known (adding_one ks c) (id_of c) ≡ true
    by true e = ap (λ ks. is_known ks (id_of c)) (adds_none ks c e) ∙ e
    by false e = ap (λ ks. is_known ks (id_of c)) (adds_it ks c e) ∙ known_last ks (with_id c)

can_by : (ks all : List Known) (stack : List Changeset) (head : Id) (moment : ℕ) → is_known ks head ≡ true → ((P : Known → Type 0) → AllByRecursion P all → AllByRecursion P ks) → AreAlone all (rewrite stack head moment) → CanAdd ks (rewrite stack head moment)
can_by ks all [] head moment there part alone = tt
can_by ks all (c ∷ cs) head moment there part alone =
    let new = on_parent head moment c in (
      record { parents = (there, tt); alone = part (λ k. k.id ≡ id_of new → k.changeset ≡ new) alone.0 },
      can_by (adding_one ks new) (all ++ with_id new ∷ []) cs (id_of new) moment (known_now ks new)
          (λ P each. (let both = both_parts P all (with_id new ∷ []) each in all_one P ks new (part P both.0) both.1.0)) alone.1,
    )

-- the parents of a rewritten stack are the head and those before
pub can_add : (ks : List Known) (stack : List Changeset) (head : Id) (moment : ℕ) → is_known ks head ≡ true → AreAlone ks (rewrite stack head moment) → CanAdd ks (rewrite stack head moment)
can_add ks stack head moment there alone = can_by ks ks stack head moment there (λ P each. each) alone

-- ---- no others by their ids

all_map : {X Y : Type 0} (f : X → Y) (P : Y → Type 0) (xs : List X) → AllByRecursion (λ x. P (f x)) xs → AllByRecursion P (map f xs)
all_map f P [] all = tt
all_map f P (x ∷ xs) all = (all.0, all_map f P xs all.1)

all_alone : (ks : List Known) (cs : List Changeset) → AreAlone ks cs → AllByRecursion (IsAlone (with_known ks cs)) cs
all_alone ks [] alone = tt
all_alone ks (c ∷ cs) alone =
    let later : AllByRecursion (IsAlone (with_known ks (c ∷ cs))) cs = subst (λ js. AllByRecursion (IsAlone js) cs) (append_assoc ks (with_id c ∷ []) (map with_id cs)) (all_alone (ks ++ with_id c ∷ []) cs alone.1) in
    let others : AllByRecursion (λ d. id_of d ≡ id_of c → d ≡ c) cs =
    weaker (IsAlone (with_known ks (c ∷ cs))) (λ d. id_of d ≡ id_of c → d ≡ c)
    (λ d one same. sym ((both_parts (λ k. k.id ≡ id_of d → k.changeset ≡ d) ks (with_id c ∷ map with_id cs) one).1.0 (sym same))) cs later in (
      all_both (λ k. k.id ≡ id_of c → k.changeset ≡ c) ks (with_id c ∷ map with_id cs) alone.0 ((λ _. refl), all_map with_id (λ k. k.id ≡ id_of c → k.changeset ≡ c) cs others),
      later,
    )

all_adding : (P : Known → Type 0) (ks : List Known) (cs : List Changeset) → AllByRecursion P (with_known ks cs) → AllByRecursion P (adding ks cs)
all_adding P ks [] all = (both_parts P ks [] all).0
all_adding P ks (c ∷ cs) all =
    let both = both_parts P ks (with_id c ∷ map with_id cs) all in
    all_adding P (adding_one ks c) cs (all_both P (adding_one ks c) (map with_id cs) (all_one P ks c both.0 both.1.0) both.1.1)

pub alone_after : (ks : List Known) (cs : List Changeset) → AreAlone ks cs → (c : Changeset) (k : Known) → Contains cs c → Contains (adding ks cs) k → k.id ≡ id_of c → k.changeset ≡ c
alone_after ks cs alone c k in_new in_known =
    each_of (λ k. k.id ≡ id_of c → k.changeset ≡ c) (adding ks cs) k
    (all_adding (λ k. k.id ≡ id_of c → k.changeset ≡ c) ks cs (each_of (IsAlone (with_known ks cs)) cs c (all_alone ks cs alone) in_new)) in_known
