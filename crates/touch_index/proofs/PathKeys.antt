-- The keys of paths.
--     keys_of_text      those of a text, byte by byte, are those of its elements;  slash_read, byte_read, all_read      as it is read
--     some_keys      a path has some
--     keys_begin      those of a path begin those of what lies under it
--     has_last      so where two paths are comparable, the key of one is among those of the other
use Rattle.std.proofs.Common.{◌≡◌, ℕ, zero, suc, ◌+◌, ◌-◌, ◌<◌, ◌≤◌, ◌==◌, Bool, true, false, cond, ◌&&◌, List, [], ◌∷◌, ◌++◌, length, get_or, take, drop, refl, sym, ap, subst, ◌∙◌, arith, drop-cons, add-one}
use Rattle.std.specs.Prelude.{Contains, bytes_eq}
use Rattle.std.specs.List.{onto_first}
use Rattle.std.proofs.lemmas.Bool.{eqb-true}
use Rattle.std.proofs.lemmas.List.{append_assoc, drop_all, take_all, take_at, length-take, length-append}
use Rattle.std.proofs.lemmas.List.Elements.{Contains-get_or, Contains-append_left}
use Rattle.std.proofs.lemmas.Slice.Eq.{bytes_eq-Decides}
use Rattle.changeset_model.specs.Path.{Path, elements, is_prefix, is_path}
use Rattle.changeset_model.proofs.Accepting.{elements_some}
use Rattle.touch_index.specs.declared.keys.TheConstants.{ROOT, MOST_KEYS}
use Rattle.touch_index.specs.Keys.{mixed, mixed_all, element_key, keys_from, keys, last_key}

-- ---- of a text

-- where so much of an element was read that this is the key
abbrev keys_after : ℕ → Path → List ℕ
keys_after key [] = []
keys_after key (e ∷ p) = mixed_all key e ∷ keys_from (mixed_all key e) p

after_slash : (key : ℕ) (p : Path) → keys_after (mixed key 0x2F) p ≡ keys_from key p
after_slash key [] = refl
after_slash key (e ∷ p) = refl

abbrev pub text_keys : ℕ → List ℕ → List ℕ
text_keys key [] = key ∷ []
text_keys key (b ∷ bytes) = cond (b == 0x2F) (key ∷ text_keys (mixed key b) bytes) (text_keys (mixed key b) bytes)

onto_after : (key b : ℕ) (p : Path) → 0 < length p → keys_after (mixed key b) p ≡ keys_after key (onto_first b p)
onto_after key b [] some = absurd (omega arith)
onto_after key b (e ∷ p) some = refl

text_keys_by : (key b : ℕ) (bytes : List ℕ) → text_keys (mixed key b) bytes ≡ keys_after (mixed key b) (elements bytes) → (t : Bool) → (b == 0x2F) ≡ t
    → cond t (key ∷ text_keys (mixed key b) bytes) (text_keys (mixed key b) bytes) ≡ keys_after key (cond t ([] ∷ elements bytes) (onto_first b (elements bytes)))
text_keys_by key b bytes ih true e = ap (λ keys. key ∷ keys) (ih ∙ ap (λ b. keys_after (mixed key b) (elements bytes)) (eqb-true b 0x2F e) ∙ after_slash key (elements bytes))
text_keys_by key b bytes ih false e = ih ∙ onto_after key b (elements bytes) (elements_some bytes)

text_keys_after : (key : ℕ) (text : List ℕ) → text_keys key text ≡ keys_after key (elements text)
text_keys_after key [] = refl
text_keys_after key (b ∷ bytes) = text_keys_by key b bytes (text_keys_after (mixed key b) bytes) (b == 0x2F) refl

pub keys_of_text : (key : ℕ) (text : List ℕ) (p : Path) → elements text ≡ p → text_keys (mixed key 0x2F) text ≡ keys_from key p
keys_of_text key text p is = text_keys_after (mixed key 0x2F) text ∙ after_slash key (elements text) ∙ ap (keys_from key) is

-- ---- of paths one under the other

abbrev Begin : ℕ → Path → Path → Type 0
Begin key p q = (rest : List ℕ) × (keys_from key q ≡ keys_from key p ++ rest)

begin_by : (key : ℕ) (e f : List ℕ) (p q : Path) → (is_prefix p q ≡ true → Begin (element_key key e) p q) → (b : Bool) → bytes_eq e f ≡ b → (b && is_prefix p q) ≡ true → Begin key (e ∷ p) (f ∷ q)
begin_by key e f p q later false same h = absurd cc
begin_by key e f p q later true same h =
    let is : f ≡ e = sym ((bytes_eq-Decides e f).0 same) in
    let k = element_key key e in
    let more = later h in
    (more.0, ap (λ g. element_key key g ∷ keys_from (element_key key g) q) is ∙ ap (λ keys. k ∷ keys) more.1)

pub keys_begin : (key : ℕ) (p q : Path) → is_prefix p q ≡ true → Begin key p q
keys_begin key [] q h = (keys_from key q, refl)
keys_begin key (e ∷ p) [] h = absurd cc
keys_begin key (e ∷ p) (f ∷ q) h = begin_by key e f p q (keys_begin (element_key key e) p q) (bytes_eq e f) refl h

some_from : (key : ℕ) (p : Path) → is_path p ≡ true → 0 < length (keys_from key p)
some_from key [] h = absurd cc
some_from key (e ∷ p) h = omega arith

pub some_keys : (p : Path) → is_path p ≡ true → 0 < length (keys p)
some_keys p h = let some = some_from ROOT p h in let long = length-take MOST_KEYS (keys_from ROOT p) in omega arith

-- what a list begins with begins with the same
take_begins : (n : ℕ) (xs ys : List ℕ) → (rest : List ℕ) × (take n (xs ++ ys) ≡ take n xs ++ rest)
take_begins zero xs ys = ([], refl)
take_begins (suc n) [] ys = (take (suc n) ys, refl)
take_begins (suc n) (x ∷ xs) ys = let later = take_begins n xs ys in (later.0, ap (λ zs. x ∷ zs) later.1)

pub has_last : (p q : Path) → is_path p ≡ true → is_prefix p q ≡ true → Contains (keys q) (last_key p)
has_last p q path h =
    let later = keys_begin ROOT p q h in
    let front = take_begins MOST_KEYS (keys_from ROOT p) later.0 in
    let some = some_keys p path in
    subst (λ ks. Contains ks (last_key p)) (sym (ap (take MOST_KEYS) later.1 ∙ front.1))
    (Contains-append_left (keys p) front.0 (last_key p) (Contains-get_or (keys p) (length (keys p) - 1) 0 (omega arith)))

-- ---- as a text is read

-- what was found, and what the rest of the text gives
pub record IsRead (found : List ℕ) (key : ℕ) (text : List ℕ) (i : ℕ) : Type 0 where
  pub whole : found ++ text_keys key (drop i text) ≡ text_keys (mixed ROOT 0x2F) text
  pub few : length found < MOST_KEYS

pub none_read : (text : List ℕ) → IsRead [] (mixed ROOT 0x2F) text 0
none_read text = record { whole = refl; few = omega arith }

module _ (found : List ℕ) (key : ℕ) (text : List ℕ) (i : ℕ) (before : IsRead found key text i) where
  next : (b : ℕ) → i < length text → get_or text i 0 ≡ b → found ++ cond (b == 0x2F) (key ∷ text_keys (mixed key b) (drop (i + 1) text)) (text_keys (mixed key b) (drop (i + 1) text)) ≡ text_keys (mixed ROOT 0x2F) text
  next b below is = ap (λ rest. found ++ text_keys key rest) (sym (drop-cons text i 0 below ∙ (λ j. is j ∷ drop (sym (add-one i) j) text))) ∙ before.whole

  with_key : (b : ℕ) (after : List ℕ) → i < length text → get_or text i 0 ≡ b → (b == 0x2F) ≡ true → after ≡ found ++ key ∷ [] → after ++ text_keys (mixed key b) (drop (i + 1) text) ≡ text_keys (mixed ROOT 0x2F) text
  with_key b after below is slash grows =
      ap (λ found. found ++ text_keys (mixed key b) (drop (i + 1) text)) grows ∙ append_assoc found (key ∷ []) (text_keys (mixed key b) (drop (i + 1) text))
      ∙ ap (λ t. found ++ cond t (key ∷ text_keys (mixed key b) (drop (i + 1) text)) (text_keys (mixed key b) (drop (i + 1) text))) (sym slash) ∙ next b below is

  pub slash_read : (b : ℕ) (after : List ℕ) → i < length text → get_or text i 0 ≡ b → (b == 0x2F) ≡ true → after ≡ found ++ key ∷ [] → (length after ≡ MOST_KEYS → ⊥) → IsRead after (mixed key b) text (i + 1)
  slash_read b after below is slash grows other = record {
    whole = with_key b after below is slash grows;
    few = (let few = before.few in let long = ap length grows ∙ length-append found (key ∷ []) in ne_below (length after) (omega arith) other);
  }
    where
      ne_below : (n : ℕ) → n ≤ MOST_KEYS → (n ≡ MOST_KEYS → ⊥) → n < MOST_KEYS
      ne_below n most apart = omega arith

  pub byte_read : (b : ℕ) → i < length text → get_or text i 0 ≡ b → (b == 0x2F) ≡ false → IsRead found (mixed key b) text (i + 1)
  byte_read b below is other = record {
    whole = ap (λ t. found ++ cond t (key ∷ text_keys (mixed key b) (drop (i + 1) text)) (text_keys (mixed key b) (drop (i + 1) text))) (sym other) ∙ next b below is;
    few = before.few;
  }

  pub first_read : (b : ℕ) (after : List ℕ) (p : Path) → i < length text → get_or text i 0 ≡ b → (b == 0x2F) ≡ true → after ≡ found ++ key ∷ [] → length after ≡ MOST_KEYS → elements text ≡ p → after ≡ keys p
  first_read b after p below is slash grows many is_text =
      sym (take_at after (text_keys (mixed key b) (drop (i + 1) text)) MOST_KEYS many) ∙ ap (take MOST_KEYS) (with_key b after below is slash grows ∙ keys_of_text ROOT text p is_text)

  pub all_read : (after : List ℕ) (p : Path) → length text ≤ i → after ≡ found ++ key ∷ [] → elements text ≡ p → after ≡ keys p
  all_read after p past grows is =
      let whole : after ≡ keys_from ROOT p = grows ∙ ap (λ rest. found ++ text_keys key rest) (sym (drop_all i text past)) ∙ before.whole ∙ keys_of_text ROOT text p is in
      let few = before.few in
      let long = ap length grows ∙ length-append found (key ∷ []) in
      sym (take_all MOST_KEYS after (omega arith)) ∙ ap (take MOST_KEYS) whole
