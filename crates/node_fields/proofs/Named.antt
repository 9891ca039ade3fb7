-- Entries that can be read, gone through without looking at the rules of names.
use Rattle.std.proofs.Common.{◌≡◌, ℕ, zero, suc, ◌-◌, ◌+◌, ◌<◌, Bool, true, false, cond, ◌&&◌, List, [], ◌∷◌, length, take, drop, refl, sym, ap, ◌∙◌, arith}
use Rattle.std.specs.Prelude.{Option, Some, None, Result, Ok, Err, nat_le, nat_lt}
use Rattle.std.specs.Option.{option_map_or}
use Rattle.std.specs.Int.{w8, byte_len, from_be_bytes}
use Rattle.std.specs.declared.cmp.Ordering.{Ordering}
use Rattle.std.specs.declared.cmp.Ordering.TheVariants.{Less, Equal, Greater}
use Rattle.std.specs.Ordering.{is_lt, is_eq, match_ordering, nat_cmp, ordering_reverse}
use Rattle.std.specs.Cmp.Lexicographic.{slice_cmp, nat_list_cmp_total}
use Rattle.std.specs.FinMap.{find as find_key}
use Rattle.std.proofs.lemmas.Bool.{and_parts}
use Rattle.byte_fields.specs.Reading.{Reader, and_then, value, ◌>>=◌, any, field, keeping, number, with_len, whole}
use Rattle.changeset_model.specs.Path.{is_element}
use Rattle.manifest_model.specs.NodeReading.{entries, is_after_name}
use Rattle.node_fields.specs.Lookup.{at_entry, at_name, named_in, sized}

abbrev by_name : List ℕ → List ℕ → Ordering
by_name = slice_cmp nat_cmp

abbrev Bytes : Type 0
Bytes = List ℕ

-- ---- a rule that is left out

abbrev is_good : Option Bytes → Bytes → Bool
is_good before name = is_element name && is_after_name before name

abbrev ruled : Option Bytes → Reader Bytes
ruled before = with_len w8 (λ n. nat_lt 0 n) (keeping (is_good before))

kept : {A : Type 0} (good : A → Bool) (x : A) (n : ℕ) (bytes : Bytes) (p : A × Bytes) → option_map_or (λ y. Ok (y, drop n bytes)) (keeping good x) (Err (length bytes)) ≡ Ok p → (p ≡ (x, drop n bytes)) × (good x ≡ true)
kept good x n bytes p h = by (good x) refl h
  where
    by : (b : Bool) → good x ≡ b → option_map_or (λ y. Ok (y, drop n bytes)) (cond b (Some x) None) (Err (length bytes)) ≡ Ok p → (p ≡ (x, drop n bytes)) × (good x ≡ true)
    by true e g = (cc, e)
    by false e g = absurd (cc)

-- a field that keeps a rule is one without it
field_kept : {A : Type 0} (n : ℕ) (view : Bytes → A) (good : A → Bool) (bytes : Bytes) (p : A × Bytes) → field n (λ b. keeping good (view b)) bytes ≡ Ok p → (field n (λ b. keeping any (view b)) bytes ≡ Ok p) × (good p.0 ≡ true)
field_kept n view good bytes p h = by (nat_le n (length bytes)) h
  where
    by : (b : Bool) → option_map_or (λ x. Ok (x, drop n bytes)) (cond b (keeping good (view (take n bytes))) None) (Err (length bytes)) ≡ Ok p → (option_map_or (λ x. Ok (x, drop n bytes)) (cond b (keeping any (view (take n bytes))) None) (Err (length bytes)) ≡ Ok p) × (good p.0 ≡ true)
    by true g =
        let k = kept good (view (take n bytes)) n bytes p g in
        (ap Ok (sym k.0), ap (λ (q : _ × Bytes). good q.0) k.0 ∙ k.1)
    by false g = absurd (cc)

name_kept : (before : Option Bytes) (bytes : Bytes) (p : Bytes × Bytes) → ruled before bytes ≡ Ok p → (sized bytes ≡ Ok p) × (is_good before p.0 ≡ true)
name_kept before bytes p h = by (number w8 (λ n. nat_lt 0 n) bytes) refl h
  where
    by : (a : Result (ℕ × Bytes) ℕ) → number w8 (λ n. nat_lt 0 n) bytes ≡ a → and_then a (λ len. field len (keeping (is_good before))) ≡ Ok p → (sized bytes ≡ Ok p) × (is_good before p.0 ≡ true)
    by (Ok q) e g =
        let len = field_kept (byte_len w8) (λ b. from_be_bytes w8 b) (λ n. nat_lt 0 n) bytes q e in
        let name = field_kept q.0 (λ b. b) (is_good before) q.1 p g in
        (ap (λ a. and_then a (λ len. field len (keeping any))) len.0 ∙ name.0, name.1)
    by (Err at) e g = absurd (cc)

abbrev pub fine : {A : Type 0} → A → Result A ℕ
fine x = Ok x

got : {A : Type 0} → Result A ℕ → A → A
got (Ok x) y = x
got (Err at) y = y

pub same_ok : {A : Type 0} (x y : A) → fine x ≡ fine y → x ≡ y
unfolding got
same_ok x y h = ap (λ r. got r x) h

-- ---- an entry more

pub record IsCut {X : Type 0} (r : Reader X) (m : ℕ) (before : Option Bytes) (left : Bytes) (those : List (Bytes × X)) (rest : Bytes) : Type 0 where
  pub name : Bytes
  pub named : Bytes
  pub it : X
  pub after : Bytes
  pub others : List (Bytes × X)
  pub name_read : sized left ≡ Ok (name, named)
  pub good : is_good before name ≡ true
  pub it_read : r named ≡ Ok (it, after)
  pub others_read : entries r m (Some name) after ≡ Ok (others, rest)
  pub are : those ≡ (name, it) ∷ others

module _ {X : Type 0} (r : Reader X) where
  pub cut : (m : ℕ) (before : Option Bytes) (left : Bytes) (those : List (Bytes × X)) (rest : Bytes) → entries r (suc m) before left ≡ Ok (those, rest) → IsCut r m before left those rest
  cut m before left those rest h = by_sized (ruled before left) refl h
    where
      by_others : (name named : Bytes) (it : X) (after : Bytes) → ruled before left ≡ Ok (name, named) → r named ≡ Ok (it, after) → (a : Result (List (Bytes × X) × Bytes) ℕ) → entries r m (Some name) after ≡ a → and_then a (λ es. value ((name, it) ∷ es)) ≡ Ok (those, rest) → IsCut r m before left those rest
      by_others name named it after e f (Ok q) g k =
          let parts = name_kept before left (name, named) e in
          record { name = name; named = named; it = it; after = after; others = q.0; name_read = parts.0; good = parts.1; it_read = f; others_read = g ∙ (λ i. Ok (q.0, end i)); are = are }
        where
          end : q.1 ≡ rest
          end = ap (λ (p : List (Bytes × X) × Bytes). p.1) (same_ok ((name, it) ∷ q.0, q.1) (those, rest) k)

          are : those ≡ (name, it) ∷ q.0
          are = sym (ap (λ (p : List (Bytes × X) × Bytes). p.0) (same_ok ((name, it) ∷ q.0, q.1) (those, rest) k))
      by_others name named it after e f (Err at) g k = absurd (cc)

      by_it : (name named : Bytes) → ruled before left ≡ Ok (name, named) → (a : Result (X × Bytes) ℕ) → r named ≡ a → and_then (and_then a (λ x. value (name, x))) (λ e. entries r m (Some e.0) >>= λ es. value (e ∷ es)) ≡ Ok (those, rest) → IsCut r m before left those rest
      by_it name named e (Ok q) f k = by_others name named q.0 q.1 e f (entries r m (Some name) q.1) refl k
      by_it name named e (Err at) f k = absurd (cc)

      by_sized : (a : Result (Bytes × Bytes) ℕ) → ruled before left ≡ a → and_then (and_then a (λ name. r >>= λ x. value (name, x))) (λ e. entries r m (Some e.0) >>= λ es. value (e ∷ es)) ≡ Ok (those, rest) → IsCut r m before left those rest
      by_sized (Ok q) e k = by_it q.0 q.1 e (r q.1) refl k
      by_sized (Err at) e k = absurd (cc)

  pub none_read : (before : Option Bytes) (left : Bytes) (those : List (Bytes × X)) (rest : Bytes) → entries r zero before left ≡ Ok (those, rest) → those ≡ []
  none_read before left those rest h = sym (ap (λ (p : List (Bytes × X) × Bytes). p.0) (same_ok ([], left) (those, rest) h))

-- ---- names

less_of : (o : Ordering) → is_lt o ≡ true → o ≡ Less
less_of Less h = refl
less_of Equal h = absurd (cc)
less_of Greater h = absurd (cc)

not_tied : (o : Ordering) → o ≡ Less → is_eq o ≡ false
not_tied o h = ap is_eq h

-- a name before the first isn't there
pub not_there : {X : Type 0} (r : Reader X) (m : ℕ) (n b : Bytes) (left : Bytes) (those : List (Bytes × X)) (rest : Bytes) → by_name n b ≡ Less → entries r m (Some b) left ≡ Ok (those, rest) → find_key by_name n those ≡ None
not_there r zero n b left those rest less h = ap (find_key by_name n) (none_read r (Some b) left those rest h)
not_there r (suc m) n b left those rest less h =
    let c = cut r m (Some b) left those rest h in
    let more = less_of (by_name b c.name) (and_parts (is_element c.name) (is_lt (by_name b c.name)) c.good).1 in
    let here = nat_list_cmp_total.trans n b c.name less more in
    ap (find_key by_name n) c.are
    ∙ ap (λ v. cond v (Some c.it) (find_key by_name n c.others)) (not_tied (by_name n c.name) here)
    ∙ not_there r m n c.name c.after c.others rest here c.others_read

-- ---- what is found

pub read_named : {X : Type 0} (r : Reader X) (m : ℕ) (n : Bytes) (before : Option Bytes) (left : Bytes) (those : List (Bytes × X)) (rest : Bytes) → entries r m before left ≡ Ok (those, rest) → named_in r m n left ≡ find_key by_name n those
read_named r zero n before left those rest h = sym (ap (find_key by_name n) (none_read r before left those rest h))
read_named r (suc m) n before left those rest h =
    ap (λ s. at_name r n s (named_in r m n)) c.name_read
    ∙ ap (λ e. at_entry (by_name c.name n) e (named_in r m n)) c.it_read
    ∙ by (by_name c.name n) refl (read_named r m n (Some c.name) c.after c.others rest c.others_read)
    ∙ sym (ap (find_key by_name n) c.are)
  where
    c : IsCut r m before left those rest
    c = cut r m before left those rest h

    back : by_name n c.name ≡ ordering_reverse (by_name c.name n)
    back = nat_list_cmp_total.antisymm n c.name

    by : (o : Ordering) → by_name c.name n ≡ o → named_in r m n c.after ≡ find_key by_name n c.others → match_ordering o (named_in r m n c.after) (Some c.it) None ≡ cond (is_eq (by_name n c.name)) (Some c.it) (find_key by_name n c.others)
    by Less e later = later ∙ sym (ap (λ b. cond b (Some c.it) (find_key by_name n c.others)) (ap is_eq (back ∙ ap ordering_reverse e)))
    by Equal e later = sym (ap (λ b. cond b (Some c.it) (find_key by_name n c.others)) (ap is_eq (back ∙ ap ordering_reverse e)))
    by Greater e later =
        let less = back ∙ ap ordering_reverse e in
        sym (ap (λ b. cond b (Some c.it) (find_key by_name n c.others)) (ap is_eq less) ∙ not_there r m n c.name c.after c.others rest less c.others_read)

-- ---- as a loop goes through them

less_one : (n k : ℕ) → k < n → n - k ≡ suc (n - (k + 1))
less_one n k h = omega arith

pub one_first : {X : Type 0} (r : Reader X) (count k : ℕ) (n left : Bytes) → k < count → named_in r (count - k) n left ≡ at_name r n (sized left) (named_in r (count - (k + 1)) n)
one_first r count k n left less = ap (λ m. named_in r m n left) (less_one count k less)

pub none_first : {X : Type 0} (r : Reader X) (m : ℕ) (n left : Bytes) → m ≡ 0 → named_in r m n left ≡ None
none_first r m n left none = ap (λ j. named_in r j n left) none

-- ---- what was read before

pub whole_read : {A : Type 0} (k : ℕ) (a : Result (A × Bytes) ℕ) (x : A) → whole k a ≡ Ok x → (rest : Bytes) × (a ≡ Ok (x, rest))
whole_read k (Ok (y, [])) x h = ([], λ i. Ok (same_ok y x h i, []))
whole_read k (Ok (y, b ∷ left)) x h = absurd (cc)
whole_read k (Err left) x h = absurd (cc)

pub then_read : {A B : Type 0} (a : Result (A × Bytes) ℕ) (f : A → Reader B) (y : B × Bytes) → and_then a f ≡ Ok y → (p : A × Bytes) × (a ≡ Ok p) × (f p.0 p.1 ≡ Ok y)
then_read (Ok p) f y h = (p, refl, h)
then_read (Err left) f y h = absurd (cc)

module _ {X : Type 0} (r : Reader X) (count k : ℕ) (n left : Bytes) (total : Option X) (less : k < count) (so_far : named_in r (count - k) n left ≡ total) where
  abbrev later : Bytes → Option X
  later = named_in r (count - (k + 1)) n

  step : at_name r n (sized left) later ≡ total
  step = sym (one_first r count k n left less) ∙ so_far

  pub no_name : (at : ℕ) → sized left ≡ Err at → None ≡ total
  no_name at e = ap (λ s. at_name r n s later) (sym e) ∙ step

  module _ (here after : Bytes) (named : sized left ≡ Ok (here, after)) where
    step_in : at_entry (by_name here n) (r after) later ≡ total
    step_in = ap (λ s. at_name r n s later) (sym named) ∙ step

    pub no_entry : (at : ℕ) → r after ≡ Err at → None ≡ total
    no_entry at e = ap (λ x. at_entry (by_name here n) x later) (sym e) ∙ step_in

    module _ (it : X) (rest : Bytes) (gave : r after ≡ Ok (it, rest)) where
      step_on : match_ordering (by_name here n) (later rest) (Some it) None ≡ total
      step_on = ap (λ x. at_entry (by_name here n) x later) (sym gave) ∙ step_in

      pub goes_on : by_name here n ≡ Less → later rest ≡ total
      goes_on o = ap (λ x. match_ordering x (later rest) (Some it) None) (sym o) ∙ step_on

      pub is_here : by_name here n ≡ Equal → Some it ≡ total
      is_here o = ap (λ x. match_ordering x (later rest) (Some it) None) (sym o) ∙ step_on

      pub is_past : by_name here n ≡ Greater → None ≡ total
      is_past o = ap (λ x. match_ordering x (later rest) (Some it) None) (sym o) ∙ step_on
