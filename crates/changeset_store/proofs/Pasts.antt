-- Both parents of a changeset came before it, and their pasts make its own.
use Rattle.std.proofs.Common.{◌≡◌, ℕ, ◌<◌, true, false, List, [], ◌∷◌, length, reverse, refl, sym, ap, subst, ◌∙◌, arith, ⊎_elim}
use Rattle.std.specs.Prelude.{Option, Some, None, IfSome, is_some, option_map, bytes_eq}
use Rattle.std.specs.List.{AllByRecursion}
use Rattle.std.specs.Option.{option_and_then, option_map_or}
use mathlib.Core.Bool.{true≢false}
use Rattle.std.proofs.lemmas.Bool.{cond-true, cond-false, cases_eq, or_right}
use Rattle.std.proofs.lemmas.List.{length-reverse, reverse-reverse}
use Rattle.std.proofs.lemmas.Slice.Eq.{bytes_eq-Decides}
use Rattle.byte_fields.specs.Bytes.{Id}
use Rattle.byte_fields.proofs.Lists.{weaker}
use Rattle.changeset_model.specs.Changeset.{Changeset}
use Rattle.history_model.specs.History.{Known, is_known}
use Rattle.history_model.specs.Chain.{first_parent, HasParents}
use Rattle.history_model.specs.Past.{Past, Begin, At, second_of, past_among, past}
use Rattle.history_model.proofs.Chains.{first_of_all}
use Rattle.changeset_store.specs.Store.{number_in, parent_at, second_parent_at, known_at, changeset_at}
use Rattle.changeset_store.specs.Numbers.{number_among, AreApart}
use Rattle.changeset_store.specs.Pasts.{past_at, past_at_some}
use Rattle.changeset_store.proofs.Places.{known_at-changeset}
use Rattle.changeset_store.proofs.Numbering.{at_older, at_newest, is_numbered, in_range}
use Rattle.changeset_store.proofs.Ancestors.{AreKnown, has_number, id_is, numbered_at}
use Rattle.changeset_store.proofs.Parents.{at, other_id, kept_number, numbered}

-- ---- each parent came before, where the changesets are given newest first

abbrev pub IsBefore : List Known → ℕ → Id → Type 0
IsBefore ks n q = (is_known ks q ≡ true) × IfSome (number_among ks q) (λ m. m < n)

before_one_more : (k : Known) (older : List Known) (n : ℕ) (q : Id) → is_known older k.id ≡ false → IsBefore older n q → IsBefore (k ∷ older) n q
before_one_more k older n q apart h = (or_right (bytes_eq k.id q) (is_known older q) h.0, subst (λ o. IfSome o (λ m. m < n)) (kept_number k older q apart h.0) h.1)

before_newest : (k : Known) (older : List Known) (q : Id) → is_known older k.id ≡ false → is_known older q ≡ true → IsBefore (k ∷ older) (length older) q
before_newest k older q apart known = before_one_more k older (length older) q apart (known, in_range older q)

all_before : (ks : List Known) → AreApart ks → HasParents ks → (n : ℕ) → n < length ks → AllByRecursion (IsBefore ks n) (at ks n).changeset.parents
all_before [] apart parents n less = absurd (omega arith)
all_before (k ∷ older) apart parents n less =
    let P : Known → Type 0 = λ j. AllByRecursion (IsBefore (k ∷ older) n) j.changeset.parents in
    ⊎_elim
    (λ e.
    let here : at (k ∷ older) n ≡ k = ap (at (k ∷ older)) (sym e) ∙ at_newest k older in
    subst P (sym here) (subst (λ m. AllByRecursion (IsBefore (k ∷ older) m) k.changeset.parents) e
    (weaker (λ p. is_known older p ≡ true) (IsBefore (k ∷ older) (length older)) (λ p known. before_newest k older p apart.0 known) k.changeset.parents parents.0)))
    (λ other.
    let there : n < length older = omega arith in
    subst P (sym (at_older k older n there))
    (weaker (IsBefore older n) (IsBefore (k ∷ older) n) (λ q h. before_one_more k older n q apart.0 h) (at older n).changeset.parents (all_before older apart.1 parents.1 n there)))
    (cases_eq (length older) n)

of_second : (P : Id → Type 0) (ps : List Id) → AllByRecursion P ps → IfSome (second_of ps) P
of_second P [] all = tt
of_second P (p ∷ []) all = tt
of_second P (p ∷ q ∷ ps) all = all.1.0

-- ---- the pasts of its parents

abbrev parts : List Known → Known → Past
parts ks j = At j (option_map_or (past_among ks) (first_parent j.changeset) Begin) (option_map_or (past_among ks) (second_of j.changeset.parents) Begin)

-- a changeset more leaves the pasts of those before it
kept_past : (k : Known) (older : List Known) (q : Id) → is_known older k.id ≡ false → is_known older q ≡ true → past_among older q ≡ past_among (k ∷ older) q
kept_past k older q apart known = sym (cond-false (bytes_eq k.id q) _ _ (other_id k older q apart known))

kept_some : (k : Known) (older : List Known) (o : Option Id) → is_known older k.id ≡ false → IfSome o (λ q. is_known older q ≡ true) → option_map_or (past_among older) o Begin ≡ option_map_or (past_among (k ∷ older)) o Begin
kept_some k older None apart known = refl
kept_some k older (Some q) apart known = kept_past k older q apart known

kept_parts : (k : Known) (older : List Known) (j : Known) → is_known older k.id ≡ false → AllByRecursion (λ q. is_known older q ≡ true) j.changeset.parents → parts older j ≡ parts (k ∷ older) j
kept_parts k older j apart known =
    (λ i. At j (kept_some k older (first_parent j.changeset) apart (first_of_all (λ q. is_known older q ≡ true) j.changeset.parents known) i)
    (kept_some k older (second_of j.changeset.parents) apart (of_second (λ q. is_known older q ≡ true) j.changeset.parents known) i))

is_there : (ks : List Known) → AreApart ks → (n : ℕ) → n < length ks → is_known ks (at ks n).id ≡ true
is_there ks apart n less = sym (is_numbered ks (at ks n).id) ∙ ap is_some (numbered_at ks apart n less)

past_of_parts : (ks : List Known) → AreApart ks → HasParents ks → (n : ℕ) → n < length ks → past_among ks (at ks n).id ≡ parts ks (at ks n)
past_of_parts [] apart parents n less = absurd (omega arith)
past_of_parts (k ∷ older) apart parents n less =
    let P : Known → Type 0 = λ j. past_among (k ∷ older) j.id ≡ parts (k ∷ older) j in
    ⊎_elim
    (λ e.
    let here : at (k ∷ older) n ≡ k = ap (at (k ∷ older)) (sym e) ∙ at_newest k older in
    subst P (sym here) (cond-true (bytes_eq k.id k.id) _ _ ((bytes_eq-Decides k.id k.id).1 refl) ∙ kept_parts k older k apart.0 parents.0))
    (λ other.
    let there : n < length older = omega arith in
    subst P (sym (at_older k older n there))
    (sym (kept_past k older (at older n).id apart.0 (is_there older apart.1 n there)) ∙ past_of_parts older apart.1 parents.1 n there
    ∙ kept_parts k older (at older n) apart.0 (weaker (IsBefore older n) (λ q. is_known older q ≡ true) (λ q h. h.0) (at older n).changeset.parents (all_before older apart.1 parents.1 n there))))
    (cases_eq (length older) n)

-- ---- in the order in which they came

module _ (ks : List Known) (ps : List (Option ℕ)) (k : AreKnown ks ps) (n : ℕ) (less : n < length ks) where
  within : n < length (reverse ks)
  within = let same = length-reverse ks in omega arith

  there : at (reverse ks) n ≡ known_at ks n
  there = ap (λ js. known_at js n) (reverse-reverse ks)

  before : AllByRecursion (IsBefore (reverse ks) n) (changeset_at ks n).parents
  before =
      let P : Changeset → Type 0 = λ c. AllByRecursion (IsBefore (reverse ks) n) c.parents in
      subst P (ap (λ (j : Known). j.changeset) there ∙ known_at-changeset ks n) (all_before (reverse ks) k.apart k.parents_known n within)

  second_before : IfSome (second_of (changeset_at ks n).parents) (IsBefore (reverse ks) n)
  second_before = of_second (IsBefore (reverse ks) n) (changeset_at ks n).parents before

  earlier_by : (q : Option Id) → IfSome q (IsBefore (reverse ks) n) → IfSome (option_and_then (number_in ks) q) (λ m. m < n)
  earlier_by None h = tt
  earlier_by (Some q) h = subst (λ o. IfSome o (λ m. m < n)) (numbered ks ps k (Some q)) h.1

  pub second_earlier : (o : Option ℕ) → o ≡ second_parent_at ks n → IfSome o (λ m. m < n)
  second_earlier o is = subst (λ o. IfSome o (λ m. m < n)) (sym is) (earlier_by (second_of (changeset_at ks n).parents) second_before)

  -- who is known has a number
  found_by : (q : Id) → is_known (reverse ks) q ≡ true → (o : Option ℕ) → number_in ks q ≡ o → option_map (λ m. (known_at ks m).id) o ≡ Some q
  found_by q known None e = absurd (true≢false (sym known ∙ sym (is_numbered (reverse ks) q) ∙ ap is_some (numbered ks ps k (Some q)) ∙ ap is_some e))
  found_by q known (Some m) e = ap (λ x. Some x) (id_is ks ps k q m (has_number ks ps k q m e))

  ids_by : (q : Option Id) → IfSome q (IsBefore (reverse ks) n) → option_map (λ m. (known_at ks m).id) (option_and_then (number_in ks) q) ≡ q
  ids_by None h = refl
  ids_by (Some q) h = found_by q h.0 (number_in ks q) refl

  pub second_id : (o : Option ℕ) → o ≡ second_parent_at ks n → option_map (λ m. (known_at ks m).id) o ≡ second_of (changeset_at ks n).parents
  second_id o is = ap (option_map (λ m. (known_at ks m).id)) is ∙ ids_by (second_of (changeset_at ks n).parents) second_before

  by_id : (o : Option ℕ) → option_map_or (past ks) (option_map (λ m. (known_at ks m).id) o) Begin ≡ past_at_some ks o
  by_id None = refl
  by_id (Some m) = refl

  of_number : (q : Option Id) → IfSome q (IsBefore (reverse ks) n) → option_map_or (past ks) q Begin ≡ past_at_some ks (option_and_then (number_in ks) q)
  of_number q h = ap (λ q. option_map_or (past ks) q Begin) (sym (ids_by q h)) ∙ by_id (option_and_then (number_in ks) q)

  pub past_is : (o : Option ℕ) → o ≡ second_parent_at ks n → past_at ks n ≡ At (known_at ks n) (past_at_some ks (parent_at ks n)) (past_at_some ks o)
  past_is o is =
      let P : Known → Type 0 = λ j. past ks j.id ≡ parts (reverse ks) j in
      let Q : Changeset → Type 0 = λ c. past_at ks n ≡ At (known_at ks n) (option_map_or (past ks) (first_parent c) Begin) (option_map_or (past ks) (second_of c.parents) Begin) in
      let by_ids = subst Q (known_at-changeset ks n) (subst P there (past_of_parts (reverse ks) k.apart k.parents_known n within)) in
      by_ids
      ∙ (λ i. At (known_at ks n) (of_number (first_parent (changeset_at ks n)) (first_of_all (IsBefore (reverse ks) n) (changeset_at ks n).parents before) i) (of_number (second_of (changeset_at ks n).parents) second_before i))
      ∙ ap (λ o. At (known_at ks n) (past_at_some ks (parent_at ks n)) (past_at_some ks o)) (sym is)
