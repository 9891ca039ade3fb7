-- The number of a changeset's first parent.
use Rattle.std.proofs.Common.{◌≡◌, ℕ, ◌<◌, true, false, List, [], ◌∷◌, ◌++◌, length, reverse, refl, sym, ap, subst, ◌∙◌, arith, ⊎_elim}
use Rattle.std.specs.Prelude.{Option, Some, None, IfSome, is_some, bytes_eq, slice_get}
use Rattle.std.specs.Option.{option_and_then}
use mathlib.Core.Bool.{true≢false}
use Rattle.std.proofs.lemmas.Bool.{cond-false, cases_eq, false_from_ne_true, or_right}
use Rattle.std.proofs.lemmas.List.{length-reverse, reverse-reverse}
use Rattle.std.proofs.lemmas.Option.{same_Some}
use Rattle.std.proofs.lemmas.Slice.Eq.{bytes_eq-Decides}
use Rattle.byte_fields.specs.Bytes.{Id}
use Rattle.history_model.specs.History.{Known, is_known}
use Rattle.history_model.specs.Chain.{first_parent, HasParents}
use Rattle.history_model.proofs.Chains.{first_of_all}
use Rattle.ancestry.proofs.Lines.{reverse-cons, slice_get-push_other}
use Rattle.byte_fields.proofs.Lists.{get_next as slice_get-push_at}
use Rattle.changeset_store.specs.Store.{number_in, parent_at, known_at}
use Rattle.changeset_store.specs.Numbers.{number_among, AreApart, parents_among}
use Rattle.changeset_store.proofs.Places.{known_at-changeset}
use Rattle.changeset_store.proofs.Numbering.{number_is, at_older, at_newest, is_numbered, in_range}
use Rattle.reply_model.proofs.Parents.{known_reverse}
use Rattle.changeset_store.proofs.Ancestors.{AreKnown, length-parents}

abbrev pub at : List Known → ℕ → Known
at ks n = known_at (reverse ks) n

abbrev pub parent_among : List Known → List Known → ℕ → Option ℕ
parent_among ks js n = option_and_then (number_among ks) (first_parent (at js n).changeset)

-- one that isn't known has another id than one that is
pub other_id : (k : Known) (older : List Known) (q : Id) → is_known older k.id ≡ false → is_known older q ≡ true → bytes_eq k.id q ≡ false
other_id k older q apart known = false_from_ne_true (bytes_eq k.id q) (λ e. true≢false (sym known ∙ ap (is_known older) (sym ((bytes_eq-Decides k.id q).0 e)) ∙ apart))

pub kept_number : (k : Known) (older : List Known) (q : Id) → is_known older k.id ≡ false → is_known older q ≡ true → number_among older q ≡ number_among (k ∷ older) q
kept_number k older q apart known = sym (cond-false (bytes_eq k.id q) (Some (length older)) (number_among older q) (other_id k older q apart known))

kept_parent : (k : Known) (older : List Known) (o : Option Id) → is_known older k.id ≡ false → IfSome o (λ q. is_known older q ≡ true) → option_and_then (number_among older) o ≡ option_and_then (number_among (k ∷ older)) o
kept_parent k older None apart known = refl
kept_parent k older (Some q) apart known = kept_number k older q apart known

abbrev pub HasParentAt : List Known → ℕ → Type 0
HasParentAt ks n = IfSome (first_parent (at ks n).changeset) (λ q. is_known ks q ≡ true)

more_known : (k : Known) (older : List Known) (o : Option Id) → IfSome o (λ q. is_known older q ≡ true) → IfSome o (λ q. is_known (k ∷ older) q ≡ true)
more_known k older None h = tt
more_known k older (Some q) h = or_right (bytes_eq k.id q) (is_known older q) h

-- of changesets that are given newest first, the parents with their numbers
pub parents_at : (ks : List Known) → AreApart ks → HasParents ks → (n : ℕ) → n < length ks → (slice_get (reverse (parents_among ks)) n ≡ Some (parent_among ks ks n)) × HasParentAt ks n
parents_at [] apart parents n less = absurd (omega arith)
parents_at (k ∷ older) apart parents n less =
    let len = length-reverse (parents_among older) ∙ length-parents older in
    let mine = option_and_then (number_among older) (first_parent k.changeset) in
    let known = first_of_all (λ p. is_known older p ≡ true) k.changeset.parents parents.0 in
    ⊎_elim
    (λ e.
    let here : at (k ∷ older) n ≡ k = ap (at (k ∷ older)) (sym e) ∙ at_newest k older in (
      ap (λ l. slice_get l n) (reverse-cons mine (parents_among older)) ∙ ap (slice_get (reverse (parents_among older) ++ mine ∷ [])) (sym (len ∙ e)) ∙ slice_get-push_at (reverse (parents_among older)) mine
          ∙ ap (λ o. Some o) (kept_parent k older (first_parent k.changeset) apart.0 known ∙ (λ i. option_and_then (number_among (k ∷ older)) (first_parent (sym here i).changeset))),
      (let P : Known → Type 0 = λ j. IfSome (first_parent j.changeset) (λ q. is_known (k ∷ older) q ≡ true) in subst P (sym here) (more_known k older (first_parent k.changeset) known)),
    ))
    (λ other.
    let there : n < length older = omega arith in
    let rest = parents_at older apart.1 parents.1 n there in
    let same = at_older k older n there in (
      ap (λ l. slice_get l n) (reverse-cons mine (parents_among older)) ∙ slice_get-push_other (reverse (parents_among older)) mine n (λ h. other (sym len ∙ h)) ∙ rest.0
          ∙ ap (λ o. Some o) (kept_parent k older (first_parent (at older n).changeset) apart.0 rest.1 ∙ (λ i. option_and_then (number_among (k ∷ older)) (first_parent (sym same i).changeset))),
      (let P : Known → Type 0 = λ j. IfSome (first_parent j.changeset) (λ q. is_known (k ∷ older) q ≡ true) in subst P (sym same) (more_known k older (first_parent (at older n).changeset) rest.1)),
    ))
    (cases_eq (length older) n)

module _ (ks : List Known) (ps : List (Option ℕ)) (k : AreKnown ks ps) where
  pub numbered : (o : Option Id) → option_and_then (number_among (reverse ks)) o ≡ option_and_then (number_in ks) o
  numbered None = refl
  numbered (Some x) = sym (number_is (reverse ks) k.apart x) ∙ ap (λ js. number_in js x) (reverse-reverse ks)

  pub parent_is : (n : ℕ) (p : Option ℕ) → n < length ks → slice_get ps n ≡ Some p → p ≡ parent_at ks n
  parent_is n p less e =
      same_Some p (parent_among (reverse ks) (reverse ks) n)
      (sym e ∙ ap (λ l. slice_get l n) (sym (reverse-reverse ps) ∙ ap reverse k.linked) ∙ (parents_at (reverse ks) k.apart k.parents_known n (let same = length-reverse ks in omega arith)).0)
      ∙ numbered (first_parent (at (reverse ks) n).changeset)
      ∙ ap (λ c. option_and_then (number_in ks) (first_parent c)) (ap (λ js. (known_at js n).changeset) (reverse-reverse ks) ∙ known_at-changeset ks n)

-- ---- what has a number

number_same : (ks : List Known) → AreApart (reverse ks) → (x : Id) → number_in ks x ≡ number_among (reverse ks) x
number_same ks apart x = ap (λ js. number_in js x) (sym (reverse-reverse ks)) ∙ number_is (reverse ks) apart x

pub number_is_some : (ks : List Known) → AreApart (reverse ks) → (x : Id) → is_some (number_in ks x) ≡ is_known ks x
number_is_some ks apart x = ap is_some (number_same ks apart x) ∙ is_numbered (reverse ks) x ∙ known_reverse ks x

pub number_below : (ks : List Known) → AreApart (reverse ks) → (x : Id) (n : ℕ) → number_in ks x ≡ Some n → n < length ks
number_below ks apart x n e =
    let less = subst (λ o. IfSome o (λ n. n < length (reverse ks))) (sym (number_same ks apart x) ∙ e) (in_range (reverse ks) x) in
    let same = length-reverse ks in
    omega arith
