-- Lines of known changesets by their numbers, through first parents.
use Rattle.std.proofs.Common.{◌≡◌, ℕ, zero, suc, ◌<◌, true, false, List, [], ◌∷◌, ◌++◌, map, length, reverse, refl, sym, ap, subst, ◌∙◌, arith, ⊎_elim, cond, append_assoc}
use Rattle.std.specs.Prelude.{Option, Some, None, IfSome, is_some, bytes_eq, flat_map}
use Rattle.std.specs.Option.{option_map_or, option_and_then, option_or}
use mathlib.Core.Bool.{true≢false}
use Rattle.std.proofs.lemmas.Bool.{cond-true, cond-false, cases_eq, false_from_ne_true, or_left, or_right}
use Rattle.std.proofs.lemmas.List.{length-reverse, reverse-reverse, append-nil}
use Rattle.std.proofs.lemmas.Option.{same_Some}
use Rattle.std.proofs.lemmas.Slice.Eq.{bytes_eq-Decides}
use Rattle.byte_fields.specs.Bytes.{Id}
use Rattle.changeset_model.specs.Changeset.{Changeset, id_of}
use Rattle.history_model.specs.History.{Entry, Change, Known, with_id, each_id_once, changesets_in, known, is_known}
use Rattle.history_model.specs.Chain.{first_parent, HasParents, changesets, line_among, line}
use Rattle.history_model.proofs.Chains.{first_of_all}
use Rattle.reply_model.proofs.Lines.{AreOnce, known_once}
use Rattle.manifest_model.proofs.Derivations.{or_case as or_either}
use Rattle.history_model.specs.Past.{second_of}
use Rattle.changeset_store.specs.Store.{number_in, parent_at, second_parent_at, known_at, changeset_at}
use Rattle.changeset_store.specs.Fork.{IsAncestor}
use Rattle.changeset_store.specs.Merges.{line_at}
use Rattle.changeset_store.specs.Numbers.{AreApart, parents_among}
use Rattle.changeset_store.proofs.Places.{known_at-changeset, changeset_at-append, id_at, number_in-push}
use Rattle.changeset_store.proofs.Numbering.{at_older, at_newest}
use Rattle.reply_model.proofs.Parents.{known_reverse}
use Rattle.changeset_store.proofs.Ancestors.{AreKnown}
use Rattle.changeset_store.proofs.Forks.{is_its_number, has_its_id}
use Rattle.changeset_store.proofs.Parents.{parents_at, number_is_some, number_below}
use Rattle.manifest_store.specs.Lines.{IsStore}

-- ---- the history that makes these known

abbrev pub story : List Known → List Entry
story ks = map (λ k. record { who = 0; body = Change k.changeset }) ks

told : (ks : List Known) → flat_map (λ e. changesets_in e.body) (story ks) ≡ changesets ks
told [] = refl
told (k ∷ ks) = ap (λ cs. k.changeset ∷ cs) (told ks)

pub known_story : (ks : List Known) → map with_id (changesets ks) ≡ ks → each_id_once ks ≡ ks → known (story ks) ≡ ks
known_story ks ids once = ap each_id_once (ap (map with_id) (told ks) ∙ ids) ∙ once

pub apart_of : (ks : List Known) → AreOnce ks → AreApart ks
apart_of [] u = tt
apart_of (k ∷ ks) u = (false_from_ne_true (is_known ks k.id) u.0, apart_of ks u.1)

pub apart_back : (ks : List Known) → IsStore ks → AreApart (reverse ks)
apart_back ks s = apart_of (reverse ks) (subst (λ js. AreOnce (reverse js)) (known_story ks s.ids s.once) (known_once (story ks)))

abbrev pub links : List Known → List (Option ℕ)
links ks = reverse (parents_among (reverse ks))

pub are_known : (ks : List Known) → IsStore ks → AreKnown ks (links ks)
are_known ks s = record { apart = apart_back ks s; parents_known = s.parents; linked = reverse-reverse (parents_among (reverse ks)) }

pub known_here : (ks : List Known) (n : ℕ) → n < length ks → is_known ks (known_at ks n).id ≡ true
known_here [] n less = absurd (omega arith)
known_here (k ∷ ks) zero less = or_left (bytes_eq k.id k.id) (is_known ks k.id) ((bytes_eq-Decides k.id k.id).1 refl)
known_here (k ∷ ks) (suc n) less = or_right (bytes_eq k.id (known_at ks n).id) (is_known ks (known_at ks n).id) (known_here ks n (omega arith))

-- ---- newest first

abbrev at : List Known → ℕ → Known
at ks n = known_at (reverse ks) n

kept_line : (k : Known) (older : List Known) (q : Id) → is_known older k.id ≡ false → is_known older q ≡ true → line_among older q ≡ line_among (k ∷ older) q
kept_line k older q apart known =
    sym (cond-false (bytes_eq k.id q) (k ∷ option_map_or (line_among older) (first_parent k.changeset) []) (line_among older q) (false_from_ne_true (bytes_eq k.id q) (λ e. true≢false (sym known ∙ ap (is_known older) (sym ((bytes_eq-Decides k.id q).0 e)) ∙ apart))))

kept_rest : (k : Known) (older : List Known) (o : Option Id) → is_known older k.id ≡ false → IfSome o (λ q. is_known older q ≡ true) → option_map_or (line_among older) o [] ≡ option_map_or (line_among (k ∷ older)) o []
kept_rest k older None apart known = refl
kept_rest k older (Some q) apart known = kept_line k older q apart known

parent_known : (ks : List Known) → AreApart ks → HasParents ks → (n : ℕ) → n < length ks → IfSome (first_parent (at ks n).changeset) (λ q. is_known ks q ≡ true)
parent_known ks apart parents n less = (parents_at ks apart parents n less).1

among_step : (ks : List Known) → AreApart ks → HasParents ks → (n : ℕ) → n < length ks → line_among ks (at ks n).id ≡ at ks n ∷ option_map_or (line_among ks) (first_parent (at ks n).changeset) []
among_step [] apart parents n less = absurd (omega arith)
among_step (k ∷ older) apart parents n less =
    let P : Known → Type 0 = λ j. line_among (k ∷ older) j.id ≡ j ∷ option_map_or (line_among (k ∷ older)) (first_parent j.changeset) [] in
    ⊎_elim
    (λ e.
    let here : at (k ∷ older) n ≡ k = ap (at (k ∷ older)) (sym e) ∙ at_newest k older in
    let parent = parent_known (k ∷ older) apart parents n less in
    subst P (sym here)
    (cond-true (bytes_eq k.id k.id) (k ∷ option_map_or (line_among older) (first_parent k.changeset) []) (line_among older k.id) ((bytes_eq-Decides k.id k.id).1 refl)
    ∙ ap (λ l. k ∷ l) (kept_rest k older (first_parent k.changeset) apart.0 (newest_parent k older parents))))
    (λ other.
    let there : n < length older = omega arith in
    let j = at older n in
    subst P (sym (at_older k older n there))
    (sym (kept_line k older j.id apart.0 (known_back older n there)) ∙ among_step older apart.1 parents.1 n there
    ∙ ap (λ l. j ∷ l) (kept_rest k older (first_parent j.changeset) apart.0 (parent_known older apart.1 parents.1 n there))))
    (cases_eq (length older) n)
  where
    newest_parent : (k : Known) (older : List Known) → HasParents (k ∷ older) → IfSome (first_parent k.changeset) (λ q. is_known older q ≡ true)
    newest_parent k older parents = first_of_all (λ q. is_known older q ≡ true) k.changeset.parents parents.0

    known_back : (older : List Known) (n : ℕ) → n < length older → is_known older (at older n).id ≡ true
    known_back older n less = sym (known_reverse older (at older n).id) ∙ known_here (reverse older) n (let same = length-reverse older in omega arith)

-- ---- in the order in which they came

module _ (ks : List Known) (s : IsStore ks) where
  back : (n : ℕ) → at (reverse ks) n ≡ known_at ks n
  back n = ap (λ js. known_at js n) (reverse-reverse ks)

  pub its_number : (n : ℕ) → n < length ks → number_in ks (known_at ks n).id ≡ Some n
  its_number n less = is_its_number ks (links ks) (are_known ks s) n less

  pub same_number : (m n : ℕ) → m < length ks → n < length ks → (known_at ks m).id ≡ (known_at ks n).id → m ≡ n
  same_number m n first second e = same_Some m n (sym (its_number m first) ∙ ap (number_in ks) e ∙ its_number n second)

  pub parent_there : (n : ℕ) → n < length ks → IfSome (first_parent (known_at ks n).changeset) (λ q. is_known ks q ≡ true)
  parent_there n less =
      known_forward (first_parent (known_at ks n).changeset)
      (let P : Known → Type 0 = λ j. IfSome (first_parent j.changeset) (λ q. is_known (reverse ks) q ≡ true) in
      subst P (back n) (parent_known (reverse ks) (apart_back ks s) s.parents n (let same = length-reverse ks in omega arith)))
    where
      known_forward : (o : Option Id) → IfSome o (λ q. is_known (reverse ks) q ≡ true) → IfSome o (λ q. is_known ks q ≡ true)
      known_forward None h = tt
      known_forward (Some q) h = sym (known_reverse ks q) ∙ h

  rest_by : (q : Id) (o : Option ℕ) → number_in ks q ≡ o → is_some o ≡ true → line ks q ≡ option_map_or (line_at ks) o []
  rest_by q None e h = absurd (true≢false (sym h))
  rest_by q (Some j) e h = ap (line ks) (sym (has_its_id ks (links ks) (are_known ks s) (Some j) q j (sym e) refl))

  rest_is : (o : Option Id) → IfSome o (λ q. is_known ks q ≡ true) → option_map_or (line ks) o [] ≡ option_map_or (line_at ks) (option_and_then (number_in ks) o) []
  rest_is None h = refl
  rest_is (Some q) h = rest_by q (number_in ks q) refl (number_is_some ks (apart_back ks s) q ∙ h)

  -- a line goes on with that of the parent
  pub line_step : (n : ℕ) → n < length ks → line_at ks n ≡ known_at ks n ∷ option_map_or (line_at ks) (parent_at ks n) []
  line_step n less =
      ap (λ j. line_among (reverse ks) j.id) (sym (back n))
      ∙ among_step (reverse ks) (apart_back ks s) s.parents n (let same = length-reverse ks in omega arith)
      ∙ (λ i. back n i ∷ option_map_or (line ks) (first_parent (back n i).changeset) [])
      ∙ ap (λ l. known_at ks n ∷ l) (rest_is (first_parent (known_at ks n).changeset) (parent_there n less) ∙ ap (λ c. option_map_or (line_at ks) (option_and_then (number_in ks) (first_parent c)) []) (known_at-changeset ks n))

  pub own_id : (n : ℕ) → n < length ks → (known_at ks n).id ≡ id_of (known_at ks n).changeset
  own_id n less =
      let P : List Known → Type 0 = λ js. n < length js → (known_at js n).id ≡ id_of (changeset_at js n) in
      subst P s.ids (λ h. id_at (changesets ks) n h) less ∙ ap id_of (sym (known_at-changeset ks n))

  pub parent_below : (o : Option Id) (p : ℕ) → option_and_then (number_in ks) o ≡ Some p → p < length ks
  parent_below None p e = absurd cc
  parent_below (Some q) p e = below q p e
    where
      below : (q : Id) (p : ℕ) → number_in ks q ≡ Some p → p < length ks
      below q p e = number_below ks (apart_back ks s) q p e

  pub parent_in : (n p : ℕ) → parent_at ks n ≡ Some p → p < length ks
  parent_in n p e = parent_below (first_parent (changeset_at ks n)) p e

  pub second_parent_in : (n p : ℕ) → second_parent_at ks n ≡ Some p → p < length ks
  second_parent_in n p e = parent_below (second_of (changeset_at ks n).parents) p e

  -- ---- along a line

  in_line : (m n : ℕ) → IsAncestor ks m n → is_known (line_at ks n) (known_at ks m).id ≡ true
  in_line m n a = sym (known_reverse (line_at ks n) (known_at ks m).id) ∙ a.in_chain

  ancestor : (m n : ℕ) → m < length ks → n < length ks → is_known (line_at ks n) (known_at ks m).id ≡ true → IsAncestor ks m n
  ancestor m n first second h = record { above_known = first; known = second; in_chain = known_reverse (line_at ks n) (known_at ks m).id ∙ h }

  first_of_line : (n : ℕ) → n < length ks → is_known (line_at ks n) (known_at ks n).id ≡ true
  first_of_line n less = ap (λ l. is_known l (known_at ks n).id) (line_step n less) ∙ or_left (bytes_eq (known_at ks n).id (known_at ks n).id) (is_known (option_map_or (line_at ks) (parent_at ks n) []) (known_at ks n).id) ((bytes_eq-Decides (known_at ks n).id (known_at ks n).id).1 refl)

  pub itself : (n : ℕ) → n < length ks → IsAncestor ks n n
  itself n less = ancestor n n less less (first_of_line n less)

  abbrev Line : List Known → ℕ → Type 0
  Line l n = (n < length ks) × (line_at ks n ≡ l)

  -- a fact that passes from child to parent holds all along a line
  along : (P : ℕ → Type 0) → ((n p : ℕ) → P n → parent_at ks n ≡ Some p → P p) → (l : List Known) (n : ℕ) → Line l n → P n → (m : ℕ) → m < length ks → is_known l (known_at ks m).id ≡ true → P m
  along P up [] n at h m less there = absurd (true≢false (sym there))
  along P up (c ∷ older) n at h m less there =
      let same : known_at ks n ∷ option_map_or (line_at ks) (parent_at ks n) [] ≡ c ∷ older = sym (line_step n at.0) ∙ at.1 in
      let first : known_at ks n ≡ c = cc in
      let rest : option_map_or (line_at ks) (parent_at ks n) [] ≡ older = cc in
      or_either (bytes_eq c.id (known_at ks m).id) (is_known older (known_at ks m).id)
      (λ e. subst P (same_number n m at.0 less (ap (λ k. k.id) first ∙ (bytes_eq-Decides c.id (known_at ks m).id).0 e)) h)
      (λ e. by (along P up older) (parent_at ks n) refl rest e) there
    where
      by : ((q : ℕ) → Line older q → P q → (m : ℕ) → m < length ks → is_known older (known_at ks m).id ≡ true → P m) → (o : Option ℕ) → parent_at ks n ≡ o → option_map_or (line_at ks) o [] ≡ older → is_known older (known_at ks m).id ≡ true → P m
      by later None p rest e = absurd (true≢false (sym (ap (λ l. is_known l (known_at ks m).id) rest ∙ e)))
      by later (Some q) p rest e = later q (parent_in n q p, rest) (up n q h p) m less e

  pub all_along : (P : ℕ → Type 0) → ((n p : ℕ) → P n → parent_at ks n ≡ Some p → P p) → (n : ℕ) → n < length ks → P n → (m : ℕ) → IsAncestor ks m n → P m
  all_along P up n less h m a = along P up (line_at ks n) n (less, refl) h m a.above_known (in_line m n a)

  -- the parent of an ancestor is one
  step_up : (l : List Known) (n : ℕ) → Line l n → (a p : ℕ) → a < length ks → parent_at ks a ≡ Some p → is_known l (known_at ks a).id ≡ true → is_known l (known_at ks p).id ≡ true
  step_up [] n at a p less parent there = absurd (true≢false (sym there))
  step_up (c ∷ older) n at a p less parent there =
      let same : known_at ks n ∷ option_map_or (line_at ks) (parent_at ks n) [] ≡ c ∷ older = sym (line_step n at.0) ∙ at.1 in
      let first : known_at ks n ≡ c = cc in
      let rest : option_map_or (line_at ks) (parent_at ks n) [] ≡ older = cc in
      or_right (bytes_eq c.id (known_at ks p).id) (is_known older (known_at ks p).id)
      (or_either (bytes_eq c.id (known_at ks a).id) (is_known older (known_at ks a).id)
      (λ e.
      let here : n ≡ a = same_number n a at.0 less (ap (λ k. k.id) first ∙ (bytes_eq-Decides c.id (known_at ks a).id).0 e) in
      ap (λ l. is_known l (known_at ks p).id) (sym rest ∙ ap (λ o. option_map_or (line_at ks) o []) (ap (parent_at ks) here ∙ parent)) ∙ first_of_line p (parent_in a p parent))
      (λ e. by (step_up older) (parent_at ks n) refl rest e) there)
    where
      by : ((q : ℕ) → Line older q → (a p : ℕ) → a < length ks → parent_at ks a ≡ Some p → is_known older (known_at ks a).id ≡ true → is_known older (known_at ks p).id ≡ true) → (o : Option ℕ) → parent_at ks n ≡ o → option_map_or (line_at ks) o [] ≡ older → is_known older (known_at ks a).id ≡ true → is_known older (known_at ks p).id ≡ true
      by later None q rest e = absurd (true≢false (sym (ap (λ l. is_known l (known_at ks a).id) rest ∙ e)))
      by later (Some q) at_parent rest e = later q (parent_in n q at_parent, rest) a p less parent e

  pub ancestor_up : (a n p : ℕ) → IsAncestor ks a n → parent_at ks a ≡ Some p → IsAncestor ks p n
  ancestor_up a n p of parent = ancestor p n (parent_in a p parent) of.known (step_up (line_at ks n) n (of.known, refl) a p of.above_known parent (in_line a n of))

-- ---- more become known

number_stays : (ks more : List Known) (x : Id) (j : ℕ) → number_in ks x ≡ Some j → number_in (ks ++ more) x ≡ Some j
number_stays ks [] x j e = ap (λ js. number_in js x) (append-nil ks) ∙ e
number_stays ks (k ∷ more) x j e =
    ap (λ js. number_in js x) (sym (append_assoc ks (k ∷ []) more))
    ∙ number_stays (ks ++ k ∷ []) more x j (number_in-push ks k x ∙ ap (λ o. option_or o (cond (bytes_eq k.id x) (Some (length ks)) None)) e)

module _ (ks more : List Known) (own : IsStore ks) where
  number_by : (q : Id) (o : Option ℕ) → number_in ks q ≡ o → is_some o ≡ true → number_in (ks ++ more) q ≡ number_in ks q
  number_by q None e h = absurd (true≢false (sym h))
  number_by q (Some j) e h = number_stays ks more q j e ∙ sym e

  pub parent_by : (o : Option Id) → IfSome o (λ q. is_known ks q ≡ true) → option_and_then (number_in (ks ++ more)) o ≡ option_and_then (number_in ks) o
  parent_by None h = refl
  parent_by (Some q) h = number_by q (number_in ks q) refl (number_is_some ks (apart_back ks own) q ∙ h)

  pub parent_stays : (n : ℕ) → n < length ks → parent_at (ks ++ more) n ≡ parent_at ks n
  parent_stays n less =
      ap (λ c. option_and_then (number_in (ks ++ more)) (first_parent c)) (changeset_at-append ks more n less)
      ∙ parent_by (first_parent (changeset_at ks n)) (let P : Changeset → Type 0 = λ c. IfSome (first_parent c) (λ q. is_known ks q ≡ true) in subst P (known_at-changeset ks n) (parent_there ks own n less))
