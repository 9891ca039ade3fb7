-- What follows an ancestor in a chain are changesets of later numbers, each of which is in the chain.
--     IsNumbered ks above last c      c has such a number
--     AreStored ks      what a store tells of its changesets
--     each_numbered      each that follows has one
use Rattle.std.proofs.Common.{◌≡◌, ℕ, ◌<◌, ◌≤◌, Bool, true, ◌&&◌, nat_lt, List, [], ◌∷◌, ◌++◌, map, length, reverse, refl, sym, ap, subst, ◌∙◌, arith, lt-ltb}
use Rattle.std.specs.Prelude.{Option, Some, None, IfSome, flat_map}
use Rattle.std.specs.List.{AllByRecursion}
use Rattle.std.specs.Option.{option_and_then}
use Rattle.std.proofs.lemmas.Bool.{false_from_ne_true}
use Rattle.std.proofs.lemmas.List.{length-reverse, reverse-reverse, append_assoc}
use Rattle.byte_fields.specs.Bytes.{Id}
use Rattle.byte_fields.proofs.Lists.{weaker, both_parts, all_reverse}
use Rattle.changeset_model.specs.Changeset.{Changeset}
use Rattle.history_model.specs.History.{Entry, Change, Known, with_id, each_id_once, changesets_in, is_known}
use Rattle.history_model.specs.Chain.{first_parent, HasParents, changesets}
use Rattle.reply_model.proofs.Lines.{AreOnce, known_once}
use Rattle.ancestry.specs.Forest as forest
use Rattle.ancestry.specs.Forest.{EarlierAmong, AreEarlier, line, is_member}
use Rattle.ancestry.proofs.Lines.{AreFalling, is_member-reverse, is_member-head, is_member-append_right, members_below, members_fall}
use Rattle.ancestry.proofs.Nearest.{step_of}
use Rattle.ancestry.proofs.Following.{after_of}
use Rattle.changeset_store.specs.Store.{known_at, changeset_at}
use Rattle.changeset_store.specs.Fork.{chain_at, following_at, IsAncestor}
use Rattle.changeset_store.specs.Numbers.{AreApart, parents_among, number_among}
use Rattle.changeset_store.proofs.Numbering.{in_range}
use Rattle.changeset_store.proofs.Ancestors.{AreKnown, length-parents, number_of_member, in_chain}
use Rattle.changeset_store.proofs.Forks.{is_member as member_by, following_by_numbers}
use Rattle.repo_machine.specs.Touches.{is_in_chain}

-- ---- of numbers alone

abbrev IsLater : List (Option ℕ) → ℕ → ℕ → ℕ → Type 0
IsLater ps m x j = (m < j) × (j ≤ x) × (is_member j (line ps x) ≡ true) × (j < length ps)

all_of_four : {X : Type 0} (P Q R S : X → Type 0) (xs : List X) → AllByRecursion P xs → AllByRecursion Q xs → AllByRecursion R xs → AllByRecursion S xs → AllByRecursion (λ x. P x × Q x × R x × S x) xs
all_of_four P Q R S [] p q r s = tt
all_of_four P Q R S (x ∷ xs) p q r s = ((p.0, q.0, r.0, s.0), all_of_four P Q R S xs p.1 q.1 r.1 s.1)

all_above : (m : ℕ) (before rest : List ℕ) → AreFalling (before ++ (m ∷ rest)) → AllByRecursion (λ j. m < j) before
all_above m [] rest falls = tt
all_above m (b ∷ before) rest falls = ((both_parts (λ k. k < b) before (m ∷ rest) falls.0).1.0, all_above m before rest falls.1)

all_members : (front xs : List ℕ) → AllByRecursion (λ j. is_member j (front ++ xs) ≡ true) xs
all_members front [] = tt
all_members front (x ∷ xs) =
    (is_member-append_right x front (x ∷ xs) (is_member-head x xs), subst (λ ys. AllByRecursion (λ j. is_member j ys ≡ true) xs) (append_assoc front (x ∷ []) xs) (all_members (front ++ x ∷ []) xs))

none_above : (x : ℕ) (rest : List ℕ) → AreFalling (x ∷ rest) → AllByRecursion (λ j. j ≤ x) (x ∷ rest)
none_above x rest falls = (omega arith, weaker (λ j. j < x) (λ j. j ≤ x) (λ j less. omega arith) rest falls.0)

module _ (ps : List (Option ℕ)) (m x : ℕ) (earlier : AreEarlier ps) (less : x < length ps) where
  all_in_line : AllByRecursion (λ j. j ≤ x) (line ps x)
  all_in_line =
      let opens = (step_of ps x earlier less).opens in
      subst (AllByRecursion (λ j. j ≤ x)) (sym opens) (none_above x _ (subst AreFalling opens (members_fall ps x)))

  pub all_later : is_member m (forest.chain ps x) ≡ true → AllByRecursion (IsLater ps m x) (forest.following m (forest.chain ps x))
  all_later there =
      let after = after_of ps m x earlier there in
      let before = after.0 in
      let is = after.1.line_is in
      let opens = (step_of ps m earlier after.1.known).opens in
      subst (AllByRecursion (IsLater ps m x)) (sym after.1.following_is)
      (all_reverse (IsLater ps m x) before
      (all_of_four (λ j. m < j) (λ j. j ≤ x) (λ j. is_member j (line ps x) ≡ true) (λ j. j < length ps) before
      (all_above m before _ (subst AreFalling (is ∙ ap (λ rest. before ++ rest) opens) (members_fall ps x)))
      (both_parts (λ j. j ≤ x) before (line ps m) (subst (AllByRecursion (λ j. j ≤ x)) is all_in_line)).0
      (both_parts (λ j. is_member j (line ps x) ≡ true) before (line ps m) (subst (AllByRecursion (λ j. is_member j (line ps x) ≡ true)) is (all_members [] (line ps x)))).0
      (both_parts (λ j. j < length ps) before (line ps m) (subst (AllByRecursion (λ j. j < length ps)) is (members_below ps x))).0))

-- ---- of known changesets

pub record AreStored (ks : List Known) : Type 0 where
  pub ids : map with_id (changesets ks) ≡ ks
  pub once : each_id_once ks ≡ ks
  pub parents : HasParents (reverse ks)

abbrev story : List Known → List Entry
story ks = map (λ k. record { who = 0; body = Change k.changeset }) ks

told : (ks : List Known) → flat_map (λ e. changesets_in e.body) (story ks) ≡ changesets ks
told [] = refl
told (k ∷ ks) = ap (λ cs. k.changeset ∷ cs) (told ks)

apart_of : (ks : List Known) → AreOnce ks → AreApart ks
apart_of [] u = tt
apart_of (k ∷ ks) u = (false_from_ne_true (is_known ks k.id) u.0, apart_of ks u.1)

apart_back : (ks : List Known) → AreStored ks → AreApart (reverse ks)
apart_back ks s = apart_of (reverse ks) (subst (λ js. AreOnce (reverse js)) (ap each_id_once (ap (map with_id) (told ks) ∙ s.ids) ∙ s.once) (known_once (story ks)))

-- the numbers of their first parents
abbrev links : List Known → List (Option ℕ)
links ks = reverse (parents_among (reverse ks))

are_known : (ks : List Known) → AreStored ks → AreKnown ks (links ks)
are_known ks s = record { apart = apart_back ks s; parents_known = s.parents; linked = reverse-reverse (parents_among (reverse ks)) }

length-links : (ks : List Known) → length (links ks) ≡ length ks
length-links ks = length-reverse (parents_among (reverse ks)) ∙ length-parents (reverse ks) ∙ length-reverse ks

parent_below : (older : List Known) (p : Option Id) → IfSome (option_and_then (number_among older) p) (λ q. q < length (parents_among older))
parent_below older None = tt
parent_below older (Some p) = subst (λ len. IfSome (number_among older p) (λ q. q < len)) (sym (length-parents older)) (in_range older p)

earlier_among : (ks : List Known) → EarlierAmong (parents_among ks)
earlier_among [] = tt
earlier_among (k ∷ older) = (parent_below older (first_parent k.changeset), earlier_among older)

are_earlier : (ks : List Known) → AreEarlier (links ks)
are_earlier ks = subst EarlierAmong (sym (reverse-reverse (parents_among (reverse ks)))) (earlier_among (reverse ks))

pub record IsNumbered (ks : List Known) (above last : ℕ) (c : Changeset) : Type 0 where
  pub number : ℕ
  pub later : above < number
  pub not_after : number ≤ last
  pub in_line : is_in_chain ks last number ≡ true
  pub is : changeset_at ks number ≡ c

all_map : {X Y : Type 0} (f : X → Y) (P : Y → Type 0) (xs : List X) → AllByRecursion (λ x. P (f x)) xs → AllByRecursion P (map f xs)
all_map f P [] all = tt
all_map f P (x ∷ xs) all = (all.0, all_map f P xs all.1)

all_three : (a b c : Bool) → a ≡ true → b ≡ true → c ≡ true → (a && (b && c)) ≡ true
all_three a b c first then last = (λ i. first i && (then i && last i))

module _ (ks : List Known) (s : AreStored ks) (above last : ℕ) (h : IsAncestor ks above last) where
  numbered : (j : ℕ) → IsLater (links ks) above last j → IsNumbered ks above last (changeset_at ks j)
  numbered j later =
      let long = length-links ks in
      let below : j < length ks = (let less = later.3 in omega arith) in
      let k = are_known ks s in
      record {
        number = j;
        later = later.0;
        not_after = later.1;
        in_line = all_three (nat_lt last (length ks)) (nat_lt j (length ks)) (is_known (chain_at ks last) (known_at ks j).id) (lt-ltb last (length ks) h.known) (lt-ltb j (length ks) below)
            (in_chain ks (links ks) k (known_at ks last).id last j (number_of_member ks (links ks) k last h.known) below ∙ is_member-reverse j (line (links ks) last) ∙ later.2);
        is = refl;
      }

  pub each_numbered : AllByRecursion (IsNumbered ks above last) (following_at ks above last)
  each_numbered =
      let ps = links ks in
      let k = are_known ks s in
      let members = forest.following above (forest.chain ps last) in
      subst (AllByRecursion (IsNumbered ks above last)) (sym (following_by_numbers ks ps k above last h))
      (all_map (changeset_at ks) (IsNumbered ks above last) members
      (weaker (IsLater ps above last) (λ j. IsNumbered ks above last (changeset_at ks j)) numbered members
      (all_later ps above last (are_earlier ks) (let long = length-links ks in let known = h.known in omega arith) (member_by ks ps k above last h))))
