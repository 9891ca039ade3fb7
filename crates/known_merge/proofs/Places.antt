-- The places of a lineage are the numbers of the known changesets.
--     Grown ks n ms      these are the members of the first n
use Rattle.std.proofs.Common.{◌≡◌, ℕ, suc, ◌+◌, ◌<◌, ◌≤◌, Bool, true, false, cond, List, [], ◌∷◌, ◌++◌, drop, get_or, length, map, reverse, refl, sym, ap, subst, ◌∙◌, arith}
use Rattle.std.specs.Prelude.{Option, None, Some, IfSome, Result, Ok, Err, IfOk, bytes_eq}
use Rattle.std.specs.List.{AllByRecursion}
use Rattle.std.specs.Option.{option_and_then}
use mathlib.Core.List.{reverse-cons}
use Rattle.std.proofs.lemmas.List.{map-append, append-nil, append_assoc, reverse-append, reverse-reverse, length-map, length-append, length-reverse}
use Rattle.std.proofs.lemmas.Bool.{or_right}
use Rattle.byte_fields.specs.Bytes.{Id}
use Rattle.byte_fields.proofs.Lists.{all_reverse, both_parts}
use Rattle.changeset_model.specs.Path.{Path}
use Rattle.changeset_model.specs.Changeset.{File, Changeset, id_of}
use Rattle.history_model.specs.History.{Known, Entry, Change, unnumbered, with_id, each_id_once, is_known}
use Rattle.history_model.specs.Chain.{changesets, first_parent, HasParents}
use Rattle.history_model.specs.Past.{second_of}
use Rattle.history_model.specs.Merge.{unresolved}
use Rattle.history_model.specs.Tree.{files_of}
use Rattle.history_model.proofs.Chains.{first_of_all}
use Rattle.reply_model.proofs.Lines.{AreOnce, known_once, second_of_all}
use Rattle.reply_model.proofs.Parents.{brought, known_right}
use Rattle.changeset_store.specs.Store.{number_in, changeset_at, parent_at, second_parent_at}
use Rattle.changeset_store.specs.Numbers.{number_among, AreApart}
use Rattle.changeset_store.proofs.Numbering.{number_is}
use Rattle.changeset_store.proofs.Parents.{kept_number}
use Rattle.merge_tree.specs.Lineage.{Member, place_among, place_of, members_among, lineage_of}
use Rattle.reply_model.specs.Reply.{unresolved_of}

-- ---- no two have one id

abbrev uploads : List Known → List Entry
uploads ks = map (λ (k : Known). unnumbered (Change k.changeset)) ks

brought_uploads : (ks : List Known) → brought (uploads ks) ≡ map with_id (changesets ks)
brought_uploads [] = refl
brought_uploads (k ∷ ks) = ap (λ js. with_id k.changeset ∷ js) (brought_uploads ks)

once_of : (ks : List Known) → map with_id (changesets ks) ≡ ks → each_id_once ks ≡ ks → AreOnce (reverse ks)
once_of ks ids distinct = subst (λ js. AreOnce (reverse js)) (ap each_id_once (brought_uploads ks ∙ ids) ∙ distinct) (known_once (uploads ks))

out_by : (ks : List Known) (x : Id) → (is_known ks x ≡ true → ⊥) → is_known ks x ≡ false
out_by ks x never = by (is_known ks x) refl
  where
    by : (b : Bool) → is_known ks x ≡ b → is_known ks x ≡ false
    by true e = absurd (never e)
    by false e = e

apart_of : (ks : List Known) → AreOnce ks → AreApart ks
apart_of [] once = tt
apart_of (k ∷ ks) once = (out_by ks k.id once.0, apart_of ks once.1)

-- ---- places and numbers

abbrev HasOwnId : Known → Type 0
HasOwnId k = k.id ≡ id_of k.changeset

own_ids : (cs : List Changeset) → AllByRecursion HasOwnId (map with_id cs)
own_ids [] = tt
own_ids (c ∷ cs) = (refl, own_ids cs)

placed : (ks : List Known) (x : Id) → AllByRecursion HasOwnId ks → place_among (changesets ks) x ≡ number_among ks x
placed [] x ids = refl
placed (k ∷ older) x ids = (λ i. cond (bytes_eq (sym ids.0 i) x) (Some (length-map older (λ (k : Known). k.changeset) i)) (placed older x ids.1 i))

reverse_changesets : (ks : List Known) → reverse (changesets ks) ≡ changesets (reverse ks)
reverse_changesets [] = refl
reverse_changesets (k ∷ ks) =
    reverse-cons k.changeset (changesets ks) ∙ ap (λ cs. cs ++ k.changeset ∷ []) (reverse_changesets ks)
    ∙ sym (ap changesets (reverse-cons k ks) ∙ map-append (λ (k : Known). k.changeset) (reverse ks) (k ∷ []))

place_is : (ks : List Known) (x : Id) → AllByRecursion HasOwnId ks → place_of (changesets ks) x ≡ number_among (reverse ks) x
place_is ks x ids = ap (λ cs. place_among cs x) (reverse_changesets ks) ∙ placed (reverse ks) x (all_reverse HasOwnId ks ids)

kept_all : (js older : List Known) (p : Id) → AreApart (js ++ older) → is_known older p ≡ true → number_among (js ++ older) p ≡ number_among older p
kept_all [] older p apart there = refl
kept_all (j ∷ js) older p apart there = sym (kept_number j (js ++ older) p apart.0 (known_right js older p there)) ∙ kept_all js older p apart.1 there

parents_in : (js : List Known) (k : Known) (older : List Known) → HasParents (js ++ k ∷ older) → AllByRecursion (λ p. is_known older p ≡ true) k.changeset.parents
parents_in [] k older h = h.0
parents_in (j ∷ js) k older h = parents_in js k older h.1

same_on : (f g : Id → Option ℕ) (o : Option Id) → IfSome o (λ p. f p ≡ g p) → option_and_then f o ≡ option_and_then g o
same_on f g None h = refl
same_on f g (Some p) h = h

if_some : (P Q : Id → Type 0) (o : Option Id) → ((p : Id) → P p → Q p) → IfSome o P → IfSome o Q
if_some P Q None then h = tt
if_some P Q (Some p) then h = then p h

here_is : (older : List Known) (k : Known) (rest : List Known) → changeset_at (older ++ k ∷ rest) (length older) ≡ k.changeset
here_is [] k rest = refl
here_is (j ∷ older) k rest = here_is older k rest

-- ---- one more

abbrev Adds : Changeset → List Member → Option ℕ → Option ℕ → List Member → Type 0
Adds c ms first second more = (cs : List Changeset) → ms ≡ lineage_of cs → first ≡ option_and_then (place_of cs) (first_parent c) → second ≡ option_and_then (place_of cs) (second_of c.parents) → more ≡ lineage_of (cs ++ c ∷ [])

pub record Grown (ks : List Known) (n : ℕ) (ms : List Member) : Type 0 where
  pub older : List Known
  pub newer : List Known
  pub ks_are : ks ≡ older ++ newer
  pub long : length older ≡ n
  pub members : ms ≡ lineage_of (changesets older)

module _ (ks : List Known) (ids : map with_id (changesets ks) ≡ ks) (distinct : each_id_once ks ≡ ks) (parents : HasParents (reverse ks)) where
  own : AllByRecursion HasOwnId ks
  own = subst (AllByRecursion HasOwnId) ids (own_ids (changesets ks))

  apart : AreApart (reverse ks)
  apart = apart_of (reverse ks) (once_of ks ids distinct)

  number_is_among : (x : Id) → number_in ks x ≡ number_among (reverse ks) x
  number_is_among x = ap (λ js. number_in js x) (sym (reverse-reverse ks)) ∙ number_is (reverse ks) apart x

  pub place_known : (x : Id) → place_of (changesets ks) x ≡ number_in ks x
  place_known x = place_is ks x own ∙ sym (number_is_among x)

  module _ (older rest : List Known) (k : Known) (are : ks ≡ older ++ k ∷ rest) where
    turned : reverse ks ≡ reverse rest ++ k ∷ reverse older
    turned =
        ap reverse are ∙ reverse-append older (k ∷ rest) ∙ ap (λ (js : List Known). js ++ reverse older) (reverse-cons k rest)
        ∙ append_assoc (reverse rest) (k ∷ []) (reverse older)

    place_before : (p : Id) → is_known (reverse older) p ≡ true → number_in ks p ≡ place_of (changesets older) p
    place_before p there =
        let all : AreApart (reverse rest ++ k ∷ reverse older) = subst AreApart turned apart in
        let own_older = (both_parts HasOwnId older (k ∷ rest) (subst (AllByRecursion HasOwnId) are own)).0 in
        number_is_among p ∙ ap (λ js. number_among js p) turned
        ∙ kept_all (reverse rest) (k ∷ reverse older) p all (or_right (bytes_eq k.id p) (is_known (reverse older) p) there)
        ∙ sym (kept_number k (reverse older) p (apart_here (reverse rest) all) there)
        ∙ sym (place_is older p own_older)
      where
        apart_here : (js : List Known) → AreApart (js ++ k ∷ reverse older) → is_known (reverse older) k.id ≡ false
        apart_here [] a = a.0
        apart_here (j ∷ js) a = apart_here js a.1

    known_before : AllByRecursion (λ p. is_known (reverse older) p ≡ true) k.changeset.parents
    known_before = parents_in (reverse rest) k (reverse older) (subst HasParents turned parents)

    first_place : option_and_then (number_in ks) (first_parent k.changeset) ≡ option_and_then (place_of (changesets older)) (first_parent k.changeset)
    first_place =
        same_on (number_in ks) (place_of (changesets older)) (first_parent k.changeset)
        (if_some (λ p. is_known (reverse older) p ≡ true) _ (first_parent k.changeset) place_before (first_of_all (λ p. is_known (reverse older) p ≡ true) k.changeset.parents known_before))

    second_place : option_and_then (number_in ks) (second_of k.changeset.parents) ≡ option_and_then (place_of (changesets older)) (second_of k.changeset.parents)
    second_place =
        same_on (number_in ks) (place_of (changesets older)) (second_of k.changeset.parents)
        (if_some (λ p. is_known (reverse older) p ≡ true) _ (second_of k.changeset.parents) place_before (second_of_all (λ p. is_known (reverse older) p ≡ true) k.changeset.parents known_before))

  grows_by : (n : ℕ) (ms : List Member) (older newer : List Known) → ks ≡ older ++ newer → length older ≡ n → ms ≡ lineage_of (changesets older) → n < length ks → (first second : Option ℕ) → first ≡ parent_at ks n → second ≡ second_parent_at ks n → (c : Changeset) → c ≡ changeset_at ks n → (more : List Member) → Adds c ms first second more → Grown ks (n + 1) more
  grows_by n ms older [] are long members less first second first_is second_is c same more adds = absurd (let all = ap (λ js. length js) are ∙ length-append older [] in omega arith)
  grows_by n ms older (k ∷ rest) are long members less first second first_is second_is c same more adds =
      let here : c ≡ k.changeset = same ∙ (λ i. changeset_at (are i) (sym long i)) ∙ here_is older k rest in
      record {
        older = older ++ k ∷ [];
        newer = rest;
        ks_are = are ∙ sym (append_assoc older (k ∷ []) rest);
        long = length-append older (k ∷ []) ∙ ap (λ n. n + 1) long;
        members =
            adds (changesets older) members
            (first_is ∙ ap (λ d. option_and_then (number_in ks) (first_parent d)) (sym same) ∙ subst (λ c. option_and_then (number_in ks) (first_parent c) ≡ option_and_then (place_of (changesets older)) (first_parent c)) (sym here) (first_place older rest k are))
            (second_is ∙ ap (λ (d : Changeset). option_and_then (number_in ks) (second_of d.parents)) (sym same) ∙ subst (λ (c : Changeset). option_and_then (number_in ks) (second_of c.parents) ≡ option_and_then (place_of (changesets older)) (second_of c.parents)) (sym here) (second_place older rest k are))
            ∙ ap lineage_of (ap (λ c. changesets older ++ c ∷ []) here ∙ sym (map-append (λ (k : Known). k.changeset) older (k ∷ [])));
      }

  pub one_grown : (n : ℕ) (ms : List Member) → Grown ks n ms → n < length ks → (first second : Option ℕ) → first ≡ parent_at ks n → second ≡ second_parent_at ks n → (c : Changeset) → c ≡ changeset_at ks n → (more : List Member) → Adds c ms first second more → Grown ks (n + 1) more
  one_grown n ms g less first second first_is second_is c same more adds = grows_by n ms g.older g.newer g.ks_are g.long g.members less first second first_is second_is c same more adds

pub none_grown : (ks : List Known) → Grown ks 0 []
none_grown ks = record { older = []; newer = ks; ks_are = refl; long = refl; members = refl }

all_by : (ks : List Known) (ms : List Member) (older newer : List Known) → ks ≡ older ++ newer → length ks ≤ length older → ms ≡ lineage_of (changesets older) → ms ≡ lineage_of (changesets ks)
all_by ks ms older [] are all members = members ∙ ap (λ ks. lineage_of (changesets ks)) (sym (append-nil older) ∙ sym are)
all_by ks ms older (k ∷ rest) are all members = absurd (let long = ap (λ js. length js) are ∙ length-append older (k ∷ rest) in omega arith)

pub all_grown : (ks : List Known) (n : ℕ) (ms : List Member) → Grown ks n ms → length ks ≤ n → ms ≡ lineage_of (changesets ks)
all_grown ks n ms g all = all_by ks ms g.older g.newer g.ks_are (subst (λ n. length ks ≤ n) (sym g.long) all) g.members

-- ---- its length

length_among : (cs : List Changeset) → length (members_among cs) ≡ length cs
length_among [] = refl
length_among (c ∷ cs) = ap suc (length_among cs)

pub length_lineage : (ks : List Known) → length (lineage_of (changesets ks)) ≡ length ks
length_lineage ks =
    length-reverse (members_among (reverse (changesets ks))) ∙ length_among (reverse (changesets ks)) ∙ length-reverse (changesets ks) ∙ length-map ks (λ (k : Known). k.changeset)

pub longer : (ks : List Known) (n : ℕ) (ms : List Member) → Grown ks n ms → length ms ≡ n
longer ks n ms g = ap (λ ms. length ms) g.members ∙ length_lineage g.older ∙ g.long

-- ---- what a merge leaves

alone_by : (ks : List Known) (c : Changeset) (ps : List Id) → length ps < 2 → None ≡ unresolved_of ks c ps
alone_by ks c [] few = refl
alone_by ks c (p ∷ []) few = refl
alone_by ks c (p ∷ q ∷ ps) few = absurd (omega arith)

pub left_alone : (ks : List Known) (c : Changeset) (ps : List Id) → ps ≡ c.parents → length ps < 2 → None ≡ unresolved_of ks c c.parents
left_alone ks c ps are few = subst (λ ps. None ≡ unresolved_of ks c ps) are (alone_by ks c ps few)

-- the first two of at least two
pub two_of : (ps : List Id) → 2 ≤ length ps → (p q : Id) → p ≡ get_or ps 0 p → q ≡ get_or ps 1 q → ps ≡ p ∷ q ∷ drop 2 ps
two_of [] many p q p_is q_is = absurd (omega arith)
two_of (x ∷ []) many p q p_is q_is = absurd (omega arith)
two_of (x ∷ y ∷ ps) many p q p_is q_is = (λ i. sym p_is i ∷ sym q_is i ∷ ps)

module _ (ks : List Known) (ids : map with_id (changesets ks) ≡ ks) (c : Changeset) (p q : Id) (rest : List Id) (are : c.parents ≡ p ∷ q ∷ rest) where
  pub of_two : (left right : List (Path × File)) → left ≡ files_of (map with_id (changesets ks)) p → right ≡ files_of (map with_id (changesets ks)) q → unresolved c left right ≡ unresolved_of ks c c.parents
  of_two left right left_is right_is =
      (λ i. unresolved c ((left_is ∙ ap (λ ks. files_of ks p) ids) i) ((right_is ∙ ap (λ ks. files_of ks q) ids) i))
      ∙ ap (unresolved_of ks c) (sym are)

pub told : {E : Type 0} (A : Type 0) (result : Result (Option Path) E) (x y : Option Path) → IfOk result (λ path. path ≡ x) → x ≡ y → IfOk result (λ path. A → path ≡ y)
told A (Ok path) x y is same = λ all. is ∙ same
told A (Err e) x y is same = tt
