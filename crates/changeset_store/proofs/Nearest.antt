-- The nearest changeset with two parents on a line, by ids and by numbers.
--     nearest_is      it is the first of the members of the line
--     merge_ancestor, merge_earlier, merge_is      it is one of them, and has two parents
--     none_past, is_between      of what follows an ancestor none comes after it
--     nearest_below, nearest_step      it came no later, and it is that of the parent where the changeset has one parent at most
--     merged_more      what is kept of one more
use Rattle.std.proofs.Common.{◌≡◌, ℕ, suc, ◌<◌, ◌≤◌, Bool, ◌||◌, ◌==◌, true, false, cond, List, [], ◌∷◌, ◌++◌, length, map, reverse, refl, sym, ap, subst, ◌∙◌, arith, ⊎_elim}
use Rattle.std.specs.Prelude.{Option, Some, None, option_map, find, IfSome, slice_get}
use Rattle.std.specs.List.{AllByRecursion, slice_index_or}
use Rattle.std.specs.Option.{option_and_then, option_map_or, option_or}
use Rattle.std.proofs.lemmas.Bool.{cases_eq, eq-eqb, or_left, or_right, or_cases}
use Rattle.std.proofs.lemmas.List.Folds.{find-append, list_any-append}
use Rattle.std.proofs.lemmas.Option.{slice_get-get_or}
use Rattle.byte_fields.proofs.Lists.{all_reverse, weaker, both_parts, none_found, get_next as slice_get-push_at}
use Rattle.changeset_model.specs.Changeset.{Changeset}
use Rattle.history_model.specs.History.{Known, with_id}
use Rattle.reply_model.specs.Reply.{is_merge}
use Rattle.ancestry.specs.Forest as forest
use Rattle.ancestry.proofs.Lines.{AreFalling, is_member-reverse, line-push_at, line-push_other, member_passes, members_below, members_fall, slice_get-push_other}
use Rattle.ancestry.proofs.Nearest.{step_of}
use Rattle.ancestry.proofs.Following.{after_of}
use Rattle.changeset_store.specs.Store.{number_in, parent_at, known_at, changeset_at}
use Rattle.changeset_store.specs.Fork.{following_at, IsAncestor}
use Rattle.changeset_store.specs.Merges.{nearest_merge_at, IsBetween}
use Rattle.changeset_store.specs.Numbers.{merge_on_line}
use Rattle.changeset_store.proofs.Places.{known_at-changeset, changeset_at-append, changeset_at-last}
use Rattle.changeset_store.proofs.Mapped.{find-map}
use Rattle.changeset_store.proofs.Ancestors.{AreKnown, are_earlier, line_is, number_again, number_of_member}
use Rattle.changeset_store.proofs.Parents.{parent_is}
use Rattle.changeset_store.proofs.Forks.{ancestor_by, following_by_numbers, is_member, joined, length-links}

-- ---- what is found in a list

module _ {X : Type 0} (p : X → Bool) where
  found_by : (P : X → Type 0) (x : X) (o : Option X) (b : Bool) → P x → IfSome o P → IfSome (cond b (Some x) o) P
  found_by P x o true here later = here
  found_by P x o false here later = later

  found_all : (P : X → Type 0) (xs : List X) → AllByRecursion P xs → IfSome (find p xs) P
  found_all P [] all = tt
  found_all P (x ∷ xs) all = found_by P x (find p xs) (p x) all.0 (found_all P xs all.1)

  passes_by : (x : X) (o : Option X) (b : Bool) → p x ≡ b → IfSome o (λ y. p y ≡ true) → IfSome (cond b (Some x) o) (λ y. p y ≡ true)
  passes_by x o true e later = e
  passes_by x o false e later = later

  found_passes : (xs : List X) → IfSome (find p xs) (λ x. p x ≡ true)
  found_passes [] = tt
  found_passes (x ∷ xs) = passes_by x (find p xs) (p x) refl (found_passes xs)

  none_by_all : (xs : List X) → AllByRecursion (λ x. p x ≡ false) xs → find p xs ≡ None
  none_by_all [] all = refl
  none_by_all (x ∷ xs) all = ap (λ b. cond b (Some x) (find p xs)) all.0 ∙ none_by_all xs all.1

  none_reversed : (xs : List X) → find p xs ≡ None → find p (reverse xs) ≡ None
  none_reversed xs e = none_by_all (reverse xs) (all_reverse (λ x. p x ≡ false) xs (none_found p xs e))

find_same : {X : Type 0} (p q : X → Bool) (xs : List X) → AllByRecursion (λ x. p x ≡ q x) xs → find p xs ≡ find q xs
find_same p q [] all = refl
find_same p q (x ∷ xs) all = (λ i. cond (all.0 i) (Some x) (find_same p q xs all.1 i))

found_member : (p : ℕ → Bool) (xs : List ℕ) (m : ℕ) → find p xs ≡ Some m → forest.is_member m xs ≡ true
found_member p xs m e = subst (λ o. IfSome o (λ n. forest.is_member n xs ≡ true)) e (found_all p (λ n. forest.is_member n xs ≡ true) xs (members xs))
  where
    more : (x : ℕ) (xs ys : List ℕ) → AllByRecursion (λ n. forest.is_member n xs ≡ true) ys → AllByRecursion (λ n. forest.is_member n (x ∷ xs) ≡ true) ys
    more x xs [] all = tt
    more x xs (y ∷ ys) all = (or_right (x == y) (forest.is_member y xs) all.0, more x xs ys all.1)

    members : (xs : List ℕ) → AllByRecursion (λ n. forest.is_member n xs ≡ true) xs
    members [] = tt
    members (x ∷ xs) = (or_left (x == x) (forest.is_member x xs) (eq-eqb x x refl), more x xs xs (members xs))

-- what stands before a number in a falling list is above it
above_all : (bs : List ℕ) (a : ℕ) (rest : List ℕ) → AreFalling (bs ++ a ∷ rest) → AllByRecursion (λ b. a < b) bs
above_all [] a rest falls = tt
above_all (b ∷ bs) a rest falls = ((both_parts (λ m. m < b) bs (a ∷ rest) falls.0).1.0, above_all bs a rest falls.1)

-- ---- on a line

module _ (ks : List Known) (ps : List (Option ℕ)) (k : AreKnown ks ps) where
  abbrev is_merge_at : ℕ → Bool
  is_merge_at m = is_merge (changeset_at ks m)

  its_number : (o : Option ℕ) → IfSome o (λ m. m < length ks) → option_and_then (λ j. number_in ks j.id) (option_map (known_at ks) o) ≡ o
  its_number None less = refl
  its_number (Some m) less = number_again ks ps k (known_at ks m).id m (number_of_member ks ps k m less)

  pub nearest_is : (n : ℕ) → n < length ks → nearest_merge_at ks n ≡ merge_on_line ks ps n
  nearest_is n less =
      ap (option_and_then (λ j. number_in ks j.id))
      (ap (find (λ j. is_merge j.changeset)) (sym (line_is ks ps k (known_at ks n).id n (number_of_member ks ps k n less)))
      ∙ find-map (λ j. is_merge j.changeset) (known_at ks) (forest.line ps n)
      ∙ (λ i. option_map (known_at ks) (find (λ m. is_merge (known_at-changeset ks m i)) (forest.line ps n))))
      ∙ its_number (find is_merge_at (forest.line ps n)) (found_all is_merge_at (λ m. m < length ks) (forest.line ps n) (subst (λ len. AllByRecursion (λ m. m < len) (forest.line ps n)) (length-links ks ps k) (members_below ps n)))

  -- ---- from a number

  module _ (n : ℕ) (less : n < length ks) where
    abbrev on_line : List ℕ
    on_line = forest.line ps n

    not_later : AllByRecursion (λ m. m ≤ n) on_line
    not_later =
        let opens = (step_of ps n (are_earlier ks ps k) (let same = length-links ks ps k in omega arith)).opens in
        subst (AllByRecursion (λ m. m ≤ n)) (sym opens)
        (omega arith, weaker (λ m. m < n) (λ m. m ≤ n) (λ m h. omega arith) _ (subst AreFalling opens (members_fall ps n)).0)

    -- of two ancestors the lower one is the other's
    below_ancestor : (m above : ℕ) → IsAncestor ks m n → IsAncestor ks above n → above < m → IsAncestor ks above m
    below_ancestor m above of_n a below =
        let e = are_earlier ks ps k in
        let after = after_of ps m n e (is_member ks ps k m n of_n) in
        let opens = (step_of ps m e after.1.known).opens in
        let falls = subst AreFalling (after.1.line_is ∙ ap (λ l. after.0 ++ l) opens) (members_fall ps n) in
        let there : (forest.is_member above after.0 || forest.is_member above (forest.line ps m)) ≡ true =
        sym (ap (forest.is_member above) after.1.line_is ∙ list_any-append (λ j. j == above) after.0 (forest.line ps m)) ∙ sym (is_member-reverse above on_line) ∙ is_member ks ps k above n a
        in
        ancestor_by ks ps k above m of_n.above_known
        (is_member-reverse above (forest.line ps m)
        ∙ ⊎_elim (λ h. let over = member_passes (λ b. m < b) above after.0 h (above_all after.0 m _ falls) in absurd (omega arith)) (λ h. h) (or_cases (forest.is_member above after.0) (forest.is_member above (forest.line ps m)) there))

    module _ (o : Option ℕ) (is : o ≡ merge_on_line ks ps n) where
      pub merge_is : IfSome o (λ m. is_merge (changeset_at ks m) ≡ true)
      merge_is = subst (λ o. IfSome o (λ m. is_merge (changeset_at ks m) ≡ true)) (sym is) (found_passes is_merge_at on_line)

      pub merge_earlier : IfSome o (λ m. m ≤ n)
      merge_earlier = subst (λ o. IfSome o (λ m. m ≤ n)) (sym is) (found_all is_merge_at (λ m. m ≤ n) on_line not_later)

      pub merge_ancestor : IfSome o (λ m. IsAncestor ks m n)
      merge_ancestor = by o is
        where
          by : (o : Option ℕ) → o ≡ merge_on_line ks ps n → IfSome o (λ m. IsAncestor ks m n)
          by None e = tt
          by (Some m) e = ancestor_by ks ps k m n less (is_member-reverse m on_line ∙ found_member is_merge_at on_line m (sym e))

      -- of what follows an ancestor none has two parents, unless it is above that
      pub none_past : (above : ℕ) → IsAncestor ks above n → IfSome o (λ m. m ≤ above) → find is_merge (following_at ks above n) ≡ None
      none_past above a past =
          let there = is_member ks ps k above n a in
          let after = after_of ps above n (are_earlier ks ps k) there in
          let opens = (step_of ps above (are_earlier ks ps k) after.1.known).opens in
          let falls = subst AreFalling (after.1.line_is ∙ ap (λ l. after.0 ++ l) opens) (members_fall ps n) in
          let whole : find is_merge_at on_line ≡ option_or (find is_merge_at after.0) (find is_merge_at (forest.line ps above)) = ap (find is_merge_at) after.1.line_is ∙ find-append is_merge_at after.0 (forest.line ps above) in
          let none : find is_merge_at after.0 ≡ None = none_before (find is_merge_at after.0) (find is_merge_at (forest.line ps above)) (is ∙ whole) (found_all is_merge_at (λ b. above < b) after.0 (above_all after.0 above _ falls)) past in
          ap (find is_merge) (following_by_numbers ks ps k above n a ∙ ap (map (changeset_at ks)) after.1.following_is)
          ∙ find-map is_merge (changeset_at ks) (reverse after.0)
          ∙ ap (option_map (changeset_at ks)) (none_reversed is_merge_at after.0 none)
        where
          none_before : (first later : Option ℕ) → o ≡ option_or first later → IfSome first (λ b. above < b) → IfSome o (λ m. m ≤ above) → first ≡ None
          none_before None later e over past = refl
          none_before (Some b) later e over past = let under = subst (λ o. IfSome o (λ m. m ≤ above)) e past in absurd (omega arith)

      -- an ancestor that is below it is one of its own
      pub is_between : IfSome o (λ m. (above : ℕ) → IsAncestor ks above n → above < m → IsBetween ks above m n)
      is_between = by o merge_ancestor
        where
          by : (o : Option ℕ) → IfSome o (λ m. IsAncestor ks m n) → IfSome o (λ m. (above : ℕ) → IsAncestor ks above n → above < m → IsBetween ks above m n)
          by None of_n = tt
          by (Some m) of_n = λ above a below.
              let up = below_ancestor m above of_n a below in
              record { ancestor = up; following = joined ks ps k m n of_n above (are_earlier ks ps k) up }

-- ---- goes on with the parent's

module _ (ks : List Known) (ps : List (Option ℕ)) (k : AreKnown ks ps) (n : ℕ) (less : n < length ks) where
  pub nearest_below : IfSome (nearest_merge_at ks n) (λ m. m ≤ n)
  nearest_below = merge_earlier ks ps k n less (nearest_merge_at ks n) (nearest_is ks ps k n less)

  -- one with two parents is its own, and any other has that of its parent
  pub nearest_step : nearest_merge_at ks n ≡ cond (is_merge (changeset_at ks n)) (Some n) (option_and_then (nearest_merge_at ks) (parent_at ks n))
  nearest_step =
      let within : n < length ps = let same = length-links ks ps k in omega arith in
      let step = step_of ps n (are_earlier ks ps k) within in
      let parent = parent_is ks ps k n (slice_index_or ps n None) less (slice_get-get_or ps n None within) in
      nearest_is ks ps k n less ∙ ap (find (is_merge_at ks ps k)) step.opens
      ∙ ap (cond (is_merge (changeset_at ks n)) (Some n)) (above_it (slice_index_or ps n None) step.earlier ∙ ap (option_and_then (nearest_merge_at ks)) parent)
    where
      above_it : (o : Option ℕ) → IfSome o (λ q. q < n) → find (is_merge_at ks ps k) (option_map_or (forest.line ps) o []) ≡ option_and_then (nearest_merge_at ks) o
      above_it None earlier = refl
      above_it (Some q) earlier = sym (nearest_is ks ps k q (omega arith))

-- ---- of one more

module _ (ks : List Known) (ps : List (Option ℕ)) (k : AreKnown ks ps) (c : Changeset) where
  abbrev more : List Known
  more = ks ++ with_id c ∷ []

  line_stays : (n : ℕ) → find (λ m. is_merge (changeset_at more m)) (forest.line ps n) ≡ merge_on_line ks ps n
  line_stays n =
      find_same (λ m. is_merge (changeset_at more m)) (λ m. is_merge (changeset_at ks m)) (forest.line ps n)
      (weaker (λ m. m < length ps) (λ m. is_merge (changeset_at more m) ≡ is_merge (changeset_at ks m)) (λ m below. ap is_merge (changeset_at-append ks (with_id c ∷ []) m (let same = length-links ks ps k in omega arith))) (forest.line ps n) (members_below ps n))

  above_it : (parent : Option ℕ) → IfSome parent (λ p. p < length ks) → find (λ m. is_merge (changeset_at more m)) (option_map_or (forest.line ps) parent []) ≡ option_and_then (nearest_merge_at ks) parent
  above_it None less = refl
  above_it (Some p) less = line_stays p ∙ sym (nearest_is ks ps k p less)

  pub merged_more : (ms : List (Option ℕ)) → length ms ≡ length ps → ((n : ℕ) → n < length ps → slice_get ms n ≡ Some (merge_on_line ks ps n))
      → (parent : Option ℕ) → IfSome parent (λ p. p < length ks) → (merge : Option ℕ) → merge ≡ cond (is_merge c) (Some (length ks)) (option_and_then (nearest_merge_at ks) parent)
      → (n : ℕ) → n < suc (length ps) → slice_get (ms ++ merge ∷ []) n ≡ Some (merge_on_line more (ps ++ parent ∷ []) n)
  merged_more ms each before parent known merge is n less = ⊎_elim
      (λ e.
      let p : ℕ → Bool = λ m. is_merge (changeset_at more m) in
      let last : changeset_at more (length ps) ≡ c = ap (changeset_at more) (length-links ks ps k) ∙ changeset_at-last ks c in
      ap (slice_get (ms ++ merge ∷ [])) (sym (each ∙ e)) ∙ slice_get-push_at ms merge
      ∙ ap Some
      (is
      ∙ (λ i. cond (is_merge (sym last i)) (Some (sym (length-links ks ps k) i)) (sym (above_it parent known) i))
      ∙ ap (find p) (sym (line-push_at ps parent))
      ∙ ap (merge_on_line more (ps ++ parent ∷ [])) e))
      (λ other.
      let below : n < length ps = omega arith in
      slice_get-push_other ms merge n (λ h. other (sym each ∙ h)) ∙ before n below
      ∙ ap Some (sym (line_stays n) ∙ ap (find (λ m. is_merge (changeset_at more m))) (sym (line-push_other ps parent n below))))
      (cases_eq (length ps) n)
