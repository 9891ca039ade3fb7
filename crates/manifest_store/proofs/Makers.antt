-- Those that made a file's unode and what it reaches, by their numbers.
--     made ks p n j      the changeset of j is one of them, of the file of the changeset of n
--     IsMaker ks t p n      a settled changeset that made the unode of its file
--     HasMaker ks t p n past      the file of a past has the unode that such a changeset below n made
--     Behind ks t p n      of such a changeset those that made the parents of its unode
use Rattle.std.proofs.Common.{◌≡◌, ℕ, zero, suc, ◌<◌, ◌≤◌, Bool, true, false, cond, not, ◌&&◌, ◌||◌, List, [], ◌∷◌, ◌++◌, map as list_map, length, refl, sym, ap, ◌∙◌, arith}
use Rattle.std.specs.Prelude.{Option, Some, None, is_some, bytes_eq, nat_lt}
use Rattle.std.specs.List.{AllByRecursion, list_any, cons_option, dedup}
use Rattle.std.specs.Option.{option_and_then}
use mathlib.Core.Bool.{true≢false}
use Rattle.std.specs.Cmp.Lexicographic.{nat_list_eq_equiv}
use Rattle.std.proofs.lemmas.Bool.{and_parts, or_parts}
use Rattle.std.proofs.lemmas.List.Folds.{list_any-append}
use Rattle.std.proofs.lemmas.Slice.Eq.{bytes_eq-Decides}
use Rattle.byte_fields.specs.Bytes.{Id}
use Rattle.byte_fields.proofs.Booleans.{not_false, or_false, same_some}
use Rattle.changeset_model.specs.Path.{Path}
use Rattle.changeset_model.specs.Changeset.{File, set_at}
use Rattle.history_model.specs.History.{Known}
use Rattle.history_model.specs.Past.{Past, Begin, At}
use Rattle.history_model.specs.Tree.{files_in, is_file, tree_of}
use Rattle.manifest_model.specs.Unode.{Unode, linknode_of, unode_id}
use Rattle.manifest_model.specs.NodeReading.{unode_of}
use Rattle.manifest_model.specs.Merged.{differ, files_before, is_new_file, side_of, unode_at, makers}
use Rattle.manifest_model.proofs.Derivations.{or_case as or_either}
use Rattle.manifest_model.proofs.Nodes.{unode_is_read}
use Rattle.manifest_laws.proofs.Lists.{none_some}
use Rattle.manifest_laws.proofs.Names.{same_name}
use Rattle.merge_laws.specs.Joined.{files_differ}
use Rattle.merge_laws.proofs.UnodeEntries.{file_made}
use Rattle.unode.specs.Views.{file_in}
use Rattle.unode.specs.History.{parents_of}
use Rattle.node_table.specs.Table.{Table, is_settled}
use Rattle.changeset_store.specs.Store.{number_in, known_at, parent_at, second_parent_at}
use Rattle.changeset_store.specs.Pasts.{past_at, past_at_some}
use Rattle.manifest_store.specs.Manifests.{AreManifests}
use Rattle.manifest_store.specs.Nodes.{file_under}
use Rattle.manifest_store.proofs.Falling.{id_at}
use Rattle.manifest_store.proofs.Held.{file_cases, filed, is_file_node, is_new_at}
use Rattle.manifest_store.proofs.Lines.{its_number, same_number}
use Rattle.manifest_store.proofs.Pasts.{past_step, second_before}
use Rattle.manifest_store.proofs.Earlier.{parent_lower}
use Rattle.manifest_store.proofs.Reading.{file_held}

-- ---- a file's unode is new where both parents' differ

differ_both : (x y : Id) → nat_lt 1 (length (dedup bytes_eq (x ∷ y ∷ []))) ≡ not (bytes_eq x y)
differ_both x y = ap (λ b. nat_lt 1 (length (cond b (x ∷ []) (x ∷ y ∷ [])))) (nat_list_eq_equiv.symm y x) ∙ by (bytes_eq x y)
  where
    by : (b : Bool) → nat_lt 1 (length (cond b (x ∷ []) (x ∷ y ∷ []))) ≡ not b
    by true = refl
    by false = refl

one_same : (b : Bool) (u : Unode) → differ (cons_option (cond b (Some u) None) []) ≡ false
one_same true u = refl
one_same false u = refl

two_differ : (a b : Bool) (u v : Unode) → differ (cons_option (cond a (Some u) None) (cons_option (cond b (Some v) None) [])) ≡ (a && (b && not (bytes_eq (unode_id u) (unode_id v))))
two_differ true true u v = differ_both (unode_id u) (unode_id v)
two_differ true false u v = refl
two_differ false true u v = refl
two_differ false false u v = refl

and_false : (b : Bool) → false ≡ (b && false)
and_false true = refl
and_false false = refl

they_differ : (first second : Past) (p : Path) → differ (files_before (side_of first (unode_at first) ++ side_of second (unode_at second)) p) ≡ files_differ first second p
they_differ Begin Begin p = refl
they_differ Begin (At k a b) p = one_same (is_file (files_in (At k a b)) p) (unode_at (At k a b) p)
they_differ (At k a b) Begin p = one_same (is_file (files_in (At k a b)) p) (unode_at (At k a b) p) ∙ and_false (is_file (files_in (At k a b)) p)
they_differ (At k a b) (At l e f) p = two_differ (is_file (files_in (At k a b)) p) (is_file (files_in (At l e f)) p) (unode_at (At k a b) p) (unode_at (At l e f) p)

new_is : (c : Known) (first second : Past) (p : Path) → is_new_file c (side_of first (unode_at first) ++ side_of second (unode_at second)) p ≡ is_new_at c first second p
new_is c first second p = ap (λ b. is_some (set_at c.changeset p) || b) (they_differ first second p)

-- ---- who is among those that made a file's unodes

abbrev pub among : Past → Path → Id → Bool
among past p x = list_any (bytes_eq x) (makers past p)

if_any : (q : Id → Bool) (b : Bool) (xs : List Id) → list_any q (cond b xs []) ≡ (b && list_any q xs)
if_any q true xs = refl
if_any q false xs = refl

if_one : (q : Id → Bool) (b : Bool) (x : Id) → list_any q (cond b (x ∷ []) []) ≡ (b && q x)
if_one q true x = or_false (q x)
if_one q false x = refl

or_turned : (a b c : Bool) → ((a || b) || c) ≡ (a || (b || c))
or_turned true b c = refl
or_turned false b c = refl

among_step : (c : Known) (first second : Past) (p : Path) (x : Id) → among (At c first second) p x
    ≡ ((is_new_at c first second p && bytes_eq x c.id) || ((is_some (tree_of first p) && among first p x) || (is_some (tree_of second p) && among second p x)))
among_step c first second p x =
    let q : Id → Bool = bytes_eq x in
    let new = is_new_file c (side_of first (unode_at first) ++ side_of second (unode_at second)) p in
    let mine = cond new (c.id ∷ []) [] in
    let one = cond (is_some (tree_of first p)) (makers first p) [] in
    let two = cond (is_some (tree_of second p)) (makers second p) [] in
    list_any-append q (mine ++ one) two ∙ ap (λ b. b || list_any q two) (list_any-append q mine one)
    ∙ or_turned (list_any q mine) (list_any q one) (list_any q two)
    ∙ (λ i. if_one q new c.id i || (list_any q one || list_any q two))
    ∙ (λ i. (new_is c first second p i && bytes_eq x c.id) || (if_any q (is_some (tree_of first p)) (makers first p) i || if_any q (is_some (tree_of second p)) (makers second p) i))

abbrev pub made : List Known → Path → ℕ → ℕ → Bool
made ks p n j = among (past_at ks n) p (id_at ks j)

-- ---- settled changesets with the file

abbrev pub first_past : List Known → ℕ → Past
first_past ks n = past_at_some ks (parent_at ks n)

abbrev pub second_past : List Known → ℕ → Past
second_past ks n = past_at_some ks (second_parent_at ks n)

abbrev pub HasFile : List Known → Path → ℕ → Type 0
HasFile ks p n = (f : File) × (tree_of (past_at ks n) p ≡ Some f)

pub record IsMaker (ks : List Known) (t : Table) (p : Path) (n : ℕ) : Type 0 where
  pub settled : is_settled t n ≡ true
  pub file : HasFile ks p n
  pub new : is_new_at (known_at ks n) (first_past ks n) (second_past ks n) p ≡ true

pub record HasMaker (ks : List Known) (t : Table) (p : Path) (n : ℕ) (past : Past) : Type 0 where
  pub maker : ℕ
  pub is : IsMaker ks t p maker
  pub below : maker < n
  pub node : unode_at past p ≡ unode_at (past_at ks maker) p
  pub makes : (j : ℕ) → among past p (id_at ks j) ≡ made ks p maker j

pub record Behind (ks : List Known) (t : Table) (p : Path) (n : ℕ) : Type 0 where
  pub makers : List ℕ
  pub are : AllByRecursion (λ m. IsMaker ks t p m × (m < n)) makers
  pub ids : parents_of (unode_at (past_at ks n) p) ≡ list_map (λ m. unode_id (unode_at (past_at ks m) p)) makers
  pub makes : (j : ℕ) → made ks p n j ≡ (bytes_eq (id_at ks j) (id_at ks n) || list_any (λ m. made ks p m j) makers)

or_same : (b : Bool) → (b || b) ≡ b
or_same true = refl
or_same false = refl

module _ (ks : List Known) (t : Table) (a : AreManifests ks t) (p : Path) where
  step : (n : ℕ) → is_settled t n ≡ true → past_at ks n ≡ At (known_at ks n) (first_past ks n) (second_past ks n)
  step n settled = past_step ks a.store n (a.numbered n settled)

  there : (n : ℕ) → is_settled t n ≡ true → (f : File) → tree_of (past_at ks n) p ≡ Some f → tree_of (At (known_at ks n) (first_past ks n) (second_past ks n)) p ≡ Some f
  there n settled f e = ap (λ q. tree_of q p) (sym (step n settled)) ∙ e

  -- ---- their nodes stand under their ids

  pub held_node : (n : ℕ) → is_settled t n ≡ true → HasFile ks p n → file_under t.nodes (unode_id (unode_at (past_at ks n) p)) ≡ Some (unode_at (past_at ks n) p)
  held_node n settled f =
      ap (option_and_then (λ bytes. file_in (unode_of bytes))) (file_held t.nodes (past_at ks n) (a.held n settled) p f.0 f.1)
      ∙ ap file_in (unode_is_read (unode_at (past_at ks n) p) ((a.right n (a.numbered n settled)).files p f.0 f.1))
      ∙ is_file_node (past_at ks n) p f.0 f.1

  pub link_is : (n : ℕ) → IsMaker ks t p n → linknode_of (unode_at (past_at ks n) p) ≡ id_at ks n
  link_is n m =
      ap (λ q. linknode_of (unode_at q p)) (step n m.settled)
      ∙ ap linknode_of (file_made (known_at ks n) (first_past ks n) (second_past ks n) p m.file.0 (there n m.settled m.file.0 m.file.1) m.new)

  pub its_maker : (n : ℕ) → IsMaker ks t p n → number_in ks (linknode_of (unode_at (past_at ks n) p)) ≡ Some n
  its_maker n m = ap (number_in ks) (link_is n m) ∙ its_number ks a.store n (a.numbered n m.settled)

  -- one node has one maker
  one_maker : (m n : ℕ) → IsMaker ks t p m → IsMaker ks t p n → unode_id (unode_at (past_at ks m) p) ≡ unode_id (unode_at (past_at ks n) p) → m ≡ n
  one_maker m n one two e =
      let same = same_some (unode_at (past_at ks m) p) (unode_at (past_at ks n) p) (sym (held_node m one.settled one.file) ∙ ap (file_under t.nodes) e ∙ held_node n two.settled two.file) in
      same_number ks a.store m n (a.numbered m one.settled) (a.numbered n two.settled) (sym (link_is m one) ∙ ap linknode_of same ∙ link_is n two)

  -- ---- parents

  abbrev IsSide : ℕ → Option ℕ → Type 0
  IsSide n o = (q : ℕ) → o ≡ Some q → (q < n) × (is_settled t q ≡ true)

  first_side : (n : ℕ) → is_settled t n ≡ true → IsSide n (parent_at ks n)
  first_side n settled q e = (parent_lower ks a.store n q (a.numbered n settled) e, a.parents n q settled e)

  second_side : (n : ℕ) → is_settled t n ≡ true → IsSide n (second_parent_at ks n)
  second_side n settled q e = (second_before ks a.store n q (a.numbered n settled) e, a.second_parents n q settled e)

  made_step : (n : ℕ) → is_settled t n ≡ true → (j : ℕ) → made ks p n j
      ≡ ((is_new_at (known_at ks n) (first_past ks n) (second_past ks n) p && bytes_eq (id_at ks j) (id_at ks n))
      || ((is_some (tree_of (first_past ks n) p) && among (first_past ks n) p (id_at ks j)) || (is_some (tree_of (second_past ks n) p) && among (second_past ks n) p (id_at ks j))))
  made_step n settled j = ap (λ q. among q p (id_at ks j)) (step n settled) ∙ among_step (known_at ks n) (first_past ks n) (second_past ks n) p (id_at ks j)

  -- ---- nobody is above

  module _ (j : ℕ) (known : j < length ks) where
    side_below : (n : ℕ) (o : Option ℕ) → IsSide n o → ((q : ℕ) → q < n → is_settled t q ≡ true → made ks p q j ≡ true → j ≤ q) → (is_some (tree_of (past_at_some ks o) p) && among (past_at_some ks o) p (id_at ks j)) ≡ true → j ≤ n
    side_below n None s later h = absurd (true≢false (sym h))
    side_below n (Some q) s later h =
        let side = s q refl in
        let low = later q side.0 side.1 (and_parts (is_some (tree_of (past_at ks q) p)) (made ks p q j) h).1 in
        let less = side.0 in omega (arith, low, less)

    below : (most n : ℕ) → n < most → is_settled t n ≡ true → made ks p n j ≡ true → j ≤ n
    below zero n less settled h = absurd (omega arith)
    below (suc most) n less settled h =
        let later : (q : ℕ) → q < n → is_settled t q ≡ true → made ks p q j ≡ true → j ≤ q = λ q small. below most q (omega arith) in
        or_either _ _
        (λ mine. (let same = same_number ks a.store j n known (a.numbered n settled) ((bytes_eq-Decides (id_at ks j) (id_at ks n)).0 (and_parts _ _ mine).1) in omega (arith, same)))
        (λ rest. or_either _ _ (side_below n (parent_at ks n) (first_side n settled) later) (side_below n (second_parent_at ks n) (second_side n settled) later) rest)
        (sym (made_step n settled j) ∙ h)

  pub made_below : (n j : ℕ) → is_settled t n ≡ true → j < length ks → made ks p n j ≡ true → j ≤ n
  made_below n j settled known h = below j known (suc n) n (omega arith) settled h

  -- ---- who made the node

  raised : (m n : ℕ) (past : Past) → m ≤ n → HasMaker ks t p m past → HasMaker ks t p n past
  raised m n past more h = record { maker = h.maker; is = h.is; below = (let less = h.below in omega (arith, less, more)); node = h.node; makes = h.makes }

  side : (n : ℕ) (o : Option ℕ) → IsSide n o → ((q : ℕ) → q < n → is_settled t q ≡ true → HasFile ks p q → HasMaker ks t p (suc q) (past_at ks q)) → (g : File) → tree_of (past_at_some ks o) p ≡ Some g → HasMaker ks t p n (past_at_some ks o)
  side n None s later g e = none_some g e
  side n (Some q) s later g e = let b = s q refl in raised (suc q) n (past_at ks q) (let less = b.0 in omega (arith, less)) (later q b.0 b.1 (g, e))

  -- of two parents with one node
  both_one : (n : ℕ) (first second : Past) (one : HasMaker ks t p n first) (two : HasMaker ks t p n second) → unode_id (unode_at first p) ≡ unode_id (unode_at second p) → (j : ℕ) → made ks p two.maker j ≡ made ks p one.maker j
  both_one n first second one two e j =
      ap (λ m. made ks p m j) (one_maker two.maker one.maker two.is one.is (ap unode_id (sym two.node) ∙ sym e ∙ ap unode_id one.node))

  module _ (n : ℕ) (settled : is_settled t n ≡ true) (f : File) (e : tree_of (past_at ks n) p ≡ Some f)
      (later : (q : ℕ) → q < n → is_settled t q ≡ true → HasFile ks p q → HasMaker ks t p (suc q) (past_at ks q)) where
    abbrev first : Past
    first = first_past ks n

    abbrev second : Past
    second = second_past ks n

    abbrev is_new : Bool
    is_new = is_new_at (known_at ks n) (first_past ks n) (second_past ks n) p

    first_maker : (g : File) → tree_of first p ≡ Some g → HasMaker ks t p n first
    first_maker g h = side n (parent_at ks n) (first_side n settled) later g h

    second_maker : (g : File) → tree_of second p ≡ Some g → HasMaker ks t p n second
    second_maker g h = side n (second_parent_at ks n) (second_side n settled) later g h

    equal_ids : is_new ≡ false → (g : File) → tree_of first p ≡ Some g → (k : File) → tree_of second p ≡ Some k → unode_id (unode_at first p) ≡ unode_id (unode_at second p)
    equal_ids old g h k l =
        let same = (or_parts (is_some (set_at (known_at ks n).changeset p)) (files_differ first second p) old).1 in
        same_name (unode_id (unode_at first p)) (unode_id (unode_at second p)) (not_false (bytes_eq (unode_id (unode_at first p)) (unode_id (unode_at second p)))
        (sym (λ i. filed first p (Some g) h i && (filed second p (Some k) l i && not (bytes_eq (unode_id (unode_at first p)) (unode_id (unode_at second p))))) ∙ same))

    makes_by : (b : Bool) → is_new ≡ b → (o q : Option File) → tree_of first p ≡ o → tree_of second p ≡ q → (j : ℕ) → made ks p n j ≡ ((b && bytes_eq (id_at ks j) (id_at ks n)) || ((is_some o && among first p (id_at ks j)) || (is_some q && among second p (id_at ks j))))
    makes_by b new o q h k j = made_step n settled j ∙ (λ i. (new i && bytes_eq (id_at ks j) (id_at ks n)) || ((is_some (h i) && among first p (id_at ks j)) || (is_some (k i) && among second p (id_at ks j))))

    kept_of : (past : Past) (m : HasMaker ks t p n past) → unode_at (At (known_at ks n) first second) p ≡ unode_at past p → ((j : ℕ) → made ks p n j ≡ made ks p m.maker j) → HasMaker ks t p (suc n) (past_at ks n)
    kept_of past m same makes = record {
      maker = m.maker;
      is = m.is;
      below = (let less = m.below in omega (arith, less));
      node = ap (λ q. unode_at q p) (step n settled) ∙ same ∙ m.node;
      makes = makes;
    }

    of_first : is_new ≡ false → (g : File) (h : tree_of first p ≡ Some g) → unode_at (At (known_at ks n) first second) p ≡ unode_at first p → (q : Option File) → tree_of second p ≡ q → HasMaker ks t p (suc n) (past_at ks n)
    of_first old g h same None k =
        let m = first_maker g h in
        kept_of first m same (λ j. makes_by false old (Some g) None h k j ∙ or_false (among first p (id_at ks j)) ∙ m.makes j)
    of_first old g h same (Some l) k =
        let m = first_maker g h in
        let two = second_maker l k in
        kept_of first m same (λ j. (
        makes_by false old (Some g) (Some l) h k j
        ∙ (λ i. m.makes j i || (two.makes j ∙ both_one n first second m two (equal_ids old g h l k) j) i)
        ∙ or_same (made ks p m.maker j)))

    pub has_one : HasMaker ks t p (suc n) (past_at ks n)
    has_one =
        file_cases (known_at ks n) first second p f (there n settled f e)
        (λ new. record { maker = n; is = record { settled = settled; file = (f, e); new = new }; below = omega arith; node = refl; makes = λ j. refl })
        (λ old g h same. of_first old g h same (tree_of second p) refl)
        (λ old none g h same. (let m = second_maker g h in kept_of second m same (λ j. makes_by false old None (Some g) none h j ∙ m.makes j)))

    -- ---- and its parents

    module _ (new : is_new ≡ true) where
      node_made : unode_at (past_at ks n) p ≡ unode_at (At (known_at ks n) first second) p
      node_made = ap (λ q. unode_at q p) (step n settled)

      ids_by : (o q : Option File) → tree_of first p ≡ o → tree_of second p ≡ q → parents_of (unode_at (past_at ks n) p) ≡ dedup bytes_eq (cond (is_some o) (unode_id (unode_at first p) ∷ []) [] ++ cond (is_some q) (unode_id (unode_at second p) ∷ []) [])
      ids_by o q h k =
          ap parents_of (node_made ∙ file_made (known_at ks n) first second p f (there n settled f e) new)
          ∙ (λ i. dedup bytes_eq (cond (filed first p o h i) (unode_id (unode_at first p) ∷ []) [] ++ cond (filed second p q k i) (unode_id (unode_at second p) ∷ []) []))

      mine : ℕ → Bool
      mine j = bytes_eq (id_at ks j) (id_at ks n)

      both_by : (one : HasMaker ks t p n first) (two : HasMaker ks t p n second) (b : Bool) → bytes_eq (unode_id (unode_at second p)) (unode_id (unode_at first p)) ≡ b
          → parents_of (unode_at (past_at ks n) p) ≡ cond b (unode_id (unode_at first p) ∷ []) (unode_id (unode_at first p) ∷ unode_id (unode_at second p) ∷ [])
          → ((j : ℕ) → made ks p n j ≡ (bytes_eq (id_at ks j) (id_at ks n) || (among first p (id_at ks j) || among second p (id_at ks j)))) → Behind ks t p n
      both_by one two true same ids makes = record {
        makers = one.maker ∷ [];
        are = ((one.is, one.below), tt);
        ids = ids ∙ (λ i. unode_id (one.node i) ∷ []);
        makes = λ j. (makes j
            ∙ (λ i. bytes_eq (id_at ks j) (id_at ks n) || (one.makes j i || (two.makes j ∙ both_one n first second one two (sym (same_name (unode_id (unode_at second p)) (unode_id (unode_at first p)) same)) j) i))
            ∙ ap (λ b. bytes_eq (id_at ks j) (id_at ks n) || b) (or_same (made ks p one.maker j) ∙ sym (or_false (made ks p one.maker j))));
      }
      both_by one two false same ids makes = record {
        makers = one.maker ∷ two.maker ∷ [];
        are = ((one.is, one.below), ((two.is, two.below), tt));
        ids = ids ∙ (λ i. unode_id (one.node i) ∷ unode_id (two.node i) ∷ []);
        makes = λ j. (makes j
            ∙ (λ i. bytes_eq (id_at ks j) (id_at ks n) || (one.makes j i || (two.makes j ∙ sym (or_false (made ks p two.maker j))) i)));
      }

      behind_by : (o q : Option File) → tree_of first p ≡ o → tree_of second p ≡ q → Behind ks t p n
      behind_by None None h k = record { makers = []; are = tt; ids = ids_by None None h k; makes = λ j. makes_by true new None None h k j }
      behind_by (Some g) None h k =
          let one = first_maker g h in
          record {
            makers = one.maker ∷ [];
            are = ((one.is, one.below), tt);
            ids = ids_by (Some g) None h k ∙ (λ i. unode_id (one.node i) ∷ []);
            makes = λ j. (makes_by true new (Some g) None h k j ∙ (λ i. bytes_eq (id_at ks j) (id_at ks n) || (one.makes j i || false)));
          }
      behind_by None (Some l) h k =
          let two = second_maker l k in
          record {
            makers = two.maker ∷ [];
            are = ((two.is, two.below), tt);
            ids = ids_by None (Some l) h k ∙ (λ i. unode_id (two.node i) ∷ []);
            makes = λ j. (makes_by true new None (Some l) h k j ∙ (λ i. bytes_eq (id_at ks j) (id_at ks n) || (two.makes j ∙ sym (or_false (made ks p two.maker j))) i));
          }
      behind_by (Some g) (Some l) h k =
          both_by (first_maker g h) (second_maker l k) (bytes_eq (unode_id (unode_at second p)) (unode_id (unode_at first p))) refl
          (ids_by (Some g) (Some l) h k) (makes_by true new (Some g) (Some l) h k)

      pub behind_one : Behind ks t p n
      behind_one = behind_by (tree_of first p) (tree_of second p) refl refl

  has_below : (most n : ℕ) → n < most → is_settled t n ≡ true → HasFile ks p n → HasMaker ks t p (suc n) (past_at ks n)
  has_below zero n less settled f = absurd (omega arith)
  has_below (suc most) n less settled f = has_one n settled f.0 f.1 (λ q small. has_below most q (omega arith))

  pub has_maker : (n : ℕ) → is_settled t n ≡ true → HasFile ks p n → HasMaker ks t p (suc n) (past_at ks n)
  has_maker n settled f = has_below (suc n) n (omega arith) settled f

  pub behind : (n : ℕ) → IsMaker ks t p n → Behind ks t p n
  behind n m = behind_one n m.settled m.file.0 m.file.1 (λ q small settled f. has_maker q settled f) m.new
