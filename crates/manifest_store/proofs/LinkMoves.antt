-- Down the line of first parents, while no merge is met and the file keeps its unode.
use Rattle.std.proofs.Common.{◌≡◌, ℕ, zero, suc, ◌<◌, ◌≤◌, max, arith, lt-ltb, ◌⊎◌, inl, inr, ⊎_elim, [], ◌∷◌, Bool, true, false, cond, not, ◌&&◌, ◌||◌, List, length, refl, sym, ap, subst, ◌∙◌}
use Rattle.std.specs.Prelude.{Option, Some, None, IfSome, option_map, nat_lt, is_none, is_some, ◌==◌}
use Rattle.std.specs.Option.{option_and_then, option_eq, option_map_or, option_or}
use mathlib.Core.Bool.{true≢false}
use Rattle.std.specs.Cmp.Lexicographic.{nat_list_eq_equiv}
use Rattle.std.proofs.lemmas.Bool.{and_parts, or_parts, eq-eqb, eqb-true}
use Rattle.byte_fields.specs.Bytes.{Id}
use Rattle.byte_fields.proofs.Booleans.{not_false, same_some}
use Rattle.changeset_model.specs.Path.{Path}
use Rattle.changeset_model.specs.Changeset.{Changeset, File, kind_byte, set_at}
use Rattle.history_model.specs.History.{Known}
use Rattle.history_model.specs.Merge.{file_eq}
use Rattle.history_model.specs.Past.{Past, At, second_of}
use Rattle.reply_model.specs.Reply.{is_merge}
use Rattle.history_model.specs.Tree.{decides, tree_of}
use Rattle.manifest_model.specs.Unode.{linknode_of}
use Rattle.manifest_model.specs.Merged.{unode_at}
use Rattle.manifest_model.specs.Deleted.{is_logged}
use Rattle.manifest_laws.proofs.Lists.{none_some}
use Rattle.merge_laws.specs.Joined.{files_differ}
use Rattle.path_log.proofs.Links.{asked_on}
use Rattle.node_table.specs.Table.{Table, is_settled}
use Rattle.changeset_store.specs.Store.{changeset_at, known_at, number_in, parent_at, second_parent_at}
use Rattle.changeset_store.specs.Pasts.{past_at, past_at_some}
use Rattle.changeset_store.specs.Merges.{nearest_merge_at}
use Rattle.changeset_store.proofs.Nearest.{nearest_below, nearest_step}
use Rattle.changeset_store.proofs.Pasts.{second_id}
use Rattle.changeset_store.proofs.Places.{known_at-changeset}
use Rattle.manifest_store.specs.Manifests.{AreManifests}
use Rattle.manifest_store.specs.PathLines.{IsEnd, IsLinkOf, has_file_at, is_logged_at, last_logged_at, link_at}
use Rattle.manifest_store.proofs.Held.{file_cases, is_new_at, some_of}
use Rattle.manifest_store.proofs.Earlier.{parent_lower}
use Rattle.manifest_store.specs.Lines.{IsStore}
use Rattle.manifest_store.proofs.Lines.{are_known, links}
use Rattle.manifest_store.proofs.LogLinks.{earlier}
use Rattle.manifest_store.proofs.Makers.{first_past, has_maker, its_maker, second_past}
use Rattle.manifest_store.proofs.Pasts.{past_step}

file_eq_itself : (f : File) → file_eq f f ≡ true
file_eq_itself f = λ i. (nat_list_eq_equiv.refl f.content i && eq-eqb (kind_byte f.kind) (kind_byte f.kind) refl i) && eq-eqb f.size f.size refl i

-- ---- a changeset is logged where it sets the path, or where a file comes or goes

abbrev pub moved : Bool → Bool → Bool
moved has had = cond has (not had) had

differs_as : (o q : Option File) → ((f g : File) → o ≡ Some f → q ≡ Some g → f ≡ g) → not (option_eq file_eq o q) ≡ moved (is_some o) (is_some q)
differs_as None None same = refl
differs_as None (Some g) same = refl
differs_as (Some f) None same = refl
differs_as (Some f) (Some g) same = ap not (ap (file_eq f) (sym (same f g refl refl)) ∙ file_eq_itself f)

module _ (c : Known) (first second : Past) (p : Path) where
  -- what isn't set is the first parent's, where that has a file
  kept_file : is_some (set_at c.changeset p) ≡ false → (f g : File) → tree_of (At c first second) p ≡ Some f → tree_of first p ≡ Some g → f ≡ g
  kept_file unset f g here there = by (decides c.changeset p) here
    where
      by : (b : Bool) → cond b (set_at c.changeset p) (option_or (tree_of first p) (tree_of second p)) ≡ Some f → f ≡ g
      by true e = absurd (true≢false (sym (ap is_some e) ∙ unset))
      by false e = same_some f g (sym e ∙ ap (λ o. option_or o (tree_of second p)) there)

  pub logged_as : is_logged (At c first second) p ≡ (is_some (set_at c.changeset p) || moved (is_some (tree_of (At c first second) p)) (is_some (tree_of first p)))
  logged_as = by (is_some (set_at c.changeset p)) refl
    where
      by : (b : Bool) → is_some (set_at c.changeset p) ≡ b → (b || not (option_eq file_eq (tree_of (At c first second) p) (tree_of first p))) ≡ (b || moved (is_some (tree_of (At c first second) p)) (is_some (tree_of first p)))
      by true e = refl
      by false e = differs_as (tree_of (At c first second) p) (tree_of first p) (kept_file e)

-- the first parent, whose file has the same link
pub record IsNext (ks : List Known) (t : Table) (p : Path) (link n q : ℕ) : Type 0 where
  pub settled : is_settled t q ≡ true
  pub below : q < n
  pub is_link : IsLinkOf ks p q link
  pub last : last_logged_at ks p q ≡ last_logged_at ks p n

-- ---- where the line of a file ends

module _ (ks : List Known) (t : Table) (p : Path) (n : ℕ) where
  pub ends_settled : (r : Option ℕ) → IfSome r (IsEnd ks t p n) → IfSome r (λ e. is_settled t e ≡ true)
  ends_settled None end = tt
  ends_settled (Some e) end = end.settled

  pub ends_file : (r : Option ℕ) → IfSome r (IsEnd ks t p n) → IfSome r (λ e. has_file_at ks p e ≡ true)
  ends_file None end = tt
  ends_file (Some e) end = end.file

-- ---- a changeset has two parents where it has a second

two_parents : (c : Changeset) → is_merge c ≡ is_some (second_of c.parents)
two_parents c = by c.parents
  where
    by : (ps : List Id) → nat_lt 1 (length ps) ≡ is_some (second_of ps)
    by [] = refl
    by (q ∷ []) = refl
    by (q ∷ r ∷ ps) = lt-ltb 1 (suc (suc (length ps))) (omega arith)

merge_has_second : (ks : List Known) → IsStore ks → (n : ℕ) → n < length ks → is_merge (changeset_at ks n) ≡ is_some (second_parent_at ks n)
merge_has_second ks s n less = two_parents (changeset_at ks n) ∙ ap is_some (sym (second_id ks (links ks) (are_known ks s) n less (second_parent_at ks n) refl)) ∙ some_mapped (second_parent_at ks n)
  where
    some_mapped : (o : Option ℕ) → is_some (option_map (λ m. (known_at ks m).id) o) ≡ is_some o
    some_mapped None = refl
    some_mapped (Some m) = refl

some_if_not_none : (o : Option ℕ) → is_none o ≡ false → is_some o ≡ true
some_if_not_none None e = absurd cc
some_if_not_none (Some m) e = refl

none_is_not_some : (o : Option ℕ) → is_none o ≡ true → is_some o ≡ false
none_is_not_some None e = refl
none_is_not_some (Some m) e = absurd cc

and_false_parts : (a b : Bool) → (a && b) ≡ false → (a ≡ false) ⊎ (b ≡ false)
and_false_parts true b e = inr e
and_false_parts false b e = inl e

module _ (ks : List Known) (t : Table) (a : AreManifests ks t) (p : Path) where
  pub logged_at_is : (n : ℕ) → is_settled t n ≡ true → (set has had : Bool) → set ≡ is_some (set_at (changeset_at ks n) p) → has ≡ has_file_at ks p n → had ≡ is_some (tree_of (past_at_some ks (parent_at ks n)) p) → (set || moved has had) ≡ is_logged_at ks p n
  logged_at_is n settled set has had s h k =
      let is = past_step ks a.store n (a.numbered n settled) in
      (λ i. (s ∙ ap (λ c. is_some (set_at c p)) (sym (known_at-changeset ks n))) i || moved ((h ∙ ap (λ q. is_some (tree_of q p)) is) i) (k i))
      ∙ sym (ap (λ q. is_logged q p) is ∙ logged_as (known_at ks n) (first_past ks n) (second_past ks n) p)

  -- ---- from a changeset that isn't the link's and has one parent

  module _ (link n : ℕ) (settled : is_settled t n ≡ true) (is : IsLinkOf ks p n link) (plain : (not (n == link) && is_none (second_parent_at ks n)) ≡ true) where
    abbrev first : Past
    first = first_past ks n

    abbrev second : Past
    second = second_past ks n

    step : past_at ks n ≡ At (known_at ks n) first second
    step = past_step ks a.store n (a.numbered n settled)

    file : (f : File) × (tree_of (past_at ks n) p ≡ Some f)
    file = some_of (tree_of (past_at ks n) p) is.file

    there : tree_of (At (known_at ks n) first second) p ≡ Some file.0
    there = ap (λ q. tree_of q p) (sym step) ∙ file.1

    no_second : (o : Option ℕ) → second_parent_at ks n ≡ o → is_none o ≡ true → second_parent_at ks n ≡ None
    no_second None e h = e
    no_second (Some m) e h = absurd (true≢false (sym h))

    parts : (not (n == link) ≡ true) × (is_none (second_parent_at ks n) ≡ true)
    parts = and_parts (not (n == link)) (is_none (second_parent_at ks n)) plain

    other : {P : Type 0} → n ≡ link → P
    other e = absurd (true≢false (sym parts.0 ∙ ap not (eq-eqb n link e)))

    quiet : is_new_at (known_at ks n) first second p ≡ false → (g : File) → tree_of first p ≡ Some g → is_logged_at ks p n ≡ false
    quiet old g h =
        let unset = (or_parts (is_some (set_at (known_at ks n).changeset p)) (files_differ first second p) old).0 in
        ap (λ q. is_logged q p) step ∙ logged_as (known_at ks n) first second p
        ∙ (λ i. unset i || moved (is_some (there i)) (is_some (h i)))

    next : (q : ℕ) → parent_at ks n ≡ Some q → is_new_at (known_at ks n) first second p ≡ false → (g : File) → tree_of first p ≡ Some g → unode_at (At (known_at ks n) first second) p ≡ unode_at first p → IsNext ks t p link n q
    next q e old g h same =
        let up : first_past ks n ≡ past_at ks q = ap (past_at_some ks) e in
        record {
          settled = a.parents n q settled e;
          below = parent_lower ks a.store n q (a.numbered n settled) e;
          is_link = record {
            file = ap (λ x. is_some (tree_of x p)) (sym up) ∙ ap is_some h;
            maker = ap (λ x. number_in ks (linknode_of (unode_at x p))) (sym up) ∙ ap (λ u. number_in ks (linknode_of u)) (sym same) ∙ ap (λ x. number_in ks (linknode_of (unode_at x p))) (sym step) ∙ is.maker;
          };
          last = asked_on (is_settled t) (parent_at ks) (earlier ks t a) (is_logged_at ks p) (Some n) n (Some q) (last_logged_at ks p n) refl settled (quiet old g h) (sym e) refl;
        }

    module _ {P : Type 0} (found : is_new_at (known_at ks n) first second p ≡ false → (g : File) → tree_of first p ≡ Some g → unode_at (At (known_at ks n) first second) p ≡ unode_at first p → P) where
      kept_first : P
      kept_first =
          file_cases (known_at ks n) first second p file.0 there
          (λ new. other (same_some n link (sym (its_maker ks t a p n (record { settled = settled; file = file; new = new })) ∙ is.maker)))
          found
          (λ old none g h same. none_some g (sym (ap (λ o. tree_of (past_at_some ks o) p) (no_second (second_parent_at ks n) refl parts.1)) ∙ h))

    pub is_next : (q : ℕ) → Some q ≡ parent_at ks n → IsNext ks t p link n q
    is_next q e = kept_first (next q (sym e))

    pub has_parent : None ≡ parent_at ks n → ⊥
    has_parent e = kept_first (λ old g h same. none_some g (ap (λ o. tree_of (past_at_some ks o) p) e ∙ h))

  -- ---- the first that is the link's or has two parents

  -- who made the file came no later
  link_below : (n link : ℕ) → is_settled t n ≡ true → IsLinkOf ks p n link → link ≤ n
  link_below n link settled is =
      let m = has_maker ks t a p n settled (some_of (tree_of (past_at ks n) p) is.file) in
      let same = same_some link m.maker (sym is.maker ∙ ap (λ u. number_in ks (linknode_of u)) m.node ∙ its_maker ks t a p m.maker m.is) in
      let below = m.below in
      omega arith

  module _ (link : ℕ) where
    abbrev pub higher : Option ℕ → ℕ
    higher o = option_map_or (λ m. max m link) o link

    no_higher : (n : ℕ) (o : Option ℕ) → n ≡ link → IfSome o (λ m. m ≤ n) → higher o ≡ n
    no_higher n None e below = sym e
    no_higher n (Some m) e below = omega arith

    itself : (n : ℕ) → is_settled t n ≡ true → IsLinkOf ks p n link → (not (n == link) && is_none (second_parent_at ks n)) ≡ false → higher (nearest_merge_at ks n) ≡ n
    itself n settled is end = ⊎_elim
        (λ here. no_higher n (nearest_merge_at ks n) (eqb-true n link (not_false (n == link) here)) (nearest_below ks (links ks) (are_known ks a.store) n (a.numbered n settled)))
        (λ two.
        let less = a.numbered n settled in
        let below = link_below n link settled is in
        let merge : is_merge (changeset_at ks n) ≡ true = merge_has_second ks a.store n less ∙ some_if_not_none (second_parent_at ks n) two in
        ap higher (nearest_step ks (links ks) (are_known ks a.store) n less ∙ ap (λ b. cond b (Some n) (option_and_then (nearest_merge_at ks) (parent_at ks n))) merge) ∙ omega arith)
        (and_false_parts (not (n == link)) (is_none (second_parent_at ks n)) end)

    module _ (n : ℕ) (settled : is_settled t n ≡ true) (is : IsLinkOf ks p n link) (o : Option ℕ) (e : nearest_merge_at ks n ≡ o) where
      abbrev Later : Type 0
      Later = (q : ℕ) → q < n → is_settled t q ≡ true → IsLinkOf ks p q link → nearest_merge_at ks q ≡ o → IsEnd ks t p q (higher o)

      none : (not (n == link) && is_none (second_parent_at ks n)) ≡ true → is_merge (changeset_at ks n) ≡ false
      none plain = merge_has_second ks a.store n (a.numbered n settled) ∙ none_is_not_some (second_parent_at ks n) (and_parts (not (n == link)) (is_none (second_parent_at ks n)) plain).1

      up : Later → (not (n == link) && is_none (second_parent_at ks n)) ≡ true → (q : Option ℕ) → parent_at ks n ≡ q → IsEnd ks t p n (higher o)
      up later plain None parent = absurd (has_parent link n settled is plain (sym parent))
      up later plain (Some q) parent =
          let next = is_next link n settled is plain q (sym parent) in
          let same : nearest_merge_at ks q ≡ o =
          sym (nearest_step ks (links ks) (are_known ks a.store) n (a.numbered n settled) ∙ (λ i. cond (none plain i) (Some n) (option_and_then (nearest_merge_at ks) (parent i)))) ∙ e
          in
          let end = later q next.below next.settled next.is_link same in
          record { settled = end.settled; upto = (let lower = end.upto in let below = next.below in omega arith); file = end.file; last = end.last ∙ next.last }

      end_by : Later → (b : Bool) → (not (n == link) && is_none (second_parent_at ks n)) ≡ b → IsEnd ks t p n (higher o)
      end_by later true plain = up later plain (parent_at ks n) refl
      end_by later false end =
          let here : n ≡ higher o = sym (itself n settled is end) ∙ ap higher e in
          subst (IsEnd ks t p n) here (record { settled = settled; upto = omega arith; file = is.file; last = refl })

    ends_within : (k n : ℕ) → n < k → is_settled t n ≡ true → IsLinkOf ks p n link → (o : Option ℕ) → nearest_merge_at ks n ≡ o → IsEnd ks t p n (higher o)
    ends_within zero n less settled is o e = absurd (omega arith)
    ends_within (suc k) n less settled is o e = end_by n settled is o e (λ q below may link_is. ends_within k q (omega arith) may link_is o) (not (n == link) && is_none (second_parent_at ks n)) refl

    pub ends : (n : ℕ) → is_settled t n ≡ true → IsLinkOf ks p n link → (o : Option ℕ) → o ≡ nearest_merge_at ks n → IsEnd ks t p n (higher o)
    ends n settled is o e = ends_within (suc n) n (omega arith) settled is o (sym e)

  -- ---- past one that isn't logged

  had_by : (set had : Bool) → (set || moved true had) ≡ false → had ≡ true
  had_by true had e = absurd (true≢false e)
  had_by false true e = refl
  had_by false false e = absurd (true≢false e)

  pub parent_has : (n q : ℕ) → is_settled t n ≡ true → has_file_at ks p n ≡ true → is_logged_at ks p n ≡ false → parent_at ks n ≡ Some q → has_file_at ks p q ≡ true
  parent_has n q settled has quiet parent =
      had_by (is_some (set_at (changeset_at ks n) p)) (has_file_at ks p q)
      (logged_at_is n settled (is_some (set_at (changeset_at ks n) p)) true (has_file_at ks p q) refl (sym has) (ap (λ o. is_some (tree_of (past_at_some ks o) p)) (sym parent)) ∙ quiet)

  pub told_by : (n : ℕ) (r : Option ℕ) → is_some r ≡ has_file_at ks p n → IfSome r (IsEnd ks t p n) → option_and_then (last_logged_at ks p) r ≡ cond (has_file_at ks p n) (last_logged_at ks p n) None
  told_by n None is end = ap (λ b. cond b (last_logged_at ks p n) None) is
  told_by n (Some e) is end = end.last ∙ ap (λ b. cond b (last_logged_at ks p n) None) is

  module _ (n : ℕ) (settled : is_settled t n ≡ true) (has : has_file_at ks p n ≡ true) (quiet : is_logged_at ks p n ≡ false) (total : Option ℕ) (so_far : last_logged_at ks p n ≡ total) where
    pub told_above : (o : Option ℕ) → o ≡ parent_at ks n → option_and_then (last_logged_at ks p) o ≡ total
    told_above o is = asked_on (is_settled t) (parent_at ks) (earlier ks t a) (is_logged_at ks p) (Some n) n o total refl settled quiet is so_far

    pub told_next : (q : ℕ) → Some q ≡ parent_at ks n → (r : Option ℕ) → is_some r ≡ has_file_at ks p q → IfSome r (IsEnd ks t p q) → option_and_then (last_logged_at ks p) r ≡ total
    told_next q is r file end =
        told_by q r file end
        ∙ ap (λ b. cond b (last_logged_at ks p q) None) (parent_has n q settled has quiet (sym is))
        ∙ told_above (Some q) is

  -- ---- what the unode tells

  pub link_known : (n : ℕ) → is_settled t n ≡ true → (id : Id) → Some id ≡ cond (has_file_at ks p n) (Some (link_at ks p n)) None → None ≡ number_in ks id → ⊥
  link_known n settled id e none = by (has_file_at ks p n) refl e
    where
      by : (b : Bool) → has_file_at ks p n ≡ b → Some id ≡ cond b (Some (link_at ks p n)) None → ⊥
      by true h e =
          let m = has_maker ks t a p n settled (some_of (tree_of (past_at ks n) p) h) in
          none_some m.maker (none ∙ ap (number_in ks) (same_some id (link_at ks p n) e ∙ ap linknode_of m.node) ∙ its_maker ks t a p m.maker m.is)
      by false h e = none_some id (sym e)

pub is_link_of : (ks : List Known) (p : Path) (n : ℕ) (id : Id) (link : ℕ) → Some id ≡ cond (has_file_at ks p n) (Some (link_at ks p n)) None → Some link ≡ number_in ks id → IsLinkOf ks p n link
is_link_of ks p n id link e is = by (has_file_at ks p n) refl e
  where
    by : (b : Bool) → has_file_at ks p n ≡ b → Some id ≡ cond b (Some (link_at ks p n)) None → IsLinkOf ks p n link
    by true h e = record { file = h; maker = ap (number_in ks) (sym (same_some id (link_at ks p n) e)) ∙ sym is }
    by false h e = none_some id (sym e)

pub not_there : {X : Type 0} (b : Bool) (x : Id) (o : Option X) → None ≡ cond b (Some x) None → None ≡ cond b o None
not_there true x o e = none_some x e
not_there false x o e = refl
