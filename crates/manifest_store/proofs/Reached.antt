-- What is reached from a known changeset through its parents.
use Rattle.std.proofs.Common.{◌≡◌, ◌⊎◌, inl, inr, ℕ, zero, suc, ◌<◌, Bool, true, false, cond, ◌&&◌, ◌||◌, List, [], ◌∷◌, ◌++◌, length, reverse, refl, sym, ap, subst, ◌∙◌, arith}
use Rattle.std.specs.Prelude.{Option, Some, None, IfSome, bytes_eq}
use Rattle.std.specs.List.{AllByRecursion, list_any}
use Rattle.std.specs.Option.{option_and_then}
use mathlib.Core.Bool.{true≢false}
use mathlib.Core.List.{reverse-cons}
use Rattle.std.proofs.lemmas.Bool.{and_parts, or_left, or_right}
use Rattle.std.proofs.lemmas.List.Folds.{list_any-append}
use Rattle.std.proofs.lemmas.Slice.Eq.{bytes_eq-Decides}
use Rattle.byte_fields.specs.Bytes.{Id}
use Rattle.byte_fields.proofs.Booleans.{same_some}
use Rattle.byte_fields.proofs.Lists.{weaker, all_both}
use Rattle.changeset_model.specs.Changeset.{Changeset, is_changeset, are_parents, are_changes, is_author, is_message, is_signed}
use Rattle.history_model.specs.History.{Known, is_known}
use Rattle.history_model.specs.Chain.{HasParents, first_of, first_parent}
use Rattle.history_model.specs.Past.{At, ancestors, reached, second_of}
use Rattle.history_model.proofs.Chains.{first_of_all}
use Rattle.reply_model.proofs.Lines.{second_of_all}
use Rattle.reply_model.proofs.Parents.{known_reverse}
use Rattle.manifest_model.proofs.Derivations.{or_case as or_either}
use Rattle.merge_laws.specs.Resolved.{AreResolved}
use Rattle.node_table.specs.Table.{Table, is_settled}
use Rattle.changeset_store.specs.Store.{number_in, known_at, changeset_at, parent_at, second_parent_at}
use Rattle.changeset_store.specs.Pasts.{past_at_some}
use Rattle.changeset_store.specs.Fork.{IsAncestor}
use Rattle.changeset_store.specs.Numbers.{AreApart}
use Rattle.changeset_store.proofs.Places.{known_at-changeset}
use Rattle.changeset_store.proofs.Forks.{has_its_id}
use Rattle.derive_step.proofs.Members.{Has, has_left, has_right, has_either}
use Rattle.manifest_store.specs.Jobs.{IsReached}
use Rattle.manifest_store.specs.Lines.{IsStore}
use Rattle.manifest_store.specs.Manifests.{AreManifests}
use Rattle.manifest_store.proofs.Lines.{apart_back, all_along, are_known, its_number, known_here, links, parent_below}
use Rattle.manifest_store.proofs.Pasts.{past_step}

same_id : (x : Id) → bytes_eq x x ≡ true
same_id x = (bytes_eq-Decides x x).1 refl

-- ---- of changesets that are given newest first

abbrev after : Bool → Known → List Known → List Id → List Known
after b k older wanted = cond b (k ∷ reached older (wanted ++ k.changeset.parents)) (reached older wanted)

only_known : (ks : List Known) (wanted : List Id) (x : Id) → is_known (reached ks wanted) x ≡ true → is_known ks x ≡ true
only_known [] wanted x h = h
only_known (k ∷ older) wanted x h = by (only_known older) (list_any (bytes_eq k.id) wanted) h
  where
    by : ((wanted : List Id) (x : Id) → is_known (reached older wanted) x ≡ true → is_known older x ≡ true) → (b : Bool) → is_known (after b k older wanted) x ≡ true → (bytes_eq k.id x || is_known older x) ≡ true
    by later true h = or_either (bytes_eq k.id x) (is_known (reached older (wanted ++ k.changeset.parents)) x) (λ e. or_left (bytes_eq k.id x) (is_known older x) e) (λ e. or_right (bytes_eq k.id x) (is_known older x) (later (wanted ++ k.changeset.parents) x e)) h
    by later false h = or_right (bytes_eq k.id x) (is_known older x) (later wanted x h)

wanted_more : (x : Id) (wanted more : List Id) → list_any (bytes_eq x) wanted ≡ true → list_any (bytes_eq x) (wanted ++ more) ≡ true
wanted_more x wanted more h = list_any-append (bytes_eq x) wanted more ∙ or_left (list_any (bytes_eq x) wanted) (list_any (bytes_eq x) more) h

-- who is wanted and known is reached
wanted_reached : (ks : List Known) (wanted : List Id) (x : Id) → list_any (bytes_eq x) wanted ≡ true → is_known ks x ≡ true → is_known (reached ks wanted) x ≡ true
wanted_reached [] wanted x w h = h
wanted_reached (k ∷ older) wanted x w h = by (wanted_reached older) (list_any (bytes_eq k.id) wanted) refl
  where
    by : ((wanted : List Id) (x : Id) → list_any (bytes_eq x) wanted ≡ true → is_known older x ≡ true → is_known (reached older wanted) x ≡ true) → (b : Bool) → list_any (bytes_eq k.id) wanted ≡ b → is_known (after b k older wanted) x ≡ true
    by later true e =
        let ps = k.changeset.parents in
        or_either (bytes_eq k.id x) (is_known older x) (λ g. or_left (bytes_eq k.id x) (is_known (reached older (wanted ++ ps)) x) g) (λ g. or_right (bytes_eq k.id x) (is_known (reached older (wanted ++ ps)) x) (later (wanted ++ ps) x (wanted_more x wanted ps w) g)) h
    by later false e =
        or_either (bytes_eq k.id x) (is_known older x) (λ g. absurd (true≢false (sym w ∙ ap (λ y. list_any (bytes_eq y) wanted) (sym ((bytes_eq-Decides k.id x).0 g)) ∙ e))) (λ g. later wanted x w g) h

-- what holds of the known ones of a list of ids
all_known : (P Q : Id → Type 0) (all : List Id) → ((q : Id) → list_any (bytes_eq q) all ≡ true → P q → Q q) → (ps : List Id) → ((q : Id) → list_any (bytes_eq q) ps ≡ true → list_any (bytes_eq q) all ≡ true) → AllByRecursion P ps → AllByRecursion Q ps
all_known P Q all f [] within h = tt
all_known P Q all f (p ∷ ps) within h = (
  f p (within p (or_left (bytes_eq p p) (list_any (bytes_eq p) ps) (same_id p))) h.0,
  all_known P Q all f ps (λ q e. within q (or_right (bytes_eq q p) (list_any (bytes_eq q) ps) e)) h.1,
)

has_known : (ks : List Known) (j : Known) → Has ks j → is_known ks j.id ≡ true
has_known [] j h = absurd h
has_known (k ∷ older) j (inl e) = or_left (bytes_eq k.id j.id) (is_known older j.id) ((bytes_eq-Decides k.id j.id).1 (ap (λ (k : Known). k.id) e))
has_known (k ∷ older) j (inr h) = or_right (bytes_eq k.id j.id) (is_known older j.id) (has_known older j h)

-- with one that is reached its parents are
parents_reached : (ks : List Known) → AreApart ks → HasParents ks → (wanted : List Id) (j : Known) → Has ks j → is_known (reached ks wanted) j.id ≡ true → AllByRecursion (λ q. is_known (reached ks wanted) q ≡ true) j.changeset.parents
parents_reached [] apart parents wanted j has h = absurd has
parents_reached (k ∷ older) apart parents wanted j (inl e) h = subst (λ (j : Known). AllByRecursion (λ q. is_known (reached (k ∷ older) wanted) q ≡ true) j.changeset.parents) e (by (list_any (bytes_eq k.id) wanted) (ap (λ (j : Known). is_known (reached (k ∷ older) wanted) j.id) e ∙ h))
  where
    by : (b : Bool) → is_known (after b k older wanted) k.id ≡ true → AllByRecursion (λ q. is_known (after b k older wanted) q ≡ true) k.changeset.parents
    by true h =
        let ps = k.changeset.parents in
        all_known (λ q. is_known older q ≡ true) (λ q. is_known (k ∷ reached older (wanted ++ ps)) q ≡ true) ps
        (λ q w there. or_right (bytes_eq k.id q) (is_known (reached older (wanted ++ ps)) q) (wanted_reached older (wanted ++ ps) q (list_any-append (bytes_eq q) wanted ps ∙ or_right (list_any (bytes_eq q) wanted) (list_any (bytes_eq q) ps) w) there))
        ps (λ q w. w) parents.0
    by false h = absurd (true≢false (sym (only_known older wanted k.id h) ∙ apart.0))
parents_reached (k ∷ older) apart parents wanted j (inr has) h = by (parents_reached older apart.1 parents.1) (list_any (bytes_eq k.id) wanted) h
  where
    by : ((wanted : List Id) (j : Known) → Has older j → is_known (reached older wanted) j.id ≡ true → AllByRecursion (λ q. is_known (reached older wanted) q ≡ true) j.changeset.parents) → (b : Bool) → is_known (after b k older wanted) j.id ≡ true → AllByRecursion (λ q. is_known (after b k older wanted) q ≡ true) j.changeset.parents
    by later true h =
        let ps = k.changeset.parents in
        or_either (bytes_eq k.id j.id) (is_known (reached older (wanted ++ ps)) j.id)
        (λ e. absurd (true≢false (sym (has_known older j has) ∙ ap (is_known older) (sym ((bytes_eq-Decides k.id j.id).0 e)) ∙ apart.0)))
        (λ e. weaker (λ q. is_known (reached older (wanted ++ ps)) q ≡ true) (λ q. is_known (k ∷ reached older (wanted ++ ps)) q ≡ true) (λ q g. or_right (bytes_eq k.id q) (is_known (reached older (wanted ++ ps)) q) g) j.changeset.parents (later (wanted ++ ps) j has e)) h
    by later false h = later wanted j has h

any_all : (P : Id → Type 0) (wanted : List Id) (x : Id) → AllByRecursion P wanted → list_any (bytes_eq x) wanted ≡ true → P x
any_all P [] x all h = absurd (true≢false (sym h))
any_all P (p ∷ ps) x all h = or_either (bytes_eq x p) (list_any (bytes_eq x) ps) (λ e. subst P (sym ((bytes_eq-Decides x p).0 e)) all.0) (λ e. any_all P ps x all.1 e) h

-- what passes to all parents holds of all that is reached
all_reached : (P : Id → Type 0) (ks : List Known) → ((k : Known) → Has ks k → P k.id → AllByRecursion P k.changeset.parents) → (wanted : List Id) → AllByRecursion P wanted → (x : Id) → is_known (reached ks wanted) x ≡ true → P x
all_reached P [] up wanted all x h = absurd (true≢false (sym h))
all_reached P (k ∷ older) up wanted all x h = by (all_reached P older (λ j has. up j (inr has))) (list_any (bytes_eq k.id) wanted) refl h
  where
    by : ((wanted : List Id) → AllByRecursion P wanted → (x : Id) → is_known (reached older wanted) x ≡ true → P x) → (b : Bool) → list_any (bytes_eq k.id) wanted ≡ b → is_known (after b k older wanted) x ≡ true → P x
    by later true e h =
        let here = any_all P wanted k.id all e in
        let ps = k.changeset.parents in
        or_either (bytes_eq k.id x) (is_known (reached older (wanted ++ ps)) x) (λ g. subst P ((bytes_eq-Decides k.id x).0 g) here) (λ g. later (wanted ++ ps) (all_both P wanted ps all (up k (inl refl) here)) x g) h
    by later false e h = later wanted all x h

-- ---- in the order in which they came

has_at : (ks : List Known) (n : ℕ) → n < length ks → Has ks (known_at ks n)
has_at [] n less = absurd (omega arith)
has_at (k ∷ ks) zero less = inl refl
has_at (k ∷ ks) (suc n) less = inr (has_at ks n (omega arith))

has_number : (ks : List Known) (k : Known) → Has ks k → (n : ℕ) × (n < length ks) × (known_at ks n ≡ k)
has_number [] k h = absurd h
has_number (j ∷ ks) k (inl e) = (zero, omega arith, e)
has_number (j ∷ ks) k (inr h) = let rest = has_number ks k h in (suc rest.0, (let less = rest.1 in omega (arith, less)), rest.2)

has_reverse : (ks : List Known) (k : Known) → Has ks k → Has (reverse ks) k
has_reverse [] k h = absurd h
has_reverse (j ∷ ks) k (inl e) = subst (λ l. Has l k) (sym (reverse-cons j ks)) (has_right (reverse ks) (j ∷ []) k (inl e))
has_reverse (j ∷ ks) k (inr h) = subst (λ l. Has l k) (sym (reverse-cons j ks)) (has_left (reverse ks) (j ∷ []) k (has_reverse ks k h))

reverse_has : (ks : List Known) (k : Known) → Has (reverse ks) k → Has ks k
reverse_has [] k h = absurd h
reverse_has (j ∷ ks) k h = by (reverse_has ks k) (has_either (reverse ks) (j ∷ []) k (subst (λ l. Has l k) (reverse-cons j ks) h))
  where
    by : (Has (reverse ks) k → Has ks k) → Has (reverse ks) k ⊎ Has (j ∷ []) k → Has (j ∷ ks) k
    by later (inl g) = inr (later g)
    by later (inr (inl e)) = inl e
    by later (inr (inr none)) = absurd none

module _ (ks : List Known) (s : IsStore ks) where
  pub reached_itself : (n : ℕ) → n < length ks → IsReached ks n n
  reached_itself n less =
      let x = (known_at ks n).id in
      record {
        known = less;
        reached = known_reverse (reached (reverse ks) (x ∷ [])) x ∙ wanted_reached (reverse ks) (x ∷ []) x (or_left (bytes_eq x x) false (same_id x)) (known_reverse ks x ∙ known_here ks n less);
      }

  all_parents : (a n : ℕ) → IsReached ks a n → AllByRecursion (λ q. is_known (ancestors ks (known_at ks n).id) q ≡ true) (changeset_at ks a).parents
  all_parents a n h =
      let there = reached (reverse ks) ((known_at ks n).id ∷ []) in
      subst (λ (c : Changeset). AllByRecursion (λ q. is_known (reverse there) q ≡ true) c.parents) (known_at-changeset ks a)
      (weaker (λ q. is_known there q ≡ true) (λ q. is_known (reverse there) q ≡ true) (λ q g. known_reverse there q ∙ g) (known_at ks a).changeset.parents
      (parents_reached (reverse ks) (apart_back ks s) s.parents ((known_at ks n).id ∷ []) (known_at ks a) (has_reverse ks (known_at ks a) (has_at ks a h.known)) (sym (known_reverse there (known_at ks a).id) ∙ h.reached)))

  parent_by : (n p : ℕ) (o : Option Id) → IfSome o (λ q. is_known (ancestors ks (known_at ks n).id) q ≡ true) → option_and_then (number_in ks) o ≡ Some p → IsReached ks p n
  parent_by n p None h e = absurd cc
  parent_by n p (Some q) h e = record {
    known = parent_below ks s (Some q) p e;
    reached = ap (is_known (ancestors ks (known_at ks n).id)) (has_its_id ks (links ks) (are_known ks s) (Some p) q p (sym e) refl) ∙ h;
  }

  reached_first : (a n p : ℕ) → IsReached ks a n → parent_at ks a ≡ Some p → IsReached ks p n
  reached_first a n p h e = parent_by n p (first_parent (changeset_at ks a)) (first_of_all (λ q. is_known (ancestors ks (known_at ks n).id) q ≡ true) (changeset_at ks a).parents (all_parents a n h)) e

  pub reached_second : (a n p : ℕ) → IsReached ks a n → second_parent_at ks a ≡ Some p → IsReached ks p n
  reached_second a n p h e = parent_by n p (second_of (changeset_at ks a).parents) (second_of_all (λ q. is_known (ancestors ks (known_at ks n).id) q ≡ true) (changeset_at ks a).parents (all_parents a n h)) e

  -- what is in the chain of one that is reached is reached
  pub reached_chain : (m a n : ℕ) → IsReached ks a n → IsAncestor ks m a → IsReached ks m n
  reached_chain m a n h of = all_along ks s (λ m. IsReached ks m n) (λ x p g e. reached_first x n p g e) a h.known h m of

-- ---- what is settled

module _ (ks : List Known) (t : Table) (a : AreManifests ks t) where
  -- the changeset of an id, if it is known, is settled
  abbrev Settled : Id → Type 0
  Settled x = (j : ℕ) → number_in ks x ≡ Some j → is_settled t j ≡ true

  at_most_two : (ps : List Id) → are_parents ps ≡ true → IfSome (first_of ps) Settled → IfSome (second_of ps) Settled → AllByRecursion Settled ps
  at_most_two [] rule first second = tt
  at_most_two (p ∷ []) rule first second = (first, tt)
  at_most_two (p ∷ q ∷ []) rule first second = (first, (second, tt))
  at_most_two (p ∷ q ∷ r ∷ ps) rule first second = absurd (true≢false (sym rule))

  rule_of : (j : ℕ) → j < length ks → are_parents (known_at ks j).changeset.parents ≡ true
  rule_of j less =
      let c = (known_at ks j).changeset in
      let at : AreResolved (At (known_at ks j) (past_at_some ks (parent_at ks j)) (past_at_some ks (second_parent_at ks j))) = subst AreResolved (past_step ks a.store j less) (a.right j less).resolved in
      parents_of c at.0.rules
    where
      parents_of : (c : Changeset) → is_changeset c ≡ true → are_parents c.parents ≡ true
      parents_of c h =
          let e = and_parts (are_parents c.parents && is_author c.author && is_signed 64 c.seconds && is_signed 32 c.offset && is_message c.message) (are_changes c.version (length c.parents) c.changes) h in
          let message = and_parts (are_parents c.parents && is_author c.author && is_signed 64 c.seconds && is_signed 32 c.offset) (is_message c.message) e.0 in
          let offset = and_parts (are_parents c.parents && is_author c.author && is_signed 64 c.seconds) (is_signed 32 c.offset) message.0 in
          let seconds = and_parts (are_parents c.parents && is_author c.author) (is_signed 64 c.seconds) offset.0 in
          (and_parts (are_parents c.parents) (is_author c.author) seconds.0).0

  up_at : (j : ℕ) → j < length ks → Settled (known_at ks j).id → AllByRecursion Settled (known_at ks j).changeset.parents
  up_at j less h =
      let settled = h j (its_number ks a.store j less) in
      at_most_two (known_at ks j).changeset.parents (rule_of j less) (firsts settled (first_parent (known_at ks j).changeset) (ap first_parent (sym (known_at-changeset ks j)))) (seconds settled (second_of (known_at ks j).changeset.parents) (ap (λ (c : Changeset). second_of c.parents) (sym (known_at-changeset ks j))))
    where
      firsts : is_settled t j ≡ true → (o : Option Id) → first_parent (changeset_at ks j) ≡ o → IfSome o Settled
      firsts settled None e = tt
      firsts settled (Some q) e = λ i is. a.parents j i settled (ap (option_and_then (number_in ks)) e ∙ is)

      seconds : is_settled t j ≡ true → (o : Option Id) → second_of (changeset_at ks j).parents ≡ o → IfSome o Settled
      seconds settled None e = tt
      seconds settled (Some q) e = λ i is. a.second_parents j i settled (ap (option_and_then (number_in ks)) e ∙ is)

  up : (k : Known) → Has (reverse ks) k → Settled k.id → AllByRecursion Settled k.changeset.parents
  up k has h =
      let at = has_number ks k (reverse_has ks k has) in
      let P : Known → Type 0 = λ k. Settled k.id → AllByRecursion Settled k.changeset.parents in
      subst P at.2 (up_at at.0 at.1) h

  -- with a changeset all that are reached from it are settled
  pub all_settled : (n : ℕ) → is_settled t n ≡ true → (m : ℕ) → IsReached ks m n → is_settled t m ≡ true
  all_settled n h m of =
      let x = (known_at ks n).id in
      let own : Settled x = λ j e. subst (λ j. is_settled t j ≡ true) (same_some n j (sym (its_number ks a.store n (a.numbered n h)) ∙ e)) h in
      all_reached Settled (reverse ks) up (x ∷ []) (own, tt) (known_at ks m).id (sym (known_reverse (reached (reverse ks) (x ∷ [])) (known_at ks m).id) ∙ of.reached) m (its_number ks a.store m of.known)
