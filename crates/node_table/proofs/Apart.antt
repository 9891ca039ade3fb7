-- Which nodes a table has once nodes are put in, and which of them have one digest.
use Rattle.std.proofs.Common.{◌≡◌, ◌≢◌, ◌⊎◌, ◌↔◌, inl, inr, ℕ, Bool, true, false, cond, not, List, [], ◌∷◌, refl, sym, ap, subst, ◌∙◌}
use mathlib.Core.Bool.{true≢false}
use Rattle.std.specs.Prelude.{Option, None, Some, Contains, bytes_eq}
use Rattle.std.specs.Ordering.{is_eq}
use Rattle.std.specs.Cmp.Lexicographic.{nat_list_cmp_total}
use Rattle.std.specs.FinMap.{get}
use Rattle.std.proofs.lemmas.Cmp.{tied_itself}
use Rattle.std.proofs.lemmas.List.Elements.{Contains-append_cases}
use Rattle.std.proofs.lemmas.Slice.Eq.{bytes_eq-Decides}
use Rattle.sha2.specs.Sha256.{sha256}
use Rattle.byte_fields.specs.Bytes.{Id}
use Rattle.byte_fields.proofs.Lists.{contains_head, contains_tail, each_of}
use Rattle.node_table.specs.Table.{Nodes, AreDigests, Has, IsAmong, AreApart, Collide, with_node, with_nodes, is_other, collides, first_collision}
use Rattle.node_table.proofs.Digests.{alike, alike_same, at_insert, some_is, fault_of, digests-with_node}

alike_itself : (id : Id) → alike id id ≡ true
alike_itself id = ap is_eq (tied_itself nat_list_cmp_total id)

contains_cases : (n x : List ℕ) (ns : List (List ℕ)) → Contains (n ∷ ns) x → (x ≡ n) ⊎ Contains ns x
contains_cases n x ns c = by (Contains-append_cases (n ∷ []) ns x c)
  where
    only : Contains (n ∷ []) x → x ≡ n
    only c = each_of (λ y. y ≡ n) (n ∷ []) x (refl, tt) c

    by : Contains (n ∷ []) x ⊎ Contains ns x → (x ≡ n) ⊎ Contains ns x
    by (inl c) = inl (only c)
    by (inr c) = inr c

-- ---- one node more

same_found : (n found : List ℕ) → not (bytes_eq found n) ≡ false → found ≡ n
same_found n found h = by (bytes_eq found n) refl h
  where
    by : (b : Bool) → bytes_eq found n ≡ b → not b ≡ false → found ≡ n
    by true e h = (bytes_eq-Decides found n).0 e
    by false e h = absurd (true≢false h)

other_found : (n found : List ℕ) → not (bytes_eq found n) ≡ true → found ≢ n
other_found n found h e = true≢false (sym h ∙ ap not ((bytes_eq-Decides found n).1 e))

had_by : (m : Nodes) (n x : List ℕ) (b : Bool) → alike (sha256 x) (sha256 n) ≡ b → cond b (Some n) (get m (sha256 x)) ≡ Some x → Has m x ⊎ (x ≡ n)
had_by m n x true e h = inr (sym (some_is n x h))
had_by m n x false e h = inl h

had : (m : Nodes) (n x : List ℕ) → Has (with_node m n) x → Has m x ⊎ (x ≡ n)
had m n x h = had_by m n x (alike (sha256 x) (sha256 n)) refl (sym (at_insert m (sha256 n) n (sha256 x)) ∙ h)

new_there : (m : Nodes) (n : List ℕ) → Has (with_node m n) n
new_there m n = at_insert m (sha256 n) n (sha256 n) ∙ ap (λ b. cond b (Some n) (get m (sha256 n))) (alike_itself (sha256 n))

still_by : (m : Nodes) (n x : List ℕ) → collides m n ≡ false → Has m x → (b : Bool) → alike (sha256 x) (sha256 n) ≡ b → cond b (Some n) (get m (sha256 x)) ≡ Some x
still_by m n x apart h true e =
    let there : get m (sha256 n) ≡ Some x = ap (get m) (sym (alike_same (sha256 x) (sha256 n) e)) ∙ h in
    ap (λ y. Some y) (sym (same_found n x (sym (ap (is_other n) there) ∙ apart)))
still_by m n x apart h false e = h

still_there : (m : Nodes) (n x : List ℕ) → collides m n ≡ false → Has m x → Has (with_node m n) x
still_there m n x apart h = at_insert m (sha256 n) n (sha256 x) ∙ still_by m n x apart h (alike (sha256 x) (sha256 n)) refl

-- ---- several nodes

apart_parts : (m : Nodes) (n : List ℕ) (ns : List (List ℕ)) → first_collision m (n ∷ ns) ≡ None → (collides m n ≡ false) × (first_collision (with_node m n) ns ≡ None)
apart_parts m n ns h = by (collides m n) h
  where
    by : (b : Bool) → fault_of b n (first_collision (with_node m n) ns) ≡ None → (b ≡ false) × (first_collision (with_node m n) ns ≡ None)
    by true h = absurd cc
    by false h = (refl, h)

was_among : (m : Nodes) (n : List ℕ) (ns : List (List ℕ)) (x : List ℕ) → IsAmong (with_node m n) ns x → IsAmong m (n ∷ ns) x
was_among m n ns x (inr c) = inr (contains_tail n x ns c)
was_among m n ns x (inl h) = by (had m n x h)
  where
    by : Has m x ⊎ (x ≡ n) → IsAmong m (n ∷ ns) x
    by (inl h) = inl h
    by (inr e) = inr (subst (Contains (n ∷ ns)) (sym e) (contains_head n ns))

is_among : (m : Nodes) (n : List ℕ) (ns : List (List ℕ)) (x : List ℕ) → collides m n ≡ false → IsAmong m (n ∷ ns) x → IsAmong (with_node m n) ns x
is_among m n ns x apart (inl h) = inl (still_there m n x apart h)
is_among m n ns x apart (inr c) = by (contains_cases n x ns c)
  where
    by : (x ≡ n) ⊎ Contains ns x → IsAmong (with_node m n) ns x
    by (inl e) = inl (subst (Has (with_node m n)) (sym e) (new_there m n))
    by (inr c) = inr c

no_more : (x : List ℕ) → Contains [] x → ⊥
no_more x c = each_of (λ y. ⊥) [] x tt c

none_among : (m : Nodes) (x : List ℕ) → IsAmong m [] x → Has m x
none_among m x (inl h) = h
none_among m x (inr c) = absurd (no_more x c)

-- afterwards the nodes of before and these are there, and no other
pub has_just : (m : Nodes) (ns : List (List ℕ)) → first_collision m ns ≡ None → (x : List ℕ) → Has (with_nodes m ns) x ↔ IsAmong m ns x
has_just m [] apart x = (λ h. inl h, none_among m x)
has_just m (n ∷ ns) apart x =
    let parts = apart_parts m n ns apart in
    let later = has_just (with_node m n) ns parts.1 x in
    (λ h. was_among m n ns x (later.0 h), λ a. later.1 (is_among m n ns x parts.0 a))

pub none_apart : (m : Nodes) (ns : List (List ℕ)) → first_collision m ns ≡ None → AreApart m ns
none_apart m ns apart one other a b same =
    some_is one other (
    sym ((has_just m ns apart one).1 a)
    ∙ ap (get (with_nodes m ns)) same
    ∙ (has_just m ns apart other).1 b
    )

-- ---- a collision

collide_here : (m : Nodes) (n : List ℕ) (ns : List (List ℕ)) (id : Id) → AreDigests m → sha256 n ≡ id → (o : Option (List ℕ)) → get m (sha256 n) ≡ o → is_other n o ≡ true → Collide m (n ∷ ns) id
collide_here m n ns id all is None at h = absurd (true≢false (sym h))
collide_here m n ns id all is (Some found) at h =
    let digest : sha256 found ≡ sha256 n = all (sha256 n) found at in
    (found, n, other_found n found h, inl (ap (get m) digest ∙ at), inr (contains_head n ns), digest ∙ is, is)

some_is_id : (a b : Id) → ◌≡◌ {A = Option Id} (Some a) (Some b) → a ≡ b
some_is_id a b e = cc

pub of_two : (m : Nodes) (ns : List (List ℕ)) (id : Id) → AreDigests m → first_collision m ns ≡ Some id → Collide m ns id
of_two m [] id all h = absurd cc
of_two m (n ∷ ns) id all h = by (of_two (with_node m n) ns id (digests-with_node m n all)) (collides m n) refl h
  where
    by : (first_collision (with_node m n) ns ≡ Some id → Collide (with_node m n) ns id) → (b : Bool) → collides m n ≡ b → fault_of b n (first_collision (with_node m n) ns) ≡ Some id → Collide m (n ∷ ns) id
    by ih true e h = collide_here m n ns id all (some_is_id (sha256 n) id h) (get m (sha256 n)) refl e
    by ih false e h = let two = ih h in (two.0, two.1, two.2, was_among m n ns two.0 two.3, was_among m n ns two.1 two.4, two.5, two.6)

apart_by : (m : Nodes) (ns : List (List ℕ)) → AreDigests m → AreApart m ns → (o : Option Id) → first_collision m ns ≡ o → o ≡ None
apart_by m ns all apart None e = refl
apart_by m ns all apart (Some id) e = let two = of_two m ns id all e in absurd (two.2 (apart two.0 two.1 two.3 two.4 (two.5 ∙ sym two.6)))

pub apart_exactly : (m : Nodes) (ns : List (List ℕ)) → AreDigests m → (first_collision m ns ≡ None) ↔ AreApart m ns
apart_exactly m ns all = (none_apart m ns, λ apart. apart_by m ns all apart (first_collision m ns) refl)
