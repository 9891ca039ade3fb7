-- A chain is what it should be, where each parent is known before its child.
use Rattle.std.proofs.Common.{◌≡◌, Bool, true, false, cond, ◌||◌, List, [], ◌∷◌, ◌++◌, reverse, refl, sym, ap, subst, ◌∙◌}
use Rattle.std.specs.Prelude.{Option, Some, None, IfSome, option_map, bytes_eq, Contains}
use mathlib.Core.Bool.{true≢false}
use mathlib.Core.List.{reverse-cons}
use Rattle.std.proofs.lemmas.List.Elements.{recursion_from_All, All-contains_itself}
use Rattle.byte_fields.proofs.Lists.{weaker, each_of, contains_head, contains_tail}
use Rattle.std.specs.List.{AllByRecursion, last_or}
use Rattle.std.specs.Option.{option_map_or}
use Rattle.std.proofs.lemmas.Slice.Eq.{bytes_eq-Decides}
use Rattle.byte_fields.specs.Bytes.{Id, last_of}
use Rattle.history_model.specs.History.{Known, is_known}
use Rattle.history_model.specs.Chain.{first_of, first_parent, line_among, line, chain, HasParents, IsLinked, IsChain}

-- the id of the last, or else this
abbrev last_id : Option Id → List Known → Option Id
last_id o [] = o
last_id o (k ∷ ks) = last_id (Some k.id) ks

linked-push : (o : Option Id) (xs : List Known) (k : Known) → IsLinked o xs → first_parent k.changeset ≡ last_id o xs → IsLinked o (xs ++ k ∷ [])
linked-push o [] k l e = (e, tt)
linked-push o (x ∷ xs) k l e = (l.0, linked-push (Some x.id) xs k l.1 e)

last_id-push : (o : Option Id) (xs : List Known) (k : Known) → last_id o (xs ++ k ∷ []) ≡ Some k.id
last_id-push o [] k = refl
last_id-push o (x ∷ xs) k = last_id-push (Some x.id) xs k

last_of-push : (o : Option Known) (xs : List Known) (k : Known) → last_or o (xs ++ k ∷ []) ≡ Some k
last_of-push o [] k = refl
last_of-push o (x ∷ xs) k = last_of-push (Some x) xs k

same_id : (x y : Id) → bytes_eq x y ≡ true → x ≡ y
same_id x y h = (bytes_eq-Decides x y).0 h

-- what holds of a chain, read from its first member on
record IsRight (x : Id) (xs : List Known) : Type 0 where
  linked : IsLinked None xs
  ends : last_id None xs ≡ Some x
  last : option_map (λ k. k.id) (last_of xs) ≡ Some x

right_push : (k : Known) (below : List Known) (x : Id) → k.id ≡ x → IsLinked None below → first_parent k.changeset ≡ last_id None below → IsRight x (below ++ k ∷ [])
right_push k below x e l p = record {
  linked = linked-push None below k l p;
  ends = last_id-push None below k ∙ ap Some e;
  last = ap (option_map (λ k. k.id)) (last_of-push None below k) ∙ ap Some e;
}

-- what the line of a parent ends with, if there is a parent
below_of : (older : List Known) → ((p : Id) → is_known older p ≡ true → IsRight p (reverse (line_among older p))) → (o : Option Id) → IfSome o (λ p. is_known older p ≡ true) → IsLinked None (reverse (option_map_or (line_among older) o [])) × (o ≡ last_id None (reverse (option_map_or (line_among older) o [])))
below_of older right None known = (tt, refl)
below_of older right (Some p) known = let r = right p known in (r.linked, sym r.ends)

right_by : (k : Known) (older : List Known) (x : Id) → ((p : Id) → is_known older p ≡ true → IsRight p (reverse (line_among older p))) → IfSome (first_parent k.changeset) (λ p. is_known older p ≡ true) → (b : Bool) → bytes_eq k.id x ≡ b → (b || is_known older x) ≡ true → IsRight x (reverse (cond b (k ∷ option_map_or (line_among older) (first_parent k.changeset) []) (line_among older x)))
right_by k older x right parent true e known =
    let below = option_map_or (line_among older) (first_parent k.changeset) [] in
    let facts = below_of older right (first_parent k.changeset) parent in
    subst (IsRight x) (sym (reverse-cons k below)) (right_push k (reverse below) x (same_id k.id x e) facts.0 facts.1)
right_by k older x right parent false e known = right x known

-- what holds of all parents holds of the first
pub first_of_all : (P : Id → Type 0) (ps : List Id) → AllByRecursion P ps → IfSome (first_of ps) P
first_of_all P [] all = tt
first_of_all P (p ∷ ps) all = all.0

right_among : (ks : List Known) → HasParents ks → (x : Id) → is_known ks x ≡ true → IsRight x (reverse (line_among ks x))
right_among [] parents x known = absurd (true≢false (sym known))
right_among (k ∷ older) parents x known = right_by k older x (right_among older parents.1) (first_of_all (λ p. is_known older p ≡ true) k.changeset.parents parents.0) (bytes_eq k.id x) refl known

-- ---- all of it is known

tails : (older : List Known) → ((p : Id) → AllByRecursion (Contains older) (line_among older p)) → (o : Option Id) → AllByRecursion (Contains older) (option_map_or (line_among older) o [])
tails older all None = tt
tails older all (Some p) = all p

known_by : (k : Known) (older : List Known) (x : Id) → ((p : Id) → AllByRecursion (Contains older) (line_among older p)) → (b : Bool) → AllByRecursion (Contains (k ∷ older)) (cond b (k ∷ option_map_or (line_among older) (first_parent k.changeset) []) (line_among older x))
known_by k older x all true = (contains_head k older, weaker (Contains older) (Contains (k ∷ older)) (λ j c. contains_tail k j older c) _ (tails older all (first_parent k.changeset)))
known_by k older x all false = weaker (Contains older) (Contains (k ∷ older)) (λ j c. contains_tail k j older c) _ (all x)

known_among : (ks : List Known) (x : Id) → AllByRecursion (Contains ks) (line_among ks x)
known_among [] x = tt
known_among (k ∷ older) x = known_by k older x (known_among older) (bytes_eq k.id x)

all_push : (P : Known → Type 0) (xs : List Known) (k : Known) → AllByRecursion P xs → P k → AllByRecursion P (xs ++ k ∷ [])
all_push P [] k all h = (h, tt)
all_push P (x ∷ xs) k all h = (all.0, all_push P xs k all.1 h)

pub all_reverse : (P : Known → Type 0) (xs : List Known) → AllByRecursion P xs → AllByRecursion P (reverse xs)
all_reverse P [] all = tt
all_reverse P (x ∷ xs) all = subst (AllByRecursion P) (sym (reverse-cons x xs)) (all_push P (reverse xs) x (all_reverse P xs all.1) all.0)

pub from_reverse : (ks : List Known) (k : Known) → Contains (reverse ks) k → Contains ks k
from_reverse ks k c = each_of (Contains ks) (reverse ks) k (all_reverse (Contains ks) ks (recursion_from_All (Contains ks) ks (All-contains_itself ks))) c

pub chain_is_right : (ks : List Known) (x : Id) → HasParents (reverse ks) → is_known (reverse ks) x ≡ true → IsChain ks x (chain ks x)
chain_is_right ks x parents known =
    let right = right_among (reverse ks) parents x known in
    record {
      known = all_reverse (Contains ks) (line ks x) (weaker (Contains (reverse ks)) (Contains ks) (λ k c. from_reverse ks k c) (line ks x) (known_among (reverse ks) x));
      linked = right.linked;
      last = right.last;
    }
