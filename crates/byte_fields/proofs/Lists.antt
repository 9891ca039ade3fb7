-- Facts about the elements of any list.
use Rattle.std.proofs.Common.{◌≡◌, suc, Bool, true, false, cond, List, [], ◌∷◌, ◌++◌, filter, length, reverse, arith, refl, sym, subst, ap, ◌∙◌, append_assoc}
use Rattle.std.specs.Prelude.{Contains, Option, None, Some, find, slice_get}
use mathlib.Core.List.{IsPrefix, reverse-cons}
use Rattle.std.specs.Option.{option_or}
use Rattle.byte_fields.specs.Bytes.{first_some}
use Rattle.std.specs.List.{AllByRecursion}
use Rattle.std.proofs.lemmas.List.Elements.{All-from_recursion, All-contains}

pub weaker : {X : Type 0} (P Q : X → Type 0) → ((x : X) → P x → Q x) → (xs : List X) → AllByRecursion P xs → AllByRecursion Q xs
weaker P Q f [] a = tt
weaker P Q f (x ∷ xs) a = (f x a.0, weaker P Q f xs a.1)

pub contains_head : {X : Type 0} (x : X) (xs : List X) → Contains (x ∷ xs) x
contains_head x xs = (0, omega arith, refl)

pub contains_tail : {X : Type 0} (x y : X) (xs : List X) → Contains xs y → Contains (x ∷ xs) y
contains_tail x y xs c = (suc c.0, (let h = c.1 in omega arith), c.2)

pub each_of : {X : Type 0} (P : X → Type 0) (xs : List X) (x : X) → AllByRecursion P xs → Contains xs x → P x
each_of P xs x all c = All-contains P xs x (All-from_recursion P xs all) c

pub all_push : {X : Type 0} (P : X → Type 0) (xs : List X) (x : X) → AllByRecursion P xs → P x → AllByRecursion P (xs ++ x ∷ [])
all_push P [] x all h = (h, tt)
all_push P (y ∷ xs) x all h = (all.0, all_push P xs x all.1 h)

pub both_parts : {X : Type 0} (P : X → Type 0) (xs ys : List X) → AllByRecursion P (xs ++ ys) → AllByRecursion P xs × AllByRecursion P ys
both_parts P [] ys all = (tt, all)
both_parts P (x ∷ xs) ys all = let rest = both_parts P xs ys all.1 in ((all.0, rest.0), rest.1)

pub option_or-assoc : {X : Type 0} (a b c : Option X) → option_or (option_or a b) c ≡ option_or a (option_or b c)
option_or-assoc None b c = refl
option_or-assoc (Some x) b c = refl

pub option_or-None : {X : Type 0} (a : Option X) → option_or a None ≡ a
option_or-None None = refl
option_or-None (Some x) = refl

pub first_some-append : {X Y : Type 0} (f : X → Option Y) (xs ys : List X) → first_some f (xs ++ ys) ≡ option_or (first_some f xs) (first_some f ys)
first_some-append f [] ys = refl
first_some-append f (x ∷ xs) ys = ap (option_or (f x)) (first_some-append f xs ys) ∙ sym (option_or-assoc (f x) (first_some f xs) (first_some f ys))

pub all_both : {X : Type 0} (P : X → Type 0) (xs ys : List X) → AllByRecursion P xs → AllByRecursion P ys → AllByRecursion P (xs ++ ys)
all_both P [] ys all more = more
all_both P (x ∷ xs) ys all more = (all.0, all_both P xs ys all.1 more)

pub all_reverse : {X : Type 0} (P : X → Type 0) (xs : List X) → AllByRecursion P xs → AllByRecursion P (reverse xs)
all_reverse P [] all = tt
all_reverse P (x ∷ xs) all = subst (AllByRecursion P) (sym (reverse-cons x xs)) (all_push P (reverse xs) x (all_reverse P xs all.1) all.0)

pub all_filter : {X : Type 0} (P : X → Type 0) (t : X → Bool) (xs : List X) → AllByRecursion P xs → AllByRecursion P (filter t xs)
all_filter P t [] all = tt
all_filter {X} P t (x ∷ xs) all = by (t x) (all_filter P t xs all.1)
  where
    by : (b : Bool) → AllByRecursion P (filter t xs) → AllByRecursion P (cond b (x ∷ filter t xs) (filter t xs))
    by true rest = (all.0, rest)
    by false rest = rest

pub none_found : {X : Type 0} (t : X → Bool) (xs : List X) → find t xs ≡ None → AllByRecursion (λ x. t x ≡ false) xs
none_found t [] h = tt
none_found {X} t (x ∷ xs) h = by (none_found t xs) (t x) refl h
  where
    by : (find t xs ≡ None → AllByRecursion (λ x. t x ≡ false) xs) → (b : Bool) → t x ≡ b → cond b (Some x) (find t xs) ≡ None → (t x ≡ false) × AllByRecursion (λ x. t x ≡ false) xs
    by ih true e g = absurd cc
    by ih false e g = (e, ih g)

pub none_first : {X Y : Type 0} (h : X → Option Y) (xs : List X) → first_some h xs ≡ None → AllByRecursion (λ x. h x ≡ None) xs
none_first h [] e = tt
none_first {X} {Y} h (x ∷ xs) e = by (none_first h xs) (h x) refl e
  where
    by : (first_some h xs ≡ None → AllByRecursion (λ x. h x ≡ None) xs) → (o : Option Y) → h x ≡ o → option_or o (first_some h xs) ≡ None → (h x ≡ None) × AllByRecursion (λ x. h x ≡ None) xs
    by ih None g e = (g, ih e)
    by ih (Some y) g e = absurd cc

pub prefix_self : {A : Type 0} (xs : List A) → IsPrefix xs xs
prefix_self [] = ([], refl)
prefix_self (x ∷ xs) = (let r = prefix_self xs in r.0, ap (λ ys. x ∷ ys) (prefix_self xs).1)

pub prefix_trans : {A : Type 0} (xs ys zs : List A) → IsPrefix xs ys → IsPrefix ys zs → IsPrefix xs zs
prefix_trans xs ys zs p q = (p.0 ++ q.0, sym (append_assoc xs p.0 q.0) ∙ (ap (λ w. w ++ q.0) p.1 ∙ q.1))

pub get_next : {X : Type 0} (xs : List X) (x : X) → slice_get (xs ++ x ∷ []) (length xs) ≡ Some x
get_next [] x = refl
get_next (y ∷ xs) x = get_next xs x
