-- What an opener over memory gives, and what is left of its shelf.
use Rattle.std.proofs.Common.{◌≡◌, ℕ, zero, suc, ◌<◌, Bool, true, false, cond, List, [], ◌∷◌, ◌++◌, length, map, get_or, set, refl, sym, ap, ◌∙◌, Option, None, Some, arith}
use Rattle.std.specs.Prelude.{◌≤◌, nat_lt, position, IfSome, IfNone}
use Rattle.std.specs.Option.{option_to_list}
use Rattle.std.proofs.lemmas.List.{append-nil}
use Rattle.std.specs.List.{position_or_len}
use Rattle.std.proofs.lemmas.List.Sums.{fails_before_first}
use Rattle.std.proofs.lemmas.Bool.Decides.{nat_tests}
use Rattle.std.specs.String.{string_bytes}
use Rattle.ports.specs.declared.mem_opener.Slot.{Slot}
use Rattle.ports.specs.Openers.{Shelf, given, last_empty, other_empty, taken_out, is_name, left}
use Rattle.ports.specs.Shelves.{shelf_in, has_name, held_by}

module _ {D : Type 0} where
  abbrev shown : Slot D → List ℕ × Option D
  shown s = (string_bytes s.name, s.held)

  -- the first slot that has the name
  pub record IsFirst (name : List ℕ) (named : List (Slot D)) (at : ℕ) (d : Slot D) : Type 0 where
    pub inside : at < length named
    pub has : has_name name (get_or named at d) ≡ true
    pub before : (k : ℕ) → k < at → has_name name (get_or named k d) ≡ false

  later : (name : List ℕ) (s : Slot D) (named : List (Slot D)) (at : ℕ) (d : Slot D) → IsFirst name (s ∷ named) (suc at) d → IsFirst name named at d
  later name s named at d first = record {
    inside = (let h = first.inside in omega arith);
    has = first.has;
    before = λ k less. first.before (suc k) (omega arith);
  }

  pub held_at : (name : List ℕ) (named : List (Slot D)) (at : ℕ) (d : Slot D) → IsFirst name named at d → held_by name named ≡ Some (get_or named at d).held
  held_at name [] at d first = absurd (let h = first.inside in omega arith)
  held_at name (s ∷ named) zero d first = ap (λ b. cond b (Some s.held) (held_by name named)) first.has
  held_at name (s ∷ named) (suc at) d first = ap (λ b. cond b (Some s.held) (held_by name named)) (first.before 0 (omega arith)) ∙ held_at name named at d (later name s named at d first)

  pub taken_at : (name : List ℕ) (named : List (Slot D)) (at : ℕ) (d gone : Slot D) → IsFirst name named at d → gone.name ≡ (get_or named at d).name → gone.held ≡ None → map shown (set named at gone) ≡ taken_out name (map shown named)
  taken_at name [] at d gone first same none = absurd (let h = first.inside in omega arith)
  taken_at name (s ∷ named) zero d gone first same none =
      ap (λ n. (string_bytes n, gone.held) ∷ map shown named) same
      ∙ ap (λ h. (string_bytes s.name, h) ∷ map shown named) none
      ∙ sym (ap (λ b. cond b ((string_bytes s.name, None) ∷ map shown named) (shown s ∷ taken_out name (map shown named))) first.has)
  taken_at name (s ∷ named) (suc at) d gone first same none =
      ap (λ ss. shown s ∷ ss) (taken_at name named at d gone (later name s named at d first) same none)
      ∙ sym (ap (λ b. cond b ((string_bytes s.name, None) ∷ map shown named) (shown s ∷ taken_out name (map shown named))) (first.before 0 (omega arith)))

  pub held_nowhere : (name : List ℕ) (named : List (Slot D)) → ((k : ℕ) (d : Slot D) → k < length named → has_name name (get_or named k d) ≡ false) → held_by name named ≡ None
  held_nowhere name [] nowhere = refl
  held_nowhere name (s ∷ named) nowhere = ap (λ b. cond b (Some s.held) (held_by name named)) (nowhere 0 s (omega arith)) ∙ held_nowhere name named (λ k d less. nowhere (suc k) d (omega arith))

  pub none_taken : (name : List ℕ) (named : List (Slot D)) → held_by name named ≡ None → taken_out name (map shown named) ≡ map shown named
  none_taken name [] none = refl
  none_taken name (s ∷ named) none =
      elim (has_name name s) as (λ b. cond b (Some s.held) (held_by name named) ≡ None → cond b ((string_bytes s.name, None) ∷ map shown named) (shown s ∷ taken_out name (map shown named)) ≡ shown s ∷ map shown named) [
        | true ↦ λ none. absurd (cc)
        | false ↦ λ none. ap (λ ss. shown s ∷ ss) (none_taken name named none)
      ] none

  -- a name whose disk was taken out earlier
  pub taken_again : (name : List ℕ) (named : List (Slot D)) → held_by name named ≡ Some None → taken_out name (map shown named) ≡ map shown named
  taken_again name [] held = absurd (cc)
  taken_again name (s ∷ named) held =
      elim (has_name name s) as (λ b. cond b (Some s.held) (held_by name named) ≡ Some None → cond b ((string_bytes s.name, None) ∷ map shown named) (shown s ∷ taken_out name (map shown named)) ≡ shown s ∷ map shown named) [
        | true ↦ λ held. (let none : None ≡ s.held = cc in ap (λ h. (string_bytes s.name, h) ∷ map shown named) none)
        | false ↦ λ held. ap (λ ss. shown s ∷ ss) (taken_again name named held)
      ] held

  abbrev chosen : Option (Option D) → Bool → List D → Option D
  chosen (Some held) create empty = held
  chosen None create empty = cond create (last_empty empty) None

  given-shelf_in : (name : List ℕ) (create : Bool) (named : List (Slot D)) (empty : List D) → given name create (shelf_in named empty) ≡ chosen (held_by name named) create empty
  given-shelf_in name create [] empty = refl
  given-shelf_in name create (slot ∷ named) empty =
      elim (has_name name slot) as (λ b. cond b slot.held (given name create (shelf_in named empty)) ≡ chosen (cond b (Some slot.held) (held_by name named)) create empty) [
        | true ↦ refl
        | false ↦ given-shelf_in name create named empty
      ]

  -- whether a slot has the name
  abbrev is_held : Option (Option D) → Bool
  is_held (Some held) = true
  is_held None = false

  is_name-shown : (name : List ℕ) (named : List (Slot D)) → is_name name (map shown named) ≡ is_held (held_by name named)
  is_name-shown name [] = refl
  is_name-shown name (s ∷ named) =
      elim (has_name name s) as (λ b. cond b true (is_name name (map shown named)) ≡ is_held (cond b (Some s.held) (held_by name named))) [
        | true ↦ refl
        | false ↦ is_name-shown name named
      ]

  last-push : (xs : List D) (d : D) → last_empty (xs ++ d ∷ []) ≡ Some d
  last-push [] d = refl
  last-push (x ∷ []) d = refl
  last-push (x ∷ (y ∷ xs)) d = last-push (y ∷ xs) d

  other-push : (xs : List D) (d : D) → other_empty (xs ++ d ∷ []) ≡ xs
  other-push [] d = refl
  other-push (x ∷ []) d = refl
  other-push (x ∷ (y ∷ xs)) d = ap (λ ys. x ∷ ys) (other-push (y ∷ xs) d)

  -- what a name had is given, and nothing is left of it
  pub given_held : (name : List ℕ) (create : Bool) (named : List (Slot D)) (empty : List D) (held : Option D) → held_by name named ≡ Some held → given name create (shelf_in named empty) ≡ held
  given_held name create named empty held has = given-shelf_in name create named empty ∙ ap (λ h. chosen h create empty) has

  pub left_held : (name : List ℕ) (create : Bool) (named now : List (Slot D)) (empty : List D) (held : Option D) → held_by name named ≡ Some held → map shown now ≡ taken_out name (map shown named) → shelf_in now empty ≡ left name create (shelf_in named empty)
  left_held name create named now empty held has taken =
      ap (λ ss. let shelf : Shelf D = record { named = ss; empty = empty } in shelf) taken
      ∙ sym (ap (λ b. let s = shelf_in named empty in cond b (record s { named = taken_out name s.named }) (cond create (record s { empty = other_empty s.empty }) s)) (is_name-shown name named ∙ ap (λ h. is_held h) has))

  pub same_again : (name : List ℕ) (named now : List (Slot D)) (empty : List D) → held_by name named ≡ Some None → map shown now ≡ taken_out name (map shown named) → shelf_in now empty ≡ shelf_in named empty
  same_again name named now empty has taken = ap (λ ss. let shelf : Shelf D = record { named = ss; empty = empty } in shelf) (taken ∙ taken_again name named has)

  -- a new name is given the last of the empty ones
  pub given_new : (name : List ℕ) (create : Bool) (named : List (Slot D)) (empty : List D) → held_by name named ≡ None → given name create (shelf_in named empty) ≡ cond create (last_empty empty) None
  given_new name create named empty none = given-shelf_in name create named empty ∙ ap (λ h. chosen h create empty) none

  pub left_new : (name : List ℕ) (named now : List (Slot D)) (empty fewer : List D) (d : D) → held_by name named ≡ None → map shown now ≡ taken_out name (map shown named) → empty ≡ fewer ++ d ∷ [] → shelf_in now fewer ≡ left name true (shelf_in named empty)
  left_new name named now empty fewer d none taken popped =
      ap (λ ss. let shelf : Shelf D = record { named = ss; empty = fewer } in shelf) (taken ∙ none_taken name named none)
      ∙ sym (ap (λ ds. let shelf : Shelf D = record { named = map shown named; empty = ds } in shelf) (ap (λ ds. other_empty ds) popped ∙ other-push fewer d))
      ∙ sym (ap (λ b. let s = shelf_in named empty in cond b (record s { named = taken_out name s.named }) (record s { empty = other_empty s.empty })) (is_name-shown name named ∙ ap (λ h. is_held h) none))

  pub same_new : (name : List ℕ) (named now : List (Slot D)) (empty : List D) → held_by name named ≡ None → map shown now ≡ taken_out name (map shown named) → shelf_in now empty ≡ shelf_in named empty
  same_new name named now empty none taken = ap (λ ss. let shelf : Shelf D = record { named = ss; empty = empty } in shelf) (taken ∙ none_taken name named none)

  pub last_given : (empty fewer : List D) (d : D) → empty ≡ fewer ++ d ∷ [] → last_empty empty ≡ Some d
  last_given empty fewer d popped = ap (λ ds. last_empty ds) popped ∙ last-push fewer d

-- a search that finds nothing
not_below : (n len : ℕ) → cond (nat_lt n len) (Some n) None ≡ None → len ≤ n
not_below n len none = grind (arith, nat_tests)

pub nowhere : {X : Type 0} (p : X → Bool) (xs : List X) → position p xs ≡ None → (k : ℕ) (d : X) → k < length xs → p (get_or xs k d) ≡ false
nowhere p xs none k d less =
    let above = not_below (position_or_len p xs) (length xs) none in
    fails_before_first p xs k d (omega arith)

-- ---- by what an option is

pub if_some : {A : Type 0} {P : Type 0} (o : Option A) → ((x : A) → o ≡ Some x → P) → IfSome o (λ _. P)
if_some (Some x) p = p x refl
if_some None p = tt

pub if_none : {A : Type 0} {P : Type 0} (o : Option A) → (o ≡ None → P) → IfNone o P
if_none (Some x) p = tt
if_none None p = p refl

-- what a vector gave of its end
pub record Popped {D : Type 0} (empty fewer : List D) (o : Option D) : Type 0 where
  pub items : empty ≡ fewer ++ option_to_list o
  pub none : o ≡ None → length empty ≡ 0

pub popped_is : {D : Type 0} (empty fewer : List D) (o : Option D) → Popped empty fewer o → o ≡ last_empty empty
popped_is empty fewer (Some d) p = sym (last_given empty fewer d p.items)
popped_is [] fewer None p = refl
popped_is (x ∷ xs) fewer None p = absurd (let len = p.none refl in omega arith)

pub popped_none : {D : Type 0} (empty fewer : List D) (o : Option D) → Popped empty fewer o → o ≡ None → fewer ≡ empty
popped_none empty fewer o p none = sym (append-nil fewer) ∙ sym (ap (λ o. fewer ++ option_to_list o) none) ∙ sym p.items
