-- Of which others contents were joined, as entries are added.
--     lengths_entered, places_entered, joined_entered      the table with one thing more
--     joined_stays      an entry that is no whole changes nothing
--     joined_new, joined_kept      a new whole is joined of its parts, and a new content of none
--     places_kept      a new whole has no place
--     joined-cleared      without the numbers of seats
use Rattle.std.proofs.Common.{◌≡◌, ℕ, Bool, true, false, cond, List, [], ◌∷◌, ◌++◌, refl, sym, ap, subst, ◌∙◌}
use Rattle.std.specs.Prelude.{◌||◌, Option, None, Some, option_map, bytes_eq, flat_map, IfSome}
use Rattle.std.specs.Option.{option_or, option_and_then}
use Rattle.std.specs.List.{list_any}
use Rattle.std.proofs.lemmas.List.{append-nil}
use Rattle.std.proofs.lemmas.List.Folds.{list_any-append}
use Rattle.std.proofs.lemmas.Grind.{flat_map-append}
use Rattle.std.proofs.lemmas.Slice.Eq.{bytes_eq-Decides}
use Rattle.byte_fields.specs.Bytes.{Id, first_some}
use Rattle.byte_fields.proofs.Booleans.{or_false}
use Rattle.history_model.specs.History.{Body, Content, Whole, Change, Book, Land, Policy, Fault, Entry, bodies, length_in, content_len, is_whole_with, is_whole, parts_with, whole_parts}
use Rattle.reply_model.specs.After.{entry_by}
use Rattle.reply_model.proofs.Histories.{bodies-append}
use Rattle.opening_laws.proofs.Pieces.{content_len_is}
use Rattle.content_table.specs.declared.place.Place.{Place}
use Rattle.content_table.specs.declared.stored.Stored.{Stored}
use Rattle.content_table.specs.declared.table.ContentTable.{ContentTable}
use Rattle.content_table.specs.Table.{stored_in, length_of, place_of, joined_of, lengths, places, joined}
use Rattle.repo_machine.specs.Indexes.{StandsAt, AreAt, joined_in, AreJoined}
use Rattle.repo_machine.specs.Seats.{cleared}
use Rattle.repo_machine.proofs.Cleared.{bodies-cleared}
use Rattle.repo_machine.proofs.Entered.{places_stay}
use Rattle.repo_machine.proofs.Growing.{bytes_eq-symm}

-- ---- the table

chosen : {X Y : Type 0} (f : X → Y) (b : Bool) (x y : X) → f (cond b x y) ≡ cond b (f x) (f y)
chosen f true x y = refl
chosen f false x y = refl

module _ (before after : ContentTable) (x : Id) (stored : Stored) (entered : (y : Id) → stored_in after y ≡ cond (bytes_eq x y) (Some stored) (stored_in before y)) where
  pub lengths_entered : (y : Id) → lengths after y ≡ cond (bytes_eq x y) (Some (length_of stored)) (lengths before y)
  lengths_entered y = ap (option_map length_of) (entered y) ∙ chosen (option_map length_of) (bytes_eq x y) (Some stored) (stored_in before y)

  pub places_entered : (y : Id) → places after y ≡ cond (bytes_eq x y) (place_of stored) (places before y)
  places_entered y = ap (option_and_then place_of) (entered y) ∙ chosen (option_and_then place_of) (bytes_eq x y) (Some stored) (stored_in before y)

  pub joined_entered : (y : Id) → joined after y ≡ cond (bytes_eq x y) (joined_of stored) (joined before y)
  joined_entered y = ap (option_and_then joined_of) (entered y) ∙ chosen (option_and_then joined_of) (bytes_eq x y) (Some stored) (stored_in before y)

-- ---- an entry that is no whole

module _ (h : List Entry) (e : Entry) (none : (x : Id) → list_any (is_whole_with x) (bodies (e ∷ [])) ≡ false) (partless : (x : Id) → flat_map (parts_with x) (bodies (e ∷ [])) ≡ []) where
  pub whole_same : (x : Id) → is_whole (h ++ e ∷ []) x ≡ is_whole h x
  whole_same x =
      ap (list_any (is_whole_with x)) (bodies-append h (e ∷ [])) ∙ list_any-append (is_whole_with x) (bodies h) (bodies (e ∷ []))
      ∙ ap (λ b. is_whole h x || b) (none x) ∙ or_false (is_whole h x)

  parts_same : (x : Id) → whole_parts (h ++ e ∷ []) x ≡ whole_parts h x
  parts_same x =
      ap (flat_map (parts_with x)) (bodies-append h (e ∷ [])) ∙ flat_map-append (parts_with x) (bodies h) (bodies (e ∷ []))
      ∙ ap (λ ps. whole_parts h x ++ ps) (partless x) ∙ append-nil (whole_parts h x)

  joined_same : (x : Id) → joined_in (h ++ e ∷ []) x ≡ joined_in h x
  joined_same x = (λ i. cond (whole_same x i) (Some (parts_same x i)) None)

  pub joined_stays : (joins : Id → Option (List Id)) → AreJoined h joins → (after : List Entry) → after ≡ h ++ e ∷ [] → AreJoined after joins
  joined_stays joins are after grows = subst (λ g. AreJoined g joins) (sym grows) (λ x. are x ∙ sym (joined_same x))

-- ---- what isn't stored was joined of nothing

not_here : (b : Bool) (n : ℕ) (o : Option ℕ) → option_or (cond b (Some n) None) o ≡ None → (b ≡ false) × (o ≡ None)
not_here true n o e = absurd cc
not_here false n o e = (refl, e)

unjoined_among : (x : Id) (bs : List Body) → first_some (length_in x) bs ≡ None → (list_any (is_whole_with x) bs ≡ false) × (flat_map (parts_with x) bs ≡ [])
unjoined_among x [] e = (refl, refl)
unjoined_among x (Content y n ∷ bs) e = unjoined_among x bs (not_here (bytes_eq x y) n (first_some (length_in x) bs) e).1
unjoined_among x (Whole y n parts ∷ bs) e =
    let both = not_here (bytes_eq x y) n (first_some (length_in x) bs) e in
    let rest = unjoined_among x bs both.1 in
    ((λ i. both.0 i || rest.0 i), (λ i. cond (both.0 i) parts [] ++ rest.1 i))
unjoined_among x (Change c ∷ bs) e = unjoined_among x bs e
unjoined_among x (Book move ∷ bs) e = unjoined_among x bs e
unjoined_among x (Land landing ∷ bs) e = unjoined_among x bs e
unjoined_among x (Policy caller text ∷ bs) e = unjoined_among x bs e
unjoined_among x (Fault breaking ∷ bs) e = unjoined_among x bs e

pub unjoined : (h : List Entry) (x : Id) → content_len h x ≡ None → (is_whole h x ≡ false) × (whole_parts h x ≡ [])
unjoined h x none = unjoined_among x (bodies h) (sym (content_len_is h x) ∙ none)

-- ---- a new content

module _ (h : List Entry) (who : ℕ) (x : Id) (n : ℕ) (new : content_len h x ≡ None) where
  none_at : (b : Bool) (y : Id) → bytes_eq x y ≡ b → cond b None (joined_in h y) ≡ joined_in h y
  none_at true y same =
      let none = subst (λ z. is_whole h z ≡ false) ((bytes_eq-Decides x y).0 same) (unjoined h x new).0 in
      sym (ap (λ b. cond b (Some (whole_parts h y)) None) none)
  none_at false y same = refl

  pub joined_kept : (joins joins' : Id → Option (List Id)) → AreJoined h joins → ((y : Id) → joins' y ≡ cond (bytes_eq x y) None (joins y)) → (after : List Entry) → after ≡ h ++ entry_by who (Content x n) ∷ [] → AreJoined after joins'
  joined_kept joins joins' are puts =
      joined_stays h (entry_by who (Content x n)) (λ z. refl) (λ z. refl) joins' (λ y. puts y ∙ ap (cond (bytes_eq x y) None) (are y) ∙ none_at (bytes_eq x y) y refl)

-- ---- a new whole

module _ (h : List Entry) (who : ℕ) (x : Id) (n : ℕ) (parts : List Id) (new : content_len h x ≡ None) where
  abbrev longer : List Entry
  longer = h ++ entry_by who (Whole x n parts) ∷ []

  pub whole_longer : (y : Id) → is_whole longer y ≡ (is_whole h y || (bytes_eq y x || false))
  whole_longer y = ap (list_any (is_whole_with y)) (bodies-append h (entry_by who (Whole x n parts) ∷ [])) ∙ list_any-append (is_whole_with y) (bodies h) (Whole x n parts ∷ [])

  parts_longer : (y : Id) → whole_parts longer y ≡ whole_parts h y ++ (cond (bytes_eq y x) parts [] ++ [])
  parts_longer y = ap (flat_map (parts_with y)) (bodies-append h (entry_by who (Whole x n parts) ∷ [])) ∙ flat_map-append (parts_with y) (bodies h) (Whole x n parts ∷ [])

  longer_is : (y : Id) → joined_in longer y ≡ cond (is_whole h y || (bytes_eq x y || false)) (Some (whole_parts h y ++ (cond (bytes_eq x y) parts [] ++ []))) None
  longer_is y =
      (λ i. cond (whole_longer y i) (Some (parts_longer y i)) None)
      ∙ (λ i. cond (is_whole h y || (bytes_eq-symm y x i || false)) (Some (whole_parts h y ++ (cond (bytes_eq-symm y x i) parts [] ++ []))) None)

  by_id : (b : Bool) (y : Id) → bytes_eq x y ≡ b → cond (is_whole h y || (b || false)) (Some (whole_parts h y ++ (cond b parts [] ++ []))) None ≡ cond b (Some parts) (joined_in h y)
  by_id true y same =
      let none = subst (λ z. (is_whole h z ≡ false) × (whole_parts h z ≡ [])) ((bytes_eq-Decides x y).0 same) (unjoined h x new) in
      (λ i. cond (none.0 i || true) (Some (none.1 i ++ (parts ++ []))) None) ∙ ap (λ ps. Some ps) (append-nil parts)
  by_id false y other = (λ i. cond (or_false (is_whole h y) i) (Some (append-nil (whole_parts h y) i)) None)

  pub joined_new : (joins joins' : Id → Option (List Id)) → AreJoined h joins → ((y : Id) → joins' y ≡ cond (bytes_eq x y) (Some parts) (joins y)) → (after : List Entry) → after ≡ longer → AreJoined after joins'
  joined_new joins joins' are puts after grows =
      subst (λ g. AreJoined g joins') (sym grows)
      (λ y. puts y ∙ ap (cond (bytes_eq x y) (Some parts)) (are y) ∙ sym (longer_is y ∙ by_id (bytes_eq x y) y refl))

  none_by : (b : Bool) (o : Option Place) (g : List Entry) (y : Id) → IfSome o (StandsAt g y) → IfSome (cond b None o) (StandsAt g y)
  none_by true o g y at = tt
  none_by false o g y at = at

  pub places_kept : (at at' : Id → Option Place) → AreAt h at → ((y : Id) → at' y ≡ cond (bytes_eq x y) None (at y)) → (after : List Entry) → after ≡ longer → AreAt after at'
  places_kept at at' are puts after grows y =
      subst (λ o. IfSome o (StandsAt after y)) (sym (puts y)) (none_by (bytes_eq x y) (at y) after y (places_stay h (entry_by who (Whole x n parts)) at are after grows y))

-- ---- without the numbers of seats

pub joined-cleared : (h : List Entry) (joins : Id → Option (List Id)) → AreJoined h joins → AreJoined (cleared h) joins
joined-cleared h joins are x = are x ∙ sym (ap (λ bs. cond (list_any (is_whole_with x) bs) (Some (flat_map (parts_with x) bs)) None) (bodies-cleared h))
