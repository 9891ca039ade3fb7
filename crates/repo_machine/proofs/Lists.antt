-- Lists of changesets, one by one.
use Rattle.std.proofs.Common.{◌≡◌, ℕ, ◌+◌, ◌<◌, ◌-◌, List, [], ◌∷◌, ◌++◌, map, length, take, get_or, sym, ap, refl, ◌∙◌, arith, Bool, true, false, cond, reverse}
use Rattle.std.specs.Prelude.{Option, None, Some, option_map, slice_get, find}
use Rattle.std.specs.List.{last_or, cons_option}
use Rattle.std.specs.Arc.{arc_value}
use Rattle.std.specs.declared.sync.Arc.{Arc}
use Rattle.std.proofs.lemmas.List.{map-append, append-nil, take_more}
use Rattle.byte_fields.specs.Bytes.{Id, last_of, last_that}
use Rattle.changeset_model.specs.Changeset.{Changeset, id_of, CopySource}
use Rattle.changeset_store.specs.Shared.{values}
use Rattle.changeset_store.proofs.Alone.{next_taken}
use Rattle.history_model.proofs.Clashes.{same_some as same_Some}
use Rattle.std.proofs.lemmas.List.Elements.{filter_map-append}
use Rattle.changeset_model.specs.Path.{Path}
use Rattle.bonsai.specs.View.{edit_view, edits_view}
use Rattle.bonsai.specs.declared.edit.Edit.{Edit}
use Rattle.repo_calls.specs.declared.copies.CopiedPath.{CopiedPath}
use Rattle.repo_calls.specs.Asking.{copies_seen, copy_seen}
use Rattle.repo_machine.specs.Copies.{copies_among, copy_in}

pub ids_more : (xs : List Changeset) (i : ℕ) (x : Changeset) → i < length xs → x ≡ get_or xs i x → (items after : List Id) (id : Id) → items ≡ map id_of (take i xs) → after ≡ items ++ id ∷ [] → id ≡ id_of x → after ≡ map id_of (take (i + 1) xs)
ids_more xs i x below is items after id so_far grows id_is =
    grows ∙ (λ j. so_far j ++ id_is j ∷ [])
    ∙ sym (ap (map id_of) (next_taken xs i x below is) ∙ map-append id_of (take i xs) (x ∷ []))

-- ---- the last

last_by : {X : Type 0} (o : Option X) (x : X) (xs : List X) → slice_get (x ∷ xs) (length xs) ≡ last_or o (x ∷ xs)
last_by o x [] = refl
last_by o x (y ∷ xs) = last_by (Some x) y xs

last_is : {X : Type 0} (xs : List X) → slice_get xs (length xs - 1) ≡ last_of xs
last_is [] = refl
last_is (x ∷ xs) = (let less : length (x ∷ xs) - 1 ≡ length xs = omega arith in ap (slice_get (x ∷ xs)) less) ∙ last_by None x xs

last_map : {X Y : Type 0} (f : X → Y) (o : Option X) (xs : List X) → option_map f (last_or o xs) ≡ last_or (option_map f o) (map f xs)
last_map f o [] = refl
last_map f o (x ∷ xs) = last_map f (Some x) xs

pub last_shared : {Z : Type 0} (shared : List (Arc Changeset Z)) → option_map arc_value (slice_get shared (length shared - 1)) ≡ last_of (values shared)
last_shared shared = ap (option_map arc_value) (last_is shared) ∙ last_map arc_value None shared

passed : {X : Type 0} (p : X → Bool) (x y : X) (o : Option X) (b : Bool) → p x ≡ b → (o ≡ Some y → p y ≡ true) → cond b (Some x) o ≡ Some y → p y ≡ true
passed p x y o true e later h = ap p (sym (same_Some x y h)) ∙ e
passed p x y o false e later h = later h

find_passes : {X : Type 0} (p : X → Bool) (xs : List X) (y : X) → find p xs ≡ Some y → p y ≡ true
find_passes p [] y h = absurd cc
find_passes p (x ∷ xs) y h = passed p x y (find p xs) (p x) refl (find_passes p xs y) h

pub last_that_passes : {X : Type 0} (p : X → Bool) (xs : List X) (y : X) → last_that p xs ≡ Some y → p y ≡ true
last_that_passes p xs y h = find_passes p (reverse xs) y h

module _ (es : List Edit) (i : ℕ) (e : Edit) (below : i < length es) (at : e ≡ get_or es i e) (items : List CopiedPath) (so_far : copies_seen items ≡ copies_among (edits_view (take i es))) (found : Option CopiedPath) (found_is : option_map copy_seen found ≡ copy_in (edit_view e)) where
  abbrev before : List (Path × CopySource)
  before = copies_among (edits_view (take i es))

  with_one : copies_among (edits_view (take (i + 1) es)) ≡ before ++ cons_option (option_map copy_seen found) []
  with_one =
      ap (λ l. copies_among (edits_view l)) (take_more es i e below ∙ ap (λ x. take i es ++ x ∷ []) (sym at))
      ∙ ap copies_among (map-append edit_view (take i es) (e ∷ []))
      ∙ filter_map-append copy_in (edits_view (take i es)) (edit_view e ∷ [])
      ∙ ap (λ o. before ++ cons_option o []) (sym found_is)

  pub no_copy : found ≡ None → copies_seen items ≡ copies_among (edits_view (take (i + 1) es))
  no_copy none = so_far ∙ sym (with_one ∙ ap (λ o. before ++ cons_option (option_map copy_seen o) []) none ∙ append-nil before)

  pub a_copy : (copy : CopiedPath) → found ≡ Some copy → (after : List CopiedPath) → after ≡ items ++ copy ∷ [] → copies_seen after ≡ copies_among (edits_view (take (i + 1) es))
  a_copy copy some after grows =
      ap copies_seen grows ∙ map-append copy_seen items (copy ∷ []) ∙ ap (λ (l : List (Path × CopySource)). l ++ copy_seen copy ∷ []) so_far
      ∙ sym (with_one ∙ ap (λ o. before ++ cons_option (option_map copy_seen o) []) some)
