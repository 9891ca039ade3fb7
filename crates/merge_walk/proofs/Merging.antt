-- Two lists of entries by rising names, gone up once.
use Rattle.std.proofs.Common.{◌≡◌, true, cond, ◌&&◌, List, [], ◌∷◌, ◌++◌, length, map, reverse, refl, sym, ap, ◌∙◌, append_assoc, arith}
use Rattle.std.specs.Prelude.{Option, None, Some}
use Rattle.std.specs.List.{cons_option}
use Rattle.std.specs.Option.{option_and_then, option_to_list}
use Rattle.std.specs.declared.cmp.Ordering.TheVariants.{Less, Equal, Greater}
use Rattle.std.specs.Ordering.{is_eq, is_lt, ordering_reverse}
use Rattle.std.specs.Cmp.Lexicographic.{nat_list_cmp_total}
use Rattle.std.specs.FinMap.{is_sorted, find as find_key, nat_cmp-IsAntisymmetric, slice_cmp-IsAntisymmetric}
use Rattle.std.specs.FinMap.Entries.{below_all}
use Rattle.std.proofs.lemmas.List.{map-append, reverse-append, append-nil}
use Rattle.changeset_model.specs.Path.{Path}
use Rattle.changeset_model.proofs.Rising.{less_of}
use Rattle.manifest_model.specs.Fsnode.{FsEntry}
use Rattle.manifest_laws.proofs.Names.{Name, name_cmp}
use Rattle.repo_path.proofs.Faults.{first_of_two as first_of, second_of_two as second_of}
use Rattle.merge_walk.specs.Meeting.{Meeting, met_here, met}

abbrev pub Entries : Type 0
Entries = List (Name × FsEntry)

pub same_name : (n m : Name) → name_cmp n m ≡ Equal → n ≡ m
same_name n m e = slice_cmp-IsAntisymmetric nat_cmp-IsAntisymmetric n m e

-- ---- what isn't found

pub absent : (q k : Name) (gs : Entries) → name_cmp q k ≡ Less → below_all name_cmp k gs ≡ true → find_key name_cmp q gs ≡ None
absent q k [] less below = refl
absent q k (g ∷ gs) less below =
    ap (λ o. cond (is_eq o) (Some g.1) (find_key name_cmp q gs)) (nat_list_cmp_total.trans q k g.0 less (less_of (name_cmp k g.0) (first_of (is_lt (name_cmp k g.0)) (below_all name_cmp k gs) below)))
    ∙ absent q k gs less (second_of (is_lt (name_cmp k g.0)) (below_all name_cmp k gs) below)

pub lower : (k j : Name) (es : Entries) → name_cmp k j ≡ Less → below_all name_cmp j es ≡ true → below_all name_cmp k es ≡ true
lower k j [] less below = refl
lower k j (e ∷ es) less below =
    (λ i. is_lt (nat_list_cmp_total.trans k j e.0 less (less_of (name_cmp j e.0) (first_of (is_lt (name_cmp j e.0)) (below_all name_cmp j es) below)) i) && lower k j es less (second_of (is_lt (name_cmp j e.0)) (below_all name_cmp j es) below) i)

turned : (k j : Name) → name_cmp k j ≡ Greater → name_cmp j k ≡ Less
turned k j e = nat_list_cmp_total.antisymm j k ∙ ap ordering_reverse e

turned_less : (k j : Name) → name_cmp k j ≡ Less → name_cmp j k ≡ Greater
turned_less k j e = nat_list_cmp_total.antisymm j k ∙ ap ordering_reverse e

-- an entry below all names on the left meets none of them
skip : (d : Path) (g : Name × FsEntry) (gs es : Entries) → below_all name_cmp g.0 es ≡ true → met d es (g ∷ gs) ≡ met d es gs
skip d g gs [] below = refl
skip d g gs (e ∷ es) below =
    let apart = turned_less g.0 e.0 (less_of (name_cmp g.0 e.0) (first_of (is_lt (name_cmp g.0 e.0)) (below_all name_cmp g.0 es) below)) in
    (λ i. cons_option (option_and_then (met_here d e) (cond (is_eq (apart i)) (Some g.1) (find_key name_cmp e.0 gs))) (skip d g gs es (second_of (is_lt (name_cmp g.0 e.0)) (below_all name_cmp g.0 es) below) i))

-- ---- the steps

tail : (e : Name × FsEntry) (es : Entries) → is_sorted name_cmp (e ∷ es) ≡ true → is_sorted name_cmp es ≡ true
tail e es h = second_of (below_all name_cmp e.0 es) (is_sorted name_cmp es) h

behind : (e : Name × FsEntry) (es : Entries) → is_sorted name_cmp (e ∷ es) ≡ true → below_all name_cmp e.0 es ≡ true
behind e es h = first_of (below_all name_cmp e.0 es) (is_sorted name_cmp es) h

less_step : (d : Path) (e g : Name × FsEntry) (es gs : Entries) → name_cmp e.0 g.0 ≡ Less → is_sorted name_cmp (g ∷ gs) ≡ true → met d (e ∷ es) (g ∷ gs) ≡ met d es (g ∷ gs)
less_step d e g es gs less sorted =
    ap (λ o. cons_option (option_and_then (met_here d e) o) (met d es (g ∷ gs)))
    (ap (λ o. cond (is_eq o) (Some g.1) (find_key name_cmp e.0 gs)) less ∙ absent e.0 g.0 gs less (behind g gs sorted))

greater_step : (d : Path) (e g : Name × FsEntry) (es gs : Entries) → name_cmp e.0 g.0 ≡ Greater → is_sorted name_cmp (e ∷ es) ≡ true → met d (e ∷ es) (g ∷ gs) ≡ met d (e ∷ es) gs
greater_step d e g es gs greater sorted =
    let less = turned e.0 g.0 greater in
    skip d g gs (e ∷ es) (λ i. is_lt (less i) && lower g.0 e.0 es less (behind e es sorted) i)

pub onto_list : {X : Type 0} (o : Option X) (xs : List X) → cons_option o xs ≡ option_to_list o ++ xs
onto_list None xs = refl
onto_list (Some x) xs = refl

equal_step : (d : Path) (e g : Name × FsEntry) (es gs : Entries) → name_cmp e.0 g.0 ≡ Equal → is_sorted name_cmp (e ∷ es) ≡ true → met d (e ∷ es) (g ∷ gs) ≡ option_to_list (met_here d e g.1) ++ met d es gs
equal_step d e g es gs equal sorted =
    (λ i. cons_option (option_and_then (met_here d e) (cond (is_eq (equal i)) (Some g.1) (find_key name_cmp e.0 gs))) (skip d g gs es (ap (λ n. below_all name_cmp n es) (sym (same_name e.0 g.0 equal)) ∙ behind e es sorted) i))
    ∙ onto_list (met_here d e g.1) (met d es gs)

nothing_right : (d : Path) (es : Entries) → met d es [] ≡ []
nothing_right d [] = refl
nothing_right d (e ∷ es) = nothing_right d es

-- ---- by places

-- what was met before these lists, with what they have, is what is met in all
pub record Meets (d : Path) (before : List Meeting) (es gs : Entries) (all : List Meeting) : Type 0 where
  pub so_far : before ++ met d es gs ≡ all
  pub left_rises : is_sorted name_cmp es ≡ true
  pub right_rises : is_sorted name_cmp gs ≡ true

module _ {X : Type 0} (seen : X → Name × FsEntry) (d : Path) (before : List Meeting) (all : List Meeting) where
  pub meets_less : (xs ys xs' ys' : List X) (x y : X) → xs ≡ x ∷ xs' → ys ≡ y ∷ ys' → name_cmp (seen x).0 (seen y).0 ≡ Less → Meets d before (map seen xs) (map seen ys) all → Meets d before (map seen xs') (map seen ys) all
  meets_less xs ys xs' ys' x y e g o m = record {
    so_far = ap (λ ms. before ++ ms) (sym (ap (λ zs. met d (map seen zs) (map seen ys)) e ∙ ap (λ zs. met d (seen x ∷ map seen xs') (map seen zs)) g ∙ less_step d (seen x) (seen y) (map seen xs') (map seen ys') o (ap (λ zs. is_sorted name_cmp (map seen zs)) (sym g) ∙ m.right_rises) ∙ ap (λ zs. met d (map seen xs') (map seen zs)) (sym g))) ∙ m.so_far;
    left_rises = tail (seen x) (map seen xs') (ap (λ zs. is_sorted name_cmp (map seen zs)) (sym e) ∙ m.left_rises);
    right_rises = m.right_rises;
  }

  pub meets_greater : (xs ys xs' ys' : List X) (x y : X) → xs ≡ x ∷ xs' → ys ≡ y ∷ ys' → name_cmp (seen x).0 (seen y).0 ≡ Greater → Meets d before (map seen xs) (map seen ys) all → Meets d before (map seen xs) (map seen ys') all
  meets_greater xs ys xs' ys' x y e g o m = record {
    so_far = ap (λ ms. before ++ ms) (sym (ap (λ zs. met d (map seen zs) (map seen ys)) e ∙ ap (λ zs. met d (seen x ∷ map seen xs') (map seen zs)) g ∙ greater_step d (seen x) (seen y) (map seen xs') (map seen ys') o (ap (λ zs. is_sorted name_cmp (map seen zs)) (sym e) ∙ m.left_rises) ∙ ap (λ zs. met d (map seen zs) (map seen ys')) (sym e))) ∙ m.so_far;
    left_rises = m.left_rises;
    right_rises = tail (seen y) (map seen ys') (ap (λ zs. is_sorted name_cmp (map seen zs)) (sym g) ∙ m.right_rises);
  }

  pub meets_equal : (xs ys xs' ys' : List X) (x y : X) (after : List Meeting) → xs ≡ x ∷ xs' → ys ≡ y ∷ ys' → name_cmp (seen x).0 (seen y).0 ≡ Equal → after ≡ before ++ option_to_list (met_here d (seen x) (seen y).1) → Meets d before (map seen xs) (map seen ys) all → Meets d after (map seen xs') (map seen ys') all
  meets_equal xs ys xs' ys' x y after e g o a m = record {
    so_far =
        ap (λ ms. ms ++ met d (map seen xs') (map seen ys')) a
        ∙ append_assoc before (option_to_list (met_here d (seen x) (seen y).1)) (met d (map seen xs') (map seen ys'))
        ∙ ap (λ ms. before ++ ms) (sym (ap (λ zs. met d (map seen zs) (map seen ys)) e ∙ ap (λ zs. met d (seen x ∷ map seen xs') (map seen zs)) g ∙ equal_step d (seen x) (seen y) (map seen xs') (map seen ys') o (ap (λ zs. is_sorted name_cmp (map seen zs)) (sym e) ∙ m.left_rises)))
        ∙ m.so_far;
    left_rises = tail (seen x) (map seen xs') (ap (λ zs. is_sorted name_cmp (map seen zs)) (sym e) ∙ m.left_rises);
    right_rises = tail (seen y) (map seen ys') (ap (λ zs. is_sorted name_cmp (map seen zs)) (sym g) ∙ m.right_rises);
  }

  pub met_left : (xs ys : List X) → xs ≡ [] → Meets d before (map seen xs) (map seen ys) all → before ≡ all
  met_left xs ys e m = sym (append-nil before) ∙ ap (λ zs. before ++ met d (map seen zs) (map seen ys)) (sym e) ∙ m.so_far

  pub met_right : (xs ys : List X) → ys ≡ [] → Meets d before (map seen xs) (map seen ys) all → before ≡ all
  met_right xs ys e m = sym (append-nil before) ∙ ap (λ ms. before ++ ms) (sym (nothing_right d (map seen xs))) ∙ ap (λ zs. before ++ met d (map seen xs) (map seen zs)) (sym e) ∙ m.so_far

-- ---- laid on top

pub laid : {X Y : Type 0} (seen : X → Y) (ms left onto more : List X) (m : X) → ms ≡ left ++ m ∷ [] → more ≡ onto ++ m ∷ [] → map seen left ++ reverse (map seen more) ≡ map seen ms ++ reverse (map seen onto)
laid seen ms left onto more m e g =
    ap (λ ys. map seen left ++ ys) (ap (λ zs. reverse (map seen zs)) g ∙ ap reverse (map-append seen onto (m ∷ [])) ∙ reverse-append (map seen onto) (seen m ∷ []))
    ∙ sym (append_assoc (map seen left) (seen m ∷ []) (reverse (map seen onto)))
    ∙ ap (λ ys. ys ++ reverse (map seen onto)) (sym (ap (map seen) e ∙ map-append seen left (m ∷ [])))

pub popped_first : {X Y : Type 0} (seen : X → Y) (ms left : List X) (m : X) → ms ≡ left ++ m ∷ [] → reverse (map seen ms) ≡ seen m ∷ reverse (map seen left)
popped_first seen ms left m e = ap (λ zs. reverse (map seen zs)) e ∙ ap reverse (map-append seen left (m ∷ [])) ∙ reverse-append (map seen left) (seen m ∷ [])

pub nothing_left : {X Y : Type 0} (seen : X → Y) (ms : List X) → length ms ≡ 0 → reverse (map seen ms) ≡ []
nothing_left seen [] e = refl
nothing_left seen (m ∷ ms) e = absurd (omega arith)
