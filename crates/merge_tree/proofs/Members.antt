-- Members by their places, and their trees.
use Rattle.std.proofs.Common.{◌≡◌, ℕ, zero, suc, ◌+◌, ◌<◌, Bool, true, false, cond, Option, Some, None, List, [], ◌∷◌, ◌++◌, length, take, drop, map, reverse, refl, sym, ap, ◌∙◌, arith}
use Rattle.std.specs.Prelude.{◌==◌, slice_get, slice_index_or, bytes_eq, Result, Ok, Err, IfOk}
use Rattle.std.specs.Option.{option_map_or, option_and_then, unwrap_or}
use mathlib.Core.List.{reverse-cons}
use Rattle.std.proofs.lemmas.Bool.{eqb-true, eqb-false, eq-eqb, ne_eqb}
use Rattle.std.proofs.lemmas.List.{map-append, length-append, length-reverse, length-take, reverse-append, reverse-reverse, take_more, take-append-drop}
use Rattle.std.proofs.lemmas.Option.{same_Some, none-some, slice_get-get_or}
use Rattle.byte_fields.specs.Bytes.{Id}
use Rattle.byte_fields.proofs.Lists.{get_next}
use Rattle.changeset_model.specs.Path.{Path}
use Rattle.changeset_model.specs.Changeset.{File, Changeset, id_of}
use Rattle.history_model.specs.History.{with_id}
use Rattle.history_model.specs.Chain.{first_parent}
use Rattle.history_model.specs.Past as history
use Rattle.history_model.specs.Past.{Past, Begin, At, second_of, past}
use Rattle.history_model.specs.Tree.{files_in}
use Rattle.merge_tree.specs.declared.lineage.Member.{Member as Stored}
use Rattle.merge_tree.specs.View.{member_view, members_view}
use Rattle.merge_tree.specs.Lineage.{Member, member_of, past_among, past_at, past_on_members, place_among, place_of, members_among, lineage_of, trees_among, tree_among}

abbrev Files : Type 0
Files = List (Path × File)

pub ok_both : {X E : Type 0} (r : Result X E) (P Q R : X → Type 0) → IfOk r P → IfOk r Q → ((x : X) → P x → Q x → R x) → IfOk r R
ok_both (Ok x) P Q R p q f = f x p q
ok_both (Err e) P Q R p q f = tt

-- ---- trees by their places

length-trees : (ms : List Member) → length (trees_among ms) ≡ length ms
length-trees [] = refl
length-trees (m ∷ older) =
    let ih = length-trees older in
    let more = length-append (trees_among older) (files_in (past_on_members m older) ∷ []) in
    omega arith

get_other : {X : Type 0} (xs : List X) (x : X) (n : ℕ) → (n ≡ length xs → ⊥) → slice_get (xs ++ x ∷ []) n ≡ slice_get xs n
get_other [] x zero h = absurd (h refl)
get_other [] x (suc n) h = refl
get_other (y ∷ ys) x zero h = refl
get_other (y ∷ ys) x (suc n) h = get_other ys x n (λ e. h (ap (λ n. suc n) e))

get_same : {X : Type 0} (xs : List X) (x : X) (n : ℕ) → n ≡ length xs → slice_get (xs ++ x ∷ []) n ≡ Some x
get_same xs x n e = ap (slice_get (xs ++ x ∷ [])) e ∙ get_next xs x

trees_by : (m : Member) (older : List Member) (n : ℕ) → unwrap_or (slice_get (trees_among older) n) [] ≡ files_in (past_among older n) → (b : Bool) → (n == length older) ≡ b → unwrap_or (slice_get (trees_among older ++ files_in (past_on_members m older) ∷ []) n) [] ≡ files_in (cond b (past_on_members m older) (past_among older n))
trees_by m older n ih true e = ap (λ o. unwrap_or o []) (get_same (trees_among older) (files_in (past_on_members m older)) n (eqb-true n (length older) e ∙ sym (length-trees older)))
trees_by m older n ih false e = ap (λ o. unwrap_or o []) (get_other (trees_among older) (files_in (past_on_members m older)) n (λ h. eqb-false n (length older) e (h ∙ length-trees older))) ∙ ih

trees_at : (ms : List Member) (n : ℕ) → unwrap_or (slice_get (trees_among ms) n) [] ≡ files_in (past_among ms n)
trees_at [] n = refl
trees_at (m ∷ older) n = trees_by m older n (trees_at older n) (n == length older) refl

-- the files at the place of a parent are those of its past
pub tree_among-past : (ms : List Member) (at : Option ℕ) → tree_among (trees_among ms) at ≡ files_in (option_map_or (past_among ms) at Begin)
tree_among-past ms None = refl
tree_among-past ms (Some n) = trees_at ms n

tree_at : (ms : List Member) (n : ℕ) (d : Files) → n < length ms → slice_index_or (trees_among ms) n d ≡ files_in (past_among ms n)
tree_at ms n d less =
    ap (λ o. unwrap_or o []) (sym (slice_get-get_or (trees_among ms) n d (let long = length-trees ms in omega arith))) ∙ trees_at ms n

-- those that were added later don't count
past_drop : (newer older : List Member) (n : ℕ) → n < length older → past_among (newer ++ older) n ≡ past_among older n
past_drop [] older n less = refl
past_drop (m ∷ newer) older n less =
    ap (λ b. cond b (past_on_members m (newer ++ older)) (past_among (newer ++ older) n)) (ne_eqb n (length (newer ++ older)) (let long = length-append newer older in λ e. omega arith))
    ∙ past_drop newer older n less

pub last_tree : (ms : List Member) (n : ℕ) (d : Files) → n < length ms → slice_index_or (trees_among (reverse (take (n + 1) ms))) n d ≡ files_in (past_at ms n)
last_tree ms n d less =
    let long = length-reverse (take (n + 1) ms) ∙ length-take (n + 1) ms in
    let within : n < length (reverse (take (n + 1) ms)) = omega arith in
    tree_at (reverse (take (n + 1) ms)) n d within
    ∙ ap files_in (sym (past_drop (reverse (drop (n + 1) ms)) (reverse (take (n + 1) ms)) n within))
    ∙ ap (λ ms. files_in (past_among ms n)) (sym (reverse-append (take (n + 1) ms) (drop (n + 1) ms)) ∙ ap reverse (take-append-drop (n + 1) ms))

pub trees_more : (ms : List Stored) (i : ℕ) (m : Stored) → i < length ms → m ≡ slice_index_or ms i m → trees_among (reverse (members_view (take (i + 1) ms))) ≡ trees_among (reverse (members_view (take i ms))) ++ files_in (past_on_members (member_view m) (reverse (members_view (take i ms)))) ∷ []
trees_more ms i m less item =
    ap (λ ms. trees_among (reverse (members_view ms))) (take_more ms i m less ∙ ap (λ m. take i ms ++ m ∷ []) (sym item))
    ∙ ap (λ ms. trees_among (reverse ms)) (map-append member_view (take i ms) (m ∷ []))
    ∙ ap trees_among (reverse-append (members_view (take i ms)) (member_view m ∷ []))

-- ---- places and ids

length-members : (cs : List Changeset) → length (members_among cs) ≡ length cs
length-members [] = refl
length-members (c ∷ older) = ap (λ n. suc n) (length-members older)

within_by : (n long : ℕ) (o : Option ℕ) → (o ≡ Some n → n < long) → (b : Bool) → cond b (Some long) o ≡ Some n → n < suc long
within_by n long o ih true e = let same = same_Some long n e in omega arith
within_by n long o ih false e = let less = ih e in omega arith

place_within : (cs : List Changeset) (x : Id) (n : ℕ) → place_among cs x ≡ Some n → n < length cs
place_within [] x n e = absurd (none-some n e)
place_within (c ∷ older) x n e = within_by n (length older) (place_among older x) (place_within older x n) (bytes_eq (id_of c) x) e

parent_past : (older : List Changeset) → ((p : Id) → option_map_or (past_among (members_among older)) (place_among older p) Begin ≡ history.past_among (map with_id older) p) → (o : Option Id) → option_map_or (past_among (members_among older)) (option_and_then (place_among older) o) Begin ≡ option_map_or (history.past_among (map with_id older)) o Begin
parent_past older each None = refl
parent_past older each (Some p) = each p

later_by : (m : Member) (older : List Changeset) (x : Id) (o : Option ℕ) → place_among older x ≡ o → option_map_or (past_among (m ∷ members_among older)) o Begin ≡ option_map_or (past_among (members_among older)) o Begin
later_by m older x None e = refl
later_by m older x (Some n) e =
    let less = place_within older x n e in
    let long = length-members older in
    ap (λ b. cond b (past_on_members m (members_among older)) (past_among (members_among older) n)) (ne_eqb n (length (members_among older)) (λ h. omega arith))

members_by : (c : Changeset) (older : List Changeset) (x : Id) → ((p : Id) → option_map_or (past_among (members_among older)) (place_among older p) Begin ≡ history.past_among (map with_id older) p) → (b : Bool)
    → option_map_or (past_among (members_among (c ∷ older))) (cond b (Some (length older)) (place_among older x)) Begin
    ≡ cond b (At (with_id c) (option_map_or (history.past_among (map with_id older)) (first_parent c) Begin) (option_map_or (history.past_among (map with_id older)) (second_of c.parents) Begin)) (history.past_among (map with_id older) x)
members_by c older x each true =
    let m = member_of c (option_and_then (place_among older) (first_parent c)) (option_and_then (place_among older) (second_of c.parents)) in
    ap (λ b. cond b (past_on_members m (members_among older)) (past_among (members_among older) (length older))) (eq-eqb (length older) (length (members_among older)) (sym (length-members older)))
    ∙ (λ i. At (with_id c) (parent_past older each (first_parent c) i) (parent_past older each (second_of c.parents) i))
members_by c older x each false =
    later_by (member_of c (option_and_then (place_among older) (first_parent c)) (option_and_then (place_among older) (second_of c.parents))) older x (place_among older x) refl ∙ each x

members_past : (cs : List Changeset) (x : Id) → option_map_or (past_among (members_among cs)) (place_among cs x) Begin ≡ history.past_among (map with_id cs) x
members_past [] x = refl
members_past (c ∷ older) x = members_by c older x (members_past older) (bytes_eq (id_of c) x)

map_reverse : {X Y : Type 0} (f : X → Y) (xs : List X) → map f (reverse xs) ≡ reverse (map f xs)
map_reverse f [] = refl
map_reverse f (x ∷ xs) = ap (map f) (reverse-cons x xs) ∙ map-append f (reverse xs) (x ∷ []) ∙ ap (λ ys. ys ++ f x ∷ []) (map_reverse f xs) ∙ sym (reverse-cons (f x) (map f xs))

-- where the places are those of the parents, a past by places is that by ids
pub past_by_ids : (cs : List Changeset) (x : Id) (at : ℕ) → place_of cs x ≡ Some at → past_at (lineage_of cs) at ≡ past (map with_id cs) x
past_by_ids cs x at place =
    ap (λ ms. past_among ms at) (reverse-reverse (members_among (reverse cs)))
    ∙ ap (λ o. option_map_or (past_among (members_among (reverse cs))) o Begin) (sym place)
    ∙ members_past (reverse cs) x
    ∙ ap (λ ks. history.past_among ks x) (map_reverse with_id cs)

pub trees_long : (ms : List Member) (n : ℕ) → n < length ms → length (trees_among (reverse (take (n + 1) ms))) ≡ n + 1
trees_long ms n less =
    let each = length-trees (reverse (take (n + 1) ms)) in
    let long = length-reverse (take (n + 1) ms) ∙ length-take (n + 1) ms in
    omega arith
