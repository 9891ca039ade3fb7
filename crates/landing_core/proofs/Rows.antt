-- What a table has whose rows are the definitions' manifests.
use Rattle.std.proofs.Common.{◌≡◌, ◌⊎◌, inl, inr, ℕ, Bool, true, false, cond, List, [], ◌∷◌, ◌++◌, reverse, refl, sym, ap, subst, ◌∙◌}
use Rattle.std.specs.Prelude.{Option, None, Some, Contains, option_map, is_some, bytes_eq, ◌||◌, find}
use Rattle.std.specs.List.{AllByRecursion}
use mathlib.Core.Bool.{true≢false}
use Rattle.std.proofs.lemmas.List.Elements.{Contains-append_left, Contains-append_right, Contains-append_cases}
use Rattle.std.proofs.lemmas.Option.{same_Some}
use Rattle.std.proofs.lemmas.Slice.Eq.{bytes_eq-Decides}
use Rattle.byte_fields.specs.Bytes.{Id}
use Rattle.byte_fields.proofs.Lists.{each_of}
use Rattle.history_model.specs.History.{Known, is_known}
use Rattle.std.specs.Option.{option_map_or}
use Rattle.history_model.specs.Chain.{first_parent}
use Rattle.history_model.specs.Past.{Past, Begin, At, past, past_among, second_of}
use Rattle.manifest_model.specs.Manifests.{Manifests, manifests_of, nodes_in, nodes_of, Job}
use Rattle.reply_model.proofs.Parents.{known_reverse}
use Rattle.reply_model.proofs.Lines.{no_past}
use Rattle.core_model.specs.Core.{nodes_among, settled_in, parent_in, both_of}
use Rattle.landing_core.specs.Settled.{IsRow, IsTaken}
use Rattle.byte_fields.proofs.Booleans.{is_some_cond as some_by}
use Rattle.changeset_model.proofs.Paths.{||-comm as or_none}
use Rattle.reply_model.proofs.Parents.{same_id}

-- ---- what is known

-- a changeset that has a past is known
pub past_known : (ks : List Known) (x : Id) (here : Known) (first second : Past) → past ks x ≡ At here first second → is_known ks x ≡ true
past_known ks x here first second e = by (is_known ks x) refl
  where
    none : {c : Known} {l r : Past} → Begin ≡ At c l r → ⊥
    none e = absurd cc

    by : (b : Bool) → is_known ks x ≡ b → b ≡ true
    by true there = refl
    by false there = absurd (none (sym (no_past (reverse ks) x (known_reverse ks x ∙ there)) ∙ e))

abbrev head_id : Id → Past → Id
head_id x Begin = x
head_id x (At k first second) = k.id

among_id : (ks : List Known) (x : Id) → head_id x (past_among ks x) ≡ x
among_id [] x = refl
among_id (k ∷ older) x = by (among_id older x) (bytes_eq k.id x) refl
  where
    by : head_id x (past_among older x) ≡ x → (b : Bool) → bytes_eq k.id x ≡ b → head_id x (cond b (At k (option_map_or (past_among older) (first_parent k.changeset) Begin) (option_map_or (past_among older) (second_of k.changeset.parents) Begin)) (past_among older x)) ≡ x
    by later true e = (bytes_eq-Decides k.id x).0 e
    by later false e = later

-- and it is that of the changeset itself
pub past_id : (ks : List Known) (x : Id) (here : Known) (first second : Past) → past ks x ≡ At here first second → here.id ≡ x
past_id ks x here first second e = ap (head_id x) (sym e) ∙ among_id (reverse ks) x

-- ---- what is found

there_by : (ks : List Known) (m : Manifests) (rest : Option Manifests) (x : Id) → IsRow ks m → (is_some rest ≡ true → rest ≡ Some (manifests_of ks x)) → (b : Bool) → bytes_eq m.id x ≡ b → is_some (cond b (Some m) rest) ≡ true → cond b (Some m) rest ≡ Some (manifests_of ks x)
there_by ks m rest x row later true e h = ap Some (row.1 ∙ ap (manifests_of ks) ((bytes_eq-Decides m.id x).0 e))
there_by ks m rest x row later false e h = later h

-- a changeset that is settled is so with the definitions' manifests
pub row_there : (ks : List Known) (table : List Manifests) (x : Id) → AllByRecursion (IsRow ks) table → is_some (settled_in table x) ≡ true → settled_in table x ≡ Some (manifests_of ks x)
row_there ks [] x rows h = absurd (true≢false (sym h))
row_there ks (m ∷ table) x rows h = there_by ks m (settled_in table x) x rows.0 (row_there ks table x rows.1) (bytes_eq m.id x) refl h

none_some : {X : Type 0} {x : X} → None ≡ Some x → ⊥
none_some e = absurd cc

or_last : (a b c : Bool) → (a || (b || c)) ≡ ((a || b) || c)
or_last true b c = refl
or_last false b c = refl

-- one item more
pub found_push : {X : Type 0} (t : X → Bool) (xs : List X) (x : X) → is_some (find t (xs ++ x ∷ [])) ≡ (is_some (find t xs) || t x)
found_push t [] x = some_by (t x) x None ∙ or_none (t x) false
found_push t (y ∷ xs) x =
    some_by (t y) y (find t (xs ++ x ∷ []))
    ∙ ap (λ b. t y || b) (found_push t xs x)
    ∙ or_last (t y) (is_some (find t xs)) (t x)
    ∙ ap (λ b. b || t x) (sym (some_by (t y) y (find t xs)))

pub kept_push : {X : Type 0} (t : X → Bool) (xs : List X) (x : X) → is_some (find t xs) ≡ true → is_some (find t (xs ++ x ∷ [])) ≡ true
kept_push t xs x h = found_push t xs x ∙ ap (λ b. b || t x) h

pub last_push : {X : Type 0} (t : X → Bool) (xs : List X) (x : X) → t x ≡ true → is_some (find t (xs ++ x ∷ [])) ≡ true
last_push t xs x h = found_push t xs x ∙ ap (λ b. is_some (find t xs) || b) h ∙ or_none (is_some (find t xs)) true

-- ---- a table with one row more

pub some_parent : (o : Option Manifests) → is_some (option_map (λ m. m ∷ []) o) ≡ is_some o
some_parent None = refl
some_parent (Some m) = refl

parent_push : (table : List Manifests) (m : Manifests) (p : Past) → is_some (parent_in table p) ≡ true → is_some (parent_in (table ++ m ∷ []) p) ≡ true
parent_push table m Begin h = refl
parent_push table m (At p first second) h =
    some_parent (settled_in (table ++ m ∷ []) p.id) ∙ kept_push (λ m. bytes_eq m.id p.id) table m (sym (some_parent (settled_in table p.id)) ∙ h)

pub taken_push : (ks : List Known) (table : List Manifests) (m : Manifests) (job : Job) → IsTaken ks table job → IsTaken ks (table ++ m ∷ []) job
taken_push ks table m job taken = record {
  first = taken.first;
  second = taken.second;
  past_is = taken.past_is;
  first_there = parent_push table m taken.first taken.first_there;
  second_there = parent_push table m taken.second taken.second_there;
  derives = taken.derives;
}

-- both parents are there
pub both_there : (a b : Option (List Manifests)) → is_some a ≡ true → is_some b ≡ true → (ms : List Manifests) × (both_of a b ≡ Some ms)
both_there None b first second = absurd (true≢false (sym first))
both_there (Some x) None first second = absurd (true≢false (sym second))
both_there (Some x) (Some y) first second = (x ++ y, refl)

pub each_there : (a b : Option (List Manifests)) → is_some (both_of a b) ≡ true → (is_some a ≡ true) × (is_some b ≡ true)
each_there None b h = absurd (true≢false (sym h))
each_there (Some x) None h = absurd (true≢false (sym h))
each_there (Some x) (Some y) h = (refl, refl)

-- ---- nodes

-- the nodes of a changeset that is settled are among those of the table
pub among_nodes : (table : List Manifests) (x : Id) (m : Manifests) (bytes : List ℕ) → settled_in table x ≡ Some m → Contains (nodes_in m) bytes → Contains (nodes_among table) bytes
among_nodes [] x m bytes e c = absurd (none_some e)
among_nodes (row ∷ table) x m bytes e c = by (λ e. among_nodes table x m bytes e c) (bytes_eq row.id x) e
  where
    by : (settled_in table x ≡ Some m → Contains (nodes_among table) bytes) → (b : Bool) → cond b (Some row) (settled_in table x) ≡ Some m → Contains (nodes_in row ++ nodes_among table) bytes
    by later true e = Contains-append_left (nodes_in row) (nodes_among table) bytes (subst (λ (m : Manifests). Contains (nodes_in m) bytes) (sym (same_Some row m e)) c)
    by later false e = Contains-append_right (nodes_in row) (nodes_among table) bytes (later e)

-- a changeset that is settled, and a node of it
abbrev pub IsRowNode : List Known → List Manifests → List ℕ → Type 0
IsRowNode ks table bytes = (y : Id) × (is_some (settled_in table y) ≡ true) × Contains (nodes_of ks y) bytes

-- and each of those is of some changeset that is settled
pub node_origin : (ks : List Known) (table : List Manifests) (bytes : List ℕ) → AllByRecursion (IsRow ks) table → Contains (nodes_among table) bytes → IsRowNode ks table bytes
node_origin ks [] bytes rows c = absurd (each_of (λ y. ⊥) [] bytes tt c)
node_origin ks (row ∷ table) bytes rows c = by (node_origin ks table bytes rows.1) (Contains-append_cases (nodes_in row) (nodes_among table) bytes c)
  where
    by : (Contains (nodes_among table) bytes → IsRowNode ks table bytes) → Contains (nodes_in row) bytes ⊎ Contains (nodes_among table) bytes → IsRowNode ks (row ∷ table) bytes
    by later (inl c) = (row.id, ap (λ b. is_some (cond b (Some row) (settled_in table row.id))) (same_id row.id), subst (λ (m : Manifests). Contains (nodes_in m) bytes) rows.0.1 c)
    by later (inr c) =
        let of = later c in
        (of.0, some_by (bytes_eq row.id of.0) row (settled_in table of.0) ∙ ap (λ b. bytes_eq row.id of.0 || b) of.1 ∙ or_none (bytes_eq row.id of.0) true, of.2)
