-- The entries of both parents, after edits, joined to those of a directory.
--     joined_by join s      the one that is there, or what both are joined to
--     made_at made p      what was made of a directory, if the path may stand in a changeset
--     nodes_where own s, joined_nodes own f es      the own nodes of a name that both parents have, and of names in their order, where f gives the first parent's entries and es are the second's
--     AreJoined own o had put      the own nodes that are put where the entries of names are joined
use Rattle.std.specs.Prelude.{◌≡◌, ℕ, true, if◌then◌else◌, List, [], ◌∷◌, ◌++◌, Option, None, Some}
use Rattle.std.specs.FinMap.{is_sorted, find as find_key}
use Rattle.std.specs.Ordering.{nat_cmp}
use Rattle.std.specs.Cmp.Lexicographic.{slice_cmp}
use Rattle.changeset_model.specs.Path.{Path, is_path}
use Rattle.derive_step.specs.Walk.{Sides}

abbrev pub joined_by : {E : Type 0} → (E → E → Option E) → Sides E → Option E
joined_by join (None, b) = b
joined_by join (Some a, None) = Some a
joined_by join (Some a, Some b) = join a b

abbrev pub made_at : {E : Type 0} → (Path → Option E) → Path → Option E
made_at made p = if is_path p then made p else None

abbrev pub nodes_where : {E : Type 0} → (E → E → List (List ℕ)) → Option E → E → List (List ℕ)
nodes_where own None b = []
nodes_where own (Some a) b = own a b

abbrev pub joined_nodes : {E : Type 0} → (List ℕ → E → E → List (List ℕ)) → (List ℕ → Option E) → List (List ℕ × E) → List (List ℕ)
joined_nodes own f [] = []
joined_nodes own f (e ∷ es) = nodes_where (own e.0) (f e.0) e.1 ++ joined_nodes own f es

-- of a directory whose names have these entries of both parents
pub record AreJoined {E : Type 0} (own : List ℕ → E → E → List (List ℕ)) (o : List ℕ → Sides E) (had put : List (List ℕ)) : Type 0 where
  pub second : List (List ℕ × E)
  pub rising : is_sorted (slice_cmp nat_cmp) second ≡ true
  pub found : (n : List ℕ) → find_key (slice_cmp nat_cmp) n second ≡ (o n).1
  pub nodes : put ≡ had ++ joined_nodes own (λ n. (o n).0) second
