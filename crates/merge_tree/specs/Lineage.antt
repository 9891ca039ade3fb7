-- Changesets in the order in which they were added, each with the places of its parents. No id is in them, so a past goes by places.
--     Member, member_of c first second      a changeset with the places of its parents
--     past_at ms at      the past of the member at a place
--     place_of cs x, lineage_of cs      the place of the changeset with this id;  changesets with the places of their parents among those before them
--     past_among ms at, past_on_members m older      of members that are given newest first, and of one before which these were added
--     trees_among ms, tree_among trees at      the files of each, oldest first;  those at a place, and none where there is no such place
use Rattle.std.specs.Prelude.{ℕ, ◌==◌, if◌then◌else◌, List, [], ◌∷◌, ◌++◌, length, reverse, slice_get, bytes_eq, Option, None, Some, refl}
use Rattle.std.specs.Coded.{Coded, code_by, coded_ℕ, coded_option, coded×}
use Rattle.std.specs.Option.{option_map_or, option_and_then, unwrap_or}
use Rattle.byte_fields.specs.Bytes.{Id}
use Rattle.changeset_model.specs.Path.{Path}
use Rattle.changeset_model.specs.Changeset.{File, Changeset, id_of}
use Rattle.changeset_model.specs.Codes.{coded_changeset}
use Rattle.history_model.specs.History.{with_id}
use Rattle.history_model.specs.Chain.{first_parent}
use Rattle.history_model.specs.Past.{Past, Begin, At, second_of}
use Rattle.history_model.specs.Tree.{files_in}

pub record Member : Type 0 where
  pub changeset : Changeset
  pub first : Option ℕ
  pub second : Option ℕ

abbrev pub member_of : Changeset → Option ℕ → Option ℕ → Member
member_of c first second = record { changeset = c; first = first; second = second }

abbrev pub coded_member : Coded Member
coded_member = code_by (Changeset × (Option ℕ × Option ℕ)) (coded× coded_changeset (coded× (coded_option coded_ℕ) (coded_option coded_ℕ))) (λ m. (m.changeset, (m.first, m.second))) (λ t. member_of t.0 t.1.0 t.1.1) (λ _. refl)

-- of members that are given newest first
abbrev pub past_among : List Member → ℕ → Past
past_among [] at = Begin
past_among (m ∷ older) at =
    if at == length older
    then At (with_id m.changeset) (option_map_or (past_among older) m.first Begin) (option_map_or (past_among older) m.second Begin)
    else past_among older at

abbrev pub past_at : List Member → ℕ → Past
past_at ms at = past_among (reverse ms) at

abbrev pub past_on_members : Member → List Member → Past
past_on_members m older = At (with_id m.changeset) (option_map_or (past_among older) m.first Begin) (option_map_or (past_among older) m.second Begin)

-- of changesets that are given newest first
abbrev pub place_among : List Changeset → Id → Option ℕ
place_among [] x = None
place_among (c ∷ older) x = if bytes_eq (id_of c) x then Some (length older) else place_among older x

abbrev pub place_of : List Changeset → Id → Option ℕ
place_of cs x = place_among (reverse cs) x

abbrev pub members_among : List Changeset → List Member
members_among [] = []
members_among (c ∷ older) = member_of c (option_and_then (place_among older) (first_parent c)) (option_and_then (place_among older) (second_of c.parents)) ∷ members_among older

abbrev pub lineage_of : List Changeset → List Member
lineage_of cs = reverse (members_among (reverse cs))

-- ---- the files of each

abbrev pub trees_among : List Member → List (List (Path × File))
trees_among [] = []
trees_among (m ∷ older) = trees_among older ++ files_in (past_on_members m older) ∷ []

abbrev pub tree_among : List (List (Path × File)) → Option ℕ → List (Path × File)
tree_among trees at = unwrap_or (option_and_then (slice_get trees) at) []
