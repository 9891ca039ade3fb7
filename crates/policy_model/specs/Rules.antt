-- The rules of a policy: who may change what.
--     Rule      whether it allows, whom it speaks of (None stands for everyone), and of which elements, with all that lies under them
--     matches name p r      the rule speaks of this caller and of this path
--     decide rules name p      the number of the first rule that matches: it decides
--     is_allowed rules name p      that rule allows. Where no rule matches, nothing is allowed
--     denied rules name ps      the first path that isn't allowed, with the number of the rule that decides there
--     IsLeastDenied rules name ps p      of the paths that aren't allowed p is the least
--     bookmark_place name, policy_place      the elements that a move of a bookmark and a new policy are decided on
use Rattle.std.specs.Prelude.{◌≡◌, ◌⊎◌, ℕ, Bool, true, false, not, ◌&&◌, List, [], ◌∷◌, bytes_eq, position, find, Option, None, Some, option_map, Contains, codes}
use Rattle.std.specs.Option.{option_map_or}
use Rattle.changeset_model.specs.Path.{Path, is_prefix, path_lt}

pub record Rule : Type 0 where
  pub allows : Bool
  pub name : Option (List ℕ)
  pub elements : Path

abbrev pub speaks_of : List ℕ → Option (List ℕ) → Bool
speaks_of name None = true
speaks_of name (Some who) = bytes_eq who name

abbrev pub matches : List ℕ → Path → Rule → Bool
matches name p r = speaks_of name r.name && is_prefix r.elements p

abbrev pub decide : List Rule → List ℕ → Path → Option ℕ
decide rules name p = position (matches name p) rules

abbrev pub is_allowed : List Rule → List ℕ → Path → Bool
is_allowed rules name p = option_map_or (λ r. r.allows) (find (matches name p) rules) false

pub record Denial : Type 0 where
  pub path : Path
  pub rule : Option ℕ

abbrev pub denied : List Rule → List ℕ → List Path → Option Denial
denied rules name ps = option_map (λ p. record { path = p; rule = decide rules name p }) (find (λ p. not (is_allowed rules name p)) ps)

pub record IsLeastDenied (rules : List Rule) (name : List ℕ) (ps : List Path) (p : Path) : Type 0 where
  pub among : Contains ps p
  pub refused : is_allowed rules name p ≡ false
  pub least : (q : Path) → Contains ps q → is_allowed rules name q ≡ false → (p ≡ q) ⊎ (path_lt p q ≡ true)

abbrev pub bookmark_place : List ℕ → Path
bookmark_place name = codes ".bookmarks" ∷ name ∷ []

abbrev pub policy_place : Path
policy_place = codes ".policy" ∷ []
