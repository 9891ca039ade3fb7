-- Rules that are looked up by caller and by the text of their path.
--     place_of key      the elements that a text stands for as a key: none where it is empty
--     is_here caller key r      the rule names just this caller, or nobody for None, and has just these elements
--     IsFirsts rules caller m      at each key the map has the number of the first such rule
--     IsTables rules m      the map has the firsts of each caller that a rule names, and no others
--     IsOwn rules name own      these are the firsts of a caller, or no rule names the caller
--     IsIndex rules everyone named      both
--     lesser a b      the lesser number, or the one that is there
--     found_at everyone own key      the lesser of what both have at a key
--     IsPlace text      it has a byte, and doesn't begin with a slash
use Rattle.std.specs.Prelude.{◌≡◌, ◌<◌, ℕ, Bool, true, false, ◌&&◌, min, List, [], ◌∷◌, length, slice_index, bytes_eq, position, Option, None, Some}
use Rattle.std.specs.List.{list_any}
use Rattle.std.specs.Option.{option_and_then, MatchOption}
use Rattle.std.specs.Borrow.{Bor}
use Rattle.std.specs.BTreeMap.{BTreeMap, get, get_by_text}
use Rattle.std.specs.Cmp.Lexicographic.{slice_cmp}
use Rattle.std.specs.Ordering.{nat_cmp}
use Rattle.std.specs.declared.string.String.{String}
use Rattle.changeset_model.specs.Path.{Path, elements, path_eq}
use Rattle.policy_model.specs.Rules.{Rule}

abbrev pub place_of : List ℕ → Path
place_of [] = []
place_of (b ∷ key) = elements (b ∷ key)

abbrev pub same_caller : Option (List ℕ) → Option (List ℕ) → Bool
same_caller None None = true
same_caller None (Some name) = false
same_caller (Some caller) None = false
same_caller (Some caller) (Some name) = bytes_eq name caller

abbrev pub is_here : Option (List ℕ) → List ℕ → Rule → Bool
is_here caller key r = same_caller caller r.name && path_eq r.elements (place_of key)

abbrev pub IsFirsts : {Y : Type 0} → List Rule → Option (List ℕ) → BTreeMap (String Y) ℕ → Type 0
IsFirsts rules caller m = (key : List ℕ) → get_by_text m key ≡ position (is_here caller key) rules

abbrev pub names : List Rule → List ℕ → Bool
names rules caller = list_any (λ r. same_caller (Some caller) r.name) rules

-- of each caller that one of the rules so far names
abbrev pub IsTablesOf : {Y : Type 0} → List Rule → List Rule → BTreeMap (List ℕ) (BTreeMap (String Y) ℕ) → Type 0
IsTablesOf rules some m = (caller : List ℕ) → MatchOption (get (slice_cmp nat_cmp) m caller) (names some caller ≡ false) (IsFirsts rules (Some caller))

abbrev pub IsTables : {Y : Type 0} → List Rule → BTreeMap (List ℕ) (BTreeMap (String Y) ℕ) → Type 0
IsTables rules m = IsTablesOf rules rules m

pub record IsIndex {Y : Type 0} (rules : List Rule) (everyone : BTreeMap (String Y) ℕ) (named : BTreeMap (List ℕ) (BTreeMap (String Y) ℕ)) : Type 0 where
  pub everyone_is : IsFirsts rules None everyone
  pub named_is : IsTables rules named

abbrev pub IsOwn : {Y : Type 0} → List Rule → List ℕ → Option (Bor (BTreeMap (String Y) ℕ)) → Type 0
IsOwn rules caller own = (key : List ℕ) → option_and_then (λ m. get_by_text m.now key) own ≡ position (is_here (Some caller) key) rules

abbrev pub lesser : Option ℕ → Option ℕ → Option ℕ
lesser None b = b
lesser (Some m) None = Some m
lesser (Some m) (Some n) = Some (min m n)

abbrev pub found_at : {Y : Type 0} → BTreeMap (String Y) ℕ → Option (Bor (BTreeMap (String Y) ℕ)) → List ℕ → Option ℕ
found_at everyone own key = lesser (get_by_text everyone key) (option_and_then (λ m. get_by_text m.now key) own)

pub record IsPlace (text : List ℕ) : Type 0 where
  pub some : 0 < length text
  pub begins : slice_index text 0 ≡ 0x2F → ⊥
