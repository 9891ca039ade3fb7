-- The chain of a changeset: its ancestors in order, and itself.
--     chain ks x      of the known changesets ks, those of which each is the parent of the next, from one without a parent to x. Empty where x isn't known
--     line ks x      the same, x first
--     IsChain ks x xs      what chain gives where each parent is known before its child, by HasParents
--     changesets ks      without their ids
use Rattle.std.specs.Prelude.{◌≡◌, true, if◌then◌else◌, List, [], ◌∷◌, map, reverse, bytes_eq, Option, None, Some, option_map}
use Rattle.std.specs.List.{AllByRecursion, Contains}
use Rattle.std.specs.Option.{option_map_or}
use Rattle.byte_fields.specs.Bytes.{Id, last_of}
use Rattle.changeset_model.specs.Changeset.{Changeset}
use Rattle.history_model.specs.History.{Known, is_known}

abbrev pub first_of : List Id → Option Id
first_of [] = None
first_of (p ∷ ps) = Some p

abbrev pub first_parent : Changeset → Option Id
first_parent c = first_of c.parents

-- of known changesets that are given newest first
abbrev pub line_among : List Known → Id → List Known
line_among [] x = []
line_among (k ∷ older) x =
    if bytes_eq k.id x then k ∷ option_map_or (line_among older) (first_parent k.changeset) [] else line_among older x

abbrev pub line : List Known → Id → List Known
line ks x = line_among (reverse ks) x

abbrev pub chain : List Known → Id → List Known
chain ks x = reverse (line ks x)

-- of known changesets that are given newest first: all parents of each are known before it
abbrev pub HasParents : List Known → Type 0
HasParents [] = Unit {0}
HasParents (k ∷ older) = AllByRecursion (λ p. is_known older p ≡ true) k.changeset.parents × HasParents older

-- each is the parent of the next, and the parent of the first is as given
abbrev pub IsLinked : Option Id → List Known → Type 0
IsLinked parent [] = Unit {0}
IsLinked parent (k ∷ ks) = (first_parent k.changeset ≡ parent) × IsLinked (Some k.id) ks

pub record IsChain (ks : List Known) (x : Id) (xs : List Known) : Type 0 where
  pub known : AllByRecursion (Contains ks) xs
  pub linked : IsLinked None xs
  pub last : option_map (λ k. k.id) (last_of xs) ≡ Some x

abbrev pub changesets : List Known → List Changeset
changesets ks = map (λ k. k.changeset) ks
