-- The edits of a changeset that concern a directory.
--     edits_in d es      those whose paths lie under it
--     past d es      without the first ones that lie under it
--     IsChild child d q      where the path q lies under a directory that is directly in d: that directory
--     left_after child es      without the first ones that lie under that directory
use Rattle.std.specs.Prelude.{◌≡◌, ℕ, ◌++◌, true, if◌then◌else◌, List, [], ◌∷◌, Option, None, Some}
use Rattle.std.specs.List.{filter}
use Rattle.changeset_model.specs.Path.{Path, is_strict_prefix}
use Rattle.changeset_model.specs.Changeset.{FileChange}

abbrev pub edits_in : Path → List (Path × FileChange) → List (Path × FileChange)
edits_in d es = filter (λ e. is_strict_prefix d e.0) es

abbrev pub past : Path → List (Path × FileChange) → List (Path × FileChange)
past d [] = []
past d (e ∷ es) = if is_strict_prefix d e.0 then past d es else e ∷ es

abbrev pub IsChild : Option Path → Path → Path → Type 0
IsChild None d q = Unit {0}
IsChild (Some c) d q = (n : List ℕ) × (c ≡ d ++ n ∷ []) × (is_strict_prefix c q ≡ true)

abbrev pub left_after : Option Path → List (Path × FileChange) → List (Path × FileChange)
left_after None es = es
left_after (Some c) es = past c es
