-- A group whose seal was begun and isn't done.
--     laid n, opened n, cut_off n cut      one of so many bytes, at this stage
--     cut_in left, cut_by left      the call of the disk that failed, if one did
--     length_of left      how many bytes the group has, and 0 where there is none
--     HasLaid left, HasOpened left      there is a group at this stage
--     left_at at left      the same group at another stage
--     group_in n bytes      the first n bytes that wait, as they stand on the disk: a closed gate is the last
--     is_going at, IsGoing left      no call failed so far
--     IsWaiting capacity size left bytes      a group under way is among the bytes that wait, and fits
use Rattle.std.specs.Prelude.{◌≡◌, ℕ, ◌+◌, ◌-◌, ◌≤◌, Bool, true, false, IsTrue, List, [], ◌∷◌, ◌++◌, take, length, Option, None, Some}
use Rattle.std.specs.Option.{ForSome, option_map_or}
use Rattle.repo_journal.specs.declared.cut.Cut.{Cut}
use Rattle.repo_journal.specs.declared.left.At.{At}
use Rattle.repo_journal.specs.declared.left.At.TheVariants as stages
use Rattle.repo_journal.specs.declared.left.Left.{Left}

abbrev pub laid : ℕ → Left
laid n = record { length = n; at = stages.Laid }

abbrev pub opened : ℕ → Left
opened n = record { length = n; at = stages.Opened }

abbrev pub cut_off : ℕ → Cut → Left
cut_off n cut = record { length = n; at = stages.Cut cut }

abbrev pub cut_at : At → Option Cut
cut_at stages.Laid = None
cut_at stages.Opened = None
cut_at (stages.Cut cut) = Some cut

abbrev pub cut_in : Left → Option Cut
cut_in left = cut_at left.at

abbrev pub cut_by : Option Left → Option Cut
cut_by None = None
cut_by (Some left) = cut_in left

abbrev pub length_of : Option Left → ℕ
length_of left = option_map_or (λ l. l.length) left 0

abbrev pub HasLaid : Option Left → Type 0
HasLaid left = (n : ℕ) × (left ≡ Some (laid n))

abbrev pub HasOpened : Option Left → Type 0
HasOpened left = (n : ℕ) × (left ≡ Some (opened n))

abbrev pub left_at : At → Option Left → Option Left
left_at at None = None
left_at at (Some left) = Some (record { length = left.length; at = at })

-- the last byte in memory may be the open gate of a record behind the group
abbrev pub group_in : ℕ → List ℕ → List ℕ
group_in n bytes = take (n - 1) bytes ++ 0 ∷ []

abbrev pub is_going : At → Bool
is_going stages.Laid = true
is_going stages.Opened = true
is_going (stages.Cut cut) = false

abbrev pub IsWaiting : ℕ → ℕ → Option Left → List ℕ → Type 0
IsWaiting capacity size left bytes = ForSome left (λ l. IsTrue (is_going l.at) → (l.length ≤ length bytes) × (size + l.length ≤ capacity))

abbrev pub IsGoing : Option Left → Type 0
IsGoing left = (l : Left) × (left ≡ Some l) × IsTrue (is_going l.at)
