-- The rule of the lock's table, and what each step tells.
-- Word 0 is 1 while a seat has the turn, word 1 is the history's length modulo 2^64, and word 2 is the number that is drawn next.
-- Words 3 and 4 count the turns that were asked for and those that were had, words 5 and 6 the seats that wait for the turn and those that stand back,
-- word 7 the seals that ended and word 8 the seats that wait for the end of one.
-- The rule says nothing of these.
use Rattle.std.specs.Prelude.{◌≡◌, ◌≢◌, ℕ, ◌+◌, ◌<◌, ◌⊎◌, Bool, false, List, [], ◌∷◌, map, length, slice_index, All, MatchOption, Option, Some, None}
use mathlib.Core.Option.{some}
use lib.ListN.{get_elem?}
use Rattle.atomic_table.specs.Table.{State, Me, Step, rest}
use Rattle.disk_model.specs.Meaning.{Meaning}
use Rattle.history_model.specs.History.{Entry}
use Rattle.bookmark_lock.specs.Opening.{Opening}
use Rattle.bookmark_lock.specs.Fronts.{HasJoined}
use Rattle.bookmark_lock.specs.Members.{Meeting, Member, lead_member, seen, drawing, forking, fork_of, merging, settling, spent_member}
use Rattle.bookmark_lock.specs.Waiting.{Waits}
use Rattle.bookmark_lock.specs.Roster.{Roster}
use Rattle.bookmark_lock.specs.Turns.{Finds, IsTurn, sight_after, turn_of}
use Rattle.bookmark_lock.specs.Turning.{Turn, log_of}
use Rattle.bookmark_lock.specs.declared.view.View.{View}

-- a seat and what it keeps of the value, if it has the turn
abbrev pub view_of : Member → Option Turn → View
view_of m turn = record { member = m; turn = turn }

abbrev pub member_of : View → Member
member_of v = v.member

abbrev pub Sat : Type 0 → Type 0
Sat T = Me (Option T) View

abbrev pub Play : Type 0 → Type 1
Play T = Step (Option T) → Sat T → ℕ → Sat T → Type 0

module _ {T : Type 0} where
  -- the value is out with one seat, which keeps what was seen of it
  pub record IsOut (now : Turn) (s : State (Option T) View) : Type 0 where
    pub busy : slice_index s.words 0 ≡ 1
    pub holder : ℕ
    pub view : View
    pub holder_is : get_elem? s.views holder ≡ some view
    pub keeps : view.turn ≡ Some now
    pub lives : view.member.spent ≡ false
    pub others : (j : ℕ) (v : View) → j ≢ holder → get_elem? s.views j ≡ some v → v.turn ≡ None

  -- a step that tells nothing
  abbrev pub passed : Play T
  passed st m r n = n ≡ m

  abbrev pub freed : Play T
  freed st m r n = n ≡ (view_of m.0.member None, rest m.1)

  abbrev pub drew : Play T
  drew st m r n = (n ≡ (view_of (drawing m.0.member) m.0.turn, m.1)) × (r ≡ m.0.member.post.split + 1) × All (λ (e : Entry). e.who < r) m.0.member.post.front

  abbrev pub settled : Play T
  settled st m r n =
      (n ≡ (view_of (settling m.0.member) m.0.turn, m.1)) × MatchOption m.0.member.met (Unit {0}) (λ (x : Meeting). HasJoined x.lead x.other m.0.member.post.front)

abbrev pub fork_left : View → View
fork_left v = view_of (forking v.member) v.turn

abbrev pub fork_right : View → View
fork_right v = view_of (fork_of v.member) None

abbrev pub merge_both : View → View → View
merge_both v w = view_of (merging v.member w.member) v.turn

abbrev pub spent_view : View
spent_view = view_of spent_member None

module _ {T : Type 0} (history : T → List Entry) (opening : T → Opening) (sealed reach : T → ℕ) (disk : T → Meaning) where
  -- the value is at home
  pub record IsHome (now : Turn) (key : Opening) (s : State (Option T) View) : Type 0 where
    pub free : slice_index s.words 0 ≡ 0
    pub value : T
    pub home : get_elem? s.homes 0 ≡ some (some (Some value))
    pub shows : turn_of history sealed reach disk value ≡ now
    pub opened : opening value ≡ key
    pub nobody : (j : ℕ) (v : View) → get_elem? s.views j ≡ some v → v.turn ≡ None

  -- the rule
  pub record Kept (most : ℕ) (first : T) (s : State (Option T) View) : Type 0 where
    pub now : Turn
    pub wide : length s.words ≡ 9
    pub turn : IsHome now (opening first) s ⊎ IsOut now s
    pub waits : Waits (opening first).header most now (map member_of s.views)
    pub roster : Roster now.log (opening first) (slice_index s.words 1) (slice_index s.words 2) (map member_of s.views)

  abbrev pub first_view : T → View
  first_view value = view_of (lead_member (turn_of history sealed reach disk value) (opening value)) None

  -- the seat has the turn, and the value that it may find is in its slot
  pub record Took (m n : Sat T) : Type 0 where
    pub value : T
    pub found : Finds history opening sealed reach disk m.0.member.post value
    pub seat : n ≡ (view_of m.0.member (Some (turn_of history sealed reach disk value)), (0, Some value) ∷ m.1)

  abbrev pub taken : Play T
  taken st m r n = (r ≡ 0 → Took m n) × (r ≢ 0 → n ≡ m)

  -- The front becomes the history of the value in the slot. The seat keeps the entry that it added, and gives up one that is sealed
  abbrev pub counted : Play T
  counted st m r n = (value : T) → m.1 ≡ (0, Some value) ∷ rest m.1 → n ≡ (view_of (seen m.0.member (sight_after history opening sealed reach disk m.0.member.post.unsealed (log_of m.0.turn) value)) (Some (turn_of history sealed reach disk value)), m.1)

  -- the seat has the turn and its slot is empty. The history that it keeps becomes the value's by one entry of its own, or by none
  pub record Gives (most : ℕ) (m : Sat T) (value : T) (added : Bool) : Type 0 where
    pub kept : T
    pub seat : m ≡ (view_of m.0.member (Some (turn_of history sealed reach disk kept)), (0, None) ∷ [])
    pub opened : opening value ≡ m.0.member.post.opening
    pub turn : IsTurn history opening sealed reach disk most m.0.member.post.number m.0.member.post.unsealed kept value added
