-- What one turn is, and what the value is at the end.
--     stored_length h      how many entries are stored
--     count_of u      how many entries a seat keeps
--     still u n      those that a seat keeps, unless the last is one of the first n
--     kept_after u before after n      those that a seat with these keeps at the end of a turn, in which before became after and after which n stored entries are sealed
--     turn_of value      what is seen of the value
--     Finds, MayFind      a seat with this post, at this place, may find the value
--     IsTurn      what act may do to the value;  Entered      what one turn told the seat
--     Ended      the value at the end
use Rattle.std.specs.Prelude.{◌≡◌, ◌≢◌, ℕ, ◌+◌, ◌<◌, ◌≤◌, Bool, ◌&&◌, IsTrue, true, false, nat_lt, nat_le, if◌then◌else◌, List, [], ◌∷◌, ◌++◌, length, All, MatchBool, Option, None, Some}
use Rattle.std.specs.Fn.{Once, FnOnceReturnsAtMut}
use mathlib.Core.List.{IsPrefix}
use denote.Ref.{MutBor}
use Rattle.disk_model.specs.Meaning.{Meaning}
use Rattle.history_model.specs.History.{Entry, entries_by, bodies, is_down}
use Rattle.bookmark_lock.specs.Opening.{Opening}
use Rattle.bookmark_lock.specs.Place.{Place, Post, Sight, Unsealed, known, at_sight, told_to}
use Rattle.bookmark_lock.specs.Fronts.{GoesOn}
use Rattle.bookmark_lock.specs.Lasting.{AreFew, entered}
use Rattle.bookmark_lock.specs.Leaving.{Lasts}
use Rattle.bookmark_lock.specs.Turning.{Turn}

abbrev pub stored_length : List Entry → ℕ
stored_length h = length (bodies h)

abbrev pub count_of : Option Unsealed → ℕ
count_of None = 0
count_of (Some u) = u.count

abbrev pub still : Option Unsealed → ℕ → Option Unsealed
still None n = None
still (Some u) n = if nat_lt u.last n then None else Some u

-- a stored entry was added, and isn't sealed
abbrev pub adds_unsealed : List Entry → List Entry → ℕ → Bool
adds_unsealed before after n = nat_lt (stored_length before) (stored_length after) && nat_le n (stored_length before)

-- the entry behind so many, with those that it keeps
abbrev pub with_one : Option Unsealed → ℕ → Unsealed
with_one u i = record { last = i; count = count_of u + 1 }

abbrev pub kept_after : Option Unsealed → List Entry → List Entry → ℕ → Option Unsealed
kept_after u before after n = if is_down after then None else (if adds_unsealed before after n then Some (with_one (still u n) (stored_length before)) else still u n)

module _ {T : Type 0} (history : T → List Entry) (sealed reach : T → ℕ) (disk : T → Meaning) where
  -- what a seat keeps of the value while it has the turn
  abbrev pub turn_of : T → Turn
  turn_of value = record { log = history value; sealed = sealed value; reach = reach value; disk = disk value }

module _ {T : Type 0} (history : T → List Entry) (opening : T → Opening) (sealed reach : T → ℕ) (disk : T → Meaning) where
  -- what a seat with these unsealed entries sees at the end of a turn that began with this history
  abbrev pub sight_after : Option Unsealed → List Entry → T → Sight
  sight_after u before after = record { front = history after; sealed = sealed after; reach = reach after; unsealed = kept_after u before (history after) (sealed after); disk = disk after }

  -- a seat with this post may find the value
  pub record Finds (p : Post) (value : T) : Type 0 where
    pub goes_on : GoesOn p (history value)
    pub opened : opening value ≡ p.opening
    pub told : p.sealed ≤ sealed value
    pub lasts : Lasts p.opening.header (told_to p) (turn_of history sealed reach disk value)
    -- no seat that it joined has its number
    pub apart : All (λ (n : ℕ). n ≢ p.number) p.joined

  abbrev pub MayFind : Place → T → Type 0
  MayFind seat value = Finds (known seat) value

  -- the history became that of the value by one entry under this number, or is the same
  abbrev pub Adds : ℕ → List Entry → Bool → T → Type 0
  Adds number before added after = MatchBool added ((e : Entry) × (e.who ≡ number) × (history after ≡ before ++ e ∷ [])) (history after ≡ before)

  -- One turn of the seat with this number, which keeps these unsealed entries: it added one entry of its own, or none. What is sealed stays so, and what a crash may leave goes on from what it may have left. It adds no unsealed entry to so many that wait already, and once down it stores nothing
  pub record IsTurn (most number : ℕ) (unsealed : Option Unsealed) (before after : T) (added : Bool) : Type 0 where
    pub opened : opening after ≡ opening before
    pub adds : Adds number (history before) added after
    pub seals : sealed before ≤ sealed after
    pub lasts : Lasts (opening before).header (turn_of history sealed reach disk before) (turn_of history sealed reach disk after)
    pub few : is_down (history after) ≡ false → IsTrue (adds_unsealed (history before) (history after) (sealed after)) → count_of (still unsealed (sealed after)) < most
    pub ends : is_down (history before) ≡ true → entered (history after) ≡ entered (history before)

  -- What one turn told the seat: act took the value before, which the seat may find, to the value after, whose history is the new front.
  -- Of its own entries the new front has the old ones and the one that was added, if one was; of a seat that it joined it has none more
  pub record Entered {F X : Type 0} (g : Once F (MutBor T × Unit {0}) ((Bool × X) × (MutBor T × Unit {0}))) (act : F) (seat now : Place) (answer : X) : Type 0 where
    pub before : T
    pub after : T
    pub added : Bool
    pub found : MayFind seat before
    pub ran : FnOnceReturnsAtMut g act before (added, answer) after
    pub moved : now ≡ at_sight seat (sight_after seat.unsealed (history before) after)
    pub begins : IsPrefix seat.front (history after)
    pub opened : opening after ≡ seat.lock.opening
    pub seals : sealed before ≤ sealed after
    pub lasts : Lasts (opening before).header (turn_of history sealed reach disk before) (turn_of history sealed reach disk after)
    pub adds : Adds seat.number (history before) added after
    pub own_one : (e : Entry) → history after ≡ history before ++ e ∷ [] → entries_by seat.number (history after) ≡ entries_by seat.number seat.front ++ e ∷ []
    pub own_none : history after ≡ history before → entries_by seat.number (history after) ≡ entries_by seat.number seat.front
    pub joined : All (λ (n : ℕ). entries_by n (history after) ≡ entries_by n seat.front) seat.joined

  -- the value at the end, when the lead with this post has joined every seat
  pub record Ended (most : ℕ) (p : Post) (key : Opening) (value : T) : Type 0 where
    pub shows : history value ≡ p.front
    pub opened : opening value ≡ key
    -- nothing waits to be sealed, unless a breaking fault is held
    pub quiet : is_down (history value) ≡ false → stored_length (history value) ≤ sealed value
    -- what it has seen sealed is sealed, also once down
    pub told : p.sealed ≤ sealed value
    pub lasts : Lasts key.header (told_to p) (turn_of history sealed reach disk value)
    -- of each seat so few wait, also once down
    pub few : AreFew most (history value) (sealed value)
    pub recorded : All (λ (e : Entry). e.who ≤ p.split) (history value)
