-- What contracts see of a lock and of a seat.
--     Site, Place      a lock;  a seat
--     Unsealed      the entries of its own that a seat hasn't seen sealed
--     lead_place, new_place, joined_place, moved      the first seat of a lock;  a seat that is split off;  the lead once it has joined a seat;  a seat that has seen what another place has
--     Sight, at_sight, home_of      what a seat sees at the end of a turn;  a seat that has seen it;  a seat, whatever it has seen
--     told_at, told_to      what a seat was told of the value at the end of its last turn, or of that of the seat that split it off
--     Post, known, place_of      what a seat knows;  of a seat;  the seat of a table that knows it
use Rattle.std.specs.Prelude.{ℕ, ◌+◌, ◌-◌, List, [], ◌∷◌, length, max, nat_lt, if◌then◌else◌, Option, None}
use Rattle.atomic_table.specs.Seated.{TableId}
use Rattle.disk_model.specs.Meaning.{Meaning}
use Rattle.history_model.specs.History.{Entry}
use Rattle.bookmark_lock.specs.Opening.{Opening, unopened}
use Rattle.bookmark_lock.specs.Turning.{Turn}

-- which lock it is, and what its value was opened with
pub record Site : Type 0 where
  pub table : TableId
  pub opening : Opening

-- last: the log number of the last of them. count: how many it stored since it had none
pub record Unsealed : Type 0 where
  pub last : ℕ
  pub count : ℕ

-- The lead has number 0. front: the history that the seat has seen. sealed: it has seen the first so many stored entries of it sealed.
-- disk, reach, since: what it was told of the disk at the end of its last turn, or of that of the seat that split it off, up to which of the stored entries a crash could leave them then, and how many were sealed.
-- unsealed: the entries of its own that it hasn't seen sealed.
-- Of the lead: how many seats it has split off, how many of these it has not joined, and the numbers of those that it has joined, the last first
pub record Place : Type 0 where
  pub lock : Site
  pub number : ℕ
  pub front : List Entry
  pub sealed : ℕ
  pub since : ℕ
  pub reach : ℕ
  pub unsealed : Option Unsealed
  pub disk : Meaning
  pub split : ℕ
  pub out : ℕ
  pub joined : List ℕ

abbrev pub lead_place : Site → List Entry → (sealed reach : ℕ) → Meaning → Place
lead_place lock history sealed reach disk = record { lock = lock; number = 0; front = history; sealed = sealed; since = sealed; reach = reach; unsealed = None; disk = disk; split = 0; out = 0; joined = [] }

-- the seat that this lead splits off next
abbrev pub new_place : Place → Place
new_place lead = record { lock = lead.lock; number = lead.split + 1; front = lead.front; sealed = lead.sealed; since = lead.since; reach = lead.reach; unsealed = None; disk = lead.disk; split = 0; out = 0; joined = [] }

-- the longer of two fronts
abbrev pub longer : List Entry → List Entry → List Entry
longer a b = if nat_lt (length a) (length b) then b else a

abbrev pub joined_place : Place → Place → Place
joined_place lead other = record lead { front = longer lead.front other.front; sealed = max lead.sealed other.sealed; out = lead.out - 1; joined = other.number ∷ lead.joined }

-- the history, how many of its stored entries are sealed, up to which a crash may leave them, the entries of its own that aren't sealed, and what is told of the disk
pub record Sight : Type 0 where
  pub front : List Entry
  pub sealed : ℕ
  pub reach : ℕ
  pub unsealed : Option Unsealed
  pub disk : Meaning

abbrev pub at_sight : Place → Sight → Place
at_sight seat s = record seat { front = s.front; sealed = s.sealed; since = s.sealed; reach = s.reach; unsealed = s.unsealed; disk = s.disk }

abbrev pub moved : Place → Place → Place
moved old new = record old { front = new.front; sealed = new.sealed; since = new.since; reach = new.reach; unsealed = new.unsealed; disk = new.disk }

abbrev pub home_of : Place → Place
home_of seat = record seat { front = []; sealed = 0; since = 0; reach = 0; unsealed = None; disk = unopened.disk }

-- what a seat knows, apart from which table it is for
pub record Post : Type 0 where
  pub number : ℕ
  pub front : List Entry
  pub sealed : ℕ
  pub since : ℕ
  pub reach : ℕ
  pub unsealed : Option Unsealed
  pub disk : Meaning
  pub opening : Opening
  pub split : ℕ
  pub out : ℕ
  pub joined : List ℕ

abbrev pub known : Place → Post
known seat = record { number = seat.number; front = seat.front; sealed = seat.sealed; since = seat.since; reach = seat.reach; unsealed = seat.unsealed; disk = seat.disk; opening = seat.lock.opening; split = seat.split; out = seat.out; joined = seat.joined }

abbrev pub place_of : TableId → Post → Place
place_of table p =
    record { lock = record { table = table; opening = p.opening }; number = p.number; front = p.front; sealed = p.sealed; since = p.since; reach = p.reach; unsealed = p.unsealed; disk = p.disk; split = p.split; out = p.out; joined = p.joined }

abbrev pub told_to : Post → Turn
told_to p = record { log = p.front; sealed = p.since; reach = p.reach; disk = p.disk }

abbrev pub told_at : Place → Turn
told_at seat = record { log = seat.front; sealed = seat.since; reach = seat.reach; disk = seat.disk }

-- the numbers whose entries the seat has all seen
abbrev pub numbers : Post → List ℕ
numbers p = p.number ∷ p.joined
