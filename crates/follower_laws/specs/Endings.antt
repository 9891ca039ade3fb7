-- How following a server may end that keeps its rules.
--     EndsWell honest h all end      at this history, where the server has stored all these: neither is a reply a bad one nor does an entry differ, but for one that may
use Rattle.std.specs.Prelude.{◌≡◌, ℕ, Bool, List, ◌++◌, [], Some, IsTrue, slice_get, false}
use Rattle.changeset_model.specs.Version.{Second}
use mathlib.Core.List.{IsPrefix}
use Rattle.history_model.specs.History.{Body, Entry, bodies, stored, is_down}
use Rattle.history_model.specs.Journal.{Header, is_header}
use Rattle.follower.specs.declared.followed.FollowEnd.{FollowEnd}
use Rattle.follower.specs.declared.followed.FollowEnd.TheVariants as ends
use Rattle.follower.specs.Making.{count}
use Rattle.follower_laws.specs.Again.{MayDiffer}
use Rattle.follower_laws.specs.Serving.{Serves}

-- the server's next entry behind the history that was reached has this number, and may differ
abbrev pub DiffersAt : Bool → List Entry → List Body → ℕ → Type 0
DiffersAt honest h all number = (number ≡ count h) × (body : Body) × (slice_get all number ≡ Some body) × MayDiffer honest body

abbrev pub EndsWell : Bool → List Entry → List Body → FollowEnd → Type 0
EndsWell honest h all ends.Same = Unit {0}
EndsWell honest h all ends.LinkFault = Unit {0}
EndsWell honest h all (ends.BadReply number) = ⊥
EndsWell honest h all (ends.Differs number) = DiffersAt honest h all number
EndsWell honest h all (ends.Full number) = Unit {0}
EndsWell honest h all ends.DiskFault = Unit {0}
EndsWell honest h all ends.OldFormat = Unit {0}
EndsWell honest h all ends.Memory = Unit {0}

-- a file of the second version, in which no breaking fault is held, has a front of what a server has stored that keeps its rules, and the link tells what that server writes
pub record IsBehind (own server : Header) (h from : List Entry) (bytes : List ℕ) (last : List Entry) : Type 0 where
  pub second : own.version ≡ Second
  pub up : is_down h ≡ false
  pub header : IsTrue (is_header server)
  pub front : IsPrefix (stored h) (stored from)
  pub serves : Serves server from (count h) [] bytes last

-- all that was made is stored at the server, in its order, and following ended well
pub record HasFollowedWell (honest : Bool) (h : List Entry) (done : List Body) (last : List Entry) (end : FollowEnd) : Type 0 where
  pub reached : List Entry
  pub reached_is : bodies reached ≡ bodies h ++ done
  pub front : IsPrefix (stored reached) (stored last)
  pub well : EndsWell honest reached (bodies last) end
