-- What it is to follow a server.
--     EndsAt opening h bytes lines end extra      following ends so at this history, with these bytes to come and these lines of a page left, and these entries wait then
--     Follows opening h bytes lines end done extra      from there on these entries are made, in order, each as its page tells it, and then following ends so
--     waiting end      how many entries may wait to be sealed at such an end
--     IsFollowed opening h before lines held rest after sealed end      so it is from a history of which so many entries are sealed before, and this is left of the repository
use Rattle.std.specs.Prelude.{◌≡◌, ◌≢◌, ℕ, ◌+◌, ◌<◌, ◌≤◌, ◌⊎◌, List, [], ◌∷◌, ◌++◌, length, Option}
use Rattle.changeset_model.specs.Version.{First}
use Rattle.history_model.specs.History.{Body, Entry}
use Rattle.bookmark_lock.specs.Opening.{Opening}
use Rattle.reply_model.specs.Log.{LogLine}
use Rattle.reply_model.specs.After.{entry_by}
use Rattle.follower.specs.declared.followed.FollowEnd.{FollowEnd}
use Rattle.follower.specs.declared.followed.FollowEnd.TheVariants as ends
use Rattle.follower.specs.Wanting.{wanted_of, IsFetched, IsUnfetched}
use Rattle.follower.specs.Receiving.{IsAhead}
use Rattle.follower.specs.Hearing.{IsPageReply, IsNoPageReply}
use Rattle.follower.specs.Making.{count, with_done, Makes, MadeFor, IsMadeFor, IsOther, IsFull, Remains}

-- at a question for a page
abbrev pub EndsBetween : Opening → List Entry → List ℕ → FollowEnd → Type 0
EndsBetween opening h bytes ends.Same = (rest : List ℕ) × IsPageReply (count h) bytes [] (count h) rest
EndsBetween opening h bytes ends.LinkFault = Unit {0}
EndsBetween opening h bytes (ends.BadReply number) = (number ≡ count h) × IsNoPageReply (count h) bytes
EndsBetween opening h bytes (ends.Differs number) = (number < count h) × (rest : List ℕ) × IsPageReply (count h) bytes [] number rest
EndsBetween opening h bytes (ends.Full number) = ⊥
EndsBetween opening h bytes ends.DiskFault = Unit {0}
EndsBetween opening h bytes ends.OldFormat = opening.header.version ≡ First
EndsBetween opening h bytes ends.Memory = Unit {0}

-- at an entry that a page told of
abbrev pub EndsInside : Opening → List Entry → List ℕ → LogLine → FollowEnd → List Body → Type 0
EndsInside opening h bytes line ends.Same extra = ⊥
EndsInside opening h bytes line ends.LinkFault extra = extra ≡ []
EndsInside opening h bytes line (ends.BadReply number) extra = (extra ≡ []) × (number ≡ count h) × IsUnfetched (wanted_of (count h) line) bytes
EndsInside opening h bytes line (ends.Differs number) extra = (number ≡ count h) × (fetched rest : List ℕ) × IsFetched (wanted_of (count h) line) bytes fetched rest × IsOther opening h line fetched extra
EndsInside opening h bytes line (ends.Full number) extra = (extra ≡ []) × (number ≡ count h) × (fetched rest : List ℕ) × IsFetched (wanted_of (count h) line) bytes fetched rest × IsFull opening.header h line fetched
EndsInside opening h bytes line ends.DiskFault extra = extra ≡ []
EndsInside opening h bytes line ends.OldFormat extra = ⊥
EndsInside opening h bytes line ends.Memory extra = (extra ≡ []) ⊎ ((fetched rest : List ℕ) × IsFetched (wanted_of (count h) line) bytes fetched rest × MadeFor opening.header h line fetched extra)

abbrev pub EndsAt : Opening → List Entry → List ℕ → List LogLine → FollowEnd → List Body → Type 0
EndsAt opening h bytes [] end extra = (extra ≡ []) × EndsBetween opening h bytes end
EndsAt opening h bytes (line ∷ lines) end extra = EndsInside opening h bytes line end extra

pub data Follows (opening : Opening) : List Entry → List ℕ → List LogLine → FollowEnd → List Body → List Body → Type 0 where
  Ends : (h : List Entry) (bytes : List ℕ) (lines : List LogLine) (end : FollowEnd) (extra : List Body) → EndsAt opening h bytes lines end extra → Follows opening h bytes lines end [] extra
  -- a page with entries
  Turns : (h : List Entry) (bytes rest : List ℕ) (lines : List LogLine) (total : ℕ) (end : FollowEnd) (done extra : List Body)
      → IsPageReply (count h) bytes lines total rest → 0 < length lines → Follows opening h rest lines end done extra → Follows opening h bytes [] end done extra
  -- its next entry is made
  Enters : (h : List Entry) (bytes rest fetched : List ℕ) (line : LogLine) (lines : List LogLine) (body : Body) (end : FollowEnd) (done extra : List Body)
      → IsFetched (wanted_of (count h) line) bytes fetched rest → Makes opening.header h line fetched body → Follows opening (h ++ entry_by 0 body ∷ []) rest lines end done extra
      → Follows opening h bytes (line ∷ lines) end (body ∷ done) extra

-- An entry that isn't the one that a page tells waits to be sealed, and so does one that couldn't be compared for want of memory.
abbrev pub waiting : FollowEnd → ℕ
waiting ends.Same = 0
waiting ends.LinkFault = 0
waiting (ends.BadReply number) = 0
waiting (ends.Differs number) = 1
waiting (ends.Full number) = 0
waiting ends.DiskFault = 0
waiting ends.OldFormat = 0
waiting ends.Memory = 1

pub record IsFollowed (opening : Opening) (h : List Entry) (before : ℕ) (lines : List LogLine) (held : List ℕ) (rest : Option (List ℕ)) (after : List Entry) (sealed : ℕ) (end : FollowEnd) : Type 0 where
  pub done : List Body
  -- what waits to be sealed
  pub extra : List Body
  pub remains : Remains extra h done after sealed
  pub few : length extra ≤ waiting end
  pub made : IsMadeFor opening.header (with_done h done) extra
  -- where all was sealed before, all that was made is sealed, unless the disk failed
  pub seals : before ≡ count h → end ≢ ends.DiskFault → sealed ≡ count h + length done
  -- where the link tells its bytes
  pub told : (bytes : List ℕ) → IsAhead held rest bytes → Follows opening h bytes lines end done extra
