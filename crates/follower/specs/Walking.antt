-- How far following has come.
--     Continues opening h0 bytes0 lines0 sofar h bytes lines      whatever happens from there on, happens after these entries
--     Reached opening h0 n0 lines0 held0 rest0 h n lines held rest      from one place of following, at which so many entries are sealed, to another one these entries were made
--     Entered opening h line held rest after sealed held' rest'      the entry of which a page tells this was made, and is sealed
--     GoesInside opening h before lines held rest after sealed held' rest' end      all of these entries were made, or following ends
--     GoesOver ..      and so for one
--     GoesOn opening h before held rest after sealed held' rest' end      the entries of a page were made, and there is less room, or following ends
--     heard_end number fault, replayed_end number replayed, page_end number total      how following ends where nothing was heard for the entry of this number, where it was replayed so, and at a page without entries
use Rattle.std.specs.Prelude.{◌≡◌, ℕ, ◌+◌, ◌-◌, ◌<◌, ◌≤◌, ◌==◌, if◌then◌else◌, List, [], ◌∷◌, ◌++◌, length, Option, None, Some}
use Rattle.history_model.specs.History.{Body, Entry, bodies}
use Rattle.history_model.specs.Journal.{size}
use Rattle.bookmark_lock.specs.Opening.{Opening}
use Rattle.reply_model.specs.Log.{LogLine}
use Rattle.reply_model.specs.After.{entry_by}
use Rattle.follower.specs.declared.followed.FollowEnd.{FollowEnd}
use Rattle.follower.specs.declared.followed.FollowEnd.TheVariants as ends
use Rattle.follower.specs.declared.inbox.HearFault.{HearFault}
use Rattle.follower.specs.declared.inbox.HearFault.TheVariants.{LinkFault, BadReply, Memory}
use Rattle.follower.specs.declared.replayed.Replayed.{Replayed}
use Rattle.follower.specs.declared.replayed.Replayed.TheVariants as replays
use Rattle.follower.specs.Wanting.{wanted_of, IsFetched}
use Rattle.follower.specs.Receiving.{IsAhead}
use Rattle.follower.specs.Making.{Makes, HasGrown, count, with_done}
use Rattle.follower.specs.Following.{Follows, IsFollowed}

abbrev pub Continues : Opening → List Entry → List ℕ → List LogLine → List Body → List Entry → List ℕ → List LogLine → Type 0
Continues opening h0 bytes0 lines0 sofar h bytes lines = (end : FollowEnd) (done extra : List Body) → Follows opening h bytes lines end done extra → Follows opening h0 bytes0 lines0 end (sofar ++ done) extra

-- where the link tells its bytes
abbrev pub GoesOnFrom : Opening → List Entry → List ℕ → List LogLine → List Body → List Entry → List LogLine → List ℕ → Option (List ℕ) → Type 0
GoesOnFrom opening h0 bytes0 lines0 sofar h lines held rest = (bytes : List ℕ) × IsAhead held rest bytes × Continues opening h0 bytes0 lines0 sofar h bytes lines

pub record Reached (opening : Opening) (h0 : List Entry) (n0 : ℕ) (lines0 : List LogLine) (held0 : List ℕ) (rest0 : Option (List ℕ)) (h : List Entry) (n : ℕ) (lines : List LogLine) (held : List ℕ) (rest : Option (List ℕ)) : Type 0 where
  pub sofar : List Body
  pub history_is : h ≡ with_done h0 sofar
  pub entries : bodies h ≡ bodies h0 ++ sofar
  -- where all was sealed, all is
  pub seals : n0 ≡ count h0 → n ≡ count h
  pub told : (bytes0 : List ℕ) → IsAhead held0 rest0 bytes0 → GoesOnFrom opening h0 bytes0 lines0 sofar h lines held rest

-- what was fetched for it came from these bytes
abbrev pub ComesFrom : ℕ → LogLine → List ℕ → List ℕ → List ℕ → Option (List ℕ) → Type 0
ComesFrom number line bytes fetched held rest = (left : List ℕ) × IsAhead held rest left × IsFetched (wanted_of number line) bytes fetched left

pub record Entered (opening : Opening) (h : List Entry) (line : LogLine) (held : List ℕ) (rest : Option (List ℕ)) (after : List Entry) (sealed : ℕ) (held' : List ℕ) (rest' : Option (List ℕ)) : Type 0 where
  pub body : Body
  pub fetched : List ℕ
  pub makes : Makes opening.header h line fetched body
  pub after_is : after ≡ h ++ entry_by 0 body ∷ []
  pub sealed_is : sealed ≡ count h + 1
  pub told : (bytes : List ℕ) → IsAhead held rest bytes → ComesFrom (count h) line bytes fetched held' rest'

abbrev pub GoesOver : Opening → List Entry → ℕ → LogLine → List ℕ → Option (List ℕ) → List Entry → ℕ → List ℕ → Option (List ℕ) → Option FollowEnd → Type 0
GoesOver opening h before line held rest after sealed held' rest' None = Entered opening h line held rest after sealed held' rest'
GoesOver opening h before line held rest after sealed held' rest' (Some end) = (lines : List LogLine) → IsFollowed opening h before (line ∷ lines) held rest after sealed end

abbrev pub GoesInside : Opening → List Entry → ℕ → List LogLine → List ℕ → Option (List ℕ) → List Entry → ℕ → List ℕ → Option (List ℕ) → Option FollowEnd → Type 0
GoesInside opening h before lines held rest after sealed held' rest' None = Reached opening h before lines held rest after sealed [] held' rest' × HasGrown opening.header h after (length lines)
GoesInside opening h before lines held rest after sealed held' rest' (Some end) = IsFollowed opening h before lines held rest after sealed end

-- after a page with entries there is less room
pub record Further (opening : Opening) (h : List Entry) (before : ℕ) (held : List ℕ) (rest : Option (List ℕ)) (after : List Entry) (sealed : ℕ) (held' : List ℕ) (rest' : Option (List ℕ)) : Type 0 where
  pub reached : Reached opening h before [] held rest after sealed [] held' rest'
  pub less : opening.header.capacity - size after < opening.header.capacity - size h

abbrev pub GoesOn : Opening → List Entry → ℕ → List ℕ → Option (List ℕ) → List Entry → ℕ → List ℕ → Option (List ℕ) → Option FollowEnd → Type 0
GoesOn opening h before held rest after sealed held' rest' None = Further opening h before held rest after sealed held' rest'
GoesOn opening h before held rest after sealed held' rest' (Some end) = IsFollowed opening h before [] held rest after sealed end

-- ---- how following ends

abbrev pub heard_end : ℕ → HearFault → FollowEnd
heard_end number LinkFault = ends.LinkFault
heard_end number BadReply = ends.BadReply number
heard_end number Memory = ends.Memory

abbrev pub replayed_end : ℕ → Replayed → Option FollowEnd
replayed_end number replays.Same = None
replayed_end number replays.Differs = Some (ends.Differs number)
replayed_end number replays.Full = Some (ends.Full number)
replayed_end number replays.DiskFault = Some ends.DiskFault
replayed_end number replays.Memory = Some ends.Memory

-- at a page without entries
abbrev pub page_end : ℕ → ℕ → FollowEnd
page_end number total = if total == number then ends.Same else ends.Differs total
