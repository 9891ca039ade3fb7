-- What following a server leaves of the repository and on its disk.
--     StandsFollowed opening h done image      the image stands for a legal history that begins with the opened one, and whose further entries are, in order, a front of those of the history and of these
--     LeavesFollowed opening h done m      so does every image of the disk, and each that was left since the opening
--     open_to left      up to which of the stored entries the group goes that is being sealed, if its gate was opened. 0 where there is none
--     HasFollowed opening h before rest after sealed m end      following a server ended so, and left this
use Rattle.std.specs.Prelude.{◌≡◌, ℕ, Bool, true, false, IsTrue, List, [], ◌++◌, take, Option, None, Some}
use Rattle.disk_model.specs.Images.{IsImage}
use Rattle.disk_model.specs.Meaning.{Meaning, LeftSince}
use Rattle.history_model.specs.History.{Body, Entry, bodies}
use Rattle.history_model.specs.Journal.{Stands}
use Rattle.reply_model.specs.Legal.{IsLegal}
use Rattle.bookmark_lock.specs.Opening.{Opening}
use Rattle.repo_state.specs.Groups.{is_cut, opens_at}
use Rattle.repo_state.specs.declared.left.Left.{Left}
use Rattle.follower.specs.declared.followed.FollowEnd.{FollowEnd}
use Rattle.follower.specs.Following.{IsFollowed}

pub record StandsFollowed (opening : Opening) (h : List Entry) (done : List Body) (image : List ℕ) : Type 0 where
  pub history : List Entry
  pub stands : Stands opening.header image history
  pub legal : IsLegal opening.header history
  -- what is opened is never lost
  pub later : List Body
  pub begins : bodies history ≡ take opening.length (bodies h) ++ later
  -- and nothing else is on the disk
  pub missing : List Body
  pub goes_on : bodies h ++ done ≡ bodies history ++ missing

pub record LeavesFollowed (opening : Opening) (h : List Entry) (done : List Body) (m : Meaning) : Type 0 where
  pub now : (image : List ℕ) → IsImage m.state image → StandsFollowed opening h done image
  pub since : (image : List ℕ) → LeftSince m opening.moment image → StandsFollowed opening h done image

-- by whether it was cut off, and whether its gate may stand open
abbrev pub opened_at : ℕ → (cut opens : Bool) → ℕ
opened_at upto true opens = 0
opened_at upto false true = upto
opened_at upto false false = 0

abbrev pub open_to : Option Left → ℕ
open_to None = 0
open_to (Some l) = opened_at l.upto (is_cut l.at) (opens_at l.at)

pub record HasFollowed (opening : Opening) (h : List Entry) (before : ℕ) (rest : Option (List ℕ)) (after : List Entry) (sealed : ℕ) (m : Meaning) (end : FollowEnd) : Type 0 where
  pub followed : IsFollowed opening h before [] [] rest after sealed end
  pub leaves : IsTrue m.honest → LeavesFollowed opening h followed.done m
