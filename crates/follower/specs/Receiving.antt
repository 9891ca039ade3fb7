-- What comes over a link.
--     IsAhead held rest bytes      of the bytes that the link tells, these are to come: those that are held, and those that are left on it
--     IsReady inbox      it has room to read more
--     IsPlaced limit bytes placement      this stands at the front of the bytes
--     reply_at received      a reply that was received
--     Looks limit bytes held rest result      and what a look at them found;  Receives limit bytes held rest result      what these bytes to come gave, and what is to come then
--     Hears wanted bytes held rest result      so after a question
use Rattle.std.specs.Prelude.{◌≡◌, ℕ, ◌+◌, ◌<◌, ◌≤◌, List, ◌++◌, length, take, drop, Option, MatchOption, vec_len, Result, Ok, Err}
use Rattle.http_model.specs.Stream.{most_head}
use Rattle.reply_reader.specs.Heads.{media_of}
use Rattle.reply_reader.specs.Replies.{Reply, IsReply}
use Rattle.follower.specs.declared.placing.Placed.{Placed}
use Rattle.follower.specs.declared.placing.Placement.{Placement}
use Rattle.follower.specs.declared.placing.Placement.TheVariants.{Whole, Unfinished, Bad}
use Rattle.follower.specs.declared.inbox.Inbox.{Inbox}
use Rattle.follower.specs.declared.inbox.Received.{Received}
use Rattle.follower.specs.declared.inbox.HearFault.{HearFault}
use Rattle.follower.specs.declared.inbox.HearFault.TheVariants.{LinkFault, BadReply, Memory}
use Rattle.follower.specs.declared.wanted.Wanted.{Wanted}
use Rattle.follower.specs.Wanting.{IsAnswered, IsUnanswered}

abbrev pub IsAhead : List ℕ → Option (List ℕ) → List ℕ → Type 0
IsAhead held rest bytes = MatchOption rest ⊥ (λ left. bytes ≡ held ++ left)

-- there is room to read more
abbrev pub IsReady : Inbox → Type 0
IsReady inbox = (vec_len inbox.piece ≡ 65_536) × (vec_len inbox.headers ≡ 5_462)

abbrev pub IsNowhere : ℕ → List ℕ → Type 0
IsNowhere limit bytes = (reply : Reply) (rest : List ℕ) → ¬ (IsReply limit bytes reply rest)

-- ---- what stands at the front

abbrev pub reply_placed : List ℕ → Placed → Reply
reply_placed bytes placed = record { status = placed.status; media = media_of placed.media; body = drop placed.at (take placed.end bytes) }

pub record IsWhole (limit : ℕ) (bytes : List ℕ) (placed : Placed) : Type 0 where
  pub before : placed.at ≤ placed.end
  pub within : placed.end ≤ length bytes
  pub is_reply : IsReply limit bytes (reply_placed bytes placed) (drop placed.end bytes)

abbrev pub IsPlaced : ℕ → List ℕ → Placement → Type 0
IsPlaced limit bytes (Whole placed) = IsWhole limit bytes placed
IsPlaced limit bytes Unfinished = (length bytes < most_head + limit) × IsNowhere limit bytes
IsPlaced limit bytes Bad = (more : List ℕ) → IsNowhere limit (bytes ++ more)

-- what stands first, of these bytes to come
abbrev pub Looks : ℕ → List ℕ → List ℕ → Option (List ℕ) → Result (Option Placed) HearFault → Type 0
Looks limit bytes held rest (Ok found) = IsAhead held rest bytes
Looks limit bytes held rest (Err LinkFault) = Unit {0}
Looks limit bytes held rest (Err BadReply) = IsNowhere limit bytes
Looks limit bytes held rest (Err Memory) = Unit {0}

-- ---- what was received

abbrev pub reply_received : Received → Reply
reply_received received = record { status = received.status; media = media_of received.media; body = received.body.items }

-- it stood first, and this is to come then
abbrev pub IsFirst : ℕ → List ℕ → Reply → List ℕ → Option (List ℕ) → Type 0
IsFirst limit bytes reply held rest = (left : List ℕ) × IsAhead held rest left × IsReply limit bytes reply left

abbrev pub Receives : ℕ → List ℕ → List ℕ → Option (List ℕ) → Result Received HearFault → Type 0
Receives limit bytes held rest (Ok received) = IsFirst limit bytes (reply_received received) held rest
Receives limit bytes held rest (Err LinkFault) = Unit {0}
Receives limit bytes held rest (Err BadReply) = IsNowhere limit bytes
Receives limit bytes held rest (Err Memory) = Unit {0}

-- ---- after a question

abbrev pub IsHeard : Wanted → List ℕ → List ℕ → List ℕ → Option (List ℕ) → Type 0
IsHeard wanted bytes body held rest = (left : List ℕ) × IsAhead held rest left × IsAnswered wanted bytes body left

abbrev pub Hears : Wanted → List ℕ → List ℕ → Option (List ℕ) → Result Received HearFault → Type 0
Hears wanted bytes held rest (Ok received) = IsHeard wanted bytes received.body.items held rest
Hears wanted bytes held rest (Err LinkFault) = Unit {0}
Hears wanted bytes held rest (Err BadReply) = IsUnanswered wanted bytes
Hears wanted bytes held rest (Err Memory) = Unit {0}
