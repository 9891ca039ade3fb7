-- What a server writes to one who follows it.
--     question_of wanted      the read that a question asks for
--     IsWritten h wanted text      the text of what the repository of one thread answers to it at this history
--     HasGrown header h g      the server's history has grown to this one, which its rules allow, as its version and its policies have them
--     Serves header h n lines bytes last      From this history of the server on, the bytes are what it writes to one who has its first n stored entries, and was told these lines of the next ones: at each question its history may have grown. The last history is that at which a page tells of no more entries
use Rattle.std.specs.Prelude.{◌≡◌, ℕ, ◌+◌, ◌<◌, Bool, false, List, [], ◌∷◌, ◌++◌, length, None, Some, Result, Ok, Err}
use mathlib.Core.List.{IsPrefix}
use Rattle.history_model.specs.History.{Entry, stored}
use Rattle.history_model.specs.Journal.{Header}
use Rattle.reply_model.specs.Log.{LogLine, log_lines}
use Rattle.reply_model.specs.Legal.{IsLegal}
use Rattle.reply_model.specs.Reply.{Question, LogFrom, ContentOf, ChangesetOf, PolicyOf, Seen, Absent, Sees}
use Rattle.reply_model.specs.After.{Answer, Looks, Shows, Lacks}
use Rattle.session_model.specs.Responses.{text_of}
use Rattle.session_model.specs.Asking.{response}
use Rattle.follower.specs.declared.wanted.Wanted.{Wanted}
use Rattle.follower.specs.declared.wanted.Wanted.TheVariants.{Page, Content, Changeset, Policy}
use Rattle.follower.specs.Wanting.{wanted_of}

abbrev pub question_of : Wanted → Question
question_of (Page from) = LogFrom from
question_of (Content id) = ContentOf id
question_of (Changeset id) = ChangesetOf id
question_of (Policy number) = PolicyOf (Some number)

abbrev pub answer_of : Result Seen Absent → Answer
answer_of (Ok seen) = Shows seen
answer_of (Err absent) = Lacks absent

-- whether it closes the connection afterwards is left open
pub record IsWritten (h : List Entry) (wanted : Wanted) (text : List ℕ) : Type 0 where
  pub result : Result Seen Absent
  pub close : Bool
  pub sees : Sees h (question_of wanted) result
  pub text_is : text ≡ text_of (response (Looks (question_of wanted)) (answer_of result)) close false

pub record HasGrown (header : Header) (h g : List Entry) : Type 0 where
  pub more : IsPrefix h g
  pub legal : IsLegal header g

pub data Serves (header : Header) : List Entry → ℕ → List LogLine → List ℕ → List Entry → Type 0 where
  -- a page without entries, as all are stored there
  Ends : (h last : List Entry) (n : ℕ) (bytes text rest : List ℕ) → HasGrown header h last → length (stored last) ≡ n → IsWritten last (Page n) text → bytes ≡ text ++ rest → Serves header h n [] bytes last
  -- a page with entries
  Turns : (h g last : List Entry) (n : ℕ) (bytes text rest : List ℕ)
      → HasGrown header h g → n < length (stored g) → IsWritten g (Page n) text → bytes ≡ text ++ rest → Serves header g n (log_lines g n) rest last → Serves header h n [] bytes last
  -- the next of them needs nothing else
  Tells : (h last : List Entry) (n : ℕ) (line : LogLine) (lines : List LogLine) (bytes : List ℕ)
      → wanted_of n line ≡ None → Serves header h (n + 1) lines bytes last → Serves header h n (line ∷ lines) bytes last
  -- what the next of them needs
  Fetches : (h g last : List Entry) (n : ℕ) (line : LogLine) (lines : List LogLine) (wanted : Wanted) (bytes text rest : List ℕ)
      → wanted_of n line ≡ Some wanted → HasGrown header h g → IsWritten g wanted text → bytes ≡ text ++ rest → Serves header g (n + 1) lines rest last → Serves header h n (line ∷ lines) bytes last
