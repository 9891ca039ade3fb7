-- Answers of a repository that many share, of which so many stored entries are sealed.
--     SealedAfter n header h who call answer new      as `After`, and where it is granted, all that is stored up to its place is among the first n
use Rattle.std.specs.Prelude.{◌≡◌, ℕ, ◌≤◌, List, ◌++◌, length}
use Rattle.history_model.specs.History.{Entry, bodies}
use Rattle.history_model.specs.Journal.{Header}
use Rattle.reply_model.specs.Reply.{Granted}
use Rattle.reply_model.specs.After.{Answer, Call, Grants, After, stands_of}

pub record SealedAfter (n : ℕ) (header : Header) (h : List Entry) (who : ℕ) (call : Call) (answer : Answer) (new : List Entry) : Type 0 where
  pub after : After header h who call answer new
  pub sealed_to : (granted : Granted) → answer ≡ Grants granted → length (bodies (after.before ++ stands_of who after.made)) ≤ n
