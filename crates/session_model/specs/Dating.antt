-- When a landing is made. A request doesn't tell that.
--     DatedAll tells answering      so are all that are answered
--     Dated tells replies      as these replies are, but for a landing: that is made at some moment that a clock tells, whatever moment was asked for
use Rattle.std.specs.Prelude.{ℕ}
use Rattle.stacked_calls.specs.Chain.{Answering}
use Rattle.reply_model.specs.After.{Relation, Asks, Joins, Looks, Derives}
use Rattle.reply_model.specs.Reply.{PutContent, PutWhole, PutChangeset, SetBookmark, LandDraft, SetPolicy}

abbrev pub Dated : (ℕ → Type 0) → Relation → Relation
Dated tells replies header h who (Asks (PutContent bytes)) answer new = replies header h who (Asks (PutContent bytes)) answer new
Dated tells replies header h who (Asks (PutWhole body pieces)) answer new = replies header h who (Asks (PutWhole body pieces)) answer new
Dated tells replies header h who (Asks (PutChangeset bytes)) answer new = replies header h who (Asks (PutChangeset bytes)) answer new
Dated tells replies header h who (Asks (SetBookmark caller name from to)) answer new = replies header h who (Asks (SetBookmark caller name from to)) answer new
Dated tells replies header h who (Asks (LandDraft caller name draft asked)) answer new = (moment : ℕ) × tells moment × replies header h who (Asks (LandDraft caller name draft moment)) answer new
Dated tells replies header h who (Asks (SetPolicy caller text)) answer new = replies header h who (Asks (SetPolicy caller text)) answer new
Dated tells replies header h who (Joins body) answer new = replies header h who (Joins body) answer new
Dated tells replies header h who (Looks question) answer new = replies header h who (Looks question) answer new
Dated tells replies header h who (Derives x) answer new = replies header h who (Derives x) answer new

-- what is granted behind others is entered as it is asked for: a landing is the last of a list
abbrev pub DatedAll : (ℕ → Type 0) → Answering → Answering
DatedAll tells answering = record { replies = Dated tells answering.replies; enters = answering.enters }
