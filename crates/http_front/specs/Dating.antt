-- The change that is made for one that is asked for.
--     DatedBy tells replies enters      how a session's calls are answered, by a seat that answers them so and enters them so
--     IsDated tells asked made      a landing is made at some moment that a clock tells, and any other call as it is asked for
--     IsLastDated tells asked made      so is the last of a list, and those before it are made as they are asked for
--     IsStack calls      all but the last of a list store changesets
use Rattle.std.specs.Prelude.{◌≡◌, ℕ, List, [], ◌∷◌, ◌++◌}
use Rattle.stacked_calls.specs.Chain.{Answering}
use Rattle.session_model.specs.Dating.{DatedAll}
use Rattle.session_model.specs.Stacks.{puts}
use Rattle.reply_model.specs.After.{Relation, Call, Asks, Joins, Looks, Derives}
use Rattle.reply_model.specs.Reply.{PutContent, PutWhole, PutChangeset, SetBookmark, LandDraft, SetPolicy}

abbrev pub DatedBy : (ℕ → Type 0) → Relation → Relation → Answering
DatedBy tells replies enters = DatedAll tells (record { replies = replies; enters = enters })

abbrev pub IsDated : (ℕ → Type 0) → Call → Call → Type 0
IsDated tells (Asks (PutContent bytes)) made = made ≡ Asks (PutContent bytes)
IsDated tells (Asks (PutWhole body pieces)) made = made ≡ Asks (PutWhole body pieces)
IsDated tells (Asks (PutChangeset bytes)) made = made ≡ Asks (PutChangeset bytes)
IsDated tells (Asks (SetBookmark caller name from to)) made = made ≡ Asks (SetBookmark caller name from to)
IsDated tells (Asks (LandDraft caller name draft asked)) made = (moment : ℕ) × tells moment × (made ≡ Asks (LandDraft caller name draft moment))
IsDated tells (Asks (SetPolicy caller text)) made = made ≡ Asks (SetPolicy caller text)
IsDated tells (Joins body) made = made ≡ Joins body
IsDated tells (Looks question) made = made ≡ Looks question
IsDated tells (Derives x) made = made ≡ Derives x

pub record IsLastDated (tells : ℕ → Type 0) (asked made : List Call) : Type 0 where
  pub earlier : List Call
  pub last : Call
  pub last_made : Call
  pub asked_is : asked ≡ earlier ++ last ∷ []
  pub made_is : made ≡ earlier ++ last_made ∷ []
  pub dated : IsDated tells last last_made

pub record IsStack (calls : List Call) : Type 0 where
  pub earlier : List (List ℕ)
  pub last : Call
  pub calls_are : calls ≡ puts earlier ++ last ∷ []
