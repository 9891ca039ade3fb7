-- Changes that a seat was granted, one after another.
--     Call      one of them: what was asked and granted, the entry that it made, if it made one, and the seat's front after it
--     Went header who from calls to      the seat's front went from the one to the other by these calls
--     asks_of calls, heads_of calls, bodies_of calls      what they asked, the heads that the landings among them left, and the entries that they made
--     landings_in bodies      how many of these entries are landings
use Rattle.std.specs.Prelude.{◌≡◌, ℕ, ◌+◌, List, [], ◌∷◌, map, flat_map, Option}
use Rattle.std.specs.Option.{option_to_list}
use Rattle.byte_fields.specs.Bytes.{Id}
use Rattle.history_model.specs.History.{Body, Content, Whole, Change, Book, Land, Policy, Fault, Entry}
use Rattle.history_model.specs.Journal.{Header}
use Rattle.reply_model.specs.Reply.{Ask, Granted, ContentPut, WholePut, ChangesetPut, BookmarkSet, Landed, PolicySet}
use Rattle.reply_model.specs.After.{After, Asks, Grants}

pub record Call : Type 0 where
  pub ask : Ask
  pub granted : Granted
  pub made : Option Body
  pub front : List Entry

pub record IsGranted (header : Header) (who : ℕ) (from : List Entry) (call : Call) : Type 0 where
  pub after : After header from who (Asks call.ask) (Grants call.granted) call.front
  pub made_is : after.made.entry ≡ call.made

abbrev pub Went : Header → ℕ → List Entry → List Call → List Entry → Type 0
Went header who from [] to = to ≡ from
Went header who from (call ∷ calls) to = IsGranted header who from call × Went header who call.front calls to

-- the last of the new changesets, or the head before where there is none
abbrev pub last_id : Id → List Id → Id
last_id old [] = old
last_id old (x ∷ ids) = last_id x ids

-- the head that a landing left
abbrev pub heads_in : Granted → List Id
heads_in (ContentPut x) = []
heads_in (WholePut x n) = []
heads_in (ChangesetPut x) = []
heads_in BookmarkSet = []
heads_in (Landed old ids) = last_id old ids ∷ []
heads_in (PolicySet n) = []

abbrev pub asks_of : List Call → List Ask
asks_of calls = map (λ call. call.ask) calls

abbrev pub heads_of : List Call → List Id
heads_of calls = flat_map (λ call. heads_in call.granted) calls

abbrev pub bodies_of : List Call → List Body
bodies_of calls = flat_map (λ call. option_to_list call.made) calls

-- ---- landings among entries

abbrev pub landing_count : Body → ℕ
landing_count (Content x n) = 0
landing_count (Whole x n parts) = 0
landing_count (Change c) = 0
landing_count (Book move) = 0
landing_count (Land landing) = 1
landing_count (Policy caller text) = 0
landing_count (Fault breaking) = 0

abbrev pub landings_in : List Body → ℕ
landings_in [] = 0
landings_in (body ∷ bodies) = landing_count body + landings_in bodies
