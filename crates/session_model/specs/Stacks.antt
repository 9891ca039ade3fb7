-- A list of changesets in one body: each its length in four bytes, high byte first, and then its spelling. A list has at least one, and at most 100.
--     most_listed      so many changesets at most
--     one_listed      one of them;  listed n      at most n of them, to the end
--     stack_of body      the changesets, or the place of the first fault: where a length or a spelling is cut off, or where one too many begins
--     puts changesets      each is stored;  lands caller name changesets      and then the last is landed. A request doesn't tell when: 0 stands in the moment's place
--     placed at r      the response r, whose body tells at which place of the list it was
use Rattle.std.specs.Prelude.{ℕ, zero, suc, ◌-◌, ◌==◌, if◌then◌else◌, List, [], ◌∷◌, ◌++◌, length, take, get_or, map, codes, decimal, Some, Result, Ok, Err}
use Rattle.std.specs.Int.{w32}
use Rattle.std.specs.List.{concat}
use Rattle.sha2.specs.Sha256.{sha256}
use Rattle.byte_fields.specs.Reading.{Reader, and_then, any, with_len, read}
use Rattle.reply_model.specs.Reply.{PutChangeset, LandDraft}
use Rattle.reply_model.specs.After.{Call, Asks}
use Rattle.session_model.specs.declared.status.Status.TheVariants.{UnprocessableContent}
use Rattle.session_model.specs.Responses.{Response}
use Rattle.session_model.specs.Bodies.{coded, json}

abbrev pub most_listed : ℕ
most_listed = 100

abbrev pub one_listed : Reader (List ℕ)
one_listed = with_len w32 any (λ bytes. Some bytes)

abbrev pub and_last : {A : Type 0} → A → Result (List A × List ℕ) ℕ → Result (List A × List ℕ) ℕ
and_last x (Ok later) = Ok (x ∷ later.0, later.1)
and_last x (Err left) = Err left

unfoldable pub listed : ℕ → Reader (List (List ℕ))
listed zero bytes = Err (length bytes)
listed (suc n) bytes = and_then (one_listed bytes) (λ x rest. if length rest == 0 then Ok (x ∷ [], rest) else and_last x (listed n rest))

abbrev pub bad_list : ℕ → Response
bad_list at = json UnprocessableContent (coded (codes "bad-encoding") ((codes "place", decimal at) ∷ []))

abbrev pub list_or : Result (List (List ℕ)) ℕ → Result (List (List ℕ)) Response
list_or (Ok changesets) = Ok changesets
list_or (Err at) = Err (bad_list at)

abbrev pub stack_of : List ℕ → Result (List (List ℕ)) Response
stack_of body = list_or (read (listed most_listed) body)

abbrev pub put : List ℕ → Call
put changeset = Asks (PutChangeset changeset)

abbrev pub puts : List (List ℕ) → List Call
puts changesets = map put changesets

abbrev pub last_listed : List (List ℕ) → List ℕ
last_listed changesets = get_or changesets (length changesets - 1) []

abbrev pub lands : (caller name : List ℕ) → List (List ℕ) → List Call
lands caller name changesets = puts changesets ++ Asks (LandDraft caller name (sha256 (last_listed changesets)) 0) ∷ []

abbrev pub placed : ℕ → Response → Response
placed at r = record r { body = take (length r.body - 1) r.body ++ concat (codes ",\"at\":" ∷ decimal at ∷ codes "}" ∷ []) }
