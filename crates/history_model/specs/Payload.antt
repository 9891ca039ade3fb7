-- Reading the payload of a record.
--     payload_body bytes      the entry that a payload stands for, or the place of its first fault
--     IsPayloadFault bytes at      how a fault's place is told: the payload is too long, or a field is cut off or breaks its rule, as the rest of a changeset may
use Rattle.std.specs.Prelude.{◌≡◌, ◌<◌, ◌⊎◌, ℕ, zero, suc, ◌||◌, ◌==◌, nat_lt, if◌then◌else◌, List, [], ◌∷◌, length, Option, None, Some, Result, Ok, Err}
use Rattle.std.specs.Result.{result_ok}
use Rattle.std.specs.Int.{w8, w16, w32, w64}
use Rattle.sha2.specs.Sha256.{sha256}
use Rattle.byte_fields.specs.Bytes.{Id}
use Rattle.byte_fields.specs.Reading.{Reader, value, ◌>>=◌, field, number, with_len, keeping, one_field, times, read, any, id}
use Rattle.byte_fields.specs.Places.{NamesPlace}
use Rattle.changeset_model.specs.Changeset.{Changeset}
use Rattle.changeset_model.specs.Decoding.{decoded}
use Rattle.history_model.specs.Bookmark.{is_name}
use Rattle.history_model.specs.History.{Body, Content, Whole, Change, Book, Land, Policy}
use Rattle.history_model.specs.Journal.{most_payload}

abbrev pub bookmark_name : Reader (List ℕ)
bookmark_name = with_len w8 any (keeping is_name)

abbrev pub flagged : ℕ → Reader (Option Id)
flagged zero = value None
flagged (suc n) = do
  x ← id
  value (Some x)

-- `00`, or `01` and an id
abbrev pub optional : Reader (Option Id)
optional = one_field do
  flag ← number w8 (λ n. nat_lt n 2)
  flagged flag

-- one field, which is whole and right
abbrev pub encoded : Reader Changeset
encoded = with_len w32 any (λ bytes. result_ok (decoded bytes))

-- of the caller who is told, if one is
abbrev pub book : Option (List ℕ) → Reader Body
book caller = do
  name ← bookmark_name
  from ← optional
  to ← optional
  value (Book (record { name = name; from = from; to = to; caller = caller }))

abbrev pub no_moment : Reader (Option ℕ)
no_moment = value None

abbrev pub a_moment : Reader (Option ℕ)
a_moment = do
  moment ← number w64 any
  value (Some moment)

abbrev pub landing : Option (List ℕ) → Reader (Option ℕ) → Reader Body
landing caller its_moment = do
  name ← bookmark_name
  old ← id
  draft ← id
  moment ← its_moment
  count ← number w16 any
  new ← times count encoded
  value (Land (record { name = name; old = old; draft = draft; new = new; moment = moment; caller = caller }))

abbrev pub whole : Reader Body
whole = do
  x ← id
  len ← number w64 any
  count ← number w16 any
  parts ← times count id
  value (Whole x len parts)

-- the rest is its text
abbrev pub policy : List ℕ → Reader Body
policy caller bytes = Ok (Policy caller bytes, [])

abbrev pub content : Reader Body
content bytes = Ok (Content (sha256 bytes) (length bytes), [])

-- the rest of a changeset's spelling is one field too
abbrev pub upload : Reader Body
upload bytes = (do
  c ← field (length bytes) (λ rest. result_ok (decoded (0x43 ∷ rest)))
  value (Change c)) bytes

-- what may stand behind a caller
abbrev pub with_caller : List ℕ → ℕ → Reader Body
with_caller caller mark = if mark == 0x4D then book (Some caller) else if mark == 0x4C then landing (Some caller) no_moment else if mark == 0x4E then landing (Some caller) a_moment else policy caller

abbrev pub wrapper : Reader Body
wrapper = do
  caller ← bookmark_name
  mark ← number w8 (λ n. n == 0x4D || n == 0x4C || n == 0x4E || n == 0x52)
  with_caller caller mark

abbrev pub by_mark : ℕ → Reader Body
by_mark mark =
    if mark == 0x42 then content else if mark == 0x43 then upload else if mark == 0x4D then book None else if mark == 0x4C then landing None no_moment
    else if mark == 0x4E then landing None a_moment else if mark == 0x57 then whole else wrapper

abbrev pub body : Reader Body
body = do
  mark ← number w8 (λ n. n == 0x42 || n == 0x43 || n == 0x4D || n == 0x4C || n == 0x4E || n == 0x57 || n == 0x41)
  by_mark mark

-- a payload that is too long has its fault at its most bytes
abbrev pub payload_body : List ℕ → Result Body ℕ
payload_body bytes = if nat_lt most_payload (length bytes) then Err most_payload else read body bytes

abbrev pub IsPayloadFault : List ℕ → ℕ → Type 0
IsPayloadFault bytes at =
    ((most_payload < length bytes) × (at ≡ most_payload)) ⊎
    (NamesPlace 1 body bytes at ⊎
    ((rest : List ℕ) × (bytes ≡ 0x43 ∷ rest) × (at ≡ 1) × (result_ok (decoded bytes) ≡ None)))
