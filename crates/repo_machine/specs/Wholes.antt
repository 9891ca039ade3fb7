-- Contents that are joined.
--     pieces_judged header h body      what may be read, or the first refusal before it is read
--     IsJoined h parts pieces id n      bytes that were read of the parts have this id and this length, one behind another
--     IsWholeOf header h body pieces whole      the same of what was asked
use Rattle.std.specs.Prelude.{◌≡◌, ℕ, true, List, length, Result, Ok}
use Rattle.std.specs.List.{concat}
use Rattle.sha2.specs.Sha256.{sha256}
use Rattle.byte_fields.specs.Bytes.{Id, are_bytes}
use Rattle.history_model.specs.History.{Entry, is_down}
use Rattle.history_model.specs.Journal.{Header}
use Rattle.reply_model.specs.Reply.{◌>>=◌, refuse_if, Refusal, Down, parts_of, are_pieces}
use Rattle.repo_machine.specs.declared.found.Joined.{Joined}

abbrev pub pieces_judged : Header → List Entry → List ℕ → Result (List Id) Refusal
pieces_judged header h body = do
  _ ← refuse_if (is_down h) Down
  parts_of header h body

pub record IsJoined (h : List Entry) (parts : List Id) (pieces : List (List ℕ)) (id : Id) (n : ℕ) : Type 0 where
  pub are : are_pieces h parts pieces ≡ true
  pub id_is : id ≡ sha256 (concat pieces)
  pub length_is : n ≡ length (concat pieces)

pub record IsWholeOf (header : Header) (h : List Entry) (body : List ℕ) (pieces : List (List ℕ)) (whole : Joined) : Type 0 where
  pub bytes : are_bytes body ≡ true
  pub asked : parts_of header h body ≡ Ok whole.parts.items
  pub joined : IsJoined h whole.parts.items pieces whole.id whole.length
