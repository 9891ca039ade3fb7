-- The records of a journal as a list of payloads.
--     records payloads      open records of these, one behind another
--     ArePayloads bodies payloads      they are payloads of these entries, in order
--     blank_file header      the file of a new repository
use Rattle.std.specs.Prelude.{ℕ, List, [], ◌∷◌, ◌++◌, replicate}
use Rattle.std.specs.Int.{to_be_bytes, w64}
use Rattle.history_model.specs.History.{Body}
use Rattle.history_model.specs.Journal.{Header, IsPayload, open_record, header_bytes}

abbrev pub records : List (List ℕ) → List ℕ
records [] = []
records (payload ∷ payloads) = open_record payload ++ records payloads

abbrev pub ArePayloads : List Body → List (List ℕ) → Type 0
ArePayloads [] [] = Unit {0}
ArePayloads [] (payload ∷ payloads) = ⊥
ArePayloads (body ∷ bodies) [] = ⊥
ArePayloads (body ∷ bodies) (payload ∷ payloads) = IsPayload body payload × ArePayloads bodies payloads

abbrev pub blank_file : Header → List ℕ
blank_file header = header_bytes header ++ 0 ∷ []

-- the same before its mark is written
abbrev pub unmarked_file : ℕ → List ℕ
unmarked_file capacity = replicate 8 0 ++ (to_be_bytes w64 capacity ++ 0 ∷ [])
