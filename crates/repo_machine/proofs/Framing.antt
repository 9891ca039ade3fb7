-- The record of a landing that tells its caller, and its end, which is the record of one that doesn't.
--     untold_is      the end, once the length of its payload stands before it
--     has_room      the record has the bytes that are written over
use Rattle.std.proofs.Common.{◌≡◌, ℕ, ◌+◌, ◌≤◌, List, [], ◌∷◌, ◌++◌, length, length-append, length-take-le, take, drop, sym, ap, ◌∙◌, arith}
use Rattle.std.specs.Prelude.{Some}
use Rattle.std.specs.Int.{w8, w32, to_be_bytes}
use Rattle.std.proofs.lemmas.List.{append_assoc, drop_at}
use Rattle.byte_fields.specs.Bytes.{sized}
use Rattle.history_model.specs.Journal.{framed, wrapped}

module _ (caller payload : List ℕ) where
  -- what stands before the payload
  abbrev before : List ℕ
  before = to_be_bytes w32 (length (wrapped (Some caller) payload)) ++ (0x41 ∷ sized w8 caller)

  regrouped : framed (wrapped (Some caller) payload) ≡ before ++ (payload ++ 0 ∷ [])
  regrouped =
      let long = to_be_bytes w32 (length (wrapped (Some caller) payload)) in
      append_assoc long (wrapped (Some caller) payload) (0 ∷ [])
      ∙ ap (λ s. long ++ (0x41 ∷ s)) (append_assoc (sized w8 caller) payload (0 ∷ []))
      ∙ sym (append_assoc long (0x41 ∷ sized w8 caller) (payload ++ 0 ∷ []))

  before_long : length before ≡ length caller + 6
  before_long = omega arith

  pub payload_follows : (bytes : List ℕ) (n : ℕ) → bytes ≡ framed (wrapped (Some caller) payload) → n ≡ length caller + 6 → drop n bytes ≡ payload ++ 0 ∷ []
  payload_follows bytes n is n_is = ap (drop n) (is ∙ regrouped) ∙ drop_at before (payload ++ 0 ∷ []) n (before_long ∙ sym n_is)

  pub has_room : (bytes : List ℕ) → bytes ≡ framed (wrapped (Some caller) payload) → length caller + 6 ≤ length bytes
  has_room bytes is = let all = ap length (is ∙ regrouped) in let parts = length-append before (payload ++ 0 ∷ []) in let long = before_long in omega arith

  pub untold_is : (bytes after : List ℕ) (start count : ℕ) → bytes ≡ framed (wrapped (Some caller) payload) → start ≡ length caller + 2 → count ≡ length payload → after ≡ take start bytes ++ to_be_bytes w32 count ++ drop (start + 4) bytes → drop start after ≡ framed payload
  untold_is bytes after start count is start_is count_is written =
      let room = has_room bytes is in
      let front : length (take start bytes) ≡ start = length-take-le start bytes (omega arith) in
      ap (drop start) (written ∙ append_assoc (take start bytes) (to_be_bytes w32 count) (drop (start + 4) bytes))
      ∙ drop_at (take start bytes) (to_be_bytes w32 count ++ drop (start + 4) bytes) start front
      ∙ (λ i. to_be_bytes w32 (count_is i) ++ payload_follows bytes (start + 4) is (omega arith) i)
      ∙ sym (append_assoc (to_be_bytes w32 (length payload)) payload (0 ∷ []))
