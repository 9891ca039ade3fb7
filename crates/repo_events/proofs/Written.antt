-- Changesets that are written one after another, and landings that are written so.
use Rattle.std.proofs.Common.{◌≡◌, ℕ, ◌+◌, ◌<◌, List, [], ◌∷◌, ◌++◌, length, drop, map, refl, sym, ap, ◌∙◌, append_assoc}
use Rattle.std.specs.Prelude.{slice_index_or, Option, None, Some}
use Rattle.std.specs.Int.{w8, w16, w32, to_be_bytes}
use Rattle.std.specs.List.{concat}
use Rattle.std.proofs.lemmas.List.{drop_more}
use Rattle.byte_fields.specs.Bytes.{sized}
use Rattle.bonsai.specs.Encodings.{encodings}
use Rattle.history_model.specs.History as model
use Rattle.history_model.specs.Journal.{IsPayload, framed, landing_mark, moment_bytes, wrapped, payload, payload_len}
use Rattle.repo_events.specs.Entries.{caller_bytes, landing_head}

pub write_more : {A : Type 0} (spell : A → List ℕ) (xs : List A) (i : ℕ) (x : A) (out after all : List ℕ) → i < length xs → x ≡ slice_index_or xs i x → after ≡ out ++ spell x
    → out ++ concat (map spell (drop i xs)) ≡ all → after ++ concat (map spell (drop (i + 1) xs)) ≡ all
write_more spell xs i x out after all less item written before =
    ap (λ s. s ++ concat (map spell (drop (i + 1) xs))) written
    ∙ append_assoc out (spell x) (concat (map spell (drop (i + 1) xs)))
    ∙ sym (ap (λ xs. out ++ concat (map spell xs)) (drop_more xs i x less ∙ ap (λ x. x ∷ drop (i + 1) xs) (sym item)))
    ∙ before

pub wrapped_is : (caller : Option (List ℕ)) (bytes : List ℕ) → caller_bytes caller ++ bytes ≡ wrapped caller bytes
wrapped_is None bytes = refl
wrapped_is (Some caller) bytes = refl

abbrev head_of : model.Landing → List ℕ
head_of l = landing_head l.caller l.name l.old l.draft l.moment (length l.new)

-- the fields of a landing, and its changesets
landing_parts : (l : model.Landing) → head_of l ++ encodings l.new ≡ payload (model.Land l) []
landing_parts l =
    let count = to_be_bytes w16 (length l.new) in
    let rest = encodings l.new in
    let moment = moment_bytes l.moment in
    append_assoc (caller_bytes l.caller) (landing_mark l.moment ∷ (sized w8 l.name ++ l.old ++ l.draft ++ moment ++ count)) rest
    ∙ ap (λ s. caller_bytes l.caller ++ landing_mark l.moment ∷ s)
    (append_assoc (sized w8 l.name ++ l.old ++ l.draft ++ moment) count rest
    ∙ append_assoc (sized w8 l.name ++ l.old ++ l.draft) moment (count ++ rest)
    ∙ append_assoc (sized w8 l.name ++ l.old) l.draft (moment ++ (count ++ rest))
    ∙ append_assoc (sized w8 l.name) l.old (l.draft ++ (moment ++ (count ++ rest))))
    ∙ wrapped_is l.caller (landing_mark l.moment ∷ (sized w8 l.name ++ (l.old ++ (l.draft ++ (moment ++ (count ++ rest))))))

-- a frame that is begun, the changesets and a closed gate
pub frame_completed : (l : model.Landing) (frame all : List ℕ) → frame ≡ to_be_bytes w32 (payload_len (model.Land l)) ++ head_of l → all ≡ (frame ++ encodings l.new) ++ 0 ∷ []
    → (bytes : List ℕ) × IsPayload (model.Land l) bytes × (all ≡ framed bytes)
frame_completed l frame all begun ends =
    let length_bytes = to_be_bytes w32 (payload_len (model.Land l)) in
    let head = head_of l in (
      payload (model.Land l) [],
      ([], refl, refl),
      ends ∙ ap (λ s. (s ++ encodings l.new) ++ 0 ∷ []) begun
          ∙ ap (λ s. s ++ 0 ∷ []) (append_assoc length_bytes head (encodings l.new) ∙ ap (λ s. length_bytes ++ s) (landing_parts l)),
    )
