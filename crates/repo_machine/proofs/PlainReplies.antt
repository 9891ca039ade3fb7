-- The replies of the plain program, which has no indexes.
use Rattle.std.proofs.Common.{◌≡◌, ℕ, ◌+◌, ◌<◌, ◌≤◌, Bool, true, false, List, [], ◌∷◌, ◌++◌, length, refl, sym, ap, subst, ◌∙◌, arith}
use Rattle.std.specs.Prelude.{is_some}
use Rattle.std.proofs.lemmas.List.{map-append}
use Rattle.sha2.specs.Sha256.{sha256}
use Rattle.byte_fields.specs.Bytes.{Id}
use Rattle.changeset_model.specs.Changeset.{most_content}
use Rattle.history_model.specs.History.{Content, is_down, content_len}
use Rattle.history_model.specs.Journal.{Header}
use Rattle.history_model.specs.Journal as journal
use Rattle.reply_model.specs.Reply.{PutContent, ContentPut, TooLong, Full}
use Rattle.reply_model.specs.After.{Asks, Grants, Refuses, Replies, entry_by}
use Rattle.reply_model.proofs.Histories.{size-push}
use Rattle.repo_machine.specs.declared.plain.StoredContent as code
use Rattle.repo_machine.specs.Plain.{entry_of, history_of}
use Rattle.repo_machine.proofs.Judging.{judged_long, judged_short, entered_full, entered_made, replies_refused, replies_unchanged, replies_made}

pushed : (old new : List code.StoredContent) (e : code.StoredContent) → new ≡ old ++ e ∷ [] → history_of new ≡ history_of old ++ entry_of e ∷ []
pushed old new e grows = ap history_of grows ∙ map-append entry_of old (e ∷ [])

-- no content brings the repository down
up : (entries : List code.StoredContent) → is_down (history_of entries) ≡ false
up [] = refl
up (e ∷ entries) = up entries

module _ (header : Header) (entries : List code.StoredContent) (who : ℕ) (bytes : List ℕ) where
  pub plain_long : most_content < length bytes → Replies header (history_of entries) who (Asks (PutContent bytes)) (Refuses (TooLong (length bytes))) (history_of entries)
  plain_long long = replies_refused header (history_of entries) who (PutContent bytes) (TooLong (length bytes)) (judged_long header (history_of entries) bytes (up entries) long)

  module _ (x : Id) (e : x ≡ sha256 bytes) (few : length bytes ≤ most_content) (seen : List code.StoredContent) (same : seen ≡ entries) where
    known_as : (known : Bool) → is_some (content_len (history_of seen) x) ≡ known → is_some (content_len (history_of entries) (sha256 bytes)) ≡ known
    known_as known found = (λ i. is_some (content_len (history_of (sym same i)) (sym e i))) ∙ found

    pub plain_known : is_some (content_len (history_of seen) x) ≡ true → Replies header (history_of entries) who (Asks (PutContent bytes)) (Grants (ContentPut x)) (history_of entries)
    plain_known found =
        subst (λ y. Replies header (history_of entries) who (Asks (PutContent bytes)) (Grants (ContentPut y)) (history_of entries)) (sym e)
        (replies_unchanged header (history_of entries) who (PutContent bytes) (ContentPut (sha256 bytes)) (judged_short header (history_of entries) bytes true (up entries) few (known_as true found)))

    module _ (unknown : is_some (content_len (history_of seen) x) ≡ false) (counted : List code.StoredContent) (same_counted : counted ≡ entries) (size payload : ℕ) (size_is : size ≡ journal.size (history_of counted)) (len : payload ≡ 1 + length bytes) where
      size_now : journal.size (history_of entries) ≡ size
      size_now = ap (λ es. journal.size (history_of es)) (sym same_counted) ∙ sym size_is

      pub plain_full : header.capacity < size + 5 + payload → Replies header (history_of entries) who (Asks (PutContent bytes)) (Refuses (Full size payload)) (history_of entries)
      plain_full full =
          let now = size_now in
          let over : header.capacity < journal.size (history_of entries) + 5 + (1 + length bytes) = omega arith in
          subst (λ n. Replies header (history_of entries) who (Asks (PutContent bytes)) (Refuses (Full n payload)) (history_of entries)) now
          (subst (λ n. Replies header (history_of entries) who (Asks (PutContent bytes)) (Refuses (Full (journal.size (history_of entries)) n)) (history_of entries)) (sym len)
          (replies_refused header (history_of entries) who (PutContent bytes) (Full (journal.size (history_of entries)) (1 + length bytes)) (judged_short header (history_of entries) bytes false (up entries) few (known_as false unknown) ∙ entered_full header (history_of entries) (ContentPut (sha256 bytes)) (Content (sha256 bytes) (length bytes)) over)))

      pub plain_made : size + 5 + payload ≤ header.capacity → (after : List code.StoredContent) → after ≡ entries ++ record { who = who; id = x; length = length bytes } ∷ [] → Replies header (history_of entries) who (Asks (PutContent bytes)) (Grants (ContentPut x)) (history_of after)
      plain_made fits after grows =
          let now = size_now in
          let room : journal.size (history_of entries) + 5 + (1 + length bytes) ≤ header.capacity = omega arith in
          subst (Replies header (history_of entries) who (Asks (PutContent bytes)) (Grants (ContentPut x))) (sym (pushed entries after _ grows))
          (subst (λ y. Replies header (history_of entries) who (Asks (PutContent bytes)) (Grants (ContentPut y)) (history_of entries ++ entry_by who (Content y (length bytes)) ∷ [])) (sym e)
          (replies_made header (history_of entries) who (PutContent bytes) (ContentPut (sha256 bytes)) (Content (sha256 bytes) (length bytes)) (judged_short header (history_of entries) bytes false (up entries) few (known_as false unknown) ∙ entered_made header (history_of entries) (ContentPut (sha256 bytes)) (Content (sha256 bytes) (length bytes)) room)))

      pub made_fits : size + 5 + payload ≤ header.capacity → (after : List code.StoredContent) → after ≡ entries ++ record { who = who; id = x; length = length bytes } ∷ [] → journal.size (history_of after) ≤ header.capacity
      made_fits fits after grows =
          let now = size_now in
          let grown = ap journal.size (pushed entries after _ grows) in
          let longer = size-push (history_of entries) (entry_by who (Content x (length bytes))) in
          omega arith
