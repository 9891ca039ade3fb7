-- Contents that are joined are a whole that is asked with the bytes that were read of them.
use Rattle.std.proofs.Common.{◌≡◌, ℕ, true, ◌&&◌, List, ap, ◌∙◌}
use Rattle.std.specs.Prelude.{Ok}
use Rattle.byte_fields.specs.Bytes.{Id, are_bytes}
use Rattle.history_model.specs.History.{Entry}
use Rattle.history_model.specs.Journal.{Header}
use Rattle.reply_model.specs.Reply.{Refusal, Granted, PutWhole, is_ask, are_pieces, parts_of}
use Rattle.reply_model.specs.After.{Asks, Joins, Grants, Refuses, DiskFault, IsJoining, Replies}
use Rattle.reply_model.proofs.Opened.{parts_held}

pub joined_granted : (header : Header) (h : List Entry) (who : ℕ) (body : List ℕ) (granted : Granted) (new : List Entry) → Replies header h who (Joins body) (Grants granted) new → (pieces : List (List ℕ)) × IsJoining (parts_of header h body) h pieces × Replies header h who (Asks (PutWhole body pieces)) (Grants granted) new
joined_granted header h who body granted new r = (r.answers.1, r.answers.2, record { made = r.made; answers = (r.answers.0, r.answers.3); new_is = r.new_is })

pub joined_refused : (header : Header) (h : List Entry) (who : ℕ) (body : List ℕ) (refusal : Refusal) (new : List Entry) → Replies header h who (Joins body) (Refuses refusal) new → (pieces : List (List ℕ)) × IsJoining (parts_of header h body) h pieces × Replies header h who (Asks (PutWhole body pieces)) (Refuses refusal) new
joined_refused header h who body refusal new r = (r.answers.1, r.answers.2, record { made = r.made; answers = (r.answers.0, r.answers.3); new_is = r.new_is })

pub joined_failed : (header : Header) (h : List Entry) (who : ℕ) (body : List ℕ) (new : List Entry) → Replies header h who (Joins body) DiskFault new → (pieces : List (List ℕ)) × IsJoining (parts_of header h body) h pieces × Replies header h who (Asks (PutWhole body pieces)) DiskFault new
joined_failed header h who body new r = (r.answers.1, r.answers.3, record { made = r.made; answers = (r.answers.0, r.answers.2, r.answers.4); new_is = r.new_is })

pub pieces_asked : (header : Header) (h : List Entry) (body : List ℕ) (parts : List Id) (pieces : List (List ℕ)) → are_bytes body ≡ true → parts_of header h body ≡ Ok parts → are_pieces h parts pieces ≡ true → is_ask h (PutWhole body pieces) ≡ true
pieces_asked header h body parts pieces fits e ok =
    let same = (parts_held header h body parts e).0 in
    (λ i. fits i && (ap (λ xs. are_pieces h xs pieces) same ∙ ok) i)
