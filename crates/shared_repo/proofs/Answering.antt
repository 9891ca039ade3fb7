-- From what a turn read to the answer.
use Rattle.std.proofs.Common.{◌≡◌, ◌≢◌, ℕ, List, refl, sym, ap, ◌∙◌}
use Rattle.std.specs.Prelude.{length, Some, Vec, Result, Ok, Err, ok_or, IfOk, IfErr}
use Rattle.sha2.specs.Sha256.{sha256}
use Rattle.byte_fields.specs.Bytes.{Id}
use Rattle.changeset_model.specs.Path.{Path}
use Rattle.changeset_model.specs.Changeset.{Changeset, CopySource, copies_of, spelling}
use Rattle.history_model.specs.History.{Entry, changeset_of, content_len, known}
use Rattle.history_model.specs.Journal.{Header}
use Rattle.reply_model.specs.Reply.{ContentOf, ChangesetOf, CopiesOf, SeenBytes, SeenCopies, AbsentChangeset, ◌>>=◌}
use Rattle.reply_model.specs.After.{After, Answer, Answers, Looks, Shows, SeesMore, nothing}
use Rattle.repo_calls.specs.declared.calls.AskFault.{AskFault}
use Rattle.repo_calls.specs.Asking.{IsAnswer, bytes_answer, fault_answer}
use Rattle.repo_state.specs.Asking.{told_other}
use Rattle.repo_state.specs.declared.read_content.ReadContent.{ReadContent}
use Rattle.repo_state.proofs.Answered.{bytes_answered, copies_answered, copies_not_seen}
use Rattle.repo_state.proofs.Looking.{checked_answers}
use Rattle.shared_repo.specs.Reading.{IsReadOf}
use Rattle.shared_repo.proofs.Fronts.{after_nothing, sees_nothing}

-- what was read for a content, and judged
pub checked_so : {A : Type 0} (header : Header) (h : List Entry) (x : Id) (read : ReadContent) (result : Result (Vec ℕ A) AskFault) → IsReadOf h x read
    → IfOk result (λ same. (same.items ≡ read.bytes.items) × (sha256 read.bytes.items ≡ x)) → IfErr result (λ fault. (fault ≡ told_other x read.parts.items read.bytes.items) × (sha256 read.bytes.items ≢ x))
    → Answers header h (Looks (ContentOf x)) (bytes_answer result) nothing
checked_so header h x read result is ok err = checked_answers header h x read.bytes.items read.parts.items result is.stored is.parts_are ok err

-- bytes that have a content's id are the content, whatever gave them
pub after_outside : (header : Header) (h : List Entry) (who : ℕ) (x : Id) (n : ℕ) (bytes : List ℕ) → content_len h x ≡ Some n → length bytes ≡ n → sha256 bytes ≡ x → After header h who (Looks (ContentOf x)) (Shows (SeenBytes bytes)) h
after_outside header h who x n bytes stored long same = after_nothing header h h who (Looks (ContentOf x)) (Shows (SeenBytes bytes)) (sees_nothing h who) (bytes_answered header h x n bytes stored (same, long))

pub after_encoded : (header : Header) (old new : List Entry) (who : ℕ) (x : Id) (m : Changeset) (bytes : List ℕ) → SeesMore old who new → changeset_of (known new) x ≡ Some m → bytes ≡ spelling m
    → After header old who (Looks (ChangesetOf x)) (Shows (SeenBytes bytes)) new
after_encoded header old new who x m bytes sees found is =
    after_nothing header old new who (Looks (ChangesetOf x)) (Shows (SeenBytes bytes)) sees
    (refl, ap (λ b. Ok (SeenBytes b)) is ∙ sym (ap (λ o. ok_or o (AbsentChangeset x) >>= λ c. Ok (SeenBytes (spelling c))) found))

pub after_copies : (header : Header) (old new : List Entry) (who : ℕ) (x : Id) (c : Changeset) (copies : List (Path × CopySource)) → SeesMore old who new → changeset_of (known new) x ≡ Some c → copies ≡ copies_of c
    → After header old who (Looks (CopiesOf x)) (Shows (SeenCopies copies)) new
after_copies header old new who x c copies sees found is = after_nothing header old new who (Looks (CopiesOf x)) (Shows (SeenCopies copies)) sees (copies_answered header new x c copies found is)

pub after_no_copies : (header : Header) (old new : List Entry) (who : ℕ) (x : Id) (fault : AskFault) → SeesMore old who new → Answers header new (Looks (ChangesetOf x)) (fault_answer fault) nothing
    → (answer : Answer) × IsAnswer (Err fault) answer × After header old who (Looks (CopiesOf x)) answer new
after_no_copies header old new who x fault sees a = (fault_answer fault, refl, after_nothing header old new who (Looks (CopiesOf x)) (fault_answer fault) sees (copies_not_seen header new x fault a))
