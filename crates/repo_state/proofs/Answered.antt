-- The answers of the repository of one thread to changes and reads of contents.
use Rattle.std.proofs.Common.{◌≡◌, ◌≢◌, ℕ, List, ◌∷◌, length, take, drop, refl, sym, ap, subst, ◌∙◌}
use Rattle.std.specs.Prelude.{◌⊎◌, Contains, Option, None, Some, Result, Ok, Err, IsSome, MatchOption, ok_or}
use mathlib.Core.Logic.{inl, inr}
use Rattle.std.proofs.lemmas.List.{append-nil}
use Rattle.byte_fields.specs.Bytes.{Id, IsContent}
use Rattle.changeset_model.specs.Path.{Path}
use Rattle.changeset_model.specs.Changeset.{Changeset, CopySource, copies_of, spelling}
use Rattle.history_model.specs.History.{Entry, content_len, stored, whole_parts, known, changeset_of}
use Rattle.history_model.specs.Journal.{Header}
use Rattle.reply_model.specs.Reply as reply
use Rattle.reply_model.specs.Reply.{◌>>=◌, ContentOf, ChangesetOf, CopiesOf, LogFrom, PolicyOf, policy_asked, SeenLog, page_len, Seen, SeenBytes, SeenCopies, seen_copies, Absent, AbsentContent, AbsentChangeset}
use Rattle.reply_model.specs.Log.{log_lines}
use Rattle.repo_calls.specs.declared.log.LogPage.{LogPage}
use Rattle.repo_calls.specs.Calls.{lines_seen, refused}
use Rattle.repo_calls.specs.declared.refusal.Refusal.{Refusal}
use Rattle.repo_calls.specs.declared.refusal.Refusal.TheVariants as refusals
use Rattle.repo_calls.specs.declared.calls.Seen.TheVariants.{Log}
use Rattle.repo_calls.specs.declared.calls.AskFault.{AskFault}
use Rattle.repo_calls.specs.declared.calls.AskFault.TheVariants as asked
use Rattle.repo_calls.specs.Asking.{IsAnswer, fault_answer}
use Rattle.reply_model.specs.After.{Call, Looks, Answer, Refuses, Shows, Lacks, BadBytes, Memory, Answers, Replies, nothing}

pub unmade : (header : Header) (h : List Entry) (who : ℕ) (call : Call) (answer : Answer) → Answers header h call answer nothing → Replies header h who call answer h
unmade header h who call answer answers = record { made = nothing; answers = answers; new_is = sym (append-nil h) }

-- what is seen of a content that has this length, if it is stored
abbrev SeesContent : Id → Result Seen Absent → Option ℕ → Type 0
SeesContent x result o = MatchOption o (result ≡ Err (AbsentContent x)) (λ n. (bytes : List ℕ) × (result ≡ Ok (SeenBytes bytes)) × IsContent x n bytes)

pub bytes_answered : (header : Header) (h : List Entry) (x : Id) (n : ℕ) (bytes : List ℕ) → content_len h x ≡ Some n → IsContent x n bytes → Answers header h (Looks (ContentOf x)) (Shows (SeenBytes bytes)) nothing
bytes_answered header h x n bytes found is = (refl, subst (SeesContent x (Ok (SeenBytes bytes))) (sym found) (bytes, refl, is))

is_some_of : (o : Option ℕ) (n : ℕ) → o ≡ Some n → IsSome o
is_some_of o n e = subst (λ o. IsSome o) (sym e) search

pub absent_answered : (header : Header) (h : List Entry) (x : Id) → content_len h x ≡ None → Answers header h (Looks (ContentOf x)) (Lacks (AbsentContent x)) nothing
absent_answered header h x none = (refl, subst (SeesContent x (Err (AbsentContent x))) (sym none) refl)

pub bad_bytes_answered : (header : Header) (h : List Entry) (x wanted found : Id) (n : ℕ) → content_len h x ≡ Some n → Contains (x ∷ whole_parts h x) wanted → found ≢ wanted → Answers header h (Looks (ContentOf x)) (BadBytes wanted found) nothing
bad_bytes_answered header h x wanted found n stored among other = (refl, is_some_of (content_len h x) n stored, among, other)

pub page_answers : (header : Header) (h : List Entry) (n : ℕ) (page : LogPage) → lines_seen page.entries.items ≡ log_lines h n → page.total ≡ length (stored h)
    → (answer : Answer) × IsAnswer (Ok (Log page)) answer × Answers header h (Looks (LogFrom n)) answer nothing
page_answers header h n page lines total =
    let entries = take page_len (drop n (stored h)) in
    (Shows (SeenLog entries (length (stored h))), (entries, ap (λ t. Shows (SeenLog entries t)) (sym total), lines), (refl, refl))

-- ---- copies

pub copies_answered : (header : Header) (h : List Entry) (x : Id) (c : Changeset) (copies : List (Path × CopySource)) → changeset_of (known h) x ≡ Some c → copies ≡ copies_of c → Answers header h (Looks (CopiesOf x)) (Shows (SeenCopies copies)) nothing
copies_answered header h x c copies found is = (refl, ap (λ cs. Ok (SeenCopies cs)) is ∙ sym (ap (λ o. ok_or o (AbsentChangeset x) >>= λ c. Ok (SeenCopies (copies_of c))) found))

-- a changeset whose spelling can't be seen tells no copies
module _ (header : Header) (h : List Entry) (x : Id) where
  lacks : (absent : Absent) (o : Option Changeset) → Err absent ≡ (ok_or o (AbsentChangeset x) >>= λ c. Ok (SeenBytes (spelling c))) → Err absent ≡ (ok_or o (AbsentChangeset x) >>= λ c. Ok (SeenCopies (copies_of c)))
  lacks absent None e = e
  lacks absent (Some c) e = absurd cc

  pub copies_not_seen : (fault : AskFault) → Answers header h (Looks (ChangesetOf x)) (fault_answer fault) nothing → Answers header h (Looks (CopiesOf x)) (fault_answer fault) nothing
  copies_not_seen (asked.NoContent id) a = (refl, lacks (AbsentContent id) (changeset_of (known h) x) a.1)
  copies_not_seen (asked.NoChangeset id) a = (refl, lacks (AbsentChangeset id) (changeset_of (known h) x) a.1)
  copies_not_seen asked.NoPath a = (refl, lacks reply.NoPath (changeset_of (known h) x) a.1)
  copies_not_seen asked.NotADir a = (refl, lacks reply.NotADir (changeset_of (known h) x) a.1)
  copies_not_seen asked.NotAFile a = (refl, lacks reply.NotAFile (changeset_of (known h) x) a.1)
  copies_not_seen asked.NoPolicy a = (refl, lacks reply.NoPolicy (changeset_of (known h) x) a.1)
  copies_not_seen (asked.Collision id) a = absurd a.1
  copies_not_seen asked.ReadFault a = absurd a
  copies_not_seen (asked.BadBytes wanted found) a = absurd a
  copies_not_seen asked.Memory a = refl

pub copies_lack : (header : Header) (h : List Entry) (x : Id) (fault : AskFault) → (fault ≡ asked.Memory) ⊎ ((fault ≡ asked.NoChangeset x) × (seen_copies h x ≡ Err (AbsentChangeset x)))
    → (answer : Answer) × IsAnswer (Err fault) answer × Answers header h (Looks (CopiesOf x)) answer nothing
copies_lack header h x fault why = (fault_answer fault, refl, by why)
  where
    by : (fault ≡ asked.Memory) ⊎ ((fault ≡ asked.NoChangeset x) × (seen_copies h x ≡ Err (AbsentChangeset x))) → Answers header h (Looks (CopiesOf x)) (fault_answer fault) nothing
    by (inl memory) = subst (λ f. Answers header h (Looks (CopiesOf x)) (fault_answer f) nothing) (sym memory) refl
    by (inr lacks) = subst (λ f. Answers header h (Looks (CopiesOf x)) (fault_answer f) nothing) (sym lacks.0) (refl, sym lacks.1)

-- ---- policies

pub policy_answered : (header : Header) (h : List Entry) (number : Option ℕ) (text bytes : List ℕ) → policy_asked h number ≡ Some text → bytes ≡ text → Answers header h (Looks (PolicyOf number)) (Shows (SeenBytes bytes)) nothing
policy_answered header h number text bytes asked same = (refl, ap (λ b. Ok (SeenBytes b)) same ∙ sym (ap (λ o. ok_or o reply.NoPolicy >>= λ text. Ok (SeenBytes text)) asked))

pub no_policy : (header : Header) (h : List Entry) (number : Option ℕ) → policy_asked h number ≡ None → Answers header h (Looks (PolicyOf number)) (fault_answer asked.NoPolicy) nothing
no_policy header h number none = (refl, sym (ap (λ o. ok_or o reply.NoPolicy >>= λ text. Ok (SeenBytes text)) none))

-- ---- refusals

-- want of memory is no refusal of the definitions
pub refused_as : (e : Refusal) → ((r : reply.Refusal) × (refused e ≡ Refuses r)) ⊎ (refused e ≡ Memory)
refused_as refusals.Down = inl (_, refl)
refused_as (refusals.TooLong n) = inl (_, refl)
refused_as (refusals.BadEncoding at) = inl (_, refl)
refused_as (refusals.SelfConflict short long) = inl (_, refl)
refused_as (refusals.BadParts n) = inl (_, refl)
refused_as refusals.OldFormat = inl (_, refl)
refused_as (refusals.NoPiece x) = inl (_, refl)
refused_as (refusals.NotAPiece x) = inl (_, refl)
refused_as (refusals.NoParent x) = inl (_, refl)
refused_as (refusals.NoContent path x) = inl (_, refl)
refused_as (refusals.WrongSize path wanted found) = inl (_, refl)
refused_as (refusals.Unresolved path) = inl (_, refl)
refused_as (refusals.Collision x) = inl (_, refl)
refused_as (refusals.NoChangeset x) = inl (_, refl)
refused_as (refusals.Moved found) = inl (_, refl)
refused_as refusals.NoBookmark = inl (_, refl)
refused_as refusals.NoRoot = inl (_, refl)
refused_as (refusals.TooFarBehind distance) = inl (_, refl)
refused_as refusals.AlreadyIn = inl (_, refl)
refused_as (refusals.StackTooLong count) = inl (_, refl)
refused_as (refusals.MergeInStack x) = inl (_, refl)
refused_as (refusals.MergeInRange x) = inl (_, refl)
refused_as (refusals.Denied place rule) = inl (_, refl)
refused_as (refusals.Clash left right) = inl (_, refl)
refused_as (refusals.TooLarge n) = inl (_, refl)
refused_as (refusals.BadPolicy line) = inl (_, refl)
refused_as (refusals.Full size n) = inl (_, refl)
refused_as refusals.Memory = inr refl

pub refused_by : (P : Answer → Type 0) → ((r : reply.Refusal) → P (Refuses r)) → P Memory → (e : Refusal) → P (refused e)
refused_by P refuses memory e = elim (refused_as e) as (λ _. P (refused e)) [ inl r ↦ subst P (sym r.1) (refuses r.0) | inr same ↦ subst P (sym same) memory ]
