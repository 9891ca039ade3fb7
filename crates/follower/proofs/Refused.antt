-- What a repository answers where it makes nothing.
use Rattle.std.proofs.Common.{◌≡◌, ◌⊎◌, ℕ, Bool, true, false, List, [], ◌∷◌, ◌++◌, length, refl, sym, ap, ◌∙◌, subst, inl, inr}
use Rattle.std.specs.Prelude.{Option, None, Some, Ok}
use Rattle.std.proofs.lemmas.List.{append-nil}
use Rattle.history_model.specs.History.{Body, Entry, Fault, bodies, is_down, is_stored}
use Rattle.history_model.specs.Journal.{Header}
use Rattle.reply_model.specs.Log.{LogLine, ContentLine, WholeLine, ChangesetLine, BookmarkLine, LandingLine, PolicyLine}
use Rattle.reply_model.specs.Reply as reply
use Rattle.reply_model.specs.After as answers
use Rattle.reply_model.specs.After.{Call, Asks, Joins, Looks, Derives, Answer, Made, Answers, Replies, Refuses, Grants, nothing, only_fault, entries_of, entry_by}
use Rattle.reply_model.proofs.Histories.{bodies-append}
use Rattle.reply_model.proofs.Granted.{MakesStored, judge_stored}
use Rattle.reply_model.proofs.Stored.{granted_is_up}
use Rattle.repo_calls.specs.Calls.{denied_path, refused}
use Rattle.repo_calls.specs.declared.calls.ChangeFault.TheVariants as faults
use Rattle.repo_calls.specs.declared.refusal.Refusal.{Refusal}
use Rattle.repo_calls.specs.declared.refusal.Refusal.TheVariants as refusals
use Rattle.follower.specs.declared.replayed.Replayed.TheVariants.{Differs}
use Rattle.follower.specs.Making.{call_of, IsWantOfRoom}
use Rattle.follower.specs.Replaying.{replayed_of}

-- ---- refusals

pub refusal_is : (e : Refusal) → (e ≡ refusals.Memory) ⊎ (((size length : ℕ) × (e ≡ refusals.Full size length)) ⊎ ((r : reply.Refusal) × (refused e ≡ Refuses r) × ¬ (IsWantOfRoom r) × (replayed_of (faults.Refused e) ≡ Differs)))
refusal_is refusals.Down = inr (inr (reply.Down, refl, λ want. absurd (let e = want.2 in cc), refl))
refusal_is (refusals.TooLong length) = inr (inr (reply.TooLong length, refl, λ want. absurd (let e = want.2 in cc), refl))
refusal_is (refusals.BadEncoding at) = inr (inr (reply.BadEncoding at, refl, λ want. absurd (let e = want.2 in cc), refl))
refusal_is (refusals.SelfConflict short long) = inr (inr (reply.SelfConflict short long, refl, λ want. absurd (let e = want.2 in cc), refl))
refusal_is (refusals.BadParts length) = inr (inr (reply.BadParts length, refl, λ want. absurd (let e = want.2 in cc), refl))
refusal_is refusals.OldFormat = inr (inr (reply.OldFormat, refl, λ want. absurd (let e = want.2 in cc), refl))
refusal_is (refusals.NoPiece id) = inr (inr (reply.NoPiece id, refl, λ want. absurd (let e = want.2 in cc), refl))
refusal_is (refusals.NotAPiece id) = inr (inr (reply.NotAPiece id, refl, λ want. absurd (let e = want.2 in cc), refl))
refusal_is (refusals.NoParent id) = inr (inr (reply.NoParent id, refl, λ want. absurd (let e = want.2 in cc), refl))
refusal_is (refusals.NoContent path id) = inr (inr (reply.NoContent path id, refl, λ want. absurd (let e = want.2 in cc), refl))
refusal_is (refusals.WrongSize path wanted found) = inr (inr (reply.WrongSize path wanted found, refl, λ want. absurd (let e = want.2 in cc), refl))
refusal_is (refusals.Unresolved path) = inr (inr (reply.Unresolved path, refl, λ want. absurd (let e = want.2 in cc), refl))
refusal_is (refusals.Collision id) = inr (inr (reply.Collision id, refl, λ want. absurd (let e = want.2 in cc), refl))
refusal_is (refusals.NoChangeset id) = inr (inr (reply.NoChangeset id, refl, λ want. absurd (let e = want.2 in cc), refl))
refusal_is (refusals.Moved found) = inr (inr (reply.Moved found, refl, λ want. absurd (let e = want.2 in cc), refl))
refusal_is refusals.NoBookmark = inr (inr (reply.NoBookmark, refl, λ want. absurd (let e = want.2 in cc), refl))
refusal_is refusals.NoRoot = inr (inr (reply.NoRoot, refl, λ want. absurd (let e = want.2 in cc), refl))
refusal_is (refusals.TooFarBehind distance) = inr (inr (reply.TooFarBehind distance, refl, λ want. absurd (let e = want.2 in cc), refl))
refusal_is refusals.AlreadyIn = inr (inr (reply.AlreadyIn, refl, λ want. absurd (let e = want.2 in cc), refl))
refusal_is (refusals.StackTooLong count) = inr (inr (reply.StackTooLong count, refl, λ want. absurd (let e = want.2 in cc), refl))
refusal_is (refusals.MergeInStack id) = inr (inr (reply.MergeInStack id, refl, λ want. absurd (let e = want.2 in cc), refl))
refusal_is (refusals.MergeInRange id) = inr (inr (reply.MergeInRange id, refl, λ want. absurd (let e = want.2 in cc), refl))
refusal_is (refusals.Clash left right) = inr (inr (reply.Clash left right, refl, λ want. absurd (let e = want.2 in cc), refl))
refusal_is (refusals.TooLarge length) = inr (inr (reply.TooLarge length, refl, λ want. absurd (let e = want.2 in cc), refl))
refusal_is (refusals.BadPolicy line) = inr (inr (reply.BadPolicy line, refl, λ want. absurd (let e = want.2 in cc), refl))
refusal_is (refusals.Denied place rule) = inr (inr (reply.Denied (denied_path place) rule, refl, λ want. absurd (let e = want.2 in cc), refl))
refusal_is (refusals.Full size length) = inr (inl (size, length, refl))
refusal_is refusals.Memory = inl refl

-- ---- changes

abbrev pub IsChange : Call → Type 0
IsChange (Asks ask) = Unit {0}
IsChange (Joins body) = Unit {0}
IsChange (Looks question) = ⊥
IsChange (Derives x) = ⊥

pub is_change : (line : LogLine) (fetched : List ℕ) → IsChange (call_of line fetched)
is_change (ContentLine x size) fetched = tt
is_change (WholeLine x size parts) fetched = tt
is_change (ChangesetLine x) fetched = tt
is_change (BookmarkLine move) fetched = tt
is_change (LandingLine caller name old draft moment ids) fetched = tt
is_change (PolicyLine caller rules) fetched = tt

pub refused_made : (header : Header) (h : List Entry) (call : Call) (r : reply.Refusal) (made : Made) → IsChange call → Answers header h call (Refuses r) made → made ≡ nothing
refused_made header h (Asks ask) r made change answers = answers.0
refused_made header h (Joins body) r made change answers = answers.0
refused_made header h (Looks question) r made change answers = absurd change
refused_made header h (Derives x) r made change answers = absurd change

pub memory_made : (header : Header) (h : List Entry) (call : Call) (made : Made) → IsChange call → Answers header h call answers.Memory made → made ≡ nothing
memory_made header h (Asks ask) made change answers = answers
memory_made header h (Joins body) made change answers = answers
memory_made header h (Looks question) made change answers = absurd change
memory_made header h (Derives x) made change answers = absurd change

pub unread_made : (header : Header) (h : List Entry) (call : Call) (made : Made) → IsChange call → Answers header h call answers.ReadFault made → made ≡ only_fault false
unread_made header h (Asks ask) made change answers = absurd answers
unread_made header h (Joins body) made change answers = answers.0
unread_made header h (Looks question) made change answers = absurd change
unread_made header h (Derives x) made change answers = absurd change

pub misread_made : (header : Header) (h : List Entry) (call : Call) (wanted found : List ℕ) (made : Made) → IsChange call → Answers header h call (answers.BadBytes wanted found) made → made ≡ nothing
misread_made header h (Asks ask) wanted found made change answers = absurd answers
misread_made header h (Joins body) wanted found made change answers = answers.0
misread_made header h (Looks question) wanted found made change answers = absurd change
misread_made header h (Derives x) wanted found made change answers = absurd change

-- ---- what is granted

pub record GrantedSo (h : List Entry) (made : Made) : Type 0 where
  pub calm : made.fault ≡ None
  pub up : is_down h ≡ false
  pub stored : (body : Body) → made.entry ≡ Some body → is_stored body ≡ true

stored_of : (header : Header) (h : List Entry) (ask : reply.Ask) (granted : reply.Granted) (made : Option Body) (body : Body) → reply.judge header h ask ≡ Ok (record { granted = granted; made = made }) → made ≡ Some body → is_stored body ≡ true
stored_of header h ask granted made body judged is = subst MakesStored judged (judge_stored header h ask) body is

pub granted_made : (header : Header) (h : List Entry) (call : Call) (granted : reply.Granted) (made : Made) → IsChange call → Answers header h call (Grants granted) made → GrantedSo h made
granted_made header h (Asks ask) granted made change answers = record {
  calm = answers.0;
  up = granted_is_up header h ask (record { granted = granted; made = made.entry }) answers.1;
  stored = λ body is. stored_of header h ask granted made.entry body answers.1 is;
}
granted_made header h (Joins body) granted made change answers = record {
  calm = answers.0;
  up = granted_is_up header h (reply.PutWhole body answers.1) (record { granted = granted; made = made.entry }) answers.3;
  stored = λ entry is. stored_of header h (reply.PutWhole body answers.1) granted made.entry entry answers.3 is;
}
granted_made header h (Looks question) granted made change answers = absurd change
granted_made header h (Derives x) granted made change answers = absurd change

-- ---- histories

pub without_entry : (h : List Entry) (fault : Option Bool) → bodies (h ++ entries_of 0 (record { entry = None; fault = fault })) ≡ bodies h
without_entry h None = ap bodies (append-nil h)
without_entry h (Some breaking) = bodies-append h (entry_by 0 (Fault breaking) ∷ []) ∙ append-nil (bodies h)

pub memory_replies : (header : Header) (h : List Entry) (call : Call) → IsChange call → Replies header h 0 call answers.Memory h
memory_replies header h (Asks ask) change = record { made = nothing; answers = refl; new_is = sym (append-nil h) }
memory_replies header h (Joins body) change = record { made = nothing; answers = refl; new_is = sym (append-nil h) }
memory_replies header h (Looks question) change = absurd change
memory_replies header h (Derives x) change = absurd change
