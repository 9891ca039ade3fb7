-- What a load begins with is granted.
use Rattle.std.proofs.Common.{◌≡◌, ℕ, ◌≤◌, false, List, [], ◌∷◌, ◌++◌, length, refl, ap, sym, subst, ◌∙◌, arith}
use Rattle.std.specs.Prelude.{Option, None, Some, Result, Ok, Err, IsOk, IfOk, MatchOption}
use Rattle.std.specs.Str.{is_utf8, chars}
use Rattle.sha2.specs.Sha256.{sha256, digest_bytes, hash_after, compress, rounds, schedule, first_words}
use Rattle.changeset_model.specs.Changeset.{spelling}
use Rattle.history_model.specs.History.{Body, Book, Change, Entry, bodies, unnumbered}
use Rattle.history_model.specs.Journal.{Header}
use Rattle.reply_model.specs.Reply as reply
use Rattle.reply_model.specs.Reply.{Ask, BookmarkSet, ChangesetPut, Judged, PutChangeset, Refusal, SetBookmark, judge}
use Rattle.reply_model.specs.Opening.{nobody}
use Rattle.reply_model.specs.After.{After, Answer, Asks, entries_of}
use Rattle.reply_model.proofs.Fronts.{replies_after}
use Rattle.byte_fields.proofs.Lists.{prefix_self}
use Rattle.repo_calls.specs.Calls.{denied_path, granted_seen, refused}
use Rattle.repo_calls.specs.declared.ask.Granted.{Granted}
use Rattle.repo_calls.specs.declared.refusal.Refusal as own
use Rattle.repo_calls.specs.declared.refusal.Refusal.TheVariants as refusals
use Rattle.std.proofs.lemmas.List.{length-replicate}
use Rattle.std.specs.declared.alloc.AllocError.{AllocError}
use Rattle.bookmark_lock.specs.Opening.{Opening}
use Rattle.blob_disk.specs.Log.{Log}
use Rattle.blob_disk.specs.MemDisk.{log_of, memory_of, tally_of, told_of}
use Rattle.blob_disk.specs.MemMeaning.{meaning_of, quiet_of}
use Rattle.blob_disk.specs.Memory.{Memory, blank}
use Rattle.blob_disk.specs.Tally.{Tally, fresh}
use Rattle.blob_disk.specs.declared.call_kind.CallKind.{CallKind}
use Rattle.blob_disk.specs.declared.mem_disk.MemDisk.{MemDisk}
use Rattle.repo_state.specs.Alone.{RepliesAlone}
use Rattle.repo_state.specs.State.{HasNoFault, IsQuiet, IsSealedAlone}
use Rattle.repo_calls.specs.Asking.{stored_answer}
use Rattle.repo_calls.specs.declared.calls.ChangeFault.{ChangeFault}
use Rattle.repo_calls.specs.declared.calls.ChangeFault.TheVariants.{Refused, DiskFault, ReadFault, BadBytes}
use Rattle.run_gen.specs.Stacks.{base, base_id, main}
use Rattle.run_gen.specs.Loads.{base_entry}
use Rattle.run_gen.specs.declared.fault.LoadFault.TheVariants.{Memory as NoMemory}
use Rattle.run_gen.specs.Begun.{Enters, IsFresh, MayBe, load_capacity, load_header}
use Rattle.run_gen.specs.Outcomes.{fault_of}
use Rattle.run_gen.proofs.Outcomes.{never_fails, never_misread, never_unread}

base_judged : judge load_header [] (PutChangeset (spelling base)) ≡ Ok (record { granted = ChangesetPut base_id; made = Some (Change base) })
unfolding is_utf8 chars lib.Utf8.encode
base_judged = refl

main_judged : judge load_header (base_entry ∷ []) (SetBookmark nobody main None (Some base_id)) ≡ Ok (record { granted = BookmarkSet; made = Some (Book (record { name = main; from = None; to = Some base_id; caller = None })) })
unfolding is_utf8 chars lib.Utf8.encode sha256 digest_bytes hash_after compress rounds schedule first_words
main_judged = refl

pub base_enters : Enters load_header [] (PutChangeset (spelling base)) (Change base)
base_enters = record { granted = ChangesetPut base_id; judged = base_judged }

pub main_enters : Enters load_header (base_entry ∷ []) (SetBookmark nobody main None (Some base_id)) (Book (record { name = main; from = None; to = Some base_id; caller = None }))
main_enters = record { granted = BookmarkSet; judged = main_judged }

-- a change that is granted, and makes an entry
module _ (header : Header) (h : List Entry) (ask : Ask) (granted : reply.Granted) (body : Body) (is : judge header h ask ≡ Ok (record { granted = granted; made = Some body })) (new : List Entry) where
  never_refused : {X : Type 0} (r : Refusal) → judge header h ask ≡ Err r → X
  never_refused r refused = absurd (cc (sym is ∙ refused))

  refusal_is : (refusal : own.Refusal) → RepliesAlone header h 0 (Asks ask) (refused refusal) new → fault_of refusal ≡ NoMemory
  refusal_is refusals.Down a = never_refused reply.Down a.answers.1
  refusal_is (refusals.TooLong length) a = never_refused (reply.TooLong length) a.answers.1
  refusal_is (refusals.BadEncoding at) a = never_refused (reply.BadEncoding at) a.answers.1
  refusal_is (refusals.SelfConflict short long) a = never_refused (reply.SelfConflict short long) a.answers.1
  refusal_is (refusals.BadParts length) a = never_refused (reply.BadParts length) a.answers.1
  refusal_is refusals.OldFormat a = never_refused reply.OldFormat a.answers.1
  refusal_is (refusals.NoPiece id) a = never_refused (reply.NoPiece id) a.answers.1
  refusal_is (refusals.NotAPiece id) a = never_refused (reply.NotAPiece id) a.answers.1
  refusal_is (refusals.NoParent id) a = never_refused (reply.NoParent id) a.answers.1
  refusal_is (refusals.NoContent path id) a = never_refused (reply.NoContent path id) a.answers.1
  refusal_is (refusals.WrongSize path wanted found) a = never_refused (reply.WrongSize path wanted found) a.answers.1
  refusal_is (refusals.Unresolved path) a = never_refused (reply.Unresolved path) a.answers.1
  refusal_is (refusals.Collision id) a = never_refused (reply.Collision id) a.answers.1
  refusal_is (refusals.NoChangeset id) a = never_refused (reply.NoChangeset id) a.answers.1
  refusal_is (refusals.Moved found) a = never_refused (reply.Moved found) a.answers.1
  refusal_is refusals.NoBookmark a = never_refused reply.NoBookmark a.answers.1
  refusal_is refusals.NoRoot a = never_refused reply.NoRoot a.answers.1
  refusal_is (refusals.TooFarBehind distance) a = never_refused (reply.TooFarBehind distance) a.answers.1
  refusal_is refusals.AlreadyIn a = never_refused reply.AlreadyIn a.answers.1
  refusal_is (refusals.StackTooLong count) a = never_refused (reply.StackTooLong count) a.answers.1
  refusal_is (refusals.MergeInStack id) a = never_refused (reply.MergeInStack id) a.answers.1
  refusal_is (refusals.MergeInRange id) a = never_refused (reply.MergeInRange id) a.answers.1
  refusal_is (refusals.Denied place rule) a = never_refused (reply.Denied (denied_path place) rule) a.answers.1
  refusal_is (refusals.Clash left right) a = never_refused (reply.Clash left right) a.answers.1
  refusal_is (refusals.TooLarge length) a = never_refused (reply.TooLarge length) a.answers.1
  refusal_is (refusals.BadPolicy line) a = never_refused (reply.BadPolicy line) a.answers.1
  refusal_is (refusals.Full size length) a = never_refused (reply.Full size length) a.answers.1
  refusal_is refusals.Memory a = refl

  after : (answer : Answer) → RepliesAlone header h 0 (Asks ask) answer new → After header h 0 (Asks ask) answer new
  after answer a = replies_after header h h 0 (Asks ask) answer new (record { begins = prefix_self h; own = refl }) (record { made = a.made; answers = a.answers; new_is = a.new_is })

  pub may_be : (answer : Result Granted ChangeFault) → RepliesAlone header h 0 (Asks ask) (stored_answer answer) new → HasNoFault new → MayBe answer
  may_be (Ok g) a none = tt
  may_be (Err (Refused refusal)) a none = refusal_is refusal a
  may_be (Err DiskFault) a none = never_fails header 0 h new ask (after (stored_answer (Err DiskFault)) a) none
  may_be (Err ReadFault) a none = never_unread header 0 h new ask (after (stored_answer (Err ReadFault)) a)
  may_be (Err (BadBytes wanted found)) a none = never_misread header 0 h new ask wanted found (after (stored_answer (Err (BadBytes wanted found))) a)

  same_made : (g : reply.Granted) (made : Option Body) → judge header h ask ≡ Ok (record { granted = g; made = made }) → made ≡ Some body
  same_made g made got = ap (λ (r : Result Judged Refusal). made_in r) (sym got ∙ is)
    where
      made_in : Result Judged Refusal → Option Body
      made_in (Ok judged) = judged.made
      made_in (Err r) = None

  pub entry_made : (answer : Result Granted ChangeFault) → RepliesAlone header h 0 (Asks ask) (stored_answer answer) new → IsOk answer → new ≡ h ++ unnumbered body ∷ []
  entry_made (Ok g) a ok =
      a.new_is ∙ (λ i. h ++ entries_of 0 (record { entry = same_made (granted_seen g) a.made.entry a.answers.1 i; fault = a.answers.0 i }))
  entry_made (Err fault) a ok = absurd cc

-- ---- nothing waits

pub sealed_new : (h g : List Entry) (n : ℕ) → h ≡ g → n ≡ length (bodies g) → IsSealedAlone h n
sealed_new h g n same is = (let many : length (bodies h) ≡ length (bodies g) = ap (λ es. length (bodies es)) same in (λ up. omega arith, omega arith))

-- ---- the disk

fresh_disk : (n : ℕ) (m : Memory) (log : Option Log) (t : Tally) → m ≡ blank n → log ≡ None → t ≡ fresh [] → ((meaning_of m log t).quiet ≡ Some n) × ((meaning_of m log t).reads ≡ Some []) × ((meaning_of m log t).state.reads ≡ [])
fresh_disk n m log t is none uncalled = (
  (λ i. quiet_of (none i) (uncalled i).failing (length (is i).marks)) ∙ ap Some (length-replicate n false),
  ap (λ (x : Memory). Some x.reads) is,
  ap (λ (x : Memory). x.reads) is,
)

pub fresh_made : (r : Result MemDisk AllocError) (failing : List (CallKind × ℕ)) → failing ≡ [] → IfOk r (λ disk. memory_of disk ≡ blank load_capacity) → IfOk r (λ disk. log_of disk ≡ None) → IfOk r (λ disk. tally_of disk ≡ fresh failing)
    → IfOk r (λ disk. IsFresh (told_of disk))
fresh_made (Ok disk) failing none empty unrecorded uncalled =
    let told = fresh_disk load_capacity (memory_of disk) (log_of disk) (tally_of disk) empty unrecorded (uncalled ∙ ap fresh none) in
    record { honest = refl; quiet = told.0; reads = told.1; empty = told.2 }
fresh_made (Err e) failing none empty unrecorded uncalled = tt

pub quiet_opening : (o : Opening) → o.quiet ≡ Some load_capacity → o.header ≡ load_header → IsQuiet o
quiet_opening o quiet header = subst (λ (t : Option ℕ × Header). MatchOption t.0 ⊥ (λ n. t.1.capacity ≤ n)) (λ i. (sym quiet i, sym header i)) (omega arith)
