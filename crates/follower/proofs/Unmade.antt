-- What became of an entry that wasn't made.
use Rattle.std.proofs.Common.{◌≡◌, ◌≢◌, ℕ, ◌≤◌, Bool, true, false, IsTrue, List, [], ◌++◌, refl, sym, ap, ◌∙◌, subst, inl, inr}
use Rattle.std.specs.Prelude.{None, Some, Err}
use Rattle.std.specs.Option.{option_to_list}
use mathlib.Core.Bool.{true≢false}
use Rattle.history_model.specs.History.{Entry, bodies}
use Rattle.bookmark_lock.specs.Opening.{Opening}
use Rattle.reply_model.specs.Log.{LogLine}
use Rattle.reply_model.specs.Reply as reply
use Rattle.reply_model.specs.After as answers
use Rattle.reply_model.specs.After.{Answer, Answers, Made, Replies, Refuses, entries_of, nothing, only_fault}
use Rattle.repo_calls.specs.Asking.{is_disk_fault, is_misread, is_unread, stored_answer}
use Rattle.repo_calls.specs.Calls.{refused}
use Rattle.repo_calls.specs.declared.ask.Granted.{Granted}
use Rattle.repo_calls.specs.declared.calls.ChangeFault.{ChangeFault}
use Rattle.repo_calls.specs.declared.calls.ChangeFault.TheVariants as faults
use Rattle.repo_calls.specs.declared.refusal.Refusal.{Refusal}
use Rattle.follower.specs.declared.replayed.Replayed.TheVariants.{Differs, DiskFault, Full, Memory}
use Rattle.follower.specs.Making.{call_of, count, MadeFor, Remains}
use Rattle.follower.specs.Replaying.{IsReplayed, replayed_of}
use Rattle.follower.proofs.Entries.{still}
use Rattle.follower.proofs.Refused.{is_change, memory_made, misread_made, refusal_is, refused_made, unread_made, without_entry}

isnt_honest : (b : Bool) → (IsTrue b → true ≡ false) → b ≡ false
isnt_honest true read = absurd (true≢false (read refl))
isnt_honest false read = refl

module _ (opening : Opening) (h after : List Entry) (line : LogLine) (fetched : List ℕ) (sealed : ℕ) (most : sealed ≤ count h) where
  abbrev Replied : Answer → Type 0
  Replied answer = Replies opening.header h 0 (call_of line fetched) answer after

  nothing_left : (made : Made) → after ≡ h ++ entries_of 0 made → made ≡ nothing → Remains [] h [] after sealed
  nothing_left made is none = still h after sealed (ap bodies (is ∙ ap (λ m. h ++ entries_of 0 m) none) ∙ without_entry h None) most

  for_memory : Replied answers.Memory → IsReplayed opening h line fetched after sealed Memory
  for_memory r =
      let none = memory_made opening.header h (call_of line fetched) r.made (is_change line fetched) r.answers in
      ([], record { answer = answers.Memory; made = r.made; answers = r.answers; extra_is = ap (λ (m : Made). option_to_list m.entry) (sym none) }, nothing_left r.made r.new_is none)

  for_refusal : (refusal : reply.Refusal) → Replied (Refuses refusal) → (r : Answers opening.header h (call_of line fetched) (Refuses refusal) nothing) × Remains [] h [] after sealed
  for_refusal refusal r =
      let none = refused_made opening.header h (call_of line fetched) refusal r.made (is_change line fetched) r.answers in
      (subst (Answers opening.header h (call_of line fetched) (Refuses refusal)) none r.answers, nothing_left r.made r.new_is none)

  abbrev other_answer : (answer : Answer) → Answers opening.header h (call_of line fetched) answer nothing → MadeFor opening.header h line fetched []
  other_answer answer so = record { answer = answer; made = nothing; answers = so; extra_is = refl }

  pub refusal_replayed : (e : Refusal) → Replied (refused e) → IsReplayed opening h line fetched after sealed (replayed_of (faults.Refused e))
  refusal_replayed e r = elim (refusal_is e) as (λ _. IsReplayed opening h line fetched after sealed (replayed_of (faults.Refused e))) [
    | inl memory ↦ subst (λ e. IsReplayed opening h line fetched after sealed (replayed_of (faults.Refused e))) (sym memory) (for_memory (subst (λ e. Replied (refused e)) memory r))
    | inr (inl full) ↦ subst (λ e. IsReplayed opening h line fetched after sealed (replayed_of (faults.Refused e))) (sym full.2)
        (let so = for_refusal (reply.Full full.0 full.1) (subst (λ e. Replied (refused e)) full.2 r) in
        (record { refusal = reply.Full full.0 full.1; answers = so.0; room = (full.0, full.1, refl) }, so.1))
    | inr (inr other) ↦ subst (IsReplayed opening h line fetched after sealed) (sym other.3)
        (let so = for_refusal other.0 (subst Replied other.1 r) in
        ([], record { answered = other_answer (Refuses other.0) so.0; another = other.2 }, so.1))
  ]

  pub fault_replayed : (fault : ChangeFault) → Replied (stored_answer (Err fault)) → is_disk_fault {T = Granted} (Err fault) ≡ false → (IsTrue opening.honest → is_misread {T = Granted} (Err fault) ≡ false) → IsReplayed opening h line fetched after sealed (replayed_of fault)
  fault_replayed (faults.Refused e) r other read = refusal_replayed e r
  fault_replayed faults.DiskFault r other read = absurd (true≢false other)
  fault_replayed faults.ReadFault r other read =
      ([], tt, still h after sealed (ap bodies (r.new_is ∙ ap (λ m. h ++ entries_of 0 m) (unread_made opening.header h (call_of line fetched) r.made (is_change line fetched) r.answers)) ∙ without_entry h (Some false)) most)
  fault_replayed (faults.BadBytes wanted found) r other read =
      let none = misread_made opening.header h (call_of line fetched) wanted found r.made (is_change line fetched) r.answers in
      ([], record { answered = other_answer (answers.BadBytes wanted found) (subst (Answers opening.header h (call_of line fetched) (answers.BadBytes wanted found)) none r.answers); another = isnt_honest opening.honest read }, nothing_left r.made r.new_is none)

-- ---- its cause

refused_calm : (e : Refusal) → replayed_of (faults.Refused e) ≢ DiskFault
refused_calm e is = elim (refusal_is e) as (λ _. ⊥) [
  | inl memory ↦ (let not : Memory ≡ DiskFault = sym (ap (λ e. replayed_of (faults.Refused e)) memory) ∙ is in absurd cc)
  | inr (inl full) ↦ (let not : Full ≡ DiskFault = sym (ap (λ e. replayed_of (faults.Refused e)) full.2) ∙ is in absurd cc)
  | inr (inr other) ↦ (let not : Differs ≡ DiskFault = sym other.3 ∙ is in absurd cc)
]

pub read_only : (fault : ChangeFault) → is_disk_fault {T = Granted} (Err fault) ≡ false → replayed_of fault ≡ DiskFault → is_unread {T = Granted} (Err fault) ≡ true
read_only (faults.Refused e) other is = absurd (refused_calm e is)
read_only faults.DiskFault other is = absurd (true≢false other)
read_only faults.ReadFault other is = refl
read_only (faults.BadBytes wanted found) other is = absurd cc
