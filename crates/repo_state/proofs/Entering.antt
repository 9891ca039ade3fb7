-- An entry that waits to be sealed: what is so after it.
use Rattle.std.proofs.Common.{◌≡◌, ℕ, ◌≤◌, true, cond, List, [], ◌∷◌, ◌++◌, length, sym, ap, subst, ◌∙◌, arith, length-append}
use Rattle.std.specs.Prelude.{IsTrue, Option}
use Rattle.std.specs.List.{AllByRecursion}
use Rattle.disk_model.specs.Meaning as disk
use Rattle.disk_model.specs.Meaning.{Meaning, IsLong}
use Rattle.history_model.specs.History.{Body, Entry, bodies, is_stored}
use Rattle.history_model.specs.Journal.{Header, HoldsParts, IsPayload, framed, size}
use Rattle.reply_model.specs.Legal.{MayFollow, IsLegal}
use Rattle.reply_model.proofs.Histories.{bodies-append, IsLegal-push}
use Rattle.repo_journal.specs.Groups.{grown, with_group}
use Rattle.repo_journal.specs.View.{JournalView}
use Rattle.repo_journal.specs.declared.left.Left as lefts
use Rattle.bookmark_lock.specs.Opening.{Opening}
use Rattle.repo_state.specs.Groups.{left_of}
use Rattle.repo_state.specs.Images.{IsPending}
use Rattle.repo_state.specs.State.{Covers, IsSound, LeavesAfter, Agrees}
use Rattle.repo_state.proofs.Sounds.{fits, size_with}
use Rattle.repo_state.proofs.Stands.{faults-stored, no_fault-push}
use Rattle.repo_state.proofs.Leaving.{leaves_entered}
use Rattle.repo_state.proofs.Going.{Goes, HasLength, goes_entered, length_entered}
use Rattle.repo_state.proofs.LeftOver.{left_entered}
use Rattle.repo_state.proofs.GroupParts.{one_more_pending, part_grows, pending_size}
use Rattle.repo_state.proofs.Laid.{holds_grown}

pub sound_entered : (opening : Opening) (h : List Entry) (n reach : ℕ) (entry : Entry) (m : Meaning) → is_stored entry.body ≡ true → MayFollow opening.header h entry.body → n ≤ length (bodies h)
    → IsSound opening h n reach m → IsSound opening (h ++ entry ∷ []) n reach m
sound_entered opening h n reach entry m s follows most sound = record {
  legal = (IsLegal-push opening.header h entry).1 (sound.legal, follows);
  begins = sound.begins;
  reaches = sound.reaches;
  within = (let longer = ap (λ (bs : List Body). length bs) (bodies-append h (entry ∷ [])) in let sum = length-append (bodies h) (bodies (entry ∷ [])) in let within = sound.within in omega arith);
  calm = λ quiet. no_fault-push h entry (sound.calm quiet) s;
  honest = sound.honest;
  quiet = sound.quiet;
  begun = sound.begun;
  kept = sound.kept;
  covers = subst (λ f. Covers f opening.faults m.faults) (sym (faults-stored h entry s)) sound.covers;
  most = sound.most;
  leaves = λ honest. leaves_entered opening.header opening.length opening.moment h n reach entry opening.disk m most sound.within (sound.leaves honest);
}

pub agrees_entered : (header : Header) (h : List Entry) (n upto : ℕ) (entry : Entry) (payload frame : List ℕ) (journal after : JournalView) (m : Meaning) → disk.IsSound m → IsLegal header h → is_stored entry.body ≡ true → MayFollow header h entry.body → IsPayload entry.body payload → frame ≡ framed payload
    → after ≡ record journal { pending = after.pending } → after.pending.bytes ≡ grown journal.pending.bytes frame
    → (IsTrue m.honest → HoldsParts (with_group journal.size journal.pending.bytes m.state.reads) (bodies h) entry.body)
    → Agrees header h n upto journal m → Agrees header (h ++ entry ∷ []) n upto after m
agrees_entered header h n upto entry payload frame journal after m told legal s follows is made same grows parts agrees =
    let whole = size_with h entry payload s is in
    let room = fits header h entry.body payload s follows is in
    let file = ap (λ (j : JournalView). j.size) same in
    let left_is = ap (λ (j : JournalView). j.left) same in
    let sealed = agrees.size_is in
    let both = pending_size h n journal.pending.bytes agrees.waits in
    let stored : bodies (h ++ entry ∷ []) ≡ bodies h ++ entry.body ∷ [] = bodies-append h (entry ∷ []) ∙ ap (λ b. bodies h ++ cond b (entry.body ∷ []) []) s in
    record {
      capacity_is = ap (λ (j : JournalView). j.capacity) same ∙ agrees.capacity_is;
      fits = omega arith;
      size_is = file ∙ agrees.size_is ∙ sym (ap (λ (g : List Entry). size g) (part_grows n h (entry ∷ []) agrees.waits.most));
      left = left_entered header h n entry journal.pending.bytes after.pending.bytes frame (left_of upto after.left) m s agrees.waits grows (subst (λ (o : Option lefts.Left). LeavesAfter header h n journal.pending.bytes (left_of upto o) m) (sym left_is) agrees.left);
      long = subst (λ k. IsLong m.reads k) (sym file) agrees.long;
      waits = subst (λ b. IsPending (h ++ entry ∷ []) n b) (sym (grows ∙ ap (λ f. grown journal.pending.bytes f) made)) (one_more_pending h n journal.pending.bytes payload entry s is agrees.waits);
      group = subst (λ (o : Option lefts.Left). HasLength o (h ++ entry ∷ []) n upto) (sym left_is) (length_entered journal.left h n upto entry agrees.waits.most agrees.left.ends agrees.group);
      going = subst (λ (o : Option lefts.Left). Goes header (h ++ entry ∷ []) n upto after.size after.pending.bytes m o) (sym left_is)
          (subst (λ k. Goes header (h ++ entry ∷ []) n upto k after.pending.bytes m journal.left) (sym file)
          (goes_entered header h n upto journal.size journal.pending.bytes after.pending.bytes frame m journal.left entry agrees.waits grows agrees.left.ends agrees.group agrees.going));
      holds = λ honest. (
          let laid : with_group journal.size (grown journal.pending.bytes frame) m.state.reads ≡ with_group after.size after.pending.bytes m.state.reads = (λ i. with_group (sym file i) (sym grows i) m.state.reads) in
          let all = holds_grown header h entry.body journal.size journal.pending.bytes frame m.state.reads legal follows (omega arith) (agrees.long m.state.reads (told.reads honest)) (omega arith) (agrees.holds honest) (parts honest) in
          subst (λ f. AllByRecursion (HoldsParts f (bodies (h ++ entry ∷ []))) (bodies (h ++ entry ∷ []))) laid
          (subst (λ bs. AllByRecursion (HoldsParts (with_group journal.size (grown journal.pending.bytes frame) m.state.reads) bs) bs) (sym stored) all));
      stable = λ honest none. agrees.stable honest (sym left_is ∙ none);
    }
