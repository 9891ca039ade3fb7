-- What is told of bytes that were read.
use Rattle.std.proofs.Common.{◌≡◌, ℕ, ◌+◌, ◌-◌, ◌≤◌, ◌<◌, Bool, true, false, cond, List, [], ◌∷◌, ◌++◌, length, take, drop, get_or, refl, sym, ap, subst, ◌∙◌, arith, append-nil, append_assoc}
use Rattle.std.specs.Prelude.{Option, Some, Result, Ok, Err, OnOk, MatchOption, bytes_eq}
use Rattle.std.specs.Option.{ForSome}
use borrow.Rule.Slice.PartMut.{put_mid}
use Rattle.std.proofs.Math.Seq.{drop-append_seam, take-add, take-append_seam}
use Rattle.std.proofs.lemmas.List.{drop-take, length-drop, length-take-le}
use Rattle.std.proofs.lemmas.Slice.{take-put_mid}
use Rattle.sha2.specs.Sha256.{sha256}
use Rattle.byte_fields.specs.Bytes.{IsBytes}
use Rattle.changeset_model.proofs.Accepting.{IsBytes-drop, IsBytes-take}
use Rattle.disk_model.specs.Meaning.{Meaning, IsSound}
use Rattle.repo_journal.proofs.Walks.{Walked}
use Rattle.repo_journal.specs.View.{JournalView}
use Rattle.content_pieces.proofs.Joins.{take_here}
use Rattle.content_table.specs.declared.part.Part.{Part}
use Rattle.content_table.specs.declared.place.Place.{Place}
use Rattle.repo_calls.specs.declared.calls.AskFault.{AskFault}
use Rattle.repo_calls.specs.declared.calls.AskFault.TheVariants.{BadBytes}
use Rattle.repo_calls.specs.Asking.{is_early, is_read_fault}
use Rattle.repo_state.specs.Asking.{other_part}
use Rattle.repo_state.specs.Filling.{AreFilled, IsFilled}

-- the disk was asked, and didn't fail
abbrev IsLate : Option AskFault → Type 0
IsLate o = MatchOption o (Unit {0}) (λ fault. (is_early {T = Unit {0}} (Err fault) ≡ false) × (is_read_fault {T = Unit {0}} (Err fault) ≡ false))

late : (parts : List Part) (bytes : List ℕ) → IsLate (other_part parts bytes)
late [] bytes = tt
late (p ∷ parts) bytes = by (late parts (drop p.place.length bytes)) (bytes_eq (sha256 (take p.place.length bytes)) p.id)
  where
    by : IsLate (other_part parts (drop p.place.length bytes)) → (t : Bool) → IsLate (cond t (other_part parts (drop p.place.length bytes)) (Some (BadBytes p.id (sha256 (take p.place.length bytes)))))
    by later true = later
    by later false = (refl, refl)

pub told_late : (parts : List Part) (bytes : List ℕ) (fault : AskFault) → other_part parts bytes ≡ Some fault → (is_early {T = Unit {0}} (Err fault) ≡ false) × (is_read_fault {T = Unit {0}} (Err fault) ≡ false)
told_late parts bytes fault told = subst IsLate told (late parts bytes)

-- ---- a part of a buffer

pub on_ok : {X E P : Type 0} (r : Result X E) → P → OnOk r P
on_ok (Ok x) p = p
on_ok (Err e) p = tt

pub told_ok : {X E P Q : Type 0} (r : Result X E) → (P → Q) → OnOk r P → OnOk r Q
told_ok (Ok x) f p = f p
told_ok (Err e) f p = tt

-- what was put there
pub put_there : (from n k : ℕ) (old new : List ℕ) → from ≤ length old → length new ≡ n → take n (drop from (put_mid from k old new)) ≡ new
put_there from n k old new fits long =
    let front : length (take from old) ≡ from = length-take-le from old fits in
    sym (drop-take from n (put_mid from k old new))
    ∙ ap (drop from) (take-put_mid from k old new (from + n) (omega arith) fits)
    ∙ subst (λ m. drop m (take from old ++ new) ≡ new) front (drop-append_seam (take from old) new)

-- a buffer that was filled as a whole
pub taken : (n : ℕ) (new old : List ℕ) → length new ≡ n → take n (new ++ drop (length new) old) ≡ new
taken n new old long = subst (λ k. take k (new ++ drop (length new) old) ≡ new) long (take-append_seam new (drop (length new) old))

-- as many bytes as are put
pub part_long : (from n k : ℕ) (old : List ℕ) → k ≡ n → from + n ≤ length old → length (take k (drop from old)) ≡ n
part_long from n k old same fits = let rest = length-drop from old in length-take-le k (drop from old) (omega arith) ∙ same

pub put_bytes : (from n k : ℕ) (old new : List ℕ) → IsBytes (put_mid from k old new) → IsBytes (take n (drop from (put_mid from k old new)))
put_bytes from n k old new all = IsBytes-take n (drop from (put_mid from k old new)) (IsBytes-drop from (put_mid from k old new) all)

-- ---- one part behind others

pub filled_then : (j : JournalView) (m : Meaning) (parts : List Part) (p : Part) (bytes own : List ℕ) → AreFilled j m parts bytes → IsFilled j m p.place own → AreFilled j m (parts ++ p ∷ []) (bytes ++ own)
filled_then j m [] p bytes own none filled = (own, [], ap (λ t. t ++ own) none ∙ sym (append-nil own), filled, refl)
filled_then j m (q ∷ parts) p bytes own (first, rest, is, this, later) filled = (first, rest ++ own, ap (λ t. t ++ own) is ∙ append_assoc first rest own, this, filled_then j m parts p rest own later filled)

-- what was read later, of a disk that was only read since
pub filled_since : (j : JournalView) (m now : Meaning) (place : Place) (own : List ℕ) → Walked m now → IsSound now → length own ≡ place.length → IsBytes own
    → (place.at < j.size → ForSome now.reads (λ file. own ≡ take place.length (drop place.at file))) → (j.size ≤ place.at → own ≡ take place.length (drop (place.at - j.size) j.pending.bytes)) → IsFilled j m place own
filled_since j m now place own walked sound long are there waiting = record {
  is_read = record {
    length = long;
    are_bytes = are;
    in_file = λ inside honest. (let told = there inside now.state.reads (sound.reads (walked.kept.honest ∙ honest)) in told ∙ ap (λ d. take place.length (drop place.at d.reads)) (walked.looked honest));
    waiting = waiting;
  };
  there = λ inside. (now, walked.kept, there inside);
}

-- the next part, of what the buffer has by now
pub filled_on : (j : JournalView) (m : Meaning) (parts : List Part) (i : ℕ) (p : Part) (done : ℕ) (old new : List ℕ) → i < length parts → p ≡ get_or parts i p → done ≤ length new → take done new ≡ take done old
    → AreFilled j m (take i parts) (take done old) → IsFilled j m p.place (take p.place.length (drop done new)) → AreFilled j m (take (i + 1) parts) (take (done + p.place.length) new)
filled_on j m parts i p done old new less is fits same before this =
    let grown = filled_then j m (take i parts) p (take done new) (take p.place.length (drop done new)) (subst (AreFilled j m (take i parts)) (sym same) before) this in
    subst (λ ps. AreFilled j m ps (take (done + p.place.length) new)) (take_here parts i p less is)
    (subst (AreFilled j m (take i parts ++ p ∷ [])) (sym (take-add done p.place.length new)) grown)
