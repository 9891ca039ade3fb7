-- Bytes that are read block by block.
use Rattle.std.proofs.Common.{◌≡◌, ◌≤◌, ◌<◌, ◌+◌, ◌-◌, ◌++◌, ◌∙◌, false, ℕ, List, length, take, drop, ap, sym, subst, refl, arith}
use Rattle.std.specs.Prelude.{IsTrue}
use Rattle.std.proofs.lemmas.List.{length-append, drop-drop}
use Rattle.std.proofs.Math.Seq.{take-add}
use Rattle.disk_model.specs.Images.{IsImage}
use Rattle.disk_model.specs.Calls.{Kept, LeavesOnly, Looked}
use Rattle.ports.specs.Faults.{Counts}
use Rattle.ports.proofs.Counting.{counts_then}
use Rattle.blob_disk.proofs.Clients.{kept_then}
use Rattle.disk_model.specs.Meaning.{Meaning, IsSound}
use Rattle.disk_model.proofs.Crashes.{bytes_append}
use Rattle.byte_fields.specs.Bytes.{IsBytes}
use Rattle.std.specs.Option.{ForSome}
use Rattle.repo_journal.proofs.Walks.{Walked, leaves_walk}
use Rattle.repo_journal.specs.View.{JournalView}
use Rattle.object_id.specs.declared.hasher.Hasher.{Hasher}
use Rattle.content_pieces.specs.declared.piece.Piece.{Piece}
use Rattle.object_id.specs.Hashing.{HasFed}
use Rattle.content_pieces.specs.Joining.{IsRead, IsReadAt}

two_stretches : (a b all : List ℕ) (n k at : ℕ) → a ≡ take n (drop at all) → b ≡ take k (drop (at + n) all) → a ++ b ≡ take (n + k) (drop at all)
two_stretches a b all n k at left right =
    ap (λ x. x ++ b) left ∙ ap (λ x. take n (drop at all) ++ x) (right ∙ ap (take k) (sym (drop-drop n at all))) ∙ sym (take-add n k (drop at all))

-- two stretches that stand one behind the other are one
pub read_on : (j : JournalView) (m : Meaning) (at n k : ℕ) (a b : List ℕ) → (at < j.size → at + (n + k) ≤ j.size) → (0 < k)
    → IsReadAt j m at n a → IsReadAt j m (at + n) k b → IsReadAt j m at (n + k) (a ++ b)
read_on j m at n k a b apart some left right = record {
  length = length-append a b ∙ ap (λ x. x + length b) left.length ∙ ap (λ x. n + x) right.length;
  are_bytes = bytes_append a b left.are_bytes right.are_bytes;
  in_file = λ inside honest. two_stretches a b m.state.reads n k at (left.in_file inside honest) (right.in_file (let most = apart inside in omega arith) honest);
  waiting = λ behind. two_stretches a b j.pending.bytes n k (at - j.size) (left.waiting behind) (right.waiting (omega arith) ∙ ap (λ x. take k (drop x j.pending.bytes)) (omega arith));
}

-- what was read of a piece of which so much is left
pub record HasRead (j : JournalView) (m : Meaning) (p : Piece) (left : ℕ) (own before joined : Hasher) : Type 0 where
  pub bytes : List ℕ
  pub is_read : IsReadAt j m p.at (p.length - left) bytes
  pub own_is : HasFed own bytes
  pub joined_is : (fed : List ℕ) → HasFed before fed → HasFed joined (fed ++ bytes)

-- a block that was read, of a disk that was only read since
pub one_read : (j : JournalView) (m now : Meaning) (at count : ℕ) (old new : List ℕ) → Walked m now → IsSound now → length old ≡ count → length new ≡ length old → IsBytes new
    → (at + length old ≤ j.size → ForSome now.reads (λ file. new ≡ take (length old) (drop at file)))
    → (j.size ≤ at → new ≡ take (length old) (drop (at - j.size) j.pending.bytes))
    → (at < j.size → at + count ≤ j.size) → IsReadAt j m at count new
one_read j m now at count old new walked sound size same are_bytes bytes waiting apart = record {
  length = same ∙ size;
  are_bytes = are_bytes;
  in_file = λ inside honest. (
      let told = bytes (let fits = apart inside in omega arith) in
      let here = subst (λ reads. ForSome reads (λ file. new ≡ take (length old) (drop at file))) (sound.reads (walked.kept.honest ∙ honest)) told in
      here now.state.reads refl ∙ ap (λ n. take n (drop at now.state.reads)) size ∙ ap (λ d. take count (drop at d.reads)) (walked.looked honest));
  waiting = λ behind. waiting behind ∙ ap (λ n. take n (drop (at - j.size) j.pending.bytes)) size;
}

-- several looks at a disk that some looks go before
pub walk_more : (a b c : Meaning) → Walked a b → Looked b c → Kept b c → (IsTrue b.honest → LeavesOnly (IsImage c.state) b c) → Counts b.faults c.faults false → Walked a c
walk_more a b c before looked kept time counts = record {
  looked = λ honest. looked (before.kept.honest ∙ honest) ∙ before.looked honest;
  kept = kept_then a b c before.kept kept;
  time = λ honest. leaves_walk a b c before looked (time (before.kept.honest ∙ honest)) honest;
  counts = counts_then a.faults b.faults c.faults false false before.counts counts;
}

-- what was read later was read of the same bytes
pub read_since : (j : JournalView) (m now : Meaning) (p : Piece) (bytes : List ℕ) → Walked m now → IsRead j now p bytes → IsRead j m p bytes
read_since j m now p bytes walked read = record {
  length = read.length;
  are_bytes = read.are_bytes;
  in_file = λ inside honest. read.in_file inside (walked.kept.honest ∙ honest) ∙ ap (λ d. take p.length (drop p.at d.reads)) (walked.looked honest);
  waiting = read.waiting;
}
