-- What the writes of a copy leave of the new file's disk.
use Rattle.std.proofs.Common.{◌≡◌, ℕ, ◌+◌, ◌-◌, ◌<◌, ◌≤◌, Bool, true, false, ◌||◌, List, [], ◌∷◌, ◌++◌, length, take, drop, refl, sym, ap, ◌∙◌, inl, inr, arith}
use Rattle.std.specs.Prelude.{slice_index, IsTrue}
use Rattle.std.proofs.lemmas.List.Folds.{list_any-append}
use Rattle.std.proofs.lemmas.List.{length-append, length-take, length-drop, append-nil, get_or-append_right, get_or-take, get_or-drop, drop_all}
use Rattle.std.proofs.Math.ListN.{get_or-append}
use Rattle.std.proofs.Math.Seq.{take-length, take-append_seam, drop-append_seam}
use Rattle.std.proofs.lemmas.Bool.{cases_lt}
use Rattle.std.proofs.lemmas.Bool.Decides.{nat_tests}
use Rattle.disk_model.specs.Images.{Disk, Writes, IsImage, marked, after_write, after_call, write_at, is_written}
use Rattle.disk_model.specs.Meaning.{Meaning, IsSound}
use Rattle.disk_model.specs.Calls.{Kept, LeavesOnly, Did}
use Rattle.disk_model.proofs.Crashes.{covers, write_at_len, bytes_append, bytes_take, bytes_drop}
use Rattle.blob_disk.proofs.Clients.{leaves_then, leaves_weaker}
use Rattle.repo_journal.proofs.Seals.{EachImage}
use Rattle.migration.specs.Copying.{IsShort, IsUnmarked, LeavesEach}

-- what a write may leave, whether it was done or failed
of_write : (d : Disk) (at : ℕ) (bytes : List ℕ) (done : Bool) (image : List ℕ) → IsImage (after_call d (Writes at bytes done)) image → IsImage (after_write at bytes d) image
of_write d at bytes true image h = h
of_write d at bytes false image h =
    let longer = write_at_len at bytes d.reads in
    let len = h.no_longer in
    record { are_bytes = h.are_bytes; no_shorter = h.no_shorter; no_longer = omega arith; kept = h.kept }

both_false : (a b : Bool) → a ≡ false → b ≡ false → (a || (b || false)) ≡ false
both_false true b p q = p
both_false false true p q = q
both_false false false p q = refl

still_unwritten : (d : Disk) (at len i : ℕ) → is_written d i ≡ false → covers at len i ≡ false → is_written (marked at len d) i ≡ false
still_unwritten d at len i before out =
    list_any-append (λ w. covers w.at w.len i) d.written (record { at = at; len = len } ∷ []) ∙ both_false (is_written d i) (covers at len i) before out

before_range : (at len i : ℕ) → i < at → covers at len i ≡ false
before_range at len i less = grind (arith, nat_tests)

behind_range : (at len i : ℕ) → at + len ≤ i → covers at len i ≡ false
behind_range at len i more = grind (arith, nat_tests)

-- the shortest image
shortest : (d : Disk) → IsImage d d.reads → IsImage d (take (length d.synced) d.reads)
shortest d reads =
    let len = length-take (length d.synced) d.reads in
    let shorter = reads.no_shorter in
    record {
      are_bytes = bytes_take (length d.synced) d.reads reads.are_bytes;
      no_shorter = omega arith;
      no_longer = omega arith;
      kept = λ i inside out. get_or-take (length d.synced) d.reads i 0 inside ∙ reads.kept i inside out;
    }

-- Where each image reaches to a place, a write from there on or later leaves what stands before the place as one of them has it.
front_kept : (d : Disk) (k at : ℕ) (bytes : List ℕ) (done : Bool) (image : List ℕ) → IsImage d d.reads → ((before : List ℕ) → IsImage d before → k ≤ length before) → k ≤ at → IsImage (after_call d (Writes at bytes done)) image → (before : List ℕ) × IsImage d before × (take k image ≡ take k before)
front_kept d k at bytes done image reads long place left =
    let h = of_write d at bytes done image left in
    let synced = long (take (length d.synced) d.reads) (shortest d reads) in
    let synced_len = length-take (length d.synced) d.reads in
    let reads_long = long d.reads reads in
    let shorter = h.no_shorter in
    let front_len = length-take k image in
    let front_is : length (take k image) ≡ k = omega arith in
    let back_len = length-drop k d.reads in
    let whole_len = length-append (take k image) (drop k d.reads) in
    let reads_shorter = reads.no_shorter in (
      take k image ++ drop k d.reads,
      record {
        are_bytes = bytes_append (take k image) (drop k d.reads) (bytes_take k image h.are_bytes) (bytes_drop k d.reads reads.are_bytes);
        no_shorter = omega arith;
        no_longer = omega arith;
        kept = λ i inside out. elim (cases_lt i k) [
          | inl less ↦ get_or-append (take k image) (drop k d.reads) 0 i (omega arith) ∙ get_or-take k image i 0 less ∙ h.kept i inside (still_unwritten d at (length bytes) i out (before_range at (length bytes) i (omega arith)))
          | inr more ↦ get_or-append_right (take k image) (drop k d.reads) k i 0 front_is more ∙ get_or-drop k d.reads (i - k) 0 ∙ ap (λ j. slice_index d.reads j) (omega arith) ∙ reads.kept i inside out
        ];
      },
      sym (ap (λ n. take n (take k image ++ drop k d.reads)) (sym front_is) ∙ take-append_seam (take k image) (drop k d.reads)),
    )

written_inside : (bytes file : List ℕ) → length bytes ≤ length file → length (write_at 0 bytes file) ≡ length file
written_inside bytes file inside =
    let rest = length-append bytes (drop (0 + length bytes) file) in
    let back = length-drop (0 + length bytes) file in
    omega arith

-- Where a crash can leave only what reads give, a write at the head leaves that but for the bytes there.
back_kept : (d : Disk) (bytes : List ℕ) (done : Bool) (image : List ℕ) → IsImage d d.reads → ((before : List ℕ) → IsImage d before → before ≡ d.reads) → length bytes ≤ length d.reads → IsImage (after_call d (Writes 0 bytes done)) image → drop (length bytes) image ≡ drop (length bytes) d.reads
back_kept d bytes done image reads only place left =
    let n = length bytes in
    let h = of_write d 0 bytes done image left in
    let short = ap (λ xs. length xs) (only (take (length d.synced) d.reads) (shortest d reads)) in
    let short_len = length-take (length d.synced) d.reads in
    let shorter = h.no_shorter in
    let longer = h.no_longer in
    let written = written_inside bytes d.reads place in
    let front_len = length-take n d.reads in
    let front_is : length (take n d.reads) ≡ n = omega arith in
    let back_len = length-drop n image in
    let whole_len = length-append (take n d.reads) (drop n image) in
    let same : take n d.reads ++ drop n image ≡ d.reads = only (take n d.reads ++ drop n image) (record {
      are_bytes = bytes_append (take n d.reads) (drop n image) (bytes_take n d.reads reads.are_bytes) (bytes_drop n image h.are_bytes);
      no_shorter = omega arith;
      no_longer = omega arith;
      kept = λ i inside out. elim (cases_lt i n) [
        | inl less ↦ get_or-append (take n d.reads) (drop n image) 0 i (omega arith) ∙ get_or-take n d.reads i 0 less ∙ reads.kept i inside out
        | inr more ↦ get_or-append_right (take n d.reads) (drop n image) n i 0 front_is more ∙ get_or-drop n image (i - n) 0 ∙ ap (λ j. slice_index image j) (omega arith) ∙ h.kept i inside (still_unwritten d 0 n i out (behind_range 0 n i (omega arith)))
      ];
    }) in
    sym (ap (λ k. drop k (take n d.reads ++ drop n image)) (sym front_is) ∙ drop-append_seam (take n d.reads) (drop n image)) ∙ ap (drop n) same

-- ---- the calls

-- a write at the end of a file
pub appended : (at : ℕ) (bytes file : List ℕ) → at ≡ length file → write_at at bytes file ≡ file ++ bytes
appended at bytes file place =
    ap (λ k. take k file ++ (bytes ++ drop (k + length bytes) file)) place
    ∙ ap (λ xs. xs ++ (bytes ++ drop (length file + length bytes) file)) (take-length file)
    ∙ ap (λ xs. file ++ (bytes ++ xs)) (drop_all (length file + length bytes) file (omega arith))
    ∙ ap (λ xs. file ++ xs) (append-nil bytes)

unmarked_long : (image : List ℕ) → IsUnmarked image → 8 ≤ length image
unmarked_long image unmarked = let len = length-take 8 image in let eight = ap (λ xs. length xs) unmarked in omega arith

-- a write behind the mark's place
pub write_unmarked : (m n : Meaning) (at : ℕ) (bytes : List ℕ) (done : Bool) → IsSound m → IsTrue m.honest → 8 ≤ at → EachImage IsUnmarked m → Did (Writes at bytes done) m n → EachImage IsUnmarked n
write_unmarked m n at bytes done sound honest place each did image h =
    let left = front_kept m.state 8 at bytes done image (sound.image honest) (λ before is. unmarked_long before (each before is)) place ((did honest).most.images image h) in
    left.2 ∙ each left.0 left.1

-- a write of the mark
pub write_head : (m n : Meaning) (bytes : List ℕ) (done : Bool) → IsSound m → IsTrue m.honest → EachImage (λ image. image ≡ m.state.reads) m → length bytes ≤ length m.state.reads → Did (Writes 0 bytes done) m n → EachImage (λ image. drop (length bytes) image ≡ drop (length bytes) m.state.reads) n
write_head m n bytes done sound honest only place did image h = back_kept m.state bytes done image (sound.image honest) only place ((did honest).most.images image h)

-- the first write
written_short : (m n : Meaning) (bytes : List ℕ) (done : Bool) → IsTrue m.honest → m.state.reads ≡ [] → IsShort bytes → Did (Writes 0 bytes done) m n → IsShort n.state.reads
written_short m n bytes true honest empty small did =
    let same = ap (λ xs. length xs) ((did honest).most.reads ∙ ap (λ f. write_at 0 bytes f) empty) in
    let rest = length-append bytes (drop (0 + length bytes) []) in
    let none : length (drop (0 + length bytes) []) ≡ 0 = length-drop {A = ℕ} (0 + length bytes) [] ∙ omega arith in
    omega arith
written_short m n bytes false honest empty small did = let same = ap (λ xs. length xs) ((did honest).most.reads ∙ empty) in omega arith

pub write_short : (m n : Meaning) (bytes : List ℕ) (done : Bool) → IsTrue m.honest → m.state.reads ≡ [] → IsShort bytes → Did (Writes 0 bytes done) m n → EachImage IsShort n
write_short m n bytes done honest empty small did image h =
    let reads = written_short m n bytes done honest empty small did in
    let most = h.no_longer in
    omega arith

-- ---- the calls in a row

pub leaves_none : (P : List ℕ → Type 0) (m : Meaning) → EachImage P m → LeavesEach P m m
leaves_none P m each = record { now = each; since = record { since = λ t image early left. inl left } }

-- one more call
pub leaves_call : (P : List ℕ → Type 0) (m a b : Meaning) → Kept m a → LeavesOnly P m a → LeavesOnly (IsImage b.state) a b → EachImage P b → LeavesEach P m b
leaves_call P m a b kept before time each = record { now = each; since = leaves_then P m a b kept before (leaves_weaker (IsImage b.state) P a b each time) }

-- several more
pub leaves_each : (P : List ℕ → Type 0) (m a b : Meaning) → Kept m a → LeavesOnly P m a → LeavesEach P a b → LeavesEach P m b
leaves_each P m a b kept before after = record { now = after.now; since = leaves_then P m a b kept before after.since }

pub each_weaker : (P Q : List ℕ → Type 0) (m n : Meaning) → ((image : List ℕ) → P image → Q image) → LeavesEach P m n → LeavesEach Q m n
each_weaker P Q m n weaker each = record { now = λ image h. weaker image (each.now image h); since = leaves_weaker P Q m n weaker each.since }
