-- What a write that a crash stops may leave of the disk before it.
use Rattle.std.proofs.Common.{◌≡◌, ℕ, suc, ◌+◌, ◌-◌, ◌<◌, ◌≤◌, Bool, true, false, ◌||◌, List, [], ◌∷◌, ◌++◌, length, take, drop, refl, sym, ap, subst, ◌∙◌, inl, inr, arith}
use Rattle.std.specs.Prelude.{slice_index}
use Rattle.std.proofs.lemmas.List.Folds.{list_any-append}
use Rattle.std.proofs.lemmas.List.{length-append, length-take, length-drop, get_or-append_right, get_or-take, get_or-drop, take-append-drop}
use Rattle.std.proofs.Math.ListN.{get_or-append}
use Rattle.std.proofs.Math.Seq.{take-append_seam, drop-append-add, get_or-append_seam, drop-cons}
use Rattle.std.proofs.lemmas.Bool.{cases_lt}
use Rattle.std.proofs.lemmas.Bool.Decides.{nat_tests}
use Rattle.disk_model.specs.Images.{Disk, Writes, IsImage, marked, after_write, after_call, write_at, is_written}
use Rattle.disk_model.proofs.Crashes.{covers, write_at_len, bytes_append, bytes_take, bytes_drop}

-- what a write may leave, whether it was done or failed
of_write : (d : Disk) (at : ℕ) (bytes : List ℕ) (done : Bool) (image : List ℕ) → IsImage (after_call d (Writes at bytes done)) image → IsImage (after_write at bytes d) image
of_write d at bytes true image h = h
of_write d at bytes false image h =
    let longer = write_at_len at bytes d.reads in
    let len = h.no_longer in
    record { are_bytes = h.are_bytes; no_shorter = h.no_shorter; no_longer = omega arith; kept = h.kept }

both_false : (a b : Bool) → a ≡ false → b ≡ false → (a || (b || false)) ≡ false
both_false true b p q = p
both_false false true p q = q
both_false false false p q = refl

still_unwritten : (d : Disk) (at len i : ℕ) → is_written d i ≡ false → covers at len i ≡ false → is_written (marked at len d) i ≡ false
still_unwritten d at len i before out =
    list_any-append (λ w. covers w.at w.len i) d.written (record { at = at; len = len } ∷ []) ∙ both_false (is_written d i) (covers at len i) before out

before_range : (at len i : ℕ) → i < at → covers at len i ≡ false
before_range at len i less = grind (arith, nat_tests)

behind_range : (at len i : ℕ) → at + len ≤ i → covers at len i ≡ false
behind_range at len i more = grind (arith, nat_tests)

-- the shortest image
shortest : (d : Disk) → IsImage d d.reads → IsImage d (take (length d.synced) d.reads)
shortest d reads =
    let len = length-take (length d.synced) d.reads in
    let shorter = reads.no_shorter in
    record {
      are_bytes = bytes_take (length d.synced) d.reads reads.are_bytes;
      no_shorter = omega arith;
      no_longer = omega arith;
      kept = λ i inside out. get_or-take (length d.synced) d.reads i 0 inside ∙ reads.kept i inside out;
    }

-- Where each image reaches to the place of a write, the write leaves what stands before that place as one of them has it.
pub front_left : (d : Disk) (at : ℕ) (bytes : List ℕ) (done : Bool) (image : List ℕ) → IsImage d d.reads → ((before : List ℕ) → IsImage d before → at ≤ length before) → IsImage (after_call d (Writes at bytes done)) image → (before : List ℕ) × IsImage d before × (take at image ≡ take at before) × (at ≤ length image)
front_left d at bytes done image reads long left =
    let h = of_write d at bytes done image left in
    let synced = long (take (length d.synced) d.reads) (shortest d reads) in
    let synced_len = length-take (length d.synced) d.reads in
    let reads_long = long d.reads reads in
    let shorter = h.no_shorter in
    let image_long : at ≤ length image = omega arith in
    let front_len = length-take at image in
    let front_is : length (take at image) ≡ at = omega arith in
    let back_len = length-drop at d.reads in
    let whole_len = length-append (take at image) (drop at d.reads) in
    let reads_shorter = reads.no_shorter in (
      take at image ++ drop at d.reads,
      record {
        are_bytes = bytes_append (take at image) (drop at d.reads) (bytes_take at image h.are_bytes) (bytes_drop at d.reads reads.are_bytes);
        no_shorter = omega arith;
        no_longer = omega arith;
        kept = λ i inside out. elim (cases_lt i at) [
          | inl less ↦ get_or-append (take at image) (drop at d.reads) 0 i (omega arith) ∙ get_or-take at image i 0 less ∙ h.kept i inside (still_unwritten d at (length bytes) i out (before_range at (length bytes) i less))
          | inr more ↦ get_or-append_right (take at image) (drop at d.reads) at i 0 front_is more ∙ get_or-drop at d.reads (i - at) 0 ∙ ap (λ k. slice_index d.reads k) (omega arith) ∙ reads.kept i inside out
        ];
      },
      sym (ap (λ n. take n (take at image ++ drop at d.reads)) (sym front_is) ∙ take-append_seam (take at image) (drop at d.reads)),
      image_long,
    )

-- a list with the place `at` by itself
abbrev pub split_at : ℕ → ℕ → List ℕ → List ℕ
split_at at byte image = take at image ++ byte ∷ drop (suc at) image

pub split : (at : ℕ) (image : List ℕ) → at < length image → image ≡ split_at at (slice_index image at) image
split at image inside = sym (take-append-drop at image) ∙ ap (λ xs. take at image ++ xs) (drop-cons image at 0 inside)

length-split_at : (at byte : ℕ) (image : List ℕ) → at < length image → length (split_at at byte image) ≡ length image
length-split_at at byte image inside =
    let whole = length-append (take at image) (byte ∷ drop (suc at) image) in
    let front = length-take at image in
    let back = length-drop (suc at) image in
    omega arith

front_is : (at : ℕ) (image : List ℕ) → at < length image → length (take at image) ≡ at
front_is at image inside = let len = length-take at image in omega arith

front_of_split : (at byte : ℕ) (image : List ℕ) → at < length image → take at (split_at at byte image) ≡ take at image
front_of_split at byte image inside =
    ap (λ n. take n (split_at at byte image)) (sym (front_is at image inside)) ∙ take-append_seam (take at image) (byte ∷ drop (suc at) image)

back_of_split : (at byte : ℕ) (image : List ℕ) → at < length image → drop (suc at) (split_at at byte image) ≡ drop (suc at) image
back_of_split at byte image inside =
    let place : suc at ≡ length (take at image) + 1 = (let len = length-take at image in omega arith) in
    ap (λ n. drop n (split_at at byte image)) place ∙ drop-append-add (take at image) (byte ∷ drop (suc at) image) 1

get_of_split : (at byte : ℕ) (image : List ℕ) (i : ℕ) → at < length image → (slice_index (split_at at byte image) at ≡ byte) × (i < at → slice_index (split_at at byte image) i ≡ slice_index image i) × (at < i → slice_index (split_at at byte image) i ≡ slice_index image i)
get_of_split at byte image i inside =
    let len = front_is at image inside in (
      ap (λ n. slice_index (split_at at byte image) n) (sym len) ∙ get_or-append_seam (take at image) byte (drop (suc at) image) 0,
      λ less. get_or-append (take at image) (byte ∷ drop (suc at) image) 0 i (omega arith) ∙ get_or-take at image i 0 less,
      λ more. (let place : i - at ≡ suc (i - suc at) = omega arith in
          get_or-append_right (take at image) (byte ∷ drop (suc at) image) at i 0 len (omega arith)
          ∙ ap (λ k. slice_index (byte ∷ drop (suc at) image) k) place
          ∙ get_or-drop (suc at) image (i - suc at) 0
          ∙ ap (λ k. slice_index image k) (omega arith)),
    )

-- with the byte at the place of a write as it was, what the write leaves was possible before
byte_back : (d : Disk) (at byte : ℕ) (image : List ℕ) → IsImage d d.reads → at < length d.reads → at < length image → length image ≤ length d.reads → IsImage (after_write at (byte ∷ []) d) image → IsImage d (split_at at (slice_index d.reads at) image)
byte_back d at byte image reads place inside len h =
    let whole = length-split_at at (slice_index d.reads at) image inside in
    let shorter = h.no_shorter in
    record {
      are_bytes = λ i. elim (cases_lt i at) [
        | inl less ↦ subst (λ n. n < 256) (sym ((get_of_split at (slice_index d.reads at) image i inside).1 less)) (h.are_bytes i)
        | inr more ↦ elim (cases_lt at i) [
          | inl after ↦ subst (λ n. n < 256) (sym ((get_of_split at (slice_index d.reads at) image i inside).2 after)) (h.are_bytes i)
          | inr not_after ↦ (let here : at ≡ i = omega arith in subst (λ k. slice_index (split_at at (slice_index d.reads at) image) k < 256) here (subst (λ n. n < 256) (sym (get_of_split at (slice_index d.reads at) image i inside).0) (reads.are_bytes at)))
        ]
      ];
      no_shorter = omega arith;
      no_longer = omega arith;
      kept = λ i in_file out. elim (cases_lt i at) [
        | inl less ↦ (get_of_split at (slice_index d.reads at) image i inside).1 less ∙ h.kept i in_file (still_unwritten d at 1 i out (before_range at 1 i less))
        | inr more ↦ elim (cases_lt at i) [
          | inl after ↦ (get_of_split at (slice_index d.reads at) image i inside).2 after ∙ h.kept i in_file (still_unwritten d at 1 i out (behind_range at 1 i (omega arith)))
          | inr not_after ↦ (let here : at ≡ i = omega arith in subst (λ k. slice_index (split_at at (slice_index d.reads at) image) k ≡ slice_index d.synced i) here ((get_of_split at (slice_index d.reads at) image i inside).0 ∙ ap (λ k. slice_index d.reads k) here ∙ reads.kept i in_file out))
        ]
      ];
    }

length-write_byte : (at byte : ℕ) (file : List ℕ) → at < length file → length (write_at at (byte ∷ []) file) ≡ length file
length-write_byte at byte file place =
    let whole = length-append (take at file) (byte ∷ drop (at + 1) file) in
    let front = length-take at file in
    let back = length-drop (at + 1) file in
    omega arith

-- Where a crash can leave only what reads give, a write of one byte within the file leaves that but for the byte.
pub one_byte : (d : Disk) (at byte : ℕ) (done : Bool) (image : List ℕ) → IsImage d d.reads → ((before : List ℕ) → IsImage d before → before ≡ d.reads) → at < length d.reads → IsImage (after_call d (Writes at (byte ∷ []) done)) image → image ≡ take at d.reads ++ slice_index image at ∷ drop (suc at) d.reads
one_byte d at byte done image reads only place left =
    let h = of_write d at (byte ∷ []) done image left in
    let short = ap (λ xs. length xs) (only (take (length d.synced) d.reads) (shortest d reads)) in
    let short_len = length-take (length d.synced) d.reads in
    let shorter = h.no_shorter in
    let longer = h.no_longer in
    let written_len = length-write_byte at byte d.reads place in
    let inside : at < length image = omega arith in
    let same = only (split_at at (slice_index d.reads at) image) (byte_back d at byte image reads place inside (omega arith) h) in
    let front = sym (front_of_split at (slice_index d.reads at) image inside) ∙ ap (λ xs. take at xs) same in
    let back = sym (back_of_split at (slice_index d.reads at) image inside) ∙ ap (λ xs. drop (suc at) xs) same in
    split at image inside
    ∙ ap (λ xs. xs ++ slice_index image at ∷ drop (suc at) image) front
    ∙ ap (λ xs. take at d.reads ++ slice_index image at ∷ xs) back
