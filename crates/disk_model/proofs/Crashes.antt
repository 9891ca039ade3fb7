-- What a crash may leave: what reads give is among it, and after a sync there is nothing else.
use Rattle.std.proofs.Common.{◌≡◌, ℕ, ◌+◌, ◌-◌, ◌<◌, ◌≤◌, Bool, true, false, ◌||◌, ◌&&◌, List, [], ◌∷◌, ◌++◌, length, take, drop, refl, sym, ap, subst, ◌∙◌, inl, inr, arith}
use Rattle.std.specs.Prelude.{slice_index, nat_le, nat_lt}
use Rattle.std.specs.List.{AllByRecursion}
use Rattle.std.proofs.lemmas.List.Folds.{list_any-append}
use Rattle.std.proofs.lemmas.List.{length-append, length-take, length-drop, get_or-append_right, get_or-take, get_or-drop, get_or_past, ext_get_or}
use Rattle.std.proofs.Math.ListN.{get_or-append}
use Rattle.std.proofs.lemmas.Bool.{cases_lt, le-leb, lt-ltb, and_from}
use mathlib.Core.Bool.{true≢false}
use Rattle.byte_fields.specs.Bytes.{IsBytes}
use Rattle.disk_model.specs.Images.{Disk, DiskCall, Writes, Syncs, IsCall, holding, write_at, marked, after_write, after_call, disks, is_written, IsImage}
use Rattle.byte_fields.proofs.Booleans.{neither as either_false}

pub write_at_len : (at : ℕ) (bytes file : List ℕ) → length file ≤ length (write_at at bytes file)
write_at_len at bytes file =
    let whole = length-append (take at file) (bytes ++ drop (at + length bytes) file) in
    let rest = length-append bytes (drop (at + length bytes) file) in
    let front = length-take at file in
    let back = length-drop (at + length bytes) file in
    omega arith

write_at_front : (at : ℕ) (bytes file : List ℕ) (i : ℕ) → i < length file → i < at → slice_index (write_at at bytes file) i ≡ slice_index file i
write_at_front at bytes file i in_file before =
    let front = length-take at file in
    let in_front : i < length (take at file) = omega arith in
    get_or-append (take at file) (bytes ++ drop (at + length bytes) file) 0 i in_front ∙ get_or-take at file i 0 before

write_at_back : (at : ℕ) (bytes file : List ℕ) (i : ℕ) → i < length file → at + length bytes ≤ i → slice_index (write_at at bytes file) i ≡ slice_index file i
write_at_back at bytes file i in_file after =
    let front = length-take at file in
    let len : length (take at file) ≡ at = omega arith in
    let behind : at ≤ i = omega arith in
    let behind_bytes : length bytes ≤ i - at = omega arith in
    let place : at + length bytes + (i - at - length bytes) ≡ i = omega arith in
    get_or-append_right (take at file) (bytes ++ drop (at + length bytes) file) at i 0 len behind
    ∙ get_or-append_right bytes (drop (at + length bytes) file) (length bytes) (i - at) 0 refl behind_bytes
    ∙ get_or-drop (at + length bytes) file (i - at - length bytes) 0
    ∙ ap (λ k. slice_index file k) place

-- ---- bytes

-- each of two lists is of bytes
pub bytes_append : (a b : List ℕ) → IsBytes a → IsBytes b → IsBytes (a ++ b)
bytes_append a b p q i = elim (cases_lt i (length a)) [
  | inl within ↦ subst (λ n. n < 256) (sym (get_or-append a b 0 i within)) (p i)
  | inr after ↦ subst (λ n. n < 256) (sym (get_or-append_right a b (length a) i 0 refl after)) (q (i - length a))
]

pub bytes_take : (n : ℕ) (a : List ℕ) → IsBytes a → IsBytes (take n a)
bytes_take n a p i = elim (cases_lt i n) [
  | inl within ↦ subst (λ n. n < 256) (sym (get_or-take n a i 0 within)) (p i)
  | inr after ↦ let len = length-take n a in subst (λ n. n < 256) (sym (get_or_past (take n a) i 0 (omega arith))) (omega arith)
]

pub bytes_drop : (n : ℕ) (a : List ℕ) → IsBytes a → IsBytes (drop n a)
bytes_drop n a p i = subst (λ n. n < 256) (sym (get_or-drop n a i 0)) (p (n + i))

pub bytes_written : (at : ℕ) (bytes file : List ℕ) → IsBytes bytes → IsBytes file → IsBytes (write_at at bytes file)
bytes_written at bytes file p q =
    bytes_append (take at file) (bytes ++ drop (at + length bytes) file) (bytes_take at file q)
    (bytes_append bytes (drop (at + length bytes) file) p (bytes_drop (at + length bytes) file q))

-- ---- ranges

abbrev pub covers : ℕ → ℕ → ℕ → Bool
covers at len i = nat_le at i && nat_lt i (at + len)

-- a place out of a write's range keeps its byte
pub untouched : (at : ℕ) (bytes file : List ℕ) (i : ℕ) → i < length file → covers at (length bytes) i ≡ false → slice_index (write_at at bytes file) i ≡ slice_index file i
untouched at bytes file i in_file out =
    elim (cases_lt i at) [
      | inl before ↦ write_at_front at bytes file i in_file before
      | inr from ↦ elim (cases_lt i (at + length bytes)) [
        | inl within ↦ absurd (true≢false (sym (and_from _ _ (le-leb at i from) (lt-ltb i (at + length bytes) within)) ∙ out))
        | inr after ↦ write_at_back at bytes file i in_file after
      ]
    ]

-- a place that isn't written once a range more is isn't in the range, and wasn't written before
pub not_marked : (d : Disk) (at len i : ℕ) → is_written (marked at len d) i ≡ false → (is_written d i ≡ false) × (covers at len i ≡ false)
not_marked d at len i h =
    let parts = either_false (is_written d i) (covers at len i || false) (sym (list_any-append (λ w. covers w.at w.len i) d.written (record { at = at; len = len } ∷ [])) ∙ h) in
    (parts.0, (either_false (covers at len i) false parts.1).0)

-- ---- images

-- no call but a sync takes away what a crash may leave
pub still_image_marked : (d : Disk) (at len : ℕ) (image : List ℕ) → IsImage d image → IsImage (marked at len d) image
still_image_marked d at len image h = record {
  are_bytes = h.are_bytes;
  no_shorter = h.no_shorter;
  no_longer = h.no_longer;
  kept = λ i in_file out. h.kept i in_file (not_marked d at len i out).0;
}

pub still_image_written : (d : Disk) (at : ℕ) (bytes image : List ℕ) → IsImage d image → IsImage (after_write at bytes d) image
still_image_written d at bytes image h =
    let longer = write_at_len at bytes d.reads in
    let before = h.no_longer in
    record {
      are_bytes = h.are_bytes;
      no_shorter = h.no_shorter;
      no_longer = omega arith;
      kept = λ i in_file out. h.kept i in_file (not_marked d at (length bytes) i out).0;
    }

pub still_image : (d : Disk) (at : ℕ) (bytes : List ℕ) (done : Bool) (image : List ℕ) → IsImage d image → IsImage (after_call d (Writes at bytes done)) image
still_image d at bytes true image h = still_image_written d at bytes image h
still_image d at bytes false image h = still_image_marked d at (length bytes) image h

pub reads_holding : (file : List ℕ) → IsBytes file → IsImage (holding file) file
reads_holding file p = record { are_bytes = p; no_shorter = omega arith; no_longer = omega arith; kept = λ i in_file out. refl }

reads_written : (d : Disk) (at : ℕ) (bytes : List ℕ) → IsBytes bytes → IsImage d d.reads → IsImage (after_write at bytes d) (write_at at bytes d.reads)
reads_written d at bytes p h =
    let longer = write_at_len at bytes d.reads in
    let before = h.no_shorter in
    record {
      are_bytes = bytes_written at bytes d.reads p h.are_bytes;
      no_shorter = omega arith;
      no_longer = omega arith;
      kept = λ i in_file out. (let parts = not_marked d at (length bytes) i out in untouched at bytes d.reads i (omega arith) parts.1 ∙ h.kept i in_file parts.0);
    }

-- what reads give stays an image at each call
pub reads_after : (d : Disk) (call : DiskCall) → IsCall call → IsImage d d.reads → IsImage (after_call d call) (after_call d call).reads
reads_after d (Writes at bytes true) p h = reads_written d at bytes p h
reads_after d (Writes at bytes false) p h = still_image_marked d at (length bytes) d.reads h
reads_after d (Syncs true) p h = reads_holding d.reads h.are_bytes
reads_after d (Syncs false) p h = h

reads_from : (d : Disk) (calls : List DiskCall) → AllByRecursion IsCall calls → IsImage d d.reads → AllByRecursion (λ d. IsImage d d.reads) (disks d calls)
reads_from d [] p h = (h, tt)
reads_from d (call ∷ calls) p h = (h, reads_from (after_call d call) calls p.1 (reads_after d call p.0 h))

-- at each moment what reads give may be left
pub reads_are_images : (file : List ℕ) (calls : List DiskCall) → IsBytes file → AllByRecursion IsCall calls → AllByRecursion (λ d. IsImage d d.reads) (disks (holding file) calls)
reads_are_images file calls p q = reads_from (holding file) calls q (reads_holding file p)

-- after a sync nothing else may
pub only_reads : (d : Disk) (image : List ℕ) → IsImage (after_call d (Syncs true)) image → image ≡ d.reads
only_reads d image h =
    let shorter = h.no_shorter in
    let longer = h.no_longer in
    sym (ext_get_or 0 d.reads image (omega arith) (λ i in_file. sym (h.kept i in_file refl)))
