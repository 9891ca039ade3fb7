-- A disk in memory and the model of its images: each call does to one what it does to the other.
use Rattle.std.proofs.Common.{◌≡◌, ℕ, zero, suc, ◌+◌, ◌-◌, ◌<◌, ◌≤◌, min, Bool, true, false, ◌||◌, ◌&&◌, ◌⊎◌, List, [], ◌∷◌, ◌++◌, length, take, drop, replicate, get_or, refl, sym, ap, subst, ◌∙◌, inl, inr, arith, cond}
use Rattle.std.specs.Prelude.{slice_index, nat_le, nat_lt}
use Rattle.std.specs.List.{list_any}
use Rattle.std.proofs.lemmas.List.Folds.{list_any-append}
use Rattle.std.proofs.lemmas.List.{length-append, length-take, length-drop, length-replicate, get_or-append_right, get_or-take, get_or-drop, get_or-replicate, get_or_past, take_all}
use Rattle.std.proofs.Math.ListN.{get_or-append}
use Rattle.std.proofs.lemmas.Bool.{cases_lt, lt-ltb}
use Rattle.std.proofs.lemmas.Bool.Decides.{nat_tests}
use Rattle.byte_fields.specs.Bytes.{IsBytes}
use Rattle.disk_model.specs.Images.{Range, Disk, Writes, Syncs, IsImage, holding, write_at, marked, after_write, is_written}
use Rattle.disk_model.proofs.Crashes.{covers, not_marked, untouched, write_at_len, bytes_written, still_image_marked}
use Rattle.disk_model.specs.Calls.{Within, DidBy}
use Rattle.blob_disk.specs.MemMeaning.{IsCrashed}
use Rattle.blob_disk.specs.Memory.{Memory, IsGood, holding_all, marked_in, tore, wrote, synced, after, ranges, disk_of}
use Rattle.byte_fields.proofs.Booleans.{or_false}

-- ---- marks and ranges

abbrev covers_at : ℕ → Range → Bool
covers_at i w = nat_le w.at i && nat_lt i (w.at + w.len)

one_place : (k : ℕ) → covers_at k (record { at = k; len = 1 }) ≡ true
one_place k = grind (arith, nat_tests)

not_before : (k i : ℕ) → i < k → covers_at i (record { at = k; len = 1 }) ≡ false
not_before k i less = grind (arith, nat_tests)

not_after : (k j : ℕ) → covers_at (suc k + j) (record { at = k; len = 1 }) ≡ false
not_after k j = grind (arith, nat_tests)

none_before : (marks : List Bool) (k i : ℕ) → i < k → list_any (covers_at i) (ranges k marks) ≡ false
none_before [] k i less = refl
none_before (true ∷ marks) k i less = ap (λ b. b || list_any (covers_at i) (ranges (suc k) marks)) (not_before k i less) ∙ none_before marks (suc k) i (omega arith)
none_before (false ∷ marks) k i less = none_before marks (suc k) i (omega arith)

any_range : (marks : List Bool) (k j : ℕ) → list_any (covers_at (k + j)) (ranges k marks) ≡ get_or marks j false
any_range [] k j = refl
any_range (true ∷ marks) k zero =
    let place : k + 0 ≡ k = omega arith in
    ap (λ i. covers_at i (record { at = k; len = 1 }) || list_any (covers_at i) (ranges (suc k) marks)) place ∙ ap (λ b. b || list_any (covers_at k) (ranges (suc k) marks)) (one_place k)
any_range (false ∷ marks) k zero =
    let place : k + 0 ≡ k = omega arith in
    ap (λ i. list_any (covers_at i) (ranges (suc k) marks)) place ∙ none_before marks (suc k) k (omega arith)
any_range (true ∷ marks) k (suc j) =
    let place : k + suc j ≡ suc k + j = omega arith in
    ap (λ i. covers_at i (record { at = k; len = 1 }) || list_any (covers_at i) (ranges (suc k) marks)) place
    ∙ ap (λ b. b || list_any (covers_at (suc k + j)) (ranges (suc k) marks)) (not_after k j)
    ∙ any_range marks (suc k) j
any_range (false ∷ marks) k (suc j) =
    let place : k + suc j ≡ suc k + j = omega arith in
    ap (λ i. list_any (covers_at i) (ranges (suc k) marks)) place ∙ any_range marks (suc k) j

pub is_written-disk_of : (m : Memory) (i : ℕ) → is_written (disk_of m) i ≡ get_or m.marks i false
is_written-disk_of m i =
    let place : 0 + i ≡ i = omega arith in
    ap (λ k. list_any (covers_at k) (ranges 0 m.marks)) (sym place) ∙ any_range m.marks 0 i

span_before : (b : Bool) (from to i : ℕ) → i < from → (b || (nat_le from i && nat_lt i to)) ≡ b
span_before true from to i less = refl
span_before false from to i less = grind (arith, nat_tests)

span_at : (b : Bool) (from to i : ℕ) → from ≤ i → i < to → (b || (nat_le from i && nat_lt i to)) ≡ true
span_at true from to i after within = refl
span_at false from to i after within = grind (arith, nat_tests)

span_behind : (b : Bool) (from to i : ℕ) → to ≤ i → (b || (nat_le from i && nat_lt i to)) ≡ b
span_behind true from to i behind = refl
span_behind false from to i behind = grind (arith, nat_tests)

pub get-marked_in : (from to : ℕ) (marks : List Bool) (i : ℕ) → from ≤ to → to ≤ length marks → get_or (marked_in from to marks) i false ≡ (get_or marks i false || (nat_le from i && nat_lt i to))
get-marked_in from to marks i ordered inside =
    let front = length-take from marks in
    let mid = length-replicate (to - from) true in
    let front_len : length (take from marks) ≡ from = omega arith in
    let rest = replicate (to - from) true ++ drop to marks in
    elim (cases_lt i from) [
      | inl before ↦ get_or-append (take from marks) rest false i (omega arith) ∙ get_or-take from marks i false before ∙ sym (span_before (get_or marks i false) from to i before)
      | inr after ↦ get_or-append_right (take from marks) rest from i false front_len after ∙ elim (cases_lt i to) [
        | inl within ↦ get_or-append (replicate (to - from) true) (drop to marks) false (i - from) (omega arith) ∙ get_or-replicate (to - from) (i - from) true false (omega arith) ∙ sym (span_at (get_or marks i false) from to i after within)
        | inr behind ↦ get_or-append_right (replicate (to - from) true) (drop to marks) (to - from) (i - from) false mid (omega arith) ∙ get_or-drop to marks (i - from - (to - from)) false ∙ ap (λ k. get_or marks k false) (omega arith) ∙ sym (span_behind (get_or marks i false) from to i behind)
      ]
    ]

-- no mark, no range
pub no_ranges : (n k : ℕ) → ranges k (replicate n false) ≡ []
no_ranges zero k = refl
no_ranges (suc n) k = no_ranges n (suc k)

-- ---- images

pub within : (d e : Disk) → length e.synced ≡ length d.synced → d.reads ≡ e.reads → ((i : ℕ) → i < length e.synced → is_written e i ≡ false → is_written d i ≡ false) → ((i : ℕ) → i < length e.synced → is_written e i ≡ false → slice_index d.synced i ≡ slice_index e.synced i) → Within d e
within d e len reads less same = record {
  reads = reads;
  images = λ image h. record {
    are_bytes = h.are_bytes;
    no_shorter = (let s = h.no_shorter in omega arith);
    no_longer = (let l = h.no_longer in let r = ap (λ xs. length xs) reads in omega arith);
    kept = λ i in_file out. h.kept i (omega arith) (less i in_file out) ∙ same i in_file out;
  };
}

leb-not : (n i : ℕ) → i < n → nat_le n i ≡ false
leb-not n i before = grind (arith, nat_tests)

small_either : (b : Bool) (x y : ℕ) → x < 256 → y < 256 → cond b x y < 256
small_either true x y p q = p
small_either false x y p q = q

pub ltb-not : (i n : ℕ) → n ≤ i → nat_lt i n ≡ false
ltb-not i n behind = grind (arith, nat_tests)

-- ---- calls

abbrev end_of : ℕ → ℕ → Memory → ℕ
end_of at len m = min (at + len) (length m.marks)

same_end : (at len room i : ℕ) → i < room → (nat_le at i && nat_lt i (min (at + len) room)) ≡ covers at len i
same_end at len room i inside = elim (cases_lt i (at + len)) [
  | inl within ↦ ap (λ b. nat_le at i && b) (lt-ltb i (min (at + len) room) (omega arith) ∙ sym (lt-ltb i (at + len) within))
  | inr behind ↦ ap (λ b. nat_le at i && b) (ltb-not i (min (at + len) room) (omega arith) ∙ sym (ltb-not i (at + len) behind))
]

-- in the model the range of a write that may have happened is marked
torn_marks : (at len : ℕ) (m : Memory) (i : ℕ) → IsGood m → at ≤ length m.reads → i < length m.marks → is_written (disk_of (tore at len m)) i ≡ is_written (marked at len (disk_of m)) i
torn_marks at len m i good place inside =
    let fits = good.fits in
    is_written-disk_of (tore at len m) i
    ∙ get-marked_in at (end_of at len m) m.marks i (omega arith) (omega arith)
    ∙ ap (λ b. get_or m.marks i false || b) (same_end at len (length m.marks) i inside)
    ∙ ap (λ b. b || covers at len i) (sym (is_written-disk_of m i))
    ∙ ap (λ b. is_written (disk_of m) i || b) (sym (or_false (covers at len i)))
    ∙ sym (list_any-append (λ w. covers w.at w.len i) (disk_of m).written (record { at = at; len = len } ∷ []))

in_marks : (m : Memory) (i : ℕ) → IsGood m → i < length (take m.stable m.reads) → (i < m.stable) × (i < length m.reads) × (i < length m.marks)
in_marks m i good inside =
    let len = length-take m.stable m.reads in
    let stable = good.stable in
    let fits = good.fits in
    (omega arith, omega arith, omega arith)

self : (d : Disk) → Within d d
self d = within d d refl refl (λ i in_file out. out) (λ i in_file out. refl)

-- the marks of a write that failed are the model's, and it takes nothing away
pub tore_did : (at : ℕ) (bytes : List ℕ) (m : Memory) → IsGood m → at ≤ length m.reads → DidBy (Writes at bytes false) (disk_of m) (disk_of (tore at (length bytes) m))
tore_did at bytes m good place =
    let marks = λ (i : ℕ) (inside : i < length (take m.stable m.reads)). torn_marks at (length bytes) m i good place (in_marks m i good inside).2 in
    record {
      most = within (disk_of (tore at (length bytes) m)) (marked at (length bytes) (disk_of m)) refl refl (λ i inside out. marks i inside ∙ out) (λ i inside out. refl);
      least = within (disk_of m) (disk_of (tore at (length bytes) m)) refl refl (λ i inside out. (not_marked (disk_of m) at (length bytes) i (sym (marks i inside) ∙ out)).0) (λ i inside out. refl);
    }

written_len : (at : ℕ) (bytes : List ℕ) (m : Memory) → IsGood m → length (take m.stable m.reads) ≡ length (take m.stable (write_at at bytes m.reads))
written_len at bytes m good =
    let longer = write_at_len at bytes m.reads in
    let stable = good.stable in
    let before = length-take m.stable m.reads in
    let after = length-take m.stable (write_at at bytes m.reads) in
    omega arith

-- a place that is stable and out of the range reads as it did
still_reads : (at : ℕ) (bytes : List ℕ) (m : Memory) (i : ℕ) → i < m.stable → i < length m.reads → covers at (length bytes) i ≡ false → slice_index (take m.stable (write_at at bytes m.reads)) i ≡ slice_index (take m.stable m.reads) i
still_reads at bytes m i stable inside out =
    get_or-take m.stable (write_at at bytes m.reads) i 0 stable
    ∙ untouched at bytes m.reads i inside out
    ∙ sym (get_or-take m.stable m.reads i 0 stable)

pub wrote_did : (at : ℕ) (bytes : List ℕ) (m : Memory) → IsGood m → at ≤ length m.reads → DidBy (Writes at bytes true) (disk_of m) (disk_of (wrote at bytes m))
wrote_did at bytes m good place =
    let marks = λ (i : ℕ) (inside : i < length (take m.stable m.reads)). torn_marks at (length bytes) m i good place (in_marks m i good inside).2 in
    let len = written_len at bytes m good in
    record {
      most = within (disk_of (wrote at bytes m)) (after_write at bytes (disk_of m)) len refl
          (λ i inside out. marks i inside ∙ out)
          (λ i inside out. (let here = in_marks m i good inside in still_reads at bytes m i here.0 here.1 (not_marked (disk_of m) at (length bytes) i out).1));
      least = within (after_write at bytes (disk_of m)) (disk_of (wrote at bytes m)) (sym len) refl
          (λ i inside out. sym (marks i (subst (λ n. i < n) (sym len) inside)) ∙ out)
          (λ i inside out. (let before = subst (λ n. i < n) (sym len) inside in let here = in_marks m i good before in sym (still_reads at bytes m i here.0 here.1 (not_marked (disk_of m) at (length bytes) i (sym (marks i before) ∙ out)).1)));
    }

pub disk_of-synced : (m : Memory) → disk_of (synced m) ≡ holding m.reads
disk_of-synced m =
    ap (λ file. let d : Disk = record { synced = file; reads = m.reads; written = ranges 0 (replicate (length m.marks) false) } in d) (take_all (length m.reads) m.reads (omega arith))
    ∙ ap (λ rs. let d : Disk = record { synced = m.reads; reads = m.reads; written = rs } in d) (no_ranges (length m.marks) 0)

pub synced_did : (m : Memory) → DidBy (Syncs true) (disk_of m) (disk_of (synced m))
synced_did m = record {
  most = subst (λ d. Within d (holding m.reads)) (sym (disk_of-synced m)) (self (holding m.reads));
  least = subst (λ d. Within (holding m.reads) d) (sym (disk_of-synced m)) (self (holding m.reads));
}

pub unsynced_did : (m : Memory) → DidBy (Syncs false) (disk_of m) (disk_of m)
unsynced_did m = record { most = self (disk_of m); least = self (disk_of m) }

-- a write that did nothing
pub refused_did : (at : ℕ) (bytes : List ℕ) (m : Memory) → DidBy (Writes at bytes false) (disk_of m) (disk_of m)
refused_did at bytes m = record {
  most = record { reads = refl; images = λ image h. still_image_marked (disk_of m) at (length bytes) image h };
  least = self (disk_of m);
}

-- ---- what a memory keeps

pub length-marked_in : (from to : ℕ) (marks : List Bool) → from ≤ to → to ≤ length marks → length (marked_in from to marks) ≡ length marks
length-marked_in from to marks ordered inside =
    let whole = length-append (take from marks) (replicate (to - from) true ++ drop to marks) in
    let back = length-append (replicate (to - from) true) (drop to marks) in
    let front = length-take from marks in
    let mid = length-replicate (to - from) true in
    let rest = length-drop to marks in
    omega arith

pub tore_len : (at len : ℕ) (m : Memory) → IsGood m → at ≤ length m.reads → length (tore at len m).marks ≡ length m.marks
tore_len at len m good place = let fits = good.fits in length-marked_in at (end_of at len m) m.marks (omega arith) (omega arith)

pub good_tore : (at len : ℕ) (m : Memory) → IsGood m → at ≤ length m.reads → IsGood (tore at len m)
good_tore at len m good place =
    let marks = tore_len at len m good place in
    let fits = good.fits in
    record { are_bytes = good.are_bytes; stable = good.stable; fits = omega arith }

length-write_at : (at : ℕ) (bytes file : List ℕ) → at ≤ length file → (length (write_at at bytes file) ≡ length file) ⊎ (length (write_at at bytes file) ≡ at + length bytes)
length-write_at at bytes file place =
    let whole = length-append (take at file) (bytes ++ drop (at + length bytes) file) in
    let rest = length-append bytes (drop (at + length bytes) file) in
    let front = length-take at file in
    let back = length-drop (at + length bytes) file in
    elim (cases_lt (at + length bytes) (length file)) [ inl less ↦ inl (omega arith) | inr more ↦ inr (omega arith) ]

pub good_wrote : (at : ℕ) (bytes : List ℕ) (m : Memory) → IsGood m → at ≤ length m.reads → IsBytes bytes → at + length bytes ≤ length m.marks → IsGood (wrote at bytes m)
good_wrote at bytes m good place are_bytes room =
    let marks = tore_len at (length bytes) m good place in
    let longer = write_at_len at bytes m.reads in
    let fits = good.fits in
    let stable = good.stable in
    record {
      are_bytes = bytes_written at bytes m.reads are_bytes good.are_bytes;
      stable = omega arith;
      fits = elim (length-write_at at bytes m.reads place) [ inl same ↦ omega arith | inr more ↦ omega arith ];
    }

pub good_holding_all : (bytes : List ℕ) (room : ℕ) → IsBytes bytes → length bytes ≤ room → IsGood (holding_all bytes room)
good_holding_all bytes room are_bytes fits =
    let marks = length-replicate room false in
    record { are_bytes = are_bytes; stable = omega arith; fits = omega arith }

-- a write that failed, as the record tells it: of its bytes it has only how many there were
pub tore_is : (at len : ℕ) (m : Memory) → tore at len m ≡ after m (Writes at (replicate len 0) false)
tore_is at len m = ap (λ n. tore at n m) (sym (length-replicate len 0))

-- what a crash leaves with one byte in all places that were written is one of the images
pub crashed_is_image : (fill : ℕ) (m : Memory) (left : List ℕ) → fill < 256 → IsGood m → IsCrashed fill m left → IsImage (disk_of m) left
crashed_is_image fill m left small good h =
    let len = length-take m.stable m.reads in
    let same = h.len in
    let stable = good.stable in
    record {
      are_bytes = λ i. elim (cases_lt i (length left)) [
        | inl inside ↦ subst (λ n. n < 256) (sym (h.each i inside)) (small_either (nat_le m.stable i || get_or m.marks i false) fill (slice_index m.reads i) small (good.are_bytes i))
        | inr past ↦ subst (λ n. n < 256) (sym (get_or_past left i 0 past)) (omega arith)
      ];
      no_shorter = omega arith;
      no_longer = omega arith;
      kept = λ i inside out.
          (let here : i < m.stable = omega arith in
          let unmarked : (nat_le m.stable i || get_or m.marks i false) ≡ false = ap (λ b. b || get_or m.marks i false) (leb-not m.stable i here) ∙ (sym (is_written-disk_of m i) ∙ out) in
          h.each i (omega arith) ∙ ap (λ b. cond b fill (slice_index m.reads i)) unmarked ∙ sym (get_or-take m.stable m.reads i 0 here));
    }

-- a write reaches to its end
pub reaches : (at : ℕ) (bytes file : List ℕ) → at ≤ length file → at + length bytes ≤ length (write_at at bytes file)
reaches at bytes file place =
    let whole = length-append (take at file) (bytes ++ drop (at + length bytes) file) in
    let rest = length-append bytes (drop (at + length bytes) file) in
    let front = length-take at file in
    omega arith
