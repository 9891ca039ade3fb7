-- The first byte of a node, by which a directory's is told from a file's.
--     IsMarked m bytes      the bytes begin with it
--     fs_marked, unode_marked, deleted_marked      so it is with what is read as a node of each kind
--     not_file      what begins with another is no unode of a file
use Rattle.std.proofs.Common.{◌≡◌, ℕ, Bool, true, false, cond, List, [], ◌∷◌, length, refl, sym, ap, ◌∙◌}
use Rattle.std.specs.Prelude.{Option, None, Some, Result, Ok, Err, ◌||◌, ◌==◌, bytes_eq, nat_le}
use Rattle.std.specs.Option.{option_map_or}
use Rattle.std.proofs.lemmas.Bool.{eqb-true}
use Rattle.std.proofs.lemmas.Slice.Eq.{bytes_eq-Decides}
use Rattle.byte_fields.specs.Reading.{and_then, exactly}
use Rattle.manifest_model.specs.NodeReading.{unode_of}
use Rattle.fsnode.specs.Lookup.{entry_count as fs_count}
use Rattle.unode.specs.Lookup.{entry_count as unode_count, manifest_count, no_entries}
use Rattle.unode.specs.Views.{file_in}
use Rattle.unode.proofs.FileMarks.{no_file}
use Rattle.deleted_node.specs.Lookup.{before_count, entry_count as deleted_count}
use Rattle.node_fields.proofs.Named.{then_read}

abbrev Bytes : Type 0
Bytes = List ℕ

pub record IsMarked (m : ℕ) (bytes : Bytes) : Type 0 where
  pub tail : Bytes
  pub is : bytes ≡ m ∷ tail

-- ---- the byte that was read

abbrev one_read : {A : Type 0} → Bytes → ℕ → Bool → Option A → Result (A × Bytes) ℕ
one_read rest len fits o = option_map_or (λ x. Ok (x, rest)) (cond fits o None) (Err len)

same_first : (m b : ℕ) → bytes_eq (m ∷ []) (b ∷ []) ≡ true → b ≡ m
same_first m b h = let same = (bytes_eq-Decides (m ∷ []) (b ∷ [])).0 h in cc

marked_by : (m : ℕ) (bytes : Bytes) (p : Bytes × Bytes) → exactly (m ∷ []) bytes ≡ Ok p → IsMarked m bytes
marked_by m [] p h = absurd (cc)
marked_by m (b ∷ bs) p h = by (nat_le 1 (length (b ∷ bs))) (bytes_eq (m ∷ []) (b ∷ [])) refl h
  where
    by : (fits t : Bool) → bytes_eq (m ∷ []) (b ∷ []) ≡ t → one_read bs (length (b ∷ bs)) fits (cond t (Some (b ∷ [])) None) ≡ Ok p → IsMarked m (b ∷ bs)
    by true true e g = record { tail = bs; is = ap (λ x. x ∷ bs) (same_first m b e) }
    by true false e g = absurd (cc)
    by false t e g = absurd (cc)

pub fs_marked : (bytes : Bytes) (p : ℕ × Bytes) → fs_count bytes ≡ Ok p → IsMarked 0x46 bytes
fs_marked bytes p h = let q = then_read (exactly (0x46 ∷ []) bytes) _ p h in marked_by 0x46 bytes q.0 q.1

pub deleted_marked : (bytes : Bytes) (p : ℕ × Bytes) → deleted_count bytes ≡ Ok p → IsMarked 0x44 bytes
deleted_marked bytes p h =
    let l = then_read (before_count bytes) _ p h in
    let q = then_read (exactly (0x44 ∷ []) bytes) _ l.0 l.1 in
    marked_by 0x44 bytes q.0 q.1

unode_by : (b : ℕ) (bs : Bytes) (p : ℕ × Bytes) (t : Bool) → (b == 0x55) ≡ t → cond t manifest_count no_entries bs ≡ Ok p → IsMarked 0x55 (b ∷ bs)
unode_by b bs p true e h = record { tail = bs; is = ap (λ x. x ∷ bs) (eqb-true b 0x55 e) }
unode_by b bs p false e h = absurd (cc)

pub unode_marked : (bytes : Bytes) (p : ℕ × Bytes) → unode_count bytes ≡ Ok p → IsMarked 0x55 bytes
unode_marked [] p h = absurd (cc)
unode_marked (b ∷ bs) p h = by (nat_le 1 (length (b ∷ bs))) (b == 0x55 || b == 0x56) h
  where
    by : (fits t : Bool) → and_then (one_read bs (length (b ∷ bs)) fits (cond t (Some b) None)) (λ mark. cond (mark == 0x55) manifest_count no_entries) ≡ Ok p → IsMarked 0x55 (b ∷ bs)
    by true true g = unode_by b bs p (b == 0x55) refl g
    by true false g = absurd (cc)
    by false t g = absurd (cc)

-- ---- another one

none_read : {A : Type 0} (rest : Bytes) (len : ℕ) (fits : Bool) → one_read {A = A} rest len fits None ≡ Err len
none_read rest len true = refl
none_read rest len false = refl

not_these : (a m : ℕ) (tail : Bytes) → bytes_eq (a ∷ []) (m ∷ []) ≡ false → exactly (a ∷ []) (m ∷ tail) ≡ Err (length (m ∷ tail))
not_these a m tail other =
    ap (λ t. one_read tail (length (m ∷ tail)) (nat_le 1 (length (m ∷ tail))) (cond t (Some (m ∷ [])) None)) other
    ∙ none_read tail (length (m ∷ tail)) (nat_le 1 (length (m ∷ tail)))

pub not_file : (m : ℕ) (bytes : Bytes) → IsMarked m bytes → bytes_eq (0x56 ∷ []) (m ∷ []) ≡ false → None ≡ file_in (unode_of bytes)
not_file m bytes marked other = sym (no_file bytes (length (m ∷ marked.tail)) (ap (exactly (0x56 ∷ [])) marked.is ∙ not_these 0x56 m marked.tail other))
