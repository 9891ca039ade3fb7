-- What readers of nodes read they read whatever follows.
--     on_fs_entry, on_unode_entry, on_id      the entries of each kind of nodes
--     on_fs_count, on_unode_count, on_deleted_count, on_link      and what stands before them
use Rattle.std.proofs.Common.{◌≡◌, ℕ, zero, suc, Bool, true, false, cond, List, [], ◌∷◌, ◌++◌, length, refl, ap, ◌∙◌}
use Rattle.std.specs.Prelude.{None, Some, Result, Ok, Err, nat_lt, ◌||◌, ◌==◌}
use Rattle.std.specs.Int.{w8, w32, w64}
use Rattle.byte_fields.specs.Reading.{Reader, value, ◌>>=◌, any, as_one, exactly, id, number, one_field, times}
use Rattle.byte_fields.proofs.Places.{KeepsPlaces, keeps_exactly, keeps_id, keeps_number, keeps_times, keeps_value, reads_both}
use Rattle.changeset_model.proofs.Places.{keeps_file}
use Rattle.history_model.specs.Payload.{flagged, optional}
use Rattle.manifest_model.specs.Fsnode.{Summary, FsFile, FsDir}
use Rattle.manifest_model.specs.NodeReading.{fs_entry, fs_entry_of, node_parents, one_unode_entry, summary, unode_entry_for}
use Rattle.fsnode.specs.Lookup.{entry_count as fs_count}
use Rattle.unode.specs.Lookup.{entry_count as unode_count, manifest_count, no_entries}
use Rattle.deleted_node.specs.Lookup.{before_count, entry_count as deleted_count}
use Rattle.node_fields.proofs.Named.{then_read}
use Rattle.node_parts.specs.Parts.{ReadsOn}

abbrev Bytes : Type 0
Bytes = List ℕ

-- ---- readers that are put together

on_of : {X : Type 0} (c : ℕ) (r : Reader X) → KeepsPlaces c r → ReadsOn r
on_of c r keeps = keeps.reads

on_then : {X Y : Type 0} (r : Reader X) (f : X → Reader Y) → ReadsOn r → ((x : X) → ReadsOn (f x)) → ReadsOn (r >>= f)
on_then r f first later bytes y rest h =
    let p = then_read (r bytes) f (y, rest) h in
    reads_both r f bytes p.0.0 p.0.1 y rest (first bytes p.0.0 p.0.1 p.1) (later p.0.0 p.0.1 y rest p.2)

on_last : {X Y : Type 0} (r : Reader X) (f : X → Y) → ReadsOn r → ReadsOn (r >>= λ x. value (f x))
on_last r f first = on_then r (λ x. value (f x)) first (λ x. on_of 0 (value (f x)) (keeps_value 0 (f x)))

was_one : {X : Type 0} (r : Reader X) (bytes : Bytes) (x : X) (rest : Bytes) → one_field r bytes ≡ Ok (x, rest) → r bytes ≡ Ok (x, rest)
was_one {X = X} r bytes x rest h = by (r bytes) refl h
  where
    by : (a : Result (X × Bytes) ℕ) → r bytes ≡ a → as_one (length bytes) a ≡ Ok (x, rest) → r bytes ≡ Ok (x, rest)
    by (Ok p) e g = e ∙ g
    by (Err left) e g = absurd (cc)

on_one : {X : Type 0} (r : Reader X) → ReadsOn r → ReadsOn (one_field r)
on_one r on bytes x rest h =
    let q = on bytes x rest (was_one r bytes x rest h) in
    record { front = q.front; parts = q.parts; stands = λ other. ap (as_one (length (q.front ++ other))) (q.stands other) }

on_either : {X : Type 0} (b : Bool) (r s : Reader X) → ReadsOn r → ReadsOn s → ReadsOn (cond b r s)
on_either true r s one two = one
on_either false r s one two = two

-- ---- entries

abbrev made : ℕ → ℕ → ℕ → ℕ → ℕ → Summary
made files size dirs all_files all_size = record { child_files_count = files; child_files_total_size = size; child_dirs_count = dirs; descendant_files_count = all_files; descendant_files_total_size = all_size }

a_number : ReadsOn (number w64 any)
a_number = on_of 0 (number w64 any) (keeps_number 0 w64 any)

a_count : ReadsOn (number w32 any)
a_count = on_of 0 (number w32 any) (keeps_number 0 w32 any)

a_byte : (rule : ℕ → Bool) → ReadsOn (number w8 rule)
a_byte rule = on_of 0 (number w8 rule) (keeps_number 0 w8 rule)

pub on_id : ReadsOn id
on_id = on_of 0 id (keeps_id 0)

these : (bytes : Bytes) → ReadsOn (exactly bytes)
these bytes = on_of 0 (exactly bytes) (keeps_exactly 0 bytes)

on_summary : ReadsOn summary
on_summary =
    on_one _ (on_then (number w64 any) _ a_number (λ a. on_then (number w64 any) _ a_number (λ b. on_then (number w64 any) _ a_number (λ c. on_then (number w64 any) _ a_number (λ d.
    on_last (number w64 any) (λ e. made a b c d e) a_number)))))

pub on_fs_entry : ReadsOn fs_entry
on_fs_entry = on_then (number w8 (λ n. nat_lt n 2)) fs_entry_of (a_byte (λ n. nat_lt n 2)) by
  where
    by : (tag : ℕ) → ReadsOn (fs_entry_of tag)
    by zero = on_last _ (λ f. FsFile f) (on_of 0 _ (keeps_file 0 any))
    by (suc n) = on_then id _ on_id (λ x. on_last summary (λ s. FsDir x s) on_summary)

pub on_unode_entry : ReadsOn one_unode_entry
on_unode_entry = on_then (number w8 (λ n. nat_lt n 2)) _ (a_byte (λ n. nat_lt n 2)) (λ tag. on_last id (λ x. unode_entry_for tag x) on_id)

-- ---- what stands before entries

pub on_fs_count : ReadsOn fs_count
on_fs_count = on_then (exactly (0x46 ∷ [])) _ (these (0x46 ∷ [])) (λ mark. on_then (exactly (1 ∷ [])) _ (these (1 ∷ [])) (λ version. on_then summary _ on_summary (λ s. a_count)))

on_parents : ReadsOn node_parents
on_parents = on_then (exactly (1 ∷ [])) _ (these (1 ∷ [])) (λ version. on_then (number w8 (λ n. nat_lt n 3)) _ (a_byte (λ n. nat_lt n 3)) (λ count. on_of 0 (times count id) (keeps_times 0 count (keeps_id 0))))

on_manifest : ReadsOn manifest_count
on_manifest = on_then node_parents _ on_parents (λ parents. on_then id _ on_id (λ linknode. a_count))

on_none : ReadsOn no_entries
on_none bytes x rest h = absurd (cc)

pub on_unode_count : ReadsOn unode_count
on_unode_count = on_then (number w8 (λ n. n == 0x55 || n == 0x56)) _ (a_byte (λ n. n == 0x55 || n == 0x56)) (λ mark. on_either (mark == 0x55) manifest_count no_entries on_manifest on_none)

on_flagged : (n : ℕ) → ReadsOn (flagged n)
on_flagged zero = on_of 0 (value None) (keeps_value 0 None)
on_flagged (suc n) = on_last id (λ x. Some x) on_id

on_optional : ReadsOn optional
on_optional = on_one _ (on_then (number w8 (λ n. nat_lt n 2)) flagged (a_byte (λ n. nat_lt n 2)) on_flagged)

pub on_link : ReadsOn before_count
on_link = on_then (exactly (0x44 ∷ [])) _ (these (0x44 ∷ [])) (λ mark. on_then (exactly (1 ∷ [])) _ (these (1 ∷ [])) (λ version. on_optional))

pub on_deleted_count : ReadsOn deleted_count
on_deleted_count = on_then before_count _ on_link (λ link. a_count)
