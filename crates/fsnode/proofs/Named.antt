-- Of bytes that are an fsnode, the entry that is found under a name is the fsnode's.
use Rattle.std.proofs.Common.{◌≡◌, ℕ, List, [], ◌∷◌, length, refl, sym, ap, ◌∙◌}
use Rattle.std.specs.Prelude.{None, Result, Ok, Err}
use Rattle.std.specs.Ordering.{nat_cmp}
use Rattle.std.specs.Cmp.Lexicographic.{slice_cmp}
use Rattle.std.specs.FinMap.{find as find_key}
use Rattle.std.specs.Int.{w32}
use Rattle.byte_fields.specs.Reading.{and_then, any, exactly, number, value, ◌>>=◌}
use Rattle.manifest_model.specs.Fsnode.{FsEntry, Fsnode, Summary}
use Rattle.manifest_model.specs.NodeReading.{entries, fs_entry, fsnode_fields, fsnode_of, summary}
use Rattle.node_fields.proofs.Named.{fine, read_named, same_ok, then_read, whole_read}
use Rattle.fsnode.specs.Lookup.{entry_count, entry_named, named_behind}

-- the parts of what was read
record IsRead (bytes : List ℕ) (n : Fsnode) : Type 0 where
  count : ℕ
  behind : List ℕ
  rest : List ℕ
  counted : entry_count bytes ≡ Ok (count, behind)
  listed : entries fs_entry count None behind ≡ Ok (n.entries, rest)

parts : (bytes : List ℕ) (n : Fsnode) → fsnode_of bytes ≡ Ok n → IsRead bytes n
parts bytes n h =
    let all = whole_read (length bytes) (fsnode_fields bytes) n h in
    let mark = then_read (exactly (0x46 ∷ []) bytes) (λ _. exactly (1 ∷ []) >>= λ _. summary >>= λ s. number w32 any >>= λ count. entries fs_entry count None >>= λ es. value (record { summary = s; entries = es })) (n, all.0) all.1 in
    let version = then_read (exactly (1 ∷ []) mark.0.1) (λ _. summary >>= λ s. number w32 any >>= λ count. entries fs_entry count None >>= λ es. value (record { summary = s; entries = es })) (n, all.0) mark.2 in
    let sums = then_read (summary version.0.1) (λ s. number w32 any >>= λ count. entries fs_entry count None >>= λ es. value (record { summary = s; entries = es })) (n, all.0) version.2 in
    let count = then_read (number w32 any sums.0.1) (λ count. entries fs_entry count None >>= λ es. value (record { summary = sums.0.0; entries = es })) (n, all.0) sums.2 in
    let es = then_read (entries fs_entry count.0.0 None count.0.1) (λ es. value (record { summary = sums.0.0; entries = es })) (n, all.0) count.2 in
    record {
      count = count.0.0;
      behind = count.0.1;
      rest = es.0.1;
      counted =
          ap (λ a. and_then a (λ _. exactly (1 ∷ []) >>= λ _. summary >>= λ s. number w32 any)) mark.1
          ∙ ap (λ a. and_then a (λ _. summary >>= λ s. number w32 any)) version.1
          ∙ ap (λ a. and_then a (λ s. number w32 any)) sums.1
          ∙ count.1;
      listed = es.1 ∙ ap (λ xs. Ok (xs, es.0.1)) (are sums.0.0 es.0.0 n es.0.1 all.0 es.2);
    }
  where
    are : (s : Summary) (es : List (List ℕ × FsEntry)) (n : Fsnode) (a b : List ℕ) → fine {A = Fsnode × List ℕ} (record { summary = s; entries = es }, a) ≡ fine {A = Fsnode × List ℕ} (n, b) → es ≡ n.entries
    are s es n a b e = ap (λ (p : Fsnode × List ℕ). p.0.entries) (same_ok (record { summary = s; entries = es }, a) (n, b) e)

pub found_in : (bytes m : List ℕ) (n : Fsnode) → fsnode_of bytes ≡ Ok n → entry_named bytes m ≡ find_key (slice_cmp nat_cmp) m n.entries
found_in bytes m n h =
    let p = parts bytes n h in
    ap (λ a. named_behind a m) p.counted ∙ read_named fs_entry p.count m None p.behind n.entries p.rest p.listed
