-- Of bytes that are a unode, the entry that is found under a name is the unode's.
use Rattle.std.proofs.Common.{◌≡◌, ℕ, Bool, true, false, cond, List, [], ◌∷◌, length, refl, sym, ap, ◌∙◌}
use Rattle.std.specs.Prelude.{Option, None, Result, Ok, Err, ◌||◌, ◌==◌, nat_lt}
use Rattle.std.specs.Ordering.{nat_cmp}
use Rattle.std.specs.Cmp.Lexicographic.{slice_cmp}
use Rattle.std.specs.FinMap.{find as find_key}
use Rattle.std.specs.Int.{w8, w32}
use Rattle.byte_fields.specs.Bytes.{Id}
use Rattle.byte_fields.specs.Reading.{and_then, any, id, number, value, ◌>>=◌}
use Rattle.changeset_model.specs.Decoding.{kind_of}
use Rattle.manifest_model.specs.Unode.{FileUnode, Manifest, Unode, UnodeEntry}
use Rattle.manifest_model.specs.NodeReading.{entries, file_unode, manifest, node_parents, one_unode_entry, unode_fields, unode_of}
use Rattle.node_fields.proofs.Named.{fine, read_named, same_ok, then_read, whole_read}
use Rattle.unode.specs.Lookup.{entries_in, entry_named, manifest_count, named_behind, no_entries}

abbrev found : List ℕ → Unode → Option UnodeEntry
found m n = find_key (slice_cmp nat_cmp) m (entries_in n)

same_node : (m n : Unode) (a b : List ℕ) → fine {A = Unode × List ℕ} (m, a) ≡ fine {A = Unode × List ℕ} (n, b) → m ≡ n
same_node m n a b e = ap (λ (p : Unode × List ℕ). p.0) (same_ok (m, a) (n, b) e)

in_manifest : (bytes m rest : List ℕ) (n : Unode) → manifest bytes ≡ Ok (n, rest) → named_behind (manifest_count bytes) m ≡ found m n
in_manifest bytes m rest n h =
    let parents = then_read (node_parents bytes) (λ ps. id >>= λ l. number w32 any >>= λ count. entries one_unode_entry count None >>= λ es. value (Manifest ps l es)) (n, rest) h in
    let link = then_read (id parents.0.1) (λ l. number w32 any >>= λ count. entries one_unode_entry count None >>= λ es. value (Manifest parents.0.0 l es)) (n, rest) parents.2 in
    let count = then_read (number w32 any link.0.1) (λ count. entries one_unode_entry count None >>= λ es. value (Manifest parents.0.0 link.0.0 es)) (n, rest) link.2 in
    let es = then_read (entries one_unode_entry count.0.0 None count.0.1) (λ es. value (Manifest parents.0.0 link.0.0 es)) (n, rest) count.2 in
    ap (λ a. named_behind (and_then a (λ _. id >>= λ _. number w32 any)) m) parents.1
    ∙ ap (λ a. named_behind (and_then a (λ _. number w32 any)) m) link.1
    ∙ ap (λ a. named_behind a m) count.1
    ∙ read_named one_unode_entry count.0.0 m None count.0.1 es.0.0 es.0.1 es.1
    ∙ ap (found m) (same_node (Manifest parents.0.0 link.0.0 es.0.0) n es.0.1 rest es.2)

in_file : (bytes m rest : List ℕ) (n : Unode) → file_unode bytes ≡ Ok (n, rest) → None ≡ found m n
in_file bytes m rest n h =
    let parents = then_read (node_parents bytes) (λ ps. id >>= λ c. number w8 (λ k. nat_lt k 3) >>= λ k. id >>= λ p. id >>= λ l. value (FileUnode ps c (kind_of k) p l)) (n, rest) h in
    let content = then_read (id parents.0.1) (λ c. number w8 (λ k. nat_lt k 3) >>= λ k. id >>= λ p. id >>= λ l. value (FileUnode parents.0.0 c (kind_of k) p l)) (n, rest) parents.2 in
    let kind = then_read (number w8 (λ k. nat_lt k 3) content.0.1) (λ k. id >>= λ p. id >>= λ l. value (FileUnode parents.0.0 content.0.0 (kind_of k) p l)) (n, rest) content.2 in
    let path = then_read (id kind.0.1) (λ p. id >>= λ l. value (FileUnode parents.0.0 content.0.0 (kind_of kind.0.0) p l)) (n, rest) kind.2 in
    let link = then_read (id path.0.1) (λ l. value (FileUnode parents.0.0 content.0.0 (kind_of kind.0.0) path.0.0 l)) (n, rest) path.2 in
    ap (found m) (same_node (FileUnode parents.0.0 content.0.0 (kind_of kind.0.0) path.0.0 link.0.0) n link.0.1 rest link.2)

pub found_in : (bytes m : List ℕ) (n : Unode) → unode_of bytes ≡ Ok n → entry_named bytes m ≡ found m n
found_in bytes m n h =
    let all = whole_read (length bytes) (unode_fields bytes) n h in
    let mark = then_read (number w8 (λ k. k == 0x55 || k == 0x56) bytes) (λ k. cond (k == 0x55) manifest file_unode) (n, all.0) all.1 in
    ap (λ a. named_behind (and_then a (λ k. cond (k == 0x55) manifest_count no_entries)) m) mark.1
    ∙ by mark.0.1 all.0 (mark.0.0 == 0x55) mark.2
  where
    by : (after rest : List ℕ) (b : Bool) → cond b manifest file_unode after ≡ Ok (n, rest) → named_behind (cond b manifest_count no_entries after) m ≡ found m n
    by after rest true g = in_manifest after m rest n g
    by after rest false g = in_file after m rest n g
