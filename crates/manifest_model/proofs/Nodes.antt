-- The spelling of a node is read as it, so no two fsnodes and no two unodes have one spelling.
use Rattle.std.proofs.Common.{◌≡◌, ℕ, ◌^◌, ◌<◌, ◌≤◌, Bool, true, not, ◌&&◌, List, [], ◌∷◌, ◌++◌, length, refl, sym, ap, ◌∙◌, arith}
use Rattle.std.specs.Prelude.{Option, Some, None, Result, Ok, Err, flat_map, nat_lt, nat_le, ◌==◌, bytes_eq, ◌||◌, if◌then◌else◌}
use Rattle.std.specs.List.{list_all, concat}
use Rattle.std.specs.Ordering.{nat_cmp, is_lt}
use Rattle.std.specs.Cmp.Lexicographic.{slice_cmp}
use Rattle.std.specs.FinMap.{is_sorted}
use Rattle.std.specs.Int.{w8, w32, w64, to_be_bytes}
use Rattle.std.proofs.lemmas.Bool.{and_parts, and_from, leb-true, ltb-true}
use Rattle.std.proofs.lemmas.List.{append-nil}
use Rattle.byte_fields.specs.Bytes.{Id, sized, is_bytes, is_line}
use Rattle.changeset_model.specs.Path.{is_element}
use Rattle.changeset_model.specs.Changeset.{file_bytes, kind_byte}
use Rattle.byte_fields.specs.Reading.{Reader, value, ◌>>=◌, number, with_len, keeping, exactly, as_one, one_field, any, id, whole, times}
use Rattle.changeset_model.specs.Decoding.{file, kind_of}
use Rattle.manifest_model.specs.Fsnode.{Summary, FsEntry, FsFile, FsDir, Fsnode, summary_bytes, fs_entry_bytes, fsnode_bytes, are_entries, is_summary, is_fs_entry, is_fsnode}
use Rattle.manifest_model.specs.NodeReading.{is_after_name, entry, entries, summary, fs_entry_of, fs_entry, fsnode_of, unode_entry_for, one_unode_entry, node_parents, manifest, file_unode, unode_of}
use Rattle.changeset_model.specs.Codes.{kind_of-kind_byte}
use Rattle.manifest_model.specs.Unode.{Unode, Manifest, FileUnode, UnodeEntry, UnodeFile, UnodeDir, unode_entry_bytes, unode_bytes, is_unode_entry, is_unode}
use Rattle.byte_fields.proofs.FieldLemmas.{Reads, reads_then, reads_last, reads_number, reads_with_len, keeps, Spelled, spelled_8, spelled_32, spelled_64}
use Rattle.std.specs.Cmp.{first_so, second_so}
use Rattle.changeset_model.proofs.Spelling.{reads_exactly, reads_file, reads_id}
use Rattle.changeset_model.proofs.Spelling.{below_3 as small_kind}

reads_one_field : {A : Type 0} (r : Reader A) (s : List ℕ) (x : A) → Reads r s x → Reads (one_field r) s x
reads_one_field r s x a rest = ap (as_one (length (s ++ rest))) (a rest)

pub spelled_small : (n : ℕ) → n < 256 → Spelled w8 (to_be_bytes w8 n) n
spelled_small n h = record { len = refl; back = omega arith }

-- ---- names and entries

element_len : (e : List ℕ) → is_element e ≡ true → (nat_lt 0 (length e) ≡ true) × (nat_le (length e) 255 ≡ true)
element_len e h =
    let dots = and_parts (nat_lt 0 (length e) && nat_le (length e) 255 && is_line e && list_all (λ b. not (b == 0x2F)) e && not (bytes_eq e (0x2E ∷ []))) (not (bytes_eq e (0x2E ∷ 0x2E ∷ []))) h in
    let dot = and_parts (nat_lt 0 (length e) && nat_le (length e) 255 && is_line e && list_all (λ b. not (b == 0x2F)) e) (not (bytes_eq e (0x2E ∷ []))) dots.0 in
    let slash = and_parts (nat_lt 0 (length e) && nat_le (length e) 255 && is_line e) (list_all (λ b. not (b == 0x2F)) e) dot.0 in
    let line = and_parts (nat_lt 0 (length e) && nat_le (length e) 255) (is_line e) slash.0 in
    and_parts (nat_lt 0 (length e)) (nat_le (length e) 255) line.0

abbrev name_rule : Option (List ℕ) → List ℕ → Bool
name_rule before name = is_element name && is_after_name before name

reads_name : (before : Option (List ℕ)) (name : List ℕ) → is_element name ≡ true → is_after_name before name ≡ true → Reads (with_len w8 (λ n. nat_lt 0 n) (keeping (name_rule before))) (sized w8 name) name
reads_name before name h a =
    let lens = element_len name h in
    let short : length name ≤ 255 = leb-true (length name) 255 lens.1 in
    reads_with_len w8 (λ n. nat_lt 0 n) (keeping (name_rule before)) name name (spelled_small (length name) (omega arith)) lens.0 (keeps (name_rule before) name (and_from _ _ h a))

module _ {X : Type 0} (r : Reader X) (spell : X → List ℕ) (good : X → Bool) (each : (x : X) → good x ≡ true → Reads r (spell x) x) where
  abbrev starts_after : Option (List ℕ) → List (List ℕ × X) → Bool
  starts_after before [] = true
  starts_after before (e ∷ es) = is_after_name before e.0

  next_after : (e : List ℕ × X) (es : List (List ℕ × X)) → is_sorted (slice_cmp nat_cmp) (e ∷ es) ≡ true → starts_after (Some e.0) es ≡ true
  next_after e [] h = refl
  next_after e (f ∷ es) h = first_so (is_lt (slice_cmp nat_cmp e.0 f.0)) _ (first_so _ (is_sorted (slice_cmp nat_cmp) (f ∷ es)) h)

  reads_entries : (before : Option (List ℕ)) (es : List (List ℕ × X)) → list_all (λ e. is_element e.0) es ≡ true → list_all (λ e. good e.1) es ≡ true → is_sorted (slice_cmp nat_cmp) es ≡ true → starts_after before es ≡ true → Reads (entries r (length es) before) (flat_map (λ e. sized w8 e.0 ++ spell e.1) es) es
  reads_entries before [] names goods sorted first = λ rest. refl
  reads_entries before (e ∷ es) names goods sorted first =
      reads_then (entry r before) (λ e. entries r (length es) (Some e.0) >>= λ es. value (e ∷ es)) (sized w8 e.0 ++ spell e.1) (flat_map (λ e. sized w8 e.0 ++ spell e.1) es) e (e ∷ es)
      (reads_then (with_len w8 (λ n. nat_lt 0 n) (keeping (name_rule before))) (λ name. r >>= λ x. value (name, x)) (sized w8 e.0) (spell e.1) e.0 e
      (reads_name before e.0 (first_so (is_element e.0) _ names) first)
      (reads_last r (λ x. (e.0, x)) (spell e.1) e.1 (each e.1 (first_so (good e.1) _ goods))))
      (reads_last (entries r (length es) (Some e.0)) (λ es. e ∷ es) (flat_map (λ e. sized w8 e.0 ++ spell e.1) es) es
      (reads_entries (Some e.0) es (second_so (is_element e.0) _ names) (second_so (good e.1) _ goods) (second_so _ (is_sorted (slice_cmp nat_cmp) es) sorted) (next_after e es sorted)))

  none_before : (es : List (List ℕ × X)) → starts_after None es ≡ true
  none_before [] = refl
  none_before (e ∷ es) = refl

-- ---- summaries and fsnodes

reads_64 : (n : ℕ) → nat_lt n (2 ^ 64) ≡ true → Reads (number w64 any) (to_be_bytes w64 n) n
reads_64 n h = reads_number w64 any (to_be_bytes w64 n) n (spelled_64 n (ltb-true n (2 ^ 64) h)) refl

reads_summary : (s : Summary) → is_summary s ≡ true → Reads summary (summary_bytes s) s
reads_summary s h =
    let small : ℕ → Bool = λ n. nat_lt n (2 ^ 64) in
    let a = s.child_files_count in
    let b = s.child_files_total_size in
    let c = s.child_dirs_count in
    let d = s.descendant_files_count in
    let e = s.descendant_files_total_size in
    let all_b : list_all small (b ∷ c ∷ d ∷ e ∷ []) ≡ true = second_so (small a) _ h in
    let all_c : list_all small (c ∷ d ∷ e ∷ []) ≡ true = second_so (small b) _ all_b in
    let all_d : list_all small (d ∷ e ∷ []) ≡ true = second_so (small c) _ all_c in
    let all_e : list_all small (e ∷ []) ≡ true = second_so (small d) _ all_d in
    let made : ℕ → ℕ → ℕ → ℕ → ℕ → Summary = λ a b c d e. record { child_files_count = a; child_files_total_size = b; child_dirs_count = c; descendant_files_count = d; descendant_files_total_size = e } in
    let n : Reader ℕ = number w64 any in
    let w : ℕ → List ℕ = to_be_bytes w64 in
    reads_one_field (n >>= λ a. n >>= λ b. n >>= λ c. n >>= λ d. n >>= λ e. value (made a b c d e)) (summary_bytes s) s
    (reads_then n (λ a. n >>= λ b. n >>= λ c. n >>= λ d. n >>= λ e. value (made a b c d e)) (w a) (w b ++ (w c ++ (w d ++ (w e ++ [])))) a s (reads_64 a (first_so (small a) _ h))
    (reads_then n (λ b. n >>= λ c. n >>= λ d. n >>= λ e. value (made a b c d e)) (w b) (w c ++ (w d ++ (w e ++ []))) b s (reads_64 b (first_so (small b) _ all_b))
    (reads_then n (λ c. n >>= λ d. n >>= λ e. value (made a b c d e)) (w c) (w d ++ (w e ++ [])) c s (reads_64 c (first_so (small c) _ all_c))
    (reads_then n (λ d. n >>= λ e. value (made a b c d e)) (w d) (w e ++ []) d s (reads_64 d (first_so (small d) _ all_d))
    (reads_then n (λ e. value (made a b c d e)) (w e) [] e s (reads_64 e (first_so (small e) _ all_e)) (λ rest. refl))))))

reads_fs_entry : (x : FsEntry) → is_fs_entry x ≡ true → Reads fs_entry (fs_entry_bytes x) x
reads_fs_entry (FsFile f) h =
    let both = and_parts (nat_lt f.size (2 ^ 64)) (is_bytes 32 f.content) h in
    reads_then (number w8 (λ n. nat_lt n 2)) fs_entry_of (0 ∷ []) (file_bytes f) 0 (FsFile f)
    (reads_number w8 (λ n. nat_lt n 2) (0 ∷ []) 0 (spelled_8 0) refl)
    (reads_last (file any) FsFile (file_bytes f) f (reads_file any f (ltb-true f.size (2 ^ 64) both.0) refl both.1))
reads_fs_entry (FsDir x s) h =
    let both = and_parts (is_bytes 32 x) (is_summary s) h in
    reads_then (number w8 (λ n. nat_lt n 2)) fs_entry_of (1 ∷ []) (x ++ summary_bytes s) 1 (FsDir x s)
    (reads_number w8 (λ n. nat_lt n 2) (1 ∷ []) 1 (spelled_8 1) refl)
    (reads_then id (λ x. summary >>= λ s. value (FsDir x s)) x (summary_bytes s) x (FsDir x s)
    (reads_id x both.0)
    (reads_last summary (FsDir x) (summary_bytes s) s (reads_summary s both.1)))

abbrev spelled_entries : List (List ℕ × FsEntry) → List ℕ
spelled_entries es = flat_map (λ e. sized w8 e.0 ++ fs_entry_bytes e.1) es

reads_fsnode : (n : Fsnode) → is_fsnode n ≡ true → fsnode_of (fsnode_bytes n) ≡ Ok n
reads_fsnode n h =
    let goods = and_parts (is_summary n.summary && are_entries n.entries) (list_all (λ e. is_fs_entry e.1) n.entries) h in
    let both = and_parts (is_summary n.summary) (are_entries n.entries) goods.0 in
    let sorted = and_parts (nat_lt (length n.entries) (2 ^ 32) && list_all (λ e. is_element e.0) n.entries) (is_sorted (slice_cmp nat_cmp) n.entries) both.1 in
    let names = and_parts (nat_lt (length n.entries) (2 ^ 32)) (list_all (λ e. is_element e.0) n.entries) sorted.0 in
    let count = to_be_bytes w32 (length n.entries) in
    let made : Summary → List (List ℕ × FsEntry) → Fsnode = λ s es. record { summary = s; entries = es } in
    let reader : Reader Fsnode = exactly (0x46 ∷ []) >>= λ _. exactly (1 ∷ []) >>= λ _. summary >>= λ s. number w32 any >>= λ count. entries fs_entry count None >>= λ es. value (made s es) in
    let all : Reads reader (fsnode_bytes n) n =
    reads_then (exactly (0x46 ∷ [])) (λ _. exactly (1 ∷ []) >>= λ _. summary >>= λ s. number w32 any >>= λ count. entries fs_entry count None >>= λ es. value (made s es)) (0x46 ∷ []) ((1 ∷ []) ++ (summary_bytes n.summary ++ (count ++ (spelled_entries n.entries ++ [])))) (0x46 ∷ []) n
    (reads_exactly (0x46 ∷ []))
    (reads_then (exactly (1 ∷ [])) (λ _. summary >>= λ s. number w32 any >>= λ count. entries fs_entry count None >>= λ es. value (made s es)) (1 ∷ []) (summary_bytes n.summary ++ (count ++ (spelled_entries n.entries ++ []))) (1 ∷ []) n
    (reads_exactly (1 ∷ []))
    (reads_then summary (λ s. number w32 any >>= λ count. entries fs_entry count None >>= λ es. value (made s es)) (summary_bytes n.summary) (count ++ (spelled_entries n.entries ++ [])) n.summary n
    (reads_summary n.summary both.0)
    (reads_then (number w32 any) (λ count. entries fs_entry count None >>= λ es. value (made n.summary es)) count (spelled_entries n.entries ++ []) (length n.entries) n
    (reads_number w32 any count (length n.entries) (spelled_32 (length n.entries) (ltb-true (length n.entries) (2 ^ 32) names.0)) refl)
    (reads_then (entries fs_entry (length n.entries) None) (λ es. value (made n.summary es)) (spelled_entries n.entries) [] n.entries n
    (reads_entries fs_entry fs_entry_bytes is_fs_entry reads_fs_entry None n.entries names.1 goods.1 sorted.1 (none_before fs_entry fs_entry_bytes is_fs_entry reads_fs_entry n.entries))
    (λ rest. refl))))) in
    ap (whole (length (fsnode_bytes n))) (ap reader (sym (append-nil (fsnode_bytes n))) ∙ all [])

-- the spelling of an fsnode is read as it
pub fsnode_is_read : (n : Fsnode) → is_fsnode n ≡ true → fsnode_of (fsnode_bytes n) ≡ Ok n
fsnode_is_read n h = reads_fsnode n h

-- no two have one spelling
pub fsnode_is_one : (m n : Fsnode) → is_fsnode m ≡ true → is_fsnode n ≡ true → fsnode_bytes m ≡ fsnode_bytes n → m ≡ n
fsnode_is_one m n h g same = ap from_ok (sym (reads_fsnode m h) ∙ ap fsnode_of same ∙ reads_fsnode n g)
  where
    from_ok : Result Fsnode ℕ → Fsnode
    from_ok (Ok x) = x
    from_ok (Err at) = m

-- ---- unodes

reads_node_parents : (ps : List Id) → nat_le (length ps) 2 ≡ true → list_all (is_bytes 32) ps ≡ true → Reads node_parents (1 ∷ length ps ∷ concat ps) ps
reads_node_parents [] short good =
    reads_then (exactly (1 ∷ [])) (λ _. number w8 (λ n. nat_lt n 3) >>= λ count. times count id) (1 ∷ []) (0 ∷ []) (1 ∷ []) []
    (reads_exactly (1 ∷ []))
    (reads_then (number w8 (λ n. nat_lt n 3)) (λ count. times count id) (0 ∷ []) [] 0 [] (reads_number w8 (λ n. nat_lt n 3) (0 ∷ []) 0 (spelled_8 0) refl) (λ rest. refl))
reads_node_parents (p ∷ []) short good =
    reads_then (exactly (1 ∷ [])) (λ _. number w8 (λ n. nat_lt n 3) >>= λ count. times count id) (1 ∷ []) (1 ∷ (p ++ [])) (1 ∷ []) (p ∷ [])
    (reads_exactly (1 ∷ []))
    (reads_then (number w8 (λ n. nat_lt n 3)) (λ count. times count id) (1 ∷ []) (p ++ []) 1 (p ∷ []) (reads_number w8 (λ n. nat_lt n 3) (1 ∷ []) 1 (spelled_8 1) refl)
    (reads_then id (λ x. times 0 id >>= λ xs. value (x ∷ xs)) p [] p (p ∷ []) (reads_id p (first_so (is_bytes 32 p) _ good)) (λ rest. refl)))
reads_node_parents (p ∷ q ∷ []) short good =
    reads_then (exactly (1 ∷ [])) (λ _. number w8 (λ n. nat_lt n 3) >>= λ count. times count id) (1 ∷ []) (2 ∷ (p ++ (q ++ []))) (1 ∷ []) (p ∷ q ∷ [])
    (reads_exactly (1 ∷ []))
    (reads_then (number w8 (λ n. nat_lt n 3)) (λ count. times count id) (2 ∷ []) (p ++ (q ++ [])) 2 (p ∷ q ∷ []) (reads_number w8 (λ n. nat_lt n 3) (2 ∷ []) 2 (spelled_8 2) refl)
    (reads_then id (λ x. times 1 id >>= λ xs. value (x ∷ xs)) p (q ++ []) p (p ∷ q ∷ []) (reads_id p (first_so (is_bytes 32 p) _ good))
    (reads_last (times 1 id) (λ xs. p ∷ xs) (q ++ []) (q ∷ [])
    (reads_then id (λ x. times 0 id >>= λ xs. value (x ∷ xs)) q [] q (q ∷ []) (reads_id q (first_so (is_bytes 32 q) true (second_so (is_bytes 32 p) _ good))) (λ rest. refl)))))
reads_node_parents (p ∷ q ∷ r ∷ ps) short good = let le = leb-true (length (p ∷ q ∷ r ∷ ps)) 2 short in absurd (omega arith)

reads_unode_entry : (x : UnodeEntry) → is_unode_entry x ≡ true → Reads one_unode_entry (unode_entry_bytes x) x
reads_unode_entry (UnodeFile x) h =
    reads_then (number w8 (λ n. nat_lt n 2)) (λ tag. id >>= λ x. value (unode_entry_for tag x)) (0 ∷ []) x 0 (UnodeFile x)
    (reads_number w8 (λ n. nat_lt n 2) (0 ∷ []) 0 (spelled_8 0) refl) (reads_last id (unode_entry_for 0) x x (reads_id x h))
reads_unode_entry (UnodeDir x) h =
    reads_then (number w8 (λ n. nat_lt n 2)) (λ tag. id >>= λ x. value (unode_entry_for tag x)) (1 ∷ []) x 1 (UnodeDir x)
    (reads_number w8 (λ n. nat_lt n 2) (1 ∷ []) 1 (spelled_8 1) refl) (reads_last id (unode_entry_for 1) x x (reads_id x h))

abbrev either_mark : ℕ → Bool
either_mark n = n == 0x55 || n == 0x56

abbrev by_mark : ℕ → Reader Unode
by_mark mark = if mark == 0x55 then manifest else file_unode

reads_unode : (n : Unode) → is_unode n ≡ true → Reads (number w8 either_mark >>= by_mark) (unode_bytes n) n
reads_unode (Manifest ps link es) h =
    let goods = and_parts (nat_le (length ps) 2 && list_all (is_bytes 32) (link ∷ ps) && are_entries es) (list_all (λ e. is_unode_entry e.1) es) h in
    let both = and_parts (nat_le (length ps) 2 && list_all (is_bytes 32) (link ∷ ps)) (are_entries es) goods.0 in
    let ids = and_parts (nat_le (length ps) 2) (list_all (is_bytes 32) (link ∷ ps)) both.0 in
    let sorted = and_parts (nat_lt (length es) (2 ^ 32) && list_all (λ e. is_element e.0) es) (is_sorted (slice_cmp nat_cmp) es) both.1 in
    let names = and_parts (nat_lt (length es) (2 ^ 32)) (list_all (λ e. is_element e.0) es) sorted.0 in
    let count : List ℕ = to_be_bytes w32 (length es) in
    let spelled : List ℕ = flat_map (λ e. sized w8 e.0 ++ unode_entry_bytes e.1) es in
    reads_then (number w8 either_mark) by_mark (0x55 ∷ []) (1 ∷ length ps ∷ (concat ps ++ (link ++ (count ++ (spelled ++ []))))) 0x55 (Manifest ps link es)
    (reads_number w8 either_mark (0x55 ∷ []) 0x55 (spelled_8 0x55) refl)
    (reads_then node_parents (λ ps. id >>= λ link. number w32 any >>= λ count. entries one_unode_entry count None >>= λ es. value (Manifest ps link es)) (1 ∷ length ps ∷ concat ps) (link ++ (count ++ (spelled ++ []))) ps (Manifest ps link es)
    (reads_node_parents ps ids.0 (second_so (is_bytes 32 link) _ ids.1))
    (reads_then id (λ link. number w32 any >>= λ count. entries one_unode_entry count None >>= λ es. value (Manifest ps link es)) link (count ++ (spelled ++ [])) link (Manifest ps link es)
    (reads_id link (first_so (is_bytes 32 link) _ ids.1))
    (reads_then (number w32 any) (λ count. entries one_unode_entry count None >>= λ es. value (Manifest ps link es)) count (spelled ++ []) (length es) (Manifest ps link es)
    (reads_number w32 any count (length es) (spelled_32 (length es) (ltb-true (length es) (2 ^ 32) names.0)) refl)
    (reads_then (entries one_unode_entry (length es) None) (λ es. value (Manifest ps link es)) spelled [] es (Manifest ps link es)
    (reads_entries one_unode_entry unode_entry_bytes is_unode_entry reads_unode_entry None es names.1 goods.1 sorted.1 (none_before one_unode_entry unode_entry_bytes is_unode_entry reads_unode_entry es))
    (λ rest. refl)))))
reads_unode (FileUnode ps content kind hash link) h =
    let ids = and_parts (nat_le (length ps) 2) (list_all (is_bytes 32) (content ∷ hash ∷ link ∷ ps)) h in
    let after_content : list_all (is_bytes 32) (hash ∷ link ∷ ps) ≡ true = second_so (is_bytes 32 content) _ ids.1 in
    let after_hash : list_all (is_bytes 32) (link ∷ ps) ≡ true = second_so (is_bytes 32 hash) _ after_content in
    reads_then (number w8 either_mark) by_mark (0x56 ∷ []) (1 ∷ length ps ∷ (concat ps ++ (content ++ (kind_byte kind ∷ (hash ++ (link ++ [])))))) 0x56 (FileUnode ps content kind hash link)
    (reads_number w8 either_mark (0x56 ∷ []) 0x56 (spelled_8 0x56) refl)
    (reads_then node_parents (λ ps. id >>= λ content. number w8 (λ n. nat_lt n 3) >>= λ kind. id >>= λ hash. id >>= λ link. value (FileUnode ps content (kind_of kind) hash link)) (1 ∷ length ps ∷ concat ps) (content ++ (kind_byte kind ∷ (hash ++ (link ++ [])))) ps (FileUnode ps content kind hash link)
    (reads_node_parents ps ids.0 (second_so (is_bytes 32 link) _ after_hash))
    (reads_then id (λ content. number w8 (λ n. nat_lt n 3) >>= λ kind. id >>= λ hash. id >>= λ link. value (FileUnode ps content (kind_of kind) hash link)) content (kind_byte kind ∷ (hash ++ (link ++ []))) content (FileUnode ps content kind hash link)
    (reads_id content (first_so (is_bytes 32 content) _ ids.1))
    (reads_then (number w8 (λ n. nat_lt n 3)) (λ kind. id >>= λ hash. id >>= λ link. value (FileUnode ps content (kind_of kind) hash link)) (kind_byte kind ∷ []) (hash ++ (link ++ [])) (kind_byte kind) (FileUnode ps content kind hash link)
    (reads_number w8 (λ n. nat_lt n 3) (kind_byte kind ∷ []) (kind_byte kind) (spelled_8 (kind_byte kind)) (small_kind kind))
    (reads_then id (λ hash. id >>= λ link. value (FileUnode ps content (kind_of (kind_byte kind)) hash link)) hash (link ++ []) hash (FileUnode ps content kind hash link)
    (reads_id hash (first_so (is_bytes 32 hash) _ after_content))
    (reads_then id (λ link. value (FileUnode ps content (kind_of (kind_byte kind)) hash link)) link [] link (FileUnode ps content kind hash link)
    (reads_id link (first_so (is_bytes 32 link) _ after_hash))
    (λ rest. ap (λ k. Ok (FileUnode ps content k hash link, rest)) (kind_of-kind_byte kind)))))))

-- the spelling of a unode is read as it
pub unode_is_read : (n : Unode) → is_unode n ≡ true → unode_of (unode_bytes n) ≡ Ok n
unode_is_read n h = ap (whole (length (unode_bytes n))) (ap (number w8 either_mark >>= by_mark) (sym (append-nil (unode_bytes n))) ∙ reads_unode n h [])

-- no two have one spelling
pub unode_is_one : (m n : Unode) → is_unode m ≡ true → is_unode n ≡ true → unode_bytes m ≡ unode_bytes n → m ≡ n
unode_is_one m n h g same = ap from_ok (sym (unode_is_read m h) ∙ ap unode_of same ∙ unode_is_read n g)
  where
    from_ok : Result Unode ℕ → Unode
    from_ok (Ok x) = x
    from_ok (Err at) = m
