-- What is read as a node is spelled so, each byte of it, and keeps the rules of its fields.
use Rattle.std.proofs.Common.{◌≡◌, ℕ, zero, suc, ◌^◌, ◌%◌, ◌<◌, Bool, true, false, cond, ◌&&◌, List, [], ◌∷◌, ◌++◌, length, refl, sym, ap, subst, ◌∙◌, arith}
use Rattle.std.specs.Prelude.{Option, Some, None, Result, Ok, Err, flat_map, nat_lt, nat_le, ◌==◌, ◌||◌, if◌then◌else◌, ◌↔◌}
use Rattle.std.specs.List.{list_all, concat}
use Rattle.std.specs.Ordering.{nat_cmp, is_lt}
use Rattle.std.specs.Cmp.Lexicographic.{slice_cmp, nat_list_cmp_total}
use Rattle.std.specs.FinMap.{is_sorted}
use Rattle.std.specs.FinMap.Entries.{below_all}
use Rattle.std.specs.Int.{w8, w32, w64, to_be_bytes}
use Rattle.std.proofs.lemmas.Bool.{le-leb, and_parts, and_from, ltb-true, lt-ltb, eqb-true}
use Rattle.std.proofs.lemmas.List.{append-nil}
use Rattle.byte_fields.specs.Bytes.{Id, IsBytes, sized, is_bytes}
use Rattle.byte_fields.specs.Reading.{Reader, value, ◌>>=◌, number, with_len, keeping, exactly, as_one, any, id, times}
use Rattle.changeset_model.specs.Path.{is_element}
use Rattle.changeset_model.specs.Changeset.{kind_byte, file_bytes}
use Rattle.changeset_model.specs.Decoding.{file, kind_of}
use Rattle.manifest_model.specs.Fsnode.{Summary, FsEntry, FsFile, FsDir, Fsnode, summary_bytes, fs_entry_bytes, fsnode_bytes, are_entries, is_summary, is_fs_entry, is_fsnode}
use Rattle.manifest_model.specs.Unode.{Unode, Manifest, FileUnode, UnodeEntry, unode_entry_bytes, unode_bytes, is_unode_entry, is_unode}
use Rattle.manifest_model.specs.NodeReading.{is_after_name, entry, entries, summary_fields, summary, fs_entry_of, fs_entry, fsnode_fields, fsnode_of, unode_entry_for, one_unode_entry, node_parents, manifest, file_unode, unode_fields, unode_of}
use Rattle.changeset_model.proofs.Accepting.{IsWide, Took, took_then, took_end, bind_ok, kind_byte-kind_of, value_ok, whole_ok, keeping_ok, wide32, wide64, number_ok, byte_ok, id_ok, exactly_ok, file_ok, with_len_ok}
use Rattle.manifest_model.proofs.Nodes.{fsnode_is_read, unode_is_read}
use Rattle.changeset_model.proofs.Rising.{less_of}

wide8 : IsWide w8 256
wide8 [] len fits = absurd (omega arith)
wide8 (b ∷ []) len fits = (ap (λ n. n ∷ []) same, omega (arith, fits 0))
  where
    same : b % 256 ≡ b
    same = omega (arith, fits 0)
wide8 (b ∷ c ∷ bs) len fits = absurd (omega arith)

-- ---- names, which rise

abbrev name_lt : List ℕ → List ℕ → Bool
name_lt m n = is_lt (slice_cmp nat_cmp m n)

name_lt-trans : (l m n : List ℕ) → name_lt l m ≡ true → name_lt m n ≡ true → name_lt l n ≡ true
name_lt-trans l m n h g = ap is_lt (nat_list_cmp_total.trans l m n (less_of (slice_cmp nat_cmp l m) h) (less_of (slice_cmp nat_cmp m n) g))

below_later : {X : Type 0} (m n : List ℕ) (es : List (List ℕ × X)) → name_lt m n ≡ true → below_all (slice_cmp nat_cmp) n es ≡ true → below_all (slice_cmp nat_cmp) m es ≡ true
below_later m n [] h all = refl
below_later m n (e ∷ es) h all =
    let parts = and_parts (name_lt n e.0) (below_all (slice_cmp nat_cmp) n es) all in
    and_from _ _ (name_lt-trans m n e.0 h parts.0) (below_later m n es h parts.1)

abbrev first_after : {X : Type 0} → Option (List ℕ) → List (List ℕ × X) → Bool
first_after before [] = true
first_after before (e ∷ es) = is_after_name before e.0

below_first : {X : Type 0} (n : List ℕ) (es : List (List ℕ × X)) → first_after (Some n) es ≡ true → is_sorted (slice_cmp nat_cmp) es ≡ true → below_all (slice_cmp nat_cmp) n es ≡ true
below_first n [] h sorted = refl
below_first n (e ∷ es) h sorted =
    and_from _ _ h (below_later n e.0 es h (and_parts (below_all (slice_cmp nat_cmp) e.0 es) (is_sorted (slice_cmp nat_cmp) es) sorted).0)

abbrev name_rule : Option (List ℕ) → List ℕ → Bool
name_rule before name = is_element name && is_after_name before name

record NameRead (before : Option (List ℕ)) (bytes name rest : List ℕ) : Type 0 where
  took : Took bytes (sized w8 name) rest
  good : is_element name ≡ true
  after : is_after_name before name ≡ true

name_ok : (before : Option (List ℕ)) (bytes name rest : List ℕ) → IsBytes bytes → with_len w8 (λ n. nat_lt 0 n) (keeping (name_rule before)) bytes ≡ Ok (name, rest) → NameRead before bytes name rest
name_ok before bytes name rest fits e =
    let s = with_len_ok w8 256 wide8 (λ n. nat_lt 0 n) (keeping (name_rule before)) bytes name rest fits e in
    let k = keeping_ok (name_rule before) s.text name s.seen in
    let both = and_parts (is_element s.text) (is_after_name before s.text) k.0 in
    subst (λ n. NameRead before bytes n rest) k.1 (record { took = s.took; good = both.0; after = both.1 })

-- ---- entries

-- what the reader reads as x is spelled so, and x is good
abbrev IsSpelledBy : {X : Type 0} → Reader X → (X → List ℕ) → (X → Bool) → Type 0
IsSpelledBy {X = X} r spell good = (bytes : List ℕ) (x : X) (rest : List ℕ) → IsBytes bytes → r bytes ≡ Ok (x, rest) → Took bytes (spell x) rest × (good x ≡ true)

module _ {X : Type 0} (r : Reader X) (spell : X → List ℕ) (good : X → Bool) (each : IsSpelledBy r spell good) where
  abbrev spelled_entry : List ℕ × X → List ℕ
  spelled_entry e = sized w8 e.0 ++ spell e.1

  record EntryRead (before : Option (List ℕ)) (bytes : List ℕ) (e : List ℕ × X) (rest : List ℕ) : Type 0 where
    took : Took bytes (spelled_entry e) rest
    name : is_element e.0 ≡ true
    after : is_after_name before e.0 ≡ true
    well : good e.1 ≡ true

  entry_ok : (before : Option (List ℕ)) (bytes : List ℕ) (e : List ℕ × X) (rest : List ℕ) → IsBytes bytes → entry r before bytes ≡ Ok (e, rest) → EntryRead before bytes e rest
  entry_ok before bytes e rest fits eq =
      let s1 = bind_ok (with_len w8 (λ n. nat_lt 0 n) (keeping (name_rule before)) bytes) (λ name. r >>= λ x. value (name, x)) (e, rest) eq in
      let name = s1.0.0 in
      let n1 = name_ok before bytes name s1.0.1 fits s1.1 in
      let s2 = bind_ok (r s1.0.1) (λ x. value (name, x)) (e, rest) s1.2 in
      let x = s2.0.0 in
      let n2 = each s1.0.1 x s2.0.1 n1.took.left s2.1 in
      let last = value_ok {A = List ℕ × X} (name, x) e s2.0.1 rest s2.2 in
      subst (λ e. EntryRead before bytes e rest) last.0 (record {
        took = subst (λ r. Took bytes (spelled_entry (name, x)) r) last.1 (took_then bytes (sized w8 name) s1.0.1 (spell x) s2.0.1 n1.took n2.0);
        name = n1.good;
        after = n1.after;
        well = n2.1;
      })

  record EntriesRead (n : ℕ) (before : Option (List ℕ)) (bytes : List ℕ) (es : List (List ℕ × X)) (rest : List ℕ) : Type 0 where
    took : Took bytes (flat_map spelled_entry es) rest
    len : length es ≡ n
    names : list_all (λ e. is_element e.0) es ≡ true
    goods : list_all (λ e. good e.1) es ≡ true
    sorted : is_sorted (slice_cmp nat_cmp) es ≡ true
    first : first_after before es ≡ true

  entries_ok : (n : ℕ) (before : Option (List ℕ)) (bytes : List ℕ) (es : List (List ℕ × X)) (rest : List ℕ) → IsBytes bytes → entries r n before bytes ≡ Ok (es, rest) → EntriesRead n before bytes es rest
  entries_ok zero before bytes es rest fits eq =
      let last = value_ok [] es bytes rest eq in
      subst (λ es. EntriesRead 0 before bytes es rest) last.0 (record { took = subst (λ r. Took bytes [] r) last.1 (took_end bytes fits); len = refl; names = refl; goods = refl; sorted = refl; first = refl })
  entries_ok (suc n) before bytes es rest fits eq =
      let s1 = bind_ok (entry r before bytes) (λ e. entries r n (Some e.0) >>= λ es. value (e ∷ es)) (es, rest) eq in
      let e = s1.0.0 in
      let n1 = entry_ok before bytes e s1.0.1 fits s1.1 in
      let s2 = bind_ok (entries r n (Some e.0) s1.0.1) (λ es. value (e ∷ es)) (es, rest) s1.2 in
      let later = s2.0.0 in
      let n2 = entries_ok n (Some e.0) s1.0.1 later s2.0.1 n1.took.left s2.1 in
      let last = value_ok (e ∷ later) es s2.0.1 rest s2.2 in
      subst (λ es. EntriesRead (suc n) before bytes es rest) last.0 (record {
        took = subst (λ r. Took bytes (spelled_entry e ++ flat_map spelled_entry later) r) last.1 (took_then bytes (spelled_entry e) s1.0.1 (flat_map spelled_entry later) s2.0.1 n1.took n2.took);
        len = ap suc n2.len;
        names = and_from _ _ n1.name n2.names;
        goods = and_from _ _ n1.well n2.goods;
        sorted = and_from _ _ (below_first e.0 later n2.first n2.sorted) n2.sorted;
        first = n1.after;
      })

  -- a count, and as many entries
  counted_ok : (bytes mid : List ℕ) (count : ℕ) (es : List (List ℕ × X)) (rest : List ℕ) → IsBytes bytes → number w32 any bytes ≡ Ok (count, mid) → entries r count None mid ≡ Ok (es, rest) → Took bytes (to_be_bytes w32 (length es) ++ flat_map spelled_entry es) rest × (are_entries es ≡ true) × (list_all (λ e. good e.1) es ≡ true)
  counted_ok bytes mid count es rest fits first second =
      let n = number_ok w32 (2 ^ 32) wide32 any bytes count mid fits first in
      let r = entries_ok count None mid es rest n.took.left second in (
        took_then bytes (to_be_bytes w32 (length es)) mid (flat_map spelled_entry es) rest (subst (λ m. Took bytes (to_be_bytes w32 m) mid) (sym r.len) n.took) r.took,
        and_from _ _ (and_from _ _ (lt-ltb (length es) (2 ^ 32) (subst (λ m. m < 2 ^ 32) (sym r.len) n.below)) r.names) r.sorted,
        r.goods,
      )

-- ---- summaries

abbrev a_summary : ℕ → ℕ → ℕ → ℕ → ℕ → Summary
a_summary a b c d e = record { child_files_count = a; child_files_total_size = b; child_dirs_count = c; descendant_files_count = d; descendant_files_total_size = e }

summary_fields_ok : IsSpelledBy summary_fields summary_bytes is_summary
summary_fields_ok bytes s rest fits eq =
    let n : Reader ℕ = number w64 any in
    let w : ℕ → List ℕ = to_be_bytes w64 in
    let s1 = bind_ok (n bytes) (λ a. n >>= λ b. n >>= λ c. n >>= λ d. n >>= λ e. value (a_summary a b c d e)) (s, rest) eq in
    let n1 = number_ok w64 (2 ^ 64) wide64 any bytes s1.0.0 s1.0.1 fits s1.1 in
    let s2 = bind_ok (n s1.0.1) (λ b. n >>= λ c. n >>= λ d. n >>= λ e. value (a_summary s1.0.0 b c d e)) (s, rest) s1.2 in
    let n2 = number_ok w64 (2 ^ 64) wide64 any s1.0.1 s2.0.0 s2.0.1 n1.took.left s2.1 in
    let s3 = bind_ok (n s2.0.1) (λ c. n >>= λ d. n >>= λ e. value (a_summary s1.0.0 s2.0.0 c d e)) (s, rest) s2.2 in
    let n3 = number_ok w64 (2 ^ 64) wide64 any s2.0.1 s3.0.0 s3.0.1 n2.took.left s3.1 in
    let s4 = bind_ok (n s3.0.1) (λ d. n >>= λ e. value (a_summary s1.0.0 s2.0.0 s3.0.0 d e)) (s, rest) s3.2 in
    let n4 = number_ok w64 (2 ^ 64) wide64 any s3.0.1 s4.0.0 s4.0.1 n3.took.left s4.1 in
    let s5 = bind_ok (n s4.0.1) (λ e. value (a_summary s1.0.0 s2.0.0 s3.0.0 s4.0.0 e)) (s, rest) s4.2 in
    let n5 = number_ok w64 (2 ^ 64) wide64 any s4.0.1 s5.0.0 s5.0.1 n4.took.left s5.1 in
    let made : Summary = a_summary s1.0.0 s2.0.0 s3.0.0 s4.0.0 s5.0.0 in
    let last = value_ok made s s5.0.1 rest s5.2 in
    let all : Took bytes (summary_bytes made) s5.0.1 =
    took_then bytes (w s1.0.0) s1.0.1 (w s2.0.0 ++ (w s3.0.0 ++ (w s4.0.0 ++ (w s5.0.0 ++ [])))) s5.0.1 n1.took
    (took_then s1.0.1 (w s2.0.0) s2.0.1 (w s3.0.0 ++ (w s4.0.0 ++ (w s5.0.0 ++ []))) s5.0.1 n2.took
    (took_then s2.0.1 (w s3.0.0) s3.0.1 (w s4.0.0 ++ (w s5.0.0 ++ [])) s5.0.1 n3.took
    (took_then s3.0.1 (w s4.0.0) s4.0.1 (w s5.0.0 ++ []) s5.0.1 n4.took
    (took_then s4.0.1 (w s5.0.0) s5.0.1 [] s5.0.1 n5.took (took_end s5.0.1 n5.took.left))))) in
    let good : is_summary made ≡ true =
    and_from _ _ (lt-ltb s1.0.0 (2 ^ 64) n1.below) (and_from _ _ (lt-ltb s2.0.0 (2 ^ 64) n2.below) (and_from _ _ (lt-ltb s3.0.0 (2 ^ 64) n3.below) (and_from _ _ (lt-ltb s4.0.0 (2 ^ 64) n4.below) (and_from _ _ (lt-ltb s5.0.0 (2 ^ 64) n5.below) refl)))) in
    subst (λ s. Took bytes (summary_bytes s) rest × (is_summary s ≡ true)) last.0 (subst (λ r. Took bytes (summary_bytes made) r) last.1 all, good)

one_field_ok : {A : Type 0} (len : ℕ) (o : Result (A × List ℕ) ℕ) (x : A) (rest : List ℕ) → as_one len o ≡ Ok (x, rest) → o ≡ Ok (x, rest)
one_field_ok len (Ok y) x rest e = e
one_field_ok len (Err left) x rest e = absurd cc

summary_ok : IsSpelledBy summary summary_bytes is_summary
summary_ok bytes s rest fits eq = summary_fields_ok bytes s rest fits (one_field_ok (length bytes) (summary_fields bytes) s rest eq)

-- ---- fsnodes

fs_entry_by : (tag : ℕ) → nat_lt tag 2 ≡ true → (bytes mid : List ℕ) (x : FsEntry) (rest : List ℕ) → Took bytes (tag ∷ []) mid → fs_entry_of tag mid ≡ Ok (x, rest) → Took bytes (fs_entry_bytes x) rest × (is_fs_entry x ≡ true)
fs_entry_by zero h bytes mid x rest took e =
    let s = bind_ok (file any mid) (λ f. value (FsFile f)) (x, rest) e in
    let f = file_ok any mid s.0.0 s.0.1 took.left s.1 in
    let last = value_ok (FsFile s.0.0) x s.0.1 rest s.2 in
    subst (λ x. Took bytes (fs_entry_bytes x) rest × (is_fs_entry x ≡ true)) last.0 (
      subst (λ r. Took bytes (0 ∷ file_bytes s.0.0) r) last.1 (took_then bytes (0 ∷ []) mid (file_bytes s.0.0) s.0.1 took f.took),
      and_from _ _ (lt-ltb s.0.0.size (2 ^ 64) f.small) f.content,
    )
fs_entry_by (suc zero) h bytes mid x rest took e =
    let s1 = bind_ok (id mid) (λ y. summary >>= λ s. value (FsDir y s)) (x, rest) e in
    let y = s1.0.0 in
    let n1 = id_ok mid y s1.0.1 took.left s1.1 in
    let s2 = bind_ok (summary s1.0.1) (λ s. value (FsDir y s)) (x, rest) s1.2 in
    let s = s2.0.0 in
    let n2 = summary_ok s1.0.1 s s2.0.1 n1.took.left s2.1 in
    let last = value_ok (FsDir y s) x s2.0.1 rest s2.2 in
    subst (λ x. Took bytes (fs_entry_bytes x) rest × (is_fs_entry x ≡ true)) last.0 (
      subst (λ r. Took bytes (1 ∷ (y ++ summary_bytes s)) r) last.1 (took_then bytes (1 ∷ []) mid (y ++ summary_bytes s) s2.0.1 took (took_then mid y s1.0.1 (summary_bytes s) s2.0.1 n1.took n2.0)),
      and_from _ _ n1.good n2.1,
    )
fs_entry_by (suc (suc tag)) h bytes mid x rest took e = absurd (let lt = ltb-true (suc (suc tag)) 2 h in omega arith)

fs_entry_ok : IsSpelledBy fs_entry fs_entry_bytes is_fs_entry
fs_entry_ok bytes x rest fits e =
    let s = bind_ok (number w8 (λ n. nat_lt n 2) bytes) fs_entry_of (x, rest) e in
    let n = byte_ok (λ n. nat_lt n 2) bytes s.0.0 s.0.1 fits s.1 in
    fs_entry_by s.0.0 n.keeps bytes s.0.1 x rest n.took s.2

abbrev spelled_entries : List (List ℕ × FsEntry) → List ℕ
spelled_entries es = flat_map (λ e. sized w8 e.0 ++ fs_entry_bytes e.1) es

abbrev an_fsnode : Summary → List (List ℕ × FsEntry) → Fsnode
an_fsnode s es = record { summary = s; entries = es }

fsnode_by : (b0 b1 b2 b3 b4 : List ℕ) (s : Summary) (es : List (List ℕ × FsEntry)) → Took b0 (0x46 ∷ []) b1 → Took b1 (1 ∷ []) b2 → Took b2 (summary_bytes s) b3 × (is_summary s ≡ true)
    → Took b3 (to_be_bytes w32 (length es) ++ spelled_entries es) b4 × (are_entries es ≡ true) × (list_all (λ e. is_fs_entry e.1) es ≡ true)
    → Took b0 (fsnode_bytes (an_fsnode s es)) b4 × (is_fsnode (an_fsnode s es) ≡ true)
fsnode_by b0 b1 b2 b3 b4 s es t1 t2 t3 t4 =
    let count : List ℕ = to_be_bytes w32 (length es) in
    let end : Took b3 (count ++ (spelled_entries es ++ [])) b4 = subst (λ t. Took b3 (count ++ t) b4) (sym (append-nil (spelled_entries es))) t4.0 in (
      took_then b0 (0x46 ∷ []) b1 ((1 ∷ []) ++ (summary_bytes s ++ (count ++ (spelled_entries es ++ [])))) b4 t1
          (took_then b1 (1 ∷ []) b2 (summary_bytes s ++ (count ++ (spelled_entries es ++ []))) b4 t2
          (took_then b2 (summary_bytes s) b3 (count ++ (spelled_entries es ++ [])) b4 t3.0 end)),
      and_from _ _ (and_from _ _ t3.1 t4.1) t4.2,
    )

fsnode_ok : IsSpelledBy fsnode_fields fsnode_bytes is_fsnode
fsnode_ok bytes n rest fits eq =
    let after_version : Reader Fsnode = summary >>= λ s. number w32 any >>= λ count. entries fs_entry count None >>= λ es. value (an_fsnode s es) in
    let s1 = bind_ok (exactly (0x46 ∷ []) bytes) (λ _. exactly (1 ∷ []) >>= λ _. after_version) (n, rest) eq in
    let t1 = exactly_ok (0x46 ∷ []) bytes s1.0.0 s1.0.1 fits s1.1 in
    let s2 = bind_ok (exactly (1 ∷ []) s1.0.1) (λ _. after_version) (n, rest) s1.2 in
    let t2 = exactly_ok (1 ∷ []) s1.0.1 s2.0.0 s2.0.1 t1.left s2.1 in
    let s3 = bind_ok (summary s2.0.1) (λ s. number w32 any >>= λ count. entries fs_entry count None >>= λ es. value (an_fsnode s es)) (n, rest) s2.2 in
    let s = s3.0.0 in
    let t3 = summary_ok s2.0.1 s s3.0.1 t2.left s3.1 in
    let s4 = bind_ok (number w32 any s3.0.1) (λ count. entries fs_entry count None >>= λ es. value (an_fsnode s es)) (n, rest) s3.2 in
    let s5 = bind_ok (entries fs_entry s4.0.0 None s4.0.1) (λ es. value (an_fsnode s es)) (n, rest) s4.2 in
    let es = s5.0.0 in
    let t4 = counted_ok fs_entry fs_entry_bytes is_fs_entry fs_entry_ok s3.0.1 s4.0.1 s4.0.0 es s5.0.1 t3.0.left s4.1 s5.1 in
    let all = fsnode_by bytes s1.0.1 s2.0.1 s3.0.1 s5.0.1 s es t1 t2 t3 t4 in
    let last = value_ok (an_fsnode s es) n s5.0.1 rest s5.2 in
    subst (λ n. Took bytes (fsnode_bytes n) rest × (is_fsnode n ≡ true)) last.0 (subst (λ r. Took bytes (fsnode_bytes (an_fsnode s es)) r) last.1 all.0, all.1)

-- bytes that are read as a node are its spelling, each byte of them
of_whole : {X : Type 0} (r : Reader X) (spell : X → List ℕ) (good : X → Bool) → IsSpelledBy r spell good → (bytes : List ℕ) (x : X) → IsBytes bytes → r bytes ≡ Ok (x, []) → (good x ≡ true) × (bytes ≡ spell x)
of_whole r spell good each bytes x fits e =
    let t = each bytes x [] fits e in
    (t.1, t.0.parts ∙ append-nil (spell x))

-- Bytes are read as an fsnode exactly where they spell it.
pub fsnode_read_exactly : (bytes : List ℕ) (n : Fsnode) → IsBytes bytes → ((fsnode_of bytes ≡ Ok n) ↔ ((is_fsnode n ≡ true) × (bytes ≡ fsnode_bytes n)))
fsnode_read_exactly bytes n fits =
    (λ e. of_whole fsnode_fields fsnode_bytes is_fsnode fsnode_ok bytes n fits (whole_ok (length bytes) (fsnode_fields bytes) n e), λ s. ap fsnode_of s.1 ∙ fsnode_is_read n s.0)

-- ---- unodes

record ParentsRead (n : ℕ) (bytes : List ℕ) (ps : List Id) (rest : List ℕ) : Type 0 where
  took : Took bytes (concat ps) rest
  len : length ps ≡ n
  short : nat_le (length ps) 2 ≡ true
  good : list_all (is_bytes 32) ps ≡ true

parents_by : (n : ℕ) → nat_lt n 3 ≡ true → (bytes : List ℕ) (ps : List Id) (rest : List ℕ) → IsBytes bytes → times n id bytes ≡ Ok (ps, rest) → ParentsRead n bytes ps rest
parents_by zero h bytes ps rest fits eq =
    let last = value_ok [] ps bytes rest eq in
    subst (λ ps. ParentsRead 0 bytes ps rest) last.0 (record { took = subst (λ r. Took bytes [] r) last.1 (took_end bytes fits); len = refl; short = refl; good = refl })
parents_by (suc zero) h bytes ps rest fits eq =
    let s1 = bind_ok (id bytes) (λ x. times 0 id >>= λ xs. value (x ∷ xs)) (ps, rest) eq in
    let p = s1.0.0 in
    let n = id_ok bytes p s1.0.1 fits s1.1 in
    let last = value_ok (p ∷ []) ps s1.0.1 rest s1.2 in
    subst (λ ps. ParentsRead 1 bytes ps rest) last.0 (record {
      took = subst (λ r. Took bytes (p ++ []) r) last.1 (took_then bytes p s1.0.1 [] s1.0.1 n.took (took_end s1.0.1 n.took.left));
      len = refl;
      short = refl;
      good = and_from _ _ n.good refl;
    })
parents_by (suc (suc zero)) h bytes ps rest fits eq =
    let s1 = bind_ok (id bytes) (λ x. times 1 id >>= λ xs. value (x ∷ xs)) (ps, rest) eq in
    let p = s1.0.0 in
    let n = id_ok bytes p s1.0.1 fits s1.1 in
    let s2 = bind_ok (times 1 id s1.0.1) (λ xs. value (p ∷ xs)) (ps, rest) s1.2 in
    let qs = s2.0.0 in
    let r = parents_by (suc zero) refl s1.0.1 qs s2.0.1 n.took.left s2.1 in
    let last = value_ok (p ∷ qs) ps s2.0.1 rest s2.2 in
    subst (λ ps. ParentsRead 2 bytes ps rest) last.0 (record {
      took = subst (λ r. Took bytes (p ++ concat qs) r) last.1 (took_then bytes p s1.0.1 (concat qs) s2.0.1 n.took r.took);
      len = ap suc r.len;
      short = let len = r.len in le-leb (length (p ∷ qs)) 2 (omega arith);
      good = and_from _ _ n.good r.good;
    })
parents_by (suc (suc (suc n))) h bytes ps rest fits eq = absurd (let lt = ltb-true (suc (suc (suc n))) 3 h in omega arith)

-- the version, and the parents behind their count
record NodeParentsRead (bytes : List ℕ) (ps : List Id) (rest : List ℕ) : Type 0 where
  took : Took bytes (1 ∷ length ps ∷ concat ps) rest
  short : nat_le (length ps) 2 ≡ true
  good : list_all (is_bytes 32) ps ≡ true

node_parents_ok : (bytes : List ℕ) (ps : List Id) (rest : List ℕ) → IsBytes bytes → node_parents bytes ≡ Ok (ps, rest) → NodeParentsRead bytes ps rest
node_parents_ok bytes ps rest fits eq =
    let s1 = bind_ok (exactly (1 ∷ []) bytes) (λ _. number w8 (λ n. nat_lt n 3) >>= λ count. times count id) (ps, rest) eq in
    let t1 = exactly_ok (1 ∷ []) bytes s1.0.0 s1.0.1 fits s1.1 in
    let s2 = bind_ok (number w8 (λ n. nat_lt n 3) s1.0.1) (λ count. times count id) (ps, rest) s1.2 in
    let n = byte_ok (λ n. nat_lt n 3) s1.0.1 s2.0.0 s2.0.1 t1.left s2.1 in
    let r = parents_by s2.0.0 n.keeps s2.0.1 ps rest n.took.left s2.2 in
    record {
      took = took_then bytes (1 ∷ []) s1.0.1 (length ps ∷ concat ps) rest t1 (took_then s1.0.1 (length ps ∷ []) s2.0.1 (concat ps) rest (subst (λ m. Took s1.0.1 (m ∷ []) s2.0.1) (sym r.len) n.took) r.took);
      short = r.short;
      good = r.good;
    }

unode_entry_by : (tag : ℕ) → nat_lt tag 2 ≡ true → (bytes mid : List ℕ) (y : Id) (rest : List ℕ) → Took bytes (tag ∷ []) mid → Took mid y rest → is_bytes 32 y ≡ true → Took bytes (unode_entry_bytes (unode_entry_for tag y)) rest × (is_unode_entry (unode_entry_for tag y) ≡ true)
unode_entry_by zero h bytes mid y rest first second good = (took_then bytes (0 ∷ []) mid y rest first second, good)
unode_entry_by (suc zero) h bytes mid y rest first second good = (took_then bytes (1 ∷ []) mid y rest first second, good)
unode_entry_by (suc (suc tag)) h bytes mid y rest first second good = absurd (let lt = ltb-true (suc (suc tag)) 2 h in omega arith)

unode_entry_ok : IsSpelledBy one_unode_entry unode_entry_bytes is_unode_entry
unode_entry_ok bytes x rest fits e =
    let s1 = bind_ok (number w8 (λ n. nat_lt n 2) bytes) (λ tag. id >>= λ y. value (unode_entry_for tag y)) (x, rest) e in
    let n1 = byte_ok (λ n. nat_lt n 2) bytes s1.0.0 s1.0.1 fits s1.1 in
    let s2 = bind_ok (id s1.0.1) (λ y. value (unode_entry_for s1.0.0 y)) (x, rest) s1.2 in
    let n2 = id_ok s1.0.1 s2.0.0 s2.0.1 n1.took.left s2.1 in
    let last = value_ok (unode_entry_for s1.0.0 s2.0.0) x s2.0.1 rest s2.2 in
    let all = unode_entry_by s1.0.0 n1.keeps bytes s1.0.1 s2.0.0 s2.0.1 n1.took n2.took n2.good in
    subst (λ x. Took bytes (unode_entry_bytes x) rest × (is_unode_entry x ≡ true)) last.0 (subst (λ r. Took bytes (unode_entry_bytes (unode_entry_for s1.0.0 s2.0.0)) r) last.1 all.0, all.1)

-- a unode behind its mark
abbrev IsMarked : ℕ → List ℕ → Unode → List ℕ → Type 0
IsMarked mark bytes n rest = (before : List ℕ) → Took before (mark ∷ []) bytes → Took before (unode_bytes n) rest × (is_unode n ≡ true)

abbrev unode_entries : List (List ℕ × UnodeEntry) → List ℕ
unode_entries es = flat_map (λ e. sized w8 e.0 ++ unode_entry_bytes e.1) es

manifest_by : (b0 b1 b2 b3 : List ℕ) (ps : List Id) (link : Id) (es : List (List ℕ × UnodeEntry)) → NodeParentsRead b0 ps b1 → Took b1 link b2 → is_bytes 32 link ≡ true
    → Took b2 (to_be_bytes w32 (length es) ++ unode_entries es) b3 × (are_entries es ≡ true) × (list_all (λ e. is_unode_entry e.1) es ≡ true) → IsMarked 0x55 b0 (Manifest ps link es) b3
manifest_by b0 b1 b2 b3 ps link es t1 t2 good t3 before mark =
    let count : List ℕ = to_be_bytes w32 (length es) in
    let end : Took b2 (count ++ (unode_entries es ++ [])) b3 = subst (λ t. Took b2 (count ++ t) b3) (sym (append-nil (unode_entries es))) t3.0 in (
      took_then before (0x55 ∷ []) b0 (1 ∷ length ps ∷ (concat ps ++ (link ++ (count ++ (unode_entries es ++ []))))) b3 mark
          (took_then b0 (1 ∷ length ps ∷ concat ps) b1 (link ++ (count ++ (unode_entries es ++ []))) b3 t1.took
          (took_then b1 link b2 (count ++ (unode_entries es ++ [])) b3 t2 end)),
      and_from _ _ (and_from _ _ (and_from _ _ t1.short (and_from _ _ good t1.good)) t3.1) t3.2,
    )

manifest_ok : (bytes : List ℕ) (n : Unode) (rest : List ℕ) → IsBytes bytes → manifest bytes ≡ Ok (n, rest) → IsMarked 0x55 bytes n rest
manifest_ok bytes n rest fits eq =
    let s1 = bind_ok (node_parents bytes) (λ ps. id >>= λ link. number w32 any >>= λ count. entries one_unode_entry count None >>= λ es. value (Manifest ps link es)) (n, rest) eq in
    let ps = s1.0.0 in
    let t1 = node_parents_ok bytes ps s1.0.1 fits s1.1 in
    let s2 = bind_ok (id s1.0.1) (λ link. number w32 any >>= λ count. entries one_unode_entry count None >>= λ es. value (Manifest ps link es)) (n, rest) s1.2 in
    let link = s2.0.0 in
    let t2 = id_ok s1.0.1 link s2.0.1 t1.took.left s2.1 in
    let s3 = bind_ok (number w32 any s2.0.1) (λ count. entries one_unode_entry count None >>= λ es. value (Manifest ps link es)) (n, rest) s2.2 in
    let s4 = bind_ok (entries one_unode_entry s3.0.0 None s3.0.1) (λ es. value (Manifest ps link es)) (n, rest) s3.2 in
    let es = s4.0.0 in
    let t3 = counted_ok one_unode_entry unode_entry_bytes is_unode_entry unode_entry_ok s2.0.1 s3.0.1 s3.0.0 es s4.0.1 t2.took.left s3.1 s4.1 in
    let last = value_ok (Manifest ps link es) n s4.0.1 rest s4.2 in
    subst (λ n. IsMarked 0x55 bytes n rest) last.0 (subst (λ r. IsMarked 0x55 bytes (Manifest ps link es) r) last.1 (manifest_by bytes s1.0.1 s2.0.1 s4.0.1 ps link es t1 t2.took t2.good t3))

file_by : (b0 b1 b2 b3 b4 b5 : List ℕ) (ps : List Id) (content : Id) (k : ℕ) (hash link : Id) → NodeParentsRead b0 ps b1 → Took b1 content b2 → Took b2 (k ∷ []) b3 → nat_lt k 3 ≡ true → Took b3 hash b4 → Took b4 link b5
    → is_bytes 32 content ≡ true → is_bytes 32 hash ≡ true → is_bytes 32 link ≡ true → IsMarked 0x56 b0 (FileUnode ps content (kind_of k) hash link) b5
file_by b0 b1 b2 b3 b4 b5 ps content k hash link t1 t2 t3 small t4 t5 g2 g4 g5 before mark =
    let kind : Took b2 (kind_byte (kind_of k) ∷ []) b3 = subst (λ m. Took b2 (m ∷ []) b3) (sym (kind_byte-kind_of k small)) t3 in (
      took_then before (0x56 ∷ []) b0 (1 ∷ length ps ∷ (concat ps ++ (content ++ (kind_byte (kind_of k) ∷ (hash ++ (link ++ [])))))) b5 mark
          (took_then b0 (1 ∷ length ps ∷ concat ps) b1 (content ++ (kind_byte (kind_of k) ∷ (hash ++ (link ++ [])))) b5 t1.took
          (took_then b1 content b2 (kind_byte (kind_of k) ∷ (hash ++ (link ++ []))) b5 t2
          (took_then b2 (kind_byte (kind_of k) ∷ []) b3 (hash ++ (link ++ [])) b5 kind
          (took_then b3 hash b4 (link ++ []) b5 t4 (subst (λ t. Took b4 t b5) (sym (append-nil link)) t5))))),
      and_from _ _ t1.short (and_from _ _ g2 (and_from _ _ g4 (and_from _ _ g5 t1.good))),
    )

file_unode_ok : (bytes : List ℕ) (n : Unode) (rest : List ℕ) → IsBytes bytes → file_unode bytes ≡ Ok (n, rest) → IsMarked 0x56 bytes n rest
file_unode_ok bytes n rest fits eq =
    let s1 = bind_ok (node_parents bytes) (λ ps. id >>= λ content. number w8 (λ n. nat_lt n 3) >>= λ kind. id >>= λ hash. id >>= λ link. value (FileUnode ps content (kind_of kind) hash link)) (n, rest) eq in
    let ps = s1.0.0 in
    let t1 = node_parents_ok bytes ps s1.0.1 fits s1.1 in
    let s2 = bind_ok (id s1.0.1) (λ content. number w8 (λ n. nat_lt n 3) >>= λ kind. id >>= λ hash. id >>= λ link. value (FileUnode ps content (kind_of kind) hash link)) (n, rest) s1.2 in
    let content = s2.0.0 in
    let t2 = id_ok s1.0.1 content s2.0.1 t1.took.left s2.1 in
    let s3 = bind_ok (number w8 (λ n. nat_lt n 3) s2.0.1) (λ kind. id >>= λ hash. id >>= λ link. value (FileUnode ps content (kind_of kind) hash link)) (n, rest) s2.2 in
    let k = s3.0.0 in
    let t3 = byte_ok (λ n. nat_lt n 3) s2.0.1 k s3.0.1 t2.took.left s3.1 in
    let s4 = bind_ok (id s3.0.1) (λ hash. id >>= λ link. value (FileUnode ps content (kind_of k) hash link)) (n, rest) s3.2 in
    let hash = s4.0.0 in
    let t4 = id_ok s3.0.1 hash s4.0.1 t3.took.left s4.1 in
    let s5 = bind_ok (id s4.0.1) (λ link. value (FileUnode ps content (kind_of k) hash link)) (n, rest) s4.2 in
    let link = s5.0.0 in
    let t5 = id_ok s4.0.1 link s5.0.1 t4.took.left s5.1 in
    let last = value_ok (FileUnode ps content (kind_of k) hash link) n s5.0.1 rest s5.2 in
    subst (λ n. IsMarked 0x56 bytes n rest) last.0 (subst (λ r. IsMarked 0x56 bytes (FileUnode ps content (kind_of k) hash link) r) last.1
    (file_by bytes s1.0.1 s2.0.1 s3.0.1 s4.0.1 s5.0.1 ps content k hash link t1 t2.took t3.took t3.keeps t4.took t5.took t2.good t4.good t5.good))

by_mark : (mark : ℕ) (b : Bool) → (mark == 0x55) ≡ b → (b || (mark == 0x56)) ≡ true → (bytes : List ℕ) (n : Unode) (rest : List ℕ) → IsBytes bytes → cond b manifest file_unode bytes ≡ Ok (n, rest) → IsMarked mark bytes n rest
by_mark mark true is either bytes n rest fits e = subst (λ m. IsMarked m bytes n rest) (sym (eqb-true mark 0x55 is)) (manifest_ok bytes n rest fits e)
by_mark mark false is either bytes n rest fits e = subst (λ m. IsMarked m bytes n rest) (sym (eqb-true mark 0x56 either)) (file_unode_ok bytes n rest fits e)

unode_ok : IsSpelledBy unode_fields unode_bytes is_unode
unode_ok bytes n rest fits e =
    let s = bind_ok (number w8 (λ n. n == 0x55 || n == 0x56) bytes) (λ mark. if mark == 0x55 then manifest else file_unode) (n, rest) e in
    let m = byte_ok (λ n. n == 0x55 || n == 0x56) bytes s.0.0 s.0.1 fits s.1 in
    by_mark s.0.0 (s.0.0 == 0x55) refl m.keeps s.0.1 n rest m.took.left s.2 bytes m.took

-- Bytes are read as a unode exactly where they spell it.
pub unode_read_exactly : (bytes : List ℕ) (n : Unode) → IsBytes bytes → ((unode_of bytes ≡ Ok n) ↔ ((is_unode n ≡ true) × (bytes ≡ unode_bytes n)))
unode_read_exactly bytes n fits =
    (λ e. of_whole unode_fields unode_bytes is_unode unode_ok bytes n fits (whole_ok (length bytes) (unode_fields bytes) n e), λ s. ap unode_of s.1 ∙ unode_is_read n s.0)

-- what is read as a manifest behind its mark keeps the rules of its fields
pub manifest_valid : (bytes : List ℕ) (n : Unode) (rest : List ℕ) → IsBytes bytes → manifest bytes ≡ Ok (n, rest) → is_unode n ≡ true
manifest_valid bytes n rest fits e = (manifest_ok bytes n rest fits e (0x55 ∷ bytes) (record { parts = refl; left = fits })).1
