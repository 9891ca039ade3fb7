-- What is spelled is read again, whatever follows it.
use Rattle.std.proofs.Common.{◌≡◌, ℕ, ◌^◌, ◌<◌, ◌≤◌, Bool, true, false, cond, not, ◌&&◌, List, [], ◌∷◌, ◌++◌, length, refl, sym, ap, subst, ◌∙◌, arith, ℤ, pos, negsuc, SFits, length-append}
use Rattle.std.specs.Prelude.{Option, Some, None, Result, Ok, Err, nat_le, nat_lt, ◌==◌, bytes_eq, flat_map}
use Rattle.std.specs.List.{list_all, concat, onto_first}
use Rattle.std.specs.Int.{w8, w16, w32, w64, from_be_bytes, to_be_bytes, cast_signed, cast_unsigned}
use Rattle.std.specs.Cmp.{first_so, second_so, nat_eq_equiv}
use Rattle.std.specs.FinMap.{is_sorted}
use Rattle.std.proofs.lemmas.Int.{to_z-of_z}
use Rattle.std.proofs.lemmas.Bool.{leb-true, ltb-true, eqb-true, and_parts, and_from, lt-ltb}
use Rattle.std.proofs.lemmas.List.{append-nil}
use Rattle.std.specs.Cmp.Lexicographic.{lists_equiv}
use Rattle.std.proofs.Math.Facts.{Fits-of_z}
use Rattle.std.proofs.lemmas.Nat.{from_be_bytes-to_be_bytes_4, from_be_bytes-to_be_bytes_8}
use Rattle.byte_fields.specs.Bytes.{Id, sized, is_bytes, is_line, is_text}
use Rattle.changeset_model.specs.Path.{Path, text_of, elements, is_element, is_path, path_lt, path_cmp}
use Rattle.changeset_model.specs.Version.{Version, First, Second, version_byte, is_version, version_of}
use Rattle.changeset_model.specs.Changeset.{Kind, Regular, Executable, Symlink, File, CopySource, FileChange, Set, Delete, Changeset, kind_byte, file_bytes, source_bytes, copied_bytes, is_copied, change_bytes, edit_bytes, spelling, most_size, are_parents, is_author, is_message, is_signed, is_change, are_changes, is_changeset}
use Rattle.byte_fields.specs.Reading.{Reader, value, ◌>>=◌, keeping, number, bytes_of, exactly, signed, id, read, whole}
use Rattle.changeset_model.specs.Decoding.{parents, parent_list, author, message, kind_of, file, a_source, source_for, source, copied, change_of, is_after, path, change, edit, edits, edit_list, changeset}
use Rattle.byte_fields.proofs.FieldLemmas.{Reads, reads_then, reads_last, reads_field, keeps, reads_number, reads_with_len, spelled_8, spelled_16, spelled_32, spelled_64}

-- ---- paths as texts

pub is_false : (b : Bool) → not b ≡ true → b ≡ false
is_false true h = sym h
is_false false h = refl

pub elements-slash : (e t : List ℕ) → list_all (λ b. not (b == 0x2F)) e ≡ true → elements (e ++ 0x2F ∷ t) ≡ e ∷ elements t
elements-slash [] t h = refl
elements-slash (b ∷ e) t h =
    (λ i. cond (is_false (b == 0x2F) (first_so _ (list_all (λ b. not (b == 0x2F)) e) h) i) ([] ∷ elements (e ++ 0x2F ∷ t)) (onto_first b (elements (e ++ 0x2F ∷ t))))
    ∙ ap (onto_first b) (elements-slash e t (second_so (not (b == 0x2F)) _ h))

elements-one : (e : List ℕ) → list_all (λ b. not (b == 0x2F)) e ≡ true → elements e ≡ e ∷ []
elements-one [] h = refl
elements-one (b ∷ e) h =
    (λ i. cond (is_false (b == 0x2F) (first_so _ (list_all (λ b. not (b == 0x2F)) e) h) i) ([] ∷ elements e) (onto_first b (elements e)))
    ∙ ap (onto_first b) (elements-one e (second_so (not (b == 0x2F)) _ h))

element_has_no_slash : (e : List ℕ) → is_element e ≡ true → list_all (λ b. not (b == 0x2F)) e ≡ true
element_has_no_slash e h = second_so _ _ (first_so _ _ (first_so _ _ h))

pub elements-text_of : (e : List ℕ) (p : Path) → list_all is_element (e ∷ p) ≡ true → elements (text_of (e ∷ p)) ≡ e ∷ p
elements-text_of e [] h = elements-one e (element_has_no_slash e (first_so _ true h))
elements-text_of e (f ∷ p) h =
    elements-slash e (text_of (f ∷ p)) (element_has_no_slash e (first_so (is_element e) _ h))
    ∙ ap (λ q. e ∷ q) (elements-text_of f p (second_so (is_element e) _ h))

-- ---- ids, numbers and files

pub bytes_eq_refl : (e : List ℕ) → bytes_eq e e ≡ true
bytes_eq_refl = (lists_equiv nat_eq_equiv).refl

pub len_of : (x : Id) → is_bytes 32 x ≡ true → length x ≡ 32
len_of x h = eqb-true (length x) 32 (and_parts _ _ h).0

pub reads_id : (x : Id) → is_bytes 32 x ≡ true → Reads id x x
reads_id x h = reads_field 32 (keeping (λ _. true)) x x (len_of x h) refl

pub reads_exactly : (e : List ℕ) → Reads (exactly e) e e
reads_exactly e = reads_field (length e) (keeping (bytes_eq e)) e e refl (keeps (bytes_eq e) e (bytes_eq_refl e))

pub fits_64 : (z : ℤ) → is_signed 64 z ≡ true → SFits w64 z
fits_64 (pos m) h = record { sfits = ltb-true m (2 ^ 63) h }
fits_64 (negsuc m) h = record { sfits = ltb-true m (2 ^ 63) h }

pub fits_32 : (z : ℤ) → is_signed 32 z ≡ true → SFits w32 z
fits_32 (pos m) h = record { sfits = ltb-true m (2 ^ 31) h }
fits_32 (negsuc m) h = record { sfits = ltb-true m (2 ^ 31) h }

reads_signed_64 : (z : ℤ) → is_signed 64 z ≡ true → Reads (signed w64) (to_be_bytes w64 (cast_unsigned w64 z)) z
reads_signed_64 z h =
    let fits = fits_64 z h in
    reads_field 8 (λ bytes. Some (cast_signed w64 (from_be_bytes w64 bytes))) (to_be_bytes w64 (cast_unsigned w64 z)) z refl (ap Some (ap (cast_signed w64) (from_be_bytes-to_be_bytes_8 (cast_unsigned w64 z) (Fits-of_z fits).fits) ∙ to_z-of_z w64 z fits))

reads_signed_32 : (z : ℤ) → is_signed 32 z ≡ true → Reads (signed w32) (to_be_bytes w32 (cast_unsigned w32 z)) z
reads_signed_32 z h =
    let fits = fits_32 z h in
    reads_field 4 (λ bytes. Some (cast_signed w32 (from_be_bytes w32 bytes))) (to_be_bytes w32 (cast_unsigned w32 z)) z refl (ap Some (ap (cast_signed w32) (from_be_bytes-to_be_bytes_4 (cast_unsigned w32 z) (Fits-of_z fits).fits) ∙ to_z-of_z w32 z fits))

small_64 : (n : ℕ) → nat_le n most_size ≡ true → n < 2 ^ 64
small_64 n h = let le : n ≤ 67_108_864 = leb-true n most_size h in omega arith

pub below_3 : (k : Kind) → nat_lt (kind_byte k) 3 ≡ true
below_3 Regular = refl
below_3 Executable = refl
below_3 Symlink = refl

kind_back : (k : Kind) → kind_of (kind_byte k) ≡ k
kind_back Regular = refl
kind_back Executable = refl
kind_back Symlink = refl

abbrev pub a_file : ℕ → ℕ → Id → File
a_file kind size content = record { content = content; kind = kind_of kind; size = size }

pub reads_file : (rule : ℕ → Bool) (f : File) → f.size < 2 ^ 64 → rule f.size ≡ true → is_bytes 32 f.content ≡ true → Reads (file rule) (file_bytes f) f
reads_file rule f small h c =
    reads_then (number w8 (λ n. nat_lt n 3)) (λ kind. number w64 rule >>= λ size. id >>= λ content. value (a_file kind size content)) (kind_byte f.kind ∷ []) (to_be_bytes w64 f.size ++ (f.content ++ [])) (kind_byte f.kind) f
    (reads_number w8 (λ n. nat_lt n 3) (kind_byte f.kind ∷ []) (kind_byte f.kind) (spelled_8 (kind_byte f.kind)) (below_3 f.kind))
    (reads_then (number w64 rule) (λ size. id >>= λ content. value (a_file (kind_byte f.kind) size content)) (to_be_bytes w64 f.size) (f.content ++ []) f.size f
    (reads_number w64 rule (to_be_bytes w64 f.size) f.size (spelled_64 f.size small) h)
    (reads_then id (λ content. value (a_file (kind_byte f.kind) f.size content)) f.content [] f.content f
    (reads_id f.content c)
    (λ rest. ap (λ k. Ok (record { content = f.content; kind = k; size = f.size }, rest)) (kind_back f.kind))))

-- ---- parents, texts and changes

reads_parents : (ps : List Id) → are_parents ps ≡ true → Reads parent_list ((length ps ∷ []) ++ concat ps) ps
reads_parents [] h =
    reads_then (number w8 (λ n. nat_lt n 3)) parents (0 ∷ []) [] 0 []
    (reads_number w8 (λ n. nat_lt n 3) (0 ∷ []) 0 (spelled_8 0) refl) (λ rest. refl)
reads_parents (p ∷ []) h =
    reads_then (number w8 (λ n. nat_lt n 3)) parents (1 ∷ []) (p ++ []) 1 (p ∷ [])
    (reads_number w8 (λ n. nat_lt n 3) (1 ∷ []) 1 (spelled_8 1) refl)
    (reads_then id (λ first. value (first ∷ [])) p [] p (p ∷ []) (reads_id p h) (λ rest. refl))
reads_parents (p ∷ q ∷ []) h =
    let both = and_parts _ _ h in
    let ids = and_parts _ _ both.0 in
    reads_then (number w8 (λ n. nat_lt n 3)) parents (2 ∷ []) (p ++ (q ++ [])) 2 (p ∷ q ∷ [])
    (reads_number w8 (λ n. nat_lt n 3) (2 ∷ []) 2 (spelled_8 2) refl)
    (reads_then id (λ first. bytes_of 32 (λ x. not (bytes_eq first x)) >>= λ second. value (first ∷ second ∷ [])) p (q ++ []) p (p ∷ q ∷ [])
    (reads_id p ids.0)
    (reads_then (bytes_of 32 (λ x. not (bytes_eq p x))) (λ second. value (p ∷ second ∷ [])) q [] q (p ∷ q ∷ [])
    (reads_field 32 (keeping (λ x. not (bytes_eq p x))) q q (len_of q ids.1) (keeps (λ x. not (bytes_eq p x)) q both.1))
    (λ rest. refl)))
reads_parents (p ∷ q ∷ r ∷ ps) h = absurd (cc)

reads_author : (text : List ℕ) → is_author text ≡ true → Reads author (sized w16 text) text
reads_author text h =
    let both = and_parts (nat_lt 0 (length text) && nat_le (length text) 1024) (is_line text) h in
    let short : length text ≤ 1024 = leb-true (length text) 1024 (and_parts (nat_lt 0 (length text)) (nat_le (length text) 1024) both.0).1 in
    reads_with_len w16 (λ n. nat_lt 0 n && nat_le n 1024) (keeping is_line) text text (spelled_16 (length text) (omega arith)) both.0 (keeps is_line text both.1)

reads_message : (text : List ℕ) → is_message text ≡ true → Reads message (sized w32 text) text
reads_message text h =
    let both = and_parts (nat_le (length text) 1_048_576) (is_text text) h in
    let short : length text ≤ 1_048_576 = leb-true (length text) 1_048_576 both.0 in
    reads_with_len w32 (λ n. nat_le n 1_048_576) (keeping is_text) text text (spelled_32 (length text) (omega arith)) both.0 (keeps is_text text both.1)

pub path_elements : (p : Path) → is_path p ≡ true → list_all is_element p ≡ true
path_elements p h = second_so (nat_lt 0 (length p)) (list_all is_element p) (first_so _ (nat_le (length (text_of p)) 4096) h)

element_some : (e : List ℕ) → is_element e ≡ true → nat_lt 0 (length e) ≡ true
element_some e h = first_so _ _ (first_so _ _ (first_so _ _ (first_so _ _ (first_so _ _ h))))

some_text : (p : Path) → is_path p ≡ true → nat_lt 0 (length (text_of p)) ≡ true
some_text [] h = absurd (cc)
some_text (e ∷ []) h = element_some e (first_so (is_element e) true (path_elements (e ∷ []) h))
some_text (e ∷ f ∷ p) h = lt-ltb 0 (length (e ++ 0x2F ∷ text_of (f ∷ p))) (let sum = length-append e (0x2F ∷ text_of (f ∷ p)) in omega arith)

path_text : (p : Path) → is_path p ≡ true → elements (text_of p) ≡ p
path_text [] h = absurd (cc)
path_text (e ∷ p) h = elements-text_of e p (path_elements (e ∷ p) h)

reads_path : (before : Option Path) (p : Path) → is_path p ≡ true → is_after before p ≡ true → Reads (path before) (sized w16 (text_of p)) p
reads_path before p h a =
    let len : nat_le (length (text_of p)) 4096 ≡ true = second_so _ (nat_le (length (text_of p)) 4096) h in
    let short : length (text_of p) ≤ 4096 = leb-true (length (text_of p)) 4096 len in
    reads_with_len w16 (λ n. nat_lt 0 n && nat_le n 4096) (λ text. keeping (λ p. is_path p && is_after before p) (elements text)) (text_of p) p
    (spelled_16 (length (text_of p)) (omega arith))
    (and_from _ _ (some_text p h) len)
    (ap (keeping (λ p. is_path p && is_after before p)) (path_text p h) ∙ keeps (λ p. is_path p && is_after before p) p (and_from _ _ h a))

reads_source : (n : ℕ) (s : Option CopySource) → is_copied Second n s ≡ true → Reads (source n) (source_bytes s) s
reads_source n None h =
    reads_then (number w8 (λ n. nat_lt n 2)) (source_for n) (0 ∷ []) [] 0 None
    (reads_number w8 (λ n. nat_lt n 2) (0 ∷ []) 0 (spelled_8 0) refl) (λ rest. refl)
reads_source n (Some s) h =
    let both = and_parts (nat_lt s.parent n) (is_path s.path) h in
    reads_then (number w8 (λ n. nat_lt n 2)) (source_for n) (1 ∷ []) ((s.parent ∷ []) ++ sized w16 (text_of s.path)) 1 (Some s)
    (reads_number w8 (λ n. nat_lt n 2) (1 ∷ []) 1 (spelled_8 1) refl)
    (reads_then (number w8 (λ m. nat_lt m n)) (λ parent. path None >>= λ p. value (Some (a_source parent p))) (s.parent ∷ []) (sized w16 (text_of s.path)) s.parent (Some s)
    (reads_number w8 (λ m. nat_lt m n) (s.parent ∷ []) s.parent (spelled_8 s.parent) both.0)
    (reads_last (path None) (λ p. Some (a_source s.parent p)) (sized w16 (text_of s.path)) s.path (reads_path None s.path both.1 refl)))

reads_copied : (v : Version) (n : ℕ) (s : Option CopySource) → is_copied v n s ≡ true → Reads (copied v n) (copied_bytes v s) s
reads_copied First n None h = λ rest. refl
reads_copied First n (Some s) h = absurd (cc)
reads_copied Second n s h = reads_source n s h

reads_change : (v : Version) (n : ℕ) (c : FileChange) → is_change v n c ≡ true → Reads (change v n) (change_bytes v c) c
reads_change v n Delete h =
    reads_then (number w8 (λ n. nat_lt n 2)) (change_of v n) (0 ∷ []) [] 0 Delete
    (reads_number w8 (λ n. nat_lt n 2) (0 ∷ []) 0 (spelled_8 0) refl) (λ rest. refl)
reads_change v n (Set f s) h =
    let all = and_parts (nat_le f.size most_size && is_bytes 32 f.content) (is_copied v n s) h in
    let both = and_parts (nat_le f.size most_size) (is_bytes 32 f.content) all.0 in
    reads_then (number w8 (λ n. nat_lt n 2)) (change_of v n) (1 ∷ []) (file_bytes f ++ copied_bytes v s) 1 (Set f s)
    (reads_number w8 (λ n. nat_lt n 2) (1 ∷ []) 1 (spelled_8 1) refl)
    (reads_then (file (λ size. nat_le size most_size)) (λ f. copied v n >>= λ s. value (Set f s)) (file_bytes f) (copied_bytes v s) f (Set f s)
    (reads_file (λ size. nat_le size most_size) f (small_64 f.size both.0) both.0 both.1)
    (reads_last (copied v n) (λ s. Set f s) (copied_bytes v s) s (reads_copied v n s all.1)))

-- whether a path may stand before these changes
abbrev pub starts_after : Option Path → List (Path × FileChange) → Bool
starts_after before [] = true
starts_after before (e ∷ es) = is_after before e.0

next_after : (e : Path × FileChange) (es : List (Path × FileChange)) → is_sorted path_cmp (e ∷ es) ≡ true → starts_after (Some e.0) es ≡ true
next_after e [] h = refl
next_after e (f ∷ es) h = first_so (path_lt e.0 f.0) _ (first_so _ (is_sorted path_cmp (f ∷ es)) h)

reads_edits : (v : Version) (n : ℕ) (before : Option Path) (es : List (Path × FileChange)) → list_all (λ e. is_path e.0 && is_change v n e.1) es ≡ true → is_sorted path_cmp es ≡ true → starts_after before es ≡ true → Reads (edits v n (length es) before) (flat_map (edit_bytes v) es) es
reads_edits v n before [] each sorted first = λ rest. refl
reads_edits v n before (e ∷ es) each sorted first =
    let both = and_parts (is_path e.0) (is_change v n e.1) (first_so _ (list_all (λ e. is_path e.0 && is_change v n e.1) es) each) in
    reads_then (edit v n before) (λ e. edits v n (length es) (Some e.0) >>= λ es. value (e ∷ es)) (edit_bytes v e) (flat_map (edit_bytes v) es) e (e ∷ es)
    (reads_then (path before) (λ p. change v n >>= λ c. value (p, c)) (sized w16 (text_of e.0)) (change_bytes v e.1) e.0 e
    (reads_path before e.0 both.0 first)
    (reads_last (change v n) (λ c. (e.0, c)) (change_bytes v e.1) e.1 (reads_change v n e.1 both.1)))
    (reads_last (edits v n (length es) (Some e.0)) (λ es. e ∷ es) (flat_map (edit_bytes v) es) es
    (reads_edits v n (Some e.0) es (second_so (is_path e.0 && is_change v n e.1) _ each) (second_so _ (is_sorted path_cmp es) sorted) (next_after e es sorted)))

none_before : (es : List (Path × FileChange)) → starts_after None es ≡ true
none_before [] = refl
none_before (e ∷ es) = refl

reads_edit_list : (v : Version) (n : ℕ) (es : List (Path × FileChange)) → are_changes v n es ≡ true → Reads (edit_list v n) (to_be_bytes w32 (length es) ++ flat_map (edit_bytes v) es) es
reads_edit_list v n es h =
    let both = and_parts (nat_le (length es) 4096 && list_all (λ e. is_path e.0 && is_change v n e.1) es) (is_sorted path_cmp es) h in
    let parts = and_parts (nat_le (length es) 4096) (list_all (λ e. is_path e.0 && is_change v n e.1) es) both.0 in
    let short : length es ≤ 4096 = leb-true (length es) 4096 parts.0 in
    reads_then (number w32 (λ n. nat_le n 4096)) (λ count. edits v n count None) (to_be_bytes w32 (length es)) (flat_map (edit_bytes v) es) (length es) es
    (reads_number w32 (λ n. nat_le n 4096) (to_be_bytes w32 (length es)) (length es) (spelled_32 (length es) (omega arith)) parts.0)
    (reads_edits v n None es parts.1 both.1 (none_before es))

-- ---- a changeset

abbrev pub put_together : Version → List Id → List ℕ → ℤ → ℤ → List ℕ → List (Path × FileChange) → Changeset
put_together version parents author seconds offset message changes = record { version = version; parents = parents; author = author; seconds = seconds; offset = offset; message = message; changes = changes }

abbrev pub from_message : Version → List Id → List ℕ → ℤ → ℤ → Reader Changeset
from_message v ps a s o = message >>= λ m. edit_list v (length ps) >>= λ es. value (put_together v ps a s o m es)

abbrev pub from_author : Version → List Id → Reader Changeset
from_author v ps = author >>= λ a. signed w64 >>= λ s. signed w32 >>= λ o. from_message v ps a s o

abbrev pub from_message_bytes : Changeset → List ℕ
from_message_bytes c = sized w32 c.message ++ (to_be_bytes w32 (length c.changes) ++ (flat_map (edit_bytes c.version) c.changes ++ []))

abbrev pub from_author_bytes : Changeset → List ℕ
from_author_bytes c = sized w16 c.author ++ (to_be_bytes w64 (cast_unsigned w64 c.seconds) ++ (to_be_bytes w32 (cast_unsigned w32 c.offset) ++ from_message_bytes c))

reads_from_message : (c : Changeset) → is_message c.message ≡ true → are_changes c.version (length c.parents) c.changes ≡ true → Reads (from_message c.version c.parents c.author c.seconds c.offset) (from_message_bytes c) c
reads_from_message c m e =
    reads_then message (λ m. edit_list c.version (length c.parents) >>= λ es. value (put_together c.version c.parents c.author c.seconds c.offset m es)) (sized w32 c.message) (to_be_bytes w32 (length c.changes) ++ (flat_map (edit_bytes c.version) c.changes ++ [])) c.message c
    (reads_message c.message m)
    (reads_then (edit_list c.version (length c.parents)) (λ es. value (put_together c.version c.parents c.author c.seconds c.offset c.message es)) (to_be_bytes w32 (length c.changes) ++ flat_map (edit_bytes c.version) c.changes) [] c.changes c
    (reads_edit_list c.version (length c.parents) c.changes e) (λ rest. refl))

reads_from_author : (c : Changeset) → is_changeset c ≡ true → Reads (from_author c.version c.parents) (from_author_bytes c) c
reads_from_author c h =
    let e = and_parts (are_parents c.parents && is_author c.author && is_signed 64 c.seconds && is_signed 32 c.offset && is_message c.message) (are_changes c.version (length c.parents) c.changes) h in
    let m = and_parts (are_parents c.parents && is_author c.author && is_signed 64 c.seconds && is_signed 32 c.offset) (is_message c.message) e.0 in
    let o = and_parts (are_parents c.parents && is_author c.author && is_signed 64 c.seconds) (is_signed 32 c.offset) m.0 in
    let s = and_parts (are_parents c.parents && is_author c.author) (is_signed 64 c.seconds) o.0 in
    let a = and_parts (are_parents c.parents) (is_author c.author) s.0 in
    reads_then author (λ a. signed w64 >>= λ s. signed w32 >>= λ o. from_message c.version c.parents a s o) (sized w16 c.author) (to_be_bytes w64 (cast_unsigned w64 c.seconds) ++ (to_be_bytes w32 (cast_unsigned w32 c.offset) ++ from_message_bytes c)) c.author c
    (reads_author c.author a.1)
    (reads_then (signed w64) (λ s. signed w32 >>= λ o. from_message c.version c.parents c.author s o) (to_be_bytes w64 (cast_unsigned w64 c.seconds)) (to_be_bytes w32 (cast_unsigned w32 c.offset) ++ from_message_bytes c) c.seconds c
    (reads_signed_64 c.seconds s.1)
    (reads_then (signed w32) (λ o. from_message c.version c.parents c.author c.seconds o) (to_be_bytes w32 (cast_unsigned w32 c.offset)) (from_message_bytes c) c.offset c
    (reads_signed_32 c.offset o.1)
    (reads_from_message c m.1 e.1)))

are_parents_of : (c : Changeset) → is_changeset c ≡ true → are_parents c.parents ≡ true
are_parents_of c h =
    let e = and_parts (are_parents c.parents && is_author c.author && is_signed 64 c.seconds && is_signed 32 c.offset && is_message c.message) (are_changes c.version (length c.parents) c.changes) h in
    let m = and_parts (are_parents c.parents && is_author c.author && is_signed 64 c.seconds && is_signed 32 c.offset) (is_message c.message) e.0 in
    let o = and_parts (are_parents c.parents && is_author c.author && is_signed 64 c.seconds) (is_signed 32 c.offset) m.0 in
    let s = and_parts (are_parents c.parents && is_author c.author) (is_signed 64 c.seconds) o.0 in
    (and_parts (are_parents c.parents) (is_author c.author) s.0).0

version_good : (v : Version) → is_version (version_byte v) ≡ true
version_good First = refl
version_good Second = refl

pub version_back : (v : Version) → version_of (version_byte v) ≡ v
version_back First = refl
version_back Second = refl

-- whatever follows the spelling of a changeset
pub reads_changeset : (c : Changeset) → is_changeset c ≡ true → Reads changeset (spelling c) c
reads_changeset c h =
    reads_then (exactly (0x43 ∷ [])) (λ _. number w8 is_version >>= λ v. parent_list >>= from_author (version_of v)) (0x43 ∷ []) ((version_byte c.version ∷ []) ++ (((length c.parents ∷ []) ++ concat c.parents) ++ from_author_bytes c)) (0x43 ∷ []) c
    (reads_exactly (0x43 ∷ []))
    (reads_then (number w8 is_version) (λ v. parent_list >>= from_author (version_of v)) (version_byte c.version ∷ []) (((length c.parents ∷ []) ++ concat c.parents) ++ from_author_bytes c) (version_byte c.version) c
    (reads_number w8 is_version (version_byte c.version ∷ []) (version_byte c.version) (spelled_8 (version_byte c.version)) (version_good c.version))
    (subst (λ v. Reads (parent_list >>= from_author v) (((length c.parents ∷ []) ++ concat c.parents) ++ from_author_bytes c) c) (sym (version_back c.version))
    (reads_then parent_list (from_author c.version) ((length c.parents ∷ []) ++ concat c.parents) (from_author_bytes c) c.parents c
    (reads_parents c.parents (are_parents_of c h))
    (reads_from_author c h))))

pub read-spelling : (c : Changeset) → is_changeset c ≡ true → read changeset (spelling c) ≡ Ok c
read-spelling c h = ap (whole (length (spelling c))) (ap changeset (sym (append-nil (spelling c))) ∙ reads_changeset c h [])

-- no two changesets have one spelling
pub one_spelling : (c d : Changeset) → is_changeset c ≡ true → is_changeset d ≡ true → spelling c ≡ spelling d → c ≡ d
one_spelling c d h g same = same_ok (sym (read-spelling c h) ∙ ap (read changeset) same ∙ read-spelling d g)
  where
    ok_or_c : Result Changeset ℕ → Changeset
    ok_or_c (Ok x) = x
    ok_or_c (Err n) = c

    same_ok : ◌≡◌ {A = Result Changeset ℕ} (Ok c) (Ok d) → c ≡ d
    same_ok e = ap ok_or_c e
