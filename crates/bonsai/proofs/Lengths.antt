-- How long the encoding of a changeset is.
use Rattle.std.proofs.Common.{◌≡◌, ℕ, ◌+◌, ◌*◌, ◌^◌, ◌<◌, ◌≤◌, true, List, [], ◌∷◌, ◌++◌, length, ap, arith, length-append}
use Rattle.std.specs.Prelude.{◌&&◌, not, Option, None, Some, nat_lt, nat_le, bytes_eq, flat_map}
use Rattle.std.specs.List.{list_all, concat}
use Rattle.std.specs.FinMap.{is_sorted}
use Rattle.std.proofs.lemmas.Bool.{and_parts}
use Rattle.std.proofs.lemmas.List.{append-nil}
use Rattle.byte_fields.specs.Bytes.{Id, is_bytes}
use Rattle.changeset_model.specs.Version.{Version, First, Second}
use Rattle.changeset_model.specs.Path.{Path, text_of, is_path, path_cmp}
use Rattle.changeset_model.specs.Changeset.{CopySource, FileChange, Set, Delete, Changeset, is_copied, file_bytes, copied_bytes, change_bytes, edit_bytes, spelling, most_size, is_changeset, are_parents, is_author, is_signed, is_message, is_change, are_changes}
use Rattle.bonsai.proofs.Rules.{short_parts}
use Rattle.changeset_model.proofs.Spelling.{len_of as id_long}
use Rattle.repo_path.proofs.Faults.{path_is_short as path_short}

parents_short : (ps : List Id) → are_parents ps ≡ true → length (concat ps) ≤ 64
parents_short [] h = omega arith
parents_short (p ∷ []) h = let len = id_long p h in simp length-append (omega arith)
parents_short (p ∷ q ∷ []) h =
    let ids = (and_parts (is_bytes 32 p && is_bytes 32 q) (not (bytes_eq p q)) h).0 in
    let both = and_parts (is_bytes 32 p) (is_bytes 32 q) ids in
    let first = id_long p both.0 in
    let second = id_long q both.1 in
    simp length-append (omega arith)
parents_short (p ∷ q ∷ r ∷ ps) h = absurd (cc)

source_short : (v : Version) (n : ℕ) (s : Option CopySource) → is_copied v n s ≡ true → length (copied_bytes v s) ≤ 4100
source_short First n s h = omega arith
source_short Second n None h = omega arith
source_short Second n (Some s) h = let path = path_short s.path (and_parts (nat_lt s.parent n) (is_path s.path) h).1 in omega arith

change_short : (v : Version) (n : ℕ) (c : FileChange) → is_change v n c ≡ true → length (change_bytes v c) ≤ 4142
change_short v n Delete h = omega arith
change_short v n (Set f copied) h =
    let both = and_parts (nat_le f.size most_size && is_bytes 32 f.content) (is_copied v n copied) h in
    let len = id_long f.content (and_parts (nat_le f.size most_size) (is_bytes 32 f.content) both.0).1 in
    let source = source_short v n copied both.1 in
    let end : length (f.content ++ []) ≡ length f.content = ap length (append-nil f.content) in
    let whole = length-append (file_bytes f) (copied_bytes v copied) in
    omega (arith, len, source, end, whole)

edit_short : (v : Version) (n : ℕ) (e : Path × FileChange) → is_path e.0 && is_change v n e.1 ≡ true → length (edit_bytes v e) ≤ 8240
edit_short v n e h =
    let both = and_parts (is_path e.0) (is_change v n e.1) h in
    let path = path_short e.0 both.0 in
    let change = change_short v n e.1 both.1 in
    let len = length-append (text_of e.0) (change_bytes v e.1) in
    omega arith

edits_short : (v : Version) (n : ℕ) (es : List (Path × FileChange)) → list_all (λ e. is_path e.0 && is_change v n e.1) es ≡ true → length (flat_map (edit_bytes v) es) ≤ 8240 * length es
edits_short v n [] h = omega arith
edits_short v n (e ∷ es) h =
    let both = and_parts (is_path e.0 && is_change v n e.1) (list_all (λ e. is_path e.0 && is_change v n e.1) es) h in
    let here = edit_short v n e both.0 in
    let later = edits_short v n es both.1 in
    let len = length-append (edit_bytes v e) (flat_map (edit_bytes v) es) in
    omega arith

parts_long : (ps author message edits : List ℕ) (s1 s2 s3 s4 s5 s6 s7 s8 o1 o2 o3 o4 : ℕ) (v n a1 a2 m1 m2 m3 m4 e1 e2 e3 e4 : ℕ) →
    length (0x43 ∷ v ∷ n ∷ (ps ++ (a1 ∷ a2 ∷ (author ++ (s1 ∷ s2 ∷ s3 ∷ s4 ∷ s5 ∷ s6 ∷ s7 ∷ s8 ∷ o1 ∷ o2 ∷ o3 ∷ o4 ∷ m1 ∷ m2 ∷ m3 ∷ m4 ∷ (message ++ (e1 ∷ e2 ∷ e3 ∷ e4 ∷ (edits ++ []))))))))
    ≡ 25 + length ps + length author + length message + length edits
parts_long ps author message edits s1 s2 s3 s4 s5 s6 s7 s8 o1 o2 o3 o4 v n a1 a2 m1 m2 m3 m4 e1 e2 e3 e4 = simp length-append (omega arith)

pub spelling_long : (c : Changeset) → length (spelling c) ≡ 25 + length (concat c.parents) + length c.author + length c.message + length (flat_map (edit_bytes c.version) c.changes)
spelling_long c = parts_long (concat c.parents) c.author c.message (flat_map (edit_bytes c.version) c.changes) _ _ _ _ _ _ _ _ _ _ _ _ 0 0 _ _ _ _ _ _ _ _ _ _

pub spelling_short : (c : Changeset) → is_changeset c ≡ true → length (spelling c) < 2 ^ 26
spelling_short c h =
    let e = and_parts (are_parents c.parents && is_author c.author && is_signed 64 c.seconds && is_signed 32 c.offset && is_message c.message) (are_changes c.version (length c.parents) c.changes) h in
    let m = and_parts (are_parents c.parents && is_author c.author && is_signed 64 c.seconds && is_signed 32 c.offset) (is_message c.message) e.0 in
    let o = and_parts (are_parents c.parents && is_author c.author && is_signed 64 c.seconds) (is_signed 32 c.offset) m.0 in
    let s = and_parts (are_parents c.parents && is_author c.author) (is_signed 64 c.seconds) o.0 in
    let a = and_parts (are_parents c.parents) (is_author c.author) s.0 in
    let listed = and_parts (nat_le (length c.changes) 4096 && list_all (λ e. is_path e.0 && is_change c.version (length c.parents) e.1) c.changes) (is_sorted path_cmp c.changes) e.1 in
    let edits = edits_short c.version (length c.parents) c.changes (and_parts (nat_le (length c.changes) 4096) (list_all (λ e. is_path e.0 && is_change c.version (length c.parents) e.1) c.changes) listed.0).1 in
    let parents = parents_short c.parents a.0 in
    let short = short_parts c h in
    let len = spelling_long c in
    omega arith
