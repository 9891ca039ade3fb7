-- What follows from the rules of a changeset.
use Rattle.std.proofs.Common.{◌≡◌, ℕ, ◌≤◌, ◌^◌, SFits, ℤ, Bool, true, false, ◌&&◌, List, [], ◌∷◌, length, refl, sym, ◌∙◌, arith}
use Rattle.std.specs.Prelude.{nat_lt, nat_le, min, Option, None, Some}
use Rattle.std.specs.List.{list_all}
use Rattle.std.specs.Int.{w32, w64}
use Rattle.std.specs.FinMap.{is_sorted}
use Rattle.std.proofs.lemmas.Bool.{leb-true, ltb-true, lt-ltb, and_parts, and_from}
use Rattle.std.proofs.Math.Nat.{min-le_right}
use Rattle.byte_fields.specs.Bytes.{Id, is_bytes, is_text, is_line}
use Rattle.changeset_model.specs.Version.{Version, First, Second}
use Rattle.changeset_model.specs.Path.{Path, path_cmp, is_path}
use Rattle.changeset_model.specs.Changeset.{CopySource, FileChange, Set, Delete, Changeset, most_size, is_changeset, are_parents, is_author, is_signed, is_message, are_changes, is_change, is_copied}
use Rattle.history_model.specs.Pushrebase.{on_parent, most_seconds, seconds_at, offset_at}
use Rattle.bonsai.specs.Making.{keeps_size, keep_sizes, keeps_source, keep_sources}
use Rattle.repo_path.proofs.Faults.{first_of_two as first_of, second_of_two as second_of}
use Rattle.changeset_model.proofs.Spelling.{fits_32 as in_32, fits_64 as in_64}

abbrev dated : Changeset → Bool
dated c = are_parents c.parents && is_author c.author && is_signed 64 c.seconds && is_signed 32 c.offset

good_changes : (c : Changeset) → is_changeset c ≡ true → are_changes c.version (length c.parents) c.changes ≡ true
good_changes c h = second_of (dated c && is_message c.message) (are_changes c.version (length c.parents) c.changes) h

good_message : (c : Changeset) → is_changeset c ≡ true → is_message c.message ≡ true
good_message c h = second_of (dated c) (is_message c.message) (first_of (dated c && is_message c.message) (are_changes c.version (length c.parents) c.changes) h)

good_dates : (c : Changeset) → is_changeset c ≡ true → dated c ≡ true
good_dates c h = first_of (dated c) (is_message c.message) (first_of (dated c && is_message c.message) (are_changes c.version (length c.parents) c.changes) h)

good_author : (c : Changeset) → is_changeset c ≡ true → is_author c.author ≡ true
good_author c h =
    second_of (are_parents c.parents) (is_author c.author)
    (first_of (are_parents c.parents && is_author c.author) (is_signed 64 c.seconds) (first_of (are_parents c.parents && is_author c.author && is_signed 64 c.seconds) (is_signed 32 c.offset) (good_dates c h)))

good_parents : (c : Changeset) → is_changeset c ≡ true → are_parents c.parents ≡ true
good_parents c h =
    first_of (are_parents c.parents) (is_author c.author)
    (first_of (are_parents c.parents && is_author c.author) (is_signed 64 c.seconds) (first_of (are_parents c.parents && is_author c.author && is_signed 64 c.seconds) (is_signed 32 c.offset) (good_dates c h)))

pub changes_rise : (c : Changeset) → is_changeset c ≡ true → is_sorted path_cmp c.changes ≡ true
changes_rise c h = second_of (nat_le (length c.changes) 4096 && list_all (λ e. is_path e.0 && is_change c.version (length c.parents) e.1) c.changes) (is_sorted path_cmp c.changes) (good_changes c h)

few_by : (ps : List Id) → are_parents ps ≡ true → length ps ≤ 2
few_by [] h = omega arith
few_by (p ∷ []) h = omega arith
few_by (p ∷ q ∷ []) h = omega arith
few_by (p ∷ q ∷ r ∷ ps) h = absurd (cc)

-- what is written as a length fits its field
pub record HasShortParts (c : Changeset) : Type 0 where
  pub parents : length c.parents ≤ 2
  pub author : length c.author ≤ 1024
  pub message : length c.message ≤ 1_048_576
  pub changes : length c.changes ≤ 4096

pub short_parts : (c : Changeset) → is_changeset c ≡ true → HasShortParts c
short_parts c h = record {
  parents = few_by c.parents (good_parents c h);
  author = leb-true (length c.author) 1024 (second_of (nat_lt 0 (length c.author)) (nat_le (length c.author) 1024) (first_of (nat_lt 0 (length c.author) && nat_le (length c.author) 1024) (is_line c.author) (good_author c h)));
  message = leb-true (length c.message) 1_048_576 (first_of (nat_le (length c.message) 1_048_576) (is_text c.message) (good_message c h));
  changes = leb-true (length c.changes) 4096 (first_of (nat_le (length c.changes) 4096) (list_all (λ e. is_path e.0 && is_change c.version (length c.parents) e.1) c.changes) (first_of (nat_le (length c.changes) 4096 && list_all (λ e. is_path e.0 && is_change c.version (length c.parents) e.1) c.changes) (is_sorted path_cmp c.changes) (good_changes c h)));
}

good_seconds : (c : Changeset) → is_changeset c ≡ true → is_signed 64 c.seconds ≡ true
good_seconds c h = second_of (are_parents c.parents && is_author c.author) (is_signed 64 c.seconds) (first_of (are_parents c.parents && is_author c.author && is_signed 64 c.seconds) (is_signed 32 c.offset) (good_dates c h))

good_offset : (c : Changeset) → is_changeset c ≡ true → is_signed 32 c.offset ≡ true
good_offset c h = second_of (are_parents c.parents && is_author c.author && is_signed 64 c.seconds) (is_signed 32 c.offset) (good_dates c h)

pub seconds_fit : (c : Changeset) → is_changeset c ≡ true → SFits w64 c.seconds
seconds_fit c h = in_64 c.seconds (good_seconds c h)

pub offset_fits : (c : Changeset) → is_changeset c ≡ true → SFits w32 c.offset
offset_fits c h = in_32 c.offset (good_offset c h)

-- ---- on one parent

seconds_keep : (v : Version) (moment : ℕ) (z : ℤ) → is_signed 64 z ≡ true → is_signed 64 (seconds_at moment v z) ≡ true
seconds_keep First moment z h = h
seconds_keep Second moment z h = lt-ltb (min moment most_seconds) (2 ^ 63) (let most : min moment most_seconds ≤ 9223372036854775807 = min-le_right moment most_seconds in omega arith)

offset_keeps : (v : Version) (z : ℤ) → is_signed 32 z ≡ true → is_signed 32 (offset_at v z) ≡ true
offset_keeps First z h = h
offset_keeps Second z h = refl

pub on_parent_keeps : (c : Changeset) (p : Id) (moment : ℕ) → is_changeset c ≡ true → are_parents (p ∷ []) ≡ true → are_changes c.version 1 c.changes ≡ true → is_changeset (on_parent p moment c) ≡ true
on_parent_keeps c p moment h keeps sources =
    (λ i. keeps i && good_author c h i && seconds_keep c.version moment c.seconds (good_seconds c h) i && offset_keeps c.version c.offset (good_offset c h) i && good_message c h i && sources i)

-- of no parent there is no source, and one parent is as good as another
one_source : (v : Version) (n : ℕ) (s : Option CopySource) → n ≤ 1 → is_copied v n s ≡ true → is_copied v 1 s ≡ true
one_source First n None few h = refl
one_source Second n None few h = refl
one_source First n (Some s) few h = h
one_source Second n (Some s) few h =
    let both = and_parts (nat_lt s.parent n) (is_path s.path) h in
    let below = ltb-true s.parent n both.0 in
    and_from _ _ (lt-ltb s.parent 1 (omega arith)) both.1

one_change : (v : Version) (n : ℕ) (change : FileChange) → n ≤ 1 → is_change v n change ≡ true → is_change v 1 change ≡ true
one_change v n Delete few h = refl
one_change v n (Set f copied) few h =
    let both = and_parts (nat_le f.size most_size && is_bytes 32 f.content) (is_copied v n copied) h in
    and_from _ _ both.0 (one_source v n copied few both.1)

one_each : (v : Version) (n : ℕ) (es : List (Path × FileChange)) → n ≤ 1 → list_all (λ e. is_path e.0 && is_change v n e.1) es ≡ true → list_all (λ e. is_path e.0 && is_change v 1 e.1) es ≡ true
one_each v n [] few h = refl
one_each v n (e ∷ es) few h =
    let both = and_parts (is_path e.0 && is_change v n e.1) (list_all (λ e. is_path e.0 && is_change v n e.1) es) h in
    let here = and_parts (is_path e.0) (is_change v n e.1) both.0 in
    and_from _ _ (and_from _ _ here.0 (one_change v n e.1 few here.1)) (one_each v n es few both.1)

-- a changeset with one parent at most keeps its rules on another
pub keeps_on_parent : (c : Changeset) → is_changeset c ≡ true → length c.parents ≤ 1 → are_changes c.version 1 c.changes ≡ true
keeps_on_parent c h few =
    let n = length c.parents in
    let rises = and_parts (nat_le (length c.changes) 4096 && list_all (λ e. is_path e.0 && is_change c.version n e.1) c.changes) (is_sorted path_cmp c.changes) (good_changes c h) in
    let each = and_parts (nat_le (length c.changes) 4096) (list_all (λ e. is_path e.0 && is_change c.version n e.1) c.changes) rises.0 in
    and_from _ _ (and_from _ _ each.0 (one_each c.version n c.changes few each.1)) rises.1

-- ---- the rules of edits, apart

edit_keeps : (v : Version) (n : ℕ) (e : Path × FileChange) → keeps_size e ≡ true → keeps_source v n e ≡ true → (is_path e.0 && is_change v n e.1) ≡ true
edit_keeps v n (p, Delete) size source = size
edit_keeps v n (p, Set f copied) size source =
    let both = and_parts (is_path p) (nat_le f.size most_size && is_bytes 32 f.content) size in
    and_from _ _ both.0 (and_from _ _ both.1 source)

pub edits_keep : (v : Version) (n : ℕ) (es : List (Path × FileChange)) → keep_sizes es ≡ true → keep_sources v n es ≡ true → list_all (λ e. is_path e.0 && is_change v n e.1) es ≡ true
edits_keep v n [] sizes sources = refl
edits_keep v n (e ∷ es) sizes sources =
    let size = and_parts (keeps_size e) (keep_sizes es) sizes in
    let source = and_parts (keeps_source v n e) (keep_sources v n es) sources in
    and_from _ _ (edit_keeps v n e size.0 source.0) (edits_keep v n es size.1 source.1)

-- ---- where sizes are right, the rules are those of the sources

sources_by : (path sized copied : Bool) → (path && sized) ≡ true → (path && (sized && copied)) ≡ copied
sources_by true true copied h = refl
sources_by true false copied h = absurd cc
sources_by false sized copied h = absurd cc

one_is : (v : Version) (n : ℕ) (e : Path × FileChange) → keeps_size e ≡ true → (is_path e.0 && is_change v n e.1) ≡ keeps_source v n e
one_is First n (p, Delete) size = size
one_is Second n (p, Delete) size = size
one_is v n (p, Set f copied) size = sources_by (is_path p) (nat_le f.size most_size && is_bytes 32 f.content) (is_copied v n copied) size

each_is : (v : Version) (n : ℕ) (es : List (Path × FileChange)) → keep_sizes es ≡ true → list_all (λ e. is_path e.0 && is_change v n e.1) es ≡ keep_sources v n es
each_is v n [] sizes = refl
each_is v n (e ∷ es) sizes =
    let size = and_parts (keeps_size e) (keep_sizes es) sizes in
    (λ i. one_is v n e size.0 i && each_is v n es size.1 i)

size_of : (v : Version) (n : ℕ) (e : Path × FileChange) → (is_path e.0 && is_change v n e.1) ≡ true → keeps_size e ≡ true
size_of v n (p, Delete) h = h
size_of v n (p, Set f copied) h =
    let both = and_parts (is_path p) ((nat_le f.size most_size && is_bytes 32 f.content) && is_copied v n copied) h in
    and_from _ _ both.0 (and_parts (nat_le f.size most_size && is_bytes 32 f.content) (is_copied v n copied) both.1).0

sizes_of : (v : Version) (n : ℕ) (es : List (Path × FileChange)) → list_all (λ e. is_path e.0 && is_change v n e.1) es ≡ true → keep_sizes es ≡ true
sizes_of v n [] h = refl
sizes_of v n (e ∷ es) h =
    let both = and_parts (is_path e.0 && is_change v n e.1) (list_all (λ e. is_path e.0 && is_change v n e.1) es) h in
    and_from _ _ (size_of v n e both.0) (sizes_of v n es both.1)

all_true : (few each sorted : Bool) → few ≡ true → sorted ≡ true → (few && each && sorted) ≡ each
all_true true true true f s = refl
all_true true false true f s = refl
all_true true each false f s = absurd cc
all_true false each sorted f s = absurd cc

pub changes_on_parent : (c : Changeset) → is_changeset c ≡ true → keep_sources c.version 1 c.changes ≡ are_changes c.version 1 c.changes
changes_on_parent c h =
    let n = length c.parents in
    let rises = and_parts (nat_le (length c.changes) 4096 && list_all (λ e. is_path e.0 && is_change c.version n e.1) c.changes) (is_sorted path_cmp c.changes) (good_changes c h) in
    let each = and_parts (nat_le (length c.changes) 4096) (list_all (λ e. is_path e.0 && is_change c.version n e.1) c.changes) rises.0 in
    sym (all_true (nat_le (length c.changes) 4096) (list_all (λ e. is_path e.0 && is_change c.version 1 e.1) c.changes) (is_sorted path_cmp c.changes) each.0 rises.1
    ∙ each_is c.version 1 c.changes (sizes_of c.version n c.changes each.1))
