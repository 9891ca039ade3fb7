-- The spelling of a deleted node is read as it, so no two have one spelling.
use Rattle.std.proofs.Common.{◌≡◌, ℕ, ◌^◌, ◌≤◌, Bool, true, not, ◌&&◌, List, [], ◌∷◌, ◌++◌, length, refl, sym, ap, ◌∙◌, arith}
use Rattle.std.specs.Prelude.{Option, Some, None, Result, Ok, Err, flat_map, nat_lt, nat_le, ◌==◌, bytes_eq}
use Rattle.std.specs.List.{list_all}
use Rattle.std.specs.Option.{option_to_list}
use Rattle.std.specs.Ordering.{nat_cmp, is_lt}
use Rattle.std.specs.Cmp.{first_so, second_so}
use Rattle.std.specs.Cmp.Lexicographic.{slice_cmp}
use Rattle.std.specs.FinMap.{is_sorted}
use Rattle.std.specs.Int.{w8, w32, to_be_bytes}
use Rattle.std.proofs.lemmas.Bool.{and_parts, and_from, leb-true, ltb-true}
use Rattle.std.proofs.lemmas.List.{append-nil}
use Rattle.byte_fields.specs.Bytes.{Id, sized, is_bytes, is_line}
use Rattle.byte_fields.specs.Reading.{Reader, value, ◌>>=◌, number, with_len, keeping, exactly, as_one, any, id, whole}
use Rattle.byte_fields.proofs.FieldLemmas.{Reads, reads_then, reads_last, reads_number, reads_with_len, keeps, spelled_8, spelled_32}
use Rattle.changeset_model.specs.Path.{is_element}
use Rattle.changeset_model.proofs.Spelling.{reads_exactly, reads_id}
use Rattle.history_model.specs.Journal.{optional_id}
use Rattle.history_model.specs.Payload.{flagged, optional}
use Rattle.manifest_model.specs.Fsnode.{are_entries}
use Rattle.manifest_model.specs.Deleted.{DeletedNode, deleted_bytes, is_deleted}
use Rattle.manifest_model.specs.NodeReading.{is_after_name, entry, entries, deleted_of}
use Rattle.manifest_model.proofs.Nodes.{spelled_small}

-- ---- names and entries

element_len : (e : List ℕ) → is_element e ≡ true → (nat_lt 0 (length e) ≡ true) × (nat_le (length e) 255 ≡ true)
element_len e h =
    let dots = and_parts (nat_lt 0 (length e) && nat_le (length e) 255 && is_line e && list_all (λ b. not (b == 0x2F)) e && not (bytes_eq e (0x2E ∷ []))) (not (bytes_eq e (0x2E ∷ 0x2E ∷ []))) h in
    let dot = and_parts (nat_lt 0 (length e) && nat_le (length e) 255 && is_line e && list_all (λ b. not (b == 0x2F)) e) (not (bytes_eq e (0x2E ∷ []))) dots.0 in
    let slash = and_parts (nat_lt 0 (length e) && nat_le (length e) 255 && is_line e) (list_all (λ b. not (b == 0x2F)) e) dot.0 in
    let line = and_parts (nat_lt 0 (length e) && nat_le (length e) 255) (is_line e) slash.0 in
    and_parts (nat_lt 0 (length e)) (nat_le (length e) 255) line.0

abbrev name_rule : Option (List ℕ) → List ℕ → Bool
name_rule before name = is_element name && is_after_name before name

reads_name : (before : Option (List ℕ)) (name : List ℕ) → is_element name ≡ true → is_after_name before name ≡ true → Reads (with_len w8 (λ n. nat_lt 0 n) (keeping (name_rule before))) (sized w8 name) name
reads_name before name h a =
    let lens = element_len name h in
    let short : length name ≤ 255 = leb-true (length name) 255 lens.1 in
    reads_with_len w8 (λ n. nat_lt 0 n) (keeping (name_rule before)) name name (spelled_small (length name) (omega arith)) lens.0 (keeps (name_rule before) name (and_from _ _ h a))

module _ {X : Type 0} (r : Reader X) (spell : X → List ℕ) (good : X → Bool) (each : (x : X) → good x ≡ true → Reads r (spell x) x) where
  abbrev starts_after : Option (List ℕ) → List (List ℕ × X) → Bool
  starts_after before [] = true
  starts_after before (e ∷ es) = is_after_name before e.0

  next_after : (e : List ℕ × X) (es : List (List ℕ × X)) → is_sorted (slice_cmp nat_cmp) (e ∷ es) ≡ true → starts_after (Some e.0) es ≡ true
  next_after e [] h = refl
  next_after e (f ∷ es) h = first_so (is_lt (slice_cmp nat_cmp e.0 f.0)) _ (first_so _ (is_sorted (slice_cmp nat_cmp) (f ∷ es)) h)

  reads_entries : (before : Option (List ℕ)) (es : List (List ℕ × X)) → list_all (λ e. is_element e.0) es ≡ true → list_all (λ e. good e.1) es ≡ true → is_sorted (slice_cmp nat_cmp) es ≡ true → starts_after before es ≡ true → Reads (entries r (length es) before) (flat_map (λ e. sized w8 e.0 ++ spell e.1) es) es
  reads_entries before [] names goods sorted first = λ rest. refl
  reads_entries before (e ∷ es) names goods sorted first =
      reads_then (entry r before) (λ e. entries r (length es) (Some e.0) >>= λ es. value (e ∷ es)) (sized w8 e.0 ++ spell e.1) (flat_map (λ e. sized w8 e.0 ++ spell e.1) es) e (e ∷ es)
      (reads_then (with_len w8 (λ n. nat_lt 0 n) (keeping (name_rule before))) (λ name. r >>= λ x. value (name, x)) (sized w8 e.0) (spell e.1) e.0 e
      (reads_name before e.0 (first_so (is_element e.0) _ names) first)
      (reads_last r (λ x. (e.0, x)) (spell e.1) e.1 (each e.1 (first_so (good e.1) _ goods))))
      (reads_last (entries r (length es) (Some e.0)) (λ es. e ∷ es) (flat_map (λ e. sized w8 e.0 ++ spell e.1) es) es
      (reads_entries (Some e.0) es (second_so (is_element e.0) _ names) (second_so (good e.1) _ goods) (second_so _ (is_sorted (slice_cmp nat_cmp) es) sorted) (next_after e es sorted)))

  none_before : (es : List (List ℕ × X)) → starts_after None es ≡ true
  none_before [] = refl
  none_before (e ∷ es) = refl

-- ---- the link

abbrev is_link : Option Id → Bool
is_link o = list_all (is_bytes 32) (option_to_list o)

reads_flagged : (o : Option Id) → is_link o ≡ true → Reads (number w8 (λ n. nat_lt n 2) >>= flagged) (optional_id o) o
reads_flagged None h = reads_then (number w8 (λ n. nat_lt n 2)) flagged (0 ∷ []) [] 0 None (reads_number w8 (λ n. nat_lt n 2) (0 ∷ []) 0 (spelled_8 0) refl) (λ rest. refl)
reads_flagged (Some x) h =
    reads_then (number w8 (λ n. nat_lt n 2)) flagged (1 ∷ []) x 1 (Some x) (reads_number w8 (λ n. nat_lt n 2) (1 ∷ []) 1 (spelled_8 1) refl)
    (reads_last id (λ y. Some y) x x (reads_id x (first_so (is_bytes 32 x) _ h)))

reads_optional : (o : Option Id) → is_link o ≡ true → Reads optional (optional_id o) o
reads_optional o h rest = ap (as_one (length (optional_id o ++ rest))) (reads_flagged o h rest)

-- ---- deleted nodes

abbrev spelled_entries : List (List ℕ × Id) → List ℕ
spelled_entries es = flat_map (λ e. sized w8 e.0 ++ e.1) es

abbrev made : Option Id → List (List ℕ × Id) → DeletedNode
made link es = record { link = link; entries = es }

-- the spelling of a deleted node is read as it
pub deleted_is_read : (n : DeletedNode) → is_deleted n ≡ true → deleted_of (deleted_bytes n) ≡ Ok n
deleted_is_read n h =
    let goods = and_parts (is_link n.link && are_entries n.entries) (list_all (λ e. is_bytes 32 e.1) n.entries) h in
    let both = and_parts (is_link n.link) (are_entries n.entries) goods.0 in
    let sorted = and_parts (nat_lt (length n.entries) (2 ^ 32) && list_all (λ e. is_element e.0) n.entries) (is_sorted (slice_cmp nat_cmp) n.entries) both.1 in
    let names = and_parts (nat_lt (length n.entries) (2 ^ 32)) (list_all (λ e. is_element e.0) n.entries) sorted.0 in
    let count = to_be_bytes w32 (length n.entries) in
    let reader : Reader DeletedNode = exactly (0x44 ∷ []) >>= λ _. exactly (1 ∷ []) >>= λ _. optional >>= λ link. number w32 any >>= λ count. entries id count None >>= λ es. value (made link es) in
    let all : Reads reader (deleted_bytes n) n =
    reads_then (exactly (0x44 ∷ [])) (λ _. exactly (1 ∷ []) >>= λ _. optional >>= λ link. number w32 any >>= λ count. entries id count None >>= λ es. value (made link es)) (0x44 ∷ []) ((1 ∷ []) ++ (optional_id n.link ++ (count ++ (spelled_entries n.entries ++ [])))) (0x44 ∷ []) n
    (reads_exactly (0x44 ∷ []))
    (reads_then (exactly (1 ∷ [])) (λ _. optional >>= λ link. number w32 any >>= λ count. entries id count None >>= λ es. value (made link es)) (1 ∷ []) (optional_id n.link ++ (count ++ (spelled_entries n.entries ++ []))) (1 ∷ []) n
    (reads_exactly (1 ∷ []))
    (reads_then optional (λ link. number w32 any >>= λ count. entries id count None >>= λ es. value (made link es)) (optional_id n.link) (count ++ (spelled_entries n.entries ++ [])) n.link n
    (reads_optional n.link both.0)
    (reads_then (number w32 any) (λ count. entries id count None >>= λ es. value (made n.link es)) count (spelled_entries n.entries ++ []) (length n.entries) n
    (reads_number w32 any count (length n.entries) (spelled_32 (length n.entries) (ltb-true (length n.entries) (2 ^ 32) names.0)) refl)
    (reads_then (entries id (length n.entries) None) (λ es. value (made n.link es)) (spelled_entries n.entries) [] n.entries n
    (reads_entries id (λ x. x) (is_bytes 32) reads_id None n.entries names.1 goods.1 sorted.1 (none_before id (λ x. x) (is_bytes 32) reads_id n.entries))
    (λ rest. refl))))) in
    ap (whole (length (deleted_bytes n))) (ap reader (sym (append-nil (deleted_bytes n))) ∙ all [])

-- no two have one spelling
pub deleted_is_one : (m n : DeletedNode) → is_deleted m ≡ true → is_deleted n ≡ true → deleted_bytes m ≡ deleted_bytes n → m ≡ n
deleted_is_one m n h g same = ap from_ok (sym (deleted_is_read m h) ∙ ap deleted_of same ∙ deleted_is_read n g)
  where
    from_ok : Result DeletedNode ℕ → DeletedNode
    from_ok (Ok x) = x
    from_ok (Err at) = m
