-- What is read as a deleted node is spelled so, each byte of it, and keeps the rules of its fields.
use Rattle.std.proofs.Common.{◌≡◌, ℕ, zero, suc, ◌^◌, ◌%◌, ◌<◌, Bool, true, ◌&&◌, List, [], ◌∷◌, ◌++◌, length, refl, sym, ap, subst, ◌∙◌, arith}
use Rattle.std.specs.Prelude.{Option, Some, None, Result, Ok, Err, flat_map, nat_lt, ◌↔◌}
use Rattle.std.specs.List.{list_all}
use Rattle.std.specs.Option.{option_to_list}
use Rattle.std.specs.Ordering.{nat_cmp, is_lt}
use Rattle.std.specs.Cmp.Lexicographic.{slice_cmp, nat_list_cmp_total}
use Rattle.std.specs.FinMap.{is_sorted}
use Rattle.std.specs.FinMap.Entries.{below_all}
use Rattle.std.specs.Int.{w8, w32, to_be_bytes}
use Rattle.std.proofs.lemmas.Bool.{and_parts, and_from, ltb-true, lt-ltb}
use Rattle.std.proofs.lemmas.List.{append-nil}
use Rattle.byte_fields.specs.Bytes.{Id, IsBytes, sized, is_bytes}
use Rattle.byte_fields.specs.Reading.{Reader, value, and_then, ◌>>=◌, number, with_len, keeping, exactly, as_one, any, id}
use Rattle.changeset_model.specs.Path.{is_element}
use Rattle.changeset_model.proofs.Accepting.{IsWide, Took, took_then, took_end, bind_ok, value_ok, whole_ok, keeping_ok, wide32, number_ok, byte_ok, id_ok, exactly_ok, with_len_ok}
use Rattle.changeset_model.proofs.Rising.{less_of}
use Rattle.history_model.specs.Journal.{optional_id}
use Rattle.history_model.specs.Payload.{flagged, optional}
use Rattle.manifest_model.specs.Fsnode.{are_entries}
use Rattle.manifest_model.specs.Deleted.{DeletedNode, deleted_bytes, is_deleted}
use Rattle.manifest_model.specs.NodeReading.{is_after_name, entry, entries, deleted_fields, deleted_of}
use Rattle.deleted_node.proofs.Spelled.{deleted_is_read}

wide8 : IsWide w8 256
wide8 [] len fits = absurd (omega arith)
wide8 (b ∷ []) len fits = (ap (λ n. n ∷ []) same, omega (arith, fits 0))
  where
    same : b % 256 ≡ b
    same = omega (arith, fits 0)
wide8 (b ∷ c ∷ bs) len fits = absurd (omega arith)

-- ---- names, which rise

abbrev name_lt : List ℕ → List ℕ → Bool
name_lt m n = is_lt (slice_cmp nat_cmp m n)

name_lt-trans : (l m n : List ℕ) → name_lt l m ≡ true → name_lt m n ≡ true → name_lt l n ≡ true
name_lt-trans l m n h g = ap is_lt (nat_list_cmp_total.trans l m n (less_of (slice_cmp nat_cmp l m) h) (less_of (slice_cmp nat_cmp m n) g))

below_later : {X : Type 0} (m n : List ℕ) (es : List (List ℕ × X)) → name_lt m n ≡ true → below_all (slice_cmp nat_cmp) n es ≡ true → below_all (slice_cmp nat_cmp) m es ≡ true
below_later m n [] h all = refl
below_later m n (e ∷ es) h all =
    let parts = and_parts (name_lt n e.0) (below_all (slice_cmp nat_cmp) n es) all in
    and_from _ _ (name_lt-trans m n e.0 h parts.0) (below_later m n es h parts.1)

abbrev first_after : {X : Type 0} → Option (List ℕ) → List (List ℕ × X) → Bool
first_after before [] = true
first_after before (e ∷ es) = is_after_name before e.0

below_first : {X : Type 0} (n : List ℕ) (es : List (List ℕ × X)) → first_after (Some n) es ≡ true → is_sorted (slice_cmp nat_cmp) es ≡ true → below_all (slice_cmp nat_cmp) n es ≡ true
below_first n [] h sorted = refl
below_first n (e ∷ es) h sorted =
    and_from _ _ h (below_later n e.0 es h (and_parts (below_all (slice_cmp nat_cmp) e.0 es) (is_sorted (slice_cmp nat_cmp) es) sorted).0)

abbrev name_rule : Option (List ℕ) → List ℕ → Bool
name_rule before name = is_element name && is_after_name before name

record NameRead (before : Option (List ℕ)) (bytes name rest : List ℕ) : Type 0 where
  took : Took bytes (sized w8 name) rest
  good : is_element name ≡ true
  after : is_after_name before name ≡ true

name_ok : (before : Option (List ℕ)) (bytes name rest : List ℕ) → IsBytes bytes → with_len w8 (λ n. nat_lt 0 n) (keeping (name_rule before)) bytes ≡ Ok (name, rest) → NameRead before bytes name rest
name_ok before bytes name rest fits e =
    let s = with_len_ok w8 256 wide8 (λ n. nat_lt 0 n) (keeping (name_rule before)) bytes name rest fits e in
    let k = keeping_ok (name_rule before) s.text name s.seen in
    let both = and_parts (is_element s.text) (is_after_name before s.text) k.0 in
    subst (λ n. NameRead before bytes n rest) k.1 (record { took = s.took; good = both.0; after = both.1 })

-- ---- entries

-- what the reader reads as x is spelled so, and x is good
abbrev IsSpelledBy : {X : Type 0} → Reader X → (X → List ℕ) → (X → Bool) → Type 0
IsSpelledBy {X = X} r spell good = (bytes : List ℕ) (x : X) (rest : List ℕ) → IsBytes bytes → r bytes ≡ Ok (x, rest) → Took bytes (spell x) rest × (good x ≡ true)

module _ {X : Type 0} (r : Reader X) (spell : X → List ℕ) (good : X → Bool) (each : IsSpelledBy r spell good) where
  abbrev spelled_entry : List ℕ × X → List ℕ
  spelled_entry e = sized w8 e.0 ++ spell e.1

  record EntryRead (before : Option (List ℕ)) (bytes : List ℕ) (e : List ℕ × X) (rest : List ℕ) : Type 0 where
    took : Took bytes (spelled_entry e) rest
    name : is_element e.0 ≡ true
    after : is_after_name before e.0 ≡ true
    well : good e.1 ≡ true

  entry_ok : (before : Option (List ℕ)) (bytes : List ℕ) (e : List ℕ × X) (rest : List ℕ) → IsBytes bytes → entry r before bytes ≡ Ok (e, rest) → EntryRead before bytes e rest
  entry_ok before bytes e rest fits eq =
      let s1 = bind_ok (with_len w8 (λ n. nat_lt 0 n) (keeping (name_rule before)) bytes) (λ name. r >>= λ x. value (name, x)) (e, rest) eq in
      let name = s1.0.0 in
      let n1 = name_ok before bytes name s1.0.1 fits s1.1 in
      let s2 = bind_ok (r s1.0.1) (λ x. value (name, x)) (e, rest) s1.2 in
      let x = s2.0.0 in
      let n2 = each s1.0.1 x s2.0.1 n1.took.left s2.1 in
      let last = value_ok {A = List ℕ × X} (name, x) e s2.0.1 rest s2.2 in
      subst (λ e. EntryRead before bytes e rest) last.0 (record {
        took = subst (λ r. Took bytes (spelled_entry (name, x)) r) last.1 (took_then bytes (sized w8 name) s1.0.1 (spell x) s2.0.1 n1.took n2.0);
        name = n1.good;
        after = n1.after;
        well = n2.1;
      })

  record EntriesRead (n : ℕ) (before : Option (List ℕ)) (bytes : List ℕ) (es : List (List ℕ × X)) (rest : List ℕ) : Type 0 where
    took : Took bytes (flat_map spelled_entry es) rest
    len : length es ≡ n
    names : list_all (λ e. is_element e.0) es ≡ true
    goods : list_all (λ e. good e.1) es ≡ true
    sorted : is_sorted (slice_cmp nat_cmp) es ≡ true
    first : first_after before es ≡ true

  entries_ok : (n : ℕ) (before : Option (List ℕ)) (bytes : List ℕ) (es : List (List ℕ × X)) (rest : List ℕ) → IsBytes bytes → entries r n before bytes ≡ Ok (es, rest) → EntriesRead n before bytes es rest
  entries_ok zero before bytes es rest fits eq =
      let last = value_ok [] es bytes rest eq in
      subst (λ es. EntriesRead 0 before bytes es rest) last.0 (record { took = subst (λ r. Took bytes [] r) last.1 (took_end bytes fits); len = refl; names = refl; goods = refl; sorted = refl; first = refl })
  entries_ok (suc n) before bytes es rest fits eq =
      let s1 = bind_ok (entry r before bytes) (λ e. entries r n (Some e.0) >>= λ es. value (e ∷ es)) (es, rest) eq in
      let e = s1.0.0 in
      let n1 = entry_ok before bytes e s1.0.1 fits s1.1 in
      let s2 = bind_ok (entries r n (Some e.0) s1.0.1) (λ es. value (e ∷ es)) (es, rest) s1.2 in
      let later = s2.0.0 in
      let n2 = entries_ok n (Some e.0) s1.0.1 later s2.0.1 n1.took.left s2.1 in
      let last = value_ok (e ∷ later) es s2.0.1 rest s2.2 in
      subst (λ es. EntriesRead (suc n) before bytes es rest) last.0 (record {
        took = subst (λ r. Took bytes (spelled_entry e ++ flat_map spelled_entry later) r) last.1 (took_then bytes (spelled_entry e) s1.0.1 (flat_map spelled_entry later) s2.0.1 n1.took n2.took);
        len = ap suc n2.len;
        names = and_from _ _ n1.name n2.names;
        goods = and_from _ _ n1.well n2.goods;
        sorted = and_from _ _ (below_first e.0 later n2.first n2.sorted) n2.sorted;
        first = n1.after;
      })

  -- a count, and as many entries
  counted_ok : (bytes mid : List ℕ) (count : ℕ) (es : List (List ℕ × X)) (rest : List ℕ) → IsBytes bytes → number w32 any bytes ≡ Ok (count, mid) → entries r count None mid ≡ Ok (es, rest) → Took bytes (to_be_bytes w32 (length es) ++ flat_map spelled_entry es) rest × (are_entries es ≡ true) × (list_all (λ e. good e.1) es ≡ true)
  counted_ok bytes mid count es rest fits first second =
      let n = number_ok w32 (2 ^ 32) wide32 any bytes count mid fits first in
      let r = entries_ok count None mid es rest n.took.left second in (
        took_then bytes (to_be_bytes w32 (length es)) mid (flat_map spelled_entry es) rest (subst (λ m. Took bytes (to_be_bytes w32 m) mid) (sym r.len) n.took) r.took,
        and_from _ _ (and_from _ _ (lt-ltb (length es) (2 ^ 32) (subst (λ m. m < 2 ^ 32) (sym r.len) n.below)) r.names) r.sorted,
        r.goods,
      )

one_field_ok : {A : Type 0} (len : ℕ) (o : Result (A × List ℕ) ℕ) (x : A) (rest : List ℕ) → as_one len o ≡ Ok (x, rest) → o ≡ Ok (x, rest)
one_field_ok len (Ok y) x rest e = e
one_field_ok len (Err left) x rest e = absurd cc

-- ---- the link

record LinkRead (bytes : List ℕ) (link : Option Id) (rest : List ℕ) : Type 0 where
  took : Took bytes (optional_id link) rest
  good : list_all (is_bytes 32) (option_to_list link) ≡ true

flagged_ok : (flag : ℕ) (b0 b1 : List ℕ) (x : Option Id) (rest : List ℕ) → nat_lt flag 2 ≡ true → Took b0 (flag ∷ []) b1 → flagged flag b1 ≡ Ok (x, rest) → LinkRead b0 x rest
flagged_ok zero b0 b1 x rest h took e =
    let last = value_ok {A = Option Id} None x b1 rest e in
    subst (λ x. LinkRead b0 x rest) last.0 (record { took = subst (Took b0 (0 ∷ [])) last.1 took; good = refl })
flagged_ok (suc zero) b0 b1 x rest h took e =
    let step = bind_ok (id b1) (λ y. value (Some y)) (x, rest) e in
    let y = step.0.0 in
    let read = id_ok b1 y step.0.1 took.left step.1 in
    let last = value_ok (Some y) x step.0.1 rest step.2 in
    subst (λ x. LinkRead b0 x rest) last.0 (record { took = subst (Took b0 (1 ∷ y)) last.1 (took_then b0 (1 ∷ []) b1 y step.0.1 took read.took); good = and_from _ _ read.good refl })
flagged_ok (suc (suc n)) b0 b1 x rest h took e = absurd (let lt = ltb-true (suc (suc n)) 2 h in omega arith)

link_ok : (bytes : List ℕ) (x : Option Id) (rest : List ℕ) → IsBytes bytes → optional bytes ≡ Ok (x, rest) → LinkRead bytes x rest
link_ok bytes x rest fits e =
    let whole = one_field_ok (length bytes) (and_then (number w8 (λ n. nat_lt n 2) bytes) flagged) x rest e in
    let step = bind_ok (number w8 (λ n. nat_lt n 2) bytes) flagged (x, rest) whole in
    let flag = byte_ok (λ n. nat_lt n 2) bytes step.0.0 step.0.1 fits step.1 in
    flagged_ok step.0.0 bytes step.0.1 x rest flag.keeps flag.took step.2

-- ---- deleted nodes

id_is_spelled : IsSpelledBy id (λ x. x) (is_bytes 32)
id_is_spelled bytes x rest fits e = let read = id_ok bytes x rest fits e in (read.took, read.good)

abbrev all_entries : List (List ℕ × Id) → List ℕ
all_entries es = flat_map (λ e. sized w8 e.0 ++ e.1) es

abbrev a_node : Option Id → List (List ℕ × Id) → DeletedNode
a_node link es = record { link = link; entries = es }

deleted_by : (b0 b1 b2 b3 b4 : List ℕ) (link : Option Id) (es : List (List ℕ × Id)) → Took b0 (0x44 ∷ []) b1 → Took b1 (1 ∷ []) b2 → LinkRead b2 link b3
    → Took b3 (to_be_bytes w32 (length es) ++ all_entries es) b4 × (are_entries es ≡ true) × (list_all (λ e. is_bytes 32 e.1) es ≡ true)
    → Took b0 (deleted_bytes (a_node link es)) b4 × (is_deleted (a_node link es) ≡ true)
deleted_by b0 b1 b2 b3 b4 link es t1 t2 t3 t4 =
    let count : List ℕ = to_be_bytes w32 (length es) in
    let end : Took b3 (count ++ (all_entries es ++ [])) b4 = subst (λ t. Took b3 (count ++ t) b4) (sym (append-nil (all_entries es))) t4.0 in (
      took_then b0 (0x44 ∷ []) b1 ((1 ∷ []) ++ (optional_id link ++ (count ++ (all_entries es ++ [])))) b4 t1
          (took_then b1 (1 ∷ []) b2 (optional_id link ++ (count ++ (all_entries es ++ []))) b4 t2
          (took_then b2 (optional_id link) b3 (count ++ (all_entries es ++ [])) b4 t3.took end)),
      and_from _ _ (and_from _ _ t3.good t4.1) t4.2,
    )

deleted_ok : IsSpelledBy deleted_fields deleted_bytes is_deleted
deleted_ok bytes n rest fits eq =
    let after_version : Reader DeletedNode = optional >>= λ link. number w32 any >>= λ count. entries id count None >>= λ es. value (a_node link es) in
    let s1 = bind_ok (exactly (0x44 ∷ []) bytes) (λ _. exactly (1 ∷ []) >>= λ _. after_version) (n, rest) eq in
    let t1 = exactly_ok (0x44 ∷ []) bytes s1.0.0 s1.0.1 fits s1.1 in
    let s2 = bind_ok (exactly (1 ∷ []) s1.0.1) (λ _. after_version) (n, rest) s1.2 in
    let t2 = exactly_ok (1 ∷ []) s1.0.1 s2.0.0 s2.0.1 t1.left s2.1 in
    let s3 = bind_ok (optional s2.0.1) (λ link. number w32 any >>= λ count. entries id count None >>= λ es. value (a_node link es)) (n, rest) s2.2 in
    let link = s3.0.0 in
    let t3 = link_ok s2.0.1 link s3.0.1 t2.left s3.1 in
    let s4 = bind_ok (number w32 any s3.0.1) (λ count. entries id count None >>= λ es. value (a_node link es)) (n, rest) s3.2 in
    let s5 = bind_ok (entries id s4.0.0 None s4.0.1) (λ es. value (a_node link es)) (n, rest) s4.2 in
    let es = s5.0.0 in
    let t4 = counted_ok id (λ x. x) (is_bytes 32) id_is_spelled s3.0.1 s4.0.1 s4.0.0 es s5.0.1 t3.took.left s4.1 s5.1 in
    let all = deleted_by bytes s1.0.1 s2.0.1 s3.0.1 s5.0.1 link es t1 t2 t3 t4 in
    let last = value_ok (a_node link es) n s5.0.1 rest s5.2 in
    subst (λ n. Took bytes (deleted_bytes n) rest × (is_deleted n ≡ true)) last.0 (subst (λ r. Took bytes (deleted_bytes (a_node link es)) r) last.1 all.0, all.1)

-- bytes that are read as a node are its spelling, each byte of them
of_whole : {X : Type 0} (r : Reader X) (spell : X → List ℕ) (good : X → Bool) → IsSpelledBy r spell good → (bytes : List ℕ) (x : X) → IsBytes bytes → r bytes ≡ Ok (x, []) → (good x ≡ true) × (bytes ≡ spell x)
of_whole r spell good each bytes x fits e =
    let t = each bytes x [] fits e in
    (t.1, t.0.parts ∙ append-nil (spell x))

-- Bytes are read as a deleted node exactly where they spell it.
pub deleted_read_exactly : (bytes : List ℕ) (n : DeletedNode) → IsBytes bytes → ((deleted_of bytes ≡ Ok n) ↔ ((is_deleted n ≡ true) × (bytes ≡ deleted_bytes n)))
deleted_read_exactly bytes n fits =
    (λ e. of_whole deleted_fields deleted_bytes is_deleted deleted_ok bytes n fits (whole_ok (length bytes) (deleted_fields bytes) n e), λ s. ap deleted_of s.1 ∙ deleted_is_read n s.0)
