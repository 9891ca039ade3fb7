-- Of bytes that are a deleted node, the link and the entry that is found under a name are the node's.
use Rattle.std.proofs.Common.{◌≡◌, ℕ, List, [], ◌∷◌, length, ap, ◌∙◌}
use Rattle.std.specs.Prelude.{None, Option, Ok}
use Rattle.std.specs.Ordering.{nat_cmp}
use Rattle.std.specs.Cmp.Lexicographic.{slice_cmp}
use Rattle.std.specs.FinMap.{find as find_key}
use Rattle.std.specs.Int.{w32}
use Rattle.byte_fields.specs.Bytes.{Id}
use Rattle.byte_fields.specs.Reading.{and_then, any, exactly, id, number, value, ◌>>=◌}
use Rattle.history_model.specs.Payload.{optional}
use Rattle.manifest_model.specs.Deleted.{DeletedNode}
use Rattle.manifest_model.specs.NodeReading.{deleted_fields, deleted_of, entries}
use Rattle.node_fields.proofs.Named.{fine, read_named, same_ok, then_read, whole_read}
use Rattle.deleted_node.specs.Lookup.{before_count, entry_named, link_before, link_in, named_behind}

abbrev made : Option Id → List (List ℕ × Id) → DeletedNode
made link es = record { link = link; entries = es }

-- the parts of what was read
record IsRead (bytes : List ℕ) (n : DeletedNode) : Type 0 where
  after : List ℕ
  count : ℕ
  behind : List ℕ
  rest : List ℕ
  linked : before_count bytes ≡ Ok (n.link, after)
  counted : number w32 any after ≡ Ok (count, behind)
  listed : entries id count None behind ≡ Ok (n.entries, rest)

parts : (bytes : List ℕ) (n : DeletedNode) → deleted_of bytes ≡ Ok n → IsRead bytes n
parts bytes n h =
    let all = whole_read (length bytes) (deleted_fields bytes) n h in
    let mark = then_read (exactly (0x44 ∷ []) bytes) (λ _. exactly (1 ∷ []) >>= λ _. optional >>= λ link. number w32 any >>= λ count. entries id count None >>= λ es. value (made link es)) (n, all.0) all.1 in
    let version = then_read (exactly (1 ∷ []) mark.0.1) (λ _. optional >>= λ link. number w32 any >>= λ count. entries id count None >>= λ es. value (made link es)) (n, all.0) mark.2 in
    let link = then_read (optional version.0.1) (λ link. number w32 any >>= λ count. entries id count None >>= λ es. value (made link es)) (n, all.0) version.2 in
    let count = then_read (number w32 any link.0.1) (λ count. entries id count None >>= λ es. value (made link.0.0 es)) (n, all.0) link.2 in
    let es = then_read (entries id count.0.0 None count.0.1) (λ es. value (made link.0.0 es)) (n, all.0) count.2 in
    let same = made_is link.0.0 es.0.0 n es.0.1 all.0 es.2 in
    record {
      after = link.0.1;
      count = count.0.0;
      behind = count.0.1;
      rest = es.0.1;
      linked =
          ap (λ a. and_then a (λ _. exactly (1 ∷ []) >>= λ _. optional)) mark.1
          ∙ ap (λ a. and_then a (λ _. optional)) version.1
          ∙ link.1
          ∙ ap (λ (m : DeletedNode). Ok (m.link, link.0.1)) same;
      counted = count.1;
      listed = es.1 ∙ ap (λ (m : DeletedNode). Ok (m.entries, es.0.1)) same;
    }
  where
    made_is : (link : Option Id) (es : List (List ℕ × Id)) (n : DeletedNode) (a b : List ℕ) → fine {A = DeletedNode × List ℕ} (made link es, a) ≡ fine {A = DeletedNode × List ℕ} (n, b) → made link es ≡ n
    made_is link es n a b e = ap (λ (p : DeletedNode × List ℕ). p.0) (same_ok (made link es, a) (n, b) e)

pub link_found : (bytes : List ℕ) (n : DeletedNode) → deleted_of bytes ≡ Ok n → link_in bytes ≡ n.link
link_found bytes n h = ap link_before (parts bytes n h).linked

pub found_in : (bytes m : List ℕ) (n : DeletedNode) → deleted_of bytes ≡ Ok n → entry_named bytes m ≡ find_key (slice_cmp nat_cmp) m n.entries
found_in bytes m n h =
    let p = parts bytes n h in
    ap (λ a. named_behind (and_then a (λ _. number w32 any)) m) p.linked
    ∙ ap (λ a. named_behind a m) p.counted
    ∙ read_named id p.count m None p.behind n.entries p.rest p.listed
