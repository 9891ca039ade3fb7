-- The entry of a name, found by halves among entries that stand by rising names.
use Rattle.std.proofs.Common.{◌≡◌, ℕ, zero, suc, ◌<◌, Bool, true, false, cond, ◌&&◌, List, [], ◌∷◌, length, get_or, refl, sym, ap, ◌∙◌, arith}
use Rattle.std.specs.Prelude.{Some, None}
use Rattle.std.specs.List.{list_all}
use Rattle.std.specs.List.Sorted.{IsPartitionedBy}
use Rattle.std.specs.Cmp.Lexicographic.{slice_cmp, nat_list_cmp_total}
use Rattle.std.specs.declared.cmp.Ordering.{Ordering}
use Rattle.std.specs.declared.cmp.Ordering.TheVariants.{Less, Equal, Greater}
use Rattle.std.specs.FinMap.{is_sorted, find as find_key}
use Rattle.std.specs.FinMap.Entries.{below_all}
use Rattle.std.specs.Ordering.{eq_by_cmp, is_eq, is_lt, nat_cmp, ordering_reverse}
use mathlib.Core.Bool.{true≢false}
use Rattle.std.proofs.lemmas.Bool.{and_parts}
use Rattle.changeset_model.proofs.Rising.{less_of}
use Rattle.manifest_model.specs.Fsnode.{Fsnode, are_entries, is_fs_entry, is_fsnode, is_summary}
use Rattle.derive_step.proofs.Together.{later_or_same}
use Rattle.fsnode.specs.declared.entry.FsEntry.{FsEntry as RustEntry}
use Rattle.fsnode.specs.Parts.{children_seen, entry_seen}
use Rattle.node_fields.specs.declared.child.Child.{Child}

abbrev Name : Type 0
Name = List ℕ

abbrev pub Entry : Type 0
Entry = Child RustEntry

abbrev by_name : Name → Name → Ordering
by_name = slice_cmp nat_cmp

abbrev pub is_before : Name → Name → Bool
is_before m n = is_lt (by_name m n)

before-trans : (l m n : Name) → is_before l m ≡ true → is_before m n ≡ true → is_before l n ≡ true
before-trans l m n h g = ap is_lt (nat_list_cmp_total.trans l m n (less_of (by_name l m) h) (less_of (by_name m n) g))

-- of two names that aren't one, one comes before the other
before_not_tied : (m n : Name) → is_before m n ≡ true → eq_by_cmp by_name n m ≡ false
before_not_tied m n h = ap is_eq (nat_list_cmp_total.antisymm n m ∙ ap ordering_reverse (less_of (by_name m n) h))

after_not_tied : (n m : Name) → is_before n m ≡ true → eq_by_cmp by_name n m ≡ false
after_not_tied n m h = ap is_eq (less_of (by_name n m) h)

else_after : (m n : Name) → is_before m n ≡ false → eq_by_cmp by_name n m ≡ false → is_before n m ≡ true
else_after m n out apart = by (by_name n m) refl
  where
    by : (o : Ordering) → by_name n m ≡ o → is_before n m ≡ true
    by Less e = ap is_lt e
    by Equal e = absurd (true≢false (sym (ap is_eq e) ∙ apart))
    by Greater e = absurd (true≢false (sym (ap is_lt (nat_list_cmp_total.antisymm m n ∙ ap ordering_reverse e)) ∙ out))

-- ---- where the search may halve

abbrev Rise : List Entry → Type 0
Rise xs = is_sorted by_name (children_seen xs) ≡ true

later : (x : Entry) (xs : List Entry) → Rise (x ∷ xs) → Rise xs
later x xs rise = (and_parts (below_all by_name x.name (children_seen xs)) (is_sorted by_name (children_seen xs)) rise).1

below : (x : Entry) (xs : List Entry) → Rise (x ∷ xs) → below_all by_name x.name (children_seen xs) ≡ true
below x xs rise = (and_parts (below_all by_name x.name (children_seen xs)) (is_sorted by_name (children_seen xs)) rise).0

below_at : (n : Name) (xs : List Entry) → below_all by_name n (children_seen xs) ≡ true → (j : ℕ) (z : Entry) → j < length xs → is_before n (get_or xs j z).name ≡ true
below_at n [] h j z less = absurd (omega arith)
below_at n (x ∷ xs) h zero z less = (and_parts (is_before n x.name) (below_all by_name n (children_seen xs)) h).0
below_at n (x ∷ xs) h (suc j) z less = below_at n xs (and_parts (is_before n x.name) (below_all by_name n (children_seen xs)) h).1 j z (omega arith)

rises : (xs : List Entry) → Rise xs → (i j : ℕ) (z : Entry) → i < j → j < length xs → is_before (get_or xs i z).name (get_or xs j z).name ≡ true
rises [] rise i j z more less = absurd (omega arith)
rises (x ∷ xs) rise i zero z more less = absurd (omega arith)
rises (x ∷ xs) rise zero (suc j) z more less = below_at x.name xs (below x xs rise) j z (omega arith)
rises (x ∷ xs) rise (suc i) (suc j) z more less = rises xs (later x xs rise) i j z (omega arith) (omega arith)

pub parted_before : (n : Name) (xs : List Entry) → Rise xs → IsPartitionedBy (λ (x : Entry). is_before x.name n) xs
parted_before n xs rise i j z upto less h = later_or_same i j upto
    (λ more. before-trans (get_or xs i z).name (get_or xs j z).name n (rises xs rise i j z more less) h)
    (λ same. ap (λ m. is_before (get_or xs m z).name n) same ∙ h)

pub node_rises : (n : Fsnode) → is_fsnode n ≡ true → is_sorted by_name n.entries ≡ true
node_rises n h = (and_parts _ (is_sorted by_name n.entries) (and_parts (is_summary n.summary) (are_entries n.entries) (and_parts (is_summary n.summary && are_entries n.entries) (list_all (λ e. is_fs_entry e.1) n.entries) h).0).1).1

-- ---- what stands there

none_after : (n : Name) (xs : List Entry) (m : Name) → is_before n m ≡ true → below_all by_name m (children_seen xs) ≡ true → find_key by_name n (children_seen xs) ≡ None
none_after n [] m before h = refl
none_after n (x ∷ xs) m before h =
    let parts = and_parts (is_before m x.name) (below_all by_name m (children_seen xs)) h in
    ap (λ b. cond b (Some (entry_seen x.entry)) (find_key by_name n (children_seen xs))) (after_not_tied n x.name (before-trans n m x.name before parts.0))
    ∙ none_after n xs m before parts.1

pub found_nowhere : (n : Name) (xs : List Entry) → ((k : ℕ) (z : Entry) → k < length xs → is_before (get_or xs k z).name n ≡ true) → find_key by_name n (children_seen xs) ≡ None
found_nowhere n [] all = refl
found_nowhere n (x ∷ xs) all =
    ap (λ b. cond b (Some (entry_seen x.entry)) (find_key by_name n (children_seen xs))) (before_not_tied x.name n (all zero x (omega arith)))
    ∙ found_nowhere n xs (λ k z less. all (suc k) z (omega arith))

pub found_at : (n : Name) (xs : List Entry) (i : ℕ) (y : Entry) → Rise xs → ((k : ℕ) (z : Entry) → k < i → is_before (get_or xs k z).name n ≡ true) → i < length xs → y ≡ get_or xs i y → is_before y.name n ≡ false
    → find_key by_name n (children_seen xs) ≡ cond (eq_by_cmp by_name n y.name) (Some (entry_seen y.entry)) None
found_at n [] i y rise before less is out = absurd (omega arith)
found_at n (x ∷ xs) zero y rise before less is out =
    by (eq_by_cmp by_name n x.name) refl
    ∙ ap (λ (y : Entry). cond (eq_by_cmp by_name n y.name) (Some (entry_seen y.entry)) None) (sym is)
  where
    by : (b : Bool) → eq_by_cmp by_name n x.name ≡ b → cond (eq_by_cmp by_name n x.name) (Some (entry_seen x.entry)) (find_key by_name n (children_seen xs)) ≡ cond (eq_by_cmp by_name n x.name) (Some (entry_seen x.entry)) None
    by true e = ap (λ b. cond b (Some (entry_seen x.entry)) (find_key by_name n (children_seen xs))) e ∙ sym (ap (λ b. cond b (Some (entry_seen x.entry)) None) e)
    by false e =
        ap (λ b. cond b (Some (entry_seen x.entry)) (find_key by_name n (children_seen xs))) e
        ∙ none_after n xs x.name (else_after x.name n (ap (λ (y : Entry). is_before y.name n) (sym is) ∙ out) e) (below x xs rise)
        ∙ sym (ap (λ b. cond b (Some (entry_seen x.entry)) None) e)
found_at n (x ∷ xs) (suc i) y rise before less is out =
    ap (λ b. cond b (Some (entry_seen x.entry)) (find_key by_name n (children_seen xs))) (before_not_tied x.name n (before zero x (omega arith)))
    ∙ found_at n xs i y (later x xs rise) (λ k z less. before (suc k) z (omega arith)) (omega arith) is out
