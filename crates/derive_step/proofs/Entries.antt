-- Entries by names, in lists and in maps.
use Rattle.std.proofs.Common.{◌≡◌, ℕ, ◌≤◌, ◌^◌, suc, Bool, true, false, cond, ◌&&◌, List, [], ◌∷◌, ◌++◌, map, length, refl, sym, ap, ◌∙◌, arith}
use Rattle.std.specs.Prelude.{Option, Some, None, Result, Ok, Err, IfOk, option_map}
use Rattle.std.specs.declared.alloc.AllocError.{AllocError}
use Rattle.std.specs.declared.cmp.Ordering.{Ordering}
use Rattle.std.specs.declared.cmp.Ordering.TheVariants.{Less}
use Rattle.std.specs.List.{list_all, AllByRecursion}
use Rattle.std.specs.List.Sorted.{IsStrictlySortedBy}
use Rattle.std.specs.Map.{keys_of, lookup}
use Rattle.std.specs.BTreeMap.{is_at}
use Rattle.std.specs.Option.{option_or}
use Rattle.std.specs.Ordering.{nat_cmp, eq_by_cmp, is_lt}
use Rattle.std.specs.Cmp.Lexicographic.{slice_cmp}
use Rattle.std.specs.FinMap.{is_sorted, find as find_key}
use Rattle.std.specs.FinMap.Entries.{below_all}
use Rattle.std.proofs.lemmas.Bool.{and_parts, lt-ltb}
use Rattle.std.proofs.lemmas.Map.Keys.{sorted_head, sorted_tail}
use Rattle.changeset_model.specs.Path.{is_element}
use Rattle.manifest_model.specs.Fsnode.{are_entries}
use Rattle.manifest_laws.proofs.Lists.{list_all_append}
use Rattle.derive_step.proofs.Edits.{tied_name, name_swap}
use Rattle.manifest_laws.proofs.Summaries.{later_differ as less_apart}

abbrev pub by_name : List ℕ → List ℕ → Ordering
by_name = slice_cmp nat_cmp

pub list_all_push : {X : Type 0} (t : X → Bool) (xs : List X) (x : X) → list_all t xs ≡ true → t x ≡ true → list_all t (xs ++ x ∷ []) ≡ true
list_all_push t xs x all here = list_all_append t xs (x ∷ []) all (λ i. here i && true)

module _ {E : Type 0} where
  pub none_below : (k n : List ℕ) (es : List (List ℕ × E)) → eq_by_cmp by_name k n ≡ true → below_all by_name k es ≡ true → find_key by_name n es ≡ None
  none_below k n [] same below = refl
  none_below k n (e ∷ es) same below =
      let parts = and_parts (is_lt (by_name k e.0)) (below_all by_name k es) below in
      ap (λ b. cond b (Some e.1) (find_key by_name n es)) (ap (λ x. eq_by_cmp by_name x e.0) (sym (tied_name k n same)) ∙ less_apart (by_name k e.0) parts.0)
      ∙ none_below k n es same parts.1

  -- what is found in entries that are put over others, one more of them put in
  pub put_first : (k : List ℕ) (v : E) (es : List (List ℕ × E)) (o p : List ℕ → Option E) → is_sorted by_name ((k, v) ∷ es) ≡ true → ((n : List ℕ) → p n ≡ cond (eq_by_cmp by_name k n) (Some v) (o n))
      → (n : List ℕ) → option_or (find_key by_name n es) (p n) ≡ option_or (find_key by_name n ((k, v) ∷ es)) (o n)
  put_first k v es o p rise puts n =
      ap (option_or (find_key by_name n es)) (puts n)
      ∙ by (eq_by_cmp by_name k n) refl
      ∙ ap (λ b. option_or (cond b (Some v) (find_key by_name n es)) (o n)) (name_swap k n)
    where
      by : (b : Bool) → eq_by_cmp by_name k n ≡ b → option_or (find_key by_name n es) (cond b (Some v) (o n)) ≡ option_or (cond b (Some v) (find_key by_name n es)) (o n)
      by true same = ap (λ f. option_or f (Some v)) (none_below k n es same (and_parts (below_all by_name k es) (is_sorted by_name es) rise).0)
      by false apart = refl

  pub later_sorted : (e : List ℕ × E) (es : List (List ℕ × E)) → is_sorted by_name (e ∷ es) ≡ true → is_sorted by_name es ≡ true
  later_sorted e es rise = (and_parts (below_all by_name e.0 es) (is_sorted by_name es) rise).1

  pub nothing_over : (o : Option E) → option_or o None ≡ o
  nothing_over None = refl
  nothing_over (Some e) = refl

module _ {R E : Type 0} (seen : R → E) where
  abbrev pub view : List (List ℕ × R) → List (List ℕ × E)
  view es = map (λ e. (e.0, seen e.1)) es

  seen_cond : (b : Bool) (x : R) (o : Option R) → cond b (Some (seen x)) (option_map seen o) ≡ option_map seen (cond b (Some x) o)
  seen_cond true x o = refl
  seen_cond false x o = refl

  pub find-view : (es : List (List ℕ × R)) (n : List ℕ) → find_key by_name n (view es) ≡ option_map seen (lookup (is_at (by_name n)) es)
  find-view [] n = refl
  find-view (e ∷ es) n = ap (cond (is_at (by_name n) e.0) (Some (seen e.1))) (find-view es n) ∙ seen_cond (is_at (by_name n) e.0) e.1 (lookup (is_at (by_name n)) es)

  below_view : (k : List ℕ) (es : List (List ℕ × R)) → AllByRecursion (λ q. by_name k q ≡ Less) (keys_of es) → below_all by_name k (view es) ≡ true
  below_view k [] all = refl
  below_view k (e ∷ es) all = λ i. ap is_lt all.0 i && below_view k es all.1 i

  pub view_sorted : (es : List (List ℕ × R)) → IsStrictlySortedBy by_name (keys_of es) → is_sorted by_name (view es) ≡ true
  view_sorted [] rises = refl
  view_sorted (e ∷ es) rises = λ i. below_view e.0 es (sorted_head by_name e.0 (keys_of es) rises) i && view_sorted es (sorted_tail by_name e.0 (keys_of es) rises) i

  length-view : (es : List (List ℕ × R)) → length (view es) ≡ length es
  length-view [] = refl
  length-view (e ∷ es) = ap suc (length-view es)

  -- entries in a map's order
  pub found : (cs : List (List ℕ × E)) (es : List (List ℕ × R)) → cs ≡ view es → (n : List ℕ) → find_key by_name n cs ≡ option_map seen (lookup (is_at (by_name n)) es)
  found cs es is n = ap (find_key by_name n) is ∙ find-view es n

  pub entries_are : (cs : List (List ℕ × E)) (es : List (List ℕ × R)) → cs ≡ view es → length es ≤ 4294967295 → list_all (λ e. is_element e.0) cs ≡ true → IsStrictlySortedBy by_name (keys_of es) → are_entries cs ≡ true
  entries_are cs es is few named rises =
      let size = ap length is ∙ length-view es in
      λ i. (lt-ltb (length cs) (2 ^ 32) (omega arith) i && named i) && (ap (is_sorted by_name) is ∙ view_sorted es rises) i

  pub found_in : {V : Type 0} (of : V → List (List ℕ × E)) (r : Result V AllocError) (es : List (List ℕ × R)) → IfOk r (λ v. of v ≡ view es) → IfOk r (λ v. (n : List ℕ) → find_key by_name n (of v) ≡ option_map seen (lookup (is_at (by_name n)) es))
  found_in of (Ok v) es is = found (of v) es is
  found_in of (Err e) es is = tt

  pub entries_in : {V : Type 0} (of : V → List (List ℕ × E)) (r : Result V AllocError) (es : List (List ℕ × R)) → IfOk r (λ v. of v ≡ view es) → length es ≤ 4294967295 → IfOk r (λ v. list_all (λ e. is_element e.0) (of v) ≡ true) → IsStrictlySortedBy by_name (keys_of es) → IfOk r (λ v. are_entries (of v) ≡ true)
  entries_in of (Ok v) es is few named rises = entries_are (of v) es is few named rises
  entries_in of (Err e) es is few named rises = tt

  pub puts_seen : (k q n : List ℕ) (v : R) (new old : Option R) → new ≡ cond (is_at (by_name k) n) (Some v) old → k ≡ q → option_map seen new ≡ cond (eq_by_cmp by_name q n) (Some (seen v)) (option_map seen old)
  puts_seen k q n v new old puts same =
      ap (option_map seen) puts ∙ sym (seen_cond (eq_by_cmp by_name k n) v old) ∙ ap (λ x. cond (eq_by_cmp by_name x n) (Some (seen v)) (option_map seen old)) same
