-- The places of stored entries.
use Rattle.std.proofs.Common.{◌≡◌, ℕ, suc, ◌+◌, ◌<◌, ◌≤◌, Bool, true, false, cond, List, [], ◌∷◌, ◌++◌, length, refl, sym, ap, ◌∙◌, arith, map, drop, get_or}
use Rattle.std.proofs.lemmas.List.{append-nil, drop_more, drop_all}
use Rattle.repo_machine.specs.declared.records.Entry.{Entry}
use Rattle.repo_machine.specs.Records.{is_kept, kept_from, body_of, entry_of, history_of}
use Rattle.std.specs.Prelude.{filter, count_by}
use Rattle.std.proofs.lemmas.List.Sums.{length-filter, count_by-le-length}
use Rattle.history_model.specs.History.{Known}
use Rattle.history_model.specs.History as model
use Rattle.repo_machine.specs.declared.records.Record.{Record}
use Rattle.repo_machine.specs.declared.records.Record.TheVariants.{Content, Whole, Change, Book, Land, Policy, Fault}
use Rattle.repo_machine.specs.Counting.{is_content, is_landing, is_content_record, is_landing_record, is_content_entry, is_landing_entry}

first_by : (b : Bool) (n m : ℕ) → n ≡ m → cond b (n ∷ []) [] ≡ cond b (m ∷ []) []
first_by b n m same = ap (λ n. cond b (n ∷ []) []) same

more_by : (b : Bool) (n : ℕ) (xs ys : List ℕ) → cond b (n ∷ (xs ++ ys)) (xs ++ ys) ≡ cond b (n ∷ xs) xs ++ ys
more_by true n xs ys = refl
more_by false n xs ys = refl

pub kept_push : (n : ℕ) (es : List Entry) (e : Entry) → kept_from n (es ++ e ∷ []) ≡ kept_from n es ++ cond (is_kept e) ((n + length es) ∷ []) []
kept_push n [] e = first_by (is_kept e) n (n + 0) (omega arith)
kept_push n (x ∷ es) e =
    ap (λ l. cond (is_kept x) (n ∷ l) l) (kept_push (suc n) es e ∙ ap (λ l. kept_from (suc n) es ++ l) (first_by (is_kept e) (suc n + length es) (n + suc (length es)) (omega arith)))
    ∙ more_by (is_kept x) n (kept_from (suc n) es) (cond (is_kept e) ((n + suc (length es)) ∷ []) [])

module _ (es : List Entry) (kept : List ℕ) (are : kept ≡ kept_from 0 es) (e : Entry) (after : List Entry) (grows : after ≡ es ++ e ∷ []) where
  pub kept_grown : is_kept e ≡ true → (place : ℕ) → place ≡ length es → (kept' : List ℕ) → kept' ≡ kept ++ place ∷ [] → kept' ≡ kept_from 0 after
  kept_grown stored place is kept' more =
      more ∙ (λ i. are i ++ is i ∷ []) ∙ sym (ap (kept_from 0) grows ∙ kept_push 0 es e ∙ ap (λ b. kept_from 0 es ++ cond b ((0 + length es) ∷ []) []) stored ∙ ap (λ n. kept_from 0 es ++ n ∷ []) (omega arith))

  pub kept_stays : is_kept e ≡ false → kept ≡ kept_from 0 after
  kept_stays fault = are ∙ sym (ap (kept_from 0) grows ∙ kept_push 0 es e ∙ ap (λ b. kept_from 0 es ++ cond b ((0 + length es) ∷ []) []) fault ∙ append-nil (kept_from 0 es))

module _ {X Y : Type 0} (f : X → Y) (p : X → Bool) (q : Y → Bool) (same : (x : X) → p x ≡ q (f x)) where
  length_kept : (x : X) (xs : List X) (b : Bool) → length (filter p xs) ≡ length (filter q (map f xs)) → length (cond b (x ∷ filter p xs) (filter p xs)) ≡ length (cond b (f x ∷ filter q (map f xs)) (filter q (map f xs)))
  length_kept x xs true more = ap suc more
  length_kept x xs false more = more

  length-filter-map : (xs : List X) → length (filter p xs) ≡ length (filter q (map f xs))
  length-filter-map [] = refl
  length-filter-map (x ∷ xs) = length_kept x xs (p x) (length-filter-map xs) ∙ ap (λ b. length (cond b (f x ∷ filter q (map f xs)) (filter q (map f xs)))) (same x)

  count_by-map : (xs : List X) → count_by p xs ≡ count_by q (map f xs)
  count_by-map xs = sym (length-filter p xs) ∙ length-filter-map xs ∙ length-filter q (map f xs)

-- one by one
module _ {X : Type 0} (p : X → Bool) (xs : List X) (i n : ℕ) (so_far : n + length (filter p (drop i xs)) ≡ length (filter p xs)) where
  left_by : (x : X) → i < length xs → x ≡ get_or xs i x → (b : Bool) → p x ≡ b → length (filter p (drop i xs)) ≡ length (cond b (x ∷ filter p (drop (i + 1) xs)) (filter p (drop (i + 1) xs)))
  left_by x below is b same =
      ap (λ (l : List X). length (filter p l)) (drop_more xs i x below ∙ ap (λ x. x ∷ drop (i + 1) xs) (sym is))
      ∙ ap (λ b. length (cond b (x ∷ filter p (drop (i + 1) xs)) (filter p (drop (i + 1) xs)))) same

  pub one_counted : (x : X) → i < length xs → x ≡ get_or xs i x → p x ≡ true → (n + 1) + length (filter p (drop (i + 1) xs)) ≡ length (filter p xs)
  one_counted x below is same = let left = left_by x below is true same in omega arith

  pub none_counted : (x : X) → i < length xs → x ≡ get_or xs i x → p x ≡ false → n + length (filter p (drop (i + 1) xs)) ≡ length (filter p xs)
  none_counted x below is same = sym (ap (λ k. n + k) (left_by x below is false same)) ∙ so_far

  pub few_counted : (x : X) → i < length xs → x ≡ get_or xs i x → p x ≡ true → n + 1 ≤ length xs
  few_counted x below is same =
      let one = one_counted x below is same in let counted = length-filter p xs in let few = count_by-le-length p xs in omega arith

  pub all_counted : length xs ≤ i → n ≡ count_by p xs
  all_counted past =
      let none : length (filter p (drop i xs)) ≡ 0 = ap (λ (l : List X). length (filter p l)) (drop_all i xs past) in
      let counted = length-filter p xs in omega arith

content_by : (ks : List Known) (r : Record) → is_content_record r ≡ is_content (body_of ks r)
content_by ks (Content id length) = refl
content_by ks (Whole whole) = refl
content_by ks (Change number) = refl
content_by ks (Book movement) = refl
content_by ks (Land landing) = refl
content_by ks (Policy policy) = refl
content_by ks (Fault breaking) = refl

landing_by : (ks : List Known) (r : Record) → is_landing_record r ≡ is_landing (body_of ks r)
landing_by ks (Content id length) = refl
landing_by ks (Whole whole) = refl
landing_by ks (Change number) = refl
landing_by ks (Book movement) = refl
landing_by ks (Land landing) = refl
landing_by ks (Policy policy) = refl
landing_by ks (Fault breaking) = refl

pub contents_counted : (ks : List Known) (es : List Entry) → count_by is_content_entry es ≡ count_by (λ (e : model.Entry). is_content e.body) (history_of ks es)
contents_counted ks es = count_by-map (entry_of ks) is_content_entry (λ (e : model.Entry). is_content e.body) (λ e. content_by ks e.record) es

pub landings_counted : (ks : List Known) (es : List Entry) → count_by is_landing_entry es ≡ count_by (λ (e : model.Entry). is_landing e.body) (history_of ks es)
landings_counted ks es = count_by-map (entry_of ks) is_landing_entry (λ (e : model.Entry). is_landing e.body) (λ e. landing_by ks e.record) es
