-- Sums that fit are never cut.
use Rattle.std.proofs.Common.{◌≡◌, ℕ, ◌+◌, ◌<◌, ◌≤◌, ◌^◌, true, List, [], ◌∷◌, refl, ap, ◌∙◌, arith}
use Rattle.std.specs.Prelude.{fold, nat_lt}
use Rattle.std.specs.List.{list_all}
use Rattle.std.proofs.lemmas.Bool.{and_parts, ltb-true}
use Rattle.manifest_model.specs.Fsnode.{FsEntry, Summary, is_summary}
use Rattle.manifest_laws.specs.Summaries.{own_count, own_size, directory_count, all_count, all_size, summary_by}
use Rattle.derive_step.specs.Summing.{capped, with_entry, no_entries, capped_by}

abbrev Entries : Type 0
Entries = List (List ℕ × FsEntry)

abbrev sum_from : (List ℕ × FsEntry → ℕ) → ℕ → Entries → ℕ
sum_from f a es = fold (λ a e. a + f e) a es

abbrev cut_from : (List ℕ × FsEntry → ℕ) → ℕ → Entries → ℕ
cut_from f a es = fold (λ a e. capped (a + f e)) a es

grows : (f : List ℕ × FsEntry → ℕ) (a : ℕ) (es : Entries) → a ≤ sum_from f a es
grows f a [] = omega arith
grows f a (e ∷ es) = let rest = grows f (a + f e) es in omega (arith, rest)

uncut : (n : ℕ) → n < 2 ^ 64 → capped n ≡ n
uncut n h = omega arith

fits : (f : List ℕ × FsEntry → ℕ) (a b : ℕ) (es : Entries) → a ≡ b → sum_from f b es < 2 ^ 64 → cut_from f a es ≡ sum_from f b es
fits f a b [] same h = same
fits f a b (e ∷ es) same h =
    let most = grows f (b + f e) es in
    fits f (capped (a + f e)) (b + f e) es (ap (λ x. capped (x + f e)) same ∙ uncut (b + f e) (omega (arith, most, h))) h

parted : (s : Summary) (es : Entries) → fold (λ s e. with_entry s e.1) s es ≡ record {
  child_files_count = cut_from (λ e. own_count e.1) s.child_files_count es;
  child_files_total_size = cut_from (λ e. own_size e.1) s.child_files_total_size es;
  child_dirs_count = cut_from (λ e. directory_count e.1) s.child_dirs_count es;
  descendant_files_count = cut_from (λ e. all_count e.1) s.descendant_files_count es;
  descendant_files_total_size = cut_from (λ e. all_size e.1) s.descendant_files_total_size es;
}
parted s [] = refl
parted s (e ∷ es) = parted (with_entry s e.1) es

pub uncut_sums : (es : Entries) → is_summary (summary_by es) ≡ true → capped_by es ≡ summary_by es
uncut_sums es h =
    let s = summary_by es in
    let one = and_parts (nat_lt s.child_files_count (2 ^ 64)) (list_all (λ n. nat_lt n (2 ^ 64)) (s.child_files_total_size ∷ s.child_dirs_count ∷ s.descendant_files_count ∷ s.descendant_files_total_size ∷ [])) h in
    let two = and_parts (nat_lt s.child_files_total_size (2 ^ 64)) (list_all (λ n. nat_lt n (2 ^ 64)) (s.child_dirs_count ∷ s.descendant_files_count ∷ s.descendant_files_total_size ∷ [])) one.1 in
    let three = and_parts (nat_lt s.child_dirs_count (2 ^ 64)) (list_all (λ n. nat_lt n (2 ^ 64)) (s.descendant_files_count ∷ s.descendant_files_total_size ∷ [])) two.1 in
    let four = and_parts (nat_lt s.descendant_files_count (2 ^ 64)) (list_all (λ n. nat_lt n (2 ^ 64)) (s.descendant_files_total_size ∷ [])) three.1 in
    let five = and_parts (nat_lt s.descendant_files_total_size (2 ^ 64)) true four.1 in
    parted no_entries es ∙ (λ i. record {
      child_files_count = fits (λ e. own_count e.1) 0 0 es refl (ltb-true s.child_files_count (2 ^ 64) one.0) i;
      child_files_total_size = fits (λ e. own_size e.1) 0 0 es refl (ltb-true s.child_files_total_size (2 ^ 64) two.0) i;
      child_dirs_count = fits (λ e. directory_count e.1) 0 0 es refl (ltb-true s.child_dirs_count (2 ^ 64) three.0) i;
      descendant_files_count = fits (λ e. all_count e.1) 0 0 es refl (ltb-true s.descendant_files_count (2 ^ 64) four.0) i;
      descendant_files_total_size = fits (λ e. all_size e.1) 0 0 es refl (ltb-true s.descendant_files_total_size (2 ^ 64) five.0) i;
    })
