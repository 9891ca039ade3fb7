-- The rules of lines that are read one after another.
use Rattle.std.proofs.Common.{◌≡◌, ℕ, ◌+◌, ◌<◌, ◌≤◌, Bool, true, false, cond, List, [], ◌∷◌, ◌++◌, length, take, drop, Some, None, refl, sym, ap, ◌∙◌, arith, append_assoc}
use Rattle.std.specs.Prelude.{Result, Ok, Err, ◌==◌, nat_lt, position}
use Rattle.std.specs.List.{slice_split, position_or_len, before_first, after_first}
use Rattle.std.proofs.lemmas.Bool.{ltb-true, ltb-false, eq-eqb, ne_eqb}
use Rattle.std.proofs.lemmas.List.{length-append, length-map, map-append, take_all, drop_all}
use Rattle.std.proofs.lemmas.List.Splits.{slice_split_first, slice_split_none, length-slice_split}
use Rattle.std.proofs.lemmas.List.Sums.{fails_before_first}
use Rattle.std.proofs.lemmas.Option.{cond_some}
use Rattle.policy_model.specs.Rules.{Rule}
use Rattle.land_policy.specs.declared.rule.Rule as code
use Rattle.land_policy.specs.View.{rule_view, rules_view}
use Rattle.policy_model.specs.Grammar.{is_line_feed, rule_of, followed_by, rules_from}

-- the rules that were read, and then those that are read
abbrev pub after_rules : List Rule → Result (List Rule) ℕ → Result (List Rule) ℕ
after_rules rs (Ok more) = Ok (rs ++ more)
after_rules rs (Err line) = Err line

pub after_none : (r : Result (List Rule) ℕ) → after_rules [] r ≡ r
after_none (Ok more) = refl
after_none (Err line) = refl

one_more : (rs : List Rule) (r : Rule) (n : ℕ) (more : Result (List Rule) ℕ) → after_rules rs (followed_by n (Some r) more) ≡ after_rules (rs ++ r ∷ []) more
one_more rs r n (Ok more) = ap Ok (sym (append_assoc rs (r ∷ []) more))
one_more rs r n (Err line) = refl

-- ---- where the first line ends

split_at : {X : Type 0} (p : X → Bool) (xs : List X) (n : ℕ) (d : X) → position p xs ≡ Some n → slice_split p xs ≡ take n xs ∷ slice_split p (drop (n + 1) xs)
split_at p xs n d e =
    let at = cond_some (nat_lt (position_or_len p xs) (length xs)) (position_or_len p xs) n e in
    slice_split_first p xs d (ltb-true (position_or_len p xs) (length xs) at.0) ∙ ap (λ k. take k xs ∷ slice_split p (drop (k + 1) xs)) at.1

not_found : (b : Bool) (n : ℕ) → cond b (Some n) None ≡ None → b ≡ false
not_found true n h = absurd (cc)
not_found false n h = refl

one_part : {X : Type 0} (p : X → Bool) (xs : List X) → position p xs ≡ None → slice_split p xs ≡ xs ∷ []
one_part p xs e =
    let all = ltb-false (position_or_len p xs) (length xs) (not_found (nat_lt (position_or_len p xs) (length xs)) (position_or_len p xs) e) in
    slice_split_none p xs (λ k d less. fails_before_first p xs k d (omega arith))

some_parts : {X : Type 0} (p : X → Bool) (xs : List X) → 0 < length (slice_split p xs)
some_parts p xs = let n = length-slice_split p xs in omega arith

-- ---- one line

line_read : (rs : List Rule) (line : List ℕ) (lines : List (List ℕ)) (r : Rule) → 0 < length lines → (length rs == 1000) ≡ false → rule_of line ≡ Some r → after_rules rs (rules_from (length rs) (line ∷ lines)) ≡ after_rules (rs ++ r ∷ []) (rules_from (length (rs ++ r ∷ [])) lines)
line_read rs line [] r some few is = absurd (omega arith)
line_read rs line (next ∷ lines) r some few is =
    (λ i. after_rules rs (cond (few i) (Err (length rs)) (followed_by (length rs) (is i) (rules_from (length rs + 1) (next ∷ lines)))))
    ∙ one_more rs r (length rs) (rules_from (length rs + 1) (next ∷ lines))
    ∙ ap (λ n. after_rules (rs ++ r ∷ []) (rules_from n (next ∷ lines))) (sym (length-append rs (r ∷ [])))

bad_line : (rs : List Rule) (line : List ℕ) (lines : List (List ℕ)) → 0 < length lines → (length rs == 1000) ≡ false → rule_of line ≡ None → after_rules rs (rules_from (length rs) (line ∷ lines)) ≡ Err (length rs)
bad_line rs line [] some few is = absurd (omega arith)
bad_line rs line (next ∷ lines) some few is = (λ i. after_rules rs (cond (few i) (Err (length rs)) (followed_by (length rs) (is i) (rules_from (length rs + 1) (next ∷ lines)))))

further_line : (rs : List Rule) (line : List ℕ) (lines : List (List ℕ)) → 0 < length lines → (length rs == 1000) ≡ true → after_rules rs (rules_from (length rs) (line ∷ lines)) ≡ Err (length rs)
further_line rs line [] some full = absurd (omega arith)
further_line rs line (next ∷ lines) some full = (λ i. after_rules rs (cond (full i) (Err (length rs)) (followed_by (length rs) (rule_of line) (rules_from (length rs + 1) (next ∷ lines)))))

-- ---- at the first line of a text

module _ (rs : List Rule) (text : List ℕ) (n : ℕ) (found : position is_line_feed text ≡ Some n) where
  parts : slice_split is_line_feed text ≡ take n text ∷ slice_split is_line_feed (drop (n + 1) text)
  parts = split_at is_line_feed text n 0 found

  pub read_on : (r : Rule) → (length rs == 1000) ≡ false → rule_of (take n text) ≡ Some r → after_rules rs (rules_from (length rs) (slice_split is_line_feed text)) ≡ after_rules (rs ++ r ∷ []) (rules_from (length (rs ++ r ∷ [])) (slice_split is_line_feed (drop (n + 1) text)))
  read_on r few is =
      ap (λ ls. after_rules rs (rules_from (length rs) ls)) parts
      ∙ line_read rs (take n text) (slice_split is_line_feed (drop (n + 1) text)) r (some_parts is_line_feed (drop (n + 1) text)) few is

  pub read_bad : (length rs == 1000) ≡ false → rule_of (take n text) ≡ None → after_rules rs (rules_from (length rs) (slice_split is_line_feed text)) ≡ Err (length rs)
  read_bad few is = ap (λ ls. after_rules rs (rules_from (length rs) ls)) parts ∙ bad_line rs (take n text) (slice_split is_line_feed (drop (n + 1) text)) (some_parts is_line_feed (drop (n + 1) text)) few is

  pub read_further : (length rs == 1000) ≡ true → after_rules rs (rules_from (length rs) (slice_split is_line_feed text)) ≡ Err (length rs)
  read_further full = ap (λ ls. after_rules rs (rules_from (length rs) ls)) parts ∙ further_line rs (take n text) (slice_split is_line_feed (drop (n + 1) text)) (some_parts is_line_feed (drop (n + 1) text)) full

pub read_last : (rs : List Rule) (text : List ℕ) (ends : Bool) → position is_line_feed text ≡ None → (length text == 0) ≡ ends → after_rules rs (rules_from (length rs) (slice_split is_line_feed text)) ≡ after_rules rs (cond ends (Ok []) (Err (length rs)))
read_last rs text ends none is = ap (λ ls. after_rules rs (rules_from (length rs) ls)) (one_part is_line_feed text none) ∙ ap (λ b. after_rules rs (cond b (Ok []) (Err (length rs)))) is

-- ---- with the code's rules

module _ (items : List code.Rule) (text : List ℕ) (n len : ℕ) (all : Result (List Rule) ℕ) (found : position is_line_feed text ≡ Some n) (len_is : len ≡ length items)
    (before : after_rules (rules_view items) (rules_from (length (rules_view items)) (slice_split is_line_feed text)) ≡ all) where
  view_len : length (rules_view items) ≡ len
  view_len = length-map items rule_view ∙ sym len_is

  pub further : (line : ℕ) → len ≡ 1000 → 1000 ≡ line → all ≡ Err line
  further line full is = sym before ∙ read_further (rules_view items) text n found (eq-eqb (length (rules_view items)) 1000 (view_len ∙ full)) ∙ ap Err (view_len ∙ full ∙ is)

  pub bad : (line : ℕ) → (len ≡ 1000 → ⊥) → None ≡ rule_of (take n text) → len ≡ line → all ≡ Err line
  bad line few no_rule is = sym before ∙ read_bad (rules_view items) text n found (ne_eqb (length (rules_view items)) 1000 (λ full. few (sym view_len ∙ full))) (sym no_rule) ∙ ap Err (view_len ∙ is)

  pub good : (r : code.Rule) (new : List code.Rule) (rest : List ℕ) → (len ≡ 1000 → ⊥) → Some (rule_view r) ≡ rule_of (take n text) → new ≡ items ++ r ∷ [] → rest ≡ drop (n + 1) text → after_rules (rules_view new) (rules_from (length (rules_view new)) (slice_split is_line_feed rest)) ≡ all
  good r new rest few is pushed rest_is =
      (λ i. after_rules (seen i) (rules_from (length (seen i)) (slice_split is_line_feed (rest_is i))))
      ∙ sym (read_on (rules_view items) text n found (rule_view r) (ne_eqb (length (rules_view items)) 1000 (λ full. few (sym view_len ∙ full))) (sym is)) ∙ before
    where
      seen : rules_view new ≡ rules_view items ++ rule_view r ∷ []
      seen = ap rules_view pushed ∙ map-append rule_view items (r ∷ [])

pub not_ended : (items : List code.Rule) (text : List ℕ) (len line : ℕ) (all : Result (List Rule) ℕ) → position is_line_feed text ≡ None → len ≡ length items → (length text ≡ 0 → ⊥) → len ≡ line → after_rules (rules_view items) (rules_from (length (rules_view items)) (slice_split is_line_feed text)) ≡ all → all ≡ Err line
not_ended items text len line all none len_is some is before =
    sym before ∙ read_last (rules_view items) text false none (ne_eqb (length text) 0 some) ∙ ap Err (length-map items rule_view ∙ sym len_is ∙ is)

-- ---- words

pub before_at : {X : Type 0} (p : X → Bool) (xs : List X) (n : ℕ) → position p xs ≡ Some n → take n xs ≡ before_first p xs
before_at p xs n e = ap (λ k. take k xs) (sym (cond_some (nat_lt (position_or_len p xs) (length xs)) (position_or_len p xs) n e).1)

pub after_at : {X : Type 0} (p : X → Bool) (xs : List X) (n : ℕ) → position p xs ≡ Some n → drop (n + 1) xs ≡ after_first p xs
after_at p xs n e = ap (λ k. drop (k + 1) xs) (sym (cond_some (nat_lt (position_or_len p xs) (length xs)) (position_or_len p xs) n e).1)

all_before : {X : Type 0} (p : X → Bool) (xs : List X) → position p xs ≡ None → length xs ≤ position_or_len p xs
all_before p xs e = ltb-false (position_or_len p xs) (length xs) (not_found (nat_lt (position_or_len p xs) (length xs)) (position_or_len p xs) e)

pub before_none : {X : Type 0} (p : X → Bool) (xs : List X) → position p xs ≡ None → xs ≡ before_first p xs
before_none p xs e = sym (take_all (position_or_len p xs) xs (all_before p xs e))

pub after_none_there : {X : Type 0} (p : X → Bool) (xs : List X) → position p xs ≡ None → [] ≡ after_first p xs
after_none_there p xs e = sym (drop_all (position_or_len p xs + 1) xs (let all = all_before p xs e in omega arith))
