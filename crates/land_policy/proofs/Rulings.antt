-- The rule that decides, and whether it allows.
use Rattle.std.proofs.Common.{◌≡◌, ◌+◌, ◌<◌, ◌≤◌, ℕ, zero, suc, Bool, true, false, cond, List, [], ◌∷◌, length, drop, get_or, refl, sym, ap, ◌∙◌, arith}
use Rattle.std.specs.Prelude.{not, nat_lt, position, find, slice_get, Option, None, Some, option_map}
use Rattle.std.specs.List.{position_or_len, All}
use Rattle.std.specs.Option.{option_map_or}
use Rattle.std.proofs.lemmas.Bool.{ltb-false}
use Rattle.std.proofs.lemmas.List.{length-map, drop_more, drop_all}
use Rattle.std.proofs.lemmas.List.Elements.{All-from_recursion}
use Rattle.std.proofs.lemmas.List.Folds.{find_at}
use Rattle.std.proofs.lemmas.List.Quantifiers.{position-Some}
use Rattle.std.proofs.lemmas.Option.{cond_some}
use Rattle.byte_fields.proofs.Booleans.{not_false}
use Rattle.byte_fields.proofs.Lists.{none_found, weaker}
use Rattle.changeset_model.specs.Path.{Path}
use Rattle.policy_model.specs.Rules as model
use Rattle.policy_model.specs.Rules.{matches, decide, is_allowed, denied, Denial}
use Rattle.land_policy.specs.declared.rule.Rule.{Rule}
use Rattle.land_policy.specs.View.{rule_view, rules_view}

-- ---- what is found at the first place

found_at_place : {X : Type 0} (p : X → Bool) (xs : List X) (n : ℕ) → position p xs ≡ Some n → find p xs ≡ slice_get xs n
found_at_place p xs n e = find_at p xs ∙ ap (slice_get xs) (cond_some (nat_lt (position_or_len p xs) (length xs)) (position_or_len p xs) n e).1

not_there : (b : Bool) (n : ℕ) → cond b (Some n) None ≡ None → b ≡ false
not_there true n h = absurd (cc)
not_there false n h = refl

past_end : {X : Type 0} (xs : List X) (n : ℕ) → length xs ≤ n → slice_get xs n ≡ None
past_end [] n h = refl
past_end (x ∷ xs) zero h = absurd (omega arith)
past_end (x ∷ xs) (suc n) h = past_end xs n (omega arith)

nothing_found : {X : Type 0} (p : X → Bool) (xs : List X) → position p xs ≡ None → find p xs ≡ None
nothing_found p xs e = find_at p xs ∙ past_end xs (position_or_len p xs) (ltb-false (position_or_len p xs) (length xs) (not_there (nat_lt (position_or_len p xs) (length xs)) (position_or_len p xs) e))

viewed : (rs : List Rule) (n : ℕ) (r : Rule) → n < length rs → r ≡ get_or rs n r → slice_get (rules_view rs) n ≡ Some (rule_view r)
viewed [] n r less is = absurd (omega arith)
viewed (s ∷ rs) zero r less is = ap (λ (x : Rule). Some (rule_view x)) (sym is)
viewed (s ∷ rs) (suc n) r less is = viewed rs n r (omega arith) is

-- ---- the rule that decides

nobody : model.Rule
nobody = record { allows = false; name = None; elements = [] }

pub in_rules : (rs : List Rule) (name : List ℕ) (p : Path) (n : ℕ) → decide (rules_view rs) name p ≡ Some n → n < length rs
in_rules rs name p n e = let less = (position-Some (matches name p) (rules_view rs) n nobody e).0 in let len = length-map rs rule_view in omega arith

pub allows_by : (rs : List Rule) (name : List ℕ) (p : Path) (n : ℕ) (r : Rule) → decide (rules_view rs) name p ≡ Some n → n < length rs → r ≡ get_or rs n r → r.allows ≡ is_allowed (rules_view rs) name p
allows_by rs name p n r e less is = ap (λ (o : Option model.Rule). option_map_or (λ x. x.allows) o false) (sym (found_at_place (matches name p) (rules_view rs) n e ∙ viewed rs n r less is))

pub allows_none : (rules : List model.Rule) (name : List ℕ) (p : Path) → decide rules name p ≡ None → false ≡ is_allowed rules name p
allows_none rules name p e = ap (λ (o : Option model.Rule). option_map_or (λ x. x.allows) o false) (sym (nothing_found (matches name p) rules e))

-- ---- the first path that isn't allowed

abbrev pub refused : List model.Rule → List ℕ → Path → Bool
refused rules name p = not (is_allowed rules name p)

-- what is refused among the paths from a place on is what is refused among all
abbrev pub IsSearched : List model.Rule → List ℕ → List Path → ℕ → Type 0
IsSearched rules name ps n = find (refused rules name) (drop n ps) ≡ find (refused rules name) ps

here_by : (rules : List model.Rule) (name : List ℕ) (ps : List Path) (n : ℕ) (p : Path) (b : Bool) → n < length ps → p ≡ get_or ps n p → is_allowed rules name p ≡ b → find (refused rules name) (drop n ps) ≡ cond (not b) (Some p) (find (refused rules name) (drop (n + 1) ps))
here_by rules name ps n p b less is allowed =
    ap (find (refused rules name)) (drop_more ps n p less ∙ ap (λ (q : Path). q ∷ drop (n + 1) ps) (sym is))
    ∙ ap (λ (a : Bool). cond (not a) (Some p) (find (refused rules name) (drop (n + 1) ps))) allowed

pub allowed_here : (rules : List model.Rule) (name : List ℕ) (ps : List Path) (n : ℕ) (p : Path) → n < length ps → p ≡ get_or ps n p → is_allowed rules name p ≡ true → IsSearched rules name ps n → IsSearched rules name ps (n + 1)
allowed_here rules name ps n p less is allowed before = sym (here_by rules name ps n p true less is allowed) ∙ before

pub denied_here : (rules : List model.Rule) (name : List ℕ) (ps : List Path) (n : ℕ) (p : Path) (rule : Option ℕ) → n < length ps → p ≡ get_or ps n p → is_allowed rules name p ≡ false → rule ≡ decide rules name p → IsSearched rules name ps n → Some (record { path = p; rule = rule }) ≡ denied rules name ps
denied_here rules name ps n p rule less is refuses decides before =
    ap (λ (o : Option ℕ). Some (record { path = p; rule = o })) decides
    ∙ ap (option_map (λ (q : Path). record { path = q; rule = decide rules name q })) (sym (here_by rules name ps n p false less is refuses) ∙ before)

none_refused : (rules : List model.Rule) (name : List ℕ) (ps : List Path) (n : ℕ) → length ps ≤ n → IsSearched rules name ps n → find (refused rules name) ps ≡ None
none_refused rules name ps n over before = sym before ∙ ap (find (refused rules name)) (drop_all n ps over)

pub none_denied : (rules : List model.Rule) (name : List ℕ) (ps : List Path) (n : ℕ) → length ps ≤ n → IsSearched rules name ps n → None ≡ denied rules name ps
none_denied rules name ps n over before = ap (option_map (λ (q : Path). record { path = q; rule = decide rules name q })) (sym (none_refused rules name ps n over before))

pub all_allowed : (rules : List model.Rule) (name : List ℕ) (ps : List Path) (n : ℕ) → length ps ≤ n → IsSearched rules name ps n → All (λ p. is_allowed rules name p ≡ true) ps
all_allowed rules name ps n over before =
    All-from_recursion (λ p. is_allowed rules name p ≡ true) ps (weaker (λ p. refused rules name p ≡ false) (λ p. is_allowed rules name p ≡ true) (λ p h. not_false (is_allowed rules name p) h) ps (none_found (refused rules name) ps (none_refused rules name ps n over before)))
