-- The rule that decides at a path, from the one that decides above it and those that have just this path.
use Rattle.std.proofs.Common.{◌≡◌, ℕ, Bool, true, false, ◌&&◌, ◌||◌, List, [], ◌∷◌, ◌++◌, refl, sym, ap, ◌∙◌}
use Rattle.std.specs.Prelude.{bytes_eq, position, Option, None, Some}
use Rattle.std.specs.Borrow.{Bor}
use Rattle.std.specs.BTreeMap.{BTreeMap}
use Rattle.std.specs.declared.string.String.{String}
use Rattle.changeset_model.specs.Path.{Path, is_prefix, path_eq}
use Rattle.policy_model.specs.Rules.{Rule, speaks_of, matches, decide}
use Rattle.land_policy.specs.Index.{place_of, same_caller, is_here, IsFirsts, IsOwn, lesser, found_at}
use Rattle.land_policy.proofs.Positions.{position_either, position_same}

-- ---- one rule

same_or_all : (name : List ℕ) (who : Option (List ℕ)) → speaks_of name who ≡ (same_caller None who || same_caller (Some name) who)
same_or_all name None = refl
same_or_all name (Some who) = refl

distribute : (a b c : Bool) → ((a || b) && c) ≡ ((a && c) || (b && c))
distribute true true true = refl
distribute true true false = refl
distribute true false true = refl
distribute true false false = refl
distribute false true true = refl
distribute false true false = refl
distribute false false true = refl
distribute false false false = refl

split : (a b c : Bool) → (a && (b || c)) ≡ ((a && b) || (a && c))
split true b c = refl
split false b c = refl

nothing_above : (p : Path) → is_prefix p [] ≡ path_eq p []
nothing_above [] = refl
nothing_above (e ∷ p) = refl

prefix_of_more : (p front : Path) (last : List ℕ) → is_prefix p (front ++ last ∷ []) ≡ (is_prefix p front || path_eq p (front ++ last ∷ []))
prefix_of_more [] front last = refl
prefix_of_more (e ∷ p) [] last = ap (λ (b : Bool). bytes_eq e last && b) (nothing_above p)
prefix_of_more (e ∷ p) (f ∷ front) last = ap (λ (b : Bool). bytes_eq e f && b) (prefix_of_more p front last) ∙ split (bytes_eq e f) (is_prefix p front) (path_eq p (front ++ last ∷ []))

-- it speaks of the caller or of everyone, and has just this path
here_by_key : (name key : List ℕ) (p : Path) → place_of key ≡ p → (r : Rule) → (speaks_of name r.name && path_eq r.elements p) ≡ (is_here None key r || is_here (Some name) key r)
here_by_key name key p is r =
    (λ i. same_or_all name r.name i && path_eq r.elements (sym is i))
    ∙ distribute (same_caller None r.name) (same_caller (Some name) r.name) (path_eq r.elements (place_of key))

-- ---- all rules

here_first : (rules : List Rule) (name key : List ℕ) (p : Path) → place_of key ≡ p → position (λ r. speaks_of name r.name && path_eq r.elements p) rules ≡ lesser (position (is_here None key) rules) (position (is_here (Some name) key) rules)
here_first rules name key p is = position_same _ _ rules (here_by_key name key p is) ∙ position_either (is_here None key) (is_here (Some name) key) rules

decide_at_root : (rules : List Rule) (name : List ℕ) → decide rules name [] ≡ lesser (position (is_here None []) rules) (position (is_here (Some name) []) rules)
decide_at_root rules name = position_same (matches name []) (λ r. speaks_of name r.name && path_eq r.elements []) rules (λ r. ap (λ (b : Bool). speaks_of name r.name && b) (nothing_above r.elements)) ∙ here_first rules name [] [] refl

decide_below : (rules : List Rule) (name key : List ℕ) (front : Path) (last : List ℕ) → place_of key ≡ front ++ last ∷ [] → decide rules name (front ++ last ∷ []) ≡ lesser (decide rules name front) (lesser (position (is_here None key) rules) (position (is_here (Some name) key) rules))
decide_below rules name key front last is =
    position_same (matches name (front ++ last ∷ [])) (λ r. matches name front r || (speaks_of name r.name && path_eq r.elements (front ++ last ∷ []))) rules
    (λ r. ap (λ (b : Bool). speaks_of name r.name && b) (prefix_of_more r.elements front last) ∙ split (speaks_of name r.name) (is_prefix r.elements front) (path_eq r.elements (front ++ last ∷ [])))
    ∙ position_either (matches name front) (λ r. speaks_of name r.name && path_eq r.elements (front ++ last ∷ [])) rules
    ∙ ap (lesser (decide rules name front)) (here_first rules name key (front ++ last ∷ []) is)

-- ---- what is looked up

module _ {Y : Type 0} (rules : List Rule) (name : List ℕ) (everyone : BTreeMap (String Y) ℕ) (own : Option (Bor (BTreeMap (String Y) ℕ))) (all_is : IsFirsts rules None everyone) (own_is : IsOwn rules name own) where
  found : (key : List ℕ) → found_at everyone own key ≡ lesser (position (is_here None key) rules) (position (is_here (Some name) key) rules)
  found key = (λ i. lesser (all_is key i) (own_is key i))

  pub found_at_root : found_at everyone own [] ≡ decide rules name []
  found_at_root = found [] ∙ sym (decide_at_root rules name)

  pub found_below : (key : List ℕ) (front : Path) (last : List ℕ) → place_of key ≡ front ++ last ∷ [] → lesser (decide rules name front) (found_at everyone own key) ≡ decide rules name (front ++ last ∷ [])
  found_below key front last is = ap (lesser (decide rules name front)) (found key) ∙ sym (decide_below rules name key front last is)
