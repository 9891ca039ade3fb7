-- The rules by path, and by caller, as one rule after another is entered.
use Rattle.std.proofs.Common.{◌≡◌, ◌+◌, ◌<◌, ℕ, Bool, true, false, cond, ◌&&◌, ◌||◌, List, [], ◌∷◌, ◌++◌, length, take, get_or, refl, sym, ap, ◌∙◌, arith, subst}
use Rattle.std.specs.Prelude.{bytes_eq, position, is_some, Option, None, Some}
use Rattle.std.specs.List.{position_from}
use Rattle.std.specs.Option.{option_map, option_or, MatchOption}
use Rattle.std.specs.Borrow.{Bor}
use Rattle.std.specs.BTreeMap.{BTreeMap, get}
use Rattle.std.specs.Cmp.Lexicographic.{slice_cmp}
use Rattle.std.specs.Ordering.{nat_cmp, is_eq}
use Rattle.std.specs.declared.string.String.{String}
use Rattle.std.proofs.lemmas.List.{take_more, map-append, length-map, length-take-le}
use Rattle.std.proofs.lemmas.List.Folds.{list_any-append}
use Rattle.std.proofs.lemmas.Iterator.Adapters.{position_from-zero}
use Rattle.std.proofs.lemmas.Map.Text.{is_eq-slice_cmp}
use Rattle.std.proofs.lemmas.Slice.Eq.{bytes_eq-Decides}
use Rattle.byte_fields.proofs.Booleans.{or_false, neither}
use Rattle.changeset_model.specs.Path.{path_eq}
use Rattle.policy_model.specs.Rules as model
use Rattle.land_policy.specs.declared.rule.Rule.{Rule}
use Rattle.land_policy.specs.Index.{place_of, same_caller, is_here, names, IsFirsts, IsTablesOf, IsOwn}
use Rattle.land_policy.specs.View.{rule_view, rules_view}
use Rattle.land_policy.proofs.Positions.{position_push}

-- ---- one key

or_none : (o : Option ℕ) → o ≡ option_or o None
or_none None = refl
or_none (Some n) = refl

stays : (n : ℕ) (o : Option ℕ) → is_some o ≡ true → o ≡ option_or o (Some n)
stays n None h = absurd (cc)
stays n (Some m) h = refl

none_there : (o : Option ℕ) → is_some o ≡ false → o ≡ None
none_there None h = refl
none_there (Some n) h = absurd (cc)

-- what a map has at a key after a number was put at another one, or at this one where nothing was
pub put : (place key : List ℕ) (n : ℕ) (at : List ℕ → Option ℕ) (after : Option ℕ) → is_some (at place) ≡ false → after ≡ cond (bytes_eq place key) (Some n) (at key) → after ≡ option_or (at key) (cond (bytes_eq place key) (Some n) None)
put place key n at after none is = is ∙ by (bytes_eq place key) refl
  where
    by : (b : Bool) → bytes_eq place key ≡ b → cond b (Some n) (at key) ≡ option_or (at key) (cond b (Some n) None)
    by true same = ap (λ (o : Option ℕ). option_or o (Some n)) (sym (ap at (sym ((bytes_eq-Decides place key).0 same)) ∙ none_there (at place) none))
    by false other = or_none (at key)

-- what it has where nothing is put, since something is there
pub kept : (place key : List ℕ) (n : ℕ) (at : List ℕ → Option ℕ) → is_some (at place) ≡ true → at key ≡ option_or (at key) (cond (bytes_eq place key) (Some n) None)
kept place key n at some = by (bytes_eq place key) refl
  where
    by : (b : Bool) → bytes_eq place key ≡ b → at key ≡ option_or (at key) (cond b (Some n) None)
    by true same = stays n (at key) (ap (λ (k : List ℕ). is_some (at k)) (sym ((bytes_eq-Decides place key).0 same)) ∙ some)
    by false other = or_none (at key)

-- ---- one more rule

pub view_more : (rs : List Rule) (n : ℕ) (r : Rule) → n < length rs → r ≡ get_or rs n r → rules_view (take (n + 1) rs) ≡ rules_view (take n rs) ++ rule_view r ∷ []
view_more rs n r less is = ap rules_view (take_more rs n r less ∙ ap (λ (x : Rule). take n rs ++ x ∷ []) (sym is)) ∙ map-append rule_view (take n rs) (r ∷ [])

view_len : (rs : List Rule) (n : ℕ) → n < length rs → length (rules_view (take n rs)) ≡ n
view_len rs n less = length-map (take n rs) rule_view ∙ length-take-le n rs (omega arith)

-- a rule of the caller is found at its path, where none before it has that path
pub entered : (caller : Option (List ℕ)) (key place : List ℕ) (rs : List Rule) (n : ℕ) (r : Rule) (before after : Option ℕ) → n < length rs → r ≡ get_or rs n r → same_caller caller (rule_view r).name ≡ true → path_eq (rule_view r).elements (place_of key) ≡ bytes_eq place key
    → before ≡ position (is_here caller key) (rules_view (take n rs)) → after ≡ option_or before (cond (bytes_eq place key) (Some n) None) → after ≡ position (is_here caller key) (rules_view (take (n + 1) rs))
entered caller key place rs n r before after less is same at was becomes =
    becomes ∙ (λ i. option_or (was i) (cond ((sym (λ j. same j && at j)) i) (Some n) None))
    ∙ sym (position_push (is_here caller key) (rules_view (take n rs)) (rule_view r) n (view_len rs n less))
    ∙ ap (position (is_here caller key)) (sym (view_more rs n r less is))

-- a rule of another caller isn't
pub passed_over : (caller : Option (List ℕ)) (key : List ℕ) (rs : List Rule) (n : ℕ) (r : Rule) (before : Option ℕ) → n < length rs → r ≡ get_or rs n r → same_caller caller (rule_view r).name ≡ false
    → before ≡ position (is_here caller key) (rules_view (take n rs)) → before ≡ position (is_here caller key) (rules_view (take (n + 1) rs))
passed_over caller key rs n r before less is other was =
    was ∙ or_none (position (is_here caller key) (rules_view (take n rs)))
    ∙ (λ i. option_or (position (is_here caller key) (rules_view (take n rs))) (cond (sym other i && path_eq (rule_view r).elements (place_of key)) (Some n) None))
    ∙ sym (position_push (is_here caller key) (rules_view (take n rs)) (rule_view r) n (view_len rs n less))
    ∙ ap (position (is_here caller key)) (sym (view_more rs n r less is))

-- ---- the callers that rules name

names_more : (rs : List Rule) (n : ℕ) (r : Rule) (caller : List ℕ) → n < length rs → r ≡ get_or rs n r → names (rules_view (take (n + 1) rs)) caller ≡ (names (rules_view (take n rs)) caller || same_caller (Some caller) (rule_view r).name)
names_more rs n r caller less is =
    ap (λ ms. names ms caller) (view_more rs n r less is) ∙ list_any-append (λ m. same_caller (Some caller) m.name) (rules_view (take n rs)) (rule_view r ∷ [])
    ∙ ap (λ (b : Bool). names (rules_view (take n rs)) caller || b) (or_false (same_caller (Some caller) (rule_view r).name))

either : (a b : Bool) → a ≡ false → b ≡ false → (a || b) ≡ false
either true b h g = absurd (cc)
either false b h g = g

-- a rule that adds no caller
kept_by : {Y : Type 0} (all : List model.Rule) (rs : List Rule) (n : ℕ) (r : Rule) (caller : List ℕ) (o : Option (BTreeMap (String Y) ℕ)) → n < length rs → r ≡ get_or rs n r → (o ≡ None → same_caller (Some caller) (rule_view r).name ≡ false)
    → MatchOption o (names (rules_view (take n rs)) caller ≡ false) (IsFirsts all (Some caller)) → MatchOption o (names (rules_view (take (n + 1) rs)) caller ≡ false) (IsFirsts all (Some caller))
kept_by all rs n r caller None less is other was = names_more rs n r caller less is ∙ either (names (rules_view (take n rs)) caller) (same_caller (Some caller) (rule_view r).name) was (other refl)
kept_by all rs n r caller (Some m) less is other was = was

pub same_tables : {Y : Type 0} (all : List model.Rule) (rs : List Rule) (n : ℕ) (r : Rule) (m : BTreeMap (List ℕ) (BTreeMap (String Y) ℕ)) → n < length rs → r ≡ get_or rs n r
    → ((caller : List ℕ) → get (slice_cmp nat_cmp) m caller ≡ None → same_caller (Some caller) (rule_view r).name ≡ false)
    → IsTablesOf all (rules_view (take n rs)) m → IsTablesOf all (rules_view (take (n + 1) rs)) m
same_tables all rs n r m less is other was caller = kept_by all rs n r caller (get (slice_cmp nat_cmp) m caller) less is (other caller) (was caller)

-- a rule of everyone names nobody
pub nobody : (caller : List ℕ) (name : Option (List ℕ)) → name ≡ None → same_caller (Some caller) name ≡ false
nobody caller None h = refl
nobody caller (Some name) h = absurd (cc)

-- a caller that has its table already
pub present : {Y : Type 0} (m : BTreeMap (List ℕ) (BTreeMap (String Y) ℕ)) (name caller : List ℕ) → is_some (get (slice_cmp nat_cmp) m name) ≡ true → get (slice_cmp nat_cmp) m caller ≡ None → bytes_eq name caller ≡ false
present m name caller some none = by (bytes_eq name caller) refl
  where
    by : (b : Bool) → bytes_eq name caller ≡ b → b ≡ false
    by true same = absurd (let no : false ≡ true = sym (ap is_some (ap (get (slice_cmp nat_cmp) m) ((bytes_eq-Decides name caller).0 same) ∙ none)) ∙ some in cc)
    by false same = refl

-- a new caller
pub one_table : {Y : Type 0} (all : List model.Rule) (rs : List Rule) (n : ℕ) (r : Rule) (name : List ℕ) (m k : BTreeMap (List ℕ) (BTreeMap (String Y) ℕ)) (t : BTreeMap (String Y) ℕ) → n < length rs → r ≡ get_or rs n r → (rule_view r).name ≡ Some name → IsFirsts all (Some name) t
    → ((caller : List ℕ) → get (slice_cmp nat_cmp) k caller ≡ cond (is_eq (slice_cmp nat_cmp name caller)) (Some t) (get (slice_cmp nat_cmp) m caller))
    → IsTablesOf all (rules_view (take n rs)) m → IsTablesOf all (rules_view (take (n + 1) rs)) k
one_table {Y} all rs n r name m k t less is named firsts becomes was caller =
    subst (λ (o : Option (BTreeMap (String Y) ℕ)). MatchOption o (names (rules_view (take (n + 1) rs)) caller ≡ false) (IsFirsts all (Some caller)))
    (sym (becomes caller ∙ ap (λ (b : Bool). cond b (Some t) (get (slice_cmp nat_cmp) m caller)) (is_eq-slice_cmp name caller)))
    (by (bytes_eq name caller) refl)
  where
    by : (b : Bool) → bytes_eq name caller ≡ b → MatchOption (cond b (Some t) (get (slice_cmp nat_cmp) m caller)) (names (rules_view (take (n + 1) rs)) caller ≡ false) (IsFirsts all (Some caller))
    by true same = subst (λ (q : List ℕ). IsFirsts all (Some q) t) ((bytes_eq-Decides name caller).0 same) firsts
    by false other = kept_by all rs n r caller (get (slice_cmp nat_cmp) m caller) less is (λ _. ap (same_caller (Some caller)) named ∙ other) (was caller)

-- ---- the table of one caller

none_from : (rules : List model.Rule) (n : ℕ) (caller key : List ℕ) → names rules caller ≡ false → None ≡ position_from (is_here (Some caller) key) n rules
none_from [] n caller key h = refl
none_from (r ∷ rules) n caller key h =
    let parts = neither (same_caller (Some caller) r.name) (names rules caller) h in
    none_from rules (n + 1) caller key parts.1
    ∙ (λ i. cond (sym parts.0 i && path_eq r.elements (place_of key)) (Some n) (position_from (is_here (Some caller) key) (n + 1) rules))

none_here : (rules : List model.Rule) (caller key : List ℕ) → names rules caller ≡ false → None ≡ position (is_here (Some caller) key) rules
none_here rules caller key h = none_from rules 0 caller key h ∙ sym (position_from-zero (is_here (Some caller) key) rules)

pub own_table : {Y : Type 0} (rules : List model.Rule) (caller : List ℕ) (m : BTreeMap (List ℕ) (BTreeMap (String Y) ℕ)) (own : Option (Bor (BTreeMap (String Y) ℕ))) → option_map (λ (b : Bor (BTreeMap (String Y) ℕ)). b.now) own ≡ get (slice_cmp nat_cmp) m caller → IsTablesOf rules rules m → IsOwn rules caller own
own_table {Y} rules caller m own is tables = by own (subst (λ (o : Option (BTreeMap (String Y) ℕ)). MatchOption o (names rules caller ≡ false) (IsFirsts rules (Some caller))) (sym is) (tables caller))
  where
    by : (own : Option (Bor (BTreeMap (String Y) ℕ))) → MatchOption (option_map (λ (b : Bor (BTreeMap (String Y) ℕ)). b.now) own) (names rules caller ≡ false) (IsFirsts rules (Some caller)) → IsOwn rules caller own
    by None h key = none_here rules caller key h
    by (Some t) h key = h key
