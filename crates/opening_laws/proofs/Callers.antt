-- Who asks matters under a policy alone, and under one nothing is made that it doesn't allow.
use Rattle.std.proofs.Common.{◌≡◌, ℕ, true, false, cond, List, [], ◌∷◌, refl, sym, ap, ◌∙◌}
use Rattle.std.specs.Prelude.{None, Some, is_some, Ok, Contains}
use Rattle.byte_fields.proofs.Lists.{contains_head}
use Rattle.changeset_model.specs.Path.{Path}
use Rattle.changeset_model.specs.Changeset.{Changeset, touched_paths}
use Rattle.history_model.specs.History.{Body, Content, Whole, Change, Book, Land, Policy, Fault, Move, Landing, Entry, known, holds_policy, policy_of}
use Rattle.history_model.specs.Journal.{Header}
use Rattle.history_model.proofs.Policies.{held_has_text}
use Rattle.history_model.proofs.Trees.{touched_paths-rewrite}
use Rattle.policy_model.specs.Rules.{Rule, is_allowed, bookmark_place, policy_place}
use Rattle.policy_model.specs.Grammar.{parse}
use Rattle.policy_model.specs.Held.{rules_in, denied_under}
use Rattle.policy_model.proofs.Least.{all_allowed}
use Rattle.reply_model.specs.Reply.{Ask, PutContent, PutWhole, PutChangeset, SetBookmark, LandDraft, SetPolicy, told, denied_at, unresolved_of}
use Rattle.reply_model.specs.Legal.{MayFollow}
use Rattle.opening_laws.proofs.Made.{MadeBy, is_made}

-- ---- a policy is held or not

held_is : (h : List Entry) (text : List ℕ) → policy_of h ≡ Some text → holds_policy h ≡ true
held_is h text e = held_has_text h ∙ ap is_some e

none_is : (h : List Entry) → policy_of h ≡ None → holds_policy h ≡ false
none_is h e = held_has_text h ∙ ap is_some e

told_is : (h : List Entry) (text caller : List ℕ) → policy_of h ≡ Some text → told h caller ≡ Some caller
told_is h text caller e = ap (λ b. cond b (Some caller) None) (held_is h text e)

untold : (h : List Entry) (caller : List ℕ) → policy_of h ≡ None → told h caller ≡ None
untold h caller e = ap (λ b. cond b (Some caller) None) (none_is h e)

-- ---- what is made

abbrev pub landing_in : Landing → Body → Landing
landing_in other (Content x n) = other
landing_in other (Whole x n parts) = other
landing_in other (Change c) = other
landing_in other (Book move) = other
landing_in other (Land landing) = landing
landing_in other (Policy caller text) = other
landing_in other (Fault breaking) = other

abbrev move_in : Move → Body → Move
move_in other (Content x n) = other
move_in other (Whole x n parts) = other
move_in other (Change c) = other
move_in other (Book move) = move
move_in other (Land landing) = other
move_in other (Policy caller text) = other
move_in other (Fault breaking) = other

abbrev text_in : List ℕ → Body → List ℕ
text_in other (Content x n) = other
text_in other (Whole x n parts) = other
text_in other (Change c) = other
text_in other (Book move) = other
text_in other (Land landing) = other
text_in other (Policy caller text) = text
text_in other (Fault breaking) = other

abbrev caller_in : List ℕ → Body → List ℕ
caller_in other (Content x n) = other
caller_in other (Whole x n parts) = other
caller_in other (Change c) = other
caller_in other (Book move) = other
caller_in other (Land landing) = other
caller_in other (Policy caller text) = caller
caller_in other (Fault breaking) = other

pub record LandsAs (h : List Entry) (landing : Landing) (caller : List ℕ) : Type 0 where
  pub told_is : landing.caller ≡ told h caller
  pub allowed : denied_at h caller (touched_paths landing.new) ≡ None

landed_as : (h : List Entry) (ask : Ask) (landing : Landing) → MadeBy h ask (Land landing) → (caller : List ℕ) × LandsAs h landing caller
landed_as h (PutContent bytes) landing m = absurd (let e = m.1 in cc)
landed_as h (PutWhole body pieces) landing m = absurd (let e = m.3 in cc)
landed_as h (PutChangeset bytes) landing m = absurd (let e = m.3 in cc)
landed_as h (SetBookmark caller name from to) landing m = absurd (let e = m.0 in cc)
landed_as h (SetPolicy caller text) landing m = absurd (let e = m.0 in cc)
landed_as h (LandDraft caller name draft moment) landing m =
    let same = ap (landing_in landing) m.8 in (
      caller,
      record {
        told_is = ap (λ (l : Landing). l.caller) same;
        allowed = ap (denied_at h caller) (ap (λ (l : Landing). touched_paths l.new) same ∙ touched_paths-rewrite m.1.stack m.0 moment) ∙ m.9;
      },
    )

pub record MovesAs (h : List Entry) (move : Move) (caller : List ℕ) : Type 0 where
  pub told_is : move.caller ≡ told h caller
  pub allowed : denied_at h caller (bookmark_place move.name ∷ []) ≡ None

moved_as : (h : List Entry) (ask : Ask) (move : Move) → MadeBy h ask (Book move) → (caller : List ℕ) × MovesAs h move caller
moved_as h (PutContent bytes) move m = absurd (let e = m.1 in cc)
moved_as h (PutWhole body pieces) move m = absurd (let e = m.3 in cc)
moved_as h (PutChangeset bytes) move m = absurd (let e = m.3 in cc)
moved_as h (SetPolicy caller text) move m = absurd (let e = m.0 in cc)
moved_as h (LandDraft caller name draft moment) move m = absurd (let e = m.8 in cc)
moved_as h (SetBookmark caller name from to) move m =
    let same = ap (move_in move) m.0 in (
      caller,
      record {
        told_is = ap (λ (m : Move). m.caller) same;
        allowed = ap (λ name. denied_at h caller (bookmark_place name ∷ [])) (ap (λ (m : Move). m.name) same) ∙ m.1;
      },
    )

pub record SetsAs (h : List Entry) (caller text : List ℕ) : Type 0 where
  pub rules : List Rule
  pub read : parse text ≡ Ok rules
  pub allowed : denied_at h caller (policy_place ∷ []) ≡ None

set_as : (h : List Entry) (ask : Ask) (caller text : List ℕ) → MadeBy h ask (Policy caller text) → SetsAs h caller text
set_as h (PutContent bytes) caller text m = absurd (let e = m.1 in cc)
set_as h (PutWhole body pieces) caller text m = absurd (let e = m.3 in cc)
set_as h (PutChangeset bytes) caller text m = absurd (let e = m.3 in cc)
set_as h (SetBookmark who name from to) caller text m = absurd (let e = m.0 in cc)
set_as h (LandDraft who name draft moment) caller text m = absurd (let e = m.8 in cc)
set_as h (SetPolicy who given) caller text m = record {
  rules = m.2;
  read = ap parse (ap (text_in text) m.0) ∙ m.3;
  allowed = ap (λ name. denied_at h name (policy_place ∷ [])) (ap (caller_in caller) m.0) ∙ m.4;
}

pub lands_as : (header : Header) (h : List Entry) (landing : Landing) → MayFollow header h (Land landing) → (caller : List ℕ) × LandsAs h landing caller
lands_as header h landing m = let made = is_made header h (Land landing) refl m in landed_as h made.ask landing made.made

pub moves_as : (header : Header) (h : List Entry) (move : Move) → MayFollow header h (Book move) → (caller : List ℕ) × MovesAs h move caller
moves_as header h move m = let made = is_made header h (Book move) refl m in moved_as h made.ask move made.made

pub sets_as : (header : Header) (h : List Entry) (caller text : List ℕ) → MayFollow header h (Policy caller text) → SetsAs h caller text
sets_as header h caller text m = let made = is_made header h (Policy caller text) refl m in set_as h made.ask caller text made.made

abbrev pub change_in : Changeset → Body → Changeset
change_in other (Content x n) = other
change_in other (Whole x n parts) = other
change_in other (Change c) = c
change_in other (Book move) = other
change_in other (Land landing) = other
change_in other (Policy caller text) = other
change_in other (Fault breaking) = other

resolved_as : (h : List Entry) (ask : Ask) (c : Changeset) → MadeBy h ask (Change c) → unresolved_of (known h) c c.parents ≡ None
resolved_as h (PutContent bytes) c m = absurd (let e = m.1 in cc)
resolved_as h (PutWhole body pieces) c m = absurd (let e = m.3 in cc)
resolved_as h (SetBookmark caller name from to) c m = absurd (let e = m.0 in cc)
resolved_as h (LandDraft caller name draft moment) c m = absurd (let e = m.8 in cc)
resolved_as h (SetPolicy caller text) c m = absurd (let e = m.0 in cc)
resolved_as h (PutChangeset bytes) c m = ap (λ (c : Changeset). unresolved_of (known h) c c.parents) (ap (change_in c) m.3) ∙ m.2

pub changes_resolved : (header : Header) (h : List Entry) (c : Changeset) → MayFollow header h (Change c) → unresolved_of (known h) c c.parents ≡ None
changes_resolved header h c m = let made = is_made header h (Change c) refl m in resolved_as h made.ask c made.made

-- ---- under a policy

allowed_by : (h : List Entry) (text caller : List ℕ) (ps : List Path) (p : Path) → policy_of h ≡ Some text → denied_at h caller ps ≡ None → Contains ps p → is_allowed (rules_in text) caller p ≡ true
allowed_by h text caller ps p held none within = all_allowed (rules_in text) caller ps p (ap (λ o. denied_under o caller ps) (sym held) ∙ none) within

pub landing_allowed : (header : Header) (h : List Entry) (landing : Landing) (text : List ℕ) → policy_of h ≡ Some text → MayFollow header h (Land landing) → (caller : List ℕ) × (landing.caller ≡ Some caller) × ((p : Path) → Contains (touched_paths landing.new) p → is_allowed (rules_in text) caller p ≡ true)
landing_allowed header h landing text held m =
    let who = lands_as header h landing m in
    (who.0, who.1.told_is ∙ told_is h text who.0 held, λ p within. allowed_by h text who.0 (touched_paths landing.new) p held who.1.allowed within)

pub move_allowed : (header : Header) (h : List Entry) (move : Move) (text : List ℕ) → policy_of h ≡ Some text → MayFollow header h (Book move) → (caller : List ℕ) × (move.caller ≡ Some caller) × (is_allowed (rules_in text) caller (bookmark_place move.name) ≡ true)
move_allowed header h move text held m =
    let who = moves_as header h move m in
    (who.0, who.1.told_is ∙ told_is h text who.0 held, allowed_by h text who.0 (bookmark_place move.name ∷ []) (bookmark_place move.name) held who.1.allowed (contains_head (bookmark_place move.name) []))

pub policy_allowed : (header : Header) (h : List Entry) (caller new text : List ℕ) → policy_of h ≡ Some text → MayFollow header h (Policy caller new) → is_allowed (rules_in text) caller policy_place ≡ true
policy_allowed header h caller new text held m =
    allowed_by h text caller (policy_place ∷ []) policy_place held (sets_as header h caller new m).allowed (contains_head policy_place [])

pub policy_is_read : (header : Header) (h : List Entry) (caller text : List ℕ) → MayFollow header h (Policy caller text) → (rules : List Rule) × (parse text ≡ Ok rules)
policy_is_read header h caller text m = let who = sets_as header h caller text m in (who.rules, who.read)

-- ---- without one

pub landing_untold : (header : Header) (h : List Entry) (landing : Landing) → policy_of h ≡ None → MayFollow header h (Land landing) → landing.caller ≡ None
landing_untold header h landing none m = let who = lands_as header h landing m in who.1.told_is ∙ untold h who.0 none

pub move_untold : (header : Header) (h : List Entry) (move : Move) → policy_of h ≡ None → MayFollow header h (Book move) → move.caller ≡ None
move_untold header h move none m = let who = moves_as header h move m in who.1.told_is ∙ untold h who.0 none
