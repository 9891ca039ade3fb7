-- Fronts that grow.
use Rattle.std.proofs.Common.{◌≡◌, ℕ, Bool, true, false, cond, List, [], ◌∷◌, ◌++◌, refl, ap, sym, subst, ◌∙◌, append_assoc, append-nil}
use Rattle.std.specs.Prelude.{◌==◌, ◌||◌, not, filter}
use mathlib.Core.List.{IsPrefix}
use Rattle.history_model.specs.History.{Body, Content, Whole, Change, Book, Land, Policy, Fault, Entry, entries_by, is_breaking, is_down, is_stored}
use Rattle.history_model.specs.Journal.{Header}
use Rattle.reply_model.specs.Reply.{Ask, Refusal}
use Rattle.reply_model.specs.After.{After, Answer, Asks, Call as AnyCall, Refuses, Memory, Made, Grows, nothing, calm_by, stands_of, SeesMore}
use Rattle.repo_state.specs.State.{HasNoFault}
use Rattle.run_gen.specs.Calls.{Call, Went}
use Rattle.byte_fields.proofs.Lists.{both_parts, prefix_self, prefix_trans}

pub prefix_more : {A : Type 0} (xs ys : List A) → IsPrefix xs (xs ++ ys)
prefix_more xs ys = (ys, refl)

pub prefix_after : {A : Type 0} (xs ys zs : List A) → IsPrefix ys zs → IsPrefix (xs ++ ys) (xs ++ zs)
prefix_after xs ys zs p = (p.0, append_assoc xs ys p.0 ∙ ap (λ w. xs ++ w) p.1)

-- ---- without faults

not_breaking : (b : Body) → is_stored b ≡ true → is_breaking b ≡ false
not_breaking (Content x n) is = refl
not_breaking (Whole x n parts) is = refl
not_breaking (Change c) is = refl
not_breaking (Book move) is = refl
not_breaking (Land landing) is = refl
not_breaking (Policy caller text) is = refl
not_breaking (Fault breaking) is = absurd cc

pub is_up : (h : List Entry) → HasNoFault h → is_down h ≡ false
is_up [] none = refl
is_up (e ∷ h) none = ap (λ b. b || is_down h) (not_breaking e.body none.0) ∙ is_up h none.1

calm_here : (e : Entry) (rest : List Entry) → is_breaking e.body ≡ false → (b : Bool) → filter (λ (x : Entry). not (is_breaking x.body)) (cond b (e ∷ rest) rest) ≡ cond b (e ∷ filter (λ (x : Entry). not (is_breaking x.body)) rest) (filter (λ (x : Entry). not (is_breaking x.body)) rest)
calm_here e rest calm true = ap (λ t. cond (not t) (e ∷ filter (λ (x : Entry). not (is_breaking x.body)) rest) (filter (λ (x : Entry). not (is_breaking x.body)) rest)) calm
calm_here e rest calm false = refl

-- no entry is left aside
pub calm_all : (who : ℕ) (h : List Entry) → HasNoFault h → calm_by who h ≡ entries_by who h
calm_all who [] none = refl
calm_all who (e ∷ h) none = calm_here e (entries_by who h) (not_breaking e.body none.0) (e.who == who) ∙ ap (λ es. cond (e.who == who) (e ∷ es) es) (calm_all who h none.1)

pub calm_before : (from to : List Entry) → IsPrefix from to → HasNoFault to → HasNoFault from
calm_before from to p none = (both_parts (λ (e : Entry). is_stored e.body ≡ true) from p.0 (subst HasNoFault (sym p.1) none)).0

-- ---- a call that made nothing

grown_begins : (old : List Entry) (who : ℕ) (before : List Entry) (made : Made) (new : List Entry) → Grows old who before made new → IsPrefix old new
grown_begins old who before made new g = prefix_trans old before new g.begins (prefix_trans before (before ++ stands_of who made) new (prefix_more before (stands_of who made)) g.stands)

grown_calm : (old : List Entry) (who : ℕ) (before : List Entry) (made : Made) (new : List Entry) → Grows old who before made new → made ≡ nothing → calm_by who new ≡ calm_by who old
grown_calm old who before made new g none = g.only ∙ ap (λ m. calm_by who (before ++ stands_of who m)) none ∙ ap (calm_by who) (append-nil before) ∙ g.own

pub refused_calm : (header : Header) (from : List Entry) (who : ℕ) (ask : Ask) (refusal : Refusal) (to : List Entry) → After header from who (Asks ask) (Refuses refusal) to → calm_by who to ≡ calm_by who from
refused_calm header from who ask refusal to a = grown_calm from who a.before a.made to a.grows a.answers.0

pub memory_sees : (header : Header) (from : List Entry) (who : ℕ) (ask : Ask) (to : List Entry) → After header from who (Asks ask) Memory to → HasNoFault to → SeesMore from who to
memory_sees header from who ask to a none =
    let begins = grown_begins from who a.before a.made to a.grows in record {
      begins = begins;
      own = sym (calm_all who to none) ∙ grown_calm from who a.before a.made to a.grows a.answers ∙ calm_all who from (calm_before from to begins none);
    }

-- ---- calls, one after another

pub after_begins : (header : Header) (from : List Entry) (who : ℕ) (call : AnyCall) (answer : Answer) (to : List Entry) → After header from who call answer to → IsPrefix from to
after_begins header from who call answer to a = grown_begins from who a.before a.made to a.grows

pub went_begins : (header : Header) (who : ℕ) (from : List Entry) (calls : List Call) (to : List Entry) → Went header who from calls to → IsPrefix from to
went_begins header who from [] to w = subst (IsPrefix from) (sym w) (prefix_self from)
went_begins header who from (call ∷ calls) to w = prefix_trans from call.front to (after_begins header from who _ _ call.front w.0.after) (went_begins header who call.front calls to w.1)
