-- The entries that granted calls made.
use Rattle.std.proofs.Common.{◌≡◌, ℕ, ◌+◌, List, [], ◌∷◌, ◌++◌, length, map, cond, Bool, true, refl, ap, subst, sym, ◌∙◌, arith, append_assoc, append-nil, length-append}
use Rattle.std.specs.Prelude.{Option, None, Some, Result, Ok, Err, filter, not}
use mathlib.Core.List.{IsPrefix}
use Rattle.std.specs.Option.{option_to_list}
use Rattle.std.proofs.lemmas.Bool.{eq-eqb}
use Rattle.std.proofs.lemmas.List.{map-append}
use Rattle.byte_fields.specs.Bytes.{Id}
use Rattle.byte_fields.proofs.Lists.{prefix_self, prefix_trans}
use Rattle.history_model.specs.History.{Body, Entry, entries_by, is_breaking, is_stored}
use Rattle.history_model.specs.Journal.{Header}
use Rattle.reply_model.specs.Reply.{Ask}
use Rattle.reply_model.specs.After.{calm_by, calm_fault, entry_by, stands_of}
use Rattle.reply_model.proofs.Fronts.{calm_by-append}
use Rattle.reply_model.proofs.Granted.{MakesStored, judge_stored}
use Rattle.repo_state.specs.State.{HasNoFault}
use Rattle.run_gen.specs.Answers.{Answered, EndsBy}
use Rattle.run_gen.specs.Calls.{Call, IsGranted, Went, bodies_of, heads_in, heads_of, landings_in}
use Rattle.run_gen.specs.declared.fault.LoadFault.{LoadFault}
use Rattle.run_gen.specs.declared.fault.LoadFault.TheVariants.{Refused, Memory}
use Rattle.run_gen.proofs.Fronts.{after_begins, calm_all, calm_before, refused_calm, went_begins}
use Rattle.run_gen.proofs.Granting.{judged_suits}

all_own : (who : ℕ) (bodies : List Body) → entries_by who (map (entry_by who) bodies) ≡ map (entry_by who) bodies
all_own who [] = refl
all_own who (b ∷ bs) =
    let rest = map (entry_by who) bs in ap (λ (t : Bool). cond t (entry_by who b ∷ entries_by who rest) (entries_by who rest)) (eq-eqb who who refl) ∙ ap (λ es. entry_by who b ∷ es) (all_own who bs)

own_calm : (who : ℕ) (made : Option Body) → ((body : Body) → made ≡ Some body → is_stored body ≡ true) → calm_by who (map (entry_by who) (option_to_list made)) ≡ map (entry_by who) (option_to_list made)
own_calm who None stored = refl
own_calm who (Some body) stored = calm_all who (entry_by who body ∷ []) (stored body refl, tt) ∙ all_own who (body ∷ [])

one_own : (header : Header) (who : ℕ) (from : List Entry) (call : Call) → IsGranted header who from call → calm_by who call.front ≡ calm_by who from ++ map (entry_by who) (option_to_list call.made)
one_own header who from call g =
    let a = g.after in
    let stands : stands_of who a.made ≡ map (entry_by who) (option_to_list call.made) =
    (λ i. map (entry_by who) (option_to_list (g.made_is i) ++ option_to_list (calm_fault (a.answers.0 i)))) ∙ ap (map (entry_by who)) (append-nil (option_to_list call.made)) in
    let stored : (body : Body) → call.made ≡ Some body → is_stored body ≡ true =
    λ body is. subst MakesStored a.answers.1 (judge_stored header a.before call.ask) body (g.made_is ∙ is) in
    a.grows.only ∙ calm_by-append who a.before (stands_of who a.made) ∙ (λ i. a.grows.own i ++ calm_by who (stands i)) ∙ ap (λ es. calm_by who from ++ es) (own_calm who call.made stored)

pub went_own : (header : Header) (who : ℕ) (from : List Entry) (calls : List Call) (to : List Entry) → Went header who from calls to → calm_by who to ≡ calm_by who from ++ map (entry_by who) (bodies_of calls)
went_own header who from [] to w = ap (calm_by who) w ∙ sym (append-nil (calm_by who from))
went_own header who from (call ∷ calls) to w =
    let first = map (entry_by who) (option_to_list call.made) in
    let rest = map (entry_by who) (bodies_of calls) in
    went_own header who call.front calls to w.1 ∙ ap (λ es. es ++ rest) (one_own header who from call w.0) ∙ append_assoc (calm_by who from) first rest
    ∙ ap (λ es. calm_by who from ++ es) (sym (map-append (entry_by who) (option_to_list call.made) (bodies_of calls)))

ended_own : {X : Type 0} (header : Header) (who : ℕ) (calls : List Call) (reached : List Entry) (asks : List Ask) (outcome : Result X LoadFault) (to : List Entry)
    → EndsBy header who calls reached asks outcome to → calm_by who to ≡ calm_by who reached
ended_own header who calls reached asks (Ok x) to e = ap (calm_by who) e.1
ended_own header who calls reached asks (Err Refused) to e = refused_calm header reached who e.ask e.refusal to e.after
ended_own header who calls reached asks (Err Memory) to e = ap (λ es. filter (λ (e : Entry). not (is_breaking e.body)) es) e.1.own

pub answered_own : {X : Type 0} (header : Header) (who : ℕ) (from : List Entry) (asks : List Ask) (heads : List Id) (outcome : Result X LoadFault) (to : List Entry)
    → (a : Answered header who from asks heads outcome to) → calm_by who to ≡ calm_by who from ++ map (entry_by who) (bodies_of a.calls)
answered_own header who from asks heads outcome to a = ended_own header who a.calls a.reached asks outcome to a.ends ∙ went_own header who from a.calls a.reached a.went

ended_begins : {X : Type 0} (header : Header) (who : ℕ) (calls : List Call) (reached : List Entry) (asks : List Ask) (outcome : Result X LoadFault) (to : List Entry) → EndsBy header who calls reached asks outcome to → IsPrefix reached to
ended_begins header who calls reached asks (Ok x) to e = subst (IsPrefix reached) (sym e.1) (prefix_self reached)
ended_begins header who calls reached asks (Err Refused) to e = after_begins header reached who _ _ to e.after
ended_begins header who calls reached asks (Err Memory) to e = e.1.begins

-- without faults, all of the seat's entries
pub answered_all : {X : Type 0} (header : Header) (who : ℕ) (from : List Entry) (asks : List Ask) (heads : List Id) (outcome : Result X LoadFault) (to : List Entry)
    → (a : Answered header who from asks heads outcome to) → HasNoFault to → entries_by who to ≡ entries_by who from ++ map (entry_by who) (bodies_of a.calls)
answered_all header who from asks heads outcome to a none =
    let begins = prefix_trans from a.reached to (went_begins header who from a.calls a.reached a.went) (ended_begins header who a.calls a.reached asks outcome to a.ends) in
    sym (calm_all who to none) ∙ answered_own header who from asks heads outcome to a ∙ ap (λ es. es ++ map (entry_by who) (bodies_of a.calls)) (calm_all who from (calm_before from to begins none))

landings_append : (xs ys : List Body) → landings_in (xs ++ ys) ≡ landings_in xs + landings_in ys
landings_append [] ys = omega arith
landings_append (x ∷ xs) ys = let rest = landings_append xs ys in omega arith

pub went_lands : (header : Header) (who : ℕ) (from : List Entry) (calls : List Call) (to : List Entry) → Went header who from calls to → landings_in (bodies_of calls) ≡ length (heads_of calls)
went_lands header who from [] to w = refl
went_lands header who from (call ∷ calls) to w =
    let g = w.0 in
    let judged = g.after.answers.1 in
    let here : landings_in (option_to_list call.made) ≡ length (heads_in call.granted) =
    ap (λ m. landings_in (option_to_list m)) (sym g.made_is) ∙ (judged_suits header g.after.before call.ask call.granted g.after.made.entry judged).landings in
    let rest = went_lands header who call.front calls to w.1 in
    omega (arith, landings_append (option_to_list call.made) (bodies_of calls), length-append (heads_in call.granted) (heads_of calls))
