-- Asks that were answered, put together.
use Rattle.std.proofs.Common.{◌≡◌, ℕ, List, [], ◌∷◌, ◌++◌, refl, ap, sym, subst, ◌∙◌, append_assoc, append-nil}
use Rattle.std.specs.Prelude.{Result, Ok, Err}
use Rattle.std.proofs.lemmas.List.{map-append}
use Rattle.std.proofs.lemmas.Grind.{flat_map-append}
use mathlib.Core.List.{IsPrefix}
use Rattle.byte_fields.specs.Bytes.{Id}
use Rattle.history_model.specs.History.{Entry}
use Rattle.history_model.specs.Journal.{Header}
use Rattle.reply_model.specs.Reply.{Ask, Granted, Refusal}
use Rattle.reply_model.specs.After.{After, Asks, Grants, Refuses, SeesMore}
use Rattle.run_gen.specs.Answers.{Answered, EndsBy}
use Rattle.run_gen.specs.Calls.{Call, Went, asks_of, heads_in}
use Rattle.run_gen.specs.Grants.{IsSameOutcome}
use Rattle.run_gen.specs.declared.fault.LoadFault.{LoadFault}
use Rattle.run_gen.specs.declared.fault.LoadFault.TheVariants.{Refused, Memory}
use Rattle.run_gen.proofs.Fronts.{prefix_after}
use Rattle.byte_fields.proofs.Lists.{prefix_self, prefix_trans}

-- ---- one ask

module _ {X : Type 0} (header : Header) (who : ℕ) (from to : List Entry) where
  pub none_asked : (x : X) → Answered header who from [] [] (Ok x) from
  none_asked x = record { calls = []; reached = from; went = refl; heads_are = refl; ends = (refl, refl) }

  pub one_granted : (ask : Ask) (granted : Granted) (x : X) → After header from who (Asks ask) (Grants granted) to → Answered header who from (ask ∷ []) (heads_in granted) (Ok x) to
  one_granted ask granted x a = record {
    calls = record { ask = ask; granted = granted; made = a.made.entry; front = to } ∷ [];
    reached = to;
    went = (record { after = a; made_is = refl }, refl);
    heads_are = append-nil (heads_in granted);
    ends = (refl, refl);
  }

  pub one_refused : (ask : Ask) (refusal : Refusal) → After header from who (Asks ask) (Refuses refusal) to → Answered {X = X} header who from (ask ∷ []) [] (Err Refused) to
  one_refused ask refusal a = record {
    calls = [];
    reached = from;
    went = refl;
    heads_are = refl;
    ends = record { ask = ask; next = prefix_self (ask ∷ []); refusal = refusal; after = a };
  }

  pub cut_off : (asks : List Ask) → SeesMore from who to → Answered {X = X} header who from asks [] (Err Memory) to
  cut_off asks more = record { calls = []; reached = from; went = refl; heads_are = refl; ends = ((asks, refl), more) }

-- ---- and then

pub went_on : (header : Header) (who : ℕ) (from : List Entry) (first : List Call) (mid : List Entry) (later : List Call) (to : List Entry) → Went header who from first mid → Went header who mid later to → Went header who from (first ++ later) to
went_on header who from [] mid later to w v = subst (λ f. Went header who f later to) w v
went_on header who from (call ∷ first) mid later to w v = (w.0, went_on header who call.front first mid later to w.1 v)

module _ (header : Header) (who : ℕ) (first later : List Call) (asks more : List Ask) (is : asks_of first ≡ asks) where
  together : asks_of (first ++ later) ≡ asks ++ asks_of later
  together = map-append (λ (call : Call). call.ask) first later ∙ ap (λ l. l ++ asks_of later) is

  with_next : (ask : Ask) → asks_of (first ++ later) ++ ask ∷ [] ≡ asks ++ (asks_of later ++ ask ∷ [])
  with_next ask = ap (λ l. l ++ ask ∷ []) together ∙ append_assoc asks (asks_of later) (ask ∷ [])

  ends_on : {Y : Type 0} (reached : List Entry) (outcome : Result Y LoadFault) (to : List Entry) → EndsBy header who later reached more outcome to → EndsBy header who (first ++ later) reached (asks ++ more) outcome to
  ends_on reached (Ok y) to e = (together ∙ ap (λ l. asks ++ l) e.0, e.1)
  ends_on reached (Err Refused) to e = record {
    ask = e.ask;
    next = subst (λ l. IsPrefix l (asks ++ more)) (sym (with_next e.ask)) (prefix_after asks (asks_of later ++ e.ask ∷ []) more e.next);
    refusal = e.refusal;
    after = e.after;
  }
  ends_on reached (Err Memory) to e = (subst (λ l. IsPrefix l (asks ++ more)) (sym together) (prefix_after asks (asks_of later) more e.0), e.1)

pub and_then : {X Y : Type 0} (header : Header) (who : ℕ) (from mid to : List Entry) (asks more : List Ask) (heads others : List Id) (x : X) (outcome : Result Y LoadFault)
    → Answered header who from asks heads (Ok x) mid → Answered header who mid more others outcome to → Answered header who from (asks ++ more) (heads ++ others) outcome to
and_then header who from mid to asks more heads others x outcome a b = record {
  calls = a.calls ++ b.calls;
  reached = b.reached;
  went = went_on header who from a.calls mid b.calls b.reached (subst (λ l. Went header who from a.calls l) (sym a.ends.1) a.went) b.went;
  heads_are = flat_map-append (λ (call : Call). heads_in call.granted) a.calls b.calls ∙ (λ i. a.heads_are i ++ b.heads_are i);
  ends = ends_on header who a.calls b.calls asks more a.ends.0 b.reached outcome to b.ends;
}

ends_early : (X Y : Type 0) (header : Header) (who : ℕ) (calls : List Call) (reached : List Entry) (asks more : List Ask) (fault : LoadFault) (to : List Entry)
    → IsPrefix asks more → EndsBy {X = X} header who calls reached asks (Err fault) to → EndsBy {X = Y} header who calls reached more (Err fault) to
ends_early X Y header who calls reached asks more Refused to p e = record { ask = e.ask; next = prefix_trans (asks_of calls ++ e.ask ∷ []) asks more e.next p; refusal = e.refusal; after = e.after }
ends_early X Y header who calls reached asks more Memory to p e = (prefix_trans (asks_of calls) asks more e.0 p, e.1)

pub stops_early : {X Y : Type 0} (header : Header) (who : ℕ) (from to : List Entry) (asks more : List Ask) (heads : List Id) (fault : LoadFault)
    → IsPrefix asks more → Answered {X = X} header who from asks heads (Err fault) to → Answered {X = Y} header who from more heads (Err fault) to
stops_early {X = X} {Y = Y} header who from to asks more heads fault p a =
    record { calls = a.calls; reached = a.reached; went = a.went; heads_are = a.heads_are; ends = ends_early X Y header who a.calls a.reached asks more fault to p a.ends }

-- ---- the same of another result

same_ends : (X Y : Type 0) (header : Header) (who : ℕ) (calls : List Call) (reached : List Entry) (asks : List Ask) (outcome : Result X LoadFault) (other : Result Y LoadFault) (to : List Entry)
    → IsSameOutcome outcome other → EndsBy header who calls reached asks outcome to → EndsBy header who calls reached asks other to
same_ends X Y header who calls reached asks (Ok x) (Ok y) to same e = e
same_ends X Y header who calls reached asks (Ok x) (Err fault) to same e = absurd same
same_ends X Y header who calls reached asks (Err fault) (Ok y) to same e = absurd same
same_ends X Y header who calls reached asks (Err Refused) (Err other) to same e = subst (λ (f : LoadFault). EndsBy {X = Y} header who calls reached asks (Err f) to) same e
same_ends X Y header who calls reached asks (Err Memory) (Err other) to same e = subst (λ (f : LoadFault). EndsBy {X = Y} header who calls reached asks (Err f) to) same e

pub same_answered : {X Y : Type 0} (header : Header) (who : ℕ) (from to : List Entry) (asks : List Ask) (heads others : List Id) (outcome : Result X LoadFault) (other : Result Y LoadFault)
    → IsSameOutcome outcome other → heads ≡ others → Answered header who from asks heads outcome to → Answered header who from asks others other to
same_answered {X = X} {Y = Y} header who from to asks heads others outcome other same is a = record {
  calls = a.calls;
  reached = a.reached;
  went = a.went;
  heads_are = a.heads_are ∙ is;
  ends = same_ends X Y header who a.calls a.reached asks outcome other to same a.ends;
}
