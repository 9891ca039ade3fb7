-- Changes that are made one after another are a chain of calls.
use Rattle.std.proofs.Common.{◌≡◌, ◌≢◌, ◌⊎◌, ◌<◌, ◌≤◌, ◌+◌, ℕ, suc, List, [], ◌∷◌, ◌++◌, length, take, drop, map, get_or, inl, inr, refl, sym, ap, subst, ◌∙◌, Result, Ok, Err, arith}
use Rattle.std.proofs.lemmas.List.{take-append-drop, map-append, length-map}
use Rattle.std.proofs.lemmas.Grind.{take_at_read}
use Rattle.std.proofs.Math.Seq.{drop-cons}
use Rattle.repo_calls.specs.declared.calls.ChangeFault.{ChangeFault}
use Rattle.repo_calls.specs.declared.calls.ChangeFault.TheVariants as faults
use Rattle.repo_calls.specs.declared.ask.Granted as calls
use Rattle.repo_calls.specs.declared.refusal.Refusal.{Refusal}
use Rattle.repo_calls.specs.declared.refusal.Refusal.TheVariants as refusals
use Rattle.repo_calls.specs.Asking.{stored_answer}
use Rattle.history_model.specs.History.{Entry}
use Rattle.history_model.specs.Journal.{Header}
use Rattle.reply_model.specs.Reply.{Granted}
use Rattle.reply_model.specs.After.{Relation, Call, Answer, Grants}
use Rattle.repo_calls.specs.Widening.{Widens}
use Rattle.repo_calls.specs.Calls.{call_seen, refused}
use Rattle.repo_calls.specs.declared.ask.Ask.{Ask}
use Rattle.stacked_calls.specs.Chain.{Answering, IsNoGrant, OnWay, AreGranted, SeesOn, Chained}
use Rattle.stacked_calls.specs.Stacking.{calls_seen}

-- what is granted by the one is granted by the wider
pub granted_wider : (narrow wide : Relation) → Widens narrow wide → (header : Header) (who : ℕ) (h : List Entry) (calls : List Call) (new : List Entry) → AreGranted narrow header who h calls new → AreGranted wide header who h calls new
granted_wider narrow wide wider header who h [] new is = is
granted_wider narrow wide wider header who h (call ∷ calls) new is = (is.0, is.1, wider.each header h who call (Grants is.0) is.1 is.2, granted_wider narrow wide wider header who is.1 calls new is.3)

-- one more is granted
pub granted_then : (on : Relation) (header : Header) (who : ℕ) (h : List Entry) (calls : List Call) (between : List Entry) (call : Call) (granted : Granted) (new : List Entry)
    → AreGranted on header who h calls between → on header between who call (Grants granted) new → AreGranted on header who h (calls ++ call ∷ []) new
granted_then on header who h [] between call granted new is one = (granted, new, subst (λ f. on header f who call (Grants granted) new) is one, refl)
granted_then on header who h (c ∷ calls) between call granted new is one = (is.0, is.1, is.2, granted_then on header who is.1 calls between call granted new is.3 one)

pub granted_on_way : (answering : Answering) (end : Answer) (header : Header) (who : ℕ) (h : List Entry) (calls : List Call) (new : List Entry) → AreGranted answering.replies header who h calls new
    → AreGranted (OnWay answering end) header who h calls new
granted_on_way answering end header who h [] new is = is
granted_on_way answering end header who h (call ∷ calls) new is = (is.0, is.1, inl is.2, granted_on_way answering end header who is.1 calls new is.3)

refusal_grants_nothing : (refusal : Refusal) → IsNoGrant (refused refusal)
refusal_grants_nothing refusals.Down g e = cc
refusal_grants_nothing (refusals.TooLong n) g e = cc
refusal_grants_nothing (refusals.BadEncoding at) g e = cc
refusal_grants_nothing (refusals.SelfConflict short long) g e = cc
refusal_grants_nothing (refusals.BadParts n) g e = cc
refusal_grants_nothing refusals.OldFormat g e = cc
refusal_grants_nothing (refusals.NoPiece x) g e = cc
refusal_grants_nothing (refusals.NotAPiece x) g e = cc
refusal_grants_nothing (refusals.NoParent x) g e = cc
refusal_grants_nothing (refusals.NoContent p x) g e = cc
refusal_grants_nothing (refusals.WrongSize p wanted found) g e = cc
refusal_grants_nothing (refusals.Unresolved p) g e = cc
refusal_grants_nothing (refusals.Collision x) g e = cc
refusal_grants_nothing (refusals.NoChangeset x) g e = cc
refusal_grants_nothing (refusals.Moved found) g e = cc
refusal_grants_nothing refusals.NoBookmark g e = cc
refusal_grants_nothing refusals.NoRoot g e = cc
refusal_grants_nothing (refusals.TooFarBehind n) g e = cc
refusal_grants_nothing refusals.AlreadyIn g e = cc
refusal_grants_nothing (refusals.StackTooLong n) g e = cc
refusal_grants_nothing (refusals.MergeInStack x) g e = cc
refusal_grants_nothing (refusals.MergeInRange x) g e = cc
refusal_grants_nothing (refusals.Denied place rule) g e = cc
refusal_grants_nothing (refusals.Clash left right) g e = cc
refusal_grants_nothing (refusals.TooLarge n) g e = cc
refusal_grants_nothing (refusals.BadPolicy line) g e = cc
refusal_grants_nothing (refusals.Full size n) g e = cc
refusal_grants_nothing refusals.Memory g e = cc

-- what isn't granted grants nothing
pub fault_grants_nothing : (fault : ChangeFault) → IsNoGrant (stored_answer (Err fault))
fault_grants_nothing (faults.Refused refusal) g e = refusal_grants_nothing refusal g e
fault_grants_nothing faults.DiskFault g e = cc
fault_grants_nothing faults.ReadFault g e = cc
fault_grants_nothing (faults.BadBytes wanted found) g e = cc

pub split_at : (asks : List Ask) (i : ℕ) (ask : Ask) → i < length asks → ask ≡ get_or asks i ask → asks ≡ take i asks ++ ask ∷ drop (i + 1) asks
split_at asks i ask less is =
    let next : suc i ≡ i + 1 = omega arith in
    sym (take-append-drop i asks) ∙ ap (λ ys. take i asks ++ ys) (drop-cons asks i ask less ∙ ap (λ y. y ∷ drop (suc i) asks) (sym is) ∙ ap (λ n. ask ∷ drop n asks) next)

calls_split : (asks earlier later : List Ask) (ask : Ask) → asks ≡ earlier ++ ask ∷ later → calls_seen asks ≡ calls_seen earlier ++ call_seen ask ∷ calls_seen later
calls_split asks earlier later ask is = ap calls_seen is ∙ map-append call_seen earlier (ask ∷ later)

module _ {Home : Type 0} (replies : Home → ℕ → Relation) (widens : (place : Home) (m n : ℕ) → m ≤ n → Widens (replies place m) (replies place n)) (home : Home) (header : Header) (who : ℕ) (h : List Entry) where
  -- a call of a seat that belongs there
  same_seat : (place : Home) (of : Header) (number n : ℕ) (between : List Entry) (call : Call) (answer : Answer) (new : List Entry) → place ≡ home → of ≡ header → number ≡ who
      → replies place n of between number call answer new → replies home n header between who call answer new
  same_seat place of number n between call answer new here of_it by r =
      subst (λ p. replies p n header between who call answer new) here (subst (λ o. replies place n o between who call answer new) of_it (subst (λ w. replies place n of between w call answer new) by r))

  -- one more of a list of changes is granted, by when more may be sealed
  pub one_more : (asks : List Ask) (i : ℕ) (ask : Ask) (m n : ℕ) (granted : Granted) (place : Home) (of : Header) (number : ℕ) (between new : List Entry) → m ≤ n → i < length asks → ask ≡ get_or asks i ask
      → place ≡ home → of ≡ header → number ≡ who → AreGranted (replies home m) header who h (calls_seen (take i asks)) between → replies place n of between number (call_seen ask) (Grants granted) new
      → AreGranted (replies home n) header who h (calls_seen (take (i + 1) asks)) new
  one_more asks i ask m n granted place of number between new le less is here of_it by are one =
      let before = granted_wider (replies home m) (replies home n) (widens home m n le) header who h (calls_seen (take i asks)) between are in
      let then = granted_then (replies home n) header who h (calls_seen (take i asks)) between (call_seen ask) granted new before (same_seat place of number n between (call_seen ask) (Grants granted) new here of_it by one) in
      subst (λ calls. AreGranted (replies home n) header who h calls new) (sym (map-append call_seen (take i asks) (ask ∷ [])) ∙ ap calls_seen (take_next asks i ask less is)) then
    where
      take_next : (xs : List Ask) (i : ℕ) (x : Ask) → i < length xs → x ≡ get_or xs i x → take i xs ++ x ∷ [] ≡ take (i + 1) xs
      take_next xs i x less is = ap (λ y. take i xs ++ y ∷ []) is ∙ sym (take_at_read xs i x less).1

  -- and the one at which they end
  pub chain_ends : (enters : Relation) (asks earlier later : List Ask) (ask : Ask) (at m n : ℕ) (answer : Answer) (place : Home) (of : Header) (number : ℕ) (between new : List Entry) → m ≤ n → asks ≡ earlier ++ ask ∷ later
      → at ≡ length earlier → ((later ≡ []) ⊎ IsNoGrant answer) → place ≡ home → of ≡ header → number ≡ who → AreGranted (replies home m) header who h (calls_seen earlier) between → replies place n of between number (call_seen ask) answer new
      → Chained (record { replies = replies home n; enters = enters }) header who h (calls_seen asks) at answer new
  chain_ends enters asks earlier later ask at m n answer place of number between new le split at_is ends here of_it by are one =
      let before = granted_wider (replies home m) (replies home n) (widens home m n le) header who h (calls_seen earlier) between are in
      record {
        earlier = calls_seen earlier;
        call = call_seen ask;
        later = calls_seen later;
        calls_are = calls_split asks earlier later ask split;
        at_is = at_is ∙ sym (length-map earlier call_seen);
        between = between;
        granted = granted_on_way (record { replies = replies home n; enters = enters }) answer header who h (calls_seen earlier) between before;
        then = new;
        answered = same_seat place of number n between (call_seen ask) answer new here of_it by one;
        ends = ended later ends;
        sees = inl refl;
      }
    where
      ended : (later : List Ask) → ((later ≡ []) ⊎ IsNoGrant answer) → (calls_seen later ≡ []) ⊎ IsNoGrant answer
      ended later (inl none) = inl (ap calls_seen none)
      ended later (inr never) = inr never
