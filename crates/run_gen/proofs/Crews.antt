-- From the seats that were split off to the history that is left.
use Rattle.std.specs.Prelude.{All, IfErr, OnOk, Result, Ok, Err}
use Rattle.std.proofs.Common.{◌≡◌, ℕ, suc, ◌+◌, ◌<◌, ◌≤◌, ◌^◌, List, [], ◌∷◌, ◌++◌, length, map, get_or, refl, ap, sym, ◌∙◌, subst, arith, length-append}
use mathlib.Core.List.{IsPrefix}
use Rattle.std.proofs.lemmas.List.{get_or-map, length-map}
use Rattle.std.proofs.lemmas.List.Elements.{All-cons, All-nil}
use Rattle.history_model.specs.History.{Body, Entry, entries_by}
use Rattle.history_model.specs.Journal.{Header}
use Rattle.reply_model.specs.After.{entry_by}
use Rattle.bookmark_lock.specs.Place.{Place, moved}
use Rattle.bookmark_lock.proofs.Entries.{entries_none}
use Rattle.run_gen.specs.Calls.{bodies_of, heads_of, landings_in}
use Rattle.run_gen.specs.Clients.{Ran}
use Rattle.run_gen.specs.Loads.{HasClient, IsBegun, IsLoaded, IsStopped, base_entry, lead_entries, main_entry}
use Rattle.run_gen.specs.declared.fault.LoadFault.{LoadFault}
use Rattle.run_gen.specs.declared.fault.LoadFault.TheVariants.{Refused, Memory}
use Rattle.run_gen.proofs.Fronts.{calm_before}
use Rattle.run_gen.proofs.Own.{answered_all, went_lands}
use Rattle.repo_state.specs.State.{HasNoFault, IsQuiet, State}
use Rattle.run_gen.specs.Loading.{Leaves}
use Rattle.run_gen.specs.Crew.{AreClients, Did, IsClientAt, IsReady, place_at}
use Rattle.run_gen.specs.Joining.{HasAll, IsOf, TakesIn, seats_of}
use Rattle.run_gen.specs.declared.crew.Seated.{Seated}
use Rattle.run_gen.specs.declared.crew.Finished.{Finished}

abbrev seat_of : Finished → Place
seat_of f = f.seat

lead_numbers : All (λ (e : Entry). e.who ≤ 0) lead_entries
lead_numbers = All-cons (λ (e : Entry). e.who ≤ 0) base_entry (main_entry ∷ []) (omega arith) (All-cons (λ (e : Entry). e.who ≤ 0) main_entry [] (omega arith) (All-nil (λ (e : Entry). e.who ≤ 0)))

lead_none : (k : ℕ) → entries_by (k + 1) lead_entries ≡ []
lead_none k = entries_none (k + 1) 0 lead_entries (omega arith) lead_numbers

bodies_again : (who : ℕ) (bodies : List Body) → map (λ (e : Entry). e.body) (map (entry_by who) bodies) ≡ bodies
bodies_again who [] = refl
bodies_again who (b ∷ bs) = ap (λ l. b ∷ l) (bodies_again who bs)

pub landings_of : (header : Header) (seed stacks : ℕ) (h : List Entry) (c : ℕ) → HasClient header seed stacks h c (Ok tt) → landings_in (map (λ (e : Entry). e.body) (entries_by (c + 1) h)) ≡ stacks
landings_of header seed stacks h c has =
    let ran = has.ran in
    let a = ran.answered in
    let lands = went_lands header (c + 1) lead_entries a.calls a.reached a.went in
    let heads : length (heads_of a.calls) ≡ length ran.heads = ap length a.heads_are in
    let chained : length (ran.parents ++ ran.are_parents.1 ∷ []) ≡ suc (length ran.heads) = ap length ran.are_parents.2 in
    let count = ran.are_parents.0 in
    let bodies = ap (λ (es : List Entry). landings_in (map (λ (e : Entry). e.body) es)) has.own ∙ ap landings_in (bodies_again (c + 1) (bodies_of a.calls)) in
    omega (arith, bodies, lands, heads, chained, count, length-append ran.parents (ran.are_parents.1 ∷ []))

pub begun_of : (clients : ℕ) (first now : Place) (seats : List Place) (h : List Entry) → TakesIn first now seats → first.front ≡ lead_entries → first.number ≡ 0 → h ≡ now.front → All (λ (e : Entry). e.who ≤ clients) h → IsBegun clients h
begun_of clients first now seats h t front number is numbers =
    let own = subst (λ n. entries_by n now.front ≡ entries_by n first.front) number t.own.own in record {
      begins = subst (λ (p : List Entry × List Entry). IsPrefix p.0 p.1) (λ i. (front i, sym is i)) t.own.begins;
      lead = ap (entries_by 0) is ∙ own ∙ ap (entries_by 0) front;
      numbers = numbers;
    }

module _ (first : Place) (clients seed stacks : ℕ) (all : List Seated) (fin : List Finished) (are : AreClients first clients all) (as_many : length all ≡ clients) where
  pub ready : IsQuiet first.lock.opening → clients ≤ 8 → seed < 2 ^ 32 → All (IsReady first.lock seed) all
  ready quiet few small k d h =
      let is = are k d (omega arith) in
      let number = is.number in
      record { lock = ap (λ (p : Place). p.lock) is.seat; quiet = quiet; few = omega arith; fits = omega arith }

  module _ (fin_len : length fin ≡ length all) (did : (k : ℕ) (d : Seated) (e : Finished) → k < length all → Did seed stacks (get_or all k d) (get_or fin k e)) where
    module _ (k : ℕ) (h : k < clients) where
      abbrev begun : Seated
      begun = get_or all k (record { seat = first; number = 0 })

      abbrev end : Finished
      end = get_or fin k (record { seat = first; outcome = Ok tt })

      is_client : IsClientAt first k begun
      is_client = are k (record { seat = first; number = 0 }) h

      is_did : Did seed stacks begun end
      is_did = did k (record { seat = first; number = 0 }) (record { seat = first; outcome = Ok tt }) (omega arith)

      seat_moved : end.seat ≡ moved (place_at first k) end.seat
      seat_moved = let d = is_did in let j = is_client in d.moved ∙ ap (λ (p : Place). moved p end.seat) j.seat

      seat_is : (e : Place) → get_or (map seat_of fin) k e ≡ end.seat
      seat_is e = get_or-map seat_of fin k (record { seat = first; outcome = Ok tt }) e (omega arith)

    pub places : All (IsOf first.lock) fin
    places k e h =
        let inside : k < clients = omega arith in
        let d = did k (record { seat = first; number = 0 }) e (omega arith) in
        let j = is_client k inside in
        ap (λ (p : Place). p.lock) (d.moved ∙ ap (λ (p : Place). moved p (get_or fin k e).seat) j.seat)

    module _ (begins : first.front ≡ lead_entries) (none : first.split ≡ 0) (now : Place) (each : All (HasAll now) (seats_of fin)) (history : List Entry) (is : history ≡ now.front) (calm : HasNoFault history) (k : ℕ) (h : k < clients) where
      number_is : first.split + k + 1 ≡ k + 1
      number_is = omega arith

      has_all : HasAll now (end k h).seat
      has_all = subst (λ (p : Place). HasAll now p) (seat_is k h first) (each k first (omega (arith, length-map fin seat_of)))

      seat_number : (end k h).seat.number ≡ k + 1
      seat_number = ap (λ (p : Place). p.number) (seat_moved k h) ∙ number_is

      ran : Ran first.lock.opening.header (k + 1) lead_entries k seed stacks (end k h).outcome (end k h).seat.front
      ran =
          let d = is_did k h in
          let j = is_client k h in
          let told = subst (λ (t : Place × ℕ). Ran t.0.lock.opening.header t.0.number t.0.front t.1 seed stacks (end k h).outcome (end k h).seat.front) (λ i. (j.seat i, j.number i)) d.ran in
          subst (λ (t : ℕ × List Entry). Ran first.lock.opening.header t.0 t.1 k seed stacks (end k h).outcome (end k h).seat.front) (λ i. (number_is i, begins i)) told

      own_entries : entries_by (k + 1) history ≡ map (entry_by (k + 1)) (bodies_of ran.answered.calls)
      own_entries =
          ap (entries_by (k + 1)) is ∙ subst (λ n. entries_by n now.front ≡ entries_by n (end k h).seat.front) seat_number has_all.entries
          ∙ answered_all first.lock.opening.header (k + 1) lead_entries _ ran.heads (end k h).outcome (end k h).seat.front ran.answered (calm_before (end k h).seat.front now.front has_all.begins (subst HasNoFault is calm))
          ∙ ap (λ es. es ++ map (entry_by (k + 1)) (bodies_of ran.answered.calls)) (lead_none k)

      pub has_client : HasClient first.lock.opening.header seed stacks history k (end k h).outcome
      has_client = record { front = (end k h).seat.front; begins = subst (λ l. IsPrefix (end k h).seat.front l) (sym is) has_all.begins; ran = ran; own = own_entries }

      pub has_client_of : (outcome : Result (Unit {0}) LoadFault) → (end k h).outcome ≡ outcome → HasClient first.lock.opening.header seed stacks history k outcome
      has_client_of outcome same = subst (λ o. HasClient first.lock.opening.header seed stacks history k o) same has_client

    module _ (begins : first.front ≡ lead_entries) (none : first.split ≡ 0) (now : Place) (each : All (HasAll now) (seats_of fin)) (history : List Entry) (is : history ≡ now.front) (calm : HasNoFault history) (begun : IsBegun clients history) where
      pub all_landed : All (λ (f : Finished). f.outcome ≡ Ok tt) fin → IsLoaded first.lock.opening.header seed stacks clients history
      all_landed ok =
          let has : (c : ℕ) → c < clients → HasClient first.lock.opening.header seed stacks history c (Ok tt) =
          λ c h. has_client_of begins none now each history is calm c h (Ok tt) (ok c (record { seat = first; outcome = Ok tt }) (omega arith)) in
          record { begun = begun; each = has; landings = λ c h. landings_of first.lock.opening.header seed stacks history c (has c h) }

      pub one_refused : (c : ℕ) → c < length fin → ((d : Finished) → (get_or fin c d).outcome ≡ Err Refused) → IsStopped first.lock.opening.header seed stacks clients history
      one_refused c less refused = record {
        begun = begun;
        each = λ k h. ((end k h).outcome, has_client begins none now each history is calm k h);
        client = c;
        is_client = omega arith;
        refused = has_client_of begins none now each history is calm c (omega arith) (Err Refused) (refused (record { seat = first; outcome = Ok tt }));
      }

      pub leaves : (outcome : Result (Unit {0}) LoadFault) → OnOk outcome (All (λ (f : Finished). f.outcome ≡ Ok tt) fin) → IfErr outcome (λ fault. (k : ℕ) × (k < length fin) × ((d : Finished) → (get_or fin k d).outcome ≡ Err fault))
          → (state : State) → state.history ≡ history → state.opening.header ≡ first.lock.opening.header → Leaves seed stacks clients outcome state
      leaves (Ok done) ok err state same header = subst (λ (t : Header × List Entry). IsLoaded t.0 seed stacks clients t.1) (λ i. (sym header i, sym same i)) (all_landed ok)
      leaves (Err Refused) ok err state same header = subst (λ (t : Header × List Entry). IsStopped t.0 seed stacks clients t.1) (λ i. (sym header i, sym same i)) (one_refused err.0 err.1 err.2)
      leaves (Err Memory) ok err state same header = tt
