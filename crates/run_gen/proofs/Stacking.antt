-- A seat that goes on, and the changesets of a stack.
use Rattle.std.proofs.Common.{◌≡◌, ℕ, zero, suc, ◌+◌, ◌≤◌, ◌<◌, Bool, true, false, List, [], ◌++◌, refl, ap, sym, subst, ◌∙◌, arith}
use Rattle.std.specs.Prelude.{Result, Ok, Err, ◌==◌}
use Rattle.std.proofs.lemmas.Bool.{eqb-true, eqb-false}
use mathlib.Core.List.{IsPrefix}
use Rattle.byte_fields.specs.Bytes.{Id}
use Rattle.bookmark_lock.specs.Place.{Place, moved}
use Rattle.history_model.specs.History.{Entry}
use Rattle.history_model.specs.Journal.{Header}
use Rattle.reply_model.specs.Reply.{Ask}
use Rattle.changeset_model.specs.Changeset.{id_of}
use Rattle.run_gen.specs.Stacks.{Stack, after_part, changeset_of, part_asks, part_of, parts_of, with_part}
use Rattle.run_gen.specs.Answers.{Answered}
use Rattle.run_gen.specs.Running.{done}
use Rattle.run_gen.specs.declared.fault.LoadFault.{LoadFault}
use Rattle.run_gen.proofs.Fronts.{prefix_more}
use Rattle.byte_fields.proofs.Lists.{prefix_self, prefix_trans}
use Rattle.run_gen.proofs.Joined.{and_then, same_answered, stops_early}

pub seat_then : {X Y : Type 0} (header : Header) (seat mid : Place) (to : List Entry) (asks more : List Ask) (heads others : List Id) (x : X) (outcome : Result Y LoadFault)
    → mid ≡ moved seat mid → Answered header seat.number seat.front asks heads (Ok x) mid.front → Answered header mid.number mid.front more others outcome to
    → Answered header seat.number seat.front (asks ++ more) (heads ++ others) outcome to
seat_then header seat mid to asks more heads others x outcome is a b =
    and_then header seat.number seat.front mid.front to asks more heads others x outcome a (subst (λ n. Answered header n mid.front more others outcome to) (ap (λ (p : Place). p.number) is) b)

parts_more : (c j k : ℕ) (stack : Stack) → parts_of c j (k + 1) stack ≡ with_part c j k (parts_of c j k stack)
parts_more c j k stack = let next : k + 1 ≡ suc k = omega arith in ap (λ n. parts_of c j n stack) next

begins_by : (c j k n : ℕ) (stack : Stack) → (k ≤ n → IsPrefix (parts_of c j k stack).asks (parts_of c j n stack).asks) → k ≤ suc n → (t : Bool) → (k == suc n) ≡ t → IsPrefix (parts_of c j k stack).asks (parts_of c j (suc n) stack).asks
begins_by c j k n stack before less true same = subst (λ m. IsPrefix (parts_of c j m stack).asks (parts_of c j (suc n) stack).asks) (sym (eqb-true k (suc n) same)) (prefix_self (parts_of c j (suc n) stack).asks)
begins_by c j k n stack before less false other =
    let apart : k ≡ suc n → ⊥ = eqb-false k (suc n) other in
    let last = parts_of c j n stack in
    prefix_trans (parts_of c j k stack).asks last.asks (parts_of c j (suc n) stack).asks (before (omega (arith, apart))) (prefix_more last.asks (part_asks c j n last.last (part_of last.state)))

parts_begin : (c j k n : ℕ) (stack : Stack) → k ≤ n → IsPrefix (parts_of c j k stack).asks (parts_of c j n stack).asks
parts_begin c j k zero stack less = let none : zero ≡ k = omega arith in subst (λ m. IsPrefix (parts_of c j m stack).asks stack.asks) none (prefix_self stack.asks)
parts_begin c j k (suc n) stack less = begins_by c j k n stack (λ fewer. parts_begin c j k n stack fewer) less (k == suc n) refl

-- at the seat of a client, so many changesets of a stack are stored
module _ (header : Header) (seat mid : Place) (c j k : ℕ) (stack : Stack) (last : Id) (state : ℕ) (is : mid ≡ moved seat mid) where
  abbrev so_far : Stack
  so_far = parts_of c j k stack

  abbrev with_next : Stack
  with_next = parts_of c j (k + 1) stack

  module _ (last_is : last ≡ so_far.last) (state_is : state ≡ so_far.state) (a : Answered header seat.number seat.front so_far.asks [] done mid.front) (to : List Entry) where
    next_part : (outcome : Result Id LoadFault) → Answered header mid.number mid.front (part_asks c j k last (part_of state)) [] outcome to → Answered header seat.number seat.front with_next.asks [] outcome to
    next_part outcome b =
        let asks_are : so_far.asks ++ part_asks c j k last (part_of state) ≡ with_next.asks =
        (λ i. so_far.asks ++ part_asks c j k (last_is i) (part_of (state_is i))) ∙ sym (ap (λ (s : Stack). s.asks) (parts_more c j k stack)) in
        subst (λ asks. Answered header seat.number seat.front asks [] outcome to) asks_are (seat_then header seat mid to so_far.asks (part_asks c j k last (part_of state)) [] [] tt outcome is a b)

    pub part_put : (id : Id) → Answered header mid.number mid.front (part_asks c j k last (part_of state)) [] (Ok id) to → Answered header seat.number seat.front with_next.asks [] done to
    part_put id b = same_answered header seat.number seat.front to with_next.asks [] [] (Ok id) done tt refl (next_part (Ok id) b)

    pub part_stopped : (n : ℕ) (fault : LoadFault) → k < n → Answered {X = Id} header mid.number mid.front (part_asks c j k last (part_of state)) [] (Err fault) to
        → Answered {X = Id} header seat.number seat.front (parts_of c j n stack).asks [] (Err fault) to
    part_stopped n fault less b =
        stops_early header seat.number seat.front to with_next.asks (parts_of c j n stack).asks [] fault (parts_begin c j (k + 1) n stack (omega arith)) (next_part (Err fault) b)

    pub last_put : (id : Id) → id ≡ id_of (changeset_of c j k last (part_of state)) → id ≡ with_next.last
    last_put id e = e ∙ (λ i. id_of (changeset_of c j k (last_is i) (part_of (state_is i)))) ∙ sym (ap (λ (s : Stack). s.last) (parts_more c j k stack))

    pub state_put : (new : ℕ) → new ≡ after_part state → new ≡ with_next.state
    state_put new e = e ∙ ap after_part state_is ∙ sym (ap (λ (s : Stack). s.state) (parts_more c j k stack))

-- the number of a seat that has seen more
pub same_number : (seat mid : Place) → mid ≡ moved seat mid → mid.number ≡ seat.number
same_number seat mid is = ap (λ (p : Place). p.number) is
