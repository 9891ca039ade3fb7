-- A client, stack by stack.
use Rattle.std.proofs.Common.{◌≡◌, ℕ, ◌+◌, ◌<◌, List, [], ◌∷◌, ◌++◌, length, refl, ap, sym, subst, ◌∙◌, arith, append-nil, length-append}
use Rattle.std.specs.Prelude.{Result, Ok, Err}
use Rattle.byte_fields.specs.Bytes.{Id}
use Rattle.history_model.specs.History.{Entry}
use Rattle.history_model.specs.Journal.{Header}
use Rattle.run_gen.specs.Stacks.{Load, base_id, stack_of, stacks_after, stacks_of, with_stack}
use Rattle.run_gen.specs.Answers.{Answered}
use Rattle.run_gen.specs.Clients.{Ran}
use Rattle.run_gen.specs.Running.{IsAt, done}
use Rattle.run_gen.specs.declared.fault.LoadFault.{LoadFault}
use Rattle.run_gen.specs.declared.fault.LoadFault.TheVariants.{Memory}
use Rattle.byte_fields.proofs.Lists.{prefix_self}
use Rattle.run_gen.proofs.Joined.{and_then, cut_off, none_asked, stops_early}

one_more : (c : ℕ) (load : Load) (parents : List Id) (parent : Id) → stacks_after c load (parents ++ parent ∷ []) ≡ with_stack c (stacks_after c load parents) parent
one_more c load [] parent = refl
one_more c load (p ∷ parents) parent = one_more c (with_stack c load p) parents parent

module _ (header : Header) (who : ℕ) (from : List Entry) (c seed : ℕ) where
  pub begins : IsAt header who from c seed 0 base_id (seed + c) from
  begins = record { parents = []; heads = []; count = refl; chained = refl; stacks_is = refl; state_is = refl; answered = none_asked header who from from tt }

  module _ (j : ℕ) (parent : Id) (state : ℕ) (mid to : List Entry) (at : IsAt header who from c seed j parent state mid) where
    abbrev load : Load
    load = stacks_of c seed at.parents

    abbrev parents_now : List Id
    parents_now = at.parents ++ parent ∷ []

    -- of the stack that the numbers name, and of that which the load names
    told : {X : Type 0} (heads : List Id) (outcome : Result X LoadFault) → Answered header who mid (stack_of c j parent state).asks heads outcome to → Answered header who from (stacks_of c seed parents_now).asks (at.heads ++ heads) outcome to
    told heads outcome a =
        let there = subst (λ (t : ℕ × ℕ). Answered header who mid (stack_of c t.0 parent t.1).asks heads outcome to) (λ i. (sym at.stacks_is i, sym at.state_is i)) a in
        subst (λ (l : Load). Answered header who from l.asks (at.heads ++ heads) outcome to) (sym (one_more c (record { asks = []; stacks = 0; state = seed + c }) at.parents parent))
        (and_then header who from mid to load.asks (stack_of c load.stacks parent load.state).asks at.heads heads tt outcome at.answered there)

    count_now : length parents_now ≡ j + 1
    count_now = let n = at.count in omega (arith, length-append at.parents (parent ∷ []))

    pub goes_on : (head : Id) → Answered header who mid (stack_of c j parent state).asks (head ∷ []) (Ok head) to → IsAt header who from c seed (j + 1) head (stack_of c j parent state).state to
    goes_on head a =
        let load_now = one_more c (record { asks = []; stacks = 0; state = seed + c }) at.parents parent in record {
          parents = parents_now;
          heads = at.heads ++ head ∷ [];
          count = count_now;
          chained = ap (λ l. l ++ head ∷ []) at.chained;
          stacks_is = ap (λ (l : Load). l.stacks) load_now ∙ ap (λ n. n + 1) at.stacks_is;
          state_is = ap (λ (l : Load). l.state) load_now ∙ (λ i. (stack_of c (at.stacks_is i) parent (at.state_is i)).state);
          answered = same (told (head ∷ []) (Ok head) a);
        }
      where
        same : Answered {X = Id} header who from (stacks_of c seed parents_now).asks (at.heads ++ head ∷ []) (Ok head) to → Answered header who from (stacks_of c seed parents_now).asks (at.heads ++ head ∷ []) done to
        same b = record { calls = b.calls; reached = b.reached; went = b.went; heads_are = b.heads_are; ends = b.ends }

    pub stops : (stacks : ℕ) → j < stacks → (fault : LoadFault) → Answered {X = Id} header who mid (stack_of c j parent state).asks [] (Err fault) to → Ran {X = Unit {0}} header who from c seed stacks (Err fault) to
    stops stacks less fault a = record {
      parents = parents_now;
      heads = at.heads;
      are_parents = (let n = count_now in omega arith, at.chained);
      answered = again fault (subst (λ l. Answered {X = Id} header who from (stacks_of c seed parents_now).asks l (Err fault) to) (append-nil at.heads) (told [] (Err fault) a));
    }
      where
        again : (fault : LoadFault) → Answered {X = Id} header who from (stacks_of c seed parents_now).asks at.heads (Err fault) to → Answered {X = Unit {0}} header who from (stacks_of c seed parents_now).asks at.heads (Err fault) to
        again fault b = stops_early header who from to _ _ at.heads fault (prefix_self (stacks_of c seed parents_now).asks) b

  pub ends : (stacks : ℕ) (parent : Id) (state : ℕ) (to : List Entry) → IsAt header who from c seed stacks parent state to → Ran header who from c seed stacks done to
  ends stacks parent state to at = record { parents = at.parents; heads = at.heads; are_parents = (at.count, parent, at.chained); answered = at.answered }

  pub never_begun : (stacks : ℕ) → 0 < stacks → Ran {X = Unit {0}} header who from c seed stacks (Err Memory) from
  never_begun stacks some =
      stops 0 base_id (seed + c) from from begins stacks some Memory (cut_off header who from from (stack_of c 0 base_id (seed + c)).asks (record { begins = prefix_self from; own = refl }))
