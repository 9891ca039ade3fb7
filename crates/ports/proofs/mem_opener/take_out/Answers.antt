use Rattle.std.proofs.Common.{◌≡◌, ◌++◌, ℕ, sym, ap, subst, ◌∙◌, Some, None, Option, cond}
use Rattle.std.specs.Option.{MatchOption, option_to_list}
use Rattle.ports.specs.Openers.{last_empty, left}
use Rattle.ports.specs.Shelves.{shelf_in}
use Rattle.ports.proofs.Given.{given_held, left_held, same_again, given_new, left_new, same_new, if_some, if_none, Popped, popped_is, popped_none}
use Rattle.ports.proofs.mem_opener.take_out.Goals as goal

pop_none : {D : Type 0} (len left : ℕ) (P : D → Type 0) (o : Option D) → MatchOption o ((len ≡ 0) × (left ≡ 0)) P → o ≡ None → len ≡ 0
pop_none len left P (Some x) cases none = absurd (cc)
pop_none len left P None cases none = cases.0

pub returns-in-Some-clause-gives : goal.returns-in-Some-clause-gives
returns-in-Some-clause-gives g c = sym (given_held c.args.name.now c.args.create c.args.named.now.items c.args.empty.now.items c.in-Some.held (sym c.take_named.ensures.held ∙ c.in-Some.is))

pub returns-in-Some-clause-left : goal.returns-in-Some-clause-left
returns-in-Some-clause-left g c = if_some c.in-Some.held (λ x some. left_held c.args.name.now c.args.create c.args.named.now.items c.take_named.new.named.items c.args.empty.now.items c.in-Some.held (sym c.take_named.ensures.held ∙ c.in-Some.is) c.take_named.ensures.left)

pub returns-in-Some-clause-same : goal.returns-in-Some-clause-same
returns-in-Some-clause-same g c = if_none c.in-Some.held (λ none. same_again c.args.name.now c.args.named.now.items c.take_named.new.named.items c.args.empty.now.items (sym c.take_named.ensures.held ∙ c.in-Some.is ∙ ap (λ h. Some h) none) c.take_named.ensures.left)

pub returns-then-create-clause-gives : goal.returns-then-create-clause-gives
returns-then-create-clause-gives g c =
    let popped : Popped c.args.empty.now.items c.pop.new.self.items c.pop.result = record { items = c.pop.ensures.items; none = λ none. sym c.args.empty.now.ok.0 ∙ pop_none _ _ _ c.pop.result c.pop.ensures.cases none } in
    popped_is c.args.empty.now.items c.pop.new.self.items c.pop.result popped
    ∙ sym (ap (λ b. cond b (last_empty c.args.empty.now.items) None) c.if-create.true)
    ∙ sym (given_new c.args.name.now c.args.create c.args.named.now.items c.args.empty.now.items (sym c.take_named.ensures.held ∙ c.in-None.is))

pub returns-then-create-clause-left : goal.returns-then-create-clause-left
returns-then-create-clause-left g c = if_some c.pop.result (λ d some.
    (let new = left_new c.args.name.now c.args.named.now.items c.take_named.new.named.items c.args.empty.now.items c.pop.new.self.items d (sym c.take_named.ensures.held ∙ c.in-None.is) c.take_named.ensures.left (c.pop.ensures.items ∙ ap (λ o. c.pop.new.self.items ++ option_to_list o) some) in
    subst (λ b. shelf_in c.take_named.new.named.items c.pop.new.self.items ≡ left c.args.name.now b (shelf_in c.args.named.now.items c.args.empty.now.items)) (sym c.if-create.true) new))

pub returns-then-create-clause-same : goal.returns-then-create-clause-same
returns-then-create-clause-same g c = if_none c.pop.result (λ none.
    (let popped : Popped c.args.empty.now.items c.pop.new.self.items c.pop.result = record { items = c.pop.ensures.items; none = λ none. sym c.args.empty.now.ok.0 ∙ pop_none _ _ _ c.pop.result c.pop.ensures.cases none } in
    ap (λ es. shelf_in c.take_named.new.named.items es) (popped_none c.args.empty.now.items c.pop.new.self.items c.pop.result popped none)
    ∙ same_new c.args.name.now c.args.named.now.items c.take_named.new.named.items c.args.empty.now.items (sym c.take_named.ensures.held ∙ c.in-None.is) c.take_named.ensures.left))

pub returns-else-create-clause-gives : goal.returns-else-create-clause-gives
returns-else-create-clause-gives g c =
    sym (ap (λ b. cond b (last_empty c.args.empty.now.items) None) c.if-create.false)
    ∙ sym (given_new c.args.name.now c.args.create c.args.named.now.items c.args.empty.now.items (sym c.take_named.ensures.held ∙ c.in-None.is))

pub returns-else-create-clause-same : goal.returns-else-create-clause-same
returns-else-create-clause-same g c = same_new c.args.name.now c.args.named.now.items c.take_named.new.named.items c.args.empty.now.items (sym c.take_named.ensures.held ∙ c.in-None.is) c.take_named.ensures.left
