use Rattle.std.proofs.Common.{sym, ap, subst, refl, []}
use Rattle.std.specs.Prelude.{IsSome, OnOk, Contains}
use Rattle.std.specs.Option.{option_map_or}
use Rattle.touch_index.proofs.Staying.{stays_at}
use Rattle.touch_index.proofs.lists.NumberLists.enter.Goals as goal

pub returns-in-Some-clause-keeps : goal.returns-in-Some-clause-keeps
returns-in-Some-clause-keeps c =
    let w = c.put_last.new.numbers in
    let there = c.in-Some.ensures.value in
    let u = (c.get_mut.follows.holds w).3 (subst IsSome there refl) in
    stays_at c.args.self.now (record { map = c.get_mut.follows.lender w }) c.args.key c.in-Some.numbers.now.items w.items (ap (λ o. option_map_or (λ numbers. numbers.items) o []) (sym there)) (ap (λ o. option_map_or (λ numbers. numbers.items) o []) u.1)
    (λ q apart. ap (λ o. option_map_or (λ numbers. numbers.items) o []) (u.2 q apart)) c.put_last.ensures.keeps

pub returns-in-Some-clause-there : goal.returns-in-Some-clause-there
returns-in-Some-clause-there c =
    let w = c.put_last.new.numbers in
    let u = (c.get_mut.follows.holds w).3 (subst IsSome c.in-Some.ensures.value refl) in
    subst (λ ns. OnOk c.put_last.result (Contains ns c.args.number)) (ap (λ o. option_map_or (λ numbers. numbers.items) o []) (sym u.1)) c.put_last.ensures.there
