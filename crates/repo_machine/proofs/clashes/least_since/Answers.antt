use Rattle.std.proofs.Common.{length, ⊎_elim, arith}
use Rattle.std.proofs.lemmas.Bool.{cases_lt}
use Rattle.path_conflict.specs.Places.{paths_of}
use Rattle.repo_machine.proofs.Looking.{none_looked, looked_cost, none_left, none_follow, best_of_all, is_none_same}
use Rattle.repo_machine.proofs.clashes.least_since.Goals as goal

pub returns-then-not-may_clash_since-clause-best : goal.returns-then-not-may_clash_since-clause-best
returns-then-not-may_clash_since-clause-best g c =
    let ks = c.args.store.now.known in
    let outer = paths_of c.args.outer.now in
    let late = c.seen_down_to-late.result in
    let h = c.seen_down_to-late.ensures.looked c.args.last c.args.steps.now (none_looked ks outer (length c.args.outer.now) c.args.ancestor c.args.last c.args.steps.now c.requires.ancestor) in
    let is = c.indexed.ensures in
    none_left ks outer (length c.args.outer.now) c.args.ancestor c.args.last late.number late.least c.args.steps.now c.seen_down_to-late.new.steps h (is_none_same late.least c.is_none.result c.is_none.ensures c.if-is_none.true)
    (⊎_elim
    (λ less. c.may_clash_since.ensures c.if-not-may_clash_since.true less)
    (λ past. none_follow ks outer c.args.ancestor late.number (c.seen_down_to-late.ensures.down (omega arith)))
    (cases_lt late.number c.args.touches.now.indexed))

pub returns-then-not-may_clash_since-clause-counted : goal.returns-then-not-may_clash_since-clause-counted
returns-then-not-may_clash_since-clause-counted g c =
    (c.seen_down_to-late.ensures.looked c.args.last c.args.steps.now (none_looked c.args.store.now.known (paths_of c.args.outer.now) (length c.args.outer.now) c.args.ancestor c.args.last c.args.steps.now c.requires.ancestor)).counted

pub returns-then-not-may_clash_since-clause-cost : goal.returns-then-not-may_clash_since-clause-cost
returns-then-not-may_clash_since-clause-cost g c =
    let late = c.seen_down_to-late.result in
    looked_cost c.args.store.now.known (paths_of c.args.outer.now) (length c.args.outer.now) c.args.ancestor c.args.last late.number late.least c.args.steps.now c.seen_down_to-late.new.steps
    (c.seen_down_to-late.ensures.looked c.args.last c.args.steps.now (none_looked c.args.store.now.known (paths_of c.args.outer.now) (length c.args.outer.now) c.args.ancestor c.args.last c.args.steps.now c.requires.ancestor))

pub returns-clause-best : goal.returns-clause-best
returns-clause-best g c =
    let seen = c.seen_down_to.result in
    best_of_all c.args.store.now.known (paths_of c.args.outer.now) (length c.args.outer.now) c.args.ancestor c.args.last seen.number seen.least c.args.steps.now c.seen_down_to.new.steps
    (c.seen_down_to.ensures.looked c.args.last c.args.steps.now (c.seen_down_to-late.ensures.looked c.args.last c.args.steps.now (none_looked c.args.store.now.known (paths_of c.args.outer.now) (length c.args.outer.now) c.args.ancestor c.args.last c.args.steps.now c.requires.ancestor)))
    (c.seen_down_to.ensures.down (omega arith))

pub returns-clause-counted : goal.returns-clause-counted
returns-clause-counted g c =
    (c.seen_down_to.ensures.looked c.args.last c.args.steps.now (c.seen_down_to-late.ensures.looked c.args.last c.args.steps.now (none_looked c.args.store.now.known (paths_of c.args.outer.now) (length c.args.outer.now) c.args.ancestor c.args.last c.args.steps.now c.requires.ancestor))).counted

pub returns-clause-cost : goal.returns-clause-cost
returns-clause-cost g c =
    let seen = c.seen_down_to.result in
    looked_cost c.args.store.now.known (paths_of c.args.outer.now) (length c.args.outer.now) c.args.ancestor c.args.last seen.number seen.least c.args.steps.now c.seen_down_to.new.steps
    (c.seen_down_to.ensures.looked c.args.last c.args.steps.now (c.seen_down_to-late.ensures.looked c.args.last c.args.steps.now (none_looked c.args.store.now.known (paths_of c.args.outer.now) (length c.args.outer.now) c.args.ancestor c.args.last c.args.steps.now c.requires.ancestor)))
