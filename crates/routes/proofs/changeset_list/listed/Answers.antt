use Rattle.std.proofs.Common.{◌≡◌, ◌+◌, ◌-◌, ◌++◌, ◌∷◌, [], arith, sym, ap, ◌∙◌}
use Rattle.std.proofs.lemmas.Result.{err_from_is_err_and}
use Rattle.std.proofs.lemmas.List.{map_push}
use Rattle.session_model.specs.Stacks as model
use Rattle.routes.specs.Listed.{changesets_seen}
use Rattle.byte_fields.proofs.Run.{with_front}
use Rattle.routes.proofs.ListReading.{goes_on, ends, breaks, too_many}
use Rattle.routes.proofs.changeset_list.listed.Goals as goal

pub returns-in_err-changeset-clause-list : goal.returns-in_err-changeset-clause-list
returns-in_err-changeset-clause-list c =
    let p = err_from_is_err_and c.from_residual-in_err-changeset.result c.from_residual-in_err-changeset.ensures.1 in
    let front = changesets_seen c.loop.list.items in
    rw (p.1, p.2) (sym c.loop.invariant ∙ breaks front c.args.most c.loop.counter c.loop.rest.now c.loop-test.true c.in_err-changeset.field-0.0.left c.in_err-changeset.ensures)

pub returns-then-is_empty-clause-list : goal.returns-then-is_empty-clause-list
returns-then-is_empty-clause-list c =
    let front = changesets_seen c.loop.list.items in
    let x = c.in_ok-changeset.changeset in
    let pushed : changesets_seen c.push.new.self.items ≡ front ++ x.now ∷ [] = rw c.in_ok-push.ensures.items (map_push _ c.loop.list.items x) in
    rw pushed (
    sym c.loop.invariant
    ∙ ends front c.args.most c.loop.counter c.loop.rest.now c.loop-test.true x.now c.in_ok-changeset.after.now c.in_ok-changeset.ensures (sym c.if-is_empty.ensures))

pub loop-preserved : goal.loop-preserved
loop-preserved c =
    let front = changesets_seen c.loop.list.items in
    let x = c.in_ok-changeset.changeset in
    let pushed : changesets_seen c.push.new.self.items ≡ front ++ x.now ∷ [] = rw c.in_ok-push.ensures.items (map_push _ c.loop.list.items x) in
    ap (λ xs. with_front xs (model.listed (c.args.most - (c.loop.counter + 1)) c.in_ok-changeset.after.now)) pushed
    ∙ sym (goes_on front c.args.most c.loop.counter c.loop.rest.now c.loop-test.true x.now c.in_ok-changeset.after.now c.in_ok-changeset.ensures (sym c.if-is_empty.ensures))
    ∙ c.loop.invariant

pub returns-clause-list : goal.returns-clause-list
returns-clause-list c =
    sym c.loop.invariant
    ∙ too_many (changesets_seen c.loop.list.items) (c.args.most - c.loop.counter) c.loop.rest.now (omega arith)
