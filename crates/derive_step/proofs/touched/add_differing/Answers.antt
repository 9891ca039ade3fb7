use Rattle.std.proofs.Common.{◌≡◌, not, ◌&&◌, ◌||◌, true, cond, length, sym, ap, ◌∙◌}
use Rattle.std.specs.Prelude.{Some, ◌==◌}
use Rattle.std.specs.BTreeMap.{get}
use Rattle.std.specs.BTreeSet.{contains}
use Rattle.std.specs.Ordering.{eq_by_cmp}
use Rattle.std.proofs.lemmas.List.Elements.{recursion_from_All}
use Rattle.changeset_model.specs.Path.{Path, path_cmp}
use Rattle.derive_step.specs.declared.job.DirNodes.{DirNodes}
use Rattle.derive_step.proofs.Differing.{any_is, differs_among, none_more, one_left, one_put}
use Rattle.derive_step.proofs.touched.add_differing.Goals as goal

pub loop-dir-init : goal.loop-dir-init
loop-dir-init c = λ p. ap (λ es. contains path_cmp c.args.dirs.now p || (not (length p == 0) && differs_among c.args.second.now p es)) c.into_iter-dir-iterator.ensures.into_iter_gives.0

pub loop-dir-preserved-in_ok-insert : goal.loop-dir-preserved-in_ok-insert
loop-dir-preserved-in_ok-insert c = λ p.
    let second = c.args.second.now in
    let was = contains path_cmp c.loop-dir.dirs p in
    let e : Path × DirNodes = (c.in-Some.dir.now, c.in-Some.nodes.now) in
    one_put second p e c.next.new.self was (contains path_cmp c.insert.new.self p) c.has_elements.ensures (sym c.has_other.ensures ∙ c.if-has_other.true)
    (c.in_ok-insert.ensures.updates.0 p ∙ ap (λ x. cond (eq_by_cmp path_cmp x p) true was) c.in_ok-copy.ensures)
    ∙ ap (λ es. was || (not (length p == 0) && differs_among second p es)) (sym c.in-Some.ensures.steps)
    ∙ c.loop-dir.invariant p

pub loop-dir-preserved : goal.loop-dir-preserved
loop-dir-preserved c = λ p.
    let second = c.args.second.now in
    let was = contains path_cmp c.loop-dir.dirs p in
    let e : Path × DirNodes = (c.in-Some.dir.now, c.in-Some.nodes.now) in
    one_left second p e c.next.new.self was (sym c.has_other.ensures ∙ c.if-has_other.false)
    ∙ ap (λ es. was || (not (length p == 0) && differs_among second p es)) (sym c.in-Some.ensures.steps)
    ∙ c.loop-dir.invariant p

pub returns : goal.returns
returns c = λ p.
    let first = c.args.first.now in
    let second = c.args.second.now in
    let was = contains path_cmp c.loop-dir.dirs p in
    none_more was (not (length p == 0)) _
    (ap (λ es. was || (not (length p == 0) && differs_among second p es)) (sym c.in-None.ensures.steps.0) ∙ c.loop-dir.invariant p)
    ∙ ap (λ b. contains path_cmp c.args.dirs.now p || (not (length p == 0) && b)) (any_is first second p (recursion_from_All (λ e. get path_cmp first e.0 ≡ Some e.1) first.entries c.into_iter-dir-iterator.ensures.into_iter_gives.6))
