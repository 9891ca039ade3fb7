use Rattle.std.proofs.Common.{◌≡◌, ◌||◌, ◌∷◌, [], true, cond, ap, sym, ◌∙◌, arith}
use Rattle.std.specs.BTreeSet.{contains}
use Rattle.std.specs.Ordering.{eq_by_cmp}
use Rattle.changeset_model.specs.Path.{Path, path_cmp, elements, is_path}
use Rattle.manifest_laws.proofs.Changes.{prefix_trans}
use Rattle.manifest_laws.proofs.Flat.{strict_parts}
use Rattle.history_model.proofs.Landings.{prefix_self}
use Rattle.changeset_model.proofs.Accepting.{elements_some as some_elements}
use Rattle.repo_path.proofs.Faults.{path_is_text}
use Rattle.derive_step.specs.Touched.{is_above}
use Rattle.derive_step.proofs.Paths.{path_front}
use Rattle.derive_step.proofs.Above.{between, between_itself, front_more, one_above, all_between, rest_there, whole_with, added_more, or_nothing, not_so, was_there, already}
use Rattle.derive_step.proofs.touched.add_above.Goals as goal

pub loop-above-init : goal.loop-above-init
loop-above-init c = record {
  path = c.requires.path;
  front = prefix_self (elements c.args.path.now);
  added = λ d. or_nothing (contains path_cmp c.args.dirs.now d) (between (elements c.args.path.now) (elements c.args.path.now) d) (between_itself (elements c.args.path.now) d);
}

pub text_above-requires-text-text : goal.text_above-requires-text-text
text_above-requires-text-text c = λ _. path_is_text c.loop-above.text.now c.loop-above.invariant.path

pub path_of-requires : goal.path_of-requires
path_of-requires c =
    let inside = c.in-Some.ensures.inside in
    path_front (elements c.in-Some.above.now) (inside.0 ∷ []) (ap is_path (sym inside.1) ∙ c.loop-above.invariant.path) (some_elements c.in-Some.above.now) (omega arith)

pub loop-above-preserved : goal.loop-above-preserved
loop-above-preserved c =
    let inside = c.in-Some.ensures.inside in
    let a = elements c.in-Some.above.now in
    let t = elements c.loop-above.text.now in
    let p = elements c.args.path.now in
    let less = front_more t a inside.0 inside.1 in
    record {
      path = path_front a (inside.0 ∷ []) (ap is_path (sym inside.1) ∙ c.loop-above.invariant.path) (some_elements c.in-Some.above.now) (omega arith);
      front = prefix_trans a t p (strict_parts a t less).0 c.loop-above.invariant.front;
      added = λ d.
          c.in_ok-insert.ensures.updates.0 d
          ∙ ap (λ x. cond (eq_by_cmp path_cmp x d) true (contains path_cmp c.loop-above.dirs d)) c.in_ok-dir.ensures
          ∙ added_more (contains path_cmp c.args.dirs.now d) (contains path_cmp c.loop-above.dirs d) (between t p d) (eq_by_cmp path_cmp a d) (c.loop-above.invariant.added d)
          ∙ ap (λ b. contains path_cmp c.args.dirs.now d || b) (one_above a t p d inside.0 inside.1 c.loop-above.invariant.front);
    }

added_all : (c : goal.In_default) → (d : Path) → contains path_cmp c.loop-above.dirs d ≡ (contains path_cmp c.args.dirs.now d || is_above d (elements c.args.path.now))
added_all c d =
    c.loop-above.invariant.added d
    ∙ ap (λ b. contains path_cmp c.args.dirs.now d || b) (all_between (elements c.loop-above.text.now) (elements c.args.path.now) d c.loop-above.text.now c.in_default.ensures.outside c.loop-above.invariant.front)

pub returns-clause-added : goal.returns-clause-added
returns-clause-added c = added_all c

pub returns-clause-whole : goal.returns-clause-whole
returns-clause-whole c = whole_with c.args.dirs.now c.requires.whole (elements c.args.path.now) c.loop-above.dirs (added_all c)

-- a directory that was there before
added_rest : (c : goal.Then-not-branch) → (d : Path) → contains path_cmp c.insert.new.self d ≡ (contains path_cmp c.args.dirs.now d || is_above d (elements c.args.path.now))
added_rest c d =
    let inside = c.in-Some.ensures.inside in
    let old = c.args.dirs.now in
    let here = c.loop-above.dirs in
    let a = elements c.in-Some.above.now in
    let t = elements c.loop-above.text.now in
    let p = elements c.args.path.now in
    let has : contains path_cmp here a ≡ true = ap (contains path_cmp here) (sym c.in_ok-dir.ensures) ∙ not_so c.in_ok-insert.field-0 (contains path_cmp here c.in_ok-dir.dir) c.in_ok-insert.ensures.added c.if-not-branch.true in
    let was = was_there t a p (contains path_cmp old a) (contains path_cmp here a) inside.0 inside.1 (c.loop-above.invariant.added a) has in
    c.in_ok-insert.ensures.updates.0 d
    ∙ ap (λ x. cond (eq_by_cmp path_cmp x d) true (contains path_cmp here d)) c.in_ok-dir.ensures
    ∙ already here a d has
    ∙ c.loop-above.invariant.added d
    ∙ rest_there old c.requires.whole p t a d inside.0 inside.1 c.loop-above.invariant.front was

pub returns-then-not-branch-clause-added : goal.returns-then-not-branch-clause-added
returns-then-not-branch-clause-added c = added_rest c

pub returns-then-not-branch-clause-whole : goal.returns-then-not-branch-clause-whole
returns-then-not-branch-clause-whole c = whole_with c.args.dirs.now c.requires.whole (elements c.args.path.now) c.insert.new.self (added_rest c)
