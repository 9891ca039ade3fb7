use Rattle.std.proofs.Common.{◌≡◌, ◌++◌, ◌∷◌, [], ap, sym, subst, ◌∙◌}
use Rattle.changeset_model.specs.Path.{elements, is_path}
use Rattle.history_model.proofs.Landings.{prefix_self}
use Rattle.derive_step.specs.Views.{before_seen}
use Rattle.manifest_store.specs.Dirs.{IsFull, left}
use Rattle.manifest_store.proofs.Gathered.{own, dir_of_ref, next_cut, some_snoc, front_path, next_full, rest_full}
use Rattle.manifest_store.proofs.dirs.add_above.Goals as goal

pub front_of-requires : goal.front_of-requires
front_of-requires c = (own c.loop-rest.above ++ c.parted.result.0.now ∷ [], some_snoc (own c.loop-rest.above) c.parted.result.0.now, (next_cut (elements c.args.dir.now) (own c.loop-rest.above) c.loop-rest.rest c.in-Some.text c.parted.result.0.now c.parted.result.1 c.loop-rest.invariant.cut c.in-Some.is c.parted.ensures))

pub path_of-requires : goal.path_of-requires
path_of-requires c =
    let d = own c.loop-rest.above ++ c.parted.result.0.now ∷ [] in
    ap is_path (c.front_of.ensures d (some_snoc (own c.loop-rest.above) c.parted.result.0.now) (next_cut (elements c.args.dir.now) (own c.loop-rest.above) c.loop-rest.rest c.in-Some.text c.parted.result.0.now c.parted.result.1 c.loop-rest.invariant.cut c.in-Some.is c.parted.ensures))
    ∙ front_path d (left c.parted.result.1) (elements c.args.dir.now) (next_cut (elements c.args.dir.now) (own c.loop-rest.above) c.loop-rest.rest c.in-Some.text c.parted.result.0.now c.parted.result.1 c.loop-rest.invariant.cut c.in-Some.is c.parted.ensures) c.requires.path (some_snoc (own c.loop-rest.above) c.parted.result.0.now)

pub add_dir-requires-clause-above : goal.add_dir-requires-clause-above
add_dir-requires-clause-above c =
    subst (IsFull c.args.table.now.nodes (before_seen c.args.root.now) c.loop-rest.dirs) (sym (dir_of_ref c.as_ref.result c.loop-rest.above c.as_ref.ensures.value)) (c.loop-rest.invariant.full (own c.loop-rest.above) (prefix_self (own c.loop-rest.above)))

pub add_dir-requires-clause-here : goal.add_dir-requires-clause-here
add_dir-requires-clause-here c =
    c.in_ok-here.ensures ∙ c.front_of.ensures (own c.loop-rest.above ++ c.parted.result.0.now ∷ []) (some_snoc (own c.loop-rest.above) c.parted.result.0.now) (next_cut (elements c.args.dir.now) (own c.loop-rest.above) c.loop-rest.rest c.in-Some.text c.parted.result.0.now c.parted.result.1 c.loop-rest.invariant.cut c.in-Some.is c.parted.ensures)
    ∙ ap (λ p. p ++ c.parted.result.0.now ∷ []) (sym (dir_of_ref c.as_ref.result c.loop-rest.above c.as_ref.ensures.value))

pub returns-then-not-branch-clause-full : goal.returns-then-not-branch-clause-full
returns-then-not-branch-clause-full c =
    let a = own c.loop-rest.above in
    let n = c.parted.result.0.now in
    let is : c.in_ok-here.here ≡ a ++ n ∷ [] = c.in_ok-here.ensures ∙ c.front_of.ensures (a ++ n ∷ []) (some_snoc a n) (next_cut (elements c.args.dir.now) (own c.loop-rest.above) c.loop-rest.rest c.in-Some.text c.parted.result.0.now c.parted.result.1 c.loop-rest.invariant.cut c.in-Some.is c.parted.ensures) in
    rest_full c.args.table.now.nodes (before_seen c.args.root.now) c.loop-rest.dirs c.add_dir.new.dirs a c.in_ok-here.here n (left c.parted.result.1) (elements c.args.dir.now) is ((next_cut (elements c.args.dir.now) (own c.loop-rest.above) c.loop-rest.rest c.in-Some.text c.parted.result.0.now c.parted.result.1 c.loop-rest.invariant.cut c.in-Some.is c.parted.ensures) ∙ ap (λ p. p ++ left c.parted.result.1) (sym is))
    c.loop-rest.invariant.full c.in_ok-add_dir.ensures.dirs c.in_ok-add_dir.ensures.more (sym c.if-not-branch.true ∙ c.in_ok-add_dir.ensures.there)

pub loop-rest-preserved : goal.loop-rest-preserved
loop-rest-preserved c =
    let a = own c.loop-rest.above in
    let n = c.parted.result.0.now in
    let is : c.in_ok-here.here ≡ a ++ n ∷ [] = c.in_ok-here.ensures ∙ c.front_of.ensures (a ++ n ∷ []) (some_snoc a n) (next_cut (elements c.args.dir.now) (own c.loop-rest.above) c.loop-rest.rest c.in-Some.text c.parted.result.0.now c.parted.result.1 c.loop-rest.invariant.cut c.in-Some.is c.parted.ensures) in
    record {
      cut = (next_cut (elements c.args.dir.now) (own c.loop-rest.above) c.loop-rest.rest c.in-Some.text c.parted.result.0.now c.parted.result.1 c.loop-rest.invariant.cut c.in-Some.is c.parted.ensures) ∙ ap (λ p. p ++ left c.parted.result.1) (sym is);
      dirs = c.in_ok-add_dir.ensures.dirs;
      more = λ d f. c.in_ok-add_dir.ensures.more d (c.loop-rest.invariant.more d f);
      full = next_full c.args.table.now.nodes (before_seen c.args.root.now) c.loop-rest.dirs c.add_dir.new.dirs a c.in_ok-here.here n is c.loop-rest.invariant.full c.in_ok-add_dir.ensures.more c.in_ok-add_dir.ensures.full;
    }
