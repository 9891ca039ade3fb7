use Rattle.std.proofs.Common.{◌≡◌, ◌++◌, ◌∷◌, [], sym, ap, subst, ◌∙◌, append-nil}
use Rattle.changeset_model.specs.Path.{is_path}
use Rattle.deleted_step.specs.Texts.{left}
use Rattle.deleted_step.specs.Unfolded.{IsUnfolded}
use Rattle.deleted_step.proofs.Unfolding.{held_front}
use Rattle.deleted_step.proofs.Texts.{dir_of_ref, front_path, name_of, next_cut, own, some_snoc}
use Rattle.deleted_step.proofs.way.unfold_way.Goals as goal

pub front_of-requires : goal.front_of-requires
front_of-requires g c =
    let a = own c.loop-rest.above in
    let n = c.parted.result.0.now in
    (a ++ n ∷ [], some_snoc a n, c.as_str-in-Some.ensures.elements ∙ next_cut c.args.path.now a c.loop-rest.rest c.in-Some.text n c.parted.result.1 c.loop-rest.invariant.cut c.in-Some.is c.parted.ensures)

pub path_of-requires : goal.path_of-requires
path_of-requires g c =
    let a = own c.loop-rest.above in
    let n = c.parted.result.0.now in
    let whole = next_cut c.args.path.now a c.loop-rest.rest c.in-Some.text n c.parted.result.1 c.loop-rest.invariant.cut c.in-Some.is c.parted.ensures in
    ap is_path (c.front_of.ensures (a ++ n ∷ []) (some_snoc a n) (c.as_str-in-Some.ensures.elements ∙ whole))
    ∙ front_path c.args.path.now (a ++ n ∷ []) (left c.parted.result.1) c.as_str-in-Some.ensures.path whole (some_snoc a n)

pub unfold-requires-clause-name : goal.unfold-requires-clause-name
unfold-requires-clause-name g c =
    let a = own c.loop-rest.above in
    let n = c.parted.result.0.now in
    name_of c.args.path.now a n (left c.parted.result.1) c.as_str-in-Some.ensures.path (c.loop-rest.invariant.cut ∙ ap (λ r. a ++ left r) c.in-Some.is ∙ ap (λ q. a ++ q) c.parted.ensures)

pub unfold-requires-clause-here : goal.unfold-requires-clause-here
unfold-requires-clause-here g c =
    let a = own c.loop-rest.above in
    let n = c.parted.result.0.now in
    let whole = next_cut c.args.path.now a c.loop-rest.rest c.in-Some.text n c.parted.result.1 c.loop-rest.invariant.cut c.in-Some.is c.parted.ensures in
    c.in_ok-here.ensures ∙ c.front_of.ensures (a ++ n ∷ []) (some_snoc a n) (c.as_str-in-Some.ensures.elements ∙ whole) ∙ ap (λ d. d ++ n ∷ []) (sym (dir_of_ref c.as_ref.result c.loop-rest.above c.as_ref.ensures.value))

pub returns-in-Err-clause-unfolded : goal.returns-in-Err-clause-unfolded
returns-in-Err-clause-unfolded g c = λ first ls held are.
    let a = own c.loop-rest.above in
    let n = c.parted.result.0.now in
    let whole = next_cut c.args.path.now a c.loop-rest.rest c.in-Some.text n c.parted.result.1 c.loop-rest.invariant.cut c.in-Some.is c.parted.ensures in
    let is = c.in_ok-here.ensures ∙ c.front_of.ensures (a ++ n ∷ []) (some_snoc a n) (c.as_str-in-Some.ensures.elements ∙ whole) in
    c.in-Err.ensures.unfolded first ls (held_front (g.N.Nodes.contents c.args.nodes.now) first c.args.path.now c.in_ok-here.here (left c.parted.result.1) (whole ∙ ap (λ d. d ++ left c.parted.result.1) (sym is)) held) (subst (λ d. IsUnfolded first ls d c.loop-rest.unfolded) (sym (dir_of_ref c.as_ref.result c.loop-rest.above c.as_ref.ensures.value)) (c.loop-rest.invariant.unfolded first ls held are))

pub loop-rest-preserved : goal.loop-rest-preserved
loop-rest-preserved g c =
    let a = own c.loop-rest.above in
    let n = c.parted.result.0.now in
    let whole = next_cut c.args.path.now a c.loop-rest.rest c.in-Some.text n c.parted.result.1 c.loop-rest.invariant.cut c.in-Some.is c.parted.ensures in
    let is = c.in_ok-here.ensures ∙ c.front_of.ensures (a ++ n ∷ []) (some_snoc a n) (c.as_str-in-Some.ensures.elements ∙ whole) in
    record {
      cut = whole ∙ ap (λ d. d ++ left c.parted.result.1) (sym is);
      unfolded = λ first ls held are.
          c.in_default-unfold.ensures.unfolded first ls (held_front (g.N.Nodes.contents c.args.nodes.now) first c.args.path.now c.in_ok-here.here (left c.parted.result.1) (whole ∙ ap (λ d. d ++ left c.parted.result.1) (sym is)) held) (subst (λ d. IsUnfolded first ls d c.loop-rest.unfolded) (sym (dir_of_ref c.as_ref.result c.loop-rest.above c.as_ref.ensures.value)) (c.loop-rest.invariant.unfolded first ls held are));
    }

pub returns-clause-unfolded : goal.returns-clause-unfolded
returns-clause-unfolded g c = λ first ls held are.
    let a = own c.loop-rest.above in
    let whole : c.args.path.now ≡ a = c.loop-rest.invariant.cut ∙ ap (λ r. a ++ left r) c.in_default.is ∙ append-nil a in
    subst (λ p. IsUnfolded first ls p c.loop-rest.unfolded) (sym whole) (c.loop-rest.invariant.unfolded first ls held are)
