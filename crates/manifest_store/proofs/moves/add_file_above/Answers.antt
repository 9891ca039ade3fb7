use Rattle.std.proofs.Common.{◌&&◌, ◌++◌, ◌∷◌, [], refl, sym, ap, ◌∙◌, arith}
use Rattle.changeset_model.specs.Path.{elements, is_path, is_prefix}
use Rattle.changeset_model.proofs.Accepting.{elements_some as some_elements}
use Rattle.byte_fields.proofs.Booleans.{and_false}
use Rattle.history_model.proofs.Landings.{prefix_self}
use Rattle.manifest_laws.proofs.Changes.{prefix_trans}
use Rattle.manifest_laws.proofs.Flat.{strict_parts, strict_then}
use Rattle.repo_path.proofs.Faults.{path_is_text}
use Rattle.deleted_step.specs.Steps.{is_among}
use Rattle.derive_step.proofs.Above.{between, between_itself, front_more}
use Rattle.derive_step.proofs.Paths.{path_front}
use Rattle.manifest_store.specs.Moves.{has_file}
use Rattle.manifest_store.proofs.Taken.{adds_one, adds_none, only_above, no_file_so_far, no_file_above}
use Rattle.manifest_store.proofs.moves.add_file_above.Goals as goal

pub loop-above-init : goal.loop-above-init
loop-above-init c =
    let q = c.args.path.now in
    let e = c.as_str-text.ensures.elements in
    record {
      path = ap is_path e ∙ c.as_str-text.ensures.path;
      front = ap (λ t. is_prefix t q) e ∙ prefix_self q;
      none = λ past s p. ap (λ t. has_file past p && between t q p) e ∙ ap (λ b. has_file past p && b) (between_itself q p) ∙ and_false (has_file past p);
      kept = refl;
    }

pub text_above-requires-text-text : goal.text_above-requires-text-text
text_above-requires-text-text c κs = path_is_text c.loop-above.text.now c.loop-above.invariant.path

pub path_of-requires : goal.path_of-requires
path_of-requires c =
    let inside = c.in-Some.ensures.inside in
    path_front (elements c.in-Some.above.now) (inside.0 ∷ []) (ap is_path (sym inside.1) ∙ c.loop-above.invariant.path) (some_elements c.in-Some.above.now) (omega arith)

pub returns-then-is_file_before : goal.returns-then-is_file_before
returns-then-is_file_before c = λ past s.
    let q = c.args.path.now in
    let a = elements c.in-Some.above.now in
    let inside = c.in-Some.ensures.inside in
    adds_one _ c.args.gone.now.items c.push.new.self.items a
    (c.in_ok-push.ensures.items ∙ (λ i. c.loop-above.invariant.kept i ++ c.in_ok-dir.ensures i ∷ []))
    (λ p. only_above past s.right q a p (ap (has_file past) (sym c.in_ok-dir.ensures) ∙ sym (c.is_file_before.ensures past s) ∙ c.if-is_file_before.true)
    (strict_then a (elements c.loop-above.text.now) q (front_more (elements c.loop-above.text.now) a inside.0 inside.1) c.loop-above.invariant.front))

pub loop-above-preserved : goal.loop-above-preserved
loop-above-preserved c =
    let q = c.args.path.now in
    let a = elements c.in-Some.above.now in
    let t = elements c.loop-above.text.now in
    let inside = c.in-Some.ensures.inside in
    record {
      path = path_front a (inside.0 ∷ []) (ap is_path (sym inside.1) ∙ c.loop-above.invariant.path) (some_elements c.in-Some.above.now) (omega arith);
      front = prefix_trans a t q (strict_parts a t (front_more t a inside.0 inside.1)).0 c.loop-above.invariant.front;
      none = λ past s p. no_file_so_far past s.right q a t p inside.0 inside.1 c.loop-above.invariant.front
          (ap (has_file past) (sym c.in_ok-dir.ensures) ∙ sym (c.is_file_before.ensures past s) ∙ c.if-is_file_before.false) (c.loop-above.invariant.none past s p);
      kept = c.loop-above.invariant.kept;
    }

pub returns : goal.returns
returns c = λ past s p.
    let q = c.args.path.now in
    let t = elements c.loop-above.text.now in
    ap (is_among p) c.loop-above.invariant.kept
    ∙ adds_none _ c.args.gone.now.items (λ p. no_file_above past s.right q t p c.loop-above.text.now c.in_default.ensures.outside c.loop-above.invariant.front (c.loop-above.invariant.none past s p)) p
