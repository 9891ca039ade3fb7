use Rattle.std.proofs.Common.{◌≡◌, ◌+◌, ◌&&◌, ◌||◌, ◌∷◌, ◌++◌, [], ℕ, suc, sym, ap, subst, ◌∙◌, arith}
use Rattle.std.specs.Prelude.{◌==◌}
use Rattle.std.specs.List.{list_any}
use Rattle.changeset_model.specs.Path.{is_strict_prefix}
use Rattle.byte_fields.proofs.Booleans.{or_false}
use Rattle.deleted_step.specs.Steps.{is_among}
use Rattle.manifest_store.specs.declared.under.Directory.{Directory}
use Rattle.manifest_store.specs.Moves.{IsDirectory, has_file}
use Rattle.manifest_store.specs.Levels.{AreDirectories, AreDeep, is_reached}
use Rattle.manifest_store.proofs.Taken.{and_none}
use Rattle.manifest_store.proofs.Levels.{none_deeper, none_left, right_of}
use Rattle.manifest_store.proofs.under.add_files_under.Goals as goal

pub loop-init : goal.loop-init
loop-init c =
    let here : Directory = record { path = c.in_ok-copy.field-0; id = c.args.id.now } in
    let level : c.push.new.self.items ≡ here ∷ [] = c.in_ok-push.ensures.items ∙ ap (λ ds. ds ++ here ∷ []) c.new-level.ensures.items in
    record {
      files = λ past has dir p.
          ap (λ ds. is_reached past c.args.gone.now.items ds p) level
          ∙ ap (λ b. is_among p c.args.gone.now.items || (has_file past p && b)) (or_false (is_strict_prefix here.path p) ∙ ap (λ d. is_strict_prefix d p) c.in_ok-copy.ensures);
      directories = λ past has dir. subst (AreDirectories past) (sym level) (subst (λ d. IsDirectory past d c.args.id.now) (sym c.in_ok-copy.ensures) dir, tt);
      deep = subst (AreDeep 0) (sym level) (omega arith, tt);
    }

pub returns-then-is_empty : goal.returns-then-is_empty
returns-then-is_empty c = λ past has dir p.
    sym (none_left past c.loop.gone.items c.loop.level.items p (ap (λ n. n == 0) (sym c.loop.level.ok.0) ∙ sym c.is_empty.ensures ∙ c.if-is_empty.true)) ∙ c.loop.invariant.files past has dir p

pub loop-preserved : goal.loop-preserved
loop-preserved c =
    let same = c.deref.ensures.value in
    record {
      files = λ past has dir p.
          c.in_ok-level.ensures.files past has (subst (AreDirectories past) (sym same) (c.loop.invariant.directories past has dir)) p
          ∙ ap (λ ds. is_reached past c.loop.gone.items ds p) same
          ∙ c.loop.invariant.files past has dir p;
      directories = λ past has dir. c.in_ok-level.ensures.directories past has (subst (AreDirectories past) (sym same) (c.loop.invariant.directories past has dir));
      deep = subst (λ n. AreDeep n c.in_ok-level.level.items) (one c.loop.counter) (c.in_ok-level.ensures.deeper c.loop.counter (subst (AreDeep c.loop.counter) (sym same) c.loop.invariant.deep));
    }
  where
    one : (i : ℕ) → suc i ≡ i + 1
    one i = omega arith

pub returns : goal.returns
returns c = λ past has dir p.
    let g = is_among p c.loop.gone.items in
    let here = has_file past p in
    sym (ap (λ b. g || b) (and_none here (list_any (λ (d : Directory). is_strict_prefix d.path p) c.loop.level.items) (λ h. none_deeper past (right_of c.args.table.now.nodes past has) c.loop.level.items p c.loop.counter (omega (arith, c.loop-test.false)) c.loop.invariant.deep h)) ∙ or_false g)
    ∙ c.loop.invariant.files past has dir p
