use Rattle.std.proofs.Common.{◌≡◌, ◌+◌, ◌&&◌, ◌||◌, ◌∷◌, ◌++◌, [], ℕ, suc, sym, ap, subst, ◌∙◌, arith}
use Rattle.std.specs.Prelude.{◌==◌}
use Rattle.std.specs.List.{list_any}
use Rattle.bonsai.specs.View.{edits_view}
use Rattle.changeset_model.specs.Path.{is_strict_prefix}
use Rattle.byte_fields.proofs.Booleans.{or_false}
use Rattle.deleted_step.specs.Steps.{is_among}
use Rattle.derive_step.specs.Covering.{paths_seen}
use Rattle.manifest_store.specs.declared.brought.Brought.{Brought}
use Rattle.manifest_store.specs.Brought.{AreBroughtFrom, AreAsDeep, is_brought, is_to_come, own}
use Rattle.manifest_store.proofs.Taken.{and_none}
use Rattle.manifest_store.proofs.Coming.{has_both, none_deeper, none_left, under_root}
use Rattle.manifest_store.proofs.brought.add_brought.Goals as goal

pub invariant_of-decided : goal.invariant_of-decided
invariant_of-decided c = record { rules = ∣ record { made = c.requires; sets_are = ap paths_seen c.deref.ensures.value ∙ c.in_ok-sets.ensures } ∣₁ }

pub loop-init : goal.loop-init
loop-init c =
    let here = c.root_of.result in
    let es = edits_view c.args.edits.now in
    let come = c.args.come.now.items in
    let level : c.push.new.self.items ≡ here ∷ [] = c.in_ok-push.ensures.items ∙ ap (λ ds. ds ++ here ∷ []) c.new-level.ensures.items in
    record {
      files = λ past other s t p.
          ap (λ ds. is_to_come past other es come ds p) level
          ∙ ap (λ b. is_among p come || (is_brought past other es p && b)) (or_false (is_strict_prefix (own here.path) p) ∙ ap (λ d. is_strict_prefix d p) c.root_of.ensures.root)
          ∙ ap (λ b. is_among p come || b) (under_root past other es t.right p);
      directories = λ past other s t. subst (AreBroughtFrom past other) (sym level) (c.root_of.ensures.ids past other s.roots t.roots, tt);
      deep = subst (AreAsDeep 0) (sym level) (omega arith, tt);
    }

pub returns-then-is_empty : goal.returns-then-is_empty
returns-then-is_empty c = λ past other s t p.
    sym (none_left past other (edits_view c.args.edits.now) c.loop.come.items c.loop.level.items p (ap (λ n. n == 0) (sym c.loop.level.ok.0) ∙ sym c.is_empty.ensures ∙ c.if-is_empty.true)) ∙ c.loop.invariant.files past other s t p

pub loop-preserved : goal.loop-preserved
loop-preserved c =
    let same = c.deref-in-loop.ensures.value in
    let m = c.args.table.now.nodes in
    let es = edits_view c.args.edits.now in
    record {
      files = λ past other s t p.
          c.in_ok-level.ensures.files past other (has_both m c.args.first.now c.args.second.now past other s t) (subst (AreBroughtFrom past other) (sym same) (c.loop.invariant.directories past other s t)) p
          ∙ ap (λ ds. is_to_come past other es c.loop.come.items ds p) same
          ∙ c.loop.invariant.files past other s t p;
      directories = λ past other s t. c.in_ok-level.ensures.directories past other (has_both m c.args.first.now c.args.second.now past other s t) (subst (AreBroughtFrom past other) (sym same) (c.loop.invariant.directories past other s t));
      deep = subst (λ n. AreAsDeep n c.in_ok-level.level.items) (one c.loop.counter) (c.in_ok-level.ensures.deeper c.loop.counter (subst (AreAsDeep c.loop.counter) (sym same) c.loop.invariant.deep));
    }
  where
    one : (i : ℕ) → suc i ≡ i + 1
    one i = omega arith

pub returns : goal.returns
returns c = λ past other s t p.
    let es = edits_view c.args.edits.now in
    let come = is_among p c.loop.come.items in
    let here = is_brought past other es p in
    sym (ap (λ b. come || b) (and_none here (list_any (λ (d : Brought). is_strict_prefix (own d.path) p) c.loop.level.items) (λ h. none_deeper past other es t.right c.loop.level.items p c.loop.counter (omega (arith, c.loop-test.false)) c.loop.invariant.deep h)) ∙ or_false come)
    ∙ c.loop.invariant.files past other s t p
