use Rattle.std.proofs.Common.{◌≡◌, ◌+◌, ◌++◌, ◌∷◌, [], get_or, length, length-append, subst, sym, arith, ℕ}
use Rattle.std.proofs.lemmas.List.Elements.{All-push}
use Rattle.server_lanes.specs.Lanes.{TakesBack}
use Rattle.server_lanes.specs.Derivers.{HasNone}
use Rattle.server_lanes.proofs.Joining.{takes_more}
use Rattle.server_lanes.proofs.derivers.join_derivers.Goals as goal

pub loop-deriver-preserved : goal.loop-deriver-preserved
loop-deriver-preserved g c =
    let loop = c.loop-deriver in
    let one = c.join_deriver.ensures in
    let lead = c.join_deriver.new.lead in
    let count : length (loop.yielded ++ c.in-Some.deriver ∷ []) ≡ length loop.yielded + 1 = omega (arith, length-append loop.yielded (c.in-Some.deriver ∷ [])) in record {
      next = tt;
      ends = tt;
      lead = subst (λ (n : ℕ). TakesBack c.args.lead.now n lead) (sym count) (takes_more c.args.lead.now loop.lead lead (length loop.yielded) loop.invariant.lead one.lead);
      none = record { each = All-push (HasNone lead) loop.yielded c.in-Some.deriver (λ k d below. one.kept (get_or loop.yielded k d) (loop.invariant.none.each k d below)) one.none };
    }
