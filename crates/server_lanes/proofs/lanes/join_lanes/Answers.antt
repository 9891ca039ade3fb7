use Rattle.std.proofs.Common.{◌≡◌, ◌+◌, [], ◌∷◌, ◌++◌, length, sym, subst, arith, ℕ, length-append}
use Rattle.server_lanes.specs.Lanes.{TakesBack}
use Rattle.server_lanes.proofs.Joining.{takes_more}
use Rattle.server_lanes.proofs.lanes.join_lanes.Goals as goal

pub loop-lane-preserved : goal.loop-lane-preserved
loop-lane-preserved g c =
    let invariant = c.loop-lane.invariant in
    let count : length (c.loop-lane.yielded ++ c.in-Some.lane ∷ []) ≡ length c.loop-lane.yielded + 1 = omega (arith, length-append c.loop-lane.yielded (c.in-Some.lane ∷ [])) in
    let parts = c.join_one-tally.ensures.parts in
    let told = c.join_one-tally.ensures.told in
    let before = invariant.parts in
    let least = invariant.told in record {
      next = tt;
      ends = tt;
      lead = subst (λ (n : ℕ). TakesBack c.args.lead.now n c.join_one-tally.new.lead) (sym count) (takes_more c.args.lead.now c.loop-lane.lead c.join_one-tally.new.lead (length c.loop-lane.yielded) invariant.lead c.join_one-tally.ensures.lead);
      parts = omega arith;
      told = omega arith;
      seen = c.join_one-tally.ensures.seen;
    }
