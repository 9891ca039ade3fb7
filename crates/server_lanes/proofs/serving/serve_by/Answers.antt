use Rattle.std.proofs.Common.{◌≡◌, ◌∙◌, sym, subst, ℕ, List, length, ◌++◌}
use Rattle.std.specs.Prelude.{All, take, drop, vec_len}
use Rattle.std.proofs.Math.Seq.{take-append_seam}
use Rattle.server_lanes.specs.Derivers.{AreNumbered, HaveNone, IsIdle}
use Rattle.server_lanes.specs.Lanes.{IsAt, IsDone}
use Rattle.server_lanes.proofs.Idle.{unused}
use Rattle.server_lanes.proofs.serving.serve_by.Goals as goal

first_of : {X : Type 0} (n : ℕ) (xs ys : List X) → length xs ≡ n → take n (xs ++ ys) ≡ xs
first_of n xs ys h = subst (λ m. take m (xs ++ ys) ≡ xs) h (take-append_seam xs ys)

pub join_lanes-tally-requires-clause-lanes : goal.join_lanes-tally-requires-clause-lanes
join_lanes-tally-requires-clause-lanes g c =
    let new = c.run_crew.new.lanes in
    let whole = first_of c.args.crew.lanes.len new (drop (length new) c.args.crew.lanes.items) (c.run_crew.auto.lanes ∙ c.as_mut_slice.ensures.len) in
    let at = subst (All (IsAt c.args.repo.now)) (sym c.as_mut_slice.ensures.value) c.requires.lanes in
    subst (All (IsDone c.args.repo.now)) (sym whole) (c.run_crew.ensures.lanes c.args.repo.now at)

pub join_derivers-requires-clause-derivers : goal.join_derivers-requires-clause-derivers
join_derivers-requires-clause-derivers g c =
    let new = c.run_crew.new.derivers in
    let whole = first_of c.args.crew.derivers.len new (drop (length new) c.args.crew.derivers.items) (c.run_crew.auto.derivers ∙ c.as_mut_slice-2.ensures.len) in
    let idle = subst (All (IsIdle c.args.repo.now)) (sym c.as_mut_slice-2.ensures.value) c.requires.idle in
    subst (All (IsIdle c.args.repo.now)) (sym whole) (c.run_crew.ensures.idle c.args.repo.now idle)

pub returns-clause-unused : goal.returns-clause-unused
returns-clause-unused g c = λ first numbers.
    let new = c.run_crew.new.derivers in
    let count = c.run_crew.auto.derivers ∙ c.as_mut_slice-2.ensures.len in
    let whole = first_of c.args.crew.derivers.len new (drop (length new) c.args.crew.derivers.items) count in
    let before = subst (AreNumbered first) (sym c.as_mut_slice-2.ensures.value) numbers in
    let after = c.run_crew.ensures.numbers first before in
    let none = subst (HaveNone c.join_derivers.new.lead) whole c.join_derivers.ensures.none in
    unused c.join_derivers.new.lead first (vec_len c.args.crew.derivers) new (sym count) after none.each
