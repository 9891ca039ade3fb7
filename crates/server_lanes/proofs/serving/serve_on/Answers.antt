use Rattle.std.proofs.Common.{◌≡◌, ◌+◌, ap, subst, arith, ℕ}
use Rattle.bookmark_lock.specs.Place.{Place}
use Rattle.server_lanes.specs.Derivers.{AreNumbered, AreUnused}
use Rattle.server_lanes.proofs.serving.serve_on.Goals as goal

pub returns-clause-unused : goal.returns-clause-unused
returns-clause-unused g c =
    let lanes = c.args.numbers.lanes in
    let crew = c.split_crew-crew in
    let none : c.args.lead.now.split ≡ 0 = ap (λ (p : Place). p.split) c.requires.lead in
    let first : c.args.lead.now.split + lanes + 1 ≡ lanes + 1 = omega (arith, none) in
    let numbers = subst (λ (n : ℕ). AreNumbered n crew.result.derivers.items) first crew.ensures.numbers in
    subst (λ (n : ℕ). AreUnused (lanes + 1) n c.serve_by.new.lead.front) crew.ensures.count.1 (c.serve_by.ensures.unused (lanes + 1) numbers)
