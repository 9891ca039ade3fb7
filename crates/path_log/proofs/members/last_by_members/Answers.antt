use Rattle.std.proofs.Common.{sym, subst, ap, ◌∙◌, ℕ}
use Rattle.std.specs.Prelude.{IfSome, IsTrue, Option}
use Rattle.std.specs.Option.{option_and_then}
use Rattle.path_log.specs.Line.{last_logged}
use Rattle.path_log.proofs.Links.{asked_last, asked_lower, asked_on, parent_may}
use Rattle.path_log.proofs.members.last_by_members.Goals as goal

pub is_logged-requires : goal.is_logged-requires
is_logged-requires g c = subst (λ (o : Option ℕ). IfSome o (λ n. IsTrue (g.M.Members.may_be_asked c.args.members.now n))) c.in-Some.is c.loop-next.invariant.may

pub parent-next-requires : goal.parent-next-requires
parent-next-requires g c = subst (λ (o : Option ℕ). IfSome o (λ n. IsTrue (g.M.Members.may_be_asked c.args.members.now n))) c.in-Some.is c.loop-next.invariant.may

pub returns-then-is_logged : goal.returns-then-is_logged
returns-then-is_logged g c =
    let members = c.args.members.now in
    let parent = g.M.Members.parent_of members in
    let logs = g.M.Members.is_logged members c.args.path.now in
    asked_last (g.M.Members.may_be_asked members) parent (g.met.M.Members.earlier members) logs c.loop-next.next c.in-Some.here (last_logged parent logs c.args.at) c.in-Some.is (sym c.is_logged.ensures ∙ c.if-is_logged.true) c.loop-next.invariant.so_far

pub loop-next-smaller : goal.loop-next-smaller
loop-next-smaller g c =
    let members = c.args.members.now in
    asked_lower (g.M.Members.may_be_asked members) (g.M.Members.parent_of members) (g.met.M.Members.earlier members) (g.M.Members.is_logged members c.args.path.now) c.loop-next.next c.in-Some.here c.parent-next.result c.in-Some.is c.loop-next.invariant.may c.parent-next.ensures

pub loop-next-preserved : goal.loop-next-preserved
loop-next-preserved g c =
    let members = c.args.members.now in
    let asked = g.M.Members.may_be_asked members in
    let parent = g.M.Members.parent_of members in
    let logs = g.M.Members.is_logged members c.args.path.now in
    let here = c.in-Some.here in
    record {
      may = parent_may asked parent (g.met.M.Members.earlier members) logs here (subst (λ (o : Option ℕ). IfSome o (λ n. IsTrue (asked n))) c.in-Some.is c.loop-next.invariant.may) c.parent-next.result c.parent-next.ensures;
      so_far = asked_on asked parent (g.met.M.Members.earlier members) logs c.loop-next.next here c.parent-next.result (last_logged parent logs c.args.at) c.in-Some.is c.loop-next.invariant.may (sym c.is_logged.ensures ∙ c.if-is_logged.false) c.parent-next.ensures c.loop-next.invariant.so_far;
    }

pub returns : goal.returns
returns g c =
    let members = c.args.members.now in
    let parent = g.M.Members.parent_of members in
    let logs = g.M.Members.is_logged members c.args.path.now in
    ap (option_and_then (last_logged parent logs)) (sym c.in_default.is) ∙ c.loop-next.invariant.so_far
