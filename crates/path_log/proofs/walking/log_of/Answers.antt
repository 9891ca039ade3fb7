use Rattle.std.proofs.Common.{sym, ◌∙◌, arith}
use Rattle.path_log.specs.Line.{logged}
use Rattle.path_log.proofs.Links.{ended, grown, link_is, lower, one_longer, parent_may, stopped}
use Rattle.path_log.proofs.walking.log_of.Goals as goal
use Rattle.path_log.proofs.walking.log_of.Goals.{in-Some+in_default-last_logged, in_default}

pub parent-next-requires : goal.parent-next-requires
parent-next-requires g c =
    let lines = c.args.lines.now.lines.now in
    let asked = g.N.Lines.may_be_asked lines in
    let parent = g.N.Lines.parent_of lines in
    let logs = g.N.Lines.is_logged lines c.args.path.now in
    (link_is asked parent (g.met.N.Lines.earlier lines) logs c.loop-next.next c.in-Some.here c.in-Some-last_logged.link c.in-Some.is c.loop-next.invariant.may (sym c.last_logged.ensures.last ∙ c.in-Some-last_logged.is)).may

pub loop-next-smaller : goal.loop-next-smaller
loop-next-smaller g c =
    let lines = c.args.lines.now.lines.now in
    let asked = g.N.Lines.may_be_asked lines in
    let parent = g.N.Lines.parent_of lines in
    let logs = g.N.Lines.is_logged lines c.args.path.now in
    let last = link_is asked parent (g.met.N.Lines.earlier lines) logs c.loop-next.next c.in-Some.here c.in-Some-last_logged.link c.in-Some.is c.loop-next.invariant.may (sym c.last_logged.ensures.last ∙ c.in-Some-last_logged.is) in
    lower asked parent (g.met.N.Lines.earlier lines) logs c.loop-next.next c.in-Some.here c.in-Some-last_logged.link c.parent-next.result c.in-Some.is last c.parent-next.ensures

pub loop-next-preserved : goal.loop-next-preserved
loop-next-preserved g c =
    let lines = c.args.lines.now.lines.now in
    let asked = g.N.Lines.may_be_asked lines in
    let parent = g.N.Lines.parent_of lines in
    let logs = g.N.Lines.is_logged lines c.args.path.now in
    let link = c.in-Some-last_logged.link in
    let last = link_is asked parent (g.met.N.Lines.earlier lines) logs c.loop-next.next c.in-Some.here link c.in-Some.is c.loop-next.invariant.may (sym c.last_logged.ensures.last ∙ c.in-Some-last_logged.is) in
    let longer = one_longer c.loop-next.log.items c.push.new.self.items link c.in_ok-push.ensures.items in
    record {
      may = parent_may asked parent (g.met.N.Lines.earlier lines) logs link last.may c.parent-next.result c.parent-next.ensures;
      so_far = grown asked parent (g.met.N.Lines.earlier lines) logs c.loop-next.log.items c.push.new.self.items c.loop-next.next c.in-Some.here link c.parent-next.result (logged parent logs c.args.at) c.in-Some.is last c.in_ok-push.ensures.items c.parent-next.ensures c.loop-next.invariant.so_far;
      counted = omega arith;
      cost = omega (arith, longer);
    }

pub returns-clause-log : goal.returns-clause-log
returns-clause-log g c =
    let lines = c.args.lines.now.lines.now in
    let asked = g.N.Lines.may_be_asked lines in
    let parent = g.N.Lines.parent_of lines in
    let logs = g.N.Lines.is_logged lines c.args.path.now in
    elim c.match-next.branch [
      | in-Some+in_default-last_logged w ↦ stopped asked parent (g.met.N.Lines.earlier lines) logs c.loop-next.log.items c.loop-next.next w.in-Some.here (logged parent logs c.args.at) w.in-Some.is (sym w.last_logged.ensures.last ∙ w.in_default-last_logged.is) c.loop-next.invariant.so_far
      | in_default w ↦ ended asked parent (g.met.N.Lines.earlier lines) logs c.loop-next.log.items c.loop-next.next (logged parent logs c.args.at) w.in_default.is c.loop-next.invariant.so_far
    ]
