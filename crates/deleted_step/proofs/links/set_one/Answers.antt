use Rattle.deleted_step.proofs.Linked.{link_set}
use Rattle.deleted_step.proofs.links.set_one.Goals as goal

pub returns-clause-set : goal.returns-clause-set
returns-clause-set g c = λ first ls held are.
    link_set first ls c.args.path.now c.args.link.now c.unfold_way.new.unfolded c.set_link.new.unfolded (c.in_default.ensures.unfolded first ls held are) c.in_ok-set_link.ensures.root c.in_ok-set_link.ensures.same c.in_ok-set_link.ensures.link c.in_ok-set_link.ensures.entries
