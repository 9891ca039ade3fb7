use Rattle.path_log.proofs.Links.{last_is}
use Rattle.path_log.proofs.laws.links_go_back.Goals as goal

pub returns : goal.returns
returns g c = λ lines p n m may e.
    let l = last_is (g.N.Lines.may_be_asked lines) (g.N.Lines.parent_of lines) (g.met.N.Lines.earlier lines) (g.N.Lines.is_logged lines p) n m may e in
    (l.low, l.may)
