use Rattle.manifest_store.proofs.NodesApart.{settled_apart, ready_apart}
use Rattle.manifest_store.proofs.laws.settled_nodes_are_apart.Goals as goal

pub returns-clause-settled : goal.returns-clause-settled
returns-clause-settled c = λ ks t n a h. settled_apart ks t a n h

pub returns-clause-ready : goal.returns-clause-ready
returns-clause-ready c = λ ks t n a less ready. ready_apart ks t a n less ready
