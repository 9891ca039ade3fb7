use Rattle.repo_machine.proofs.MadeReady.{mapped_ok, content_framed}
use Rattle.repo_machine.proofs.prepared.content_frame.Goals as goal

pub returns : goal.returns
returns c = mapped_ok c.encode_entry.result _ _ (λ f e. content_framed c.args.id c.args.bytes.now _ c.requires.id e) c.encode_entry.ensures
