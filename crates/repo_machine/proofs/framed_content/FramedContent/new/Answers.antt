use Rattle.std.proofs.Common.{ap, ◌∙◌}
use Rattle.sha2.specs.Sha256.{sha256}
use Rattle.repo_machine.proofs.MadeReady.{content_read, framed_ready}
use Rattle.repo_machine.proofs.framed_content.FramedContent.new.Goals as goal

pub invariant_of-result : goal.invariant_of-result
invariant_of-result c = framed_ready c.of-id.result c.args.bytes.items c.in_ok-frame.frame.items (c.of-id.ensures ∙ ap sha256 c.as_slice.ensures.value) c.requires c.in_ok-frame.ensures

pub returns : goal.returns
returns c = content_read c.args.bytes.items c.in_ok-frame.frame.items c.in_ok-frame.ensures
