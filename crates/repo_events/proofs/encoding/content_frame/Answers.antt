use Rattle.std.proofs.Common.{refl, rules}
use Rattle.repo_events.proofs.Content.{content_written}
use Rattle.repo_events.proofs.encoding.content_frame.Goals as goal

pub returns : goal.returns
returns c =
    content_written c.args.bytes.items c.extend_from_slice.new.self.items c.copy_within.new.self.items c.len-count.result (search rules) (search rules) c.copy_within.ensures.items _ _ refl c.put_length.ensures
