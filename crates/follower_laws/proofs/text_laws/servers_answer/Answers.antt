use Rattle.std.proofs.Common.{length, ◌∙◌}
use Rattle.follower_laws.proofs.Replied.{page_replied, wanted_told, entry_replied}
use Rattle.follower_laws.proofs.text_laws.servers_answer.Goals as goal

pub returns-clause-pages : goal.returns-clause-pages
returns-clause-pages c = page_replied

pub returns-clause-entries : goal.returns-clause-entries
returns-clause-entries c = λ server h before later body line wanted text last legal e told asks w.
    entry_replied server h before later body wanted text last legal e (wanted_told body (length before) line told ∙ asks) w
