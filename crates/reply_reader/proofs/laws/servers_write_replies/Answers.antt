use Rattle.reply_reader.proofs.Written.{written_reply}
use Rattle.reply_reader.proofs.laws.servers_write_replies.Goals as goal

pub returns : goal.returns
returns c = written_reply
