use Rattle.reply_reader.proofs.Found.{reply_unique}
use Rattle.reply_reader.proofs.laws.one_reply_stands_first.Goals as goal

pub returns : goal.returns
returns c = reply_unique
