use Rattle.std.proofs.Common.{refl}
use Rattle.reply_model.specs.Reply.{PutContent}
use Rattle.run_gen.proofs.stack.put_content.Goals as goal

pub put-requires-clause-upload : goal.put-requires-clause-upload
put-requires-clause-upload g c = (PutContent c.as_bytes.result.now, refl, refl)
