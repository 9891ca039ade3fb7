use Rattle.std.proofs.Common.{refl, ap, Err}
use Rattle.reply_reader.proofs.Counting.{no_head}
use Rattle.reply_reader.proofs.head.parse.Goals as goal

pub returns-in-Err-clause-bad : goal.returns-in-Err-clause-bad
returns-in-Err-clause-bad c =
    (refl, no_head c.args.bytes.now c.in-Err.field-0 _ c.requires.fits c.requires.room c.in-Err.ensures.invalid (λ e. c.in-Err.ensures.too_many (ap Err e)))
