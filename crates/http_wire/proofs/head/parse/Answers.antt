use Rattle.http_wire.proofs.HeadLemmas.{whole_head_len, no_head_overflows}
use Rattle.http_wire.proofs.head.parse.Goals as goal

pub returns-in_default-clause-none : goal.returns-in_default-clause-none
returns-in_default-clause-none c = λ _ tree whole. let of = rw c.in-Ok-Complete.field-0-is at c.in-Ok-Complete.ensures.complete in c.if-spans-bytes.false (whole_head_len c.args.bytes.now _ c.in-Ok-Complete.spans tree of whole)

pub returns-in_default-3-clause-none : goal.returns-in_default-3-clause-none
returns-in_default-3-clause-none c = λ _ tree whole. let none = rw c.in_default.is at c.parse_request.ensures.no_room in no_head_overflows c.args.bytes.now tree _ c.requires.room none whole
