use Rattle.std.proofs.Common.{◌+◌, ◌-◌, take, drop, ap, ◌∙◌, arith}
use Rattle.repo_state.proofs.ReadContents.{on_ok, told_ok, part_long, put_bytes, put_there}
use Rattle.repo_state.proofs.fill.fill_place.Goals as goal

pub returns-clause-bytes : goal.returns-clause-bytes
returns-clause-bytes g c =
    on_ok c.read.result (put_bytes c.args.from c.args.place.length (c.args.from + c.args.place.length - c.args.from) c.args.buffer.now c.read.new.buf (λ i. omega (arith, c.type_inv.buffer i)))

pub returns-clause-there : goal.returns-clause-there
returns-clause-there g c =
    let k = c.args.from + c.args.place.length - c.args.from in
    let room = c.requires.room in
    let part = part_long c.args.from c.args.place.length k c.args.buffer.now (omega arith) room in
    let put = put_there c.args.from c.args.place.length k c.args.buffer.now c.read.new.buf (omega arith) (c.read.auto.buf ∙ part) in
    told_ok c.read.result (λ read inside file told. put ∙ read (let apart = c.requires.within.apart inside in omega arith) file told ∙ ap (λ m. take m (drop c.args.place.at file)) part) c.read.ensures.bytes

pub returns-clause-waiting : goal.returns-clause-waiting
returns-clause-waiting g c =
    let k = c.args.from + c.args.place.length - c.args.from in
    let room = c.requires.room in
    let part = part_long c.args.from c.args.place.length k c.args.buffer.now (omega arith) room in
    let put = put_there c.args.from c.args.place.length k c.args.buffer.now c.read.new.buf (omega arith) (c.read.auto.buf ∙ part) in
    on_ok c.read.result (λ behind. put ∙ c.read.ensures.waiting behind ∙ ap (λ m. take m (drop (c.args.place.at - c.args.journal.now.size) c.args.journal.now.pending.bytes)) part)
