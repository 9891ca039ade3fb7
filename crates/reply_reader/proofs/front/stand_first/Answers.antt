use Rattle.std.proofs.Common.{◌≡◌, ℕ, take, subst, refl, arith, length-take}
use Rattle.httparse.specs.Grammar.{HasNoResponse}
use Rattle.reply_reader.proofs.Found.{long_unfinished}
use Rattle.reply_reader.proofs.Fronts.{failed_front, framed_front, head_front}
use Rattle.reply_reader.proofs.front.stand_first.Goals as goal

pub returns-in-Ok-None-2 : goal.returns-in-Ok-None-2
returns-in-Ok-None-2 c =
    let long = c.if-bytes-lt-MOST_HEAD.false in
    let all : c.min.result ≡ 16384 = let is = c.min.ensures in omega arith in
    let none : HasNoResponse (take 16384 c.args.bytes.now) = subst (λ (n : ℕ). HasNoResponse (take n c.args.bytes.now)) all (c.in-Ok-None.ensures.unfinished (rw c.in-Ok-None.field-0-is refl)).0 in
    ((long, none), long_unfinished c.args.limit c.args.bytes.now long none)

pub returns-in-Err : goal.returns-in-Err
returns-in-Err c = head_front c.in-Err.fault c.args.limit c.min.result c.args.bytes.now c.in-Err.ensures.bad.0 c.in-Err.ensures.bad.1

pub returns-in-Ok : goal.returns-in-Ok
returns-in-Ok c =
    let is = c.min.ensures in
    let of = rw c.in-Ok-Some.field-0-is at c.in-Ok-Some.ensures.head in
    let within = rw c.in-Ok-Some.field-0-is at c.in-Ok-Some.ensures.within in
    let taken = length-take c.min.result c.args.bytes.now in
    framed_front c.args.limit c.min.result c.args.bytes.now c.parse.new.headers c.in-Ok-Some.spans of.0 c.in-Ok.framing c.with_body.result (omega arith) (omega arith) within.section.len_fits of.1 c.in-Ok.ensures c.with_body.ensures

pub returns-in-Err-frame : goal.returns-in-Err-frame
returns-in-Err-frame c =
    let is = c.min.ensures in
    let of = rw c.in-Ok-Some.field-0-is at c.in-Ok-Some.ensures.head in
    let within = rw c.in-Ok-Some.field-0-is at c.in-Ok-Some.ensures.within in
    let taken = length-take c.min.result c.args.bytes.now in
    failed_front c.in-Err-frame.fault c.args.limit c.min.result c.args.bytes.now c.parse.new.headers c.in-Ok-Some.spans of.0 (omega arith) (omega arith) within.section.len_fits of.1 c.in-Err-frame.ensures
