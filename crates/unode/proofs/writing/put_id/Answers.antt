use Rattle.std.proofs.Common.{◌≡◌, true}
use Rattle.std.specs.Prelude.{Result, Ok, Err, OnOk}
use Rattle.byte_fields.specs.Bytes.{is_bytes}
use Rattle.unode.proofs.writing.put_id.Goals as goal

on_ok : {X E : Type 0} (P : Type 0) (r : Result X E) → P → OnOk r P
on_ok P (Ok x) p = p
on_ok P (Err e) p = tt

pub returns-clause-whole : goal.returns-clause-whole
returns-clause-whole c = on_ok (is_bytes 32 c.args.id.now ≡ true) c.extend_from_slice.result c.as_bytes.ensures.rule
