use Rattle.std.proofs.Common.{rules, ◌≡◌, length, ap, arith}
use Rattle.blob_disk.proofs.Logs.{length-calls_of}
use Rattle.blob_disk.proofs.record.Record.len.Goals as goal

pub returns : goal.returns
returns c =
    let turns = length-calls_of c.self.inside.turns.items c.self.inside.written.items in
    let calls = ap (λ log. length log.calls) c.self.view_is in
    let items : c.len.result ≡ length c.self.inside.turns.items = search rules in
    omega arith
