use Rattle.std.proofs.Common.{sym}
use Rattle.node_fields.specs.Lookup.{named_in}
use Rattle.node_fields.proofs.Named.{goes_on, is_here, is_past, no_entry, no_name}
use Rattle.node_fields.proofs.lookup.first_named.Goals as goal

pub returns-in_default : goal.returns-in_default
returns-in_default g c =
    let r = g.E.Entry.reader in
    no_name r c.args.count c.looking.counter c.args.name.now c.looking.left.now (named_in r c.args.count c.args.name.now c.args.bytes.now) c.looking-test.true c.looking.invariant c.in_default.field-0.left c.in_default.ensures

pub returns-in-Err : goal.returns-in-Err
returns-in-Err g c =
    let r = g.E.Entry.reader in
    no_entry r c.args.count c.looking.counter c.args.name.now c.looking.left.now (named_in r c.args.count c.args.name.now c.args.bytes.now) c.looking-test.true c.looking.invariant c.in-Ok.here.now c.in-Ok.after.now c.in-Ok.ensures c.in-Err.field-0.left c.in-Err.ensures

pub returns-in-Equal : goal.returns-in-Equal
returns-in-Equal g c =
    let r = g.E.Entry.reader in
    is_here r c.args.count c.looking.counter c.args.name.now c.looking.left.now (named_in r c.args.count c.args.name.now c.args.bytes.now) c.looking-test.true c.looking.invariant c.in-Ok.here.now c.in-Ok.after.now c.in-Ok.ensures (g.E.Entry.seen c.in-Ok-entry_at.read.0) c.in-Ok-entry_at.read.1.now c.in-Ok-entry_at.ensures (sym c.in-Equal.ensures)

pub returns-in-Greater : goal.returns-in-Greater
returns-in-Greater g c =
    let r = g.E.Entry.reader in
    is_past r c.args.count c.looking.counter c.args.name.now c.looking.left.now (named_in r c.args.count c.args.name.now c.args.bytes.now) c.looking-test.true c.looking.invariant c.in-Ok.here.now c.in-Ok.after.now c.in-Ok.ensures (g.E.Entry.seen c.in-Ok-entry_at.read.0) c.in-Ok-entry_at.read.1.now c.in-Ok-entry_at.ensures (sym c.in-Greater.ensures)

pub looking-preserved : goal.looking-preserved
looking-preserved g c =
    let r = g.E.Entry.reader in
    goes_on r c.args.count c.looking.counter c.args.name.now c.looking.left.now (named_in r c.args.count c.args.name.now c.args.bytes.now) c.looking-test.true c.looking.invariant c.in-Ok.here.now c.in-Ok.after.now c.in-Ok.ensures (g.E.Entry.seen c.in-Ok-entry_at.read.0) c.in-Ok-entry_at.read.1.now c.in-Ok-entry_at.ensures (sym c.in-Less.ensures)
