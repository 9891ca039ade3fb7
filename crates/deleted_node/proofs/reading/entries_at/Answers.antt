use Rattle.std.proofs.Common.{◌≡◌, ◌-◌, ◌+◌, ℕ, List, [], ◌∷◌, ◌++◌, Some, None, ap, subst, sym, ◌∙◌}
use Rattle.std.specs.Option.{option_copied}
use Rattle.std.proofs.lemmas.List.{map_push}
use Rattle.byte_fields.specs.Reads.{Fails}
use Rattle.byte_fields.specs.declared.field_fault.FieldFault.TheVariants.{Bad}
use Rattle.byte_fields.proofs.Run.{with_front, goes_on, fails}
use Rattle.byte_fields.specs.Bytes.{Id}
use Rattle.byte_fields.specs.Reading.{id}
use Rattle.manifest_model.specs.NodeReading.{entries}
use Rattle.node_fields.proofs.Entries.{entries_run}
use Rattle.deleted_node.specs.Parts.{entry_seen, child_seen, children_seen}
use Rattle.deleted_node.proofs.reading.entries_at.Goals as goal

pub returns-in-Err : goal.returns-in-Err
returns-in-Err c =
    let total = entries id c.args.count None c.args.bytes.now in
    subst (λ fault. Fails fault total) (sym c.into.ensures)
    (fails (entries_run id) (Bad c.in-Err.fault.left) (children_seen c.loop.children.items) c.args.count c.loop.counter (option_copied c.loop.before) c.loop.rest.now total c.loop-test.true c.in-Err.ensures.field c.loop.invariant)

pub loop-preserved : goal.loop-preserved
loop-preserved c =
    let front : List (List ℕ × Id) = children_seen c.loop.children.items in
    let read = c.in-Ok.read in
    let e : List ℕ × Id = (read.0.0.now, entry_seen read.0.1) in
    let grown : children_seen c.push.new.self.items ≡ front ++ e ∷ [] =
    ap children_seen c.in_ok-push.ensures.items
    ∙ map_push child_seen c.loop.children.items _
    ∙ ap (λ (name : List ℕ). front ++ (name, entry_seen read.0.1) ∷ []) c.in_ok-name_copy.ensures in
    ap (λ es. with_front es (entries id (c.args.count - (c.loop.counter + 1)) (Some read.0.0.now) read.1.now)) grown
    ∙ sym (goes_on (entries_run id) front c.args.count c.loop.counter (option_copied c.loop.before) c.loop.rest.now read.1.now e c.loop-test.true c.in-Ok.ensures.field)
    ∙ c.loop.invariant
