use Rattle.std.proofs.Common.{◌&&◌, ◌||◌, ◌+◌, ◌++◌, ◌∷◌, [], drop, sym, ap, ◌∙◌, arith}
use Rattle.std.specs.Prelude.{option_map}
use Rattle.std.proofs.lemmas.List.{drop_all}
use Rattle.changeset_model.specs.Path.{is_prefix}
use Rattle.fsnode.specs.Parts.{child_seen, children_seen}
use Rattle.fsnode.specs.Views.{fsnode_seen}
use Rattle.manifest_store.specs.Moves.{has_file}
use Rattle.manifest_store.specs.Levels.{is_reached}
use Rattle.manifest_store.proofs.Taken.{from_here, one_further}
use Rattle.manifest_store.proofs.Levels.{any_named, all_named, entries_read, entry_found, node_there, none_further, right_of}
use Rattle.manifest_store.proofs.under.add_children.Goals as goal

pub returns-in_default-clause-files : goal.returns-in_default-clause-files
returns-in_default-clause-files c = λ past has dir p.
    node_there c.args.table.now.nodes past c.args.dir.now.path c.args.dir.now.id has dir (ap (option_map fsnode_seen) (sym c.in_default.is) ∙ c.in_ok-node.ensures)

pub loop-child-preserved : goal.loop-child-preserved
loop-child-preserved c =
    let d = c.args.dir.now.path in
    let i = c.loop-child.child-index in
    let x = c.child-item.result in
    let es = c.deref-child-items.result.now in
    record {
      files = λ past has dir p.
          let right = right_of c.args.table.now.nodes past has in
          let here = has_file past p in
          let found = entry_found past right d es i x (entries_read c.args.table.now.nodes past d c.args.dir.now.id c.in_ok-node.field-0 c.in-Some.node es c.in-Some.is c.in_ok-node.ensures c.deref-child-items.ensures.value has dir) c.loop-child-test.true c.child-item.is in
          ap (λ b. b || (here && any_named d (children_seen (drop (i + 1) es)) p)) (c.in_ok-add_child.ensures.files past right found p)
          ∙ one_further (is_reached past c.loop-child.gone.items c.loop-child.left.items p) here (is_prefix (d ++ (child_seen x).0 ∷ []) p) (any_named d (children_seen (drop (i + 1) es)) p)
          ∙ ap (λ cs. is_reached past c.loop-child.gone.items c.loop-child.left.items p || (here && any_named d (children_seen cs) p)) (sym (from_here es i x c.loop-child-test.true c.child-item.is))
          ∙ c.loop-child.invariant.files past has dir p;
      directories = λ past has dir all.
          let right = right_of c.args.table.now.nodes past has in
          c.in_ok-add_child.ensures.directories past right (entry_found past right d es i x (entries_read c.args.table.now.nodes past d c.args.dir.now.id c.in_ok-node.field-0 c.in-Some.node es c.in-Some.is c.in_ok-node.ensures c.deref-child-items.ensures.value has dir) c.loop-child-test.true c.child-item.is) (c.loop-child.invariant.directories past has dir all);
      deeper = λ n less all. c.in_ok-add_child.ensures.deeper n less (c.loop-child.invariant.deeper n less all);
    }

pub returns-clause-files : goal.returns-clause-files
returns-clause-files c = λ past has dir p.
    let d = c.args.dir.now.path in
    let es = c.deref-child-items.result.now in
    let here = has_file past p in
    let r = is_reached past c.loop-child.gone.items c.loop-child.left.items p in
    let was = is_reached past c.args.gone.now.items c.args.left.now.items p in
    sym (none_further r here)
    ∙ ap (λ cs. r || (here && any_named d (children_seen cs) p)) (sym (drop_all c.loop-child.child-index es (omega (arith, c.loop-child-test.false))))
    ∙ c.loop-child.invariant.files past has dir p
    ∙ ap (λ b. was || b) (ap (λ cs. here && any_named d cs p) (entries_read c.args.table.now.nodes past d c.args.dir.now.id c.in_ok-node.field-0 c.in-Some.node es c.in-Some.is c.in_ok-node.ensures c.deref-child-items.ensures.value has dir) ∙ all_named past (right_of c.args.table.now.nodes past has) d p)
