use Rattle.std.proofs.Common.{◌&&◌, ◌||◌, ◌+◌, ◌++◌, ◌∷◌, [], drop, sym, ap, ◌∙◌, arith}
use Rattle.std.proofs.lemmas.List.{drop_all}
use Rattle.bonsai.specs.View.{edits_view}
use Rattle.changeset_model.specs.Path.{is_prefix}
use Rattle.fsnode.specs.Parts.{child_seen, children_seen}
use Rattle.manifest_store.specs.Brought.{is_brought, is_to_come, own}
use Rattle.manifest_store.proofs.Taken.{from_here, one_further}
use Rattle.manifest_store.proofs.Levels.{any_named, entry_found, none_further}
use Rattle.manifest_store.proofs.Coming.{all_brought}
use Rattle.manifest_store.proofs.brought.add_children.Goals as goal

pub loop-child-preserved : goal.loop-child-preserved
loop-child-preserved c =
    let d = own c.args.dir.now.path in
    let i = c.loop-child.child-index in
    let x = c.child-item.result in
    let all = c.args.children.now in
    let es = edits_view c.args.decided.now.edits.now in
    record {
      files = λ past other are p.
          let here = is_brought past other es p in
          let so_far = is_to_come past other es c.loop-child.come.items c.loop-child.next.items p in
          ap (λ b. b || (here && any_named d (children_seen (drop (i + 1) all)) p)) (c.in_ok-add_child.ensures.files past other are.first_right are.second_right (entry_found other are.second_right d all i x are.at_second c.loop-child-test.true c.child-item.is) (are.at_first x.name) p)
          ∙ one_further so_far here (is_prefix (d ++ (child_seen x).0 ∷ []) p) (any_named d (children_seen (drop (i + 1) all)) p)
          ∙ ap (λ cs. so_far || (here && any_named d (children_seen cs) p)) (sym (from_here all i x c.loop-child-test.true c.child-item.is))
          ∙ c.loop-child.invariant.files past other are p;
      directories = λ past other are had.
          c.in_ok-add_child.ensures.directories past other are.first_right are.second_right (entry_found other are.second_right d all i x are.at_second c.loop-child-test.true c.child-item.is) (are.at_first x.name) (c.loop-child.invariant.directories past other are had);
      deeper = λ n less had. c.in_ok-add_child.ensures.deeper n less (c.loop-child.invariant.deeper n less had);
    }

pub returns-clause-files : goal.returns-clause-files
returns-clause-files c = λ past other are p.
    let d = own c.args.dir.now.path in
    let all = c.args.children.now in
    let es = edits_view c.args.decided.now.edits.now in
    let here = is_brought past other es p in
    let so_far = is_to_come past other es c.loop-child.come.items c.loop-child.next.items p in
    let was = is_to_come past other es c.args.come.now.items c.args.next.now.items p in
    sym (none_further so_far here)
    ∙ ap (λ cs. so_far || (here && any_named d (children_seen cs) p)) (sym (drop_all c.loop-child.child-index all (omega (arith, c.loop-child-test.false))))
    ∙ c.loop-child.invariant.files past other are p
    ∙ ap (λ b. was || b) (ap (λ cs. here && any_named d cs p) are.at_second ∙ all_brought past other es are.second_right d p)
