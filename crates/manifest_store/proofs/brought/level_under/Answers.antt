use Rattle.std.proofs.Common.{◌≤◌, ◌&&◌, ◌||◌, ◌+◌, Bool, List, length, sym, ap, ◌∙◌, drop, arith}
use Rattle.std.specs.List.{list_any}
use Rattle.changeset_model.specs.Path.{is_strict_prefix}
use Rattle.std.proofs.lemmas.List.{drop_all}
use Rattle.bonsai.specs.View.{edits_view}
use Rattle.manifest_store.specs.declared.brought.Brought.{Brought}
use Rattle.manifest_store.specs.Brought.{IsBroughtFrom, is_brought, is_to_come, own}
use Rattle.manifest_store.proofs.Taken.{from_here, one_further}
use Rattle.manifest_store.proofs.Levels.{each_at, none_further}
use Rattle.manifest_store.proofs.brought.level_under.Goals as goal

pub loop-dir-preserved : goal.loop-dir-preserved
loop-dir-preserved c =
    let i = c.loop-dir.dir-index in
    let x = c.dir-item.result in
    let level = c.args.level.now in
    let es = edits_view c.args.decided.now.edits.now in
    record {
      files = λ past other both all p.
          let lies : List Brought → Bool = λ ds. list_any (λ d. is_strict_prefix (own d.path) p) ds in
          let here = is_brought past other es p in
          let so_far = is_to_come past other es c.loop-dir.come.items c.loop-dir.next.items p in
          ap (λ b. b || (here && lies (drop (i + 1) level))) (c.in_ok-add_entries.ensures.files past other both (each_at (λ d. IsBroughtFrom past other d) level i x c.loop-dir-test.true c.dir-item.is all) p)
          ∙ one_further so_far here (is_strict_prefix (own x.path) p) (lies (drop (i + 1) level))
          ∙ ap (λ ds. so_far || (here && lies ds)) (sym (from_here level i x c.loop-dir-test.true c.dir-item.is))
          ∙ c.loop-dir.invariant.files past other both all p;
      directories = λ past other both all. c.in_ok-add_entries.ensures.directories past other both (each_at (λ d. IsBroughtFrom past other d) level i x c.loop-dir-test.true c.dir-item.is all) (c.loop-dir.invariant.directories past other both all);
      deeper = λ n all. c.in_ok-add_entries.ensures.deeper n (each_at (λ d. n ≤ length (own d.path)) level i x c.loop-dir-test.true c.dir-item.is all) (c.loop-dir.invariant.deeper n all);
    }

pub returns-clause-files : goal.returns-clause-files
returns-clause-files c = λ past other both all p.
    let es = edits_view c.args.decided.now.edits.now in
    let here = is_brought past other es p in
    let so_far = is_to_come past other es c.loop-dir.come.items c.loop-dir.next.items p in
    sym (none_further so_far here)
    ∙ ap (λ ds. so_far || (here && list_any (λ (d : Brought). is_strict_prefix (own d.path) p) ds)) (sym (drop_all c.loop-dir.dir-index c.args.level.now (omega (arith, c.loop-dir-test.false))))
    ∙ c.loop-dir.invariant.files past other both all p
