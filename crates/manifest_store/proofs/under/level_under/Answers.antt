use Rattle.std.proofs.Common.{◌≤◌, ◌&&◌, ◌||◌, ◌+◌, Bool, List, length, sym, ap, ◌∙◌, drop, arith}
use Rattle.std.specs.List.{list_any}
use Rattle.changeset_model.specs.Path.{is_strict_prefix}
use Rattle.std.proofs.lemmas.List.{drop_all}
use Rattle.manifest_store.specs.declared.under.Directory.{Directory}
use Rattle.manifest_store.specs.Moves.{IsDirectory, has_file}
use Rattle.manifest_store.specs.Levels.{is_reached}
use Rattle.manifest_store.proofs.Taken.{from_here, one_further}
use Rattle.manifest_store.proofs.Levels.{each_at, none_further}
use Rattle.manifest_store.proofs.under.level_under.Goals as goal

pub loop-dir-preserved : goal.loop-dir-preserved
loop-dir-preserved c =
    let i = c.loop-dir.dir-index in
    let x = c.dir-item.result in
    let level = c.args.level.now in
    record {
      files = λ past has all p.
          let lies : List Directory → Bool = λ ds. list_any (λ d. is_strict_prefix d.path p) ds in
          let here = has_file past p in
          ap (λ b. b || (here && lies (drop (i + 1) level))) (c.in_ok-add_children.ensures.files past has (each_at (λ d. IsDirectory past d.path d.id) level i x c.loop-dir-test.true c.dir-item.is all) p)
          ∙ one_further (is_reached past c.loop-dir.gone.items c.loop-dir.next.items p) here (is_strict_prefix x.path p) (lies (drop (i + 1) level))
          ∙ ap (λ ds. is_reached past c.loop-dir.gone.items c.loop-dir.next.items p || (here && lies ds)) (sym (from_here level i x c.loop-dir-test.true c.dir-item.is))
          ∙ c.loop-dir.invariant.files past has all p;
      directories = λ past has all. c.in_ok-add_children.ensures.directories past has (each_at (λ d. IsDirectory past d.path d.id) level i x c.loop-dir-test.true c.dir-item.is all) (c.loop-dir.invariant.directories past has all);
      deeper = λ n all. c.in_ok-add_children.ensures.deeper n (each_at (λ d. n ≤ length d.path) level i x c.loop-dir-test.true c.dir-item.is all) (c.loop-dir.invariant.deeper n all);
    }

pub returns-clause-files : goal.returns-clause-files
returns-clause-files c = λ past has all p.
    let here = has_file past p in
    let r = is_reached past c.loop-dir.gone.items c.loop-dir.next.items p in
    sym (none_further r here)
    ∙ ap (λ ds. r || (here && list_any (λ (d : Directory). is_strict_prefix d.path p) ds)) (sym (drop_all c.loop-dir.dir-index c.args.level.now (omega (arith, c.loop-dir-test.false))))
    ∙ c.loop-dir.invariant.files past has all p
