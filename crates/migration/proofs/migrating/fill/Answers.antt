use Rattle.std.proofs.Common.{◌≡◌, ◌-◌, ◌++◌, length, ap, sym, ◌∙◌}
use Rattle.blob_disk.proofs.Clients.{kept_then}
use Rattle.migration.specs.Copying.{IsUnfinished, copied, records_in, unmarked_head}
use Rattle.migration.proofs.Blocks.{told}
use Rattle.migration.proofs.Writes.{leaves_each}
use Rattle.migration.proofs.Calls.{copied_len, each_unmarked, short_unfinished, unmarked_unfinished}
use Rattle.migration.proofs.migrating.fill.Goals as goal

pub returns-then-is_err-clause-crash : goal.returns-then-is_err-clause-crash
returns-then-is_err-clause-crash g c = λ honest_from honest empty.
    (let recs = records_in c.args.journal.now.size (g.D.Disk.meaning c.args.from.now).state.reads in
    short_unfinished (copied c.args.journal.now.capacity recs) (g.E.Disk.meaning c.args.to.now) (g.E.Disk.meaning c.begin.new.to) (c.begin.ensures.crash honest empty))

pub returns-in_err-copy-clause-crash : goal.returns-in_err-copy-clause-crash
returns-in_err-copy-clause-crash g c = λ honest_from honest empty.
    (let m = g.E.Disk.meaning c.args.to.now in
    let a = g.E.Disk.meaning c.begin.new.to in
    let b = g.E.Disk.meaning c.copy.new.to in
    let capacity = c.args.journal.now.capacity in
    let source = (g.D.Disk.meaning c.args.from.now).state.reads in
    let recs = records_in c.args.journal.now.size source in
    let honest_a = c.begin.ensures.kept.honest ∙ honest in
    let head : a.state.reads ≡ unmarked_head capacity = told c.begin.result c.is_err.result c.is_err.ensures.value c.if-is_err.false c.begin.ensures.reads honest empty ∙ ap (λ n. unmarked_head n) c.capacity.ensures in
    let each = each_unmarked a capacity (told c.begin.result c.is_err.result c.is_err.ensures.value c.if-is_err.false c.begin.ensures.settled honest) head in
    let before = short_unfinished (copied capacity recs) m a (c.begin.ensures.crash honest empty) in
    leaves_each (IsUnfinished (copied capacity recs)) m a b c.begin.ensures.kept before.since (unmarked_unfinished (copied capacity recs) a b (c.copy.ensures.crash honest_a each)))

pub returns-in-Ok-clause-file : goal.returns-in-Ok-clause-file
returns-in-Ok-clause-file g c = λ honest_from honest empty.
    (let m = g.E.Disk.meaning c.args.to.now in
    let a = g.E.Disk.meaning c.begin.new.to in
    let b = g.E.Disk.meaning c.copy.new.to in
    let capacity = c.args.journal.now.capacity in
    let source = (g.D.Disk.meaning c.args.from.now).state.reads in
    let recs = records_in c.args.journal.now.size source in
    let honest_a = c.begin.ensures.kept.honest ∙ honest in
    let head : a.state.reads ≡ unmarked_head capacity = told c.begin.result c.is_err.result c.is_err.ensures.value c.if-is_err.false c.begin.ensures.reads honest empty ∙ ap (λ n. unmarked_head n) c.capacity.ensures in
    let each = each_unmarked a capacity (told c.begin.result c.is_err.result c.is_err.ensures.value c.if-is_err.false c.begin.ensures.settled honest) head in
    let honest_b = c.in_ok-copy.ensures.kept.honest ∙ honest_a in
    let is : b.state.reads ≡ unmarked_head capacity ++ recs = c.in_ok-copy.ensures.reads honest_from honest_a (ap (λ xs. length xs) head) ∙ ap (λ f. f ++ recs) head in
    let end = copied_len capacity c.args.journal.now.size source b.state.reads c.requires.some (c.requires.long source ((g.met.D.Disk.sound c.args.from.now).reads honest_from)) is ∙ ap (λ n. n - 1) (sym c.size.ensures.size) in
    c.in-Ok.ensures.file honest_b capacity recs is end)

pub returns-in-Ok-clause-crash : goal.returns-in-Ok-clause-crash
returns-in-Ok-clause-crash g c = λ honest_from honest empty.
    (let m = g.E.Disk.meaning c.args.to.now in
    let a = g.E.Disk.meaning c.begin.new.to in
    let b = g.E.Disk.meaning c.copy.new.to in
    let capacity = c.args.journal.now.capacity in
    let source = (g.D.Disk.meaning c.args.from.now).state.reads in
    let recs = records_in c.args.journal.now.size source in
    let honest_a = c.begin.ensures.kept.honest ∙ honest in
    let head : a.state.reads ≡ unmarked_head capacity = told c.begin.result c.is_err.result c.is_err.ensures.value c.if-is_err.false c.begin.ensures.reads honest empty ∙ ap (λ n. unmarked_head n) c.capacity.ensures in
    let each = each_unmarked a capacity (told c.begin.result c.is_err.result c.is_err.ensures.value c.if-is_err.false c.begin.ensures.settled honest) head in
    let before = short_unfinished (copied capacity recs) m a (c.begin.ensures.crash honest empty) in
    let honest_b = c.in_ok-copy.ensures.kept.honest ∙ honest_a in
    let is : b.state.reads ≡ unmarked_head capacity ++ recs = c.in_ok-copy.ensures.reads honest_from honest_a (ap (λ xs. length xs) head) ∙ ap (λ f. f ++ recs) head in
    let end = copied_len capacity c.args.journal.now.size source b.state.reads c.requires.some (c.requires.long source ((g.met.D.Disk.sound c.args.from.now).reads honest_from)) is ∙ ap (λ n. n - 1) (sym c.size.ensures.size) in
    let there = leaves_each (IsUnfinished (copied capacity recs)) m a b c.begin.ensures.kept before.since (unmarked_unfinished (copied capacity recs) a b (c.in_ok-copy.ensures.crash honest_a each)) in
    leaves_each (IsUnfinished (copied capacity recs)) m b (g.E.Disk.meaning c.finish.new.to) (kept_then m a b c.begin.ensures.kept c.in_ok-copy.ensures.kept) there.since
    (c.in-Ok.ensures.crash honest_b capacity recs is end (c.in_ok-copy.ensures.crash honest_a each).now))

pub returns-in-Err-clause-crash : goal.returns-in-Err-clause-crash
returns-in-Err-clause-crash g c = λ honest_from honest empty.
    (let m = g.E.Disk.meaning c.args.to.now in
    let a = g.E.Disk.meaning c.begin.new.to in
    let b = g.E.Disk.meaning c.copy.new.to in
    let capacity = c.args.journal.now.capacity in
    let source = (g.D.Disk.meaning c.args.from.now).state.reads in
    let recs = records_in c.args.journal.now.size source in
    let honest_a = c.begin.ensures.kept.honest ∙ honest in
    let head : a.state.reads ≡ unmarked_head capacity = told c.begin.result c.is_err.result c.is_err.ensures.value c.if-is_err.false c.begin.ensures.reads honest empty ∙ ap (λ n. unmarked_head n) c.capacity.ensures in
    let each = each_unmarked a capacity (told c.begin.result c.is_err.result c.is_err.ensures.value c.if-is_err.false c.begin.ensures.settled honest) head in
    let before = short_unfinished (copied capacity recs) m a (c.begin.ensures.crash honest empty) in
    let honest_b = c.in_ok-copy.ensures.kept.honest ∙ honest_a in
    let is : b.state.reads ≡ unmarked_head capacity ++ recs = c.in_ok-copy.ensures.reads honest_from honest_a (ap (λ xs. length xs) head) ∙ ap (λ f. f ++ recs) head in
    let end = copied_len capacity c.args.journal.now.size source b.state.reads c.requires.some (c.requires.long source ((g.met.D.Disk.sound c.args.from.now).reads honest_from)) is ∙ ap (λ n. n - 1) (sym c.size.ensures.size) in
    let there = leaves_each (IsUnfinished (copied capacity recs)) m a b c.begin.ensures.kept before.since (unmarked_unfinished (copied capacity recs) a b (c.in_ok-copy.ensures.crash honest_a each)) in
    leaves_each (IsUnfinished (copied capacity recs)) m b (g.E.Disk.meaning c.finish.new.to) (kept_then m a b c.begin.ensures.kept c.in_ok-copy.ensures.kept) there.since
    (c.in-Err.ensures.crash honest_b capacity recs is end (c.in_ok-copy.ensures.crash honest_a each).now))

pub returns-in-Ok-clause-kept : goal.returns-in-Ok-clause-kept
returns-in-Ok-clause-kept g c = kept_then _ (g.E.Disk.meaning c.copy.new.to) _ (kept_then _ (g.E.Disk.meaning c.begin.new.to) _ c.begin.ensures.kept c.in_ok-copy.ensures.kept) c.in-Ok.ensures.kept

pub returns-in-Err-clause-kept : goal.returns-in-Err-clause-kept
returns-in-Err-clause-kept g c = kept_then _ (g.E.Disk.meaning c.copy.new.to) _ (kept_then _ (g.E.Disk.meaning c.begin.new.to) _ c.begin.ensures.kept c.in_ok-copy.ensures.kept) c.in-Err.ensures.kept
