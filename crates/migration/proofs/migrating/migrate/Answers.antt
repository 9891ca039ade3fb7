use Rattle.std.proofs.Common.{◌≡◌, ℕ, List, [], ◌∷◌, length, refl, ap, sym, subst, ◌∙◌, arith}
use Rattle.std.specs.Prelude.{IsTrue}
use Rattle.std.specs.Option.{ForSome}
use Rattle.std.proofs.lemmas.Result.{on_ok_weaker}
use Rattle.disk_model.specs.Meaning.{Meaning, IsSound}
use Rattle.disk_model.specs.Calls.{Looked}
use Rattle.history_model.specs.Journal.{Stands, size}
use Rattle.migration.specs.Copying.{IsUnfinished, copied, in_second, records_in}
use Rattle.migration.proofs.Copies.{copy_stands}
use Rattle.migration.proofs.Writes.{leaves_each}
use Rattle.migration.proofs.Calls.{looked_short, short_unfinished}
use Rattle.migration.proofs.migrating.migrate.Goals as goal

no_bytes : (xs : List ℕ) → 0 ≡ length xs → xs ≡ []
no_bytes [] none = refl
no_bytes (x ∷ xs) none = absurd (omega arith)

-- a file of no bytes
empty_file : (m a : Meaning) (size : ℕ) → IsSound m → IsTrue m.honest → ForSome m.reads (λ file. size ≡ length file) → size ≡ 0 → Looked m a → a.state.reads ≡ []
empty_file m a size sound honest told zero looked =
    ap (λ d. d.reads) (looked honest) ∙ no_bytes m.state.reads (let len = told m.state.reads (sound.reads honest) in omega arith)

pub returns-in-Err-clause-crash : goal.returns-in-Err-clause-crash
returns-in-Err-clause-crash g c = λ honest_from honest empty.
    (let m = g.E.Disk.meaning c.args.to.now in
    let a = g.E.Disk.meaning c.size.new.self in
    short_unfinished (copied c.args.journal.now.capacity (records_in c.args.journal.now.size (g.D.Disk.meaning c.args.from.now).state.reads)) m a (looked_short m a honest empty c.in-Err.ensures.looked c.in-Err.ensures.time))

pub returns-clause-file : goal.returns-clause-file
returns-clause-file g c = on_ok_weaker c.fill.result (λ file honest_from honest. (
    let none = empty_file (g.E.Disk.meaning c.args.to.now) (g.E.Disk.meaning c.size.new.self) _ (g.met.E.Disk.sound c.args.to.now) honest c.in-Ok-eq0.ensures.size c.in-Ok-eq0.field-0-test c.in-Ok-eq0.ensures.looked in
    file honest_from (c.in-Ok-eq0.ensures.kept.honest ∙ honest) none)) c.fill.ensures.file

pub returns-clause-stands : goal.returns-clause-stands
returns-clause-stands g c = on_ok_weaker c.fill.result (λ file honest_from honest header h capacity_is size_is stands image is. (
    let source = (g.D.Disk.meaning c.args.from.now).state.reads in
    let none = empty_file (g.E.Disk.meaning c.args.to.now) (g.E.Disk.meaning c.size.new.self) _ (g.met.E.Disk.sound c.args.to.now) honest c.in-Ok-eq0.ensures.size c.in-Ok-eq0.field-0-test c.in-Ok-eq0.ensures.looked in
    let told = file honest_from (c.in-Ok-eq0.ensures.kept.honest ∙ honest) none image is in
    let same : image ≡ copied header.capacity (records_in (size h) source) = told ∙ ap (λ n. copied n (records_in c.args.journal.now.size source)) (sym capacity_is) ∙ ap (λ n. copied header.capacity (records_in n source)) (sym size_is) in
    subst (λ xs. Stands (in_second header.capacity) xs h) (sym same) (copy_stands header source h stands))) c.fill.ensures.file

pub returns-clause-crash : goal.returns-clause-crash
returns-clause-crash g c = λ honest_from honest empty.
    (let m = g.E.Disk.meaning c.args.to.now in
    let a = g.E.Disk.meaning c.size.new.self in
    let file = copied c.args.journal.now.capacity (records_in c.args.journal.now.size (g.D.Disk.meaning c.args.from.now).state.reads) in
    let looked = c.in-Ok-eq0.ensures.looked in
    leaves_each (IsUnfinished file) m a (g.E.Disk.meaning c.fill.new.to) c.in-Ok-eq0.ensures.kept (short_unfinished file m a (looked_short m a honest empty looked c.in-Ok-eq0.ensures.time)).since
    (c.fill.ensures.crash honest_from (c.in-Ok-eq0.ensures.kept.honest ∙ honest) (ap (λ d. d.reads) (looked honest) ∙ empty)))
