use Rattle.std.proofs.Common.{◌+◌, true, false, [], ◌∷◌, ap, ◌∙◌, arith}
use Rattle.disk_model.specs.Images.{write_at}
use Rattle.changeset_model.specs.Version.{Second}
use Rattle.history_model.specs.Journal.{mark}
use Rattle.blob_disk.proofs.Clients.{kept_none, kept_then}
use Rattle.repo_journal.proofs.Seals.{sync_settles}
use Rattle.migration.specs.Copying.{IsUnfinished, IsUnmarked, copied}
use Rattle.migration.proofs.Writes.{leaves_none}
use Rattle.migration.proofs.Calls.{behind_head, gate_on_disk, marked, synced, unmarked_unfinished}
use Rattle.migration.proofs.copying.finish.Goals as goal

pub returns-in_err-sync-clause-kept : goal.returns-in_err-sync-clause-kept
returns-in_err-sync-clause-kept g c = kept_then _ (g.E.Disk.meaning c.write_at.new.self) _ c.in_ok-write_at.ensures.kept c.in_err-sync.ensures.kept

pub returns-in_err-write_at-2-clause-kept : goal.returns-in_err-write_at-2-clause-kept
returns-in_err-write_at-2-clause-kept g c = kept_then _ (g.E.Disk.meaning c.sync.new.self) _ (kept_then _ (g.E.Disk.meaning c.write_at.new.self) _ c.in_ok-write_at.ensures.kept c.in_ok-sync.ensures.kept) c.in_err-write_at-2.ensures.kept

pub returns-in_err-sync-2-clause-kept : goal.returns-in_err-sync-2-clause-kept
returns-in_err-sync-2-clause-kept g c = kept_then _ (g.E.Disk.meaning c.write_at-2.new.self) _ (kept_then _ (g.E.Disk.meaning c.sync.new.self) _ (kept_then _ (g.E.Disk.meaning c.write_at.new.self) _ c.in_ok-write_at.ensures.kept c.in_ok-sync.ensures.kept) c.in_ok-write_at-2.ensures.kept) c.in_err-sync-2.ensures.kept

pub returns-clause-kept : goal.returns-clause-kept
returns-clause-kept g c = kept_then _ (g.E.Disk.meaning c.write_at-2.new.self) _ (kept_then _ (g.E.Disk.meaning c.sync.new.self) _ (kept_then _ (g.E.Disk.meaning c.write_at.new.self) _ c.in_ok-write_at.ensures.kept c.in_ok-sync.ensures.kept) c.in_ok-write_at-2.ensures.kept) c.in_ok-sync-2.ensures.kept

pub returns-in_err-write_at-clause-crash : goal.returns-in_err-write_at-clause-crash
returns-in_err-write_at-clause-crash g c = λ honest capacity recs is len each.
    (let m = g.E.Disk.meaning c.args.to.now in
    let a = g.E.Disk.meaning c.write_at.new.self in
    unmarked_unfinished (copied capacity recs) m a (behind_head m m a c.args.gate (0 ∷ []) false (leaves_none IsUnmarked m each) (kept_none m) (g.met.E.Disk.sound c.args.to.now) honest (omega (arith, c.requires.some)) c.in_err-write_at.ensures.did c.in_err-write_at.ensures.time))

pub returns-in_err-sync-clause-crash : goal.returns-in_err-sync-clause-crash
returns-in_err-sync-clause-crash g c = λ honest capacity recs is len each.
    (let m = g.E.Disk.meaning c.args.to.now in
    let a = g.E.Disk.meaning c.write_at.new.self in
    let b = g.E.Disk.meaning c.sync.new.self in
    let honest_a = c.in_ok-write_at.ensures.kept.honest ∙ honest in
    let gate = behind_head m m a c.args.gate (0 ∷ []) true (leaves_none IsUnmarked m each) (kept_none m) (g.met.E.Disk.sound c.args.to.now) honest (omega (arith, c.requires.some)) c.in_ok-write_at.ensures.did c.in_ok-write_at.ensures.time in
    unmarked_unfinished (copied capacity recs) m b (synced IsUnmarked m a b false gate c.in_ok-write_at.ensures.kept (g.met.E.Disk.sound c.write_at.new.self) honest_a c.in_err-sync.ensures.did c.in_err-sync.ensures.time))

pub returns-in_err-write_at-2-clause-crash : goal.returns-in_err-write_at-2-clause-crash
returns-in_err-write_at-2-clause-crash g c = λ honest capacity recs is len each.
    (let m = g.E.Disk.meaning c.args.to.now in
    let a = g.E.Disk.meaning c.write_at.new.self in
    let b = g.E.Disk.meaning c.sync.new.self in
    let d = g.E.Disk.meaning c.write_at-2.new.self in
    let honest_a = c.in_ok-write_at.ensures.kept.honest ∙ honest in
    let honest_b = c.in_ok-sync.ensures.kept.honest ∙ honest_a in
    let kept_b = kept_then m a b c.in_ok-write_at.ensures.kept c.in_ok-sync.ensures.kept in
    let gate = behind_head m m a c.args.gate (0 ∷ []) true (leaves_none IsUnmarked m each) (kept_none m) (g.met.E.Disk.sound c.args.to.now) honest (omega (arith, c.requires.some)) c.in_ok-write_at.ensures.did c.in_ok-write_at.ensures.time in
    let there = synced IsUnmarked m a b true gate c.in_ok-write_at.ensures.kept (g.met.E.Disk.sound c.write_at.new.self) honest_a c.in_ok-sync.ensures.did c.in_ok-sync.ensures.time in
    marked capacity recs m b d false there kept_b (g.met.E.Disk.sound c.sync.new.self) honest_b (sync_settles a b honest_a c.in_ok-sync.ensures.did) (gate_on_disk m a b capacity c.args.gate recs honest honest_a is len c.in_ok-write_at.ensures.did c.in_ok-sync.ensures.did) c.in_err-write_at-2.ensures.did c.in_err-write_at-2.ensures.time)

pub returns-in_err-sync-2-clause-crash : goal.returns-in_err-sync-2-clause-crash
returns-in_err-sync-2-clause-crash g c = λ honest capacity recs is len each.
    (let m = g.E.Disk.meaning c.args.to.now in
    let a = g.E.Disk.meaning c.write_at.new.self in
    let b = g.E.Disk.meaning c.sync.new.self in
    let d = g.E.Disk.meaning c.write_at-2.new.self in
    let e = g.E.Disk.meaning c.sync-2.new.self in
    let honest_a = c.in_ok-write_at.ensures.kept.honest ∙ honest in
    let honest_b = c.in_ok-sync.ensures.kept.honest ∙ honest_a in
    let kept_b = kept_then m a b c.in_ok-write_at.ensures.kept c.in_ok-sync.ensures.kept in
    let gate = behind_head m m a c.args.gate (0 ∷ []) true (leaves_none IsUnmarked m each) (kept_none m) (g.met.E.Disk.sound c.args.to.now) honest (omega (arith, c.requires.some)) c.in_ok-write_at.ensures.did c.in_ok-write_at.ensures.time in
    let there = synced IsUnmarked m a b true gate c.in_ok-write_at.ensures.kept (g.met.E.Disk.sound c.write_at.new.self) honest_a c.in_ok-sync.ensures.did c.in_ok-sync.ensures.time in
    let head = marked capacity recs m b d true there kept_b (g.met.E.Disk.sound c.sync.new.self) honest_b (sync_settles a b honest_a c.in_ok-sync.ensures.did) (gate_on_disk m a b capacity c.args.gate recs honest honest_a is len c.in_ok-write_at.ensures.did c.in_ok-sync.ensures.did) c.in_ok-write_at-2.ensures.did c.in_ok-write_at-2.ensures.time in
    synced (IsUnfinished (copied capacity recs)) m d e false head (kept_then m b d kept_b c.in_ok-write_at-2.ensures.kept) (g.met.E.Disk.sound c.write_at-2.new.self) (c.in_ok-write_at-2.ensures.kept.honest ∙ honest_b) c.in_err-sync-2.ensures.did c.in_err-sync-2.ensures.time)

pub returns-clause-crash : goal.returns-clause-crash
returns-clause-crash g c = λ honest capacity recs is len each.
    (let m = g.E.Disk.meaning c.args.to.now in
    let a = g.E.Disk.meaning c.write_at.new.self in
    let b = g.E.Disk.meaning c.sync.new.self in
    let d = g.E.Disk.meaning c.write_at-2.new.self in
    let e = g.E.Disk.meaning c.sync-2.new.self in
    let honest_a = c.in_ok-write_at.ensures.kept.honest ∙ honest in
    let honest_b = c.in_ok-sync.ensures.kept.honest ∙ honest_a in
    let kept_b = kept_then m a b c.in_ok-write_at.ensures.kept c.in_ok-sync.ensures.kept in
    let gate = behind_head m m a c.args.gate (0 ∷ []) true (leaves_none IsUnmarked m each) (kept_none m) (g.met.E.Disk.sound c.args.to.now) honest (omega (arith, c.requires.some)) c.in_ok-write_at.ensures.did c.in_ok-write_at.ensures.time in
    let there = synced IsUnmarked m a b true gate c.in_ok-write_at.ensures.kept (g.met.E.Disk.sound c.write_at.new.self) honest_a c.in_ok-sync.ensures.did c.in_ok-sync.ensures.time in
    let head = marked capacity recs m b d true there kept_b (g.met.E.Disk.sound c.sync.new.self) honest_b (sync_settles a b honest_a c.in_ok-sync.ensures.did) (gate_on_disk m a b capacity c.args.gate recs honest honest_a is len c.in_ok-write_at.ensures.did c.in_ok-sync.ensures.did) c.in_ok-write_at-2.ensures.did c.in_ok-write_at-2.ensures.time in
    synced (IsUnfinished (copied capacity recs)) m d e true head (kept_then m b d kept_b c.in_ok-write_at-2.ensures.kept) (g.met.E.Disk.sound c.write_at-2.new.self) (c.in_ok-write_at-2.ensures.kept.honest ∙ honest_b) c.in_ok-sync-2.ensures.did c.in_ok-sync-2.ensures.time)

pub returns-clause-long : goal.returns-clause-long
returns-clause-long g c =
    c.in_ok-sync-2.ensures.kept.no_shorter (c.args.gate + 1) (c.in_ok-write_at-2.ensures.kept.no_shorter (c.args.gate + 1) (c.in_ok-sync.ensures.kept.no_shorter (c.args.gate + 1) c.in_ok-write_at.ensures.long))

pub returns-clause-file : goal.returns-clause-file
returns-clause-file g c = λ honest capacity recs is len image h.
    (let honest_a = c.in_ok-write_at.ensures.kept.honest ∙ honest in
    let honest_b = c.in_ok-sync.ensures.kept.honest ∙ honest_a in
    let honest_d = c.in_ok-write_at-2.ensures.kept.honest ∙ honest_b in
    sync_settles (g.E.Disk.meaning c.write_at-2.new.self) (g.E.Disk.meaning c.sync-2.new.self) honest_d c.in_ok-sync-2.ensures.did image h
    ∙ (c.in_ok-sync-2.ensures.did honest_d).most.reads
    ∙ (c.in_ok-write_at-2.ensures.did honest_b).most.reads
    ∙ ap (λ f. write_at 0 (mark Second) f) (gate_on_disk (g.E.Disk.meaning c.args.to.now) (g.E.Disk.meaning c.write_at.new.self) (g.E.Disk.meaning c.sync.new.self) capacity c.args.gate recs honest honest_a is len c.in_ok-write_at.ensures.did c.in_ok-sync.ensures.did))
