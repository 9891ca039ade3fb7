use Rattle.std.proofs.Common.{false, List, [], ◌∷◌, ◌++◌, refl, sym, ap, ◌∙◌, arith}
use mathlib.Core.Bool.{true≢false}
use Rattle.history_model.specs.History.{Fault, Entry, known}
use Rattle.reply_model.specs.After.{entry_by}
use Rattle.repo_state.specs.State.{State, opening_of}
use Rattle.repo_state.proofs.Chains.{leaves_same}
use Rattle.repo_state.proofs.Known.{manifests_same, manifests_grow_after}
use Rattle.repo_state.proofs.Looking.{read_as, read_for, single_honest, stands_inside, stored_inside, fill_inside, fill_apart, fill_waits, holds_read, holds_read_failed, ok_told}
use Rattle.repo_state.proofs.Sounds.{room_kept}
use Rattle.repo_state.proofs.Stepping.{looks_fault}
use Rattle.repo_state.proofs.state.RepoState.read_single.Goals as goal

pub fill-requires-clause-inside : goal.fill-requires-clause-inside
fill-requires-clause-inside g c = fill_inside c.self.invariant.0.0.1 (stands_inside c.self.view_is c.requires.place) _ (sym c.in-Ok.buffer.ok.0 ∙ c.in-Ok.ensures.len)

pub fill-requires-clause-apart : goal.fill-requires-clause-apart
fill-requires-clause-apart g c = fill_apart c.self.invariant.0.0.1 (stands_inside c.self.view_is c.requires.place) _ (sym c.in-Ok.buffer.ok.0 ∙ c.in-Ok.ensures.len)

pub invariant_of-self-in-Ok-fill : goal.invariant_of-self-in-Ok-fill
invariant_of-self-in-Ok-fill g c =
    let e = c.in-Ok-fill.ensures in (
      (
        holds_read c.self.inside.machine.header c.room.new.self.header c.self.inside.machine.history c.room.new.self.history c.self.inside.sealed c.self.inside.group_end c.self.inside.journal _ _ _ c.room.ensures.header c.room.ensures.history
            (read_as _ _ _ _ refl e.kept e.faults e.quiet e.looked (λ honest. e.leaves)) c.self.invariant.0.0,
        room_kept c.self.inside.machine.history c.room.new.self.history c.self.inside.sealed c.self.inside.machine.room c.room.new.self.room c.room.ensures.history c.room.ensures.keeps c.self.invariant.0.1,
      ),
      manifests_same _ _ _ _ _ c.room.ensures.header (ap known c.room.ensures.history) c.self.invariant.1,
    )

pub invariant_of-self-in-Err : goal.invariant_of-self-in-Err
invariant_of-self-in-Err g c =
    let e = c.in-Err.ensures in (
      (
        holds_read_failed c.self.inside.machine.header c.room.new.self.header c.fault.new.self.header c.self.inside.machine.history c.room.new.self.history c.fault.new.self.history c.self.inside.sealed c.args.who c.self.inside.group_end c.self.inside.journal _ _ _
            c.room.ensures.header c.fault.ensures.header c.room.ensures.history c.fault.ensures.history (read_as _ _ _ _ refl e.kept e.faults e.quiet e.looked (λ honest. e.leaves)) c.self.invariant.0.0,
        (λ up some. (let keeps = c.fault.ensures.keeps in let room = ok_told c.room.result (sym c.is_err.ensures.value ∙ c.if-is_err.false) c.room.ensures.room in omega arith)),
      ),
      manifests_grow_after _ _ _ _ _ _ _ _ c.room.ensures.header c.fault.ensures.header c.room.ensures.history c.fault.ensures.history c.fault.ensures.legal c.self.invariant.1,
    )

pub returns-in-Ok-fill-clause-ok : goal.returns-in-Ok-fill-clause-ok
returns-in-Ok-fill-clause-ok g c =
    let short = sym c.in-Ok.buffer.ok.0 ∙ c.in-Ok.ensures.len in
    let e = c.in-Ok-fill.ensures in
    rw (← c.self.view_is)
    (read_for c.self.inside.machine.header c.self.inside.machine.history c.self.inside.sealed c.self.inside.journal (g.D.Disk.meaning c.self.inside.disk) c.args.id c.args.place _ c.in-Ok-fill.bytes.items c.new.result.items c.self.invariant.0.0.0.legal c.self.invariant.0.0.1 (stored_inside c.self.view_is c.args.id c.requires.stored) (stands_inside c.self.view_is c.requires.place) short e.length c.new.ensures.items e.bytes e.waiting)

pub returns-in-Ok-fill-clause-sound : goal.returns-in-Ok-fill-clause-sound
returns-in-Ok-fill-clause-sound g c =
    let e = c.in-Ok-fill.ensures in
    (holds_read c.self.inside.machine.header c.room.new.self.header c.self.inside.machine.history c.room.new.self.history c.self.inside.sealed c.self.inside.group_end c.self.inside.journal _ _ _ c.room.ensures.header c.room.ensures.history
    (read_as _ _ _ _ refl e.kept e.faults e.quiet e.looked (λ honest. e.leaves)) c.self.invariant.0.0).0

pub returns-in-Ok-fill-clause-leaves_now : goal.returns-in-Ok-fill-clause-leaves_now
returns-in-Ok-fill-clause-leaves_now g c =
    let e = c.in-Ok-fill.ensures in
    (holds_read c.self.inside.machine.header c.room.new.self.header c.self.inside.machine.history c.room.new.self.history c.self.inside.sealed c.self.inside.group_end c.self.inside.journal _ _ _ c.room.ensures.header c.room.ensures.history
    (read_as _ _ _ _ refl e.kept e.faults e.quiet e.looked (λ honest. e.leaves)) c.self.invariant.0.0).1.left

pub returns-in-Ok-fill-clause-honest : goal.returns-in-Ok-fill-clause-honest
returns-in-Ok-fill-clause-honest g c =
    let short = sym c.in-Ok.buffer.ok.0 ∙ c.in-Ok.ensures.len in
    let e = c.in-Ok-fill.ensures in
    let s = c.self.inside in
    let m = g.D.Disk.meaning s.disk in
    let stands = stands_inside c.self.view_is c.requires.place in
    let legal = c.self.invariant.0.0.0.legal in
    rw (← c.self.view_is)
    (single_honest (opening_of s.machine.header s.journal.opening (g.D.Disk.meaning s.first.value)) s.machine.history s.sealed m c.args.id c.args.place c.in-Ok-fill.bytes.items c.new.result.items c.self.invariant.0.0.0 (g.met.D.Disk.sound s.disk) stands
    (read_for s.machine.header s.machine.history s.sealed s.journal m c.args.id c.args.place _ c.in-Ok-fill.bytes.items c.new.result.items legal c.self.invariant.0.0.1 (stored_inside c.self.view_is c.args.id c.requires.stored) stands short e.length c.new.ensures.items e.bytes e.waiting))

pub returns-in-Ok-fill-clause-waiting : goal.returns-in-Ok-fill-clause-waiting
returns-in-Ok-fill-clause-waiting g c =
    rw (← c.self.view_is) (λ unsealed. c.in-Ok-fill.ensures.still (fill_waits c.self.invariant.0.0.1 (stands_inside c.self.view_is c.requires.place) _ (sym c.in-Ok.buffer.ok.0 ∙ c.in-Ok.ensures.len) unsealed))

pub returns-in-Err-clause-waiting : goal.returns-in-Err-clause-waiting
returns-in-Err-clause-waiting g c =
    rw (← c.self.view_is) (λ unsealed. c.in-Err.ensures.still (fill_waits c.self.invariant.0.0.1 (stands_inside c.self.view_is c.requires.place) _ (sym c.in-Ok.buffer.ok.0 ∙ c.in-Ok.ensures.len) unsealed))

pub returns-in-Err-clause-waits : goal.returns-in-Err-clause-waits
returns-in-Err-clause-waits g c =
    rw (← c.self.view_is) (λ unsealed. absurd (true≢false (c.in-Err.ensures.there (fill_waits c.self.invariant.0.0.1 (stands_inside c.self.view_is c.requires.place) _ (sym c.in-Ok.buffer.ok.0 ∙ c.in-Ok.ensures.len) unsealed))))

pub returns-in-Err-clause-sound : goal.returns-in-Err-clause-sound
returns-in-Err-clause-sound g c =
    let e = c.in-Err.ensures in
    (holds_read_failed c.self.inside.machine.header c.room.new.self.header c.fault.new.self.header c.self.inside.machine.history c.room.new.self.history c.fault.new.self.history c.self.inside.sealed c.args.who c.self.inside.group_end c.self.inside.journal _ _ _
    c.room.ensures.header c.fault.ensures.header c.room.ensures.history c.fault.ensures.history (read_as _ _ _ _ refl e.kept e.faults e.quiet e.looked (λ honest. e.leaves)) c.self.invariant.0.0).0

pub returns-in-Err-clause-leaves_now : goal.returns-in-Err-clause-leaves_now
returns-in-Err-clause-leaves_now g c =
    let e = c.in-Err.ensures in
    (holds_read_failed c.self.inside.machine.header c.room.new.self.header c.fault.new.self.header c.self.inside.machine.history c.room.new.self.history c.fault.new.self.history c.self.inside.sealed c.args.who c.self.inside.group_end c.self.inside.journal _ _ _
    c.room.ensures.header c.fault.ensures.header c.room.ensures.history c.fault.ensures.history (read_as _ _ _ _ refl e.kept e.faults e.quiet e.looked (λ honest. e.leaves)) c.self.invariant.0.0).1.left

pub returns-in-Err-clause-core : goal.returns-in-Err-clause-core
returns-in-Err-clause-core g c =
    rw (← c.self.view_is)
    (looks_fault c.self.inside.machine.header c.self.inside.machine.history c.fault.new.self.history c.self.inside.sealed c.args.who (c.fault.ensures.history ∙ ap (λ (h : List Entry). h ++ entry_by c.args.who (Fault false) ∷ []) c.room.ensures.history))

-- ---- memory runs out

pub returns-then-is_err-clause-leaves : goal.returns-then-is_err-clause-leaves
returns-then-is_err-clause-leaves g c = λ honest. leaves_same _ _ (ap (λ (s : State). s.disk) c.self.view_is)

pub returns-in_default-clause-leaves : goal.returns-in_default-clause-leaves
returns-in_default-clause-leaves g c = λ honest. leaves_same _ _ (ap (λ (s : State). s.disk) c.self.view_is)
