use Rattle.std.proofs.Common.{◌≡◌, false, true, List, [], ◌∷◌, ◌++◌, length, refl, sym, ap, subst, ◌∙◌, arith}
use Rattle.std.specs.List.{All}
use Rattle.history_model.specs.History.{Fault, Entry, is_whole, known, whole_parts}
use Rattle.reply_model.specs.After.{entry_by, only_fault}
use Rattle.repo_state.specs.Filling.{AreFilled, IsPartWithin}
use Rattle.repo_state.specs.Joining.{AreStanding, ids_of}
use Rattle.repo_state.specs.State.{State}
use Rattle.repo_state.proofs.Chains.{leaves_same}
use Rattle.repo_state.proofs.Joins.{all_within, parts_true, read_parts, whole_stored}
use Rattle.repo_state.proofs.Known.{manifests_same, manifests_grow_after}
use Rattle.repo_state.proofs.Looking.{read_as, holds_read, holds_read_failed, ok_told}
use Rattle.repo_state.proofs.ReadContents.{taken}
use Rattle.repo_state.proofs.Sounds.{room_kept}
use Rattle.repo_state.proofs.Stepping.{looks_fault}
use Rattle.repo_state.proofs.state.RepoState.read_joined.Goals as goal

pub fill_parts-requires-clause-within : goal.fill_parts-requires-clause-within
fill_parts-requires-clause-within g c =
    subst (λ ps. All (IsPartWithin c.self.inside.journal) ps) (sym c.as_slice-2.ensures.value)
    (all_within c.self.invariant.0.0.1 c.args.parts.items (subst (λ (s : State). AreStanding s.history c.args.parts.items) (sym c.self.view_is) c.requires.places))

pub invariant_of-self-in-Ok-fill_parts : goal.invariant_of-self-in-Ok-fill_parts
invariant_of-self-in-Ok-fill_parts g c =
    let e = c.in-Ok-fill_parts.ensures in (
      (
        holds_read c.self.inside.machine.header c.room.new.self.header c.self.inside.machine.history c.room.new.self.history c.self.inside.sealed c.self.inside.group_end c.self.inside.journal _ _ _ c.room.ensures.header c.room.ensures.history
            (read_as _ _ _ _ refl e.kept e.faults e.quiet e.looked e.leaves) c.self.invariant.0.0,
        room_kept c.self.inside.machine.history c.room.new.self.history c.self.inside.sealed c.self.inside.machine.room c.room.new.self.room c.room.ensures.history c.room.ensures.keeps c.self.invariant.0.1,
      ),
      manifests_same _ _ _ _ _ c.room.ensures.header (ap known c.room.ensures.history) c.self.invariant.1,
    )

pub invariant_of-self-in-Err-fill_parts : goal.invariant_of-self-in-Err-fill_parts
invariant_of-self-in-Err-fill_parts g c =
    let e = c.in-Err.ensures in (
      (
        holds_read_failed c.self.inside.machine.header c.room.new.self.header c.fault.new.self.header c.self.inside.machine.history c.room.new.self.history c.fault.new.self.history c.self.inside.sealed c.args.who c.self.inside.group_end c.self.inside.journal _ _ _
            c.room.ensures.header c.fault.ensures.header c.room.ensures.history c.fault.ensures.history (read_as _ _ _ _ refl e.kept e.faults e.quiet e.looked e.leaves) c.self.invariant.0.0,
        (λ up some. (let keeps = c.fault.ensures.keeps in let room = ok_told c.room.result (sym c.is_err.ensures.value ∙ c.if-is_err.false) c.room.ensures.room in omega arith)),
      ),
      manifests_grow_after _ _ _ _ _ _ _ _ c.room.ensures.header c.fault.ensures.header c.room.ensures.history c.fault.ensures.history c.fault.ensures.legal c.self.invariant.1,
    )

pub returns-in-Ok-fill_parts-clause-ok : goal.returns-in-Ok-fill_parts-clause-ok
returns-in-Ok-fill_parts-clause-ok g c =
    let s = c.self.inside in
    let m = g.D.Disk.meaning s.disk in
    let same = taken c.in-Ok.bytes.len c.fill_parts.new.buffer c.in-Ok.bytes.items (c.fill_parts.auto.buffer ∙ ap length c.deref_mut.ensures.value ∙ sym c.in-Ok.bytes.ok.0) in
    let filled = subst (λ ps. AreFilled s.journal m ps c.fill_parts.new.buffer) c.as_slice-2.ensures.value c.in-Ok-fill_parts.ensures.filled in
    let is = subst (λ (s : State). is_whole s.history c.args.id ≡ true) (sym c.self.view_is) c.requires.whole in
    let ids = subst (λ (s : State). ids_of c.args.parts.items ≡ whole_parts s.history c.args.id) (sym c.self.view_is) c.requires.parts in
    let places = subst (λ (s : State). AreStanding s.history c.args.parts.items) (sym c.self.view_is) c.requires.places in
    rw (← c.self.view_is, same)
    (read_parts c.self.invariant.0.0.1 c.self.invariant.0.0.0.legal (g.met.D.Disk.sound s.disk) c.args.id c.args.parts.items c.fill_parts.new.buffer is ids places filled)

pub returns-in-Ok-fill_parts-clause-honest : goal.returns-in-Ok-fill_parts-clause-honest
returns-in-Ok-fill_parts-clause-honest g c =
    let s = c.self.inside in
    let m = g.D.Disk.meaning s.disk in
    let same = taken c.in-Ok.bytes.len c.fill_parts.new.buffer c.in-Ok.bytes.items (c.fill_parts.auto.buffer ∙ ap length c.deref_mut.ensures.value ∙ sym c.in-Ok.bytes.ok.0) in
    let filled = subst (λ ps. AreFilled s.journal m ps c.fill_parts.new.buffer) c.as_slice-2.ensures.value c.in-Ok-fill_parts.ensures.filled in
    let is = subst (λ (s : State). is_whole s.history c.args.id ≡ true) (sym c.self.view_is) c.requires.whole in
    let ids = subst (λ (s : State). ids_of c.args.parts.items ≡ whole_parts s.history c.args.id) (sym c.self.view_is) c.requires.parts in
    let places = subst (λ (s : State). AreStanding s.history c.args.parts.items) (sym c.self.view_is) c.requires.places in
    rw (← c.self.view_is, same)
    (λ honest. parts_true c.self.invariant.0.0.1 c.self.invariant.0.0.0.legal (g.met.D.Disk.sound s.disk) honest c.args.id c.args.parts.items c.fill_parts.new.buffer is ids places filled)

pub returns-in-Ok-fill_parts-clause-sound : goal.returns-in-Ok-fill_parts-clause-sound
returns-in-Ok-fill_parts-clause-sound g c = (invariant_of-self-in-Ok-fill_parts g c).0.0.0

pub returns-in-Ok-fill_parts-clause-leaves_now : goal.returns-in-Ok-fill_parts-clause-leaves_now
returns-in-Ok-fill_parts-clause-leaves_now g c = (invariant_of-self-in-Ok-fill_parts g c).0.0.1.left

pub returns-in-Err-clause-sound : goal.returns-in-Err-clause-sound
returns-in-Err-clause-sound g c = (invariant_of-self-in-Err-fill_parts g c).0.0.0

pub returns-in-Err-clause-leaves_now : goal.returns-in-Err-clause-leaves_now
returns-in-Err-clause-leaves_now g c = (invariant_of-self-in-Err-fill_parts g c).0.0.1.left

pub returns-in-Err-clause-err : goal.returns-in-Err-clause-err
returns-in-Err-clause-err g c =
    let s = c.self.inside in
    let is = subst (λ (s : State). is_whole s.history c.args.id ≡ true) (sym c.self.view_is) c.requires.whole in
    rw (← c.self.view_is)
    (record {
      made = only_fault false;
      answers = (refl, whole_stored s.machine.header s.machine.history c.args.id c.self.invariant.0.0.0.legal is);
      new_is = c.fault.ensures.history ∙ ap (λ (h : List Entry). h ++ entry_by c.args.who (Fault false) ∷ []) c.room.ensures.history;
    })

pub returns-in-Err-clause-core : goal.returns-in-Err-clause-core
returns-in-Err-clause-core g c =
    rw (← c.self.view_is)
    (looks_fault c.self.inside.machine.header c.self.inside.machine.history c.fault.new.self.history c.self.inside.sealed c.args.who (c.fault.ensures.history ∙ ap (λ (h : List Entry). h ++ entry_by c.args.who (Fault false) ∷ []) c.room.ensures.history))

-- ---- memory runs out

pub returns-then-is_err-clause-leaves : goal.returns-then-is_err-clause-leaves
returns-then-is_err-clause-leaves g c = λ honest. leaves_same _ _ (ap (λ (s : State). s.disk) c.self.view_is)

pub returns-in_default-clause-leaves : goal.returns-in_default-clause-leaves
returns-in_default-clause-leaves g c = λ honest. leaves_same _ _ (ap (λ (s : State). s.disk) c.self.view_is)

pub returns-in_default-vec-clause-leaves : goal.returns-in_default-vec-clause-leaves
returns-in_default-vec-clause-leaves g c = λ honest. leaves_same _ _ (ap (λ (s : State). s.disk) c.self.view_is)
