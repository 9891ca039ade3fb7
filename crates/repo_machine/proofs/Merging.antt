-- What is found of a merge.
--     left_alone      a changeset with one parent at most leaves nothing
--     left_stays      what one leaves stays as the history grows
--     found_ready      what the call needs is what is needed of what was made ready for it
--     wanted_of      what is to be found
use Rattle.std.proofs.Common.{◌≡◌, ◌≤◌, true, List, [], ◌∷◌, ◌++◌, length, refl, sym, subst, ◌∙◌, arith}
use Rattle.std.specs.Prelude.{Option, None, Ok}
use Rattle.std.specs.Arc.{arc_value}
use Rattle.std.specs.List.{AllByRecursion}
use mathlib.Core.List.{IsPrefix}
use Rattle.byte_fields.specs.Bytes.{Id}
use Rattle.changeset_model.specs.Path.{Path}
use Rattle.changeset_model.specs.Changeset.{Changeset}
use Rattle.changeset_model.specs.Decoding.{decoded}
use Rattle.history_model.specs.History.{Entry, Known, known, is_known}
use Rattle.history_model.specs.Journal.{Header}
use Rattle.history_model.specs.Merge.{unresolved}
use Rattle.history_model.specs.Tree.{files_in}
use Rattle.reply_model.specs.Reply as reply
use Rattle.reply_model.specs.Reply.{Ask, unresolved_of}
use Rattle.reply_model.specs.After.{Call, Asks, Joins, Looks, Derives}
use Rattle.reply_model.proofs.Lines.{past_grows}
use Rattle.repo_machine.specs.declared.found.Found.{Found}
use Rattle.repo_machine.specs.declared.found.Found.TheVariants as found
use Rattle.repo_machine.specs.declared.prepared.FramedChangeset.{FramedChangeset}
use Rattle.repo_machine.specs.declared.prepared.Prepared.{Prepared}
use Rattle.repo_machine.specs.declared.prepared.Ready.{Ready}
use Rattle.repo_machine.specs.declared.prepared.Ready.TheVariants as ready
use Rattle.repo_machine.specs.declared.prepared.Wanted.{Wanted}
use Rattle.repo_machine.specs.declared.prepared.Wanted.TheVariants as wanted
use Rattle.repo_machine.specs.Prepared.{IsReadyAsk, IsReadyTo, asked_by}
use Rattle.repo_machine.specs.Found.{left_of, IsLeft, IsFoundAsk, IsFoundFor, IsFoundOf, IsFoundReady, IsNothing, IsWantedOf, IsWantedBy, IsWanted}

-- ---- what a changeset leaves

alone_by : (ks : List Known) (c : Changeset) (ps : List Id) → length ps ≤ 1 → None ≡ unresolved_of ks c ps
alone_by ks c [] few = refl
alone_by ks c (p ∷ []) few = refl
alone_by ks c (p ∷ q ∷ ps) few = absurd (omega arith)

pub left_alone : (h : List Entry) (c : Changeset) → length c.parents ≤ 1 → IsLeft h c None
left_alone h c few = λ all. alone_by (known h) c c.parents few

grows : (h g : List Entry) (c : Changeset) (ps : List Id) → AllByRecursion (λ p. is_known (known h) p ≡ true) ps → unresolved_of (known h) c ps ≡ unresolved_of (known (h ++ g)) c ps
grows h g c [] all = refl
grows h g c (p ∷ []) all = refl
grows h g c (p ∷ q ∷ ps) all = (λ i. unresolved c (files_in (sym (past_grows h g p all.0) i)) (files_in (sym (past_grows h g q all.1.0) i)))

pub left_stays : (h g : List Entry) (c : Changeset) (path : Option Path) → IsPrefix h g → AllByRecursion (λ p. is_known (known h) p ≡ true) c.parents → IsLeft h c path → IsLeft g c path
left_stays h g c path begins all left = subst (λ g. IsLeft g c path) begins.1 (λ later. left all ∙ grows h begins.0 c c.parents all)

-- ---- what was made ready

found_asked : (h : List Entry) (ask : Ask) (r : Ready) (f : Found) → IsReadyAsk ask r → IsFoundAsk h ask f → IsFoundOf h r f
found_asked h ask (ready.Refused refusal) f is found = tt
found_asked h ask (ready.Content id frame) f is found = tt
found_asked h ask (ready.Policy read) f is found = tt
found_asked h ask ready.Asked f is found = tt
found_asked h (reply.PutContent bytes) (ready.Changeset framed) f is found = absurd is
found_asked h (reply.PutWhole body pieces) (ready.Changeset framed) f is found = absurd is
found_asked h (reply.PutChangeset bytes) (ready.Changeset framed) f is found =
    found (arc_value framed.commit) (subst (λ bytes. decoded bytes ≡ Ok (arc_value framed.commit)) is.0 is.1.decodes)
found_asked h (reply.SetBookmark caller name from to) (ready.Changeset framed) f is found = absurd is
found_asked h (reply.LandDraft caller name draft moment) (ready.Changeset framed) f is found = absurd is
found_asked h (reply.SetPolicy caller text) (ready.Changeset framed) f is found = absurd is

pub found_ready : (header : Header) (h : List Entry) (call : Call) (r : Ready) (f : Found) → IsReadyTo call r → IsFoundFor header h call f → IsFoundReady header h call r f
found_ready header h (Asks ask) r f is found = found_asked h ask r f is found
found_ready header h (Joins body) r f is found = found
found_ready header h (Looks question) r f is found = tt
found_ready header h (Derives id) r f is found = tt

pub found_left : (header : Header) (h : List Entry) (call : Call) (ask : Ask) (r : Ready) (framed : FramedChangeset) (f : Found) → call ≡ Asks ask → r ≡ ready.Changeset framed → IsFoundReady header h call r f → IsLeft h (arc_value framed.commit) (left_of f)
found_left header h call ask r framed f is r_is found = subst (λ r. IsFoundOf h r f) r_is (subst (λ call. IsFoundReady header h call r f) is found)

-- ---- what is to be found

abbrev Wants : Ready → Wanted → Type 0
Wants r wanted.Nothing = (h : List Entry) → IsFoundOf h r found.Nothing
Wants r (wanted.Joined body) = ⊥
Wants r (wanted.Unresolved commit) = (h : List Entry) (path : Option Path) → IsLeft h commit.now path → IsFoundOf h r (found.Unresolved path)

nothing_by : (r : Ready) → ((h : List Entry) → IsFoundOf h r found.Nothing) → (w : Wanted) → IsNothing w → Wants r w
nothing_by r then wanted.Nothing by = then
nothing_by r then (wanted.Joined body) by = absurd by
nothing_by r then (wanted.Unresolved commit) by = absurd by

of_changeset : (framed : FramedChangeset) (w : Wanted) → IsWantedOf (arc_value framed.commit) w → Wants (ready.Changeset framed) w
of_changeset framed wanted.Nothing by = λ h. left_alone h (arc_value framed.commit) by
of_changeset framed (wanted.Joined body) by = absurd by
of_changeset framed (wanted.Unresolved commit) by = λ h path left. subst (λ c. IsLeft h c path) by left

of_ready : (r : Ready) (w : Wanted) → IsWantedBy r w → Wants r w
of_ready (ready.Refused refusal) w by = nothing_by (ready.Refused refusal) (λ h. tt) w by
of_ready (ready.Content id frame) w by = nothing_by (ready.Content id frame) (λ h. tt) w by
of_ready (ready.Changeset framed) w by = of_changeset framed w by
of_ready (ready.Policy read) w by = nothing_by (ready.Policy read) (λ h. tt) w by
of_ready ready.Asked w by = nothing_by ready.Asked (λ h. tt) w by

of_asked : (p : Prepared) (ask : Ask) → asked_by p ≡ Asks ask → (w : Wanted) → Wants p.ready w → IsWanted p w
of_asked p ask is wanted.Nothing by = λ header h. subst (λ call. IsFoundReady header h call p.ready found.Nothing) (sym is) (by h)
of_asked p ask is (wanted.Joined body) by = absurd by
of_asked p ask is (wanted.Unresolved commit) by = λ header h path left. subst (λ call. IsFoundReady header h call p.ready (found.Unresolved path)) (sym is) (by h path left)

pub wanted_of : (p : Prepared) (ask : Ask) → asked_by p ≡ Asks ask → (w : Wanted) → IsWantedBy p.ready w → IsWanted p w
wanted_of p ask is w by = of_asked p ask is w (of_ready p.ready w by)
