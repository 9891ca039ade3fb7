-- The calls that make a copy, in a row: what a crash may leave after each of them.
use Rattle.std.proofs.Common.{◌≡◌, ℕ, ◌-◌, ◌≤◌, Bool, true, List, [], ◌∷◌, ◌++◌, length, take, drop, refl, sym, ap, ◌∙◌, inl, inr, arith, append_assoc}
use Rattle.std.specs.Prelude.{IsTrue}
use Rattle.std.proofs.lemmas.List.{length-append, length-drop, length-take-le}
use Rattle.changeset_model.specs.Version.{Second}
use Rattle.history_model.specs.Journal.{mark}
use Rattle.disk_model.specs.Images.{Writes, Syncs, IsImage, write_at}
use Rattle.disk_model.specs.Meaning.{Meaning, IsSound}
use Rattle.disk_model.specs.Calls.{Kept, LeavesOnly, Looked, Did}
use Rattle.blob_disk.proofs.Clients.{kept_none}
use Rattle.repo_journal.proofs.Seals.{EachImage, sync_keeps}
use Rattle.migration.specs.Copying.{IsShort, IsUnfinished, IsUnmarked, LeavesEach, copied, records_in, unmarked_head}
use Rattle.migration.proofs.Writes.{appended, each_weaker, leaves_call, write_head, write_short, write_unmarked}

-- the header
pub laid : (m a : Meaning) (bytes : List ℕ) (done : Bool) → IsTrue m.honest → m.state.reads ≡ [] → IsShort bytes → Did (Writes 0 bytes done) m a → LeavesOnly (IsImage a.state) m a → LeavesEach IsShort m a
laid m a bytes done honest empty small did time = leaves_call IsShort m m a (kept_none m) (record { since = λ t image early left. inl left }) time (write_short m a bytes done honest empty small did)

-- a sync
pub synced : (P : List ℕ → Type 0) (m a b : Meaning) (done : Bool) → LeavesEach P m a → Kept m a → IsSound a → IsTrue a.honest → Did (Syncs done) a b → LeavesOnly (IsImage b.state) a b → LeavesEach P m b
synced P m a b done before kept sound honest did time = leaves_call P m a b kept before.since time (sync_keeps P a b done sound honest did before.now)

-- bytes behind the header
pub behind_head : (m a b : Meaning) (at : ℕ) (bytes : List ℕ) (done : Bool) → LeavesEach IsUnmarked m a → Kept m a → IsSound a → IsTrue a.honest → 8 ≤ at → Did (Writes at bytes done) a b → LeavesOnly (IsImage b.state) a b → LeavesEach IsUnmarked m b
behind_head m a b at bytes done before kept sound honest place did time = leaves_call IsUnmarked m a b kept before.since time (write_unmarked a b at bytes done sound honest place before.now did)

-- the file without its mark
abbrev pub unmarked_copy : ℕ → List ℕ → List ℕ
unmarked_copy capacity recs = unmarked_head capacity ++ (recs ++ 0 ∷ [])

-- what the disk has once the gate is written
gate_written : (capacity gate : ℕ) (recs file : List ℕ) → file ≡ unmarked_head capacity ++ recs → length file ≡ gate → write_at gate (0 ∷ []) file ≡ unmarked_copy capacity recs
gate_written capacity gate recs file is len =
    appended gate (0 ∷ []) file (sym len) ∙ ap (λ f. f ++ 0 ∷ []) is ∙ append_assoc (unmarked_head capacity) recs (0 ∷ [])

pub gate_on_disk : (m a b : Meaning) (capacity gate : ℕ) (recs : List ℕ) → IsTrue m.honest → IsTrue a.honest → m.state.reads ≡ unmarked_head capacity ++ recs → length m.state.reads ≡ gate
    → Did (Writes gate (0 ∷ []) true) m a → Did (Syncs true) a b → b.state.reads ≡ unmarked_copy capacity recs
gate_on_disk m a b capacity gate recs honest honest_a is len written settled =
    (settled honest_a).most.reads ∙ (written honest).most.reads ∙ gate_written capacity gate recs m.state.reads is len

pub unmarked_unfinished : (file : List ℕ) (m n : Meaning) → LeavesEach IsUnmarked m n → LeavesEach (IsUnfinished file) m n
unmarked_unfinished file m n each = each_weaker IsUnmarked (IsUnfinished file) m n (λ image unmarked. inr (inl unmarked)) each

pub short_unfinished : (file : List ℕ) (m n : Meaning) → LeavesEach IsShort m n → LeavesEach (IsUnfinished file) m n
short_unfinished file m n each = each_weaker IsShort (IsUnfinished file) m n (λ image short. inl short) each

-- the mark
pub marked : (capacity : ℕ) (recs : List ℕ) (m b d : Meaning) (done : Bool) → LeavesEach IsUnmarked m b → Kept m b → IsSound b → IsTrue b.honest → EachImage (λ image. image ≡ b.state.reads) b → b.state.reads ≡ unmarked_copy capacity recs
    → Did (Writes 0 (mark Second) done) b d → LeavesOnly (IsImage d.state) b d → LeavesEach (IsUnfinished (copied capacity recs)) m d
marked capacity recs m b d done before kept sound honest only is did time =
    let long : 8 ≤ length b.state.reads = (let all = ap (λ xs. length xs) is in let parts = length-append (unmarked_head capacity) (recs ++ 0 ∷ []) in let width : length (unmarked_head capacity) ≡ 16 = refl in omega arith) in
    leaves_call (IsUnfinished (copied capacity recs)) m b d kept (unmarked_unfinished (copied capacity recs) m b before).since time
    (λ image h. inr (inr (write_head b d (mark Second) done sound honest only long did image h ∙ ap (drop 8) is)))

-- ---- between the calls

-- a look at an empty file
pub looked_short : (m a : Meaning) → IsTrue m.honest → m.state.reads ≡ [] → Looked m a → LeavesOnly (IsImage a.state) m a → LeavesEach IsShort m a
looked_short m a honest empty looked time =
    let none = ap (λ xs. length xs) (ap (λ d. d.reads) (looked honest) ∙ empty) in
    leaves_call IsShort m m a (kept_none m) (record { since = λ t image early left. inl left }) time (λ image h. (let most = h.no_longer in omega arith))

pub each_unmarked : (a : Meaning) (capacity : ℕ) → EachImage (λ image. image ≡ a.state.reads) a → a.state.reads ≡ unmarked_head capacity → EachImage IsUnmarked a
each_unmarked a capacity only is image h = ap (take 8) (only image h ∙ is)

-- how far the records reach
pub copied_len : (capacity size : ℕ) (file reads : List ℕ) → 17 ≤ size → size ≤ length file → reads ≡ unmarked_head capacity ++ records_in size file → length reads ≡ size - 1
copied_len capacity size file reads some long is =
    let all = ap (λ xs. length xs) is in
    let parts = length-append (unmarked_head capacity) (records_in size file) in
    let width : length (unmarked_head capacity) ≡ 16 = refl in
    let rest = length-drop 16 file in
    let recs = length-take-le (size - 17) (drop 16 file) (omega arith) in
    omega arith
