-- The calls that make a file: what they leave is short.
use Rattle.std.proofs.Common.{◌≡◌, ℕ, ◌+◌, ◌++◌, Bool, true, false, List, [], length, take, drop, ap, ◌∙◌, inl, arith}
use Rattle.std.proofs.lemmas.List.{length-append, length-take, length-drop}
use Rattle.std.specs.Prelude.{IsTrue}
use Rattle.disk_model.specs.Images.{Writes, Syncs, IsImage}
use Rattle.disk_model.specs.Meaning.{Meaning}
use Rattle.disk_model.specs.Calls.{Kept, LeavesOnly, Looked, Did}
use Rattle.blob_disk.proofs.Clients.{leaves_then, leaves_weaker}
use Rattle.repo_journal.specs.Sealing.{IsShort, Makes}

-- so far what reads give is short, and so was all that a crash left
pub record Short (m n : Meaning) : Type 0 where
  pub reads : IsShort n.state.reads
  pub since : LeavesOnly IsShort m n

pub none_yet : (m : Meaning) → m.state.reads ≡ [] → Short m m
none_yet m empty = record {
  reads = (let none = ap (λ xs. length xs) empty in omega arith);
  since = record { since = λ t image early left. inl left };
}

short_images : (n : Meaning) → IsShort n.state.reads → (image : List ℕ) → IsImage n.state image → IsShort image
short_images n short image h = let most = h.no_longer in omega arith

short_then : (m a b : Meaning) → Kept m a → Short m a → IsShort b.state.reads → LeavesOnly (IsImage b.state) a b → Short m b
short_then m a b kept short reads time = record {
  reads = reads;
  since = leaves_then IsShort m a b kept short.since (leaves_weaker (IsImage b.state) IsShort a b (short_images b reads) time);
}

written_short : (a b : Meaning) (bytes : List ℕ) (done : Bool) → IsTrue a.honest → IsShort a.state.reads → IsShort bytes → Did (Writes 0 bytes done) a b → IsShort b.state.reads
written_short a b bytes true honest short small did =
    let same = ap (λ xs. length xs) (did honest).most.reads in
    let whole = length-append (take 0 a.state.reads) (bytes ++ drop (0 + length bytes) a.state.reads) in
    let rest = length-append bytes (drop (0 + length bytes) a.state.reads) in
    let front = length-take 0 a.state.reads in
    let back = length-drop (0 + length bytes) a.state.reads in
    omega arith
written_short a b bytes false honest short small did = let same = ap (λ xs. length xs) (did honest).most.reads in omega arith

pub write_short : (m a b : Meaning) (bytes : List ℕ) (done : Bool) → Kept m a → Short m a → IsTrue a.honest → IsShort bytes → Did (Writes 0 bytes done) a b → LeavesOnly (IsImage b.state) a b → Short m b
write_short m a b bytes done kept short honest small did time = short_then m a b kept short (written_short a b bytes done honest short.reads small did) time

synced_short : (a b : Meaning) (done : Bool) → IsTrue a.honest → IsShort a.state.reads → Did (Syncs done) a b → IsShort b.state.reads
synced_short a b true honest short did = let same = ap (λ xs. length xs) (did honest).most.reads in omega arith
synced_short a b false honest short did = let same = ap (λ xs. length xs) (did honest).most.reads in omega arith

pub sync_short : (m a b : Meaning) (done : Bool) → Kept m a → Short m a → IsTrue a.honest → Did (Syncs done) a b → LeavesOnly (IsImage b.state) a b → Short m b
sync_short m a b done kept short honest did time = short_then m a b kept short (synced_short a b done honest short.reads did) time

pub makes : (m n : Meaning) → Short m n → Makes m n
makes m n short = record { now = short_images n short.reads; since = short.since }

-- a look before
pub look_short : (m a : Meaning) → IsTrue m.honest → m.state.reads ≡ [] → Looked m a → LeavesOnly (IsImage a.state) m a → Short m a
look_short m a honest empty looked time =
    let reads : IsShort a.state.reads = (let none = ap (λ xs. length xs) (ap (λ d. d.reads) (looked honest) ∙ empty) in omega arith) in
    record { reads = reads; since = leaves_weaker (IsImage a.state) IsShort m a (short_images a reads) time }

pub then_makes : (m a b : Meaning) → Kept m a → Short m a → Makes a b → Makes m b
then_makes m a b kept before after = record { now = after.now; since = leaves_then IsShort m a b kept before.since after.since }
