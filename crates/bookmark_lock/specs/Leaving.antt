-- What a crash may have left from one moment of the value to another.
--     stored_part i log      the first i stored entries
--     StandsWithin header least t image      the image stands for the first stored entries of t: for so many as were sealed at some moment up to t, from that on at which `least` were, or for those up to t's reach
--     Lasts header a b      what was told of the disk at a is so still at b, and a crash in between left no image but such
use Rattle.std.specs.Prelude.{◌≡◌, ◌⊎◌, ℕ, ◌≤◌, IsTrue, List, length, map, take}
use Rattle.disk_model.specs.Calls.{Kept, LeavesOnly}
use Rattle.history_model.specs.History.{Entry, bodies, unnumbered}
use Rattle.history_model.specs.Journal.{Header, Stands}
use Rattle.bookmark_lock.specs.Turning.{Turn}

abbrev pub stored_part : ℕ → List Entry → List Entry
stored_part i log = map unnumbered (take i (bodies log))

pub record StandsWithin (header : Header) (least : ℕ) (t : Turn) (image : List ℕ) : Type 0 where
  pub first : ℕ
  pub no_fewer : least ≤ first
  pub stored : first ≤ length (bodies t.log)
  pub no_more : (first ≤ t.sealed) ⊎ (first ≡ t.reach)
  pub stands : Stands header image (stored_part first t.log)

pub record Lasts (header : Header) (a b : Turn) : Type 0 where
  pub seals : a.sealed ≤ b.sealed
  -- what a crash could leave at a is sealed by then, or it can leave it still
  pub reaches : (a.reach ≤ b.sealed) ⊎ (b.reach ≡ a.reach)
  pub kept : Kept a.disk b.disk
  pub leaves : IsTrue a.disk.honest → LeavesOnly (StandsWithin header a.sealed b) a.disk b.disk
