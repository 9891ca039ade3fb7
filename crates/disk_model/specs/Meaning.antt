-- What is told of a disk at one moment, of which the contracts of its calls speak.
--     Meaning      what is told of a disk at one moment
--     IsLong reads n      where it is told what reads give, the file has at least n bytes
--     LeftSince m t image      a crash at some moment since t may have left this
--     IsSound m      how the parts of a meaning hang together
use Rattle.std.specs.Prelude.{◌≡◌, ℕ, ◌≤◌, Bool, IsTrue, List, [], ◌∷◌, length, drop, Option, None, Some}
use Rattle.std.specs.Option.{ForSome}
use Rattle.disk_model.specs.Images.{Disk, IsImage, IsImageSince}

pub record Meaning : Type 0 where
  -- what reads give. Told over memory, and not of a real file
  pub reads : Option (List ℕ)
  -- where the disk is honest, a crash now may leave the images of this
  pub state : Disk
  -- the states at each moment from the first to this one. Told only by a disk that keeps them
  pub past : Option (List Disk)
  -- the number of this moment, and 0 where moments aren't told
  pub moment : ℕ
  -- how often a call failed. It never falls, and stands at the last value of its type
  pub faults : ℕ
  -- where it is told, no call fails but a write that ends past this place
  pub quiet : Option ℕ
  -- the calls keep to the model of `Images`
  pub honest : Bool

abbrev pub IsLong : Option (List ℕ) → ℕ → Type 0
IsLong reads n = ForSome reads (λ file. n ≤ length file)

abbrev pub LeftSince : Meaning → ℕ → List ℕ → Type 0
LeftSince m t image = (ds : List Disk) × (m.past ≡ Some ds) × IsImageSince (drop t ds) image

pub record IsSound (m : Meaning) : Type 0 where
  pub reads : IsTrue m.honest → m.reads ≡ Some m.state.reads
  -- what reads give is one of the images
  pub image : IsTrue m.honest → IsImage m.state m.state.reads
  pub untimed : m.past ≡ None → m.moment ≡ 0
  -- the state now is the last
  pub timed : (ds : List Disk) → m.past ≡ Some ds → drop m.moment ds ≡ m.state ∷ []
