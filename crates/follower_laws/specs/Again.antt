-- What a server's entry makes elsewhere.
--     IsFetchFor body fetched      the bytes that the entry needs
--     HaveTwo parts      one of these ids is that of two different contents
--     IsWhole body, IsTwofold body      the entry is a whole, and one of its parts has two contents
--     MayDiffer honest body      why what is made here may be another entry: it is twofold, or a whole of whose parts a disk that isn't honest gave other bytes
--     IsAgain body answer made      the call was answered by the same entry, or want of room, memory or the disk ended it, or the entry is twofold, or a whole of whose parts the disk gave other bytes
use Rattle.std.specs.Prelude.{◌≡◌, ◌≢◌, ◌⊎◌, ℕ, Bool, false, List, Contains, Some}
use Rattle.byte_fields.specs.Bytes.{Id, IsContent}
use Rattle.changeset_model.specs.Changeset.{spelling}
use Rattle.history_model.specs.History.{Body, Content, Whole, Change, Book, Land, Policy, Fault}
use Rattle.reply_model.specs.After.{Answer, Grants, Refuses, Shows, Lacks, Roots, DiskFault, ReadFault, BadBytes, NodeCollision, Memory, Made}
use Rattle.follower.specs.Making.{IsWantOfRoom}

abbrev pub IsFetchFor : Body → List ℕ → Type 0
IsFetchFor (Content x n) fetched = IsContent x n fetched
IsFetchFor (Whole x n parts) fetched = Unit {0}
IsFetchFor (Change c) fetched = fetched ≡ spelling c
IsFetchFor (Book move) fetched = Unit {0}
IsFetchFor (Land landing) fetched = Unit {0}
IsFetchFor (Policy caller text) fetched = fetched ≡ text
IsFetchFor (Fault breaking) fetched = ⊥

pub record HaveTwo (parts : List Id) : Type 0 where
  pub x : Id
  pub n : ℕ
  pub one : List ℕ
  pub other : List ℕ
  pub among : Contains parts x
  pub one_is : IsContent x n one
  pub other_is : IsContent x n other
  pub differ : one ≢ other

abbrev pub IsWhole : Body → Type 0
IsWhole body = (x : Id) × (n : ℕ) × (parts : List Id) × (body ≡ Whole x n parts)

abbrev pub IsTwofold : Body → Type 0
IsTwofold body = (x : Id) × (n : ℕ) × (parts : List Id) × (body ≡ Whole x n parts) × HaveTwo parts

abbrev pub MayDiffer : Bool → Body → Type 0
MayDiffer honest body = IsTwofold body ⊎ ((honest ≡ false) × IsWhole body)

abbrev pub IsAgain : Body → Answer → Made → Type 0
IsAgain body (Grants granted) made = (made.entry ≡ Some body) ⊎ IsTwofold body
IsAgain body (Refuses refusal) made = IsWantOfRoom refusal
IsAgain body (BadBytes wanted found) made = IsWhole body
IsAgain body DiskFault made = Unit {0}
IsAgain body ReadFault made = Unit {0}
IsAgain body Memory made = Unit {0}
-- no change is answered so
IsAgain body (Shows seen) made = ⊥
IsAgain body (Lacks absent) made = ⊥
IsAgain body (Roots fs un gone) made = ⊥
IsAgain body (NodeCollision x) made = ⊥
