-- Where a reader finds its fault: at the first field that is cut off or breaks its rule.
--     NamesField c r bytes left      the reader's fault in these bytes is at a field where so many are left: before it stand whole fields that keep their rules, and bytes that agree up to its end have the fault too
--     ReadsFront r bytes x left      the reader reads a front of these bytes as x, and whatever follows it
--     FollowedBy r bytes at      all fields are in order, and bytes follow from this place on
--     NamesPlace c r bytes at      where all the bytes are to be read, the place of the fault is that of a field, or of bytes that follow
-- A field of several parts is known by its first ones, which are c bytes at most: a flag, say.
use Rattle.std.specs.Prelude.{ℕ, ◌<◌, ◌≤◌, ◌≡◌, ◌⊎◌, List, ◌++◌, length, take, Result, Ok, Err}
use Rattle.byte_fields.specs.Reading.{Reader}

pub record NamesField {A : Type 0} (c : ℕ) (r : Reader A) (bytes : List ℕ) (left : ℕ) : Type 0 where
  -- the whole fields, then of the named field the parts that tell its length, and what is there of the others
  pub before : List ℕ
  pub known : List ℕ
  pub rest : List ℕ
  -- how many bytes the field's other parts have
  pub size : ℕ
  pub parts : bytes ≡ before ++ (known ++ rest)
  pub left_is : left ≡ length (known ++ rest)
  pub few : length known ≤ c
  pub whole : (other : List ℕ) (l : ℕ) → r (before ++ other) ≡ Err l → l ≤ length other
  pub needs : (other : List ℕ) → length other < size → r (before ++ (known ++ other)) ≡ Err (length (known ++ other))
  -- it is cut off, or breaks its rule
  pub bad : (length rest < size) ⊎ ((other : List ℕ) → r (before ++ (known ++ (take size rest ++ other))) ≡ Err (length (known ++ (take size rest ++ other))))

pub record ReadsFront {A : Type 0} (r : Reader A) (bytes : List ℕ) (x : A) (left : List ℕ) : Type 0 where
  pub front : List ℕ
  pub parts : bytes ≡ front ++ left
  pub stands : (other : List ℕ) → r (front ++ other) ≡ Ok (x, other)

pub record FollowedBy {A : Type 0} (r : Reader A) (bytes : List ℕ) (at : ℕ) : Type 0 where
  pub value : A
  pub more : List ℕ
  pub front : ReadsFront r bytes value more
  pub place : length front.front ≡ at
  pub some : 0 < length more

pub record NamesFieldAt {A : Type 0} (c : ℕ) (r : Reader A) (bytes : List ℕ) (at : ℕ) : Type 0 where
  pub left : ℕ
  pub field : NamesField c r bytes left
  pub place : length field.before ≡ at

abbrev pub NamesPlace : {A : Type 0} → ℕ → Reader A → List ℕ → ℕ → Type 0
NamesPlace c r bytes at = NamesFieldAt c r bytes at ⊎ FollowedBy r bytes at
