-- The bytes that are read for a content, and one that isn't what it should be.
--     is_join call      contents are to be joined
--     IsReadFor m h n x bytes parts      a content of this id and as many bytes is stored, and these are what is read at its place, or of a whole at those of its parts, one behind another. Where a record waits, its bytes are read, which have their id
--     IsUnsealed h n x      no content of this id is in the sealed part, and it isn't a whole's
--     other_part parts bytes      the first part whose bytes have another id, as it is told
--     told_other x parts bytes      what is told of bytes that haven't this id: that part, or else the whole
--     TellsDigest m h n result      an id that was found is the SHA-256 (FIPS 180-4) of what is read for the content
use Rattle.std.specs.Prelude.{◌≡◌, ◌⊎◌, ◌≤◌, ◌++◌, ℕ, Bool, true, false, if◌then◌else◌, List, [], ◌∷◌, map, length, take, drop, bytes_eq, Option, None, Some, unwrap_or, Result, Ok, Err, ⊤}
use Rattle.std.specs.Option.{ForSome}
use Rattle.sha2.specs.Sha256.{sha256}
use Rattle.byte_fields.specs.Bytes.{Id}
use Rattle.disk_model.specs.Meaning.{Meaning}
use Rattle.disk_model.specs.Calls.{Kept}
use Rattle.history_model.specs.History.{Entry, content_len, is_whole, whole_parts}
use Rattle.history_model.specs.Journal.{size}
use Rattle.reply_model.specs.After.{Call, Asks, Joins, Looks, Derives}
use Rattle.content_table.specs.declared.part.Part.{Part}
use Rattle.content_table.specs.declared.place.Place.{Place}
use Rattle.repo_state.specs.Images.{sealed_part}
use Rattle.repo_machine.specs.Indexes.{StandsAt}
use Rattle.repo_calls.specs.declared.calls.AskFault.{AskFault}
use Rattle.repo_calls.specs.declared.calls.AskFault.TheVariants.{NoContent, NoChangeset, NoPath, NotADir, NotAFile, NoPolicy, Collision, ReadFault, BadBytes, Memory}

abbrev pub is_join : Call → Bool
is_join (Asks ask) = false
is_join (Joins body) = true
is_join (Looks question) = false
is_join (Derives id) = false

-- ---- what is read

-- where the record of a place waits, behind the sealed part
abbrev pub IsWaiting : List Entry → ℕ → ℕ → Type 0
IsWaiting h n at = size (sealed_part n h) ≤ at

abbrev pub IsThere : Option (List ℕ) → Place → List ℕ → Type 0
IsThere reads place bytes = ForSome reads (λ file. bytes ≡ take place.length (drop place.at file))

-- by what reads give then
abbrev pub WasThere : Meaning → Place → List ℕ → Type 0
WasThere m place bytes = (now : Meaning) × Kept m now × IsThere now.reads place bytes

pub record IsReadAt (there : Type 0) (h : List Entry) (n : ℕ) (x : Id) (place : Place) (bytes : List ℕ) : Type 0 where
  pub stands : StandsAt h x place
  pub long : length bytes ≡ place.length
  pub read : IsWaiting h n place.at ⊎ there
  pub waits : IsWaiting h n place.at → sha256 bytes ≡ x

-- one part's bytes behind another's
abbrev pub ArePartsRead : Meaning → List Entry → ℕ → List Part → List ℕ → Type 0
ArePartsRead m h n [] bytes = bytes ≡ []
ArePartsRead m h n (p ∷ parts) bytes = (own rest : List ℕ) × (bytes ≡ own ++ rest) × IsReadAt (WasThere m p.place own) h n p.id p.place own × ArePartsRead m h n parts rest

abbrev pub IsSingle : Meaning → List Entry → ℕ → Id → List ℕ → List Part → Type 0
IsSingle m h n x bytes parts = (parts ≡ []) × (place : Place) × IsReadAt (IsThere m.reads place bytes) h n x place bytes

abbrev pub IsOfParts : Meaning → List Entry → ℕ → Id → List ℕ → List Part → Type 0
IsOfParts m h n x bytes parts = (is_whole h x ≡ true) × ArePartsRead m h n parts bytes

pub record IsReadFor (m : Meaning) (h : List Entry) (n : ℕ) (x : Id) (bytes : List ℕ) (parts : List Part) : Type 0 where
  pub stored : content_len h x ≡ Some (length bytes)
  pub parts_are : map (λ (p : Part). p.id) parts ≡ whole_parts h x
  pub read : IsSingle m h n x bytes parts ⊎ IsOfParts m h n x bytes parts

abbrev pub IsUnsealed : List Entry → ℕ → Id → Type 0
IsUnsealed h n x = (content_len (sealed_part n h) x ≡ None) × (is_whole h x ≡ false)

-- ---- what is told of other bytes

abbrev pub other_part : List Part → List ℕ → Option AskFault
other_part [] bytes = None
other_part (p ∷ parts) bytes =
    if bytes_eq (sha256 (take p.place.length bytes)) p.id
    then other_part parts (drop p.place.length bytes)
    else Some (BadBytes p.id (sha256 (take p.place.length bytes)))

abbrev pub told_other : Id → List Part → List ℕ → AskFault
told_other x parts bytes = unwrap_or (other_part parts bytes) (BadBytes x (sha256 bytes))

abbrev pub IsDigestThere : Meaning → List Entry → Id → Id → Type 0
IsDigestThere m h wanted found = ForSome m.reads (λ file. (place : Place) × StandsAt h wanted place × (found ≡ sha256 (take place.length (drop place.at file))))

-- of a part, and of a whole
abbrev pub IsDigestThen : Meaning → List Entry → Id → Id → Type 0
IsDigestThen m h wanted found = (place : Place) × StandsAt h wanted place × ((bytes : List ℕ) × WasThere m place bytes × (found ≡ sha256 bytes))

abbrev pub IsDigestJoined : Meaning → List Entry → ℕ → Id → Id → Type 0
IsDigestJoined m h n wanted found = (parts : List Part) × (map (λ (p : Part). p.id) parts ≡ whole_parts h wanted) × ((bytes : List ℕ) × ArePartsRead m h n parts bytes × (found ≡ sha256 bytes))

abbrev pub IsDigestRead : Meaning → List Entry → ℕ → Id → Id → Type 0
IsDigestRead m h n wanted found = IsDigestThere m h wanted found ⊎ (IsDigestThen m h wanted found ⊎ IsDigestJoined m h n wanted found)

abbrev pub TellsDigest : {T : Type 0} → Meaning → List Entry → ℕ → Result T AskFault → Type 0
TellsDigest m h n (Ok x) = ⊤
TellsDigest m h n (Err (NoContent id)) = ⊤
TellsDigest m h n (Err (NoChangeset id)) = ⊤
TellsDigest m h n (Err NoPath) = ⊤
TellsDigest m h n (Err NotADir) = ⊤
TellsDigest m h n (Err NotAFile) = ⊤
TellsDigest m h n (Err NoPolicy) = ⊤
TellsDigest m h n (Err (Collision id)) = ⊤
TellsDigest m h n (Err ReadFault) = ⊤
TellsDigest m h n (Err (BadBytes wanted found)) = IsDigestRead m h n wanted found
TellsDigest m h n (Err Memory) = ⊤
