-- What a seat's turn reads for a content.
--     IsReadOf h x read      a content of this id and as many bytes is stored, and these are the parts of one that was joined
--     IsFoundOf h x found      the turn read this for it, or else a content of this id is stored that has as many bytes as are to be read
--     HasItsId x found      what was read in the turn, if anything was, has this id
use Rattle.std.specs.Prelude.{◌≡◌, List, length, Some, ⊤}
use Rattle.sha2.specs.Sha256.{sha256}
use Rattle.byte_fields.specs.Bytes.{Id}
use Rattle.history_model.specs.History.{Entry, content_len, whole_parts}
use Rattle.repo_state.specs.Joining.{ids_of}
use Rattle.repo_state.specs.declared.read_content.ReadContent.{ReadContent}
use Rattle.shared_repo.specs.declared.contents.Found.{Found}
use Rattle.shared_repo.specs.declared.contents.Found.TheVariants.{Read, Stands}

pub record IsReadOf (h : List Entry) (x : Id) (read : ReadContent) : Type 0 where
  pub stored : content_len h x ≡ Some (length read.bytes.items)
  pub parts_are : ids_of read.parts.items ≡ whole_parts h x

abbrev pub IsFoundOf : {P : Type 0} → List Entry → Id → Found P → Type 0
IsFoundOf h x (Read read) = IsReadOf h x read
IsFoundOf h x (Stands places) = content_len h x ≡ Some places.length

abbrev pub HasItsId : {P : Type 0} → Id → Found P → Type 0
HasItsId x (Read read) = sha256 read.bytes.items ≡ x
HasItsId x (Stands places) = ⊤
