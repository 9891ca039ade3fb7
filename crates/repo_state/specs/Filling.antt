-- What is read for the parts of a whole.
--     part_len part      how many bytes it has;  piece_of part      the same part as it is joined
--     IsPlaceWithin j place, IsPartWithin j part      it lies in the file, or in what waits behind it
--     IsFilled j m place bytes      these bytes were read at the place: an honest disk gives those that stand there
--     AreFilled j m parts bytes      so they were for each part, one behind another
use Rattle.std.specs.Prelude.{◌≡◌, ◌≤◌, ◌<◌, ◌+◌, ◌++◌, ℕ, List, [], ◌∷◌, length}
use Rattle.disk_model.specs.Meaning.{Meaning}
use Rattle.repo_journal.specs.View.{JournalView}
use Rattle.content_pieces.specs.declared.piece.Piece.{Piece}
use Rattle.content_pieces.specs.Joining.{IsReadAt}
use Rattle.content_table.specs.declared.part.Part.{Part}
use Rattle.content_table.specs.declared.place.Place.{Place}
use Rattle.repo_state.specs.Asking.{WasThere}

abbrev pub part_len : Part → ℕ
part_len part = part.place.length

abbrev pub piece_of : Part → Piece
piece_of part = record { id = part.id; at = part.place.at; length = part.place.length }

pub record IsPlaceWithin (j : JournalView) (place : Place) : Type 0 where
  pub inside : place.at + place.length ≤ j.size + length j.pending.bytes
  pub apart : place.at < j.size → place.at + place.length ≤ j.size

abbrev pub IsPartWithin : JournalView → Part → Type 0
IsPartWithin j p = IsPlaceWithin j p.place

pub record IsFilled (j : JournalView) (m : Meaning) (place : Place) (bytes : List ℕ) : Type 0 where
  pub is_read : IsReadAt j m place.at place.length bytes
  pub there : place.at < j.size → WasThere m place bytes

abbrev pub AreFilled : JournalView → Meaning → List Part → List ℕ → Type 0
AreFilled j m [] bytes = bytes ≡ []
AreFilled j m (p ∷ parts) bytes = (own rest : List ℕ) × (bytes ≡ own ++ rest) × IsFilled j m p.place own × AreFilled j m parts rest
