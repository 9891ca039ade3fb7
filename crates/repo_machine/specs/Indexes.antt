-- What the machine keeps beside its entries.
--     AreIndexes header history ks heads lengths size down      the known changesets, the heads, the lengths of contents, the size, and whether nothing more is stored are those of the history, which is legal
--     AreAt history places      so they stand that have a place
--     AreJoined history joined      of which others each content was joined, if it was
--     StandsAt history x place      the content's bytes begin at this place in each file that stands for the history
use Rattle.std.specs.Prelude.{◌≡◌, ◌≤◌, ◌+◌, ℕ, Bool, true, List, ◌∷◌, ◌++◌, Option, None, Some, if◌then◌else◌, IfSome}
use Rattle.byte_fields.specs.Bytes.{Id}
use Rattle.history_model.specs.History.{Content, Entry, Known, is_down, known, content_len, is_whole, whole_parts}
use Rattle.history_model.specs.Bookmark.{head}
use Rattle.history_model.specs.Journal.{Header, is_header}
use Rattle.history_model.specs.Journal as journal
use Rattle.reply_model.specs.After.{entry_by}
use Rattle.reply_model.specs.Legal.{IsLegal}
use Rattle.content_table.specs.declared.place.Place.{Place}

pub record AreIndexes (header : Header) (history : List Entry) (ks : List Known) (heads : List ℕ → Option Id) (lengths : Id → Option ℕ) (size : ℕ) (down : Bool) : Type 0 where
  pub header_fits : is_header header ≡ true
  pub legal : IsLegal header history
  pub down_is : down ≡ is_down history
  pub known_are : ks ≡ known history
  pub heads_are : (name : List ℕ) → heads name ≡ head history name
  pub lengths_are : (x : Id) → lengths x ≡ content_len history x
  pub size_is : size ≡ journal.size history
  pub size_fits : size ≤ header.capacity

-- Behind the records before it stand the gate, the length of its payload, and its mark. The size counts a closing gate.
pub record StandsAt (history : List Entry) (x : Id) (place : Place) : Type 0 where
  pub before : List Entry
  pub who : ℕ
  pub later : List Entry
  pub history_is : history ≡ before ++ entry_by who (Content x place.length) ∷ later
  pub at_is : place.at ≡ journal.size before + 5

abbrev pub AreAt : List Entry → (Id → Option Place) → Type 0
AreAt history places = (x : Id) → IfSome (places x) (StandsAt history x)

abbrev pub joined_in : List Entry → Id → Option (List Id)
joined_in history x = if is_whole history x then Some (whole_parts history x) else None

abbrev pub AreJoined : List Entry → (Id → Option (List Id)) → Type 0
AreJoined history joined = (x : Id) → joined x ≡ joined_in history x
