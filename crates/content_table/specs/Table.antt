-- The table of contents.
--     stored_in t x      what is stored under an id;  spare_in t      for how many more there is room
--     length_of stored      how many bytes it has
--     lengths t x, places t x, joined t x      of what is stored under an id: how many bytes it has, where they stand, of which others it was joined
--     is_whole_in t x      it was joined
--     stands t p      where a content's bytes stand is where the table has them
--     pieces_checked lengths wholes ids      ids of contents that may be joined: each is stored, and none was joined itself
use Rattle.std.specs.Prelude.{◌≡◌, ℕ, Bool, List, find, bytes_eq, Option, None, Some, option_map, is_some, is_none, Result, Ok}
use Rattle.std.specs.Arc.{arc_value}
use Rattle.std.specs.HashMap.{get, spare}
use Rattle.std.specs.Option.{option_and_then}
use Rattle.byte_fields.specs.Bytes.{Id}
use Rattle.reply_model.specs.Reply as reply
use Rattle.reply_model.specs.Reply.{◌>>=◌, refuse_some}
use Rattle.content_table.specs.declared.place.Place.{Place}
use Rattle.content_table.specs.declared.part.Part.{Part}
use Rattle.content_table.specs.declared.stored.Stored.{Stored}
use Rattle.content_table.specs.declared.stored.Stored.TheVariants.{Content, Whole}
use Rattle.content_table.specs.declared.table.ContentTable.{ContentTable}

abbrev pub stored_in : ContentTable → Id → Option Stored
stored_in t x = get bytes_eq t.map x

abbrev pub spare_in : ContentTable → ℕ
spare_in t = spare t.map

abbrev pub length_of : Stored → ℕ
length_of (Content place) = place.length
length_of (Whole whole) = whole.length

abbrev pub place_of : Stored → Option Place
place_of (Content place) = Some place
place_of (Whole whole) = None

abbrev pub joined_of : Stored → Option (List Id)
joined_of (Content place) = None
joined_of (Whole whole) = Some (arc_value whole.parts).items

abbrev pub lengths : ContentTable → Id → Option ℕ
lengths t x = option_map length_of (stored_in t x)

abbrev pub places : ContentTable → Id → Option Place
places t x = option_and_then place_of (stored_in t x)

abbrev pub joined : ContentTable → Id → Option (List Id)
joined t x = option_and_then joined_of (stored_in t x)

abbrev pub is_whole_in : ContentTable → Id → Bool
is_whole_in t x = is_some (joined t x)

abbrev pub stands : ContentTable → Part → Type 0
stands t p = places t p.id ≡ Some p.place

abbrev pub pieces_checked : (Id → Option ℕ) → (Id → Bool) → List Id → Result (List Id) reply.Refusal
pieces_checked lengths wholes ids = do
  _ ← refuse_some (find (λ x. is_none (lengths x)) ids) reply.NoPiece
  _ ← refuse_some (find wholes ids) reply.NotAPiece
  Ok ids
