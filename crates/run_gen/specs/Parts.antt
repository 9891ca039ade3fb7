-- What is asked for an upload.
--     content_asks content      the content is stored, if there is one
--     is_upload ask      it stores a content or a changeset
use Rattle.std.specs.Prelude.{ℕ, Bool, true, false, List, map, Option}
use Rattle.std.specs.Option.{option_to_list}
use Rattle.reply_model.specs.Reply.{Ask, PutContent, PutWhole, PutChangeset, SetBookmark, LandDraft, SetPolicy}

abbrev pub content_asks : Option (List ℕ) → List Ask
content_asks content = map PutContent (option_to_list content)

abbrev pub is_upload : Ask → Bool
is_upload (PutContent bytes) = true
is_upload (PutWhole body pieces) = true
is_upload (PutChangeset bytes) = true
is_upload (SetBookmark caller name from to) = false
is_upload (LandDraft caller name draft moment) = false
is_upload (SetPolicy caller text) = false
