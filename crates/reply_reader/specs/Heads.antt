-- What the code finds in a head, seen at the places of its parts.
--     IsNamed values named      how many values there are, and the one
--     Judges limit first minor headers result      what the tests of a head say, of its first byte, its version and its headers
use Rattle.std.specs.Prelude.{◌≡◌, ◌≢◌, ℕ, ◌<◌, ◌≤◌, ◌⊎◌, List, [], ◌∷◌, length, codes, Result, Ok, Err}
use Rattle.http_model.specs.Head.{Header, values_of}
use Rattle.session_model.specs.Responses as model
use Rattle.session_model.specs.Responses.{MediaType, media_name}
use Rattle.reply_reader.specs.declared.media.Media.{Media}
use Rattle.reply_reader.specs.declared.media.Media.TheVariants.{Json, Octets}
use Rattle.reply_reader.specs.declared.header_values.Named.{Named}
use Rattle.reply_reader.specs.declared.header_values.Named.TheVariants.{Absent, One, Several}
use Rattle.reply_reader.specs.declared.framing.Framing.{Framing}
use Rattle.reply_reader.specs.declared.reply_fault.ReplyFault.{ReplyFault}
use Rattle.reply_reader.specs.declared.reply_fault.ReplyFault.TheVariants.{BadHead, HeadTooLarge, BadStart, TransferEncoding, BadMedia, BadLength, BodyTooLarge}
use Rattle.reply_reader.specs.Replies.{IsLength}

abbrev pub media_of : Media → MediaType
media_of Json = model.Json
media_of Octets = model.Octets

abbrev pub IsNamed : List (List ℕ) → Named → Type 0
IsNamed values Absent = values ≡ []
IsNamed values (One text) = values ≡ text.now ∷ []
IsNamed values Several = 2 ≤ length values

-- a head of these headers is in order, and its body is of this kind and this long
pub record Frames (limit first minor : ℕ) (headers : List Header) (framing : Framing) : Type 0 where
  pub at_once : first ≡ 72
  pub version : minor ≡ 1
  pub plain : values_of (codes "transfer-encoding") headers ≡ []
  pub media_is : values_of (codes "content-type") headers ≡ media_name (media_of framing.media) ∷ []
  pub size_is : IsLength (values_of (codes "content-length") headers) framing.body
  pub most : framing.body ≤ limit

-- it has this fault
abbrev pub Fails : ReplyFault → ℕ → ℕ → ℕ → List Header → Type 0
Fails BadHead limit first minor headers = ⊥
Fails HeadTooLarge limit first minor headers = ⊥
Fails BadStart limit first minor headers = (first ≢ 72) ⊎ (minor ≢ 1)
Fails TransferEncoding limit first minor headers = values_of (codes "transfer-encoding") headers ≢ []
Fails BadMedia limit first minor headers = (media : MediaType) → values_of (codes "content-type") headers ≢ media_name media ∷ []
Fails BadLength limit first minor headers = (n : ℕ) → ¬ (IsLength (values_of (codes "content-length") headers) n)
Fails BodyTooLarge limit first minor headers = (n : ℕ) × IsLength (values_of (codes "content-length") headers) n × (limit < n)

abbrev pub Judges : ℕ → ℕ → ℕ → List Header → Result Framing ReplyFault → Type 0
Judges limit first minor headers (Ok framing) = Frames limit first minor headers framing
Judges limit first minor headers (Err fault) = Fails fault limit first minor headers
