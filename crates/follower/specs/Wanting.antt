-- What is asked of a server, and what may be replied.
--     question_text wanted      the request, byte for byte (RFC 9112)
--     limit_of wanted, media_wanted wanted      of a reply's body: its most bytes, and what it consists of
--     IsAnswered wanted bytes body rest      the bytes are a reply with this body to the question, and then the rest
--     IsUnanswered wanted bytes      no such reply begins them
--     wanted_of number line      what is asked for the entry of this number, of which the log tells this
--     IsFetched wanted bytes fetched rest      this was replied, if something was asked, and the rest is to come;  IsUnfetched wanted bytes      it wasn't
use Rattle.std.specs.Prelude.{◌≡◌, ℕ, List, [], ◌∷◌, ◌++◌, codes, decimal, Option, None, Some}
use Rattle.std.specs.List.{concat}
use Rattle.hex.specs.Hex.{encode_lower}
use Rattle.session_model.specs.Responses.{MediaType, Octets, Json}
use Rattle.reply_model.specs.Log.{LogLine, ContentLine, WholeLine, ChangesetLine, BookmarkLine, LandingLine, PolicyLine}
use Rattle.reply_reader.specs.Replies.{Reply, IsReply}
use Rattle.follower.specs.declared.wanted.Wanted.{Wanted}
use Rattle.follower.specs.declared.wanted.Wanted.TheVariants.{Page, Content, Changeset, Policy}

abbrev pub target : Wanted → List ℕ
target (Page from) = codes "/log/" ++ decimal from
target (Content id) = codes "/content/" ++ encode_lower id
target (Changeset id) = codes "/changeset/" ++ encode_lower id
target (Policy number) = codes "/policy/" ++ decimal number

abbrev pub question_text : Wanted → List ℕ
question_text wanted = concat (codes "GET " ∷ target wanted ∷ codes " HTTP/1.1\r\nHost:\r\n\r\n" ∷ [])

abbrev pub limit_of : Wanted → ℕ
limit_of (Page from) = 8_388_608
limit_of (Content id) = 67_108_864
limit_of (Changeset id) = 8_388_608
limit_of (Policy number) = 8_388_608

abbrev pub media_wanted : Wanted → MediaType
media_wanted (Page from) = Json
media_wanted (Content id) = Octets
media_wanted (Changeset id) = Octets
media_wanted (Policy number) = Octets

abbrev pub reply_wanted : Wanted → List ℕ → Reply
reply_wanted wanted body = record { status = 200; media = media_wanted wanted; body = body }

abbrev pub IsAnswered : Wanted → List ℕ → List ℕ → List ℕ → Type 0
IsAnswered wanted bytes body rest = IsReply (limit_of wanted) bytes (reply_wanted wanted body) rest

abbrev pub IsUnanswered : Wanted → List ℕ → Type 0
IsUnanswered wanted bytes = (body rest : List ℕ) → ¬ (IsAnswered wanted bytes body rest)

-- ---- what an entry needs

abbrev pub wanted_of : ℕ → LogLine → Option Wanted
wanted_of number (ContentLine x size) = Some (Content x)
wanted_of number (WholeLine x size parts) = None
wanted_of number (ChangesetLine x) = Some (Changeset x)
wanted_of number (BookmarkLine move) = None
wanted_of number (LandingLine caller name old draft moment ids) = None
wanted_of number (PolicyLine caller rules) = Some (Policy number)

abbrev pub IsFetched : Option Wanted → List ℕ → List ℕ → List ℕ → Type 0
IsFetched None bytes fetched rest = (fetched ≡ []) × (rest ≡ bytes)
IsFetched (Some wanted) bytes fetched rest = IsAnswered wanted bytes fetched rest

abbrev pub IsUnfetched : Option Wanted → List ℕ → Type 0
IsUnfetched None bytes = ⊥
IsUnfetched (Some wanted) bytes = IsUnanswered wanted bytes
