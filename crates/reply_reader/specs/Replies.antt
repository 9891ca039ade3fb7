-- The replies of a server, as the bytes of a link say them (RFC 9112).
--     Reply      its status, what kind its body is of, and its body
--     Tells limit head status media size      the head is in order, and says this of its reply, whose body has at most limit bytes
--     IsReply limit bytes reply rest      the bytes are this reply and then the rest
--     AwaitsHead bytes      less than a whole head, which may still come;  AwaitsBody limit bytes      a head in order, and less than its body
--     IsUnfinished limit bytes      either
--     IsNoReply limit bytes      no reply begins so, whatever follows
--     Breaks fault limit head      what is wrong with a whole head;  IsCause fault limit bytes      why no reply begins so
use Rattle.std.specs.Prelude.{◌≡◌, ◌≢◌, ℕ, ◌<◌, ◌≤◌, ◌⊎◌, true, List, [], ◌∷◌, ◌++◌, length, map, take, codes}
use Rattle.std.specs.Str.Parse.{digits_value}
use Rattle.httparse.specs.Grammar.{ResponseHead, print_response, status_code, ReadsResponse, HasNoResponse, NeverHasResponse, MayBecomeResponse}
use Rattle.httparse.specs.Spans.{name_and_value}
use Rattle.http_model.specs.Head.{is_decimal, values_of}
use Rattle.http_model.specs.Stream.{most_head}
use Rattle.session_model.specs.Responses.{MediaType, media_name}
use Rattle.reply_reader.specs.declared.reply_fault.ReplyFault.{ReplyFault}
use Rattle.reply_reader.specs.declared.reply_fault.ReplyFault.TheVariants.{BadHead, HeadTooLarge, BadStart, TransferEncoding, BadMedia, BadLength, BodyTooLarge}

pub record Reply : Type 0 where
  pub status : ℕ
  pub media : MediaType
  pub body : List ℕ

-- the values of the headers of this name, in any case
abbrev pub values_in : List ℕ → ResponseHead → List (List ℕ)
values_in name head = values_of name (map name_and_value head.fields)

-- one value, which is a number in decimal digits
abbrev pub IsLength : List (List ℕ) → ℕ → Type 0
IsLength values n = (text : List ℕ) × (values ≡ text ∷ []) × (is_decimal text ≡ true) × (digits_value 10 text ≡ n)

-- the other headers may say what they like, and all may stand in any order
pub record Tells (limit : ℕ) (head : ResponseHead) (status : ℕ) (media : MediaType) (size : ℕ) : Type 0 where
  pub at_once : head.blank ≡ []
  pub version : head.minor ≡ 1
  pub short : length (print_response head) ≤ most_head
  pub status_is : status_code head ≡ status
  pub plain : values_in (codes "transfer-encoding") head ≡ []
  pub media_is : values_in (codes "content-type") head ≡ media_name media ∷ []
  pub size_is : IsLength (values_in (codes "content-length") head) size
  pub most : size ≤ limit

abbrev pub IsReply : ℕ → List ℕ → Reply → List ℕ → Type 0
IsReply limit bytes reply rest = (head : ResponseHead) × Tells limit head reply.status reply.media (length reply.body) × ReadsResponse bytes head (reply.body ++ rest)

-- ---- less than a reply

pub record AwaitsHead (bytes : List ℕ) : Type 0 where
  pub short : length bytes < most_head
  pub none : HasNoResponse bytes
  pub may : MayBecomeResponse bytes

pub record AwaitsBody (limit : ℕ) (bytes : List ℕ) : Type 0 where
  pub head : ResponseHead
  pub status : ℕ
  pub media : MediaType
  pub size : ℕ
  pub tells : Tells limit head status media size
  pub here : List ℕ
  pub reads : ReadsResponse bytes head here
  pub less : length here < size

abbrev pub IsUnfinished : ℕ → List ℕ → Type 0
IsUnfinished limit bytes = AwaitsHead bytes ⊎ AwaitsBody limit bytes

-- ---- no reply

abbrev pub IsNoReply : ℕ → List ℕ → Type 0
IsNoReply limit bytes = (more : List ℕ) (reply : Reply) (rest : List ℕ) → ¬ (IsReply limit (bytes ++ more) reply rest)

abbrev pub Breaks : ReplyFault → ℕ → ResponseHead → Type 0
Breaks BadHead limit head = ⊥
Breaks HeadTooLarge limit head = ⊥
Breaks BadStart limit head = (head.blank ≢ []) ⊎ (head.minor ≢ 1)
Breaks TransferEncoding limit head = values_in (codes "transfer-encoding") head ≢ []
Breaks BadMedia limit head = (media : MediaType) → values_in (codes "content-type") head ≢ media_name media ∷ []
Breaks BadLength limit head = (n : ℕ) → ¬ (IsLength (values_in (codes "content-length") head) n)
Breaks BodyTooLarge limit head = (n : ℕ) × IsLength (values_in (codes "content-length") head) n × (limit < n)

pub record HasBrokenHead (fault : ReplyFault) (limit : ℕ) (bytes : List ℕ) : Type 0 where
  pub head : ResponseHead
  pub rest : List ℕ
  pub reads : ReadsResponse bytes head rest
  pub short : length (print_response head) ≤ most_head
  pub breaks : Breaks fault limit head

abbrev pub IsCause : ReplyFault → ℕ → List ℕ → Type 0
IsCause BadHead limit bytes = NeverHasResponse bytes
IsCause HeadTooLarge limit bytes = (most_head ≤ length bytes) × HasNoResponse (take most_head bytes)
IsCause BadStart limit bytes = HasBrokenHead BadStart limit bytes
IsCause TransferEncoding limit bytes = HasBrokenHead TransferEncoding limit bytes
IsCause BadMedia limit bytes = HasBrokenHead BadMedia limit bytes
IsCause BadLength limit bytes = HasBrokenHead BadLength limit bytes
IsCause BodyTooLarge limit bytes = HasBrokenHead BodyTooLarge limit bytes
