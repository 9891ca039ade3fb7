-- What stands at the front of a link's bytes, as the code answers it.
--     reply_of reply      a reply as the definitions see it
--     response_reply r      and so a server's response
--     IsFront limit bytes front      this stands first
use Rattle.std.specs.Prelude.{◌≡◌, ℕ, ◌<◌, List, ◌++◌, length, drop}
use Rattle.httparse.specs.declared.spans.ResponseSpans.{ResponseSpans}
use Rattle.reply_reader.specs.declared.framing.Framing.{Framing}
use Rattle.reply_reader.specs.declared.front.Reply as declared
use Rattle.reply_reader.specs.declared.front.Front.{Front}
use Rattle.reply_reader.specs.declared.front.Front.TheVariants.{Whole, Unfinished, Bad}
use Rattle.reply_reader.specs.declared.reply_fault.ReplyFault.{ReplyFault}
use Rattle.session_model.specs.Responses.{Response}
use Rattle.session_model.specs.Statuses.{number_of}
use Rattle.reply_reader.specs.Heads.{media_of}
use Rattle.reply_reader.specs.Replies.{Reply, IsReply, IsUnfinished, IsCause}

abbrev pub reply_of : declared.Reply → Reply
reply_of reply = record { status = reply.status; media = media_of reply.media; body = reply.body.now }

-- the reply that a server's response is
abbrev pub response_reply : Response → Reply
response_reply r = record { status = number_of r.status; media = r.media; body = r.body }

abbrev pub IsFront : ℕ → List ℕ → Front → Type 0
IsFront limit bytes (Whole reply) = IsReply limit bytes (reply_of reply) reply.rest.now
IsFront limit bytes Unfinished = IsUnfinished limit bytes
IsFront limit bytes (Bad fault) = IsCause fault limit bytes × ¬ (IsUnfinished limit bytes)

-- what follows the head is cut so
abbrev pub Cuts : List ℕ → ResponseSpans → Framing → Front → Type 0
Cuts bytes spans framing (Whole reply) = (reply.status ≡ spans.code) × (reply.media ≡ framing.media) × (length reply.body.now ≡ framing.body) × (drop spans.len bytes ≡ reply.body.now ++ reply.rest.now)
Cuts bytes spans framing Unfinished = length (drop spans.len bytes) < framing.body
Cuts bytes spans framing (Bad fault) = ⊥

-- the front is this reply
abbrev pub IsThis : Reply → List ℕ → Front → Type 0
IsThis reply rest (Whole found) = (reply_of found ≡ reply) × (found.rest.now ≡ rest)
IsThis reply rest Unfinished = ⊥
IsThis reply rest (Bad fault) = ⊥

abbrev pub OnWhole : Front → (declared.Reply → Type 0) → Type 0
OnWhole (Whole reply) P = P reply
OnWhole Unfinished P = Unit {0}
OnWhole (Bad fault) P = Unit {0}

abbrev pub OnUnfinished : Front → Type 0 → Type 0
OnUnfinished (Whole reply) P = Unit {0}
OnUnfinished Unfinished P = P
OnUnfinished (Bad fault) P = Unit {0}

abbrev pub OnBad : Front → (ReplyFault → Type 0) → Type 0
OnBad (Whole reply) P = Unit {0}
OnBad Unfinished P = Unit {0}
OnBad (Bad fault) P = P fault
