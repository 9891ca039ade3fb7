-- A reply, computed: its headers in another order and another case, with one that says nothing to a reader.
use Rattle.std.proofs.Common.{ℕ, refl, List, [], ◌∷◌, ◌++◌, codes, lit<, lit≤, Some}
use Rattle.std.proofs.lemmas.List.Sums.{AllPass-from_list_all}
use Rattle.std.proofs.lemmas.List.Elements.{All-cons, All-nil}
use Rattle.std.specs.Char.{is_ascii_digit}
use Rattle.httparse.specs.Ascii.{crlf_bytes}
use Rattle.httparse.proofs.OnLiterals.{httparse_on_literals}
use Rattle.httparse.specs.Grammar.{crlf, Field, IsField, is_token_byte, is_value_byte, ResponseHead, IsResponseHead}
use Rattle.session_model.specs.Responses.{Json}
use Rattle.reply_reader.specs.declared.reply_fault.ReplyFault.TheVariants.{BadLength}
use Rattle.reply_reader.specs.Replies.{IsReply, Breaks}

line : List ℕ → List ℕ → Field
line name raw = record { name = name; raw = raw; end = crlf }

head_of : List Field → ResponseHead
head_of fields = record {
  blank = [];
  minor = 1;
  digits = codes "404";
  reason = Some (codes "Not Found");
  line_end = crlf;
  fields = fields;
  last = crlf;
}

size : Field
size = line (codes "content-LENGTH") (codes " 19")

server : Field
server = line (codes "Server") (codes "x")

kind : Field
kind = line (codes "Content-Type") (codes " application/json ")

body : List ℕ
body = codes "{\"code\":\"no-route\"}"

bytes : List ℕ
bytes =
    codes "HTTP/1.1 404 Not Found" ++ crlf_bytes ++ codes "content-LENGTH: 19" ++ crlf_bytes ++ codes "Server:x" ++ crlf_bytes ++ codes "Content-Type: application/json " ++ crlf_bytes ++ crlf_bytes
    ++ codes "{\"code\":\"no-route\"}HTTP"

is_head : IsResponseHead (head_of (size ∷ server ∷ kind ∷ []))
unfolding head_of line size server kind httparse_on_literals
is_head = record {
  minor = lit≤ tt;
  digits = (refl, AllPass-from_list_all is_ascii_digit (codes "404") refl);
  reason = AllPass-from_list_all is_value_byte (codes "Not Found") refl;
  fields =
      All-cons IsField size (server ∷ kind ∷ []) (record { name = (lit< tt, AllPass-from_list_all is_token_byte (codes "content-LENGTH") refl); raw = AllPass-from_list_all is_value_byte (codes " 19") refl })
      (All-cons IsField server (kind ∷ []) (record { name = (lit< tt, AllPass-from_list_all is_token_byte (codes "Server") refl); raw = AllPass-from_list_all is_value_byte (codes "x") refl })
      (All-cons IsField kind [] (record { name = (lit< tt, AllPass-from_list_all is_token_byte (codes "Content-Type") refl); raw = AllPass-from_list_all is_value_byte (codes " application/json ") refl }) (All-nil IsField)));
}

a_reply : IsReply 8388608 bytes (record { status = 404; media = Json; body = body }) (codes "HTTP")
unfolding head_of line size server kind body bytes httparse_on_literals
a_reply = (
  head_of (size ∷ server ∷ kind ∷ []),
  record {
    at_once = refl;
    version = refl;
    short = lit≤ tt;
    status_is = refl;
    plain = refl;
    media_is = refl;
    size_is = (codes "19", refl, refl, refl);
    most = lit≤ tt;
  },
  (is_head, refl),
)

-- two lengths are none, even where they are the same
two_lengths : Breaks BadLength 8388608 (head_of (size ∷ size ∷ kind ∷ []))
unfolding head_of line size kind httparse_on_literals
two_lengths = λ n is. let two = is.1 in absurd (cc)
