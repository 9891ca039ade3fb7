-- What a server writes is a reply.
use Rattle.std.proofs.Common.{◌≡◌, ℕ, ◌+◌, ◌%◌, ◌^◌, ◌<◌, ◌≤◌, Bool, true, false, IsTrue, refl, List, [], ◌∷◌, ◌++◌, length, reverse, sym, ap, ◌∙◌, arith, lit<, lit≤, codes, Option, None, Some, append_assoc, length-append}
use Rattle.std.specs.Prelude.{All, decimal, option_map}
use Rattle.std.specs.List.{list_all, concat}
use Rattle.std.specs.Char.{is_ascii_digit}
use Rattle.std.specs.Fmt.{digits}
use Rattle.std.specs.Str.Parse.{digits_value}
use Rattle.std.proofs.lemmas.Bool.{cond-false, lt-ltb, le-leb, ne_eqb}
use Rattle.std.proofs.lemmas.Fmt.{decimal_by_steps, decimal_is_IsNumeral, decimal_nonempty, length-decimal-le}
use Rattle.std.proofs.lemmas.List.Folds.{list_all-append}
use Rattle.std.proofs.lemmas.List.Sums.{AllPass-from_list_all}
use Rattle.std.proofs.lemmas.List.Elements.{All-cons, All-nil, All-head, All-tail}
use Rattle.httparse.proofs.OnLiterals.{httparse_on_literals}
use Rattle.httparse.specs.Grammar.{crlf, AllPass, is_token_byte, is_value_byte, is_ows, skip_ows, trim_ows, Field, IsField, ResponseHead, IsResponseHead, print_response}
use Rattle.httparse.proofs.GrammarLemmas.{print_response-append}
use Rattle.httparse.proofs.TrimLemmas.{AllPass-reverse, trim_ows_space}
use Rattle.http_model.specs.Head.{is_decimal}
use Rattle.http_wire.proofs.HeadLemmas.{append_none}
use Rattle.session_model.specs.declared.status.Status.{Status}
use Rattle.session_model.specs.declared.status.Status.TheVariants.{Fine, BadRequest, Forbidden, NotFound, MethodNotAllowed, Conflict, LengthRequired, ContentTooLarge, UnprocessableContent, HeaderFieldsTooLarge, InternalServerError, NotImplemented, ServiceUnavailable, InsufficientStorage}
use Rattle.session_model.specs.declared.method.Methods.{Methods}
use Rattle.session_model.specs.declared.method.Method.TheVariants.{Get, Post, Put}
use Rattle.session_model.specs.declared.method.Methods.TheVariants.{One, GetAndPut}
use Rattle.session_model.specs.Methods.{methods_text}
use Rattle.session_model.specs.Statuses.{number_of, reason_of}
use Rattle.session_model.specs.Responses as responses
use Rattle.session_model.specs.Responses.{MediaType, Json, Octets, media_name, Response, head_text, text_of}
use Rattle.reply_reader.specs.Replies.{values_in, Tells, IsReply}
use Rattle.reply_reader.specs.Fronts.{response_reply}

-- ---- decimal numbers

is_digits : (n : ℕ) → n < 2 ^ 64 → list_all is_ascii_digit (decimal n) ≡ true
is_digits = decimal_by_steps (λ n ds. list_all is_ascii_digit ds ≡ true) one more
  where
    one : (n : ℕ) → n < 10 → list_all is_ascii_digit ((48 + n) ∷ []) ≡ true
    one n low = let above : 48 ≤ 48 + n = omega arith in let below : 48 + n ≤ 57 = omega arith in rw (le-leb 48 (48 + n) above, le-leb (48 + n) 57 below) refl

    more : (n : ℕ) (ds : List ℕ) → 10 ≤ n → list_all is_ascii_digit ds ≡ true → list_all is_ascii_digit (ds ++ ((48 + n % 10) ∷ [])) ≡ true
    more n ds high before =
        let digit = one (n % 10) (omega arith) in
        list_all-append is_ascii_digit ds ((48 + n % 10) ∷ []) ∙ rw (before, digit) refl

digits_pass : (n : ℕ) → n < 2 ^ 64 → AllPass is_ascii_digit (decimal n)
digits_pass n small = AllPass-from_list_all is_ascii_digit (decimal n) (is_digits n small)

digit_range : (b : ℕ) → IsTrue (is_ascii_digit b) → (48 ≤ b) × (b ≤ 57)
digit_range b is = search (arith)

digit_no_blank : (b : ℕ) → IsTrue (is_ascii_digit b) → is_ows b ≡ false
digit_no_blank b is = let range = digit_range b is in rw (ne_eqb b 32 (λ e. omega arith), ne_eqb b 9 (λ e. omega arith)) refl

digit_value_byte : (b : ℕ) → IsTrue (is_ascii_digit b) → IsTrue (is_value_byte b)
digit_value_byte b is = let range = digit_range b is in search (arith)

no_blank_first : (ds : List ℕ) → AllPass is_ascii_digit ds → skip_ows ds ≡ ds
no_blank_first [] pass = refl
no_blank_first (b ∷ ds) pass = cond-false _ _ _ (digit_no_blank b (All-head (λ x. IsTrue (is_ascii_digit x)) b ds pass))

digits_value_bytes : (ds : List ℕ) → AllPass is_ascii_digit ds → AllPass is_value_byte ds
digits_value_bytes [] pass = All-nil (λ x. IsTrue (is_value_byte x))
digits_value_bytes (b ∷ ds) pass =
    All-cons (λ x. IsTrue (is_value_byte x)) b ds (digit_value_byte b (All-head (λ x. IsTrue (is_ascii_digit x)) b ds pass)) (digits_value_bytes ds (All-tail (λ x. IsTrue (is_ascii_digit x)) b ds pass))

trimmed_digits : (n : ℕ) → n < 2 ^ 64 → trim_ows (32 ∷ decimal n) ≡ decimal n
trimmed_digits n small =
    let pass = digits_pass n small in
    trim_ows_space (decimal n) (no_blank_first (decimal n) pass) (no_blank_first (reverse (decimal n)) (AllPass-reverse is_ascii_digit (decimal n) pass))

decimal_is : (n : ℕ) → n < 2 ^ 64 → is_decimal (decimal n) ≡ true
decimal_is n small = rw (lt-ltb 0 (length (decimal n)) (decimal_nonempty n small), is_digits n small) refl

trimmed_media : (media : MediaType) → trim_ows (32 ∷ media_name media) ≡ media_name media
unfolding httparse_on_literals
trimmed_media Json = refl
trimmed_media Octets = refl

-- ---- the head's tree

abbrev field_of : List ℕ → List ℕ → Field
field_of name value = record { name = name; raw = 32 ∷ value; end = crlf }

abbrev allow_fields : Option Methods → List Field
allow_fields None = []
allow_fields (Some methods) = field_of (codes "Allow") (methods_text methods) ∷ []

abbrev close_fields : Bool → List Field
close_fields false = []
close_fields true = field_of (codes "Connection") (codes "close") ∷ []

abbrev fields_of : MediaType → ℕ → Option Methods → Bool → List Field
fields_of media size allow close = field_of (codes "Content-Type") (media_name media) ∷ (field_of (codes "Content-Length") (decimal size) ∷ (allow_fields allow ++ close_fields close))

abbrev tree_of : Status → MediaType → ℕ → Option Methods → Bool → ResponseHead
tree_of status media size allow close = record {
  blank = [];
  minor = 1;
  digits = decimal (number_of status);
  reason = Some (reason_of status);
  line_end = crlf;
  fields = fields_of media size allow close;
  last = crlf;
}

-- ---- its text

abbrev pieces : List ℕ → List ℕ → List ℕ → List ℕ → List ℕ → List ℕ → List ℕ → List ℕ
pieces code reason media size allow close rest = concat (
    concat (codes "HTTP/1.1 " ∷ code ∷ codes " " ∷ reason ∷ responses.crlf ∷ [])
    ∷ responses.field (codes "Content-Type") media
    ∷ responses.field (codes "Content-Length") size
    ∷ allow
    ∷ close
    ∷ responses.crlf
    ∷ []) ++ rest

regroup : (v code sp reason e n c media m size allow close rest : List ℕ)
    → ((v ++ (code ++ (sp ++ (reason ++ (e ++ []))))) ++ ((n ++ (c ++ (media ++ (e ++ [])))) ++ ((m ++ (c ++ (size ++ (e ++ [])))) ++ (allow ++ (close ++ (e ++ [])))))) ++ rest
    ≡ v ++ (code ++ ((sp ++ reason) ++ (e ++ ((((n ++ (c ++ (media ++ e))) ++ ((m ++ (c ++ (size ++ e))) ++ (allow ++ close))) ++ e) ++ rest))))
regroup v code sp reason e n c media m size allow close rest = simp (append_assoc, append_none)

pieces_are : (code reason media size allow close rest : List ℕ) → pieces code reason media size allow close rest
    ≡ codes "HTTP/1.1 " ++ (code ++ ((codes " " ++ reason) ++ (responses.crlf ++ ((((codes "Content-Type" ++ (codes ": " ++ (media ++ responses.crlf))) ++ ((codes "Content-Length" ++ (codes ": " ++ (size ++ responses.crlf))) ++ (allow ++ close))) ++ responses.crlf) ++ rest))))
pieces_are code reason media size allow close rest =
    regroup (codes "HTTP/1.1 ") code (codes " ") reason responses.crlf (codes "Content-Type") (codes ": ") media (codes "Content-Length") size allow close rest

abbrev head_pieces : Status → MediaType → ℕ → Option Methods → Bool → List ℕ → List ℕ
head_pieces status media size allow close rest =
    pieces (decimal (number_of status)) (reason_of status) (media_name media) (decimal size) (responses.allow_field (option_map methods_text allow)) (responses.close_field close) rest

text_is : (status : Status) (media : MediaType) (size : ℕ) (allow : Option Methods) (close : Bool) (rest : List ℕ) → head_pieces status media size allow close rest ≡ print_response (tree_of status media size allow close) ++ rest
text_is status media size None false rest =
    pieces_are (decimal (number_of status)) (reason_of status) (media_name media) (decimal size) [] [] rest ∙ sym (print_response-append (tree_of status media size None false) rest)
text_is status media size (Some methods) false rest =
    pieces_are (decimal (number_of status)) (reason_of status) (media_name media) (decimal size) (responses.field (codes "Allow") (methods_text methods)) [] rest ∙ sym (print_response-append (tree_of status media size (Some methods) false) rest)
text_is status media size None true rest =
    pieces_are (decimal (number_of status)) (reason_of status) (media_name media) (decimal size) [] (responses.field (codes "Connection") (codes "close")) rest ∙ sym (print_response-append (tree_of status media size None true) rest)
text_is status media size (Some methods) true rest =
    pieces_are (decimal (number_of status)) (reason_of status) (media_name media) (decimal size) (responses.field (codes "Allow") (methods_text methods)) (responses.field (codes "Connection") (codes "close")) rest ∙ sym (print_response-append (tree_of status media size (Some methods) true) rest)

-- ---- it is short

pieces_len : (code reason media size allow close : List ℕ) → length code ≤ 3 → length reason ≤ 31 → length media ≤ 24 → length size ≤ 8 → length allow ≤ 17 → length close ≤ 19 → length (pieces code reason media size allow close []) ≤ 200
pieces_len code reason media size allow close a b c d e f = simp length-append (omega arith)

allow_len : (allow : Option Methods) → length (responses.allow_field (option_map methods_text allow)) ≤ 17
allow_len None = lit≤ tt
allow_len (Some (One Get)) = lit≤ tt
allow_len (Some (One Post)) = lit≤ tt
allow_len (Some (One Put)) = lit≤ tt
allow_len (Some GetAndPut) = lit≤ tt

close_len : (close : Bool) → length (responses.close_field close) ≤ 19
close_len false = lit≤ tt
close_len true = lit≤ tt

media_len : (media : MediaType) → length (media_name media) ≤ 24
media_len Json = lit≤ tt
media_len Octets = lit≤ tt

pub record IsPlainStatus (status : Status) : Type 0 where
  pub digits : length (decimal (number_of status)) ≡ 3
  pub all : list_all is_ascii_digit (decimal (number_of status)) ≡ true
  pub value : digits_value 10 (decimal (number_of status)) ≡ number_of status
  pub reason : list_all is_value_byte (reason_of status) ≡ true
  pub short : length (reason_of status) ≤ 31

plain_status : (status : Status) → IsPlainStatus status
unfolding digits
plain_status Fine = record { digits = refl; all = refl; value = refl; reason = refl; short = lit≤ tt }
plain_status BadRequest = record { digits = refl; all = refl; value = refl; reason = refl; short = lit≤ tt }
plain_status Forbidden = record { digits = refl; all = refl; value = refl; reason = refl; short = lit≤ tt }
plain_status NotFound = record { digits = refl; all = refl; value = refl; reason = refl; short = lit≤ tt }
plain_status MethodNotAllowed = record { digits = refl; all = refl; value = refl; reason = refl; short = lit≤ tt }
plain_status Conflict = record { digits = refl; all = refl; value = refl; reason = refl; short = lit≤ tt }
plain_status LengthRequired = record { digits = refl; all = refl; value = refl; reason = refl; short = lit≤ tt }
plain_status ContentTooLarge = record { digits = refl; all = refl; value = refl; reason = refl; short = lit≤ tt }
plain_status UnprocessableContent = record { digits = refl; all = refl; value = refl; reason = refl; short = lit≤ tt }
plain_status HeaderFieldsTooLarge = record { digits = refl; all = refl; value = refl; reason = refl; short = lit≤ tt }
plain_status InternalServerError = record { digits = refl; all = refl; value = refl; reason = refl; short = lit≤ tt }
plain_status NotImplemented = record { digits = refl; all = refl; value = refl; reason = refl; short = lit≤ tt }
plain_status ServiceUnavailable = record { digits = refl; all = refl; value = refl; reason = refl; short = lit≤ tt }
plain_status InsufficientStorage = record { digits = refl; all = refl; value = refl; reason = refl; short = lit≤ tt }

tree_len : (status : Status) (media : MediaType) (size : ℕ) (allow : Option Methods) (close : Bool) → size < 10 ^ 8 → length (print_response (tree_of status media size allow close)) ≤ 16384
tree_len status media size allow close small =
    let plain = plain_status status in
    let code = plain.digits in
    let text = ap length (sym (text_is status media size allow close [])) in
    let whole = length-append (print_response (tree_of status media size allow close)) [] in
    let digits = length-decimal-le 8 size (lit< tt) small (omega arith) in
    let few = pieces_len (decimal (number_of status)) (reason_of status) (media_name media) (decimal size) (responses.allow_field (option_map methods_text allow)) (responses.close_field close) (omega arith) plain.short (media_len media) digits (allow_len allow) (close_len close) in
    omega arith

-- ---- it is a head

is_field : (name value : List ℕ) → 0 < length name → list_all is_token_byte name ≡ true → AllPass is_value_byte value → IsField (field_of name value)
is_field name value some token pass = record {
  name = (some, AllPass-from_list_all is_token_byte name token);
  raw = All-cons (λ x. IsTrue (is_value_byte x)) 32 value refl pass;
}

media_bytes : (media : MediaType) → AllPass is_value_byte (media_name media)
media_bytes Json = AllPass-from_list_all is_value_byte (codes "application/json") refl
media_bytes Octets = AllPass-from_list_all is_value_byte (codes "application/octet-stream") refl

methods_bytes : (methods : Methods) → AllPass is_value_byte (methods_text methods)
methods_bytes (One Get) = AllPass-from_list_all is_value_byte (codes "GET") refl
methods_bytes (One Post) = AllPass-from_list_all is_value_byte (codes "POST") refl
methods_bytes (One Put) = AllPass-from_list_all is_value_byte (codes "PUT") refl
methods_bytes GetAndPut = AllPass-from_list_all is_value_byte (codes "GET, PUT") refl

are_fields : (media : MediaType) (size : ℕ) (allow : Option Methods) (close : Bool) → size < 2 ^ 64 → All IsField (fields_of media size allow close)
unfolding httparse_on_literals
are_fields media size allow close small =
    All-cons IsField (field_of (codes "Content-Type") (media_name media)) (field_of (codes "Content-Length") (decimal size) ∷ (allow_fields allow ++ close_fields close)) (is_field (codes "Content-Type") (media_name media) (lit< tt) refl (media_bytes media))
    (All-cons IsField (field_of (codes "Content-Length") (decimal size)) (allow_fields allow ++ close_fields close) (is_field (codes "Content-Length") (decimal size) (lit< tt) refl (digits_value_bytes (decimal size) (digits_pass size small))) (others allow close))
  where
    closing : (close : Bool) → All IsField (close_fields close)
    closing false = All-nil IsField
    closing true = All-cons IsField (field_of (codes "Connection") (codes "close")) [] (is_field (codes "Connection") (codes "close") (lit< tt) refl (AllPass-from_list_all is_value_byte (codes "close") refl)) (All-nil IsField)

    others : (allow : Option Methods) (close : Bool) → All IsField (allow_fields allow ++ close_fields close)
    others None close = closing close
    others (Some methods) close = All-cons IsField (field_of (codes "Allow") (methods_text methods)) (close_fields close) (is_field (codes "Allow") (methods_text methods) (lit< tt) refl (methods_bytes methods)) (closing close)

is_tree : (status : Status) (media : MediaType) (size : ℕ) (allow : Option Methods) (close : Bool) → size < 2 ^ 64 → IsResponseHead (tree_of status media size allow close)
is_tree status media size allow close small =
    let plain = plain_status status in
    record {
      minor = lit≤ tt;
      digits = (plain.digits, AllPass-from_list_all is_ascii_digit (decimal (number_of status)) plain.all);
      reason = AllPass-from_list_all is_value_byte (reason_of status) plain.reason;
      fields = are_fields media size allow close small;
    }

-- ---- what it says

types : (status : Status) (media : MediaType) (size : ℕ) (allow : Option Methods) (close : Bool) → values_in (codes "content-type") (tree_of status media size allow close) ≡ trim_ows (32 ∷ media_name media) ∷ []
types status media size None false = refl
types status media size None true = refl
types status media size (Some methods) false = refl
types status media size (Some methods) true = refl

lengths : (status : Status) (media : MediaType) (size : ℕ) (allow : Option Methods) (close : Bool) → values_in (codes "content-length") (tree_of status media size allow close) ≡ trim_ows (32 ∷ decimal size) ∷ []
lengths status media size None false = refl
lengths status media size None true = refl
lengths status media size (Some methods) false = refl
lengths status media size (Some methods) true = refl

codings : (status : Status) (media : MediaType) (size : ℕ) (allow : Option Methods) (close : Bool) → values_in (codes "transfer-encoding") (tree_of status media size allow close) ≡ []
codings status media size None false = refl
codings status media size None true = refl
codings status media size (Some methods) false = refl
codings status media size (Some methods) true = refl

tells : (limit : ℕ) (status : Status) (media : MediaType) (size : ℕ) (allow : Option Methods) (close : Bool) → size ≤ limit → limit ≤ 67108864 → Tells limit (tree_of status media size allow close) (number_of status) media size
tells limit status media size allow close fits most =
    let small : size < 2 ^ 64 = omega arith in
    record {
      at_once = refl;
      version = refl;
      short = tree_len status media size allow close (omega arith);
      status_is = (plain_status status).value;
      plain = codings status media size allow close;
      media_is = types status media size allow close ∙ ap (λ v. v ∷ []) (trimmed_media media);
      size_is = (decimal size, lengths status media size allow close ∙ ap (λ v. v ∷ []) (trimmed_digits size small), decimal_is size small, (decimal_is_IsNumeral size small).1);
      most = fits;
    }

pub written_reply : (limit : ℕ) (r : Response) (allow : Option Methods) (close : Bool) (rest : List ℕ) → r.allow ≡ option_map methods_text allow → length r.body ≤ limit → limit ≤ 67108864 → IsReply limit (text_of r close false ++ rest) (response_reply r) rest
written_reply limit r allow close rest told fits most =
    let small : length r.body < 2 ^ 64 = omega arith in
    let text : text_of r close false ++ rest ≡ print_response (tree_of r.status r.media (length r.body) allow close) ++ (r.body ++ rest) =
    append_assoc (head_text r close) r.body rest
    ∙ ap (λ a. pieces (decimal (number_of r.status)) (reason_of r.status) (media_name r.media) (decimal (length r.body)) (responses.allow_field a) (responses.close_field close) (r.body ++ rest)) told
    ∙ text_is r.status r.media (length r.body) allow close (r.body ++ rest) in
    (tree_of r.status r.media (length r.body) allow close, tells limit r.status r.media (length r.body) allow close fits most, (is_tree r.status r.media (length r.body) allow close small, text))
