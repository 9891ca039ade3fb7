-- Small cases of the definitions, computed.
use Rattle.std.proofs.Common.{◌≡◌, ℕ, ◌<◌, true, false, refl, List, [], ◌∷◌, ◌++◌, codes, None, Some, take}
use Rattle.httparse.specs.Ascii.{crlf_bytes}
use Rattle.httparse.proofs.OnLiterals.{httparse_on_literals}
use Rattle.httparse.specs.Grammar.{crlf, Field, IsField, is_token_byte, is_value_byte, is_uri_byte, RequestHead, IsRequestHead}
use Rattle.std.proofs.Common.{lit<, lit≤, inr, zero, suc, slice_index}
use Rattle.std.proofs.lemmas.Bool.{agree_below_at}
use Rattle.std.proofs.lemmas.List.Sums.{AllPass-from_list_all}
use Rattle.std.proofs.lemmas.List.Elements.{All-cons, All-nil}
use Rattle.std.proofs.lemmas.Str.{IsUtf8-from_ascii}
use Rattle.http_model.specs.declared.head_refusal.HeadRefusal.TheVariants.{TransferEncoding, BadLength, NoLength, BodyTooLarge}
use Rattle.http_model.specs.Head.{Head, Header, Absent, Given, Several, caller_of, closes, path_of, lengths_of, body_length, refusal_of}
use Rattle.http_model.specs.Stream.{Whole, Partial, skip_blank, ends_head, IsHeadEnd, after_head, Begins}

-- ---- empty lines, and the end of a head

empty_lines : skip_blank (13 ∷ 10 ∷ 10 ∷ 13 ∷ 71 ∷ []) ≡ 13 ∷ 71 ∷ []
empty_lines = refl

one_carriage_return : skip_blank (13 ∷ 10 ∷ 13 ∷ []) ≡ 13 ∷ []
one_carriage_return = refl

two_line_feeds : ends_head (codes "GET" ++ 10 ∷ 10 ∷ []) ≡ true
two_line_feeds = refl

an_empty_line : ends_head (codes "GET" ++ crlf_bytes ++ crlf_bytes) ≡ true
an_empty_line = refl

one_line : ends_head (codes "GET" ++ crlf_bytes) ≡ false
one_line = refl

-- ---- what a head asks for

put : List Header → Head
put headers = record { method = codes "PUT"; target = codes "/content?x"; minor = 1; headers = headers }

length_of : List ℕ → Header
length_of text = (codes "Content-Length", text)

the_path : path_of (codes "/content?x") ≡ codes "/content"
the_path = refl

three_bytes : refusal_of (put (length_of (codes "3") ∷ [])) ≡ None
unfolding put length_of
three_bytes = refl

three : body_length (lengths_of (put (length_of (codes "3") ∷ []))) ≡ 3
unfolding put length_of
three = refl

two_lengths : refusal_of (put (length_of (codes "3") ∷ length_of (codes "3") ∷ [])) ≡ Some BadLength
unfolding put length_of
two_lengths = refl

a_sign : refusal_of (put (length_of (codes "+3") ∷ [])) ≡ Some BadLength
unfolding put length_of
a_sign = refl

no_length : refusal_of (put []) ≡ Some NoLength
unfolding put
no_length = refl

one_byte_too_many : refusal_of (put (length_of (codes "1048577") ∷ [])) ≡ Some BodyTooLarge
unfolding put length_of
one_byte_too_many = refl

chunked : refusal_of (put ((codes "transfer-ENCODING", codes "chunked") ∷ length_of (codes "x") ∷ [])) ≡ Some TransferEncoding
unfolding put length_of
chunked = refl

-- ---- who stores, and who asks

put_at : List ℕ → Head
put_at target = record { method = codes "PUT"; target = target; minor = 1; headers = [] }

a_whole_without_a_length : refusal_of (put_at (codes "/whole")) ≡ Some NoLength
unfolding put_at
a_whole_without_a_length = refl

a_policy_without_a_length : refusal_of (put_at (codes "/policy?x")) ≡ Some NoLength
unfolding put_at
a_policy_without_a_length = refl

a_bookmark_without_a_length : refusal_of (put_at (codes "/bookmark/main/none/none")) ≡ None
unfolding put_at
a_bookmark_without_a_length = refl

caller_is : List ℕ → Header
caller_is name = (codes "CALLER", name)

no_caller : caller_of (put (length_of (codes "3") ∷ [])) ≡ Absent
unfolding put length_of
no_caller = refl

ann_asks : caller_of (put (length_of (codes "3") ∷ caller_is (codes "ann") ∷ [])) ≡ Given (codes "ann")
unfolding put length_of caller_is
ann_asks = refl

two_ask : caller_of (put (caller_is (codes "ann") ∷ caller_is (codes "ann") ∷ [])) ≡ Several
unfolding put caller_is
two_ask = refl

asks_to_close : closes (put ((codes "connection", codes "keep-alive , CLOSE") ∷ [])) ≡ true
unfolding put httparse_on_literals
asks_to_close = refl

asks_for_no_close : closes (put ((codes "connection", codes "closed") ∷ [])) ≡ false
unfolding put httparse_on_literals
asks_for_no_close = refl

-- ---- after a head of two bytes

with_its_body : after_head (codes "HHabcGET") 2 (Some (put (length_of (codes "3") ∷ [])))
    ≡ Whole record { method = codes "PUT"; target = codes "/content?x"; minor = 1; caller = Absent; close = false; body = codes "abc" } (codes "GET")
unfolding put length_of httparse_on_literals
with_its_body = refl

without_its_body : after_head (codes "HHab") 2 (Some (put (length_of (codes "3") ∷ []))) ≡ Partial 4
unfolding put length_of
without_its_body = refl

-- ---- a whole request, and the bytes after it

host : Field
host = record { name = codes "Host"; raw = codes " x"; end = crlf }

tree : RequestHead
tree = record {
  blank = [];
  method = codes "GET";
  target = codes "/a";
  minor = 1;
  line_end = crlf;
  fields = host ∷ [];
  last = crlf;
}

bytes : List ℕ
bytes = codes "GET /a HTTP/1.1" ++ crlf_bytes ++ codes "Host: x" ++ crlf_bytes ++ crlf_bytes ++ codes "POST"

is_host : IsField host
unfolding host httparse_on_literals
is_host = record { name = (lit< tt, AllPass-from_list_all is_token_byte (codes "Host") refl); raw = AllPass-from_list_all is_value_byte (codes " x") refl }

is_ascii : (i : ℕ) → slice_index (47 ∷ 97 ∷ []) i < 128
is_ascii zero = lit< tt
is_ascii (suc zero) = lit< tt
is_ascii (suc (suc i)) = lit< tt

is_tree : IsRequestHead tree
unfolding tree host httparse_on_literals
is_tree = record {
  method = (lit< tt, AllPass-from_list_all is_token_byte (codes "GET") refl);
  target = (lit< tt, AllPass-from_list_all is_uri_byte (codes "/a") refl);
  target_text = IsUtf8-from_ascii (47 ∷ 97 ∷ []) is_ascii;
  minor = lit≤ tt;
  fields = All-cons IsField host [] is_host (All-nil IsField);
}

end : IsHeadEnd bytes 28
unfolding bytes
end = record {
  within = lit≤ tt;
  ends = refl;
  shortest = λ n below. agree_below_at (λ k. ends_head (take k bytes)) (λ k. false) 28 n refl below;
}

a_request : Begins (13 ∷ 10 ∷ bytes) (Whole record { method = codes "GET"; target = codes "/a"; minor = 1; caller = Absent; close = false; body = [] } (codes "POST"))
unfolding bytes tree host httparse_on_literals
a_request = inr record {
  len = 28;
  reading = Some record { method = codes "GET"; target = codes "/a"; minor = 1; headers = (codes "Host", codes "x") ∷ [] };
  end = end;
  fits = lit≤ tt;
  reads = (tree, (is_tree, refl), refl);
  gives = refl;
}
