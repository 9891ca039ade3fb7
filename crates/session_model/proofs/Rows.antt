-- Worked examples of requests and of their responses, which hold by computing.
use Rattle.std.specs.Prelude.{◌≡◌, ℕ, false, List, [], ◌∷◌, ◌++◌, codes, Some, None, Err, refl}
use Rattle.std.specs.Fmt.{digits}
use Rattle.std.specs.List.{concat}
use Rattle.std.specs.Str.{is_utf8, chars}
use Rattle.hex.specs.Hex.{encode_with, decode_pairs}
use Rattle.json.specs.Print.{escape_byte}
use Rattle.percent_encoding.specs.Percent.{percent_decode}
use Rattle.byte_fields.specs.Bytes.{Id}
use Rattle.byte_fields.specs.Reading.{read}
use Rattle.sha2.specs.Sha256.{sha256}
use Rattle.reply_model.specs.Log.{BookmarkLine, PolicyLine}
use Rattle.reply_model.specs.Opening.{nobody}
use Rattle.reply_model.specs.Reply.{PutChangeset, SetPolicy, SetBookmark, LandDraft, PolicySet, WholePut, BadParts, OldFormat, NoPiece, Unresolved, MergeInRange, Denied, BadPolicy, PathLogOf, DeletedOf, PolicyOf, SeenIds, SeenBytes, NoPolicy}
use Rattle.reply_model.specs.After.{Asks, Joins, Looks, Grants, Refuses, Shows, Lacks}
use Rattle.http_model.specs.Head.{CallerField, Absent, Given, Several}
use Rattle.http_model.specs.Stream.{Request}
use Rattle.session_model.specs.declared.status.Status.TheVariants.{Fine, BadRequest, Forbidden, NotFound, Conflict, UnprocessableContent}
use Rattle.session_model.specs.declared.method.Method.TheVariants.{Post}
use Rattle.session_model.specs.declared.method.Methods.TheVariants.{One, GetAndPut}
use Rattle.session_model.specs.Responses.{crlf, text_of}
use Rattle.session_model.specs.Bodies.{json, octets, of_code, line_text}
use Rattle.session_model.specs.Parameters.{bad_caller}
use Rattle.session_model.specs.Stacks.{listed}
use Rattle.session_model.specs.Asking.{Calls, Lists, Fails, asked, refused, response, not_allowed}

-- ---- requests

ask_by : List ℕ → List ℕ → CallerField → List ℕ → Request
ask_by method target caller body = record { method = method; target = target; minor = 1; caller = caller; close = false; body = body }

a_whole : asked (ask_by (codes "PUT") (codes "/whole") Absent (codes "ids")) ≡ Calls (Joins (codes "ids"))
unfolding ask_by is_utf8 chars lib.Utf8.encode
a_whole = refl

a_policy : asked (ask_by (codes "PUT") (codes "/policy") (Given (codes "ann")) (codes "allow ann /")) ≡ Calls (Asks (SetPolicy (codes "ann") (codes "allow ann /")))
unfolding ask_by is_utf8 chars lib.Utf8.encode
a_policy = refl

a_policy_of_nobody : asked (ask_by (codes "PUT") (codes "/policy") Absent []) ≡ Calls (Asks (SetPolicy (codes "anonymous") []))
unfolding ask_by is_utf8 chars lib.Utf8.encode
a_policy_of_nobody = refl

the_policy : asked (ask_by (codes "GET") (codes "/policy?x") Several []) ≡ Calls (Looks (PolicyOf None))
unfolding ask_by is_utf8 chars lib.Utf8.encode
the_policy = refl

the_seventh : asked (ask_by (codes "GET") (codes "/policy/7") Absent []) ≡ Calls (Looks (PolicyOf (Some 7)))
unfolding ask_by is_utf8 chars lib.Utf8.encode percent_decode
the_seventh = refl

two_callers : asked (ask_by (codes "PUT") (codes "/policy") Several []) ≡ Fails bad_caller
unfolding ask_by is_utf8 chars lib.Utf8.encode
two_callers = refl

no_name : asked (ask_by (codes "PUT") (codes "/bookmark/main/none/none") (Given (codes "ann lee")) []) ≡ Fails bad_caller
unfolding ask_by is_utf8 chars lib.Utf8.encode percent_decode
no_name = refl

a_move : asked (ask_by (codes "PUT") (codes "/bookmark/main/none/none") (Given (codes "ann")) []) ≡ Calls (Asks (SetBookmark (codes "ann") (codes "main") None None))
unfolding ask_by is_utf8 chars lib.Utf8.encode percent_decode
a_move = refl

-- a parameter is refused before the caller is
parameters_first : asked (ask_by (codes "POST") (codes "/land/main/x") Several []) ≡ Fails (json BadRequest (codes "{\"code\":\"bad-id\",\"place\":0}"))
unfolding digits ask_by is_utf8 chars lib.Utf8.encode percent_decode
parameters_first = refl

-- the header means nothing to a read
read_by_two : asked (ask_by (codes "GET") (codes "/bookmark/a%20b") Several []) ≡ Fails (json BadRequest (codes "{\"code\":\"bad-name\",\"place\":1}"))
unfolding digits ask_by is_utf8 chars lib.Utf8.encode percent_decode
read_by_two = refl

no_post : asked (ask_by (codes "POST") (codes "/policy") Absent []) ≡ Fails (not_allowed GetAndPut)
unfolding ask_by is_utf8 chars lib.Utf8.encode
no_post = refl

no_post_text : text_of (not_allowed GetAndPut) false false
    ≡ concat (codes "HTTP/1.1 405 Method Not Allowed" ∷ crlf ∷ codes "Content-Type: application/json" ∷ crlf ∷ codes "Content-Length: 17" ∷ crlf ∷ codes "Allow: GET, PUT" ∷ crlf ∷ crlf ∷ codes "{\"code\":\"method\"}" ∷ [])
unfolding digits
no_post_text = refl

no_route_deleted : asked (ask_by (codes "GET") (codes "/deleted/") Absent []) ≡ Fails (of_code NotFound (codes "no-route"))
unfolding ask_by is_utf8 chars lib.Utf8.encode
no_route_deleted = refl

zeros : List ℕ
zeros = codes "0000000000000000000000000000000000000000000000000000000000000000"

zero_id : Id
zero_id = 0 ∷ 0 ∷ 0 ∷ 0 ∷ 0 ∷ 0 ∷ 0 ∷ 0 ∷ 0 ∷ 0 ∷ 0 ∷ 0 ∷ 0 ∷ 0 ∷ 0 ∷ 0 ∷ 0 ∷ 0 ∷ 0 ∷ 0 ∷ 0 ∷ 0 ∷ 0 ∷ 0 ∷ 0 ∷ 0 ∷ 0 ∷ 0 ∷ 0 ∷ 0 ∷ 0 ∷ 0 ∷ []

a_path_log : asked (ask_by (codes "GET") (codes "/pathlog/" ++ zeros ++ codes "/a/p") Several []) ≡ Calls (Looks (PathLogOf zero_id (codes "a" ∷ codes "p" ∷ [])))
unfolding decode_pairs ask_by zeros zero_id is_utf8 chars lib.Utf8.encode percent_decode
a_path_log = refl

a_root_deleted : asked (ask_by (codes "GET") (codes "/deleted/" ++ zeros) Absent []) ≡ Calls (Looks (DeletedOf zero_id []))
unfolding decode_pairs ask_by zeros zero_id is_utf8 chars lib.Utf8.encode percent_decode
a_root_deleted = refl

-- ---- lists of changesets

two_listed : List ℕ
two_listed = 0 ∷ 0 ∷ 0 ∷ 2 ∷ codes "ab" ++ 0 ∷ 0 ∷ 0 ∷ 1 ∷ codes "c"

two_changesets : asked (ask_by (codes "PUT") (codes "/changesets") Several two_listed) ≡ Lists (Asks (PutChangeset (codes "ab")) ∷ Asks (PutChangeset (codes "c")) ∷ [])
unfolding listed two_listed ask_by is_utf8 chars lib.Utf8.encode
two_changesets = refl

a_stack_of_one : asked (ask_by (codes "POST") (codes "/stack/main") (Given (codes "ann")) (0 ∷ 0 ∷ 0 ∷ 1 ∷ codes "c"))
    ≡ Lists (Asks (PutChangeset (codes "c")) ∷ Asks (LandDraft (codes "ann") (codes "main") (sha256 (codes "c")) 0) ∷ [])
unfolding listed ask_by is_utf8 chars lib.Utf8.encode percent_decode
a_stack_of_one = refl

-- the draft is the last of them
a_stack_of_two : asked (ask_by (codes "POST") (codes "/stack/main") (Given (codes "ann")) two_listed)
    ≡ Lists (Asks (PutChangeset (codes "ab")) ∷ Asks (PutChangeset (codes "c")) ∷ Asks (LandDraft (codes "ann") (codes "main") (sha256 (codes "c")) 0) ∷ [])
unfolding listed two_listed ask_by is_utf8 chars lib.Utf8.encode percent_decode
a_stack_of_two = refl

-- the second one has two bytes of three
cut_short : asked (ask_by (codes "PUT") (codes "/changesets") Absent (0 ∷ 0 ∷ 0 ∷ 1 ∷ codes "a" ++ 0 ∷ 0 ∷ 0 ∷ 3 ∷ codes "bc"))
    ≡ Fails (json UnprocessableContent (codes "{\"code\":\"bad-encoding\",\"place\":9}"))
unfolding digits listed ask_by is_utf8 chars lib.Utf8.encode
cut_short = refl

none_listed : asked (ask_by (codes "PUT") (codes "/changesets") Absent []) ≡ Fails (json UnprocessableContent (codes "{\"code\":\"bad-encoding\",\"place\":0}"))
unfolding digits listed ask_by is_utf8 chars lib.Utf8.encode
none_listed = refl

-- where the one too many begins
one_too_many : read (listed 1) two_listed ≡ Err 6
unfolding listed two_listed
one_too_many = refl

-- the name and the caller are refused before the list is
caller_before_list : asked (ask_by (codes "POST") (codes "/stack/main") Several []) ≡ Fails bad_caller
unfolding ask_by is_utf8 chars lib.Utf8.encode percent_decode
caller_before_list = refl

no_put_of_stacks : asked (ask_by (codes "PUT") (codes "/stack/main") Absent two_listed) ≡ Fails (not_allowed (One Post))
unfolding ask_by is_utf8 chars lib.Utf8.encode
no_put_of_stacks = refl

-- ---- refusals

thirty_one_bytes : refused (BadParts 31) ≡ json BadRequest (codes "{\"code\":\"bad-parts\",\"length\":31}")
unfolding digits
thirty_one_bytes = refl

an_old_file : refused OldFormat ≡ json Conflict (codes "{\"code\":\"old-format\"}")
an_old_file = refl

unresolved_x : refused (Unresolved (codes "x" ∷ [])) ≡ json UnprocessableContent (codes "{\"code\":\"unresolved\",\"path\":\"x\"}")
unfolding escape_byte
unresolved_x = refl

bob_is_denied : refused (Denied (codes "lib" ∷ codes "x" ∷ []) (Some 1)) ≡ json Forbidden (codes "{\"code\":\"denied\",\"path\":\"lib/x\",\"rule\":1}")
unfolding digits escape_byte
bob_is_denied = refl

no_rule_speaks : refused (Denied (codes ".bookmarks" ∷ codes "main" ∷ []) None) ≡ json Forbidden (codes "{\"code\":\"denied\",\"path\":\".bookmarks/main\",\"rule\":null}")
unfolding escape_byte
no_rule_speaks = refl

first_line : refused (BadPolicy 0) ≡ json UnprocessableContent (codes "{\"code\":\"bad-policy\",\"line\":0}")
unfolding digits
first_line = refl

a_merge_in_range : refused (MergeInRange zero_id) ≡ json Conflict (codes "{\"code\":\"merge-in-range\",\"id\":\"" ++ zeros ++ codes "\"}")
unfolding encode_with zeros zero_id
a_merge_in_range = refl

no_such_piece : response (Joins []) (Refuses (NoPiece zero_id)) ≡ json UnprocessableContent (codes "{\"code\":\"no-piece\",\"id\":\"" ++ zeros ++ codes "\"}")
unfolding encode_with zeros zero_id
no_such_piece = refl

-- ---- what is granted and seen

six_bytes : response (Joins []) (Grants (WholePut zero_id 6)) ≡ json Fine (codes "{\"code\":\"whole\",\"id\":\"" ++ zeros ++ codes "\",\"size\":6}")
unfolding digits encode_with zeros zero_id
six_bytes = refl

policy_granted : response (Asks (SetPolicy nobody [])) (Grants (PolicySet 3)) ≡ json Fine (codes "{\"code\":\"policy\",\"number\":3}")
unfolding digits
policy_granted = refl

policy_seen : response (Looks (PolicyOf None)) (Shows (SeenBytes (codes "allow * /"))) ≡ octets (codes "allow * /")
policy_seen = refl

no_policy : response (Looks (PolicyOf (Some 7))) (Lacks NoPolicy) ≡ json NotFound (codes "{\"code\":\"no-policy\"}")
no_policy = refl

no_changes : response (Looks (PathLogOf [] [])) (Shows (SeenIds [])) ≡ json Fine (codes "{\"code\":\"path-log\",\"ids\":[]}")
no_changes = refl

-- ---- the log

by_ann : line_text 4 (BookmarkLine (record { name = codes "main"; from = None; to = None; caller = Some (codes "ann") }))
    ≡ codes "{\"caller\":\"ann\",\"from\":null,\"kind\":\"bookmark\",\"name\":\"main\",\"number\":4,\"to\":null}"
unfolding digits
by_ann = refl

three_rules : line_text 3 (PolicyLine (codes "ann") 3) ≡ codes "{\"caller\":\"ann\",\"kind\":\"policy\",\"number\":3,\"rules\":3}"
unfolding digits
three_rules = refl
