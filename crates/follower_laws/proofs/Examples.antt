-- What a server writes, in examples: one that stores a content while it is followed, and one that has nothing.
use Rattle.std.proofs.Common.{◌≡◌, ℕ, false, cond, List, [], ◌∷◌, ◌++◌, refl, sym, ap, subst, append-nil, lit<}
use Rattle.std.specs.Prelude.{Option, None, Some, Result, Ok, Err, MatchOption}
use Rattle.std.specs.Option.{option_or}
use Rattle.sha2.specs.Sha256.{sha256}
use Rattle.byte_fields.specs.Bytes.{IsContent}
use Rattle.changeset_model.specs.Version.{Second}
use Rattle.history_model.specs.History.{Content, Entry, unnumbered, content_len}
use Rattle.history_model.specs.Journal.{Header}
use Rattle.reply_model.specs.Log.{ContentLine}
use Rattle.reply_model.specs.Legal.{IsLegal}
use Rattle.reply_model.specs.Reply.{PutContent, ContentPut, Seen, SeenBytes, Absent, AbsentContent, Sees, seen_log}
use Rattle.reply_model.specs.After.{Looks}
use Rattle.reply_model.proofs.Parents.{same_id}
use Rattle.session_model.specs.Responses.{text_of}
use Rattle.session_model.specs.Asking.{response}
use Rattle.follower.specs.declared.wanted.Wanted.{Wanted}
use Rattle.follower.specs.declared.wanted.Wanted.TheVariants as wants
use Rattle.follower_laws.specs.Endings.{IsBehind}
use Rattle.follower_laws.specs.Serving.{question_of, answer_of, IsWritten, HasGrown, Serves, Ends, Turns, Fetches}

header : Header
header = record { capacity = 65536; version = Second }

-- the bytes "abc"
abc : List ℕ
abc = 97 ∷ 98 ∷ 99 ∷ []

abbrev text_at : Wanted → Result Seen Absent → List ℕ
text_at wanted result = text_of (response (Looks (question_of wanted)) (answer_of result)) false false

written : (h : List Entry) (wanted : Wanted) (result : Result Seen Absent) → Sees h (question_of wanted) result → IsWritten h wanted (text_at wanted result)
written h wanted result sees = record { result = result; close = false; sees = sees; text_is = refl }

abbrev one : List Entry
one = unnumbered (Content (sha256 abc) 3) ∷ []

one_is_legal : IsLegal header one
unfolding abc header
one_is_legal = ((PutContent abc, ContentPut (sha256 abc), refl, refl), tt)

content_is_seen : Sees one (question_of (wants.Content (sha256 abc))) (Ok (SeenBytes abc))
unfolding abc
content_is_seen =
    let x = sha256 abc in
    let known : content_len one x ≡ Some 3 = ap (λ b. option_or (cond b (Some 3) None) None) (same_id x) in
    subst (λ (o : Option ℕ). MatchOption o (Ok (SeenBytes abc) ≡ Err (AbsentContent x)) (λ n. (bytes : List ℕ) × (◌≡◌ {A = Result Seen Absent} (Ok (SeenBytes abc)) (Ok (SeenBytes bytes))) × IsContent x n bytes)) (sym known) (abc, refl, (refl, refl))

abbrev last_page : List ℕ
last_page = text_at (wants.Page 1) (Ok (seen_log one 1))

abbrev the_content : List ℕ
the_content = text_at (wants.Content (sha256 abc)) (Ok (SeenBytes abc))

abbrev first_page : List ℕ
first_page = text_at (wants.Page 0) (Ok (seen_log one 0))

no_growth : HasGrown header one one
no_growth = record { more = ([], refl); legal = one_is_legal }

ends_there : Serves header one 1 [] last_page one
ends_there = Ends one one 1 last_page last_page [] no_growth refl (written one (wants.Page 1) (Ok (seen_log one 1)) refl) (sym (append-nil last_page))

content_is_served : Serves header one 0 (ContentLine (sha256 abc) 3 ∷ []) (the_content ++ last_page) one
content_is_served = Fetches one one one 0 (ContentLine (sha256 abc) 3) [] (wants.Content (sha256 abc)) (the_content ++ last_page) the_content last_page refl no_growth (written one (wants.Content (sha256 abc)) (Ok (SeenBytes abc)) content_is_seen) refl ends_there

a_content_is_served : Serves header [] 0 [] (first_page ++ (the_content ++ last_page)) one
a_content_is_served =
    Turns [] one one 0 (first_page ++ (the_content ++ last_page)) first_page (the_content ++ last_page) (record { more = (one, refl); legal = one_is_legal }) (lit< tt) (written one (wants.Page 0) (Ok (seen_log one 0)) refl) refl content_is_served

-- an empty repository is behind it
an_empty_file_is_behind : IsBehind header header [] [] (first_page ++ (the_content ++ last_page)) one
unfolding header
an_empty_file_is_behind = record { second = refl; up = refl; header = refl; front = ([], refl); serves = a_content_is_served }
