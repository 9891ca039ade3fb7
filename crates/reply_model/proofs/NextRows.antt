-- Worked examples of copies, wholes, merges, deletions and policies, which hold by computing, digests included.
use Rattle.std.specs.Prelude.{◌≡◌, ℕ, List, [], ◌∷◌, ◌++◌, length, take, drop, codes, Option, Some, None, Result, Ok, Err, option_map, ℤ, pos, refl}
use Rattle.std.specs.Str.{is_utf8, chars}
use Rattle.std.specs.Option.{option_and_then}
use Rattle.sha2.specs.Sha256.{sha256, digest_bytes, hash_after, compress, rounds, schedule, first_words}
use Rattle.byte_fields.specs.Bytes.{Id, last_of}
use Rattle.changeset_model.specs.Version.{First, Second}
use Rattle.changeset_model.specs.Path.{Path, elements}
use Rattle.changeset_model.specs.Changeset.{Changeset, FileChange, Set, spelling, id_of}
use Rattle.changeset_model.specs.Decoding.{decoded, DecodeFault}
use Rattle.changeset_model.specs.Decoding as reading
use Rattle.history_model.specs.History.{Body, Entry, Content, Whole, Change, Book, Land, Policy, Fault, known, content_len}
use Rattle.history_model.specs.Past.{past}
use Rattle.history_model.specs.Journal.{Header, payload_len, record_len}
use Rattle.manifest_model.specs.Unode.{unode_bytes}
use Rattle.manifest_model.specs.Merged.{unode_at}
use Rattle.manifest_model.specs.Deleted.{deleted, deleted_bytes, path_log}
use Rattle.reply_model.specs.Reply.{PutContent, PutWhole, PutChangeset, SetBookmark, LandDraft, SetPolicy, Refusal, Judged, ContentPut, WholePut, Landed, PolicySet, Unresolved, Moved, MergeInStack, MergeInRange, Denied, BadParts, NoPiece, NotAPiece, OldFormat, BadPolicy, SeenBytes, NoPolicy, seen_policy, judge}
use Rattle.history_model.specs.Tree.{files_of}
use Rattle.policy_model.specs.Examples.{lib_policy, ann_policy}
use Rattle.reply_model.specs.Opening.{nobody}
use Rattle.reply_model.proofs.Examples.{by_a, on, abc, set_abc, set_nil, delete, B, X, main, uploads, starting, entry_made, after}

-- ---- copies

abbrev a_copy : ℕ → Path × FileChange
a_copy place = (elements (codes "q"), Set abc (Some (record { parent = place; path = elements (codes "p") })))

abbrev copying : ℕ → Changeset
copying place = record { version = Second; parents = id_of B ∷ []; author = codes "a"; seconds = pos 0; offset = pos 0; message = []; changes = a_copy place ∷ [] }

copy_is_long : length (spelling (copying 0)) ≡ 108
unfolding sha256 digest_bytes hash_after compress rounds schedule first_words
copy_is_long = refl

copy_is_read : decoded (spelling (copying 0)) ≡ Ok (copying 0)
unfolding is_utf8 chars lib.Utf8.encode sha256 digest_bytes hash_after compress rounds schedule first_words
copy_is_read = refl

no_such_place : decoded (spelling (copying 1)) ≡ Err (reading.BadEncoding 104)
unfolding is_utf8 chars lib.Utf8.encode sha256 digest_bytes hash_after compress rounds schedule first_words
no_such_place = refl

no_third_version : decoded (0x43 ∷ 3 ∷ drop 2 (spelling B)) ≡ Err (reading.BadEncoding 1)
unfolding is_utf8 chars lib.Utf8.encode
no_third_version = refl

abbrev made_of : Result Judged Refusal → Option (ℕ × ℤ)
made_of (Ok judged) = option_and_then size_of judged.made
  where
    size_of : Body → Option (ℕ × ℤ)
    size_of (Content x n) = None
    size_of (Whole x n parts) = None
    size_of (Change c) = None
    size_of (Book move) = None
    size_of (Land landing) = option_map (λ c. (payload_len (Land landing), c.seconds)) (last_of landing.new)
    size_of (Policy caller text) = None
    size_of (Fault breaking) = None
made_of (Err refusal) = None

-- it lands at the moment, with a payload of 192 bytes
copy_lands : made_of (judge (record { capacity = 65536; version = First }) (starting B (copying 0 ∷ [])) (LandDraft nobody main (id_of (copying 0)) 1000)) ≡ Some (192, pos 1000)
unfolding is_utf8 chars lib.Utf8.encode sha256 digest_bytes hash_after compress rounds schedule first_words
copy_lands = refl

-- ---- wholes

abbrev second : Header
second = record { capacity = 65536; version = Second }

abbrev ABC : Id
ABC = sha256 (codes "abc")

abbrev NIL : Id
NIL = sha256 []

abbrev with_abc : List Entry
with_abc = entry_made (judge second [] (PutContent (codes "abc")))

whole_is_made : judge second with_abc (PutWhole (ABC ++ ABC) (codes "abc" ∷ codes "abc" ∷ [])) ≡ Ok (record { granted = WholePut (sha256 (codes "abcabc")) 6; made = Some (Whole (sha256 (codes "abcabc")) 6 (ABC ∷ ABC ∷ [])) })
unfolding sha256 digest_bytes hash_after compress rounds schedule first_words
whole_is_made = refl

whole_takes : record_len (Whole (sha256 (codes "abcabc")) 6 (ABC ∷ ABC ∷ [])) ≡ 112
unfolding sha256 digest_bytes hash_after compress rounds schedule first_words
whole_takes = refl

no_piece : judge second with_abc (PutWhole (ABC ++ NIL) (codes "abc" ∷ [] ∷ [])) ≡ Err (NoPiece NIL)
unfolding sha256 digest_bytes hash_after compress rounds schedule first_words
no_piece = refl

bad_parts : judge second with_abc (PutWhole (take 31 ABC) []) ≡ Err (BadParts 31)
unfolding sha256 digest_bytes hash_after compress rounds schedule first_words
bad_parts = refl

old_format : judge (record { capacity = 65536; version = First }) with_abc (PutWhole ABC (codes "abc" ∷ [])) ≡ Err OldFormat
unfolding sha256 digest_bytes hash_after compress rounds schedule first_words
old_format = refl

abbrev ABCABC : Id
ABCABC = sha256 (codes "abcabc")

abbrev with_whole : List Entry
with_whole = with_abc ++ entry_made (judge second with_abc (PutWhole (ABC ++ ABC) (codes "abc" ∷ codes "abc" ∷ [])))

-- a whole has a length as a content has, and is no part of another
whole_is_known : content_len with_whole ABCABC ≡ Some 6
unfolding sha256 digest_bytes hash_after compress rounds schedule first_words
whole_is_known = refl

not_a_piece : judge second with_whole (PutWhole (ABC ++ ABCABC) (codes "abc" ∷ codes "abcabc" ∷ [])) ≡ Err (NotAPiece ABCABC)
unfolding sha256 digest_bytes hash_after compress rounds schedule first_words
not_a_piece = refl

-- all that is unknown comes first
no_piece_first : judge second with_whole (PutWhole (ABCABC ++ NIL) (codes "abcabc" ∷ [] ∷ [])) ≡ Err (NoPiece NIL)
unfolding sha256 digest_bytes hash_after compress rounds schedule first_words
no_piece_first = refl

whole_again : judge second with_whole (PutWhole (ABC ++ ABC) (codes "abc" ∷ codes "abc" ∷ [])) ≡ Ok (record { granted = WholePut ABCABC 6; made = None })
unfolding sha256 digest_bytes hash_after compress rounds schedule first_words
whole_again = refl

content_again : judge second with_whole (PutContent (codes "abcabc")) ≡ Ok (record { granted = ContentPut ABCABC; made = None })
unfolding sha256 digest_bytes hash_after compress rounds schedule first_words
content_again = refl

-- joined with the empty content it is itself
joined_with_nothing : judge second (with_abc ++ entry_made (judge second with_abc (PutContent []))) (PutWhole (ABC ++ NIL) (codes "abc" ∷ [] ∷ [])) ≡ Ok (record { granted = WholePut ABC 3; made = None })
unfolding sha256 digest_bytes hash_after compress rounds schedule first_words
joined_with_nothing = refl

-- ---- merges

abbrev Y : Changeset
Y = on B (set_abc (codes "y") ∷ [])

abbrev X1 : Changeset
X1 = on B (set_nil (codes "x") ∷ [])

abbrev merge_of : Changeset → Changeset → List (Path × FileChange) → Changeset
merge_of c d changes = by_a (id_of c ∷ id_of d ∷ []) changes

abbrev M : Changeset
M = merge_of X Y []

abbrev merged : List Entry
merged = starting B (X ∷ Y ∷ X1 ∷ M ∷ [])

merge_is_long : length (spelling M) ≡ 90
unfolding sha256 digest_bytes hash_after compress rounds schedule first_words
merge_is_long = refl

merge_has_two_parents : length (unode_bytes (unode_at (past (known merged) (id_of M)) [])) ≡ 173
unfolding is_utf8 chars lib.Utf8.encode sha256 digest_bytes hash_after compress rounds schedule first_words
merge_has_two_parents = refl

not_resolved : judge second merged (PutChangeset (spelling (merge_of X X1 []))) ≡ Err (Unresolved (elements (codes "x")))
unfolding is_utf8 chars lib.Utf8.encode sha256 digest_bytes hash_after compress rounds schedule first_words
not_resolved = refl

abbrev resolved : Changeset
resolved = merge_of X X1 (set_abc (codes "x") ∷ [])

resolved_has_two_parents : length (unode_bytes (unode_at (past (known (starting B (X ∷ X1 ∷ resolved ∷ []))) (id_of resolved)) (elements (codes "x")))) ≡ 164
unfolding is_utf8 chars lib.Utf8.encode sha256 digest_bytes hash_after compress rounds schedule first_words
resolved_has_two_parents = refl

-- the tree of a merge has the files of both parents, and keeps the nodes that they don't differ in
both_are_there : files_of (known merged) (id_of M) ≡ (elements (codes "x"), abc) ∷ (elements (codes "y"), abc) ∷ []
unfolding is_utf8 chars lib.Utf8.encode sha256 digest_bytes hash_after compress rounds schedule first_words
both_are_there = refl

node_is_kept : unode_at (past (known merged) (id_of M)) (elements (codes "x")) ≡ unode_at (past (known merged) (id_of X)) (elements (codes "x"))
unfolding is_utf8 chars lib.Utf8.encode sha256 digest_bytes hash_after compress rounds schedule first_words
node_is_kept = refl

abbrev on_first : Changeset
on_first = on X (set_nil (codes "z") ∷ [])

abbrev on_merge : Changeset
on_merge = on M (set_nil (codes "z") ∷ [])

-- where `main` is at the merge, and where it is before it
abbrev at_merge : List Entry
at_merge = after merged (uploads (on_first ∷ on_merge ∷ []) ++ SetBookmark nobody main (Some (id_of B)) (Some (id_of M)) ∷ [])

merge_in_range : judge second at_merge (LandDraft nobody main (id_of on_first) 0) ≡ Err (MergeInRange (id_of M))
unfolding is_utf8 chars lib.Utf8.encode sha256 digest_bytes hash_after compress rounds schedule first_words
merge_in_range = refl

lands_on_a_merge : judge second at_merge (LandDraft nobody main (id_of on_merge) 0) ≡ Ok (record { granted = Landed (id_of M) (id_of on_merge ∷ []); made = Some (Land (record { name = main; old = id_of M; draft = id_of on_merge; new = on_merge ∷ []; moment = None; caller = None })) })
unfolding is_utf8 chars lib.Utf8.encode sha256 digest_bytes hash_after compress rounds schedule first_words
lands_on_a_merge = refl

merge_in_stack : judge second (after merged (uploads (on_merge ∷ []))) (LandDraft nobody main (id_of on_merge) 0) ≡ Err (MergeInStack (id_of M))
unfolding is_utf8 chars lib.Utf8.encode sha256 digest_bytes hash_after compress rounds schedule first_words
merge_in_stack = refl

-- ---- deletions

abbrev set_first : Changeset
set_first = by_a [] (set_abc (codes "p") ∷ [])

abbrev then_deleted : Changeset
then_deleted = on set_first (delete (codes "p") ∷ [])

abbrev set_anew : Changeset
set_anew = on then_deleted (set_nil (codes "p") ∷ [])

abbrev three : List Entry
three = starting set_first (then_deleted ∷ set_anew ∷ [])

abbrev gone_at : Changeset → Path → ℕ
gone_at c d = length (deleted_bytes (deleted (past (known three) (id_of c)) d))

deleted_lengths : gone_at set_anew [] ∷ gone_at then_deleted [] ∷ gone_at then_deleted (elements (codes "p")) ∷ [] ≡ 7 ∷ 41 ∷ 39 ∷ []
unfolding is_utf8 chars lib.Utf8.encode sha256 digest_bytes hash_after compress rounds schedule first_words
deleted_lengths = refl

logged : path_log (past (known three) (id_of set_anew)) (elements (codes "p")) ≡ id_of set_anew ∷ id_of then_deleted ∷ id_of set_first ∷ []
unfolding is_utf8 chars lib.Utf8.encode sha256 digest_bytes hash_after compress rounds schedule first_words
logged = refl

-- ---- policies

abbrev ann : List ℕ
ann = codes "ann"

abbrev bob : List ℕ
bob = codes "bob"

abbrev in_lib : Changeset
in_lib = on B (set_abc (codes "lib/x") ∷ [])

abbrev beside_lib : Changeset
beside_lib = on B (set_abc (codes "libx") ∷ [])

abbrev under : List ℕ → List Entry
under text = starting B (in_lib ∷ beside_lib ∷ []) ++ entry_made (judge second (starting B (in_lib ∷ beside_lib ∷ [])) (SetPolicy ann text))

abbrev landed_by : Option (List ℕ) → Changeset → Result Judged Refusal
landed_by caller c = Ok (record { granted = Landed (id_of B) (id_of c ∷ []); made = Some (Land (record { name = main; old = id_of B; draft = id_of c; new = c ∷ []; moment = None; caller = caller })) })

-- its number is that of the entries before it: two contents, three changesets and a move
policy_is_set : judge second (starting B (in_lib ∷ beside_lib ∷ [])) (SetPolicy ann lib_policy) ≡ Ok (record { granted = PolicySet 6; made = Some (Policy ann lib_policy) })
unfolding is_utf8 chars lib.Utf8.encode sha256 digest_bytes hash_after compress rounds schedule first_words
policy_is_set = refl

policy_takes : record_len (Policy ann lib_policy) ≡ 46
policy_takes = refl

other_denied : judge second (under lib_policy) (LandDraft bob main (id_of in_lib) 0) ≡ Err (Denied (codes "lib" ∷ codes "x" ∷ []) (Some 1))
unfolding is_utf8 chars lib.Utf8.encode sha256 digest_bytes hash_after compress rounds schedule first_words
other_denied = refl

caller_lands : judge second (under lib_policy) (LandDraft ann main (id_of in_lib) 0) ≡ landed_by (Some ann) in_lib
unfolding is_utf8 chars lib.Utf8.encode sha256 digest_bytes hash_after compress rounds schedule first_words
caller_lands = refl

told_landing_is_long : payload_len (Land (record { name = main; old = id_of B; draft = id_of in_lib; new = in_lib ∷ []; moment = None; caller = Some ann })) ≡ 188
unfolding sha256 digest_bytes hash_after compress rounds schedule first_words
told_landing_is_long = refl

other_lands_beside : judge second (under lib_policy) (LandDraft bob main (id_of beside_lib) 0) ≡ landed_by (Some bob) beside_lib
unfolding is_utf8 chars lib.Utf8.encode sha256 digest_bytes hash_after compress rounds schedule first_words
other_lands_beside = refl

none_told : judge second (starting B (in_lib ∷ beside_lib ∷ [])) (LandDraft bob main (id_of in_lib) 0) ≡ landed_by None in_lib
unfolding is_utf8 chars lib.Utf8.encode sha256 digest_bytes hash_after compress rounds schedule first_words
none_told = refl

-- also where the move would change nothing, but only from where the bookmark is
no_rule : judge second (under ann_policy) (SetBookmark bob main (Some (id_of B)) (Some (id_of B))) ≡ Err (Denied (codes ".bookmarks" ∷ main ∷ []) None)
unfolding is_utf8 chars lib.Utf8.encode sha256 digest_bytes hash_after compress rounds schedule first_words
no_rule = refl

moved_first : judge second (under ann_policy) (SetBookmark bob main None (Some (id_of B))) ≡ Err (Moved (Some (id_of B)))
unfolding is_utf8 chars lib.Utf8.encode sha256 digest_bytes hash_after compress rounds schedule first_words
moved_first = refl

no_other_policy : judge second (under ann_policy) (SetPolicy bob lib_policy) ≡ Err (Denied (codes ".policy" ∷ []) None)
unfolding is_utf8 chars lib.Utf8.encode sha256 digest_bytes hash_after compress rounds schedule first_words
no_other_policy = refl

bad_policy : judge second (under ann_policy) (SetPolicy bob (codes "allow ann")) ≡ Err (BadPolicy 0)
unfolding is_utf8 chars lib.Utf8.encode sha256 digest_bytes hash_after compress rounds schedule first_words
bad_policy = refl

policy_of_old_format : judge (record { capacity = 65536; version = First }) with_abc (SetPolicy ann (codes "allow ann")) ≡ Err OldFormat
unfolding sha256 digest_bytes hash_after compress rounds schedule first_words
policy_of_old_format = refl

policies_seen : seen_policy (under lib_policy) None ∷ seen_policy (under lib_policy) (Some 6) ∷ seen_policy (under lib_policy) (Some 5) ∷ seen_policy with_abc None ∷ [] ≡ Ok (SeenBytes lib_policy) ∷ Ok (SeenBytes lib_policy) ∷ Err NoPolicy ∷ Err NoPolicy ∷ []
unfolding is_utf8 chars lib.Utf8.encode sha256 digest_bytes hash_after compress rounds schedule first_words
policies_seen = refl
