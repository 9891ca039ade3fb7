-- Worked examples on whole histories, which hold by computing, digests included.
use Rattle.std.specs.Prelude.{◌≡◌, ℕ, ◌+◌, true, false, List, [], ◌∷◌, ◌++◌, length, map, replicate, codes, Option, Some, None, Ok, Err, refl, option_map, take, drop}
use Rattle.std.specs.Str.{is_utf8, chars}
use Rattle.sha2.specs.Sha256.{sha256, digest_bytes, hash_after, compress, rounds, schedule, first_words}
use Rattle.byte_fields.specs.Bytes.{Id}
use Rattle.changeset_model.specs.Path.{Path, text_of, elements}
use Rattle.changeset_model.specs.Changeset.{Changeset, Set, File, Regular, spelling, id_of, touched_paths}
use Rattle.history_model.specs.History.{Landing, Fault, Content, Land, Policy, Entry, unnumbered, Known, with_id, known}
use Rattle.history_model.specs.Chain.{line}
use Rattle.history_model.specs.Tree.{files_of, files}
use Rattle.history_model.specs.Bookmark.{head}
use Rattle.history_model.specs.Pushrebase.{Fork, fork, clash}
use Rattle.history_model.specs.Journal.{payload_len, record_len, size, is_full, Stands, payload}
use Rattle.manifest_model.specs.Fsnode.{fsnode, fsnode_bytes}
use Rattle.manifest_model.specs.Unode.{Unode, Manifest, FileUnode, UnodeFile, UnodeDir, unode, unode_id, unode_bytes}
use Rattle.policy_model.specs.Examples.{ann_policy}
use Rattle.reply_model.specs.Reply.{SetPolicy, ChangesetPut, NoBookmark, NoChangeset, NoRoot, BadEncoding, Down, ContentPut, PutContent, PutChangeset, SetBookmark, LandDraft, BookmarkSet, Landed, judge, NoParent, NoContent, WrongSize, Moved, AlreadyIn, Clash, Full, SeenIds, NoPath, seen_history}
use Rattle.reply_model.specs.Legal.{IsLegal}
use Rattle.reply_model.specs.Opening.{nobody, opens, NotARepository, Damaged}
use Rattle.manifest_model.specs.FileHistory.{file_history}
use Rattle.manifest_model.specs.Manifests.{nodes_of}
use Rattle.reply_model.proofs.Examples.{by_a, set_abc, set_nil, delete, on, B, C, X, S, main, after, starting, uploads}
use Rattle.history_model.specs.Payload.{payload_body}
use Rattle.manifest_model.specs.NodeReading.{fsnode_of, unode_of}
use Rattle.changeset_model.specs.Version.{First, Second}
use Rattle.reply_model.specs.After.{After, Asks, Grants, DiskFault}
use Rattle.core_model.specs.Core.{PlanLanding, Step, Exchange, Look, LayContent, WriteGroup, SyncGroup, OpenGate, Seal, Acknowledge, TakeJob, Settle, Crash, nodes_among, opened, after_steps}

-- ---- a content, and the same again

one_content : after [] (PutContent (codes "abc") ∷ PutContent (codes "abc") ∷ []) ≡ unnumbered (Content (sha256 (codes "abc")) 3) ∷ []
unfolding is_utf8 chars lib.Utf8.encode sha256 digest_bytes hash_after compress rounds schedule first_words
one_content = refl

grows : map (λ asks. size (after [] asks)) ([] ∷ (PutContent (codes "abc") ∷ []) ∷ (PutContent (codes "abc") ∷ PutChangeset (spelling B) ∷ []) ∷ []) ≡ 17 ∷ 26 ∷ 57 ∷ []
unfolding is_utf8 chars lib.Utf8.encode sha256 digest_bytes hash_after compress rounds schedule first_words
grows = refl

-- ---- landings

-- of one changeset on `main`
abbrev landing : Id → Id → Changeset → Landing
landing old draft new = record { name = main; old = old; draft = draft; new = new ∷ []; moment = None; caller = None }

lands_unchanged : judge (record { capacity = 65536; version = First }) (starting B (C ∷ [])) (LandDraft nobody main (id_of C) 0) ≡ Ok (record { granted = Landed (id_of B) (id_of C ∷ []); made = Some (Land (landing (id_of B) (id_of C) C)) })
unfolding is_utf8 chars lib.Utf8.encode sha256 digest_bytes hash_after compress rounds schedule first_words
lands_unchanged = refl

landing_len : (payload_len (Land (landing (id_of B) (id_of C) C)) ≡ 179) × (record_len (Land (landing (id_of B) (id_of C) C)) ≡ 184)
unfolding is_utf8 chars lib.Utf8.encode sha256 digest_bytes hash_after compress rounds schedule first_words
landing_len = (refl, refl)

lands_once : judge (record { capacity = 65536; version = First }) (after (starting B (C ∷ [])) (LandDraft nobody main (id_of C) 0 ∷ [])) (LandDraft nobody main (id_of C) 0) ≡ Err AlreadyIn
unfolding is_utf8 chars lib.Utf8.encode sha256 digest_bytes hash_after compress rounds schedule first_words
lands_once = refl

-- `main` at X, and S a draft beside X
abbrev main_at_X : List Entry
main_at_X = after (starting B (X ∷ S ∷ [])) (SetBookmark nobody main (Some (id_of B)) (Some (id_of X)) ∷ [])

abbrev S_on_X : Changeset
S_on_X = on X (set_nil (codes "y") ∷ [])

lands_behind : judge (record { capacity = 65536; version = First }) main_at_X (LandDraft nobody main (id_of S) 0) ≡ Ok (record { granted = Landed (id_of X) (id_of S_on_X ∷ []); made = Some (Land (landing (id_of X) (id_of S) S_on_X)) })
unfolding is_utf8 chars lib.Utf8.encode sha256 digest_bytes hash_after compress rounds schedule first_words
lands_behind = refl

-- once it has landed
abbrev S_landed : List Entry
S_landed = after main_at_X (LandDraft nobody main (id_of S) 0 ∷ [])

both_files : map (λ f. text_of f.0) (files_of (known S_landed) (id_of S_on_X)) ≡ codes "x" ∷ codes "y" ∷ []
unfolding is_utf8 chars lib.Utf8.encode sha256 digest_bytes hash_after compress rounds schedule first_words
both_files = refl

lands_with_clash : judge (record { capacity = 65536; version = First }) S_landed (LandDraft nobody main (id_of S) 0) ≡ Err (Clash (elements (codes "y")) (elements (codes "y")))
unfolding is_utf8 chars lib.Utf8.encode sha256 digest_bytes hash_after compress rounds schedule first_words
lands_with_clash = refl

-- a changeset without changes lands as often as it is sent, each time on the one before
abbrev empty : Changeset
empty = on B []

abbrev twice_landed : List Entry
twice_landed = after S_landed (PutChangeset (spelling empty) ∷ LandDraft nobody main (id_of empty) 0 ∷ LandDraft nobody main (id_of empty) 0 ∷ [])

lands_twice : (length twice_landed ≡ length S_landed + 3) × (head twice_landed main ≡ Some (id_of (on (on S_on_X []) [])))
unfolding is_utf8 chars lib.Utf8.encode sha256 digest_bytes hash_after compress rounds schedule first_words
lands_twice = (refl, refl)

clash_of_directory : clash (elements (codes "lib/x") ∷ []) (elements (codes "lib") ∷ []) ≡ Some (elements (codes "lib/x"), elements (codes "lib"))
clash_of_directory = refl

least_clash : clash (elements (codes "a") ∷ elements (codes "b/c") ∷ elements (codes "d") ∷ []) (elements (codes "b") ∷ elements (codes "b/c/d") ∷ elements (codes "d") ∷ []) ≡ Some (elements (codes "b/c"), elements (codes "b"))
least_clash = refl

touched_once : map text_of (touched_paths (by_a [] (delete (codes "a") ∷ set_nil (codes "a/b") ∷ []) ∷ by_a [] (set_nil (codes "a.b") ∷ []) ∷ by_a [] (set_nil (codes "a/b") ∷ []) ∷ [])) ≡ codes "a" ∷ codes "a/b" ∷ codes "a.b" ∷ []
touched_once = refl

-- ---- trees

file_becomes_directory : map (λ f. text_of f.0) (files (by_a [] (set_abc (codes "a") ∷ []) ∷ by_a [] (set_abc (codes "a/c") ∷ []) ∷ by_a [] (set_abc (codes "a/b") ∷ []) ∷ [])) ≡ codes "a/b" ∷ codes "a/c" ∷ []
file_becomes_directory = refl

directory_becomes_file : map (λ f. text_of f.0) (files (by_a [] (set_abc (codes "a/b") ∷ set_abc (codes "c") ∷ []) ∷ by_a [] (set_abc (codes "a") ∷ []) ∷ [])) ≡ codes "a" ∷ codes "c" ∷ []
directory_becomes_file = refl

delete_of_directory : map (λ f. text_of f.0) (files (by_a [] (set_abc (codes "a/b") ∷ []) ∷ by_a [] (delete (codes "a") ∷ []) ∷ [])) ≡ codes "a/b" ∷ []
delete_of_directory = refl

-- ---- forks

-- the root, and how long the stack and the range are
abbrev fork_shape : Fork → Id × (ℕ × ℕ)
fork_shape f = (f.root.id, (length f.stack, length f.range))

fork_of_S : option_map fork_shape (fork (known S_landed) (id_of S_on_X) (id_of S)) ≡ Some (id_of B, (1, 2))
unfolding is_utf8 chars lib.Utf8.encode sha256 digest_bytes hash_after compress rounds schedule first_words
fork_of_S = refl

fork_of_head : option_map fork_shape (fork (known S_landed) (id_of X) (id_of S_on_X)) ≡ Some (id_of X, (1, 0))
unfolding is_utf8 chars lib.Utf8.encode sha256 digest_bytes hash_after compress rounds schedule first_words
fork_of_head = refl

no_fork : fork (known (after [] (uploads (B ∷ by_a [] (delete (codes "z") ∷ []) ∷ [])))) (id_of B) (id_of (by_a [] (delete (codes "z") ∷ []))) ≡ None
unfolding is_utf8 chars lib.Utf8.encode sha256 digest_bytes hash_after compress rounds schedule first_words
no_fork = refl

-- ---- manifests

abbrev two_files : List (Path × File)
two_files = files (by_a [] (set_abc (codes "a/x") ∷ set_nil (codes "b") ∷ []) ∷ [])

summaries : (fsnode two_files []).summary ≡ record { child_files_count = 1; child_files_total_size = 0; child_dirs_count = 1; descendant_files_count = 2; descendant_files_total_size = 3 }
unfolding is_utf8 chars lib.Utf8.encode sha256 digest_bytes hash_after compress rounds schedule first_words
summaries = refl

summary_of_a : (fsnode two_files (elements (codes "a"))).summary ≡ record { child_files_count = 1; child_files_total_size = 3; child_dirs_count = 0; descendant_files_count = 1; descendant_files_total_size = 3 }
unfolding is_utf8 chars lib.Utf8.encode sha256 digest_bytes hash_after compress rounds schedule first_words
summary_of_a = refl

fsnode_lens : map (λ d. length (fsnode_bytes (fsnode two_files d))) ([] ∷ elements (codes "a") ∷ []) ≡ 165 ∷ 90 ∷ []
unfolding is_utf8 chars lib.Utf8.encode sha256 digest_bytes hash_after compress rounds schedule first_words
fsnode_lens = refl

empty_fsnode : length (fsnode_bytes (fsnode [] [])) ≡ 46
empty_fsnode = refl

-- set, deleted and set again
abbrev p_set : Changeset
p_set = by_a [] (set_abc (codes "p") ∷ [])

abbrev p_deleted : Changeset
p_deleted = on p_set (delete (codes "p") ∷ [])

abbrev p_set_again : Changeset
p_set_again = on p_deleted (set_abc (codes "p") ∷ [])

abbrev p_thrice : List Entry
p_thrice = after [] (PutContent (codes "abc") ∷ uploads (p_set ∷ p_deleted ∷ p_set_again ∷ []))

set_again : unode (line (known p_thrice) (id_of p_set_again)) (elements (codes "p")) ≡ FileUnode [] (sha256 (codes "abc")) Regular (sha256 (codes "p")) (id_of p_set_again)
unfolding is_utf8 chars lib.Utf8.encode sha256 digest_bytes hash_after compress rounds schedule first_words
set_again = refl

unode_lens : map (λ p. length (unode_bytes (unode (line (known p_thrice) (id_of p_set_again)) p))) (elements (codes "p") ∷ [] ∷ []) ≡ 100 ∷ 106 ∷ []
unfolding is_utf8 chars lib.Utf8.encode sha256 digest_bytes hash_after compress rounds schedule first_words
unode_lens = refl

history_of_p : seen_history p_thrice (id_of p_set_again) (elements (codes "p")) ≡ Ok (SeenIds (id_of p_set_again ∷ []))
unfolding is_utf8 chars lib.Utf8.encode sha256 digest_bytes hash_after compress rounds schedule first_words
history_of_p = refl

deleted_p : seen_history p_thrice (id_of p_deleted) (elements (codes "p")) ≡ Err NoPath
unfolding is_utf8 chars lib.Utf8.encode sha256 digest_bytes hash_after compress rounds schedule first_words
deleted_p = refl

-- ---- room, and where a bookmark stands

fits_exactly : (is_full (record { capacity = 4096; version = First }) [] (1 + 4073) ≡ false) × (judge (record { capacity = 4096; version = First }) [] (PutContent (replicate 4074 0)) ≡ Err (Full 17 4075))
fits_exactly = (refl, refl)

moved : judge (record { capacity = 65536; version = First }) (starting B (X ∷ [])) (SetBookmark nobody main None (Some (id_of X))) ≡ Err (Moved (Some (id_of B)))
unfolding is_utf8 chars lib.Utf8.encode sha256 digest_bytes hash_after compress rounds schedule first_words
moved = refl

stays : judge (record { capacity = 65536; version = First }) (starting B []) (SetBookmark nobody main (Some (id_of B)) (Some (id_of B))) ≡ Ok (record { granted = BookmarkSet; made = None })
unfolding is_utf8 chars lib.Utf8.encode sha256 digest_bytes hash_after compress rounds schedule first_words
stays = refl

unknown_parent : judge (record { capacity = 65536; version = First }) [] (PutChangeset (spelling X)) ≡ Err (NoParent (id_of B))
unfolding is_utf8 chars lib.Utf8.encode sha256 digest_bytes hash_after compress rounds schedule first_words
unknown_parent = refl

unknown_content : judge (record { capacity = 65536; version = First }) (after [] (uploads (B ∷ []))) (PutChangeset (spelling X)) ≡ Err (NoContent (elements (codes "x")) (sha256 (codes "abc")))
unfolding is_utf8 chars lib.Utf8.encode sha256 digest_bytes hash_after compress rounds schedule first_words
unknown_content = refl

wrong_size : judge (record { capacity = 65536; version = First }) (after [] (PutContent (codes "abc") ∷ [])) (PutChangeset (spelling (by_a [] ((elements (codes "x"), Set (record { content = sha256 (codes "abc"); kind = Regular; size = 4 }) None) ∷ [])))) ≡ Err (WrongSize (elements (codes "x")) 4 3)
unfolding is_utf8 chars lib.Utf8.encode sha256 digest_bytes hash_after compress rounds schedule first_words
wrong_size = refl

-- ---- the file

abbrev one : List Entry
one = unnumbered (Content (sha256 (codes "abc")) 3) ∷ []

-- a file of 26 bytes, and what follows its closing gate
file_of_one : (after_it : List ℕ) → Stands (record { capacity = 65536; version = First }) (0x42 ∷ 0x4F ∷ 0x4E ∷ 0x53 ∷ 0x41 ∷ 0x49 ∷ 0x00 ∷ 0x01 ∷ 0x00 ∷ 0x00 ∷ 0x00 ∷ 0x00 ∷ 0x00 ∷ 0x01 ∷ 0x00 ∷ 0x00 ∷ 0x01 ∷ 0x00 ∷ 0x00 ∷ 0x00 ∷ 0x04 ∷ 0x42 ∷ 0x61 ∷ 0x62 ∷ 0x63 ∷ 0x00 ∷ after_it) one
file_of_one after_it = (refl, _, refl, (0x42 ∷ codes "abc", _, (codes "abc", (refl, refl), refl), refl, (0, after_it, refl, λ e. cc)), (tt, tt))

payload_read : payload_body (payload (Land (landing (id_of B) (id_of C) C)) []) ≡ Ok (Land (landing (id_of B) (id_of C) C))
unfolding is_utf8 chars lib.Utf8.encode sha256 digest_bytes hash_after compress rounds schedule first_words
payload_read = refl

-- a field that is cut off, and a spelling that is wrong within its field
payload_faults : map payload_body ([] ∷ (0x40 ∷ []) ∷ (0x43 ∷ 0x02 ∷ []) ∷ (0x4D ∷ 0x04 ∷ codes "mai") ∷ (0x4D ∷ 0x04 ∷ codes "ma/n" ++ 0 ∷ 0 ∷ []) ∷ (0x4D ∷ 0x04 ∷ codes "main" ++ 0 ∷ 2 ∷ []) ∷ []) ≡ Err 0 ∷ Err 0 ∷ Err 1 ∷ Err 2 ∷ Err 2 ∷ Err 7 ∷ []
unfolding is_utf8 chars lib.Utf8.encode sha256 digest_bytes hash_after compress rounds schedule first_words
payload_faults = refl

-- the heads before and after are one field each: cut off, and with another first byte
book_faults : map (λ rest. payload_body (0x4D ∷ 0x01 ∷ 0x61 ∷ rest)) ([] ∷ (0x01 ∷ replicate 31 0) ∷ (0x02 ∷ 0x00 ∷ []) ∷ (0x01 ∷ replicate 32 0 ++ 0x01 ∷ 0x00 ∷ []) ∷ (0x00 ∷ 0x01 ∷ replicate 33 0) ∷ []) ≡ Err 3 ∷ Err 3 ∷ Err 3 ∷ Err 36 ∷ Err 37 ∷ []
unfolding is_utf8 chars lib.Utf8.encode
book_faults = refl

-- A summary is one field, also in an entry. No name is empty, and names rise.
abbrev one_entry : List ℕ → List ℕ
one_entry entry = 0x46 ∷ 0x01 ∷ replicate 40 0 ++ (0x00 ∷ 0x00 ∷ 0x00 ∷ 0x01 ∷ entry)

fsnode_faults : map fsnode_of (
    (0x46 ∷ 0x01 ∷ replicate 39 0)
    ∷ one_entry []
    ∷ one_entry (0x00 ∷ 0x61 ∷ [])
    ∷ one_entry (0x01 ∷ 0x2F ∷ [])
    ∷ one_entry (0x01 ∷ 0x61 ∷ 0x02 ∷ [])
    ∷ one_entry (0x01 ∷ 0x61 ∷ 0x01 ∷ replicate 71 0)
    ∷ one_entry (0x01 ∷ 0x61 ∷ 0x01 ∷ replicate 73 0)
    ∷ [])
    ≡ Err 2 ∷ Err 46 ∷ Err 46 ∷ Err 47 ∷ Err 48 ∷ Err 81 ∷ Err 121 ∷ []
unfolding is_utf8 chars lib.Utf8.encode
fsnode_faults = refl

fsnode_read : fsnode_of (fsnode_bytes (fsnode two_files [])) ≡ Ok (fsnode two_files [])
unfolding is_utf8 chars lib.Utf8.encode sha256 digest_bytes hash_after compress rounds schedule first_words
fsnode_read = refl

unode_read : unode_of (unode_bytes (unode (line (known p_thrice) (id_of p_set_again)) [])) ≡ Ok (unode (line (known p_thrice) (id_of p_set_again)) [])
unfolding is_utf8 chars lib.Utf8.encode sha256 digest_bytes hash_after compress rounds schedule first_words
unode_read = refl

-- ---- a seat's front, and a crash

-- what others made while the entry waited may stand behind it
front_after : After (record { capacity = 65536; version = First }) [] 1 (Asks (PutContent (codes "abc"))) (Grants (ContentPut (sha256 (codes "abc")))) (record { who = 1; body = Content (sha256 (codes "abc")) 3 } ∷ record { who = 2; body = Content (sha256 []) 0 } ∷ [])
front_after = record {
  before = [];
  made = record { entry = Some (Content (sha256 (codes "abc")) 3); fault = None };
  grows = record { begins = ([], refl); own = refl; stands = (_, refl); only = refl; last = λ no. absurd cc; failed = λ no. absurd cc };
  answers = (refl, refl);
  at_once = λ now. absurd now;
}

-- a change that makes no entry as another seat's stands there already waits for that one, and may meet the fault
front_after_fault : After (record { capacity = 65536; version = First }) [] 1 (Asks (PutContent (codes "abc"))) DiskFault (record { who = 2; body = Content (sha256 (codes "abc")) 3 } ∷ record { who = 1; body = Fault true } ∷ [])
unfolding is_utf8 chars lib.Utf8.encode sha256 digest_bytes hash_after compress rounds schedule first_words
front_after_fault = record {
  before = record { who = 2; body = Content (sha256 (codes "abc")) 3 } ∷ [];
  made = record { entry = None; fault = Some true };
  grows = record { begins = (_, refl); own = refl; stands = (_, refl); only = refl; last = λ no. absurd cc; failed = λ is. refl };
  answers = (refl, ContentPut (sha256 (codes "abc")), refl);
  at_once = λ now. absurd now;
}

-- its own entry stands, also where a seat that sealed it and others met the fault
front_after_group : After (record { capacity = 65536; version = First }) [] 1 (Asks (PutContent (codes "abc"))) DiskFault (record { who = 1; body = Content (sha256 (codes "abc")) 3 } ∷ record { who = 2; body = Content (sha256 []) 0 } ∷ record { who = 2; body = Fault true } ∷ [])
unfolding is_utf8 chars lib.Utf8.encode sha256 digest_bytes hash_after compress rounds schedule first_words
front_after_group = record {
  before = [];
  made = record { entry = Some (Content (sha256 (codes "abc")) 3); fault = Some true };
  grows = record { begins = ([], refl); own = refl; stands = (_, refl); only = refl; last = λ no. absurd cc; failed = λ is. refl };
  answers = (refl, ContentPut (sha256 (codes "abc")), refl);
  at_once = λ now. absurd now;
}

abbrev history_after : List Step → Option (List Entry)
history_after steps = option_map (λ s. s.history) (after_steps (record { capacity = 65536; version = First }) (opened []) steps)

abbrev put_abc : Step
put_abc = Exchange 1 (PutContent (codes "abc"))

-- a crash may keep a group once its gate was to be opened, and not before
crashes : map history_after (
    (put_abc ∷ WriteGroup 1 true ∷ SyncGroup 1 true ∷ Crash false ∷ [])
    ∷ (put_abc ∷ WriteGroup 1 true ∷ SyncGroup 1 true ∷ Crash true ∷ [])
    ∷ (put_abc ∷ WriteGroup 1 true ∷ SyncGroup 1 true ∷ OpenGate 1 true ∷ Crash true ∷ [])
    ∷ (put_abc ∷ WriteGroup 1 true ∷ SyncGroup 1 true ∷ OpenGate 1 true ∷ Seal 1 true ∷ Acknowledge 1 ∷ Crash false ∷ [])
    ∷ (put_abc ∷ WriteGroup 1 true ∷ SyncGroup 1 false ∷ [])
    ∷ (put_abc ∷ WriteGroup 1 true ∷ SyncGroup 1 false ∷ Crash false ∷ [])
    ∷ (put_abc ∷ Exchange 2 (PutContent []) ∷ WriteGroup 2 true ∷ SyncGroup 2 true ∷ OpenGate 2 true ∷ Seal 2 true ∷ Acknowledge 1 ∷ Acknowledge 2 ∷ Crash false ∷ [])
    ∷ (put_abc ∷ Acknowledge 1 ∷ [])
    ∷ [])
    ≡ Some []
    ∷ None
    ∷ Some one
    ∷ Some one
    ∷ Some (record { who = 1; body = Content (sha256 (codes "abc")) 3 } ∷ record { who = 1; body = Fault true } ∷ [])
    ∷ Some []
    ∷ Some (unnumbered (Content (sha256 (codes "abc")) 3) ∷ unnumbered (Content (sha256 []) 0) ∷ [])
    ∷ None
    ∷ []
unfolding is_utf8 chars lib.Utf8.encode sha256 digest_bytes hash_after compress rounds schedule first_words
crashes = refl

-- what others enter while a group is being sealed stands behind it. A crash keeps the group without it, and a seal seals the group alone
behind : map history_after (
    (put_abc ∷ WriteGroup 1 true ∷ Exchange 2 (PutContent []) ∷ Look 3 true ∷ SyncGroup 1 true ∷ OpenGate 1 true ∷ Crash true ∷ [])
    ∷ (put_abc ∷ WriteGroup 1 true ∷ SyncGroup 1 true ∷ OpenGate 1 true ∷ Exchange 2 (PutContent []) ∷ Seal 1 true ∷ Acknowledge 1 ∷ Crash false ∷ [])
    ∷ (put_abc ∷ WriteGroup 1 true ∷ Exchange 2 (PutContent []) ∷ SyncGroup 1 true ∷ OpenGate 1 true ∷ Seal 1 true ∷ Acknowledge 2 ∷ [])
    ∷ (put_abc ∷ WriteGroup 1 true ∷ Exchange 2 (PutContent []) ∷ WriteGroup 2 true ∷ [])
    ∷ (put_abc ∷ WriteGroup 1 true ∷ SyncGroup 1 true ∷ OpenGate 1 true ∷ Exchange 2 (PutContent []) ∷ Seal 1 false ∷ Crash true ∷ [])
    ∷ (put_abc ∷ Exchange 1 (PutContent []) ∷ WriteGroup 1 true ∷ SyncGroup 1 true ∷ OpenGate 1 true ∷ Seal 1 true ∷ Acknowledge 1 ∷ Acknowledge 1 ∷ Crash false ∷ [])
    ∷ [])
    ≡ Some one
    ∷ Some one
    ∷ None
    ∷ None
    ∷ Some one
    ∷ Some (unnumbered (Content (sha256 (codes "abc")) 3) ∷ unnumbered (Content (sha256 []) 0) ∷ [])
    ∷ []
unfolding is_utf8 chars lib.Utf8.encode sha256 digest_bytes hash_after compress rounds schedule first_words
behind = refl

-- contents whose bytes can't be written leave over what is under way, and are no entry
lays : map history_after (
    (LayContent 1 true ∷ put_abc ∷ [])
    ∷ (LayContent 1 false ∷ [])
    ∷ (put_abc ∷ LayContent 2 false ∷ Crash false ∷ [])
    ∷ (put_abc ∷ WriteGroup 1 true ∷ LayContent 2 false ∷ Crash true ∷ [])
    ∷ (put_abc ∷ WriteGroup 1 true ∷ SyncGroup 1 true ∷ OpenGate 1 true ∷ LayContent 2 false ∷ Crash true ∷ [])
    ∷ (put_abc ∷ WriteGroup 1 true ∷ LayContent 2 false ∷ SyncGroup 1 true ∷ [])
    ∷ (LayContent 1 false ∷ LayContent 1 true ∷ [])
    ∷ [])
    ≡ Some (record { who = 1; body = Content (sha256 (codes "abc")) 3 } ∷ [])
    ∷ Some (record { who = 1; body = Fault true } ∷ [])
    ∷ Some []
    ∷ None
    ∷ Some one
    ∷ None
    ∷ None
    ∷ []
unfolding is_utf8 chars lib.Utf8.encode sha256 digest_bytes hash_after compress rounds schedule first_words
lays = refl

-- the table's changesets, and how many nodes it has
abbrev table_after : List Step → Option (List Id × ℕ)
table_after steps = option_map (λ s. (map (λ m. m.id) s.table, length (nodes_among s.table))) (after_steps (record { capacity = 65536; version = First }) (opened (starting B (X ∷ []))) steps)

-- a job waits for its parent, a changeset is settled once, and a crash empties the table
tables : map table_after (
    (TakeJob (id_of X) ∷ [])
    ∷ (TakeJob (id_of B) ∷ Settle (id_of B) ∷ TakeJob (id_of X) ∷ Settle (id_of X) ∷ Settle (id_of X) ∷ [])
    ∷ (TakeJob (id_of B) ∷ Exchange 1 (PutChangeset (spelling C)) ∷ WriteGroup 1 true ∷ SyncGroup 1 true ∷ OpenGate 1 true ∷ Seal 1 true ∷ Settle (id_of B) ∷ [])
    ∷ (TakeJob (id_of B) ∷ Settle (id_of B) ∷ Crash false ∷ [])
    ∷ (TakeJob (id_of C) ∷ [])
    ∷ [])
    ≡ None ∷ Some (id_of B ∷ id_of X ∷ [], 7) ∷ Some (id_of B ∷ [], 3) ∷ Some ([], 0) ∷ None ∷ []
unfolding is_utf8 chars lib.Utf8.encode sha256 digest_bytes hash_after compress rounds schedule first_words
tables = refl

-- ---- a policy between a plan and its landing

abbrev landed_under : List ℕ → Option (List Entry)
landed_under caller = option_map (λ s. drop 5 s.history) (after_steps (record { capacity = 65536; version = Second }) (opened (starting B (X ∷ [])))
    (PlanLanding 1 main (id_of X) 0 ∷ Exchange 2 (SetPolicy (codes "ann") ann_policy) ∷ Exchange 1 (LandDraft caller main (id_of X) 0) ∷ []))

-- the landing is judged by the policy that is held when it is entered
policy_between : map landed_under (codes "bob" ∷ codes "ann" ∷ []) ≡ Some (record { who = 2; body = Policy (codes "ann") ann_policy } ∷ [])
    ∷ Some (record { who = 2; body = Policy (codes "ann") ann_policy } ∷ record { who = 1; body = Land (record { name = main; old = id_of B; draft = id_of X; new = X ∷ []; moment = None; caller = Some (codes "ann") }) } ∷ [])
    ∷ []
unfolding is_utf8 chars lib.Utf8.encode sha256 digest_bytes hash_after compress rounds schedule first_words
policy_between = refl

-- ---- other refusals

refusals : map (judge (record { capacity = 65536; version = First }) (starting B (X ∷ by_a [] (delete (codes "z") ∷ []) ∷ []))) (
    LandDraft nobody (codes "dev") (id_of X) 0
    ∷ LandDraft nobody main (sha256 []) 0
    ∷ LandDraft nobody main (id_of (by_a [] (delete (codes "z") ∷ []))) 0
    ∷ SetBookmark nobody main (Some (id_of B)) (Some (sha256 []))
    ∷ PutChangeset (0x44 ∷ [])
    ∷ [])
    ≡ Err NoBookmark ∷ Err (NoChangeset (sha256 [])) ∷ Err NoRoot ∷ Err (NoChangeset (sha256 [])) ∷ Err (BadEncoding 0) ∷ []
unfolding is_utf8 chars lib.Utf8.encode sha256 digest_bytes hash_after compress rounds schedule first_words
refusals = refl

down : judge (record { capacity = 65536; version = First }) (starting B [] ++ record { who = 2; body = Fault true } ∷ []) (PutContent []) ≡ Err Down
unfolding is_utf8 chars lib.Utf8.encode sha256 digest_bytes hash_after compress rounds schedule first_words
down = refl

-- a fault that isn't breaking stops nothing
up : judge (record { capacity = 65536; version = First }) (record { who = 2; body = Fault false } ∷ []) (PutContent (codes "abc")) ≡ Ok (record { granted = ContentPut (sha256 (codes "abc")); made = Some (Content (sha256 (codes "abc")) 3) })
unfolding is_utf8 chars lib.Utf8.encode sha256 digest_bytes hash_after compress rounds schedule first_words
up = refl

-- each entry of a landing's history may follow those before it
legal : IsLegal (record { capacity = 65536; version = First }) (after (starting B (C ∷ [])) (LandDraft nobody main (id_of C) 0 ∷ []))
unfolding is_utf8 chars lib.Utf8.encode sha256 digest_bytes hash_after compress rounds schedule first_words
legal = (
  (PutContent (codes "abc"), ContentPut (sha256 (codes "abc")), refl, refl),
  (
    (PutContent [], ContentPut (sha256 []), refl, refl),
    (
      (PutChangeset (spelling B), ChangesetPut (id_of B), refl, refl),
      (
        (PutChangeset (spelling C), ChangesetPut (id_of C), refl, refl),
        (
          (SetBookmark nobody main None (Some (id_of B)), BookmarkSet, refl, refl),
          ((LandDraft nobody main (id_of C) 0, Landed (id_of B) (id_of C ∷ []), refl, refl), tt),
        ),
      ),
    ),
  ),
)

-- ---- files that open, and files that don't

abbrev one_file : ℕ → ℕ → List ℕ
one_file gate last = 0x42 ∷ 0x4F ∷ 0x4E ∷ 0x53 ∷ 0x41 ∷ 0x49 ∷ 0x00 ∷ 0x01 ∷ 0x00 ∷ 0x00 ∷ 0x00 ∷ 0x00 ∷ 0x00 ∷ 0x01 ∷ 0x00 ∷ 0x00 ∷ gate ∷ 0x00 ∷ 0x00 ∷ 0x00 ∷ 0x04 ∷ last ∷ 0x61 ∷ 0x62 ∷ 0x63 ∷ 0x00 ∷ []

openings : map opens (one_file 0x01 0x42 ∷ one_file 0x01 0x58 ∷ one_file 0x02 0x42 ∷ take 25 (one_file 0x01 0x42) ∷ take 24 (one_file 0x01 0x42) ∷ take 16 (one_file 0x01 0x42) ∷ [] ∷ []) ≡ Ok one ∷ Err (Damaged 16) ∷ Ok [] ∷ Err (Damaged 25) ∷ Err (Damaged 16) ∷ Err NotARepository ∷ Err NotARepository ∷ []
unfolding is_utf8 chars lib.Utf8.encode sha256 digest_bytes hash_after compress rounds schedule first_words
openings = refl

-- the same content twice isn't what two uploads leave
twice : opens (take 25 (one_file 0x01 0x42) ++ (0x01 ∷ 0x00 ∷ 0x00 ∷ 0x00 ∷ 0x04 ∷ 0x42 ∷ 0x61 ∷ 0x62 ∷ 0x63 ∷ 0x00 ∷ [])) ≡ Err (Damaged 25)
unfolding is_utf8 chars lib.Utf8.encode sha256 digest_bytes hash_after compress rounds schedule first_words
twice = refl

-- ---- unodes over three changesets

abbrev first_tree : Changeset
first_tree = by_a [] (set_abc (codes "a/x") ∷ set_nil (codes "b/y") ∷ [])

abbrev second_tree : Changeset
second_tree = on first_tree (set_nil (codes "a/x") ∷ set_nil (codes "a/z") ∷ [])

-- the directory becomes a file
abbrev third_tree : Changeset
third_tree = on second_tree (set_abc (codes "a") ∷ [])

abbrev three : List Known
three = map with_id (first_tree ∷ second_tree ∷ third_tree ∷ [])

abbrev unode_at : Changeset → List ℕ → Unode
unode_at c path = unode (line three (id_of c)) (elements path)

abbrev root_at : Changeset → Unode
root_at c = unode (line three (id_of c)) []

abbrev parents_of : Unode → List Id
parents_of (Manifest parents linknode entries) = parents
parents_of (FileUnode parents content kind path_hash linknode) = parents

siblings_keep : (unode_at second_tree (codes "b") ≡ unode_at first_tree (codes "b")) × (unode_at third_tree (codes "b/y") ≡ unode_at first_tree (codes "b/y"))
unfolding is_utf8 chars lib.Utf8.encode sha256 digest_bytes hash_after compress rounds schedule first_words
siblings_keep = (refl, refl)

new_parents : map parents_of (unode_at second_tree (codes "a") ∷ unode_at second_tree (codes "a/x") ∷ unode_at second_tree (codes "a/z") ∷ unode_at third_tree (codes "a") ∷ root_at first_tree ∷ root_at third_tree ∷ []) ≡ (unode_id (unode_at first_tree (codes "a")) ∷ []) ∷ (unode_id (unode_at first_tree (codes "a/x")) ∷ []) ∷ [] ∷ [] ∷ [] ∷ (unode_id (root_at second_tree) ∷ []) ∷ []
unfolding is_utf8 chars lib.Utf8.encode sha256 digest_bytes hash_after compress rounds schedule first_words
new_parents = refl

root_of_three : root_at third_tree ≡ Manifest (unode_id (root_at second_tree) ∷ []) (id_of third_tree) ((codes "a", UnodeFile (unode_id (unode_at third_tree (codes "a")))) ∷ (codes "b", UnodeDir (unode_id (unode_at first_tree (codes "b")))) ∷ [])
unfolding is_utf8 chars lib.Utf8.encode sha256 digest_bytes hash_after compress rounds schedule first_words
root_of_three = refl

history_of_x : file_history (line three (id_of second_tree)) (elements (codes "a/x")) ≡ id_of second_tree ∷ id_of first_tree ∷ []
unfolding is_utf8 chars lib.Utf8.encode sha256 digest_bytes hash_after compress rounds schedule first_words
history_of_x = refl

-- of each directory two nodes, of each file one, and of each path at or under which one was taken away one, as of the root
node_counts : map (λ c. length (nodes_of three (id_of c))) (first_tree ∷ second_tree ∷ third_tree ∷ []) ≡ 9 ∷ 10 ∷ 10 ∷ []
unfolding is_utf8 chars lib.Utf8.encode sha256 digest_bytes hash_after compress rounds schedule first_words
node_counts = refl
