-- What is read of an id stays as a history grows.
use Rattle.std.proofs.Common.{◌≡◌, Bool, true, false, cond, List, [], ◌∷◌, ◌++◌, refl, sym, ap, subst, ◌∙◌}
use Rattle.std.specs.Prelude.{ℕ, not, ◌||◌, ◌==◌, length, find, bytes_eq, Option, None, Some, option_map, ok_or, Result, Ok, Err, MatchOption}
use Rattle.std.specs.Option.{option_or}
use Rattle.byte_fields.specs.Bytes.{Id, IsContent}
use Rattle.byte_fields.proofs.Lists.{first_some-append}
use Rattle.changeset_model.specs.Changeset.{Changeset, spelling, copies_of}
use Rattle.history_model.specs.History.{Entry, Known, known, is_known, changeset_of, content_len, length_in}
use Rattle.history_model.specs.Past.{Past, past}
use Rattle.history_model.specs.Tree.{files_in, is_file, is_dir}
use Rattle.manifest_model.specs.Fsnode.{fsnode, fsnode_bytes}
use Rattle.manifest_model.specs.Unode.{unode_bytes}
use Rattle.manifest_model.specs.Merged.{unode_at, history_of}
use Rattle.manifest_model.specs.Deleted.{deleted, deleted_bytes, has_deleted, path_log}
use Rattle.reply_model.specs.Reply.{◌>>=◌, refuse_if, Question, HeadOf, ContentOf, ChangesetOf, LogFrom, FsnodeOf, UnodeOf, HistoryOf, CopiesOf, PathLogOf, DeletedOf, PolicyOf, Seen, SeenBytes, SeenIds, SeenCopies, Absent, AbsentContent, AbsentChangeset, NoPath, NotADir, NotAFile, Sees}
use Rattle.reply_model.proofs.Lines.{known-append, known_grows, past_grows}
use Rattle.follower_laws.specs.ById.{AsksById}
use Rattle.follower_laws.proofs.Histories.{history_grows}

never : (seen : Seen) (absent : Absent) → Ok seen ≡ Err absent → ⊥
never seen absent e = cc

no_some : (k : Known) → None ≡ Some k → ⊥
no_some k e = cc

-- what is read goes by whether the changeset is known, and by its past
by_past : (F : Bool → Past → Result Seen Absent) (x : Id) → ((p : Past) → F false p ≡ Err (AbsentChangeset x)) → (h later : List Entry) (seen : Seen)
    → Ok seen ≡ F (is_known (known h) x) (past (known h) x) → Ok seen ≡ F (is_known (known (h ++ later)) x) (past (known (h ++ later)) x)
by_past F x none h later seen e = by (is_known (known h) x) refl
  where
    by : (b : Bool) → is_known (known h) x ≡ b → Ok seen ≡ F (is_known (known (h ++ later)) x) (past (known (h ++ later)) x)
    by true there =
        e ∙ ap (λ b. F b (past (known h) x)) (there ∙ sym (known_grows h later x there))
        ∙ ap (F (is_known (known (h ++ later)) x)) (sym (past_grows h later x there))
    by false there = absurd (never seen (AbsentChangeset x) (e ∙ ap (λ b. F b (past (known h) x)) there ∙ none (past (known h) x)))

found_left : (p : Known → Bool) (xs ys : List Known) (k : Known) → find p xs ≡ Some k → find p (xs ++ ys) ≡ Some k
found_left p [] ys k e = absurd (no_some k e)
found_left p (x ∷ xs) ys k e = by (p x) (found_left p xs ys k) e
  where
    by : (b : Bool) → (find p xs ≡ Some k → find p (xs ++ ys) ≡ Some k) → cond b (Some x) (find p xs) ≡ Some k → cond b (Some x) (find p (xs ++ ys)) ≡ Some k
    by true later e = e
    by false later e = later e

-- what is read goes by the changeset
by_found : (F : Option Changeset → Result Seen Absent) (x : Id) → F None ≡ Err (AbsentChangeset x) → (h later : List Entry) (seen : Seen)
    → Ok seen ≡ F (changeset_of (known h) x) → Ok seen ≡ F (changeset_of (known (h ++ later)) x)
by_found F x none h later seen e = by (find (λ k. bytes_eq k.id x) (known h)) refl
  where
    by : (o : Option Known) → find (λ k. bytes_eq k.id x) (known h) ≡ o → Ok seen ≡ F (changeset_of (known (h ++ later)) x)
    by None there = absurd (never seen (AbsentChangeset x) (e ∙ ap (λ o. F (option_map (λ k. k.changeset) o)) there ∙ none))
    by (Some k) there =
        let grown : find (λ k. bytes_eq k.id x) (known (h ++ later)) ≡ Some k = ap (find (λ k. bytes_eq k.id x)) (known-append h later) ∙ found_left (λ k. bytes_eq k.id x) (known h) _ k there in
        e ∙ ap (λ o. F (option_map (λ k. k.changeset) o)) (there ∙ sym grown)

abbrev SeesContent : Id → Result Seen Absent → Option ℕ → Type 0
SeesContent x result o = MatchOption o (result ≡ Err (AbsentContent x)) (λ n. (bytes : List ℕ) × (result ≡ Ok (SeenBytes bytes)) × IsContent x n bytes)

content_by : (h later : List Entry) (x : Id) (seen : Seen) (o : Option ℕ) → content_len h x ≡ o → SeesContent x (Ok seen) o → SeesContent x (Ok seen) (content_len (h ++ later) x)
content_by h later x seen None there e = absurd (never seen (AbsentContent x) e)
content_by h later x seen (Some n) there e =
    subst (SeesContent x (Ok seen)) (sym (first_some-append (λ e. length_in x e.body) h later ∙ ap (λ o. option_or o (content_len later x)) there)) e

pub stays : (h later : List Entry) (question : Question) (seen : Seen) → AsksById question → Sees h question (Ok seen) → Sees (h ++ later) question (Ok seen)
stays h later (HeadOf name) seen q e = absurd q
stays h later (ContentOf x) seen q e = content_by h later x seen (content_len h x) refl e
stays h later (ChangesetOf x) seen q e = by_found (λ o. ok_or o (AbsentChangeset x) >>= (λ c. Ok (SeenBytes (spelling c)))) x refl h later seen e
stays h later (LogFrom n) seen q e = absurd q
stays h later (FsnodeOf x d) seen q e =
    by_past (λ b p. (refuse_if (not b) (AbsentChangeset x) >>= (λ _. refuse_if (not (is_file (files_in p) d || is_dir (files_in p) d)) NoPath)) >>= (λ _. refuse_if (is_file (files_in p) d) NotADir >>= (λ _. Ok (SeenBytes (fsnode_bytes (fsnode (files_in p) d))))))
    x (λ p. refl) h later seen e
stays h later (UnodeOf x d) seen q e =
    by_past (λ b p. (refuse_if (not b) (AbsentChangeset x) >>= (λ _. refuse_if (not (is_file (files_in p) d || is_dir (files_in p) d)) NoPath)) >>= (λ _. Ok (SeenBytes (unode_bytes (unode_at p d)))))
    x (λ p. refl) h later seen e
stays h later (HistoryOf x p) seen q e = history_by (is_known (known h) x) refl
  where
    F : Bool → Past → List Id → Result Seen Absent
    F b past ids = (refuse_if (not b) (AbsentChangeset x) >>= (λ _. refuse_if (not (is_file (files_in past) p || is_dir (files_in past) p)) NoPath)) >>= (λ _. refuse_if (is_dir (files_in past) p) NotAFile >>= (λ _. Ok (SeenIds ids)))

    now : List Known
    now = known h

    then : List Known
    then = known (h ++ later)

    history_by : (b : Bool) → is_known now x ≡ b → Ok seen ≡ F (is_known then x) (past then x) (history_of then x p)
    history_by true there =
        e ∙ ap (λ b. F b (past now x) (history_of now x p)) (there ∙ sym (known_grows h later x there))
        ∙ sym (λ i. F (is_known then x) (past_grows h later x there i) (history_grows h later x p there i))
    history_by false there = absurd (never seen (AbsentChangeset x) (e ∙ ap (λ b. F b (past now x) (history_of now x p)) there))
stays h later (CopiesOf x) seen q e = by_found (λ o. ok_or o (AbsentChangeset x) >>= (λ c. Ok (SeenCopies (copies_of c)))) x refl h later seen e
stays h later (PathLogOf x d) seen q e =
    by_past (λ b p. refuse_if (not b) (AbsentChangeset x) >>= (λ _. refuse_if (length (path_log p d) == 0) NoPath >>= (λ _. Ok (SeenIds (path_log p d)))))
    x (λ p. refl) h later seen e
stays h later (DeletedOf x d) seen q e =
    by_past (λ b p. refuse_if (not b) (AbsentChangeset x) >>= (λ _. refuse_if (not (has_deleted p d)) NoPath >>= (λ _. Ok (SeenBytes (deleted_bytes (deleted p d))))))
    x (λ p. refl) h later seen e
stays h later (PolicyOf number) seen q e = absurd q
