-- The relations of a repository that is served alone and of one that others share are such as a seat may have.
use Rattle.std.proofs.Common.{◌≡◌, ◌≤◌, ◌-◌, ℕ, List, ◌++◌, length, take, drop, arith, length-drop, refl, sym, ap, subst, ◌∙◌}
use Rattle.std.specs.Prelude.{Option, None, Some, not, ◌==◌, ok_or, Result, Ok, Err, MatchOption}
use Rattle.std.proofs.lemmas.List.{length-take}
use Rattle.byte_fields.specs.Bytes.{Id, IsContent}
use Rattle.history_model.specs.History.{Entry, stored, known, is_known, changeset_of, content_len}
use Rattle.history_model.specs.Past.{past}
use Rattle.manifest_model.specs.Deleted.{has_deleted, path_log}
use Rattle.history_model.specs.Tree.{files_of, is_file, is_dir}
use Rattle.history_model.specs.Journal.{Header}
use Rattle.reply_model.specs.After.{Call, Asks, Joins, Looks, Derives, Answer, Grants, Refuses, Shows, Lacks, Roots, DiskFault, ReadFault, BadBytes, NodeCollision, Memory, Made, nothing, Answers, Replies, Grows, IsAtOnce, After, entries_of, stands_of}
use Rattle.reply_model.specs.Reply.{PutWhole, ◌>>=◌, page_len, refuse_if, present, Question, HeadOf, ContentOf, ChangesetOf, LogFrom, FsnodeOf, UnodeOf, HistoryOf, CopiesOf, PathLogOf, DeletedOf, PolicyOf, Seen, Absent, AbsentContent, AbsentChangeset, NoPath, NotADir, NotAFile, NoPolicy, SeenBytes, policy_asked, Granted, Sees}
use Rattle.repo_calls.specs.Replying.{Fits, Shown, MakesNothing, IsReplying}
use Rattle.repo_calls.proofs.Fitting.{judged_fits}

answers_nothing : (header : Header) (h : List Entry) (call : Call) (answer : Answer) (made : Made) → MakesNothing answer → Answers header h call answer made → made ≡ nothing
answers_nothing header h (Asks ask) (Grants g) made none a = absurd none
answers_nothing header h (Asks ask) (Refuses r) made none a = a.0
answers_nothing header h (Asks ask) (Shows s) made none a = absurd a
answers_nothing header h (Asks ask) (Lacks b) made none a = absurd a
answers_nothing header h (Asks ask) (Roots f u g) made none a = absurd a
answers_nothing header h (Asks ask) DiskFault made none a = absurd none
answers_nothing header h (Asks ask) ReadFault made none a = absurd none
answers_nothing header h (Asks ask) (BadBytes w f) made none a = absurd a
answers_nothing header h (Asks ask) (NodeCollision z) made none a = a.0
answers_nothing header h (Asks ask) Memory made none a = a
answers_nothing header h (Joins body) (Grants g) made none a = absurd none
answers_nothing header h (Joins body) (Refuses r) made none a = a.0
answers_nothing header h (Joins body) (Shows s) made none a = absurd a
answers_nothing header h (Joins body) (Lacks b) made none a = absurd a
answers_nothing header h (Joins body) (Roots f u g) made none a = absurd a
answers_nothing header h (Joins body) DiskFault made none a = absurd none
answers_nothing header h (Joins body) ReadFault made none a = absurd none
answers_nothing header h (Joins body) (BadBytes w f) made none a = a.0
answers_nothing header h (Joins body) (NodeCollision z) made none a = a.0
answers_nothing header h (Joins body) Memory made none a = a
answers_nothing header h (Derives x) (Grants g) made none a = absurd none
answers_nothing header h (Derives x) (Refuses r) made none a = absurd a
answers_nothing header h (Derives x) (Shows s) made none a = absurd a
answers_nothing header h (Derives x) (Lacks b) made none a = a.0
answers_nothing header h (Derives x) (Roots f u g) made none a = a.0
answers_nothing header h (Derives x) DiskFault made none a = absurd none
answers_nothing header h (Derives x) ReadFault made none a = absurd none
answers_nothing header h (Derives x) (BadBytes w f) made none a = absurd a
answers_nothing header h (Derives x) (NodeCollision z) made none a = a.0
answers_nothing header h (Derives x) Memory made none a = a
answers_nothing header h (Looks q) (Grants g) made none a = absurd none
answers_nothing header h (Looks q) (Refuses r) made none a = absurd a
answers_nothing header h (Looks q) (Shows s) made none a = a.0
answers_nothing header h (Looks q) (Lacks b) made none a = a.0
answers_nothing header h (Looks q) (Roots f u g) made none a = absurd a
answers_nothing header h (Looks q) DiskFault made none a = absurd none
answers_nothing header h (Looks q) ReadFault made none a = absurd none
answers_nothing header h (Looks (HeadOf m)) (BadBytes w f) made none a = absurd a
answers_nothing header h (Looks (ContentOf c)) (BadBytes w f) made none a = a.0
answers_nothing header h (Looks (ChangesetOf c)) (BadBytes w f) made none a = absurd a
answers_nothing header h (Looks (LogFrom n)) (BadBytes w f) made none a = absurd a
answers_nothing header h (Looks (FsnodeOf c p)) (BadBytes w f) made none a = absurd a
answers_nothing header h (Looks (UnodeOf c p)) (BadBytes w f) made none a = absurd a
answers_nothing header h (Looks (HistoryOf c p)) (BadBytes w f) made none a = absurd a
answers_nothing header h (Looks (CopiesOf c)) (BadBytes w f) made none a = absurd a
answers_nothing header h (Looks (PathLogOf c p)) (BadBytes w f) made none a = absurd a
answers_nothing header h (Looks (DeletedOf c p)) (BadBytes w f) made none a = absurd a
answers_nothing header h (Looks (PolicyOf n)) (BadBytes w f) made none a = absurd a
answers_nothing header h (Looks q) (NodeCollision z) made none a = a.0
answers_nothing header h (Looks q) Memory made none a = a

-- any call may be answered by want of memory
wants : (header : Header) (h : List Entry) (call : Call) → Answers header h call Memory nothing
wants header h (Asks ask) = refl
wants header h (Joins body) = refl
wants header h (Derives x) = refl
wants header h (Looks question) = refl

-- what is seen, if something is, is of the kind that was asked for
abbrev ShownIn : Question → Result Seen Absent → Type 0
ShownIn question (Ok seen) = Shown question seen
ShownIn question (Err absent) = Unit {0}

record Seeing (question : Question) (r : Result Seen Absent) : Type 0 where
  each : ShownIn question r

through : {A : Type 0} (question : Question) (r : Result A Absent) (f : A → Result Seen Absent) → ((x : A) → Seeing question (f x)) → Seeing question (r >>= f)
through question (Ok x) f all = all x
through question (Err e) f all = record { each = tt }

page_short : (n : ℕ) (entries : List Entry) → length (take page_len (drop n entries)) ≤ length entries - n
page_short n entries = omega (arith, length-take page_len (drop n entries), length-drop n entries)

content_seen : (h : List Entry) (x : Id) (result : Result Seen Absent) (o : Option ℕ)
    → MatchOption o (result ≡ Err (AbsentContent x)) (λ n. (bytes : List ℕ) × (result ≡ Ok (SeenBytes bytes)) × IsContent x n bytes) → ShownIn (ContentOf x) result
content_seen h x result None e = subst (ShownIn (ContentOf x)) (sym e) tt
content_seen h x result (Some n) e = subst (ShownIn (ContentOf x)) (sym e.1) tt

seen_is : (h : List Entry) (question : Question) (result : Result Seen Absent) → Sees h question result → ShownIn question result
seen_is h (HeadOf name) result e = subst (ShownIn (HeadOf name)) (sym e) tt
seen_is h (ContentOf x) result e = content_seen h x result (content_len h x) e
seen_is h (ChangesetOf x) result e =
    subst (ShownIn (ChangesetOf x)) (sym e) (through (ChangesetOf x) (ok_or (changeset_of (known h) x) (AbsentChangeset x)) _ (λ c. record { each = tt })).each
seen_is h (LogFrom n) result e = subst (ShownIn (LogFrom n)) (sym e) (page_short n (stored h))
seen_is h (FsnodeOf x d) result e =
    subst (ShownIn (FsnodeOf x d)) (sym e) (through (FsnodeOf x d) (present (known h) x d) _ (λ _. through (FsnodeOf x d) (refuse_if (is_file (files_of (known h) x) d) NotADir) _ (λ _. record { each = tt }))).each
seen_is h (UnodeOf x p) result e =
    subst (ShownIn (UnodeOf x p)) (sym e) (through (UnodeOf x p) (present (known h) x p) _ (λ _. record { each = tt })).each
seen_is h (HistoryOf x p) result e =
    subst (ShownIn (HistoryOf x p)) (sym e) (through (HistoryOf x p) (present (known h) x p) _ (λ _. through (HistoryOf x p) (refuse_if (is_dir (files_of (known h) x) p) NotAFile) _ (λ _. record { each = tt }))).each
seen_is h (CopiesOf x) result e =
    subst (ShownIn (CopiesOf x)) (sym e) (through (CopiesOf x) (ok_or (changeset_of (known h) x) (AbsentChangeset x)) _ (λ c. record { each = tt })).each
seen_is h (PathLogOf x p) result e =
    subst (ShownIn (PathLogOf x p)) (sym e)
    (through (PathLogOf x p) (refuse_if (not (is_known (known h) x)) (AbsentChangeset x)) _ (λ _. through (PathLogOf x p) (refuse_if (length (path_log (past (known h) x) p) == 0) NoPath) _ (λ _. record { each = tt }))).each
seen_is h (DeletedOf x d) result e =
    subst (ShownIn (DeletedOf x d)) (sym e)
    (through (DeletedOf x d) (refuse_if (not (is_known (known h) x)) (AbsentChangeset x)) _ (λ _. through (DeletedOf x d) (refuse_if (not (has_deleted (past (known h) x) d)) NoPath) _ (λ _. record { each = tt }))).each
seen_is h (PolicyOf number) result e =
    subst (ShownIn (PolicyOf number)) (sym e) (through (PolicyOf number) (ok_or (policy_asked h number) NoPolicy) _ (λ text. record { each = tt })).each

answers_shown : (header : Header) (h : List Entry) (question : Question) (seen : Seen) (made : Made) → Answers header h (Looks question) (Shows seen) made → Shown question seen
answers_shown header h (HeadOf name) seen made a = seen_is h (HeadOf name) (Ok seen) a.1
answers_shown header h (ContentOf x) seen made a = seen_is h (ContentOf x) (Ok seen) a.1
answers_shown header h (ChangesetOf x) seen made a = seen_is h (ChangesetOf x) (Ok seen) a.1
answers_shown header h (LogFrom n) seen made a = seen_is h (LogFrom n) (Ok seen) a.1
answers_shown header h (FsnodeOf x d) seen made a = seen_is h (FsnodeOf x d) (Ok seen) a.1
answers_shown header h (UnodeOf x p) seen made a = seen_is h (UnodeOf x p) (Ok seen) a.1
answers_shown header h (HistoryOf x p) seen made a = seen_is h (HistoryOf x p) (Ok seen) a.1
answers_shown header h (CopiesOf x) seen made a = seen_is h (CopiesOf x) (Ok seen) a.1
answers_shown header h (PathLogOf x p) seen made a = seen_is h (PathLogOf x p) (Ok seen) a.1
answers_shown header h (DeletedOf x p) seen made a = seen_is h (DeletedOf x p) (Ok seen) a.1
answers_shown header h (PolicyOf number) seen made a = seen_is h (PolicyOf number) (Ok seen) a.1

answers_fit : (header : Header) (h : List Entry) (call : Call) (granted : Granted) (made : Made) → Answers header h call (Grants granted) made → Fits call granted
answers_fit header h (Asks ask) granted made a = judged_fits header h ask granted made.entry a.1
answers_fit header h (Joins body) granted made a = judged_fits header h (PutWhole body a.1) granted made.entry a.3
answers_fit header h (Looks question) granted made a = absurd a
answers_fit header h (Derives x) granted made a = absurd a

-- what made nothing waits for no turn
at_once : (answer : Answer) → MakesNothing answer → IsAtOnce answer
at_once (Grants g) none = absurd none
at_once (Refuses r) none = tt
at_once (Shows s) none = tt
at_once (Lacks b) none = tt
at_once (Roots f u g) none = tt
at_once DiskFault none = absurd none
at_once ReadFault none = absurd none
at_once (BadBytes w f) none = tt
at_once (NodeCollision z) none = tt
at_once Memory none = tt

pub alone : IsReplying Replies
alone = record {
  fits = λ header h who call granted new r. answers_fit header h call granted r.made r.answers;
  shown = λ header h who question seen new r. answers_shown header h question seen r.made r.answers;
  memory = λ header h who call answer new m r.
      let none : r.made ≡ nothing = answers_nothing header h call answer r.made m r.answers in
      record { made = nothing; answers = wants header h call; new_is = r.new_is ∙ ap (λ made. h ++ entries_of who made) none };
}

pub shared : IsReplying After
shared = record {
  fits = λ header h who call granted new r. answers_fit header r.before call granted r.made r.answers;
  shown = λ header h who question seen new r. answers_shown header r.before question seen r.made r.answers;
  memory = λ header h who call answer new m r.
      let none : r.made ≡ nothing = answers_nothing header r.before call answer r.made m r.answers in
      record {
        before = r.before;
        made = nothing;
        grows = subst (λ made. Grows h who r.before made new) none r.grows;
        answers = wants header r.before call;
        at_once = λ _. subst (λ made. new ≡ r.before ++ stands_of who made) none (r.at_once (at_once answer m));
      };
}
