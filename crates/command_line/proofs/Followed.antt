-- A server that was followed: by what the accept answered, by the version of the file, and told of the file that the opener gave.
use Rattle.std.proofs.Common.{◌≡◌, ◌≢◌, ℕ, ◌+◌, ◌-◌, ◌^◌, ◌<◌, ◌≤◌, Bool, false, List, refl, ap, sym, subst, ◌∙◌, ◌⊎◌, inl, inr, arith}
use Rattle.std.specs.Prelude.{if◌then◌else◌, length, Option, None, Some, IfSome, Result, Ok}
use Rattle.std.proofs.lemmas.Bool.{cases_lt}
use Rattle.std.proofs.Math.Nat.{min-eq_left, min-eq_right}
use Rattle.ports.specs.Accepts.{is_link}
use Rattle.ports.specs.Memory.{raised}
use Rattle.ports.specs.Openers.{Shelf}
use Rattle.ports.specs.declared.failed.Failed.{Failed}
use Rattle.disk_model.specs.Meaning.{Meaning}
use Rattle.disk_model.specs.Meaning as disks
use Rattle.changeset_model.specs.Version.{Version, First, Second}
use Rattle.history_model.specs.History.{Entry, bodies}
use Rattle.history_model.specs.Journal.{Header}
use Rattle.repo_journal.specs.View.{JournalView}
use Rattle.bookmark_lock.specs.Opening.{Opening}
use Rattle.repo_state.specs.State.{State, opening_of}
use Rattle.follower.specs.declared.followed.FollowEnd.{FollowEnd}
use Rattle.follower.specs.declared.followed.FollowEnd.TheVariants as ends
use Rattle.command_line.specs.declared.report.Report.{Report}
use Rattle.command_line.specs.declared.status.Outcome.{Outcome}
use Rattle.command_line.specs.declared.came.Came.{Came}
use Rattle.command_line.specs.Making.{Unopened}
use Rattle.command_line.specs.Opening.{OpensIn, RefusesIn}
use Rattle.command_line.specs.Outside.{Links, Outside, Peer, TakesNone, none_served, taken}
use Rattle.command_line.specs.Followed.{Answered, AsksLink, FollowsBy, FollowsFile, FollowsOn, FollowsOpened}
use Rattle.command_line.specs.Running.{Ends, OpensUnfollowed, RunsFollow, RunsOpenedOn, Writes}
use Rattle.command_line.proofs.Serving.{opens_none}

-- a file of the second version isn't refused as one of the first
pub is_current : (version : Version) (end : FollowEnd) → version ≡ Second → (end ≡ ends.OldFormat → version ≡ First) → end ≢ ends.OldFormat
is_current version end second old = λ is. absurd (apart (sym (old is) ∙ second))
  where
    apart : First ≡ Second → ⊥
    apart = λ same. absurd cc

pub asks_link : {K : Type 0} (opening : Opening) (opened : List Entry) (before : ℕ) (read m : Meaning) (links : Links) (peer : Peer K) (report : Report) (found answer : Result (Option K) Failed)
    → found ≡ answer → Answered links peer.next found → FollowsBy opening opened before read m peer report answer → AsksLink opening opened before read m links peer report
asks_link {K} opening opened before read m links peer report found answer is answered follows = record {
  answer = answer;
  answered = subst (λ (a : Result (Option K) Failed). Answered links peer.next a) is answered;
  follows = follows;
}

pub follows_on : {K : Type 0} (version other : Version) (opening : Opening) (opened : List Entry) (before : ℕ) (read m : Meaning) (links : Links) (peer : Peer K) (report : Report)
    → other ≡ version → FollowsOn other opening opened before read m links peer report → FollowsOn version opening opened before read m links peer report
follows_on version other opening opened before read m links peer report is follows = subst (λ (v : Version). FollowsOn v opening opened before read m links peer report) is follows

-- ---- how many links were taken

raised_by : {K : Type 0} → ℕ → Result (Option K) Failed → ℕ
raised_by n answer = if is_link answer then raised n else n

one_taken : (n a : ℕ) → a ≡ raised n → (n + 1 ≡ a) ⊎ (a ≡ 2 ^ 64 - 1)
one_taken n a is = by (cases_lt n (2 ^ 64 - 1))
  where
    by : (n < 2 ^ 64 - 1) ⊎ (2 ^ 64 - 1 ≤ n) → (n + 1 ≡ a) ⊎ (a ≡ 2 ^ 64 - 1)
    by (inl below) = inl (sym (is ∙ min-eq_left (omega (arith, below))))
    by (inr above) = inr (is ∙ min-eq_right (omega (arith, above)))

pub takes_one : {K : Type 0} (n a : ℕ) (answer : Result (Option K) Failed) (link after : K) (left : Option K) → answer ≡ Ok (Some link) → left ≡ Some after
    → a ≡ (if is_link answer then raised n else n) → (n + (taken none_served left).count ≡ a) ⊎ (a ≡ 2 ^ 64 - 1)
unfolding raised_by
takes_one {K} n a answer link after left is left_is given = subst (λ (o : Option K). (n + (taken none_served o).count ≡ a) ⊎ (a ≡ 2 ^ 64 - 1)) (sym left_is) (one_taken n a (given ∙ ap (raised_by n) is))

pub takes_none : {K : Type 0} (n a : ℕ) (answer : Result (Option K) Failed) → is_link answer ≡ false
    → a ≡ (if is_link answer then raised n else n) → (n + 0 ≡ a) ⊎ (a ≡ 2 ^ 64 - 1)
takes_none n a answer none given = inl (let same : a ≡ n = given ∙ ap (λ (b : Bool). if b then raised n else n) none in omega (arith, same))

abbrev ok_link : {K : Type 0} → Option K → Result (Option K) Failed
ok_link found = Ok found

pub no_link : {K : Type 0} (found : Option K) → found ≡ None → is_link (ok_link found) ≡ false
no_link {K} found is = ap (λ (o : Option K). is_link (ok_link o)) is

-- from the opened repository to the end
pub follows_opened : {D K : Type 0} (meaning : D → Meaning) (header : Header) (opened : List Entry) (journal : JournalView) (read : Meaning) (links : Links) (peer : Peer K) (report : Report) (disk : D) (first last : State)
    → first.header ≡ header → first.history ≡ opened → first.sealed ≡ length (bodies opened) → first.disk ≡ read → first.opening ≡ opening_of header journal.opening read
    → disks.IsSound (meaning disk) → meaning disk ≡ last.disk
    → FollowsOn first.header.version first.opening first.history first.sealed first.disk last.disk links peer report
    → FollowsOpened meaning header opened journal read links peer report (Some disk)
follows_opened {D} {K} meaning header opened journal read links peer report disk first last header_is history_is sealed_is disk_is opening_is whole left_is follows = record {
  disk = disk;
  disk_is = refl;
  whole = whole;
  follows = subst (λ (m : Meaning). FollowsOn header.version (opening_of header journal.opening read) opened (length (bodies opened)) read m links peer report) (sym left_is)
      (subst (λ (m : Meaning). FollowsOn header.version (opening_of header journal.opening read) opened (length (bodies opened)) m last.disk links peer report) disk_is
      (subst (λ n. FollowsOn header.version (opening_of header journal.opening read) opened n first.disk last.disk links peer report) sealed_is
      (subst (λ (h : List Entry). FollowsOn header.version (opening_of header journal.opening read) h first.sealed first.disk last.disk links peer report) history_is
      (subst (λ (o : Opening). FollowsOn header.version o first.history first.sealed first.disk last.disk links peer report) opening_is
      (subst (λ (x : Header). FollowsOn x.version first.opening first.history first.sealed first.disk last.disk links peer report) header_is follows)))));
}

pub runs_follow : {D K : Type 0} (meaning : D → Meaning) (file : List ℕ) (old new : Outside D) (links : Links) (peer : Peer K) (ran : Came D) (header : Header) (opened : List Entry) (journal : JournalView) (disk : D)
    → OpensIn meaning file old.shelf header opened journal disk
    → RunsOpenedOn meaning header opened journal (meaning disk) old.link new.link links peer ran
    → RunsFollow meaning file old new links peer ran
runs_follow meaning file old new links peer ran header opened journal disk opens ends = inr (record {
  report = ends.report;
  writes = ends.writes;
  ends = record {
    first = opens.first;
    gives = opens.gives;
    read = meaning disk;
    header = header;
    opened = opened;
    journal = journal;
    opens = opens.opens;
    follows = ends.ends;
  };
})

pub runs_unfollowed : {D K : Type 0} (meaning : D → Meaning) (file : List ℕ) (old new : Outside D) (links : Links) (peer : Peer K) (came : Outcome D) (ran : Came D) → ran.disk ≡ came.disk → Writes came.report ran.status old.link new.link → TakesNone links → peer.left ≡ None
    → (came.disk ≡ None → Unopened came.report old.unopened new.unopened) → IfSome came.disk (λ disk. RefusesIn meaning file old.shelf disk came.report) → RunsFollow meaning file old new links peer ran
runs_unfollowed meaning file old new links peer came ran same writes none unlinked unopened refuses = inl (record {
  opens = opens_none meaning file old new links came ran same writes none unopened refuses;
  unlinked = unlinked;
})
