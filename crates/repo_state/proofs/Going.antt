-- A group that is under way: what stays of it, as entries are made behind it and contents are read.
use Rattle.std.proofs.Common.{◌≡◌, ℕ, ◌+◌, ◌-◌, ◌≤◌, List, [], ◌∷◌, ◌++◌, length, sym, ap, subst, ◌∙◌}
use Rattle.std.specs.Prelude.{IsTrue, Option, Some}
use Rattle.std.specs.Option.{ForSome}
use Rattle.disk_model.specs.Images.{IsImage}
use Rattle.disk_model.specs.Meaning.{Meaning}
use Rattle.disk_model.specs.Calls.{Kept, LeavesOnly, Looked}
use Rattle.history_model.specs.History.{Entry, bodies}
use Rattle.history_model.specs.Journal.{Header, Stands, size}
use Rattle.blob_disk.proofs.Clients.{kept_then}
use Rattle.repo_journal.specs.Groups.{grown}
use Rattle.repo_journal.specs.Left.{group_in}
use Rattle.repo_journal.specs.Steps.{StandsAt, UnderWay}
use Rattle.repo_journal.specs.declared.left.At.{At}
use Rattle.repo_journal.specs.declared.left.Left as lefts
use Rattle.repo_state.specs.Groups.{left_of, part_size}
use Rattle.repo_state.specs.Images.{sealed_part, IsPending}
use Rattle.repo_state.specs.State.{EndsWithin, IsGoing, IsOfGroup}
use Rattle.repo_state.proofs.Chains.{leaves_map, leaves_then}
use Rattle.repo_state.proofs.GroupParts.{group_grown, group_waits, part_grows, part_same}
use Rattle.repo_state.proofs.Leaving.{Told}

pub told_of : {header : Header} {h : List Entry} {n upto : ℕ} {at : At} {file : ℕ} {bytes : List ℕ} {m : Meaning} → (w : IsOfGroup header h n upto at file bytes m) → IsTrue m.honest → Told header h n upto w.began.state file bytes
told_of w honest = record { alone = w.alone honest; whole = w.whole honest }

-- ---- one group

-- of a history with the same parts
pub group_at_same : (header : Header) (h g : List Entry) (n upto : ℕ) (at : At) (file : ℕ) (bytes : List ℕ) (m : Meaning) → sealed_part n h ≡ sealed_part n g → sealed_part upto h ≡ sealed_part upto g → IsOfGroup header h n upto at file bytes m → IsOfGroup header g n upto at file bytes m
group_at_same header h g n upto at file bytes m en eu w = record {
  began = w.began;
  under = w.under;
  alone = λ honest image left. subst (Stands header image) en (w.alone honest image left);
  whole = λ honest image left. subst (Stands header image) eu (w.whole honest image left);
  front = w.front;
}

pub under_looked : (at : At) (file : ℕ) (bytes : List ℕ) (began m new : Meaning) → Kept m new → Looked m new → (IsTrue m.honest → LeavesOnly (IsImage new.state) m new) → UnderWay at file bytes began m → UnderWay at file bytes began new
under_looked at file bytes began m new kept looked only u = record {
  sound = u.sound;
  kept = kept_then began m new u.kept kept;
  long = u.long;
  reaches = kept.no_shorter (file + length bytes) u.reaches;
  closed = u.closed;
  appends = λ honest. (
      let here : IsTrue m.honest = u.kept.honest ∙ honest in
      let old = u.appends honest in
      record {
        now = λ image is. old.now image (subst (λ d. IsImage d image) (looked here) is);
        since = leaves_then began m new u.kept old.since (leaves_map m new (λ image is. old.now image (subst (λ d. IsImage d image) (looked here) is)) (only here));
      });
  stands = λ honest. subst (λ d. StandsAt at file bytes began.state d) (sym (looked (u.kept.honest ∙ honest))) (u.stands honest);
}

pub group_looked : (header : Header) (h : List Entry) (n upto : ℕ) (at : At) (file : ℕ) (bytes : List ℕ) (m new : Meaning) → Kept m new → Looked m new → (IsTrue m.honest → LeavesOnly (IsImage new.state) m new) → IsOfGroup header h n upto at file bytes m → IsOfGroup header h n upto at file bytes new
group_looked header h n upto at file bytes m new kept looked only w = record {
  began = w.began;
  under = under_looked at file bytes w.began m new kept looked only w.under;
  alone = λ honest. w.alone (sym kept.honest ∙ honest);
  whole = λ honest. w.whole (sym kept.honest ∙ honest);
  front = λ honest. w.front (sym kept.honest ∙ honest);
}

-- ---- the group that a journal keeps, if there is one

abbrev pub HasLength : Option lefts.Left → List Entry → ℕ → ℕ → Type 0
HasLength left h n upto = ForSome left (λ (l : lefts.Left). l.length ≡ part_size n upto h)

abbrev pub Goes : Header → List Entry → ℕ → ℕ → ℕ → List ℕ → Meaning → Option lefts.Left → Type 0
Goes header h n upto file pending m left = ForSome left (IsGoing header h n upto file pending m)

-- where it ends, as the repository tells
pub ends_inside : (h : List Entry) (n upto : ℕ) (left : Option lefts.Left) (l : lefts.Left) → left ≡ Some l → ForSome (left_of upto left) (EndsWithin h n) → EndsWithin h n (record { upto = upto; at = l.at })
ends_inside h n upto left l e ends = ends (record { upto = upto; at = l.at }) (ap (λ (o : Option lefts.Left). left_of upto o) e)

pub length_same : (left : Option lefts.Left) (h g : List Entry) (n upto : ℕ) → bodies h ≡ bodies g → HasLength left h n upto → HasLength left g n upto
length_same left h g n upto same long = λ l e. long l e ∙ (λ i. size (part_same upto h g same i) - size (part_same n h g same i))

pub goes_same : (header : Header) (h g : List Entry) (n upto file : ℕ) (pending : List ℕ) (m : Meaning) (left : Option lefts.Left) → bodies h ≡ bodies g → Goes header h n upto file pending m left → Goes header g n upto file pending m left
goes_same header h g n upto file pending m left same goes = λ l e on. group_at_same header h g n upto l.at file (group_in l.length pending) m (part_same n h g same) (part_same upto h g same) (goes l e on)

pub goes_looked : (header : Header) (h : List Entry) (n upto file : ℕ) (pending : List ℕ) (m new : Meaning) (left : Option lefts.Left) → Kept m new → Looked m new → (IsTrue m.honest → LeavesOnly (IsImage new.state) m new) → Goes header h n upto file pending m left → Goes header h n upto file pending new left
goes_looked header h n upto file pending m new left kept looked only goes = λ l e on. group_looked header h n upto l.at file (group_in l.length pending) m new kept looked only (goes l e on)

-- an entry more waits, behind the group
pub length_entered : (left : Option lefts.Left) (h : List Entry) (n upto : ℕ) (entry : Entry) → n ≤ length (bodies h) → ForSome (left_of upto left) (EndsWithin h n) → HasLength left h n upto → HasLength left (h ++ entry ∷ []) n upto
length_entered left h n upto entry most ends long = λ l e. (
    let within = (ends_inside h n upto left l e ends).1 in
    long l e ∙ sym (λ i. size (part_grows upto h (entry ∷ []) within i) - size (part_grows n h (entry ∷ []) most i)))

pub goes_entered : (header : Header) (h : List Entry) (n upto file : ℕ) (pending more frame : List ℕ) (m : Meaning) (left : Option lefts.Left) (entry : Entry) → IsPending h n pending → more ≡ grown pending frame → ForSome (left_of upto left) (EndsWithin h n) → HasLength left h n upto → Goes header h n upto file pending m left → Goes header (h ++ entry ∷ []) n upto file more m left
goes_entered header h n upto file pending more frame m left entry p grows ends long goes = λ l e on. (
    let within = (ends_inside h n upto left l e ends).1 in
    let waits : l.length ≤ length pending = subst (λ k. k ≤ length pending) (sym (long l e)) (group_waits h n upto pending p) in
    let bytes : group_in l.length pending ≡ group_in l.length more = sym (ap (group_in l.length) grows ∙ group_grown l.length pending frame waits) in
    subst (λ b. IsOfGroup header (h ++ entry ∷ []) n upto l.at file b m) bytes
    (group_at_same header h (h ++ entry ∷ []) n upto l.at file (group_in l.length pending) m (sym (part_grows n h (entry ∷ []) p.most)) (sym (part_grows upto h (entry ∷ []) within)) (goes l e on)))
