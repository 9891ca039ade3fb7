-- Reads of manifests, and their derivation a changeset at a time.
use Rattle.std.proofs.Common.{◌≡◌, ℕ, Bool, true, false, not, ◌==◌, List, length, reverse, refl, sym, ap, subst, ◌∙◌}
use Rattle.std.specs.Prelude.{Option, None, Some, IfSome, Result, Ok, Err}
use Rattle.std.specs.Borrow.{Bor}
use Rattle.std.specs.Option.{option_map_or}
use mathlib.Core.Bool.{true≢false}
use Rattle.std.proofs.lemmas.List.{reverse-reverse}
use Rattle.std.proofs.lemmas.Option.{same_Some}
use Rattle.byte_fields.specs.Bytes.{Id}
use Rattle.changeset_model.specs.Path.{Path}
use Rattle.history_model.specs.History.{Entry, Known, known, is_known}
use Rattle.history_model.specs.Journal.{Header}
use Rattle.history_model.specs.Tree.{files_of, is_file, is_dir}
use Rattle.history_model.specs.Past.{past}
use Rattle.manifest_model.specs.Deleted.{has_deleted, path_log}
use Rattle.reply_model.specs.Reply as reply
use Rattle.reply_model.specs.Reply.{Seen, SeenBytes, SeenIds, Absent, AbsentChangeset, present, refuse_if, ◌>>=◌, Question, FsnodeOf, UnodeOf, HistoryOf, PathLogOf, DeletedOf, Sees}
use Rattle.reply_model.specs.After as answers
use Rattle.reply_model.specs.After.{Answers, AsksManifest, Looks, Derives, nothing}
use Rattle.node_table.specs.Table.{Table, is_settled}
use Rattle.node_table.specs.declared.roots.Roots.{Roots}
use Rattle.node_table.specs.declared.fault.TableFault.{TableFault}
use Rattle.node_table.specs.declared.fault.TableFault.TheVariants as tables
use Rattle.changeset_store.specs.Store.{number_in, known_at}
use Rattle.changeset_store.specs.Pasts.{past_at}
use Rattle.changeset_store.proofs.Numbering.{has_id, number_is}
use Rattle.derive_step.specs.declared.job.Job.{Job}
use Rattle.derive_step.specs.Pasts.{roots_of}
use Rattle.manifest_store.specs.declared.fault.ManifestFault.{ManifestFault}
use Rattle.manifest_store.specs.declared.fault.ManifestFault.TheVariants as reads
use Rattle.manifest_store.specs.Jobs.{IsNextJob}
use Rattle.manifest_store.specs.Manifests.{AreManifests}
use Rattle.manifest_store.specs.Reads.{IsAbsence, dir_of, fsnode_by, unode_by, history_by, deleted_by, path_log_by, fsnode_at, unode_at, history_at, deleted_at, path_log_at}
use Rattle.manifest_store.specs.Settling.{IsCollision}
use Rattle.manifest_store.proofs.Answered.{answered}
use Rattle.repo_calls.specs.declared.calls.AskFault.{AskFault}
use Rattle.repo_calls.specs.declared.calls.AskFault.TheVariants as asked
use Rattle.repo_calls.specs.Asking.{fault_answer, place_of}
use Rattle.settled_merge.proofs.Known.{known_apart}
use Rattle.settled_merge.proofs.Deriving.{itself}
pub use Rattle.settled_merge.proofs.Deriving.{Derived, done_known, done_right}
use Rattle.repo_state.specs.Manifests.{IsNextOf, is_settled_id, manifest_fault, table_fault}

-- ---- the past of a changeset is settled

pub found_id : (h : List Entry) (x : Id) (n : ℕ) → number_in (known h) x ≡ Some n → (known_at (known h) n).id ≡ x
found_id h x n e =
    let newest = reverse (known h) in
    let among = sym (number_is newest (known_apart h) x) ∙ ap (λ ks. number_in ks x) (reverse-reverse (known h)) ∙ e in
    subst (λ ks. (known_at ks n).id ≡ x) (reverse-reverse (known h)) (subst (λ o. IfSome o (λ n. (known_at (reverse newest) n).id ≡ x)) among (has_id newest x))

pub past_settled : (ks : List Known) (t : Table) (x : Id) (n : ℕ) → AreManifests ks t → IsNextOf ks t x None → number_in ks x ≡ Some n → is_settled t n ≡ true
past_settled ks t x n are next e =
    subst (λ n. is_settled t n ≡ true) (same_Some next.number n (sym next.numbered ∙ e)) (next.is_next next.number (itself ks next.number next.below))

-- a past with no next job has its changeset settled
pub none_is_settled : (ks : List Known) (t : Table) (x : Id) → AreManifests ks t → IsNextOf ks t x None → is_settled_id ks t x ≡ true
none_is_settled ks t x are next = ap (λ o. option_map_or (is_settled t) o false) next.numbered ∙ past_settled ks t x next.number are next next.numbered

-- ---- its roots

-- the roots in the table, where some are there
pub roots_told : (header : Header) (h : List Entry) (x : Id) (t : Table) → AreManifests (known h) t → (n : ℕ) → number_in (known h) x ≡ Some n → (o : Option Roots) → ((ks : List Known) → AreManifests ks t → IfSome o (λ r. Some r ≡ roots_of (past_at ks n)))
    → IfSome o (λ r. Answers header h (Derives x) (answers.Roots r.fsnode r.unode r.deleted) nothing)
roots_told header h x t are n numbered None told = tt
roots_told header h x t are n numbered (Some r) told = answered header h x n r numbered (told (known h) are)

-- ---- what is read

abbrev seen_as : {X : Type 0} → (X → Seen) → Result X Absent → Result Seen Absent
seen_as f (Ok x) = Ok (f x)
seen_as f (Err absent) = Err absent

through_two : {X : Type 0} (f : X → Seen) (p q : Result (Unit {0}) Absent) (x : X) → (p >>= λ _. q >>= λ _. Ok (f x)) ≡ seen_as f (p >>= λ _. q >>= λ _. Ok x)
through_two f (Ok u) (Ok v) x = refl
through_two f (Ok u) (Err e) x = refl
through_two f (Err e) q x = refl

through_one : {X : Type 0} (f : X → Seen) (p : Result (Unit {0}) Absent) (x : X) → (p >>= λ _. Ok (f x)) ≡ seen_as f (p >>= λ _. Ok x)
through_one f (Ok u) x = refl
through_one f (Err e) x = refl

unknown_by : {X : Type 0} (b : Bool) (e : Absent) (p : Result (Unit {0}) Absent) (then : Unit {0} → Result X Absent) → b ≡ false → ((refuse_if (not b) e >>= λ _. p) >>= then) ≡ Err e
unknown_by true e p then h = absurd (true≢false h)
unknown_by false e p then h = refl

unknown_at : {X : Type 0} (b : Bool) (e : Absent) (then : Unit {0} → Result X Absent) → b ≡ false → (refuse_if (not b) e >>= then) ≡ Err e
unknown_at true e then h = absurd (true≢false h)
unknown_at false e then h = refl

-- a read of a known changeset's manifests, and what is seen of it
record IsRead (h : List Entry) (x : Id) (q : Question) {X : Type 0} (f : X → Seen) (read : Result X Absent) : Type 0 where
  asks : AsksManifest q
  sees : (result : Result Seen Absent) → result ≡ seen_as f read → Sees h q result
  unknown : is_known (known h) x ≡ false → read ≡ Err (AbsentChangeset x)

module _ (header : Header) (h : List Entry) (x : Id) (q : Question) {X : Type 0} (f : X → Seen) (read : Result X Absent) (r : IsRead h x q f read) where
  saw : (y : X) → read ≡ Ok y → Answers header h (Looks q) (answers.Shows (f y)) nothing
  saw y e = (refl, r.sees (Ok (f y)) (sym (ap (seen_as f) e)))

  lacked : (absent : Absent) → read ≡ Err absent → Answers header h (Looks q) (answers.Lacks absent) nothing
  lacked absent e = (refl, r.sees (Err absent) (sym (ap (seen_as f) e)))

  absent_as : (fault : ManifestFault) → IsAbsence fault read → Answers header h (Looks q) (fault_answer (manifest_fault fault)) nothing
  absent_as reads.NoPath e = lacked reply.NoPath e
  absent_as reads.NotADir e = lacked reply.NotADir e
  absent_as reads.NotAFile e = lacked reply.NotAFile e
  absent_as reads.Memory e = refl

  -- why it wasn't derived
  not_derived : (fault : AskFault) → Answers header h (Derives x) (fault_answer fault) nothing → Answers header h (Looks q) (fault_answer fault) nothing
  not_derived (asked.NoContent id) a = absurd (let e = a.1 in cc)
  not_derived (asked.NoChangeset id) a = subst (λ absent. Answers header h (Looks q) (answers.Lacks absent) nothing) (sym a.1) (lacked (AbsentChangeset x) (r.unknown a.2))
  not_derived asked.NoPath a = absurd (let e = a.1 in cc)
  not_derived asked.NotADir a = absurd (let e = a.1 in cc)
  not_derived asked.NotAFile a = absurd (let e = a.1 in cc)
  not_derived asked.NoPolicy a = absurd (let e = a.1 in cc)
  not_derived (asked.Collision id) a = (refl, r.asks, a.2)
  not_derived asked.ReadFault a = absurd a
  not_derived (asked.BadBytes wanted found) a = absurd a
  not_derived asked.Memory a = refl

fsnode_read : (h : List Entry) (x : Id) (d : Path) → IsRead h x (FsnodeOf x d) SeenBytes (fsnode_by (known h) x d)
fsnode_read h x d = record {
  asks = tt;
  sees = λ result e. e ∙ sym (through_two SeenBytes (present (known h) x d) (refuse_if (is_file (files_of (known h) x) d) reply.NotADir) _);
  unknown = λ e. unknown_by (is_known (known h) x) (AbsentChangeset x) _ _ e;
}

unode_read : (h : List Entry) (x : Id) (p : Path) → IsRead h x (UnodeOf x p) SeenBytes (unode_by (known h) x p)
unode_read h x p = record {
  asks = tt;
  sees = λ result e. e ∙ sym (through_one SeenBytes (present (known h) x p) _);
  unknown = λ e. unknown_by (is_known (known h) x) (AbsentChangeset x) _ _ e;
}

history_read : (h : List Entry) (x : Id) (p : Path) → IsRead h x (HistoryOf x p) SeenIds (history_by (known h) x p)
history_read h x p = record {
  asks = tt;
  sees = λ result e. e ∙ sym (through_two SeenIds (present (known h) x p) (refuse_if (is_dir (files_of (known h) x) p) reply.NotAFile) _);
  unknown = λ e. unknown_by (is_known (known h) x) (AbsentChangeset x) _ _ e;
}

deleted_read : (h : List Entry) (x : Id) (p : Path) → IsRead h x (DeletedOf x p) SeenBytes (deleted_by (known h) x p)
deleted_read h x p = record {
  asks = tt;
  sees = λ result e. e ∙ sym (through_two SeenBytes (refuse_if (not (is_known (known h) x)) (AbsentChangeset x)) (refuse_if (not (has_deleted (past (known h) x) p)) reply.NoPath) _);
  unknown = λ e. unknown_at (is_known (known h) x) (AbsentChangeset x) _ e;
}

log_read : (h : List Entry) (x : Id) (p : Path) → IsRead h x (PathLogOf x p) SeenIds (path_log_by (known h) x p)
log_read h x p = record {
  asks = tt;
  sees = λ result e. e ∙ sym (through_two SeenIds (refuse_if (not (is_known (known h) x)) (AbsentChangeset x)) (refuse_if (length (path_log (past (known h) x) p) == 0) reply.NoPath) _);
  unknown = λ e. unknown_at (is_known (known h) x) (AbsentChangeset x) _ e;
}

same_place : (o : Option (Bor Path)) → dir_of o ≡ place_of o
same_place None = refl
same_place (Some p) = refl

module _ (header : Header) (h : List Entry) (x : Id) (n : ℕ) (numbered : number_in (known h) x ≡ Some n) (dir : Option (Bor Path)) where
  at_place : {X : Type 0} (read : Id → Path → Result X Absent) (P : Result X Absent → Type 0) → P (read (known_at (known h) n).id (dir_of dir)) → P (read x (place_of dir))
  at_place read P p = subst (λ d. P (read x d)) (same_place dir) (subst (λ y. P (read y (dir_of dir))) (found_id h x n numbered) p)

  pub fsnode_saw : (bytes : List ℕ) → fsnode_at (known h) n (dir_of dir) ≡ Ok bytes → Answers header h (Looks (FsnodeOf x (place_of dir))) (answers.Shows (SeenBytes bytes)) nothing
  fsnode_saw bytes e = saw header h x _ SeenBytes (fsnode_by (known h) x (place_of dir)) (fsnode_read h x (place_of dir)) bytes (at_place (fsnode_by (known h)) (λ r. r ≡ Ok bytes) e)

  pub fsnode_absent : (fault : ManifestFault) → IsAbsence fault (fsnode_at (known h) n (dir_of dir)) → Answers header h (Looks (FsnodeOf x (place_of dir))) (fault_answer (manifest_fault fault)) nothing
  fsnode_absent fault e = absent_as header h x _ SeenBytes (fsnode_by (known h) x (place_of dir)) (fsnode_read h x (place_of dir)) fault (at_place (fsnode_by (known h)) (IsAbsence fault) e)

  pub unode_saw : (bytes : List ℕ) → unode_at (known h) n (dir_of dir) ≡ Ok bytes → Answers header h (Looks (UnodeOf x (place_of dir))) (answers.Shows (SeenBytes bytes)) nothing
  unode_saw bytes e = saw header h x _ SeenBytes (unode_by (known h) x (place_of dir)) (unode_read h x (place_of dir)) bytes (at_place (unode_by (known h)) (λ r. r ≡ Ok bytes) e)

  pub unode_absent : (fault : ManifestFault) → IsAbsence fault (unode_at (known h) n (dir_of dir)) → Answers header h (Looks (UnodeOf x (place_of dir))) (fault_answer (manifest_fault fault)) nothing
  unode_absent fault e = absent_as header h x _ SeenBytes (unode_by (known h) x (place_of dir)) (unode_read h x (place_of dir)) fault (at_place (unode_by (known h)) (IsAbsence fault) e)

  pub deleted_saw : (bytes : List ℕ) → deleted_at (known h) n (dir_of dir) ≡ Ok bytes → Answers header h (Looks (DeletedOf x (place_of dir))) (answers.Shows (SeenBytes bytes)) nothing
  deleted_saw bytes e = saw header h x _ SeenBytes (deleted_by (known h) x (place_of dir)) (deleted_read h x (place_of dir)) bytes (at_place (deleted_by (known h)) (λ r. r ≡ Ok bytes) e)

  pub deleted_absent : (fault : ManifestFault) → IsAbsence fault (deleted_at (known h) n (dir_of dir)) → Answers header h (Looks (DeletedOf x (place_of dir))) (fault_answer (manifest_fault fault)) nothing
  deleted_absent fault e = absent_as header h x _ SeenBytes (deleted_by (known h) x (place_of dir)) (deleted_read h x (place_of dir)) fault (at_place (deleted_by (known h)) (IsAbsence fault) e)

module _ (header : Header) (h : List Entry) (x : Id) (n : ℕ) (numbered : number_in (known h) x ≡ Some n) (p : Path) where
  pub history_saw : (ids : List Id) → history_at (known h) n p ≡ Ok ids → Answers header h (Looks (HistoryOf x p)) (answers.Shows (SeenIds ids)) nothing
  history_saw ids e = saw header h x _ SeenIds (history_by (known h) x p) (history_read h x p) ids (subst (λ y. history_by (known h) y p ≡ Ok ids) (found_id h x n numbered) e)

  pub history_absent : (fault : ManifestFault) → IsAbsence fault (history_at (known h) n p) → Answers header h (Looks (HistoryOf x p)) (fault_answer (manifest_fault fault)) nothing
  history_absent fault e = absent_as header h x _ SeenIds (history_by (known h) x p) (history_read h x p) fault (subst (λ y. IsAbsence fault (history_by (known h) y p)) (found_id h x n numbered) e)

  pub log_saw : (ids : List Id) → path_log_at (known h) n p ≡ Ok ids → Answers header h (Looks (PathLogOf x p)) (answers.Shows (SeenIds ids)) nothing
  log_saw ids e = saw header h x _ SeenIds (path_log_by (known h) x p) (log_read h x p) ids (subst (λ y. path_log_by (known h) y p ≡ Ok ids) (found_id h x n numbered) e)

  pub log_absent : (fault : ManifestFault) → IsAbsence fault (path_log_at (known h) n p) → Answers header h (Looks (PathLogOf x p)) (fault_answer (manifest_fault fault)) nothing
  log_absent fault e = absent_as header h x _ SeenIds (path_log_by (known h) x p) (log_read h x p) fault (subst (λ y. IsAbsence fault (path_log_by (known h) y p)) (found_id h x n numbered) e)

pub fsnode_not_derived : (header : Header) (h : List Entry) (x : Id) (d : Path) (fault : AskFault) → Answers header h (Derives x) (fault_answer fault) nothing → Answers header h (Looks (FsnodeOf x d)) (fault_answer fault) nothing
fsnode_not_derived header h x d fault a = not_derived header h x _ SeenBytes _ (fsnode_read h x d) fault a

pub unode_not_derived : (header : Header) (h : List Entry) (x : Id) (p : Path) (fault : AskFault) → Answers header h (Derives x) (fault_answer fault) nothing → Answers header h (Looks (UnodeOf x p)) (fault_answer fault) nothing
unode_not_derived header h x p fault a = not_derived header h x _ SeenBytes _ (unode_read h x p) fault a

pub history_not_derived : (header : Header) (h : List Entry) (x : Id) (p : Path) (fault : AskFault) → Answers header h (Derives x) (fault_answer fault) nothing → Answers header h (Looks (HistoryOf x p)) (fault_answer fault) nothing
history_not_derived header h x p fault a = not_derived header h x _ SeenIds _ (history_read h x p) fault a

pub deleted_not_derived : (header : Header) (h : List Entry) (x : Id) (p : Path) (fault : AskFault) → Answers header h (Derives x) (fault_answer fault) nothing → Answers header h (Looks (DeletedOf x p)) (fault_answer fault) nothing
deleted_not_derived header h x p fault a = not_derived header h x _ SeenBytes _ (deleted_read h x p) fault a

pub log_not_derived : (header : Header) (h : List Entry) (x : Id) (p : Path) (fault : AskFault) → Answers header h (Derives x) (fault_answer fault) nothing → Answers header h (Looks (PathLogOf x p)) (fault_answer fault) nothing
log_not_derived header h x p fault a = not_derived header h x _ SeenIds _ (log_read h x p) fault a

-- ---- a chain is settled a changeset at a time

pub collided : (header : Header) (h : List Entry) (x : Id) (fault : TableFault) → IsCollision (known h) fault → Answers header h (Derives x) (fault_answer (table_fault fault)) nothing
collided header h x (tables.Collision id) c = (refl, tt, c)
collided header h x tables.Memory c = refl

pub next_of : (ks : List Known) (t : Table) (x : Id) (o : Option Job) (job : Job) → IsNextOf ks t x o → o ≡ Some job → (n : ℕ) × IsNextJob ks t n job
next_of ks t x o job next e = let is = subst (IsNextOf ks t x) e next in (is.number, is.is_next)
