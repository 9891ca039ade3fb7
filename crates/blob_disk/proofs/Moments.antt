-- The moments of a disk in memory that keeps a record.
use Rattle.std.proofs.Common.{◌≡◌, ℕ, suc, ◌+◌, ◌≤◌, List, [], ◌∷◌, ◌++◌, length, map, drop, refl, sym, ap, subst, ◌∙◌, inl, inr, arith, Option, None, Some}
use Rattle.std.specs.Prelude.{Contains, is_some}
use Rattle.std.specs.Option.{option_map, option_map_or}
use Rattle.std.proofs.lemmas.List.{length-append, length-drop, length-map, drop-append-le, map-append}
use Rattle.std.proofs.lemmas.List.Elements.{Contains-append_left, Contains-append_cases}
use Rattle.byte_fields.proofs.Lists.{each_of}
use Rattle.disk_model.specs.Images.{Disk, DiskCall, IsImage}
use Rattle.blob_disk.specs.declared.call_kind.CallKind.{CallKind}
use Rattle.disk_model.specs.Meaning.{Meaning, LeftSince}
use Rattle.disk_model.specs.Calls.{Kept, LeavesOnly}
use Rattle.blob_disk.specs.declared.call_kind.CallKind.TheVariants.{Size, Read, Write, Sync}
use Rattle.blob_disk.specs.Memory.{Memory, blank, after, finally, memories, disk_of}
use Rattle.blob_disk.specs.Log.{Log, noted}
use Rattle.blob_disk.specs.Tally.{Tally, counted, failed}
use Rattle.blob_disk.specs.MemMeaning.{meaning_of, states_of, quiet_of, AgreesWith}

-- ---- one more call

pub finally-push : (m : Memory) (calls : List DiskCall) (call : DiskCall) → finally m (calls ++ call ∷ []) ≡ after (finally m calls) call
finally-push m [] call = refl
finally-push m (c ∷ calls) call = finally-push (after m c) calls call

pub memories-push : (m : Memory) (calls : List DiskCall) (call : DiskCall) → memories m (calls ++ call ∷ []) ≡ memories m calls ++ after (finally m calls) call ∷ []
memories-push m [] call = refl
memories-push m (c ∷ calls) call = ap (λ ms. m ∷ ms) (memories-push (after m c) calls call)

pub length-memories : (m : Memory) (calls : List DiskCall) → length (memories m calls) ≡ suc (length calls)
length-memories m [] = refl
length-memories m (c ∷ calls) = ap (λ n. suc n) (length-memories (after m c) calls)

-- a call that changes nothing but the counts
pub kept_same : (m : Memory) (log : Option Log) (t u : Tally) → u.failing ≡ t.failing → Kept (meaning_of m log t) (meaning_of m log u)
kept_same m log t u same = record {
  honest = refl;
  quiet = ap (λ failing. quiet_of log failing (length m.marks)) same;
  no_shorter = λ n long. long;
  later = omega arith;
  told = refl;
  remembers = λ at image left. left;
}

-- ---- one more moment

only_one : {X : Type 0} (x y : X) → Contains (x ∷ []) y → y ≡ x
only_one x y c = each_of (λ z. z ≡ x) (x ∷ []) y (refl, tt) c

within_list : {X : Type 0} (n : ℕ) (xs : List X) (x : X) → Contains (drop n xs) x → n ≤ length xs
within_list n xs x c = let len = length-drop n xs in let k = c.1 in omega arith

-- a moment more in the past that is told
remembers_push : (old new : Meaning) (ds : List Disk) → old.past ≡ Some ds → new.past ≡ Some (ds ++ new.state ∷ []) → (t : ℕ) (image : List ℕ) → LeftSince old t image → LeftSince new t image
remembers_push old new ds before now t image left =
    let same : left.0 ≡ ds = (let is = left.1 in cc) in
    let among : Contains (drop t ds) left.2.0 = subst (λ es. Contains (drop t es) left.2.0) same left.2.1 in
    (ds ++ new.state ∷ [], now, (left.2.0, subst (λ es. Contains es left.2.0) (sym (drop-append-le t ds (new.state ∷ []) (within_list t ds left.2.0 among))) (Contains-append_left (drop t ds) (new.state ∷ []) left.2.0 among), left.2.2))

only_push : (old new : Meaning) (ds : List Disk) → old.past ≡ Some ds → new.past ≡ Some (ds ++ new.state ∷ []) → length ds ≡ old.moment + 1 → LeavesOnly (IsImage new.state) old new
only_push old new ds before now len = record {
  since = λ t image early left.
      (let same : left.0 ≡ ds ++ new.state ∷ [] = (let is = left.1 in cc) in
      let among : Contains (drop t ds ++ new.state ∷ []) left.2.0 = subst (λ es. Contains es left.2.0) (ap (λ es. drop t es) same ∙ drop-append-le t ds (new.state ∷ []) (omega arith)) left.2.1 in
      elim (Contains-append_cases (drop t ds) (new.state ∷ []) left.2.0 among) [
        | inl earlier ↦ inl (ds, before, (left.2.0, earlier, left.2.2))
        | inr last ↦ inr (subst (λ d. IsImage d image) (only_one new.state left.2.0 last) left.2.2)
      ]);
}

states_push : (m : Memory) (log : Log) (call : DiskCall) (k : ℕ) → AgreesWith m (Some log) → length (after m call).marks ≡ length m.marks → states_of (length (after m call).marks) (noted call k log) ≡ states_of (length m.marks) log ++ disk_of (after m call) ∷ []
states_push m log call k agrees room =
    ap (λ r. map disk_of (memories (blank r) (log.calls ++ call ∷ []))) room
    ∙ ap (λ ms. map disk_of ms) (memories-push (blank (length m.marks)) log.calls call)
    ∙ map-append disk_of (memories (blank (length m.marks)) log.calls) (after (finally (blank (length m.marks)) log.calls) call ∷ [])
    ∙ ap (λ n. states_of (length m.marks) log ++ disk_of (after n call) ∷ []) (agrees log refl)

length-states_of : (room : ℕ) (log : Log) → length (states_of room log) ≡ length log.calls + 1
length-states_of room log = length-map (memories (blank room) log.calls) disk_of ∙ length-memories (blank room) log.calls ∙ omega arith

past_push : (m : Memory) (log : Log) (call : DiskCall) (k : ℕ) → AgreesWith m (Some log) → length (after m call).marks ≡ length m.marks → (let p : Option (List Disk) = Some (states_of (length (after m call).marks) (noted call k log)) in p) ≡ Some (states_of (length m.marks) log ++ disk_of (after m call) ∷ [])
past_push m log call k agrees room = ap (λ ds. let p : Option (List Disk) = Some ds in p) (states_push m log call k agrees room)

only_turn : (m : Memory) (log : Option Log) (t u : Tally) (call : DiskCall) (k : ℕ) → AgreesWith m log → length (after m call).marks ≡ length m.marks → LeavesOnly (IsImage (disk_of (after m call))) (meaning_of m log t) (meaning_of (after m call) (option_map (noted call k) log) u)
only_turn m None t u call k agrees room = record { since = λ at image early left. (let is = left.1 in absurd (cc)) }
only_turn m (Some log) t u call k agrees room =
    only_push (meaning_of m (Some log) t) (meaning_of (after m call) (Some (noted call k log)) u) (states_of (length m.marks) log) refl
    (past_push m log call k agrees room)
    (length-states_of (length m.marks) log)

remembers_turn : (m : Memory) (log : Option Log) (t u : Tally) (call : DiskCall) (k : ℕ) → AgreesWith m log → length (after m call).marks ≡ length m.marks → (at : ℕ) (image : List ℕ) → LeftSince (meaning_of m log t) at image → LeftSince (meaning_of (after m call) (option_map (noted call k) log) u) at image
remembers_turn m None t u call k agrees room at image left = let is = left.1 in absurd (cc)
remembers_turn m (Some log) t u call k agrees room at image left =
    remembers_push (meaning_of m (Some log) t) (meaning_of (after m call) (Some (noted call k log)) u) (states_of (length m.marks) log) refl
    (past_push m log call k agrees room) at image left

told_turn : (log : Option Log) (call : DiskCall) (k room later : ℕ) → is_some (option_map (states_of later) (option_map (noted call k) log)) ≡ is_some (option_map (states_of room) log)
told_turn None call k room later = refl
told_turn (Some log) call k room later = refl

later_turn : (log : Option Log) (call : DiskCall) (k : ℕ) → option_map_or (λ l. length l.calls) log 0 ≤ option_map_or (λ l. length l.calls) (option_map (noted call k) log) 0
later_turn None call k = omega arith
later_turn (Some log) call k = let len = length-append log.calls (call ∷ []) in omega arith

quiet_turn : (log : Option Log) (call : DiskCall) (k : ℕ) (failing : List (CallKind × ℕ)) (room : ℕ) → quiet_of (option_map (noted call k) log) failing room ≡ quiet_of log failing room
quiet_turn None call k failing room = refl
quiet_turn (Some log) call k failing room = refl

pub agrees_turn : (m : Memory) (log : Option Log) (call : DiskCall) (k : ℕ) → AgreesWith m log → length (after m call).marks ≡ length m.marks → AgreesWith (after m call) (option_map (noted call k) log)
agrees_turn m None call k agrees room = λ l is. absurd (cc)
agrees_turn m (Some log) call k agrees room = λ l is.
    (let calls : log.calls ++ call ∷ [] ≡ l.calls = (let same : noted call k log ≡ l = cc in ap (λ x. x.calls) same) in
    ap (λ cs. finally (blank (length (after m call).marks)) cs) (sym calls)
    ∙ ap (λ r. finally (blank r) (log.calls ++ call ∷ [])) room
    ∙ finally-push (blank (length m.marks)) log.calls call
    ∙ ap (λ n. after n call) (agrees log refl))

-- a write or a sync that is recorded, where a record is kept
pub kept_turn : (m : Memory) (log : Option Log) (t u : Tally) (call : DiskCall) (k : ℕ) → AgreesWith m log → length (after m call).marks ≡ length m.marks → length m.reads ≤ length (after m call).reads → u.failing ≡ t.failing → Kept (meaning_of m log t) (meaning_of (after m call) (option_map (noted call k) log) u)
kept_turn m log t u call k agrees room longer same = record {
  honest = refl;
  quiet = quiet_turn log call k u.failing (length (after m call).marks) ∙ ap (λ failing. quiet_of log failing (length (after m call).marks)) same ∙ ap (λ r. quiet_of log t.failing r) room;
  no_shorter = λ n long file is. (let before = long m.reads refl in let now : (after m call).reads ≡ file = cc in subst (λ f. n ≤ length f) now (omega arith));
  later = later_turn log call k;
  told = told_turn log call k (length m.marks) (length (after m call).marks);
  remembers = remembers_turn m log t u call k agrees room;
}

-- ---- the calls of a disk in memory

failing-counted : (kind : CallKind) (t : Tally) → (counted kind t).failing ≡ t.failing
failing-counted Size t = refl
failing-counted Read t = refl
failing-counted Write t = refl
failing-counted Sync t = refl

pub same_counted : (kind : CallKind) (t s : Tally) → s ≡ counted kind t → s.failing ≡ t.failing
same_counted kind t s is = ap (λ x. x.failing) is ∙ failing-counted kind t

pub same_failed : (kind : CallKind) (t s u : Tally) → s ≡ counted kind t → u ≡ failed s → u.failing ≡ t.failing
same_failed kind t s u is fails = ap (λ x. x.failing) fails ∙ same_counted kind t s is

pub kept_moved : (m n : Memory) (log later : Option Log) (t u : Tally) (call : DiskCall) (k : ℕ) → AgreesWith m log → n ≡ after m call → later ≡ option_map (noted call k) log → length (after m call).marks ≡ length m.marks → length m.reads ≤ length (after m call).reads → u.failing ≡ t.failing → Kept (meaning_of m log t) (meaning_of n later u)
kept_moved m n log later t u call k agrees is noting room longer same =
    subst (λ x. Kept (meaning_of m log t) (meaning_of x later u)) (sym is)
    (subst (λ l. Kept (meaning_of m log t) (meaning_of (after m call) l u)) (sym noting)
    (kept_turn m log t u call k agrees room longer same))

pub agrees_moved : (m n : Memory) (log later : Option Log) (call : DiskCall) (k : ℕ) → AgreesWith m log → n ≡ after m call → later ≡ option_map (noted call k) log → length (after m call).marks ≡ length m.marks → AgreesWith n later
agrees_moved m n log later call k agrees is noting room =
    subst (λ x. AgreesWith x later) (sym is)
    (subst (λ l. AgreesWith (after m call) l) (sym noting) (agrees_turn m log call k agrees room))

-- a call that changes nothing leaves nothing else
pub only_same : (m : Memory) (log : Option Log) (t u : Tally) (P : List ℕ → Type 0) → LeavesOnly P (meaning_of m log t) (meaning_of m log u)
only_same m log t u P = record { since = λ at image early left. inl left }

pub only_moved : (m n : Memory) (log later : Option Log) (t u : Tally) (call : DiskCall) (k : ℕ) → AgreesWith m log → n ≡ after m call → later ≡ option_map (noted call k) log → length (after m call).marks ≡ length m.marks → LeavesOnly (IsImage (disk_of n)) (meaning_of m log t) (meaning_of n later u)
only_moved m n log later t u call k agrees is noting room =
    subst (λ x. LeavesOnly (IsImage (disk_of x)) (meaning_of m log t) (meaning_of x later u)) (sym is)
    (subst (λ l. LeavesOnly (IsImage (disk_of (after m call))) (meaning_of m log t) (meaning_of (after m call) l u)) (sym noting)
    (only_turn m log t u call k agrees room))
