-- The turns of a seal: what each asks, and what is so after it.
use Rattle.std.proofs.Common.{◌≡◌, ℕ, ◌+◌, ◌-◌, ◌≤◌, ◌<◌, Bool, true, false, List, [], ◌∷◌, ◌++◌, length, take, drop, refl, sym, ap, subst, ◌∙◌, arith, append-nil, length-append}
use Rattle.std.specs.Prelude.{◌⊎◌, IsSome, IsTrue, Option, None, Some, MatchOption}
use mathlib.Core.Bool.{true≢false}
use mathlib.Core.Logic.{inl, inr}
use Rattle.std.specs.Option.{ForSome}
use Rattle.std.proofs.lemmas.List.{length-drop, length-take-le, take-append-le, take-take}
use Rattle.byte_fields.proofs.Booleans.{same_some}
use Rattle.ports.specs.Faults.{Counts}
use Rattle.disk_model.specs.Images as disk_images
use Rattle.disk_model.specs.Images.{IsImage, write_at}
use Rattle.std.specs.List.{AllByRecursion}
use Rattle.disk_model.specs.Meaning.{Meaning, IsLong}
use Rattle.disk_model.specs.Meaning as disk
use Rattle.disk_model.specs.Calls.{Kept, LeavesOnly}
use Rattle.history_model.specs.History.{Body, Fault, Entry, bodies, is_down}
use Rattle.history_model.specs.Journal.{Header, HoldsParts, Keeps, size}
use Rattle.reply_model.specs.After.{entry_by}
use Rattle.reply_model.proofs.Histories.{IsLegal-push}
use Rattle.repo_journal.specs.Cuts.{BreaksOff, HoldsGroup, IsCutOff}
use Rattle.repo_journal.specs.Groups.{group, IsGroup, IsWith, with_group}
use Rattle.repo_journal.specs.Left.{cut_by as cut_inside, cut_off, group_in, laid, left_at, length_of, opened}
use Rattle.repo_journal.specs.Payloads.{ArePayloads}
use Rattle.repo_journal.specs.Sealing.{AllClosed}
use Rattle.repo_journal.specs.Steps.{Leaves as LeavesGroup, StandsAt, StopsAt, UnderWay}
use Rattle.repo_journal.specs.View.{JournalView}
use Rattle.repo_journal.specs.declared.cut.Cut.{Cut}
use Rattle.repo_journal.specs.declared.cut.Cut.TheVariants.{Write, Sync, Open, Seal}
use Rattle.repo_journal.specs.declared.left.At.{At}
use Rattle.repo_journal.specs.declared.left.At.TheVariants as stages
use Rattle.repo_journal.specs.declared.left.Left as lefts
use Rattle.bookmark_lock.specs.Opening.{Opening}
use Rattle.repo_state.specs.Groups.{goes_on, group_bytes, is_cut, is_cut_off, left_of, opens_at, part_size, reach_at, reach_of}
use Rattle.repo_state.specs.Images.{sealed_part, IsPending, Leaves, StandsFor, StandsNow}
use Rattle.repo_state.specs.State.{IsQuiet, faults_in, Covers, EndsWithin, IsOfGroup, IsSound, LeavesAfter, Agrees, opening_of}
use Rattle.blob_disk.proofs.Clients.{kept_then}
use Rattle.landing_core.proofs.Down.{down-breaking as is_down-breaking}
use Rattle.repo_state.proofs.GroupParts.{group_at, group_dropped, group_long, has_group, HasGroup, part_least, part_same, part_whole, pending_same, pending_size}
use Rattle.repo_state.proofs.Chains.{leaves_map}
use Rattle.repo_state.proofs.Going.{ends_inside, told_of}
use Rattle.repo_state.proofs.Laid.{holds_behind}
use Rattle.repo_state.proofs.Leaving.{Told, keeps_up, leaves_alone, leaves_closed, leaves_opened, told_by, either_now, for_same}
use Rattle.repo_state.proofs.LeftOver.{left_none, left_open, left_shut}
use Rattle.repo_state.proofs.Sounds.{Holds, all_closed, covers_on, covers_one, some_quiet, was_honest}
use Rattle.repo_state.proofs.Stands.{bodies-fault, faults-fault, size-same}
use Rattle.repo_state.proofs.Wholes.{group_holds}

-- ---- what waits is a group, and fits

-- the records of at least one entry
pub record Waiting (h : List Entry) (n : ℕ) (bytes : List ℕ) : Type 0 where
  pub payload : List ℕ
  pub payloads : List (List ℕ)
  pub are : ArePayloads (drop n (bodies h)) (payload ∷ payloads)
  pub is : bytes ≡ group (payload ∷ payloads)

some_wait : (bs : List Body) (payloads : List (List ℕ)) → 0 < length bs → ArePayloads bs payloads → (payload : List ℕ) × (rest : List (List ℕ)) × (payloads ≡ payload ∷ rest)
some_wait [] payloads some are = absurd (omega arith)
some_wait (b ∷ bs) [] some are = absurd are
some_wait (b ∷ bs) (payload ∷ rest) some are = (payload, rest, refl)

pub waiting : (h : List Entry) (n : ℕ) (bytes : List ℕ) → n < length (bodies h) → IsPending h n bytes → Waiting h n bytes
waiting h n bytes some p =
    let len = length-drop n (bodies h) in
    let first = some_wait (drop n (bodies h)) p.payloads (omega arith) p.are in
    record {
      payload = first.0;
      payloads = first.1;
      are = subst (λ ps. ArePayloads (drop n (bodies h)) ps) first.2 p.are;
      is = p.is ∙ ap (λ ps. group ps) first.2;
    }

pub is_group : (h : List Entry) (n : ℕ) (bytes : List ℕ) → n < length (bodies h) → IsPending h n bytes → IsGroup bytes
is_group h n bytes some p = let w = waiting h n bytes some p in (w.payload, w.payloads, w.is)

pub fits : (header : Header) (h : List Entry) (n upto : ℕ) (journal : JournalView) (m : Meaning) → Agrees header h n upto journal m → journal.size + length journal.pending.bytes ≤ journal.capacity
fits header h n upto journal m agrees =
    let room = agrees.fits in
    let whole = pending_size h n journal.pending.bytes agrees.waits in
    let file = agrees.size_is in
    let most = agrees.capacity_is in
    omega arith

-- all that waits as it stands on the disk
group_whole : (payload : List ℕ) (payloads : List (List ℕ)) → group_in (length (group (payload ∷ payloads))) (group (payload ∷ payloads)) ≡ group (payload ∷ payloads)
group_whole payload payloads = ap (λ ps. group_in (length (group (payload ∷ payloads))) (group (payload ∷ ps))) (sym (append-nil payloads)) ∙ group_at payload payloads []

waits_whole : (h : List Entry) (n : ℕ) (bytes : List ℕ) → Waiting h n bytes → group_in (length bytes) bytes ≡ bytes
waits_whole h n bytes w = subst (λ b. group_in (length b) b ≡ b) (sym w.is) (group_whole w.payload w.payloads)

-- it has the size of all entries behind the sealed ones
whole_size : (h : List Entry) (n : ℕ) (bytes : List ℕ) → IsPending h n bytes → length bytes ≡ part_size n (length (bodies h)) h
whole_size h n bytes p =
    let both = pending_size h n bytes p in
    let same : size (sealed_part (length (bodies h)) h) ≡ size h = size-same (sealed_part (length (bodies h)) h) h (part_whole h) in
    omega arith

-- ---- what stands before the gate

front_written : (file bytes : List ℕ) (at : ℕ) → 1 ≤ at → at ≤ length file → take (at - 1) (write_at at bytes file) ≡ take (at - 1) file
front_written file bytes at some long =
    let len = length-take-le at file long in
    take-append-le (at - 1) (take at file) (bytes ++ drop (at + length bytes) file) (omega arith) ∙ take-take (at - 1) at file (omega arith)

front_gated : (file bytes : List ℕ) (at : ℕ) → at ≤ length file → take at (write_at at bytes file) ≡ take at file
front_gated file bytes at long =
    let len = length-take-le at file long in
    take-append-le at (take at file) (bytes ++ drop (at + length bytes) file) (omega arith) ∙ take-take at at file (omega arith)

abbrev SameFront : ℕ → Meaning → Meaning → Type 0
SameFront file m new = take (file - 1) new.state.reads ≡ take (file - 1) m.state.reads

-- ---- of all fields but what a crash leaves

abbrev pub broke : List Entry → ℕ → List Entry
broke h who = h ++ record { who = who; body = Fault true } ∷ []

-- no fault is met
sound_moved : (opening : Opening) (h : List Entry) (n reach p further : ℕ) (m new : Meaning) → Kept m new → Counts m.faults new.faults false → n ≤ p → p ≤ further → further ≤ length (bodies h)
    → (IsTrue new.honest → Leaves opening.header opening.length opening.moment h p further opening.disk new) → IsSound opening h n reach m → IsSound opening h p further new
sound_moved opening h n reach p further m new kept counts grows reaches within leaves sound =
    let begins = sound.begins in
    record {
      legal = sound.legal;
      begins = omega arith;
      reaches = reaches;
      within = within;
      calm = sound.calm;
      honest = sound.honest ∙ sym kept.honest;
      quiet = sound.quiet ∙ sym kept.quiet;
      begun = sound.begun;
      kept = kept_then opening.disk m new sound.kept kept;
      covers = covers_on (faults_in h) opening.faults m.faults new.faults counts.grows sound.covers;
      most = counts.most sound.most;
      leaves = leaves;
    }

-- or one is
sound_broken : (opening : Opening) (h : List Entry) (n reach who further : ℕ) (m new : Meaning) → is_down h ≡ false → Kept m new → Counts m.faults new.faults true → (IsQuiet opening → ⊥) → n ≤ further → further ≤ length (bodies h)
    → (IsTrue new.honest → Leaves opening.header opening.length opening.moment (broke h who) n further opening.disk new) → IsSound opening h n reach m → IsSound opening (broke h who) n further new
sound_broken opening h n reach who further m new up kept counts calm reaches within leaves sound = record {
  legal = (IsLegal-push opening.header h (record { who = who; body = Fault true })).1 (sound.legal, up);
  begins = sound.begins;
  reaches = reaches;
  within = subst (λ (bs : List Body). further ≤ length bs) (sym (bodies-fault h who true)) within;
  calm = λ quiet. absurd (calm quiet);
  honest = sound.honest ∙ sym kept.honest;
  quiet = sound.quiet ∙ sym kept.quiet;
  begun = sound.begun;
  kept = kept_then opening.disk m new sound.kept kept;
  covers = subst (λ f. Covers f opening.faults new.faults) (sym (faults-fault h who true)) (covers_one (faults_in h) opening.faults m.faults new.faults counts.grows sound.covers (counts.cause refl));
  most = counts.most sound.most;
  leaves = leaves;
}

-- none fails of a file within the capacity, on a disk that is quiet so far
pub never : (opening : Opening) (m : Meaning) (len : ℕ) → opening.quiet ≡ m.quiet → IsQuiet opening → ForSome m.quiet (λ most. len ≤ most → ⊥) → len ≤ opening.header.capacity → ⊥
never opening m len same quiet calm short = by opening.quiet same quiet
  where
    by : (q : Option ℕ) → q ≡ m.quiet → MatchOption q ⊥ (λ n. opening.header.capacity ≤ n) → ⊥
    by None e q = q
    by (Some n) e q = calm n (sym e) (omega arith)

-- the group has come to another stage, or a call of it failed
agrees_staged : (header : Header) (h g : List Entry) (n upto p len : ℕ) (at : At) (journal : JournalView) (m new : Meaning) → bodies h ≡ bodies g → disk.IsSound m → Kept m new → len ≡ part_size n p h
    → (IsTrue m.honest → SameFront journal.size m new) → LeavesAfter header g n journal.pending.bytes (Some (record { upto = p; at = at })) new
    → (IsTrue (goes_on at) → IsOfGroup header g n p at journal.size (group_in len journal.pending.bytes) new)
    → Agrees header h n upto journal m → Agrees header g n p (record journal { left = Some (record { length = len; at = at }) }) new
agrees_staged header h g n upto p len at journal m new same told kept long front left going agrees = record {
  capacity_is = agrees.capacity_is;
  fits = subst (λ s. s ≤ header.capacity) (size-same h g same) agrees.fits;
  size_is = agrees.size_is ∙ ap (λ (x : List Entry). size x) (part_same n h g same);
  left = left;
  long = kept.no_shorter journal.size agrees.long;
  waits = pending_same h g n journal.pending.bytes same agrees.waits;
  group = λ l e. ap (λ (x : lefts.Left). x.length) (sym (same_some (record { length = len; at = at }) l e)) ∙ (long ∙ (λ i. size (part_same p h g same i) - size (part_same n h g same i)));
  going = λ l e. subst (λ (x : lefts.Left). IsTrue (goes_on x.at) → IsOfGroup header g n p x.at journal.size (group_in x.length journal.pending.bytes) new) (same_some (record { length = len; at = at }) l e) going;
  holds = λ honest. (
      let was = was_honest m new kept honest in
      subst (λ bs. AllByRecursion (HoldsParts (with_group journal.size journal.pending.bytes new.state.reads) bs) bs) same
      (subst (λ f. AllByRecursion (HoldsParts f (bodies h)) (bodies h)) (ap (λ (f : List ℕ). f ++ 1 ∷ journal.pending.bytes) (sym (front was))) (agrees.holds was)));
  stable = λ honest none. absurd cc;
}

-- ---- the first turn

module _ {header : Header} {h : List Entry} {n upto : ℕ} {journal : JournalView} {first m : Meaning} (none : journal.left ≡ None) (some : n < length (bodies h)) (told : disk.IsSound m) (holds : Holds first m header h n upto journal) where
  abbrev opening : Opening
  opening = opening_of header journal.opening first

  agrees : Agrees header h n upto journal m
  agrees = holds.1

  -- without a group
  sound_before : IsSound opening h n n m
  sound_before = subst (λ (o : Option lefts.Left). IsSound opening h n (reach_of n (left_of upto o)) m) none holds.0

  keeps : IsTrue m.honest → Keeps header (IsImage m.state) (sealed_part n h)
  keeps honest = keeps_up header opening.length opening.moment h n first m (sound_before.leaves honest)

  pub closed_file : IsTrue m.honest → AllClosed journal.size m.state
  closed_file honest = subst (λ s. AllClosed s m.state) (sym agrees.size_is) (all_closed header (sealed_part n h) m (keeps honest))

  waits : Waiting h n journal.pending.bytes
  waits = waiting h n journal.pending.bytes some agrees.waits

  told_all : IsTrue m.honest → Told header h n (length (bodies h)) m.state journal.size journal.pending.bytes
  told_all honest =
      subst (λ s. Told header h n (length (bodies h)) m.state s journal.pending.bytes) (sym agrees.size_is)
      (subst (λ b. Told header h n (length (bodies h)) m.state (size (sealed_part n h)) b) (sym waits.is)
      (told_by header h n waits.payload waits.payloads m (keeps honest) sound_before.legal waits.are (group_holds header h n upto journal m (group (waits.payload ∷ waits.payloads)) agrees none honest waits.is)))

  -- while the gate is closed
  shut : (new : Meaning) → (IsTrue m.honest → (image : List ℕ) → IsImage new.state image → StandsFor header h n image) → (g : List Entry) → bodies h ≡ bodies g → Kept m new → LeavesOnly (IsImage new.state) m new → IsTrue new.honest → Leaves header opening.length opening.moment g n n first new
  shut new stands g same kept time honest =
      let was = was_honest m new kept honest in
      leaves_alone header opening.length opening.moment h g n first m new sound_before.begun sound_before.kept sound_before.begins same (stands was) time (sound_before.leaves was)

  module _ (new : Meaning) (kept : Kept m new) (time : LeavesOnly (IsImage new.state) m new) where
    -- the write was done
    module _ (counts : Counts m.faults new.faults false) (under : UnderWay stages.Laid journal.size journal.pending.bytes m new) (up : is_down h ≡ false) where
      begun_alone : IsTrue m.honest → (image : List ℕ) → IsImage new.state image → StandsFor header h n image
      begun_alone honest image is = (told_all honest).alone image ((under.stands honest).1 image is)

      begun_group : IsOfGroup header h n (length (bodies h)) stages.Laid journal.size (group_in (length journal.pending.bytes) journal.pending.bytes) new
      begun_group =
          subst (λ b. IsOfGroup header h n (length (bodies h)) stages.Laid journal.size b new) (sym (waits_whole h n journal.pending.bytes waits))
          (record { began = m; under = under; alone = λ honest. (told_all (was_honest m new kept honest)).alone; whole = λ honest. (told_all (was_honest m new kept honest)).whole; front = λ honest image is. ap (take (journal.size - 1)) (agrees.stable (was_honest m new kept honest) none image is) })

      begun_front : IsTrue m.honest → SameFront journal.size m new
      begun_front honest =
          let file = agrees.size_is in
          ap (take (journal.size - 1)) (under.stands honest).0 ∙ front_written m.state.reads journal.pending.bytes journal.size (omega arith) (agrees.long m.state.reads (told.reads honest))

      begun_here : Holds first new header h n (length (bodies h)) (record journal { left = Some (laid (length journal.pending.bytes)) })
      begun_here = (
        sound_moved opening h n n n n m new kept counts (omega arith) (omega arith) agrees.waits.most (shut new begun_alone h refl kept time) sound_before,
        agrees_staged header h h n upto (length (bodies h)) (length journal.pending.bytes) stages.Laid journal m new refl told kept (whole_size h n journal.pending.bytes agrees.waits) begun_front
            (left_shut header h n (length (bodies h)) stages.Laid journal.pending.bytes new (sym up) refl some (omega arith) (λ honest. begun_alone (was_honest m new kept honest)))
            (λ _. begun_group) agrees,
      )

      -- each image on the way stood for what was sealed
      pub begun_leaves : IsTrue m.honest → LeavesOnly (StandsFor header h n) m new
      begun_leaves honest = leaves_map m new (begun_alone honest) time

      pub holds_begun : (p : ℕ) (after : JournalView) → p ≡ length (bodies h) → after ≡ record journal { left = Some (laid (length journal.pending.bytes)) } → Holds first new header h n p after
      holds_begun p after all is = subst (λ k. Holds first new header h n k after) (sym all) (subst (λ j. Holds first new header h n (length (bodies h)) j) (sym is) begun_here)

    -- or it failed
    module _ (counts : Counts m.faults new.faults true) (who : ℕ) (up : is_down h ≡ false) (off : IsTrue m.honest → IsCutOff Write journal.size journal.pending.bytes m.state new.state) (calm : ForSome m.quiet (λ most. journal.size + length journal.pending.bytes ≤ most → ⊥)) where
      failed_alone : IsTrue m.honest → (image : List ℕ) → IsImage new.state image → StandsFor header h n image
      failed_alone honest image is = (told_all honest).alone image ((off honest).1 image is)

      same : bodies h ≡ bodies (broke h who)
      same = sym (bodies-fault h who true)

      failed_here : Holds first new header (broke h who) n (length (bodies h)) (record journal { left = Some (cut_off (length journal.pending.bytes) Write) })
      failed_here =
          let within = fits header h n upto journal m agrees in
          let capacity = agrees.capacity_is in (
            sound_broken opening h n n who n m new up kept counts (λ quiet. never opening m (journal.size + length journal.pending.bytes) sound_before.quiet quiet calm (omega arith)) (omega arith) agrees.waits.most (shut new failed_alone (broke h who) same kept time) sound_before,
            agrees_staged header h (broke h who) n upto (length (bodies h)) (length journal.pending.bytes) (stages.Cut Write) journal m new same told kept (whole_size h n journal.pending.bytes agrees.waits)
                (λ honest. ap (take (journal.size - 1)) (off honest).0)
                (left_shut header (broke h who) n (length (bodies h)) (stages.Cut Write) journal.pending.bytes new (sym (is_down-breaking h who)) refl some (subst (λ (bs : List Body). length (bodies h) ≤ length bs) same (omega arith))
                (λ honest image is. for_same header h (broke h who) n image same (failed_alone (was_honest m new kept honest) image is)))
                (λ going. absurd (true≢false (sym going))) agrees,
          )

      pub unbegun_leaves : IsTrue m.honest → LeavesOnly (StandsFor header h n) m new
      unbegun_leaves honest = leaves_map m new (failed_alone honest) time

      pub holds_unbegun : (header1 : Header) (h1 : List Entry) (p : ℕ) (after : JournalView) → header1 ≡ header → h1 ≡ broke h who → p ≡ length (bodies h) → after ≡ record journal { left = Some (cut_off (length journal.pending.bytes) Write) } → Holds first new header1 h1 n p after
      holds_unbegun header1 h1 p after eh e all is =
          subst (λ x. Holds first new x h1 n p after) (sym eh)
          (subst (λ g. Holds first new header g n p after) (sym e)
          (subst (λ k. Holds first new header (broke h who) n k after) (sym all)
          (subst (λ j. Holds first new header (broke h who) n (length (bodies h)) j) (sym is) failed_here)))

-- which call it was
pub cut_is : (bytes : List ℕ) (old new : JournalView) (m after : Meaning) (cut : Cut) → (b : BreaksOff bytes old new m after) → cut_inside new.left ≡ Some cut → b.cut ≡ cut
cut_is bytes old new m after cut b first = same_some b.cut cut (sym (ap (λ (j : JournalView). cut_inside j.left) b.is) ∙ first)

pub breaks_at : (bytes : List ℕ) (old new : JournalView) (m after : Meaning) → (b : BreaksOff bytes old new m after) → b.cut ≡ Write → new ≡ record old { left = Some (cut_off (length bytes) Write) }
breaks_at bytes old new m after b e = b.is ∙ ap (λ (cut : Cut). record old { left = Some (cut_off (length bytes) cut) }) e

pub breaks_so : (bytes : List ℕ) (old new : JournalView) (m after : Meaning) → (b : BreaksOff bytes old new m after) → b.cut ≡ Write → (IsTrue m.honest → AllClosed old.size m.state) → IsTrue m.honest → IsCutOff Write old.size bytes m.state after.state
breaks_so bytes old new m after b e closed honest = subst (λ (cut : Cut). IsCutOff cut old.size bytes m.state after.state) e (b.leaves honest (closed honest))

-- ---- the second and the third

module _ {header : Header} {h : List Entry} {n upto len : ℕ} {at : At} {journal : JournalView} {first m : Meaning} (there : journal.left ≡ Some (record { length = len; at = at })) (going : goes_on at ≡ true) (told : disk.IsSound m) (holds : Holds first m header h n upto journal) where
  abbrev opening_there : Opening
  opening_there = opening_of header journal.opening first

  agrees_there : Agrees header h n upto journal m
  agrees_there = holds.1

  abbrev bytes : List ℕ
  bytes = group_in len journal.pending.bytes

  pub this : IsOfGroup header h n upto at journal.size bytes m
  this = agrees_there.going (record { length = len; at = at }) there going

  ends : EndsWithin h n (record { upto = upto; at = at })
  ends = ends_inside h n upto journal.left (record { length = len; at = at }) there agrees_there.left.ends

  long : len ≡ part_size n upto h
  long = agrees_there.group (record { length = len; at = at }) there

  sound_there : IsSound opening_there h n (reach_at n upto (opens_at at)) m
  sound_there = subst (λ (o : Option lefts.Left). IsSound opening_there h n (reach_of n (left_of upto o)) m) there holds.0

  not_cut : (at : At) → goes_on at ≡ true → is_cut at ≡ false
  not_cut stages.Laid e = refl
  not_cut stages.Opened e = refl
  not_cut (stages.Cut cut) e = absurd (true≢false (sym e))

  pub up_there : is_down h ≡ false
  up_there = sym (subst (λ (o : Option lefts.Left). is_cut_off (left_of upto o) ≡ is_down h) there agrees_there.left.cut_is) ∙ not_cut at going

  reach_there : (b : Bool) → (reach_at n upto b ≡ n) ⊎ (reach_at n upto b ≡ upto)
  reach_there true = inr refl
  reach_there false = inl refl

  began_honest : IsTrue m.honest → IsTrue this.began.honest
  began_honest honest = sym this.under.kept.honest ∙ honest

  module _ (new : Meaning) (kept : Kept m new) where
    -- ---- the gate is open, or may be

    further : (g : List Entry) → bodies h ≡ bodies g → LeavesGroup journal.size bytes this.began m new → IsTrue new.honest → Leaves header opening_there.length opening_there.moment g n upto first new
    further g same crash honest =
        let was = was_honest m new kept honest in
        leaves_opened header opening_there.length opening_there.moment h g n (reach_at n upto (opens_at at)) upto this.began.state journal.size bytes first m new sound_there.begun sound_there.kept sound_there.begins same (reach_there (opens_at at)) (told_of this was) crash.appends.now crash.since (sound_there.leaves was)

    either : (g : List Entry) → bodies h ≡ bodies g → (IsTrue this.began.honest → LeavesGroup journal.size bytes this.began m new) → IsTrue new.honest → (image : List ℕ) → IsImage new.state image → StandsNow header g n upto image
    either g same crash honest = (let was = was_honest m new kept honest in (further g same (crash (began_honest was)) honest).now)

    gate_bytes : (IsTrue this.began.honest → HoldsGroup journal.size bytes new.state) → IsTrue new.honest → HoldsGroup (size (sealed_part n h)) (group_bytes n upto h journal.pending.bytes) new.state
    gate_bytes holds_it honest =
        subst (λ s. HoldsGroup s (group_bytes n upto h journal.pending.bytes) new.state) agrees_there.size_is
        (subst (λ k. HoldsGroup journal.size (group_in k journal.pending.bytes) new.state) long (holds_it (began_honest (was_honest m new kept honest))))

    -- ---- the gate is opened

    module _ (counts : Counts m.faults new.faults false) (crash : IsTrue this.began.honest → LeavesGroup journal.size bytes this.began m new) (under : UnderWay stages.Opened journal.size bytes this.began new) (front : IsTrue m.honest → SameFront journal.size m new) where
      opened_here : Holds first new header h n upto (record journal { left = Some (opened len) })
      opened_here =
          let less = ends.0 in (
            sound_moved opening_there h n (reach_at n upto (opens_at at)) n upto m new kept counts (omega arith) (omega arith) ends.1 (λ honest. further h refl (crash (began_honest (was_honest m new kept honest))) honest) sound_there,
            agrees_staged header h h n upto upto len stages.Opened journal m new refl told kept long front
                (left_open header h n upto stages.Opened journal.pending.bytes new (sym up_there) refl ends.0 ends.1 (either h refl crash) (gate_bytes (λ honest. (under.stands honest).1)))
                (λ _. record { began = this.began; under = under; alone = λ honest. this.alone (was_honest m new kept honest); whole = λ honest. this.whole (was_honest m new kept honest); front = λ honest. this.front (was_honest m new kept honest) }) agrees_there,
          )

      pub holds_opened_gate : (after : JournalView) → after ≡ record journal { left = left_at stages.Opened journal.left } → Holds first new header h n upto after
      holds_opened_gate after is =
          subst (λ j. Holds first new header h n upto j) (sym (is ∙ ap (λ (o : Option lefts.Left). record journal { left = left_at stages.Opened o }) there)) opened_here

    -- ---- or a call failed

    module _ (counts : Counts m.faults new.faults true) (who : ℕ) (calm : IsQuiet opening_there → ⊥) (cut : Cut) (front : IsTrue m.honest → SameFront journal.size m new) where
      same_there : bodies h ≡ bodies (broke h who)
      same_there = sym (bodies-fault h who true)

      within_there : upto ≤ length (bodies (broke h who))
      within_there = subst (λ (bs : List Body). upto ≤ length bs) same_there ends.1

      -- the gate wasn't to be opened yet
      module _ (closed : opens_at (stages.Cut cut) ≡ false) (off : IsTrue this.began.honest → (image : List ℕ) → IsImage new.state image → StandsFor header h n image) (time : LeavesOnly (IsImage new.state) m new) (before : opens_at at ≡ false) where
        sound_shut : IsSound opening_there h n n m
        sound_shut = subst (λ b. IsSound opening_there h n (reach_at n upto b) m) before sound_there

        cut_shut : Holds first new header (broke h who) n upto (record journal { left = Some (cut_off len cut) })
        cut_shut =
            let less = ends.0 in (
              subst (λ b. IsSound opening_there (broke h who) n (reach_at n upto b) new) (sym closed)
                  (sound_broken opening_there h n n who n m new up_there kept counts calm (omega arith) agrees_there.waits.most
                  (λ honest. (let was = was_honest m new kept honest in leaves_alone header opening_there.length opening_there.moment h (broke h who) n first m new sound_shut.begun sound_shut.kept sound_shut.begins same_there (off (began_honest was)) time (sound_shut.leaves was))) sound_shut),
              agrees_staged header h (broke h who) n upto upto len (stages.Cut cut) journal m new same_there told kept long front
                  (left_shut header (broke h who) n upto (stages.Cut cut) journal.pending.bytes new (sym (is_down-breaking h who)) closed ends.0 within_there (λ honest image is. for_same header h (broke h who) n image same_there (off (began_honest (was_honest m new kept honest)) image is)))
                  (λ going. absurd (true≢false (sym going))) agrees_there,
            )

      -- or it was
      module _ (gate : opens_at (stages.Cut cut) ≡ true) (holds_it : IsTrue this.began.honest → HoldsGroup journal.size bytes new.state) (crash : IsTrue this.began.honest → LeavesGroup journal.size bytes this.began m new) where
        cut_open : Holds first new header (broke h who) n upto (record journal { left = Some (cut_off len cut) })
        cut_open =
            let less = ends.0 in (
              subst (λ b. IsSound opening_there (broke h who) n (reach_at n upto b) new) (sym gate)
                  (sound_broken opening_there h n (reach_at n upto (opens_at at)) who upto m new up_there kept counts calm (omega arith) ends.1 (λ honest. further (broke h who) same_there (crash (began_honest (was_honest m new kept honest))) honest) sound_there),
              agrees_staged header h (broke h who) n upto upto len (stages.Cut cut) journal m new same_there told kept long front
                  (left_open header (broke h who) n upto (stages.Cut cut) journal.pending.bytes new (sym (is_down-breaking h who)) gate ends.0 within_there (either (broke h who) same_there crash)
                  (λ honest image is. group_same_here image (gate_bytes holds_it honest image is)))
                  (λ going. absurd (true≢false (sym going))) agrees_there,
            )
          where
            group_same_here : (image : List ℕ) → take (length (group_bytes n upto h journal.pending.bytes)) (drop (size (sealed_part n h)) image) ≡ group_bytes n upto h journal.pending.bytes
                → take (length (group_bytes n upto (broke h who) journal.pending.bytes)) (drop (size (sealed_part n (broke h who))) image) ≡ group_bytes n upto (broke h who) journal.pending.bytes
            group_same_here image has =
                subst (λ (x : List Entry). take (length (group_in (size (sealed_part upto (broke h who)) - size x) journal.pending.bytes)) (drop (size x) image) ≡ group_in (size (sealed_part upto (broke h who)) - size x) journal.pending.bytes) (part_same n h (broke h who) same_there)
                (subst (λ (x : List Entry). take (length (group_in (size x - size (sealed_part n h)) journal.pending.bytes)) (drop (size (sealed_part n h)) image) ≡ group_in (size x - size (sealed_part n h)) journal.pending.bytes) (part_same upto h (broke h who) same_there) has)

    -- ---- it is sealed

    module _ (counts : Counts m.faults new.faults false) (crash : IsTrue this.began.honest → LeavesGroup journal.size bytes this.began m new) (sealed : IsTrue this.began.honest → (image : List ℕ) → IsImage new.state image → IsWith this.began.state journal.size bytes image)
        (settled : IsTrue m.honest → (image : List ℕ) → IsImage new.state image → image ≡ new.state.reads) (told_new : disk.IsSound new) (front : IsTrue m.honest → take (journal.size - 1) m.state.reads ≡ take (journal.size - 1) this.began.state.reads) where
      parts : HasGroup h n upto journal.pending.bytes
      parts = has_group h n upto journal.pending.bytes ends.0 ends.1 agrees_there.waits

      abbrev these : List ℕ
      these = group (parts.payload ∷ parts.payloads)

      these_long : length these ≡ len
      these_long = (let less = ends.0 in group_long h n upto these (omega arith) parts.these) ∙ sym long

      these_are : bytes ≡ these
      these_are = (λ i. group_in (sym these_long i) (parts.is i)) ∙ group_at parts.payload parts.payloads parts.later

      rest_is : drop len journal.pending.bytes ≡ group parts.later
      rest_is = (λ i. drop (sym these_long i) (parts.is i)) ∙ group_dropped parts.payload parts.payloads parts.later

      file_ends : journal.size + len ≡ size (sealed_part upto h)
      file_ends =
          let file = agrees_there.size_is in
          let less = ends.0 in
          let grows = part_least n upto h (omega arith) in
          let this_long = long in
          omega arith

      keeps_new : IsTrue new.honest → Keeps header (IsImage new.state) (sealed_part upto h)
      keeps_new honest image is = (let was = was_honest m new kept honest in this.whole was image (sealed (began_honest was) image is))

      sound_sealed : IsSound opening_there h upto upto new
      sound_sealed =
          let less = ends.0 in
          sound_moved opening_there h n (reach_at n upto (opens_at at)) upto upto m new kept counts (omega arith) (omega arith) ends.1
          (λ honest. (
          let was = was_honest m new kept honest in
          let left = crash (began_honest was) in
          leaves_closed header opening_there.length opening_there.moment h n (reach_at n upto (opens_at at)) upto this.began.state journal.size bytes first m new sound_there.begun sound_there.kept sound_there.begins (omega arith) (reach_there (opens_at at)) (told_of this was) (sealed (began_honest was)) left.since (sound_there.leaves was)))
          sound_there

      module _ (after : JournalView) (is : after ≡ record journal { left = None; size = journal.size + len; pending = after.pending }) (behind : after.pending.bytes ≡ drop len journal.pending.bytes) where
        size_now : after.size ≡ journal.size + len
        size_now = ap (λ (j : JournalView). j.size) is

        holds_sealed_parts : IsTrue new.honest → AllByRecursion (HoldsParts (with_group after.size after.pending.bytes new.state.reads) (bodies h)) (bodies h)
        holds_sealed_parts honest =
            let was = was_honest m new kept honest in
            let here = sealed (began_honest was) new.state.reads (told_new.image honest) in
            let added = subst (λ b. IsWith this.began.state journal.size b new.state.reads) these_are here in
            let file = agrees_there.size_is in
            let closed = (this.under.closed (began_honest was) added.0 added.1).long in
            let front_same : take (journal.size - 1) added.0 ≡ take (journal.size - 1) m.state.reads = this.front was added.0 added.1 ∙ sym (front was) in
            let whole = pending_size h n journal.pending.bytes agrees_there.waits in
            let count = ap (λ (b : List ℕ). length b) parts.is in
            let these_size = these_long in
            let now = size_now in
            let at_end : journal.size + length these ≡ after.size = omega arith in
            let held = holds_behind h journal.size parts.payload parts.payloads parts.later added.0 new.state.reads (omega arith) closed (omega arith) added.2
            (subst (λ f. AllByRecursion (HoldsParts (f ++ 1 ∷ group (parts.payload ∷ (parts.payloads ++ parts.later))) (bodies h)) (bodies h)) (sym front_same)
            (subst (λ b. AllByRecursion (HoldsParts (with_group journal.size b m.state.reads) (bodies h)) (bodies h)) parts.is (agrees_there.holds was))) in
            subst (λ f. AllByRecursion (HoldsParts f (bodies h)) (bodies h)) (λ i. with_group (at_end i) (sym (behind ∙ rest_is) i) new.state.reads) held

        agrees_sealed : Agrees header h upto upto after new
        agrees_sealed = record {
          capacity_is = ap (λ (j : JournalView). j.capacity) is ∙ agrees_there.capacity_is;
          fits = agrees_there.fits;
          size_is = size_now ∙ file_ends;
          left = subst (λ (o : Option lefts.Left). LeavesAfter header h upto after.pending.bytes (left_of upto o) new) (sym (ap (λ (j : JournalView). j.left) is)) (left_none header h upto after.pending.bytes new up_there keeps_new);
          long = (let reaches = kept.no_shorter (journal.size + length bytes) this.under.reaches in let many = ap (λ (b : List ℕ). length b) these_are in let these_size = these_long in let now = size_now in subst (λ k. IsLong new.reads k) (omega arith) reaches);
          waits = subst (λ b. IsPending h upto b) (sym (behind ∙ rest_is)) parts.behind;
          group = λ l e. absurd (let left = sym (ap (λ (j : JournalView). j.left) is) ∙ e in cc);
          going = λ l e. absurd (let left = sym (ap (λ (j : JournalView). j.left) is) ∙ e in cc);
          holds = holds_sealed_parts;
          stable = λ honest _. settled (was_honest m new kept honest);
        }

        pub holds_sealed : Holds first new header h upto upto after
        holds_sealed = (
          subst (λ (o : Option lefts.Left). IsSound (opening_of header after.opening first) h upto (reach_of upto (left_of upto o)) new) (sym (ap (λ (j : JournalView). j.left) is))
              (subst (λ (j : JournalView). IsSound (opening_of header j.opening first) h upto upto new) (sym is) sound_sealed),
          agrees_sealed,
        )

-- ---- after a fault

pub down_now : (h h1 : List Entry) (who : ℕ) → h1 ≡ h ++ entry_by who (Fault true) ∷ [] → is_down h1 ≡ false → ⊥
down_now h h1 who e up = absurd (true≢false (sym (is_down-breaking h who) ∙ sym (ap (λ (g : List Entry). is_down g) e) ∙ up))

-- ---- what is read before the gate, by what the disk told

-- the length of a file that was written over
written_long : (file bytes : List ℕ) (at : ℕ) → at ≤ length file → at ≤ length (write_at at bytes file)
written_long file bytes at long =
    let len = length-take-le at file long in
    let whole = length-append (take at file) (bytes ++ drop (at + length bytes) file) in
    omega arith

module _ {at : At} {size : ℕ} {bytes : List ℕ} {began m : Meaning} (some : 1 ≤ size) (u : UnderWay at size bytes began m) (honest : IsTrue began.honest) where
  began_long : size ≤ length began.state.reads
  began_long = u.long began.state.reads (u.sound.reads honest)

  -- the group was written, and perhaps the gate
  laid_front : (file : List ℕ) → file ≡ write_at size bytes began.state.reads → take (size - 1) file ≡ take (size - 1) began.state.reads
  laid_front file is = ap (take (size - 1)) is ∙ front_written began.state.reads bytes size some began_long

  gate_front : (file : List ℕ) → file ≡ write_at (size - 1) (1 ∷ []) (write_at size bytes began.state.reads) → take (size - 1) file ≡ take (size - 1) began.state.reads
  gate_front file is =
      let long = written_long began.state.reads bytes size began_long in
      ap (take (size - 1)) is ∙ front_gated (write_at size bytes began.state.reads) (1 ∷ []) (size - 1) (omega arith) ∙ front_written began.state.reads bytes size some began_long

  front_at : (stage : At) (d : disk_images.Disk) → goes_on stage ≡ true → StandsAt stage size bytes began.state d → take (size - 1) d.reads ≡ take (size - 1) began.state.reads
  front_at stages.Laid d on stands = laid_front d.reads stands.0
  front_at stages.Opened d on stands = gate_front d.reads stands.0
  front_at (stages.Cut cut) d on stands = absurd (true≢false (sym on))

  front_cut : (cut : Cut) (d : disk_images.Disk) → IsCutOff cut size bytes began.state d → take (size - 1) d.reads ≡ take (size - 1) began.state.reads
  front_cut Write d off = ap (take (size - 1)) off.0
  front_cut Sync d off = laid_front d.reads off.0
  front_cut Open d off = laid_front d.reads off.0
  front_cut Seal d off = gate_front d.reads off.0

-- ---- the turns, by what the journal told

file_some : (header : Header) (h : List Entry) (n upto : ℕ) (journal : JournalView) (m : Meaning) → Agrees header h n upto journal m → 1 ≤ journal.size
file_some header h n upto journal m agrees = let file = agrees.size_is in omega arith

module _ {header : Header} {h : List Entry} {n upto len : ℕ} {journal : JournalView} {first m : Meaning} (there : journal.left ≡ Some (laid len)) (told : disk.IsSound m) (holds : Holds first m header h n upto journal) (new : Meaning) (kept : Kept m new)
    (crash : (began : Meaning) (bytes : List ℕ) → UnderWay stages.Laid journal.size bytes began m → IsTrue began.honest → LeavesGroup journal.size bytes began m new) where
  abbrev laid_now : IsOfGroup header h n upto stages.Laid journal.size (group_in len journal.pending.bytes) m
  laid_now = this there refl told holds

  laid_some : 1 ≤ journal.size
  laid_some = file_some header h n upto journal m holds.1

  laid_crash : IsTrue laid_now.began.honest → LeavesGroup journal.size (group_in len journal.pending.bytes) laid_now.began m new
  laid_crash = crash laid_now.began (group_in len journal.pending.bytes) laid_now.under

  laid_same : (file : List ℕ) → IsTrue laid_now.began.honest → take (journal.size - 1) file ≡ take (journal.size - 1) laid_now.began.state.reads → take (journal.size - 1) file ≡ take (journal.size - 1) m.state.reads
  laid_same file honest same = same ∙ sym (front_at laid_some laid_now.under honest stages.Laid m.state refl (laid_now.under.stands honest))

  pub opened_turn : Counts m.faults new.faults false → ((began : Meaning) (bytes : List ℕ) → UnderWay stages.Laid journal.size bytes began m → UnderWay stages.Opened journal.size bytes began new) → (after : JournalView) → after ≡ record journal { left = left_at stages.Opened journal.left } → Holds first new header h n upto after
  opened_turn counts under after is =
      let now = under laid_now.began (group_in len journal.pending.bytes) laid_now.under in
      holds_opened_gate there refl told holds new kept counts laid_crash now
      (λ honest. (let was = sym laid_now.under.kept.honest ∙ honest in laid_same new.state.reads was (front_at laid_some now was stages.Opened new.state refl (now.stands was)))) after is

  -- each image on the way
  pub opened_leaves : IsTrue m.honest → LeavesOnly (StandsNow header h n upto) m new
  opened_leaves honest =
      let was = sym laid_now.under.kept.honest ∙ honest in
      leaves_map m new (λ image left. either_now header h n upto laid_now.began.state journal.size (group_in len journal.pending.bytes) image (told_of laid_now honest) left) (laid_crash was).since

  module _ (after : JournalView) (stops : StopsAt stages.Laid journal after m new) (counts : Counts m.faults new.faults true) (who : ℕ) (calm : ForSome m.quiet (λ most. journal.size ≤ most → ⊥)) where
    laid_off : IsTrue laid_now.began.honest → IsCutOff stops.cut journal.size (group_in len journal.pending.bytes) laid_now.began.state new.state
    laid_off = stops.leaves laid_now.began (group_in len journal.pending.bytes) laid_now.under

    laid_calm : IsQuiet (opening_of header journal.opening first) → ⊥
    laid_calm quiet =
        let within = fits header h n upto journal m holds.1 in
        let capacity = holds.1.capacity_is in
        never (opening_of header journal.opening first) m journal.size holds.0.quiet quiet calm (omega arith)

    laid_kept_front : IsTrue m.honest → SameFront journal.size m new
    laid_kept_front honest = (let was = sym laid_now.under.kept.honest ∙ honest in laid_same new.state.reads was (front_cut laid_some laid_now.under was stops.cut new.state (laid_off was)))

    laid_is : after ≡ record journal { left = Some (cut_off len stops.cut) }
    laid_is = stops.is ∙ ap (λ (o : Option lefts.Left). record journal { left = left_at (stages.Cut stops.cut) o }) there

    -- the sync failed, so no image has the group
    sync_alone : stops.cut ≡ Sync → IsTrue laid_now.began.honest → (image : List ℕ) → IsImage new.state image → StandsFor header h n image
    sync_alone e honest image is =
        laid_now.alone (laid_now.under.kept.honest ∙ honest) image ((subst (λ (cut : Cut). IsCutOff cut journal.size (group_in len journal.pending.bytes) laid_now.began.state new.state) e (laid_off honest)).1 image is)

    pub sync_leaves : stops.cut ≡ Sync → IsTrue m.honest → LeavesOnly (StandsFor header h n) m new
    sync_leaves e honest = leaves_map m new (λ image is. sync_alone e (sym laid_now.under.kept.honest ∙ honest) image is) (stops.time e)

    sync_cut : stops.cut ≡ Sync → Holds first new header (broke h who) n upto (record journal { left = Some (cut_off len stops.cut) })
    sync_cut e = cut_shut there refl told holds new kept counts who laid_calm stops.cut laid_kept_front (ap (λ (cut : Cut). opens_at (stages.Cut cut)) e) (sync_alone e) (stops.time e) refl

    open_cut : stops.cut ≡ Open → Holds first new header (broke h who) n upto (record journal { left = Some (cut_off len stops.cut) })
    open_cut e =
        cut_open there refl told holds new kept counts who laid_calm stops.cut laid_kept_front (ap (λ (cut : Cut). opens_at (stages.Cut cut)) e)
        (λ honest. (subst (λ (cut : Cut). IsCutOff cut journal.size (group_in len journal.pending.bytes) laid_now.began.state new.state) e (laid_off honest)).1) laid_crash

    pub open_failed : (header1 : Header) (h1 : List Entry) → header1 ≡ header → h1 ≡ broke h who → Holds first new header1 h1 n upto after
    open_failed header1 h1 eh e =
        subst (λ x. Holds first new x h1 n upto after) (sym eh)
        (subst (λ g. Holds first new header g n upto after) (sym e)
        (subst (λ j. Holds first new header (broke h who) n upto j) (sym laid_is)
        (elim stops.next as (λ _. Holds first new header (broke h who) n upto (record journal { left = Some (cut_off len stops.cut) })) [ inl sync ↦ sync_cut sync | inr gate ↦ open_cut gate ])))

module _ {header : Header} {h : List Entry} {n upto len : ℕ} {journal : JournalView} {first m : Meaning} (there : journal.left ≡ Some (opened len)) (told : disk.IsSound m) (holds : Holds first m header h n upto journal) (new : Meaning) (kept : Kept m new)
    (crash : (began : Meaning) (bytes : List ℕ) → UnderWay stages.Opened journal.size bytes began m → IsTrue began.honest → LeavesGroup journal.size bytes began m new) where
  abbrev opened_now : IsOfGroup header h n upto stages.Opened journal.size (group_in len journal.pending.bytes) m
  opened_now = this there refl told holds

  opened_some : 1 ≤ journal.size
  opened_some = file_some header h n upto journal m holds.1

  opened_crash : IsTrue opened_now.began.honest → LeavesGroup journal.size (group_in len journal.pending.bytes) opened_now.began m new
  opened_crash = crash opened_now.began (group_in len journal.pending.bytes) opened_now.under

  opened_front : IsTrue m.honest → take (journal.size - 1) m.state.reads ≡ take (journal.size - 1) opened_now.began.state.reads
  opened_front honest = (let was = sym opened_now.under.kept.honest ∙ honest in front_at opened_some opened_now.under was stages.Opened m.state refl (opened_now.under.stands was))

  -- each image on the way
  pub closed_leaves : IsTrue m.honest → LeavesOnly (StandsNow header h n upto) m new
  closed_leaves honest =
      let was = sym opened_now.under.kept.honest ∙ honest in
      leaves_map m new (λ image left. either_now header h n upto opened_now.began.state journal.size (group_in len journal.pending.bytes) image (told_of opened_now honest) left) (opened_crash was).since

  pub closed_turn : Counts m.faults new.faults false → ((began : Meaning) (bytes : List ℕ) → UnderWay stages.Opened journal.size bytes began m → IsTrue began.honest → (image : List ℕ) → IsImage new.state image → IsWith began.state journal.size bytes image)
      → (IsTrue m.honest → (image : List ℕ) → IsImage new.state image → image ≡ new.state.reads) → disk.IsSound new → (after : JournalView) → after ≡ record journal { left = None; size = journal.size + length_of journal.left; pending = after.pending } → after.pending.bytes ≡ drop (length_of journal.left) journal.pending.bytes → Holds first new header h upto upto after
  closed_turn counts sealed settled told_new after is behind =
      let long : length_of journal.left ≡ len = ap (λ (o : Option lefts.Left). length_of o) there in
      holds_sealed there refl told holds new kept counts opened_crash (sealed opened_now.began (group_in len journal.pending.bytes) opened_now.under) settled told_new opened_front after
      (is ∙ ap (λ k. record journal { left = None; size = journal.size + k; pending = after.pending }) long) (behind ∙ ap (λ k. drop k journal.pending.bytes) long)

  module _ (after : JournalView) (stops : StopsAt stages.Opened journal after m new) (counts : Counts m.faults new.faults true) (who : ℕ) (calm : IsSome m.quiet → ⊥) where
    opened_off : IsTrue opened_now.began.honest → IsCutOff stops.cut journal.size (group_in len journal.pending.bytes) opened_now.began.state new.state
    opened_off = stops.leaves opened_now.began (group_in len journal.pending.bytes) opened_now.under

    opened_same : IsTrue m.honest → SameFront journal.size m new
    opened_same honest = (let was = sym opened_now.under.kept.honest ∙ honest in front_cut opened_some opened_now.under was stops.cut new.state (opened_off was) ∙ sym (opened_front honest))

    opened_is : after ≡ record journal { left = Some (cut_off len stops.cut) }
    opened_is = stops.is ∙ ap (λ (o : Option lefts.Left). record journal { left = left_at (stages.Cut stops.cut) o }) there

    pub close_failed : (header1 : Header) (h1 : List Entry) → header1 ≡ header → h1 ≡ broke h who → Holds first new header1 h1 n upto after
    close_failed header1 h1 eh e =
        subst (λ x. Holds first new x h1 n upto after) (sym eh)
        (subst (λ g. Holds first new header g n upto after) (sym e)
        (subst (λ j. Holds first new header (broke h who) n upto j) (sym opened_is)
        (cut_open there refl told holds new kept counts who (λ quiet. calm (some_quiet (opening_of header journal.opening first) m holds.0.quiet quiet)) stops.cut opened_same (ap (λ (cut : Cut). opens_at (stages.Cut cut)) stops.next)
        (λ honest. (subst (λ (cut : Cut). IsCutOff cut journal.size (group_in len journal.pending.bytes) opened_now.began.state new.state) stops.next (opened_off honest)).1) opened_crash)))
