-- What a crash may leave where entries wait: as one is entered, as a group is sealed, over a read, and when the seats are cleared.
use Rattle.std.proofs.Common.{◌≡◌, ℕ, ◌≤◌, true, false, List, [], ◌∷◌, ◌++◌, length, map, drop, refl, sym, subst, arith, inl, inr}
use Rattle.std.specs.Prelude.{◌⊎◌}
use Rattle.disk_model.specs.Images.{Disk, IsImage}
use Rattle.disk_model.specs.Meaning.{Meaning}
use Rattle.disk_model.specs.Calls.{Kept, LeavesOnly}
use Rattle.history_model.specs.History.{Fault, Entry, bodies}
use Rattle.std.specs.List.{AllByRecursion}
use Rattle.history_model.specs.Journal.{Header, HoldsParts, Keeps, Stands, size}
use Rattle.reply_model.specs.Legal.{IsLegal}
use Rattle.repo_journal.specs.Cuts.{IsWithout}
use Rattle.repo_journal.specs.Payloads.{ArePayloads}
use Rattle.repo_journal.specs.Groups.{group, with_group, AppendsGroup, GroupHolds, IsWith, IsWithoutOrWith}
use Rattle.repo_journal.proofs.Histories.{keeps_stands, group_stands}
use Rattle.repo_state.specs.Images.{sealed_part, StandsFor, StandsNow, StandsSince, StandsForFirst, Leaves}
use Rattle.repo_state.specs.State.{unseated}
use Rattle.repo_state.proofs.GroupParts.{rest, bodies_rest, both_bodies, part_and_rest, part_grows, part_legal, part_same, part_whole}
use Rattle.repo_state.proofs.Chains.{leaves_map, leaves_then}
use Rattle.repo_state.proofs.Stands.{bodies-fault, bodies-cleared, stands-same}

-- after calls that leave only what stands for a beginning of the new history
pub leaves_on : (header : Header) (k moment : ℕ) (h g : List Entry) (n p r q : ℕ) (first m new : Meaning) → moment ≤ first.moment → Kept first m
    → Leaves header k moment h n r first m
    → ((image : List ℕ) → StandsSince header k h n r image → StandsSince header k g p q image)
    → ((image : List ℕ) → IsImage new.state image → StandsNow header g p q image)
    → LeavesOnly (StandsSince header k g p q) m new
    → Leaves header k moment g p q first new
leaves_on header k moment h g n p r q first m new begun kept old still now only = record {
  now = now;
  since = λ image l. (let later = kept.later in elim (only.since moment image (omega arith) l) as (λ _. StandsSince header k g p q image) [ inl before ↦ still image (old.since image before) | inr after ↦ after ]);
  only = leaves_then first m new kept (leaves_map first m still old.only) only;
}

-- where no group's gate may stand open, all images stand for what is sealed
pub keeps_up : (header : Header) (k moment : ℕ) (h : List Entry) (n : ℕ) (first m : Meaning) → Leaves header k moment h n n first m → Keeps header (IsImage m.state) (sealed_part n h)
keeps_up header k moment h n first m old image is = elim (old.now image is) as (λ _. Stands header image (sealed_part n h)) [ inl stands ↦ stands | inr stands ↦ stands ]

first_here : (header : Header) (k : ℕ) (h : List Entry) (n : ℕ) (image : List ℕ) → k ≤ n → StandsFor header h n image → StandsForFirst header k h n image
first_here header k h n image le stands = (n, le, omega arith, stands)

-- ---- an entry that waits: the disk isn't asked

pub for_grows : (header : Header) (h g : List Entry) (i : ℕ) (image : List ℕ) → i ≤ length (bodies h) → StandsFor header h i image → StandsFor header (h ++ g) i image
for_grows header h g i image most stands = subst (Stands header image) (sym (part_grows i h g most)) stands

now_grows : (header : Header) (h g : List Entry) (n reach : ℕ) (image : List ℕ) → n ≤ length (bodies h) → reach ≤ length (bodies h) → StandsNow header h n reach image → StandsNow header (h ++ g) n reach image
now_grows header h g n reach image most within (inl stands) = inl (for_grows header h g n image most stands)
now_grows header h g n reach image most within (inr stands) = inr (for_grows header h g reach image within stands)

since_grows : (header : Header) (k : ℕ) (h g : List Entry) (n reach : ℕ) (image : List ℕ) → n ≤ length (bodies h) → reach ≤ length (bodies h) → StandsSince header k h n reach image → StandsSince header k (h ++ g) n reach image
since_grows header k h g n reach image most within (inl f) = inl (f.0, f.1, f.2, for_grows header h g f.0 image (let less = f.2 in omega arith) f.3)
since_grows header k h g n reach image most within (inr stands) = inr (for_grows header h g reach image within stands)

pub leaves_entered : (header : Header) (k moment : ℕ) (h : List Entry) (n reach : ℕ) (e : Entry) (first m : Meaning) → n ≤ length (bodies h) → reach ≤ length (bodies h) → Leaves header k moment h n reach first m → Leaves header k moment (h ++ e ∷ []) n reach first m
leaves_entered header k moment h n reach e first m most within old = record {
  now = λ image is. now_grows header h (e ∷ []) n reach image most within (old.now image is);
  since = λ image left. since_grows header k h (e ∷ []) n reach image most within (old.since image left);
  only = leaves_map first m (λ image stands. since_grows header k h (e ∷ []) n reach image most within stands) old.only;
}

-- ---- what a group is

-- the same of the two parts of the history
waiting_parts : (h : List Entry) (n : ℕ) (payload : List ℕ) (payloads : List (List ℕ)) (m : Meaning) → GroupHolds m.state (size (sealed_part n h)) (group (payload ∷ payloads)) (bodies h) (drop n (bodies h)) → (before : List ℕ) → IsImage m.state before
    → AllByRecursion (HoldsParts (with_group (size (sealed_part n h)) (group (payload ∷ payloads)) before) (bodies (sealed_part n h) ++ bodies (rest n h))) (bodies (rest n h))
waiting_parts h n payload payloads m parts before is =
    subst (λ bs. AllByRecursion (HoldsParts (with_group (size (sealed_part n h)) (group (payload ∷ payloads)) before) bs) (bodies (rest n h))) (sym (both_bodies n h))
    (subst (λ bs. AllByRecursion (HoldsParts (with_group (size (sealed_part n h)) (group (payload ∷ payloads)) before) (bodies h)) bs) (sym (bodies_rest n h)) (parts before is))

whole_part : (header : Header) (h : List Entry) (image : List ℕ) → Stands header image h → StandsFor header h (length (bodies h)) image
whole_part header h image stands = stands-same header image h (sealed_part (length (bodies h)) h) (sym (part_whole h)) stands

-- without the group an image stands for what was sealed
pub stands_alone : (header : Header) (h : List Entry) (n : ℕ) (m : Meaning) (image : List ℕ) → Keeps header (IsImage m.state) (sealed_part n h) → IsWithout m.state (size (sealed_part n h)) image → StandsFor header h n image
stands_alone header h n m image keeps left = keeps_stands header (sealed_part n h) left.0 image (keeps left.0 left.1) left.2

-- and with it for all
pub stands_all : (header : Header) (h : List Entry) (n : ℕ) (payload : List ℕ) (payloads : List (List ℕ)) (m : Meaning) (image : List ℕ) → Keeps header (IsImage m.state) (sealed_part n h) → IsLegal header h → ArePayloads (drop n (bodies h)) (payload ∷ payloads) → GroupHolds m.state (size (sealed_part n h)) (group (payload ∷ payloads)) (bodies h) (drop n (bodies h))
    → IsWith m.state (size (sealed_part n h)) (group (payload ∷ payloads)) image → StandsFor header h (length (bodies h)) image
stands_all header h n payload payloads m image keeps legal are parts left =
    whole_part header h image
    (stands-same header image (sealed_part n h ++ rest n h) h (part_and_rest n h)
    (group_stands header (sealed_part n h) (rest n h) payload payloads left.0 image (keeps left.0 left.1) (part_legal header n h legal) (subst (λ bs. ArePayloads bs (payload ∷ payloads)) (sym (bodies_rest n h)) are) (waiting_parts h n payload payloads m parts left.0 left.1) left.2))

-- what an image with the group or without it stands for
pub record Told (header : Header) (h : List Entry) (n upto : ℕ) (began : Disk) (file : ℕ) (bytes : List ℕ) : Type 0 where
  pub alone : (image : List ℕ) → IsWithout began file image → StandsFor header h n image
  pub whole : (image : List ℕ) → IsWith began file bytes image → StandsFor header h upto image

pub either_now : (header : Header) (h : List Entry) (n upto : ℕ) (began : Disk) (file : ℕ) (bytes image : List ℕ) → Told header h n upto began file bytes → IsWithoutOrWith began file bytes image → StandsNow header h n upto image
either_now header h n upto began file bytes image told left = elim left.2 as (λ _. StandsNow header h n upto image) [
  | inl kept ↦ inl (told.alone image (left.0, left.1, kept))
  | inr added ↦ inr (told.whole image (left.0, left.1, added))
]

pub told_by : (header : Header) (h : List Entry) (n : ℕ) (payload : List ℕ) (payloads : List (List ℕ)) (m : Meaning) → Keeps header (IsImage m.state) (sealed_part n h) → IsLegal header h → ArePayloads (drop n (bodies h)) (payload ∷ payloads) → GroupHolds m.state (size (sealed_part n h)) (group (payload ∷ payloads)) (bodies h) (drop n (bodies h))
    → Told header h n (length (bodies h)) m.state (size (sealed_part n h)) (group (payload ∷ payloads))
told_by header h n payload payloads m keeps legal are parts = record {
  alone = λ image left. stands_alone header h n m image keeps left;
  whole = λ image left. stands_all header h n payload payloads m image keeps legal are parts left;
}

-- ---- histories of the same stored entries

pub for_same : (header : Header) (h g : List Entry) (i : ℕ) (image : List ℕ) → bodies h ≡ bodies g → StandsFor header h i image → StandsFor header g i image
for_same header h g i image same stands = subst (Stands header image) (part_same i h g same) stands

now_same : (header : Header) (h g : List Entry) (n reach : ℕ) (image : List ℕ) → bodies h ≡ bodies g → StandsNow header h n reach image → StandsNow header g n reach image
now_same header h g n reach image same (inl stands) = inl (for_same header h g n image same stands)
now_same header h g n reach image same (inr stands) = inr (for_same header h g reach image same stands)

since_same : (header : Header) (k : ℕ) (h g : List Entry) (n reach : ℕ) (image : List ℕ) → bodies h ≡ bodies g → StandsSince header k h n reach image → StandsSince header k g n reach image
since_same header k h g n reach image same (inl f) = inl (f.0, f.1, f.2, for_same header h g f.0 image same f.3)
since_same header k h g n reach image same (inr stands) = inr (for_same header h g reach image same stands)

now_since : (header : Header) (k : ℕ) (h : List Entry) (n reach : ℕ) (image : List ℕ) → k ≤ n → StandsNow header h n reach image → StandsSince header k h n reach image
now_since header k h n reach image least (inl stands) = inl (first_here header k h n image least stands)
now_since header k h n reach image least (inr stands) = inr stands

-- ---- the steps of a seal

-- the gate isn't opened: each image stands for what was sealed
pub leaves_alone : (header : Header) (k moment : ℕ) (h g : List Entry) (n : ℕ) (first m new : Meaning) → moment ≤ first.moment → Kept first m → k ≤ n → bodies h ≡ bodies g
    → ((image : List ℕ) → IsImage new.state image → StandsFor header h n image) → LeavesOnly (IsImage new.state) m new
    → Leaves header k moment h n n first m → Leaves header k moment g n n first new
leaves_alone header k moment h g n first m new begun kept least same stands only old =
    leaves_on header k moment h g n n n n first m new begun kept old (λ image s. since_same header k h g n n image same s)
    (λ image is. inl (for_same header h g n image same (stands image is)))
    (leaves_map m new (λ image is. inl (first_here header k g n image least (for_same header h g n image same (stands image is)))) only)

-- it was opened, and may be open
pub leaves_opened : (header : Header) (k moment : ℕ) (h g : List Entry) (n reach upto : ℕ) (began : Disk) (file : ℕ) (bytes : List ℕ) (first m new : Meaning) → moment ≤ first.moment → Kept first m → k ≤ n → bodies h ≡ bodies g → (reach ≡ n) ⊎ (reach ≡ upto)
    → Told header h n upto began file bytes → ((image : List ℕ) → IsImage new.state image → IsWithoutOrWith began file bytes image) → LeavesOnly (IsWithoutOrWith began file bytes) m new
    → Leaves header k moment h n reach first m → Leaves header k moment g n upto first new
leaves_opened header k moment h g n reach upto began file bytes first m new begun kept least same is told now only old =
    let here : (image : List ℕ) → IsWithoutOrWith began file bytes image → StandsNow header g n upto image = (λ image left. now_same header h g n upto image same (either_now header h n upto began file bytes image told left)) in
    leaves_on header k moment h g n n reach upto first m new begun kept old (λ image s. since_same header k h g n upto image same (further image is s))
    (λ image i. here image (now image i))
    (leaves_map m new (λ image left. now_since header k g n upto image least (here image left)) only)
  where
    further : (image : List ℕ) → (reach ≡ n) ⊎ (reach ≡ upto) → StandsSince header k h n reach image → StandsSince header k h n upto image
    further image is (inl f) = inl f
    further image (inl at_n) (inr stands) = inl (first_here header k h n image least (subst (λ i. StandsFor header h i image) at_n stands))
    further image (inr at_end) (inr stands) = inr (subst (λ i. StandsFor header h i image) at_end stands)

-- it is sealed
pub leaves_closed : (header : Header) (k moment : ℕ) (h : List Entry) (n reach upto : ℕ) (began : Disk) (file : ℕ) (bytes : List ℕ) (first m new : Meaning) → moment ≤ first.moment → Kept first m → k ≤ n → n ≤ upto → (reach ≡ n) ⊎ (reach ≡ upto)
    → Told header h n upto began file bytes → ((image : List ℕ) → IsImage new.state image → IsWith began file bytes image) → LeavesOnly (IsWithoutOrWith began file bytes) m new
    → Leaves header k moment h n reach first m → Leaves header k moment h upto upto first new
leaves_closed header k moment h n reach upto began file bytes first m new begun kept least ends is told now only old =
    leaves_on header k moment h h n upto reach upto first m new begun kept old (λ image s. further image is s)
    (λ image i. inl (told.whole image (now image i)))
    (leaves_map m new (λ image left. by image (either_now header h n upto began file bytes image told left)) only)
  where
    further : (image : List ℕ) → (reach ≡ n) ⊎ (reach ≡ upto) → StandsSince header k h n reach image → StandsSince header k h upto upto image
    further image is (inl f) = inl (f.0, f.1, (let less = f.2 in omega arith), f.3)
    further image (inl at_n) (inr stands) = inl (n, least, ends, subst (λ i. StandsFor header h i image) at_n stands)
    further image (inr at_end) (inr stands) = inr (subst (λ i. StandsFor header h i image) at_end stands)

    by : (image : List ℕ) → StandsNow header h n upto image → StandsSince header k h upto upto image
    by image (inl stands) = inl (n, least, ends, stands)
    by image (inr stands) = inr stands

-- ---- a group that is sealed at once, or whose sealing fails

pub leaves_sealed : (header : Header) (k moment : ℕ) (h : List Entry) (n : ℕ) (payload : List ℕ) (payloads : List (List ℕ)) (first m new : Meaning) → moment ≤ first.moment → Kept first m → k ≤ n → n ≤ length (bodies h)
    → IsLegal header h → ArePayloads (drop n (bodies h)) (payload ∷ payloads)
    → GroupHolds m.state (size (sealed_part n h)) (group (payload ∷ payloads)) (bodies h) (drop n (bodies h))
    → AppendsGroup (size (sealed_part n h)) (group (payload ∷ payloads)) m new → ((image : List ℕ) → IsImage new.state image → IsWith m.state (size (sealed_part n h)) (group (payload ∷ payloads)) image)
    → Leaves header k moment h n n first m → Leaves header k moment h (length (bodies h)) (length (bodies h)) first new
leaves_sealed header k moment h n payload payloads first m new begun kept least most legal are parts appends sealed old =
    leaves_closed header k moment h n n (length (bodies h)) m.state (size (sealed_part n h)) (group (payload ∷ payloads)) first m new begun kept least most (inl refl)
    (told_by header h n payload payloads m (keeps_up header k moment h n first m old) legal are parts) sealed appends.since old

pub leaves_seal_failed : (header : Header) (k moment : ℕ) (h : List Entry) (n who : ℕ) (payload : List ℕ) (payloads : List (List ℕ)) (first m new : Meaning) → moment ≤ first.moment → Kept first m → k ≤ n → n ≤ length (bodies h)
    → IsLegal header h → ArePayloads (drop n (bodies h)) (payload ∷ payloads)
    → GroupHolds m.state (size (sealed_part n h)) (group (payload ∷ payloads)) (bodies h) (drop n (bodies h))
    → AppendsGroup (size (sealed_part n h)) (group (payload ∷ payloads)) m new
    → Leaves header k moment h n n first m → Leaves header k moment (h ++ record { who = who; body = Fault true } ∷ []) n (length (bodies h)) first new
leaves_seal_failed header k moment h n who payload payloads first m new begun kept least most legal are parts appends old =
    leaves_opened header k moment h (h ++ record { who = who; body = Fault true } ∷ []) n n (length (bodies h)) m.state (size (sealed_part n h)) (group (payload ∷ payloads)) first m new begun kept least (sym (bodies-fault h who true)) (inl refl)
    (told_by header h n payload payloads m (keeps_up header k moment h n first m old) legal are parts) appends.now appends.since old

-- ---- a read

leaves_looked : (header : Header) (k moment : ℕ) (h g : List Entry) (n reach : ℕ) (first m new : Meaning) → moment ≤ first.moment → Kept first m → k ≤ n → bodies h ≡ bodies g
    → new.state ≡ m.state → LeavesOnly (IsImage new.state) m new
    → Leaves header k moment h n reach first m → Leaves header k moment g n reach first new
leaves_looked header k moment h g n reach first m new begun kept least bodies_same same only old =
    let now : (image : List ℕ) → IsImage new.state image → StandsNow header g n reach image = (λ image i. now_same header h g n reach image bodies_same (old.now image (subst (λ d. IsImage d image) same i))) in
    leaves_on header k moment h g n n reach reach first m new begun kept old (λ image stands. since_same header k h g n reach image bodies_same stands) now
    (leaves_map m new (λ image i. now_since header k g n reach image least (now image i)) only)

pub leaves_read : (header : Header) (k moment : ℕ) (h : List Entry) (n reach : ℕ) (first m new : Meaning) → moment ≤ first.moment → Kept first m → k ≤ n
    → new.state ≡ m.state → LeavesOnly (IsImage new.state) m new
    → Leaves header k moment h n reach first m → Leaves header k moment h n reach first new
leaves_read header k moment h n reach first m new begun kept least same only old = leaves_looked header k moment h h n reach first m new begun kept least refl same only old

pub leaves_read_failed : (header : Header) (k moment : ℕ) (h : List Entry) (n reach who : ℕ) (first m new : Meaning) → moment ≤ first.moment → Kept first m → k ≤ n
    → new.state ≡ m.state → LeavesOnly (IsImage new.state) m new
    → Leaves header k moment h n reach first m → Leaves header k moment (h ++ record { who = who; body = Fault false } ∷ []) n reach first new
leaves_read_failed header k moment h n reach who first m new begun kept least same only old =
    leaves_looked header k moment h (h ++ record { who = who; body = Fault false } ∷ []) n reach first m new begun kept least (sym (bodies-fault h who false)) same only old

-- ---- when the seats are cleared

pub leaves_cleared : (header : Header) (k moment : ℕ) (h : List Entry) (n reach : ℕ) (first m : Meaning) → Leaves header k moment h n reach first m → Leaves header k moment (map unseated h) n reach first m
leaves_cleared header k moment h n reach first m old =
    let same = sym (bodies-cleared h) in
    record {
      now = λ image i. now_same header h (map unseated h) n reach image same (old.now image i);
      since = λ image l. since_same header k h (map unseated h) n reach image same (old.since image l);
      only = leaves_map first m (λ image stands. since_same header k h (map unseated h) n reach image same stands) old.only;
    }
