-- The group that is under way, or that a seal which failed leaves over, and what a crash leaves of it.
use Rattle.std.proofs.Common.{◌≡◌, ℕ, ◌-◌, ◌≤◌, ◌<◌, Bool, true, false, List, [], ◌∷◌, ◌++◌, length, refl, sym, ap, subst, ◌∙◌, arith, length-append}
use Rattle.std.specs.Prelude.{◌⊎◌, IsTrue, Option, None, Some}
use Rattle.std.specs.Option.{ForSome}
use mathlib.Core.Bool.{true≢false}
use mathlib.Core.Logic.{inl, inr}
use Rattle.byte_fields.proofs.Booleans.{same_some}
use Rattle.disk_model.specs.Images.{IsImage}
use Rattle.disk_model.specs.Meaning.{Meaning}
use Rattle.disk_model.specs.Calls.{Kept, Looked}
use Rattle.history_model.specs.History.{Body, Entry, bodies, is_down, is_stored}
use Rattle.history_model.specs.Journal.{Header, Keeps, size}
use Rattle.reply_model.proofs.Histories.{bodies-append}
use Rattle.landing_core.proofs.Down.{down-stored}
use Rattle.repo_journal.specs.Cuts.{HasGroup, HoldsGroup}
use Rattle.repo_journal.specs.Groups.{grown}
use Rattle.repo_journal.specs.Left.{group_in}
use Rattle.repo_journal.specs.declared.cut.Cut.{Cut}
use Rattle.repo_journal.specs.declared.left.At.{At}
use Rattle.repo_journal.specs.declared.left.At.TheVariants as stages
use Rattle.repo_journal.specs.declared.left.Left as lefts
use Rattle.repo_journal.specs.View.{JournalView}
use Rattle.repo_state.specs.Groups.{goes_on, group_bytes, group_end, is_cut, is_cut_off, is_under_way, left_of, may_be_open, opens_at, part_size, reach_at, reach_of}
use Rattle.repo_state.specs.Images.{sealed_part, IsPending, StandsFor, StandsNow}
use Rattle.repo_state.specs.State.{EndsWithin, IsSealedAlone, LeavesAfter}
use Rattle.repo_state.specs.declared.left.Left.{Left}
use Rattle.repo_state.proofs.GroupParts.{group_grown, group_waits, part_grows, part_same}
use Rattle.repo_state.proofs.Leaving.{for_grows, for_same}

-- ---- where it ends

pub end_least : (h : List Entry) (n : ℕ) (left : Option Left) → ForSome left (EndsWithin h n) → n ≤ group_end n left
end_least h n None ends = omega arith
end_least h n (Some l) ends = let within = ends l refl in let less = within.0 in omega arith

pub end_most : (h : List Entry) (n : ℕ) (left : Option Left) → ForSome left (EndsWithin h n) → n ≤ length (bodies h) → group_end n left ≤ length (bodies h)
end_most h n None ends most = most
end_most h n (Some l) ends most = (ends l refl).1

reach_by : (n upto : ℕ) (b : Bool) → n ≤ upto → n ≤ reach_at n upto b
reach_by n upto true le = le
reach_by n upto false le = omega arith

pub reach_least : (h : List Entry) (n : ℕ) (left : Option Left) → ForSome left (EndsWithin h n) → n ≤ reach_of n left
reach_least h n None ends = omega arith
reach_least h n (Some l) ends = let within = ends l refl in let less = within.0 in reach_by n l.upto (opens_at l.at) (omega arith)

reach_within : (n upto most : ℕ) (b : Bool) → n ≤ most → upto ≤ most → reach_at n upto b ≤ most
reach_within n upto most true le up = up
reach_within n upto most false le up = le

pub reach_most : (h : List Entry) (n : ℕ) (left : Option Left) → ForSome left (EndsWithin h n) → n ≤ length (bodies h) → reach_of n left ≤ length (bodies h)
reach_most h n None ends most = most
reach_most h n (Some l) ends most = reach_within n l.upto (length (bodies h)) (opens_at l.at) most (ends l refl).1

-- ---- whether a seal was cut off

no_stage : (at : At) → is_cut at ≡ false → goes_on at ≡ false → ⊥
no_stage stages.Laid cut going = true≢false going
no_stage stages.Opened cut going = true≢false going
no_stage (stages.Cut c) cut going = true≢false cut

pub none_of : (left : Option Left) → is_cut_off left ≡ false → is_under_way left ≡ false → left ≡ None
none_of None cut going = refl
none_of (Some l) cut going = absurd (no_stage l.at cut going)

cut_stage : (at : At) → is_cut at ≡ true → (cut : Cut) × (at ≡ stages.Cut cut)
cut_stage stages.Laid e = absurd (true≢false (sym e))
cut_stage stages.Opened e = absurd (true≢false (sym e))
cut_stage (stages.Cut c) e = (c, refl)

pub some_of : (left : Option Left) → is_cut_off left ≡ true → (cut : Cut) × (upto : ℕ) × (left ≡ Some (record { upto = upto; at = stages.Cut cut }))
some_of None e = absurd (true≢false (sym e))
some_of (Some l) e = let c = cut_stage l.at e in (c.0, l.upto, ap (λ (at : At). Some (record { upto = l.upto; at = at })) c.1)

-- where all is sealed between calls, none is under way
not_going : (h : List Entry) (n upto : ℕ) (at : At) → is_cut at ≡ is_down h → EndsWithin h n (record { upto = upto; at = at }) → IsSealedAlone h n → goes_on at ≡ false
not_going h n upto stages.Laid down ends all = absurd (let most = all.0 (sym down) in let less = ends.0 in let within = ends.1 in omega arith)
not_going h n upto stages.Opened down ends all = absurd (let most = all.0 (sym down) in let less = ends.0 in let within = ends.1 in omega arith)
not_going h n upto (stages.Cut cut) down ends all = refl

idle_by : (h : List Entry) (n : ℕ) (left : Option Left) → is_cut_off left ≡ is_down h → ForSome left (EndsWithin h n) → IsSealedAlone h n → is_under_way left ≡ false
idle_by h n None down ends all = refl
idle_by h n (Some l) down ends all = not_going h n l.upto l.at down (ends l refl) all

pub idle_alone : (header : Header) (h : List Entry) (n : ℕ) (pending : List ℕ) (left : Option Left) (m : Meaning) → LeavesAfter header h n pending left m → IsSealedAlone h n → is_under_way left ≡ false
idle_alone header h n pending left m l all = idle_by h n left l.cut_is l.ends all

pub none_inside : (upto : ℕ) (left : Option lefts.Left) → left_of upto left ≡ None → left ≡ None
none_inside upto None e = refl
none_inside upto (Some l) e = absurd cc

-- ---- what stays

group_same : (h g : List Entry) (n upto : ℕ) (pending image : List ℕ) → sealed_part n h ≡ sealed_part n g → sealed_part upto h ≡ sealed_part upto g → HasGroup (size (sealed_part n h)) (group_bytes n upto h pending) image → HasGroup (size (sealed_part n g)) (group_bytes n upto g pending) image
group_same h g n upto pending image en eu has =
    subst (λ (x : List Entry). HasGroup (size x) (group_in (size (sealed_part upto g) - size x) pending) image) en
    (subst (λ (x : List Entry). HasGroup (size (sealed_part n h)) (group_in (size x - size (sealed_part n h)) pending) image) eu has)

pub left_looked : (header : Header) (h g : List Entry) (n : ℕ) (pending : List ℕ) (left : Option Left) (m new : Meaning) → bodies h ≡ bodies g → is_down g ≡ is_down h → Kept m new → Looked m new → LeavesAfter header h n pending left m → LeavesAfter header g n pending left new
left_looked header h g n pending left m new same down kept looked l = record {
  cut_is = l.cut_is ∙ sym down;
  ends = λ x e. (let within = l.ends x e in (within.0, subst (λ (bs : List Body). x.upto ≤ length bs) same within.1));
  now = λ honest image is. (
      let was = sym kept.honest ∙ honest in
      elim (l.now was image (subst (λ d. IsImage d image) (looked was) is)) as (λ _. StandsFor header g n image ⊎ (IsTrue (may_be_open left) × StandsFor header g (group_end n left) image)) [
        | inl stands ↦ inl (for_same header h g n image same stands)
        | inr whole ↦ inr (whole.0, for_same header h g (group_end n left) image same whole.1)
      ]);
  holds = λ gate honest image is. (
      let was = sym kept.honest ∙ honest in
      group_same h g n (group_end n left) pending image (part_same n h g same) (part_same (group_end n left) h g same) (l.holds gate was image (subst (λ d. IsImage d image) (looked was) is)));
}

pub left_journal : (header : Header) (h : List Entry) (n upto : ℕ) (journal after : JournalView) (m : Meaning) → after.pending.bytes ≡ journal.pending.bytes → after.left ≡ journal.left → LeavesAfter header h n journal.pending.bytes (left_of upto journal.left) m → LeavesAfter header h n after.pending.bytes (left_of upto after.left) m
left_journal header h n upto journal after m bytes left l =
    subst (λ b. LeavesAfter header h n b (left_of upto after.left) m) (sym bytes) (subst (λ (o : Option lefts.Left). LeavesAfter header h n journal.pending.bytes (left_of upto o) m) (sym left) l)

-- with an entry more that waits, behind the group
pub left_entered : (header : Header) (h : List Entry) (n : ℕ) (entry : Entry) (pending more frame : List ℕ) (left : Option Left) (m : Meaning) → is_stored entry.body ≡ true → IsPending h n pending → more ≡ grown pending frame → LeavesAfter header h n pending left m → LeavesAfter header (h ++ entry ∷ []) n more left m
left_entered header h n entry pending more frame left m s p grows l =
    let upto = group_end n left in
    let within = end_most h n left l.ends p.most in
    let en : sealed_part n h ≡ sealed_part n (h ++ entry ∷ []) = sym (part_grows n h (entry ∷ []) p.most) in
    let eu : sealed_part upto h ≡ sealed_part upto (h ++ entry ∷ []) = sym (part_grows upto h (entry ∷ []) within) in
    let bytes : group_bytes n upto h pending ≡ group_bytes n upto h more = sym (ap (group_in (part_size n upto h)) grows ∙ group_grown (part_size n upto h) pending frame (group_waits h n upto pending p)) in
    record {
      cut_is = l.cut_is ∙ sym (down-stored h entry s);
      ends = λ x e. (
          let within = l.ends x e in
          let longer = ap (λ (bs : List Body). length bs) (bodies-append h (entry ∷ [])) in
          let sum = length-append (bodies h) (bodies (entry ∷ [])) in
          let most = within.1 in
          (within.0, omega arith));
      now = λ honest image is. elim (l.now honest image is) as (λ _. StandsFor header (h ++ entry ∷ []) n image ⊎ (IsTrue (may_be_open left) × StandsFor header (h ++ entry ∷ []) upto image)) [
        | inl stands ↦ inl (for_grows header h (entry ∷ []) n image p.most stands)
        | inr whole ↦ inr (whole.0, for_grows header h (entry ∷ []) upto image within whole.1)
      ];
      holds = λ gate honest image is. group_same h (h ++ entry ∷ []) n upto more image en eu (subst (λ b. HasGroup (size (sealed_part n h)) b image) bytes (l.holds gate honest image is));
    }

-- ---- a seal

-- none is under way
pub left_none : (header : Header) (h : List Entry) (n : ℕ) (pending : List ℕ) (m : Meaning) → is_down h ≡ false → (IsTrue m.honest → Keeps header (IsImage m.state) (sealed_part n h)) → LeavesAfter header h n pending None m
left_none header h n pending m up keeps = record {
  cut_is = sym up;
  ends = λ x e. absurd cc;
  now = λ honest image is. inl (keeps honest image is);
  holds = λ gate. absurd (true≢false (sym gate));
}

-- or one is, and its gate isn't opened
pub left_shut : (header : Header) (h : List Entry) (n upto : ℕ) (at : At) (pending : List ℕ) (m : Meaning) → is_cut at ≡ is_down h → opens_at at ≡ false → n < upto → upto ≤ length (bodies h)
    → (IsTrue m.honest → (image : List ℕ) → IsImage m.state image → StandsFor header h n image) → LeavesAfter header h n pending (Some (record { upto = upto; at = at })) m
left_shut header h n upto at pending m down shut less most stands = record {
  cut_is = down;
  ends = λ x e. (let same = same_some (record { upto = upto; at = at }) x e in subst (EndsWithin h n) same (less, most));
  now = λ honest image is. inl (stands honest image is);
  holds = λ gate. absurd (true≢false (sym gate ∙ shut));
}

-- or it may be open
pub left_open : (header : Header) (h : List Entry) (n upto : ℕ) (at : At) (pending : List ℕ) (m : Meaning) → is_cut at ≡ is_down h → opens_at at ≡ true → n < upto → upto ≤ length (bodies h)
    → (IsTrue m.honest → (image : List ℕ) → IsImage m.state image → StandsNow header h n upto image) → (IsTrue m.honest → HoldsGroup (size (sealed_part n h)) (group_bytes n upto h pending) m.state)
    → LeavesAfter header h n pending (Some (record { upto = upto; at = at })) m
left_open header h n upto at pending m down gate less most stands holds = record {
  cut_is = down;
  ends = λ x e. (let same = same_some (record { upto = upto; at = at }) x e in subst (EndsWithin h n) same (less, most));
  now = λ honest image is. elim (stands honest image is) as (λ _. StandsFor header h n image ⊎ (IsTrue (opens_at at) × StandsFor header h upto image)) [ inl alone ↦ inl alone | inr whole ↦ inr (gate, whole) ];
  holds = λ _ honest image is. holds honest image is;
}
