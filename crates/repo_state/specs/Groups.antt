-- A group of stored entries whose seal was begun and isn't done, or was cut off. It begins behind the sealed ones.
--     left_of upto left      the group that the journal keeps, with its end
--     cut_by left      the device call at which it was cut off, if it was;  is_cut_off left      it was
--     is_under_way left      there is one, and no call failed
--     opens_at at, may_be_open left      its gate may stand open
--     IsAt at left      there is one, and it has come so far
--     group_end n left      how many entries are stored up to its end, and where there is none the n that are sealed
--     reach_of n left      how many stored entries a crash may leave at most: up to its end where its gate may stand open, and else the n that are sealed
--     brings_none flush upto n left      a seat that waits for so many brings no sync of the group: none, or it waits for more than the group has
--     HasMoved h n left after new      the seal of the group has gone forward by one stage: all that waits was written as a group, its gate was opened, or what is sealed ends where it did
--     is_sealed result, is_waiting result, is_syncs result      what a step of a seal answers
--     part_size n upto h      how many bytes the records of the entries from n to upto have
--     group_bytes n upto h pending      these records as they stand on the disk
use Rattle.std.specs.Prelude.{◌≡◌, ◌-◌, ◌||◌, ℕ, Bool, true, false, List, length, nat_lt, Option, None, Some, is_none, option_map, Result, Ok, Err}
use Rattle.history_model.specs.History.{Entry, bodies}
use Rattle.history_model.specs.Journal.{size}
use Rattle.repo_journal.specs.Cuts.{opens}
use Rattle.repo_journal.specs.Left.{group_in}
use Rattle.repo_journal.specs.declared.cut.Cut.{Cut}
use Rattle.repo_journal.specs.declared.left.At.{At}
use Rattle.repo_journal.specs.declared.left.At.TheVariants as at
use Rattle.repo_journal.specs.declared.left.Left as lefts
use Rattle.repo_state.specs.declared.left.Left.{Left}
use Rattle.repo_state.specs.declared.sealing.Sealing.{Sealing}
use Rattle.repo_state.specs.declared.sealing.Sealing.TheVariants.{Sealed, UnderWay, Syncs}
use Rattle.repo_state.specs.Images.{sealed_part}

abbrev pub left_of : ℕ → Option lefts.Left → Option Left
left_of upto left = option_map (λ (l : lefts.Left). record { upto = upto; at = l.at }) left

abbrev pub cut_at : At → Option Cut
cut_at at.Laid = None
cut_at at.Opened = None
cut_at (at.Cut cut) = Some cut

abbrev pub cut_by : Option Left → Option Cut
cut_by None = None
cut_by (Some l) = cut_at l.at

abbrev pub is_cut : At → Bool
is_cut at.Laid = false
is_cut at.Opened = false
is_cut (at.Cut cut) = true

abbrev pub is_cut_off : Option Left → Bool
is_cut_off None = false
is_cut_off (Some l) = is_cut l.at

abbrev pub goes_on : At → Bool
goes_on at.Laid = true
goes_on at.Opened = true
goes_on (at.Cut cut) = false

abbrev pub is_under_way : Option Left → Bool
is_under_way None = false
is_under_way (Some l) = goes_on l.at

abbrev pub opens_at : At → Bool
opens_at at.Laid = false
opens_at at.Opened = true
opens_at (at.Cut cut) = opens cut

abbrev pub may_be_open : Option Left → Bool
may_be_open None = false
may_be_open (Some l) = opens_at l.at

abbrev pub group_end : ℕ → Option Left → ℕ
group_end n None = n
group_end n (Some l) = l.upto

abbrev pub IsAt : At → Option Left → Type 0
IsAt at left = (upto : ℕ) × (left ≡ Some (record { upto = upto; at = at }))

abbrev pub reach_at : ℕ → ℕ → Bool → ℕ
reach_at n upto true = upto
reach_at n upto false = n

abbrev pub reach_of : ℕ → Option Left → ℕ
reach_of n None = n
reach_of n (Some l) = reach_at n l.upto (opens_at l.at)

abbrev pub part_size : ℕ → ℕ → List Entry → ℕ
part_size n upto h = size (sealed_part upto h) - size (sealed_part n h)

abbrev pub group_bytes : ℕ → ℕ → List Entry → List ℕ → List ℕ
group_bytes n upto h pending = group_in (part_size n upto h) pending

-- ---- a step of a seal

abbrev pub brings_none : {F : Type 0} → Option F → ℕ → ℕ → Option Left → Bool
brings_none flush upto n left = is_none flush || nat_lt (group_end n left) upto

abbrev pub HasMovedFrom : At → ℕ → ℕ → ℕ → Option Left → Type 0
HasMovedFrom at.Laid upto n after new = (after ≡ n) × (new ≡ Some (record { upto = upto; at = at.Opened }))
HasMovedFrom at.Opened upto n after new = (after ≡ upto) × (new ≡ None)
HasMovedFrom (at.Cut cut) upto n after new = ⊥

abbrev pub HasMoved : List Entry → ℕ → Option Left → ℕ → Option Left → Type 0
HasMoved h n None after new = (after ≡ n) × (new ≡ Some (record { upto = length (bodies h); at = at.Laid }))
HasMoved h n (Some l) after new = HasMovedFrom l.at l.upto n after new

abbrev pub is_sealed : {F E : Type 0} → Result (Sealing F) E → Bool
is_sealed (Ok Sealed) = true
is_sealed (Ok UnderWay) = false
is_sealed (Ok (Syncs flush)) = false
is_sealed (Err e) = false

abbrev pub is_waiting : {F E : Type 0} → Result (Sealing F) E → Bool
is_waiting (Ok Sealed) = false
is_waiting (Ok UnderWay) = true
is_waiting (Ok (Syncs flush)) = false
is_waiting (Err e) = false

abbrev pub is_syncs : {F E : Type 0} → Result (Sealing F) E → Bool
is_syncs (Ok Sealed) = false
is_syncs (Ok UnderWay) = false
is_syncs (Ok (Syncs flush)) = true
is_syncs (Err e) = false
