-- The turns of a seal, as the repository tells of them: what a crash may have left meanwhile, how far the group has come, and the steps of the core.
use Rattle.std.proofs.Common.{◌≡◌, ℕ, ◌<◌, Bool, true, false, List, [], ◌∷◌, ◌++◌, length, refl, sym, ap, subst, ◌∙◌}
use Rattle.std.specs.Prelude.{◌⊎◌, ◌↔◌, if◌then◌else◌, not, is_err, IsTrue, Option, None, Some, Result, Ok, Err}
use mathlib.Core.Bool.{true≢false}
use Rattle.landing_core.proofs.Down.{down-breaking}
use mathlib.Core.Logic.{inl, inr}
use Rattle.byte_fields.proofs.Booleans.{same_some}
use Rattle.ports.specs.Faults.{Counts}
use Rattle.ports.proofs.Counting.{counts_then}
use Rattle.disk_model.specs.Meaning.{Meaning}
use Rattle.disk_model.specs.Calls.{Kept, LeavesOnly}
use Rattle.history_model.specs.History.{Entry, Fault, bodies, is_down}
use Rattle.history_model.specs.Journal.{Header}
use Rattle.reply_model.specs.After.{entry_by}
use Rattle.repo_journal.specs.Left.{cut_off, laid, opened}
use Rattle.repo_journal.specs.declared.cut.Cut.{Cut}
use Rattle.repo_journal.specs.declared.cut.Cut.TheVariants as cuts
use Rattle.repo_journal.specs.declared.left.At.{At}
use Rattle.repo_journal.specs.declared.left.At.TheVariants as stages
use Rattle.repo_journal.specs.declared.left.Left as lefts
use Rattle.repo_state.specs.Cores.{EndsSo, RestSo, SealsSo, TurnSo}
use Rattle.repo_state.specs.Groups.{HasMoved, IsAt, group_end, left_of, opens_at, reach_at, reach_of}
use Rattle.repo_state.specs.Images.{LeavesSeal, LeavesSeals, StandsFor, StandsNow}
use Rattle.repo_state.specs.State.{State, after_seal, breaks, reach}
use Rattle.repo_state.specs.declared.left.Left.{Left}
use Rattle.repo_state.proofs.Chains.{leaves_map, leaves_then}
use Rattle.repo_state.proofs.Leaving.{for_same}
use Rattle.repo_state.proofs.Stands.{bodies-fault}
use Rattle.repo_state.proofs.Stepping.{begun_so, unbegun_so, opened_so, unopened_so, closed_so, unclosed_so, turn_at, ends_both, ends_last, ends_unopened, rest_so, rest_unbegun, seals_rest}
use Rattle.repo_state.proofs.Sealed.{broke}

-- ---- the group that the journal keeps

pub at_inside : (upto : ℕ) (at : At) (left : Option lefts.Left) → IsAt at (left_of upto left) → (len : ℕ) × (left ≡ Some (record { length = len; at = at }))
at_inside upto at None is = absurd (let e = is.1 in cc)
at_inside upto at (Some l) is =
    let same : record { upto = upto; at = l.at } ≡ record { upto = is.0; at = at } = same_some (record { upto = upto; at = l.at }) (record { upto = is.0; at = at }) is.1 in
    (l.length, ap (λ (a : At). Some (record { length = l.length; at = a })) (ap (λ (x : Left). x.at) same))

-- what is required of a state, of the values inside
pub none_left : {inside now : State} → inside ≡ now → now.left ≡ None → inside.left ≡ None
none_left same none = ap (λ (s : State). s.left) same ∙ none

pub up_inside : {inside now : State} → inside ≡ now → is_down now.history ≡ false → is_down inside.history ≡ false
up_inside same up = ap (λ (s : State). is_down s.history) same ∙ up

pub some_inside : {inside now : State} → inside ≡ now → now.sealed < length (bodies now.history) → inside.sealed < length (bodies inside.history)
some_inside same some = subst (λ (s : State). s.sealed < length (bodies s.history)) (sym same) some

-- with its end
pub left_now : (upto len : ℕ) (at : At) (left : Option lefts.Left) → left ≡ Some (record { length = len; at = at }) → left_of upto left ≡ Some (record { upto = upto; at = at })
left_now upto len at left e = ap (λ (o : Option lefts.Left). left_of upto o) e

pub reach_now : (n upto len : ℕ) (at : At) (left : Option lefts.Left) → left ≡ Some (record { length = len; at = at }) → opens_at at ≡ true → reach_of n (left_of upto left) ≡ upto
reach_now n upto len at left e gate = ap (λ (o : Option lefts.Left). reach_of n (left_of upto o)) e ∙ ap (λ (b : Bool). reach_at n upto b) gate

-- ---- how far it has come

pub begun_moved : (h : List Entry) (n upto p : ℕ) (left after : Option lefts.Left) → left ≡ None → p ≡ length (bodies h) → (len : ℕ) → after ≡ Some (laid len) → HasMoved h n (left_of upto left) n (left_of p after)
begun_moved h n upto p left after none all len is =
    subst (λ (o : Option Left). HasMoved h n o n (left_of p after)) (sym (ap (λ (o : Option lefts.Left). left_of upto o) none)) (refl, left_now p len stages.Laid after is ∙ ap (λ (k : ℕ). Some (record { upto = k; at = stages.Laid })) all)

pub opened_moved : (h : List Entry) (n upto len : ℕ) (left after : Option lefts.Left) → left ≡ Some (laid len) → after ≡ Some (opened len) → HasMoved h n (left_of upto left) n (left_of upto after)
opened_moved h n upto len left after there is =
    subst (λ (o : Option Left). HasMoved h n o n (left_of upto after)) (sym (left_now upto len stages.Laid left there)) (refl, left_now upto len stages.Opened after is)

pub closed_moved : (h : List Entry) (n upto len : ℕ) (left after : Option lefts.Left) → left ≡ Some (opened len) → after ≡ None → HasMoved h n (left_of upto left) upto (left_of upto after)
closed_moved h n upto len left after there is =
    subst (λ (o : Option Left). HasMoved h n o upto (left_of upto after)) (sym (left_now upto len stages.Opened left there)) (refl, ap (λ (o : Option lefts.Left). left_of upto o) is)

-- ---- what a crash may have left

pub leaves_before : (header : Header) (h new : List Entry) (n after reach : ℕ) (m now : Meaning) → LeavesOnly (StandsFor header h n) m now → LeavesSeal header h n new after reach m now
leaves_before header h new n after reach m now only = leaves_map m now (λ image stands. inl stands) only

pub leaves_further : (header : Header) (h new : List Entry) (n after upto reach : ℕ) (m now : Meaning) → bodies h ≡ bodies new → (after ≡ upto) ⊎ (reach ≡ upto) → LeavesOnly (StandsNow header h n upto) m now → LeavesSeal header h n new after reach m now
leaves_further header h new n after upto reach m now same end only = leaves_map m now (λ image stands. by image stands end) only
  where
    by : (image : List ℕ) → StandsNow header h n upto image → (after ≡ upto) ⊎ (reach ≡ upto) → StandsFor header h n image ⊎ StandsNow header new after reach image
    by image (inl stands) end = inl stands
    by image (inr stands) (inl at_after) = inr (inl (subst (λ i. StandsFor header new i image) (sym at_after) (for_same header h new upto image same stands)))
    by image (inr stands) (inr at_reach) = inr (inr (subst (λ i. StandsFor header new i image) (sym at_reach) (for_same header h new upto image same stands)))

pub same_broke : (h new : List Entry) (who : ℕ) → new ≡ broke h who → bodies h ≡ bodies new
same_broke h new who e = sym (ap (λ (g : List Entry). bodies g) e ∙ bodies-fault h who true)

-- ---- the steps of the core

pub begun_turn : (header : Header) (h : List Entry) (n who upto p : ℕ) (left after : Option lefts.Left) → is_down h ≡ false → n < length (bodies h) → left ≡ None → p ≡ length (bodies h) → (len : ℕ) → after ≡ Some (laid len) → TurnSo header h n (left_of upto left) who false h n (left_of p after)
begun_turn header h n who upto p left after up some none all len is =
    turn_at header h h h n n n None (left_of upto left) (Some (record { upto = length (bodies h); at = stages.Laid })) (left_of p after) who false (ap (λ (o : Option lefts.Left). left_of upto o) none) refl refl
    (left_now p len stages.Laid after is ∙ ap (λ (k : ℕ). Some (record { upto = k; at = stages.Laid })) all) (begun_so header h n who up some)

pub unbegun_turn : (header : Header) (h new : List Entry) (n who upto p : ℕ) (left after : Option lefts.Left) → is_down h ≡ false → n < length (bodies h) → new ≡ broke h who → left ≡ None → p ≡ length (bodies h) → (len : ℕ) → after ≡ Some (cut_off len cuts.Write) → TurnSo header h n (left_of upto left) who true new n (left_of p after)
unbegun_turn header h new n who upto p left after up some grows none all len is =
    turn_at header h (broke h who) new n n n None (left_of upto left) (Some (record { upto = length (bodies h); at = stages.Cut cuts.Write })) (left_of p after) who true (ap (λ (o : Option lefts.Left). left_of upto o) none) grows refl
    (left_now p len (stages.Cut cuts.Write) after is ∙ ap (λ (k : ℕ). Some (record { upto = k; at = stages.Cut cuts.Write })) all) (unbegun_so header h n who up some)

pub opened_step : (header : Header) (h : List Entry) (n who upto len : ℕ) (left after : Option lefts.Left) → left ≡ Some (laid len) → after ≡ Some (opened len) → TurnSo header h n (left_of upto left) who false h n (left_of upto after)
opened_step header h n who upto len left after there is =
    turn_at header h h h n n n (Some (record { upto = upto; at = stages.Laid })) (left_of upto left) (Some (record { upto = upto; at = stages.Opened })) (left_of upto after) who false (left_now upto len stages.Laid left there) refl refl (left_now upto len stages.Opened after is) (opened_so header h n who upto)

pub unopened_step : (header : Header) (h new : List Entry) (n who upto len : ℕ) (cut : Cut) (left after : Option lefts.Left) → (cut ≡ cuts.Sync) ⊎ (cut ≡ cuts.Open) → new ≡ broke h who → left ≡ Some (laid len) → after ≡ Some (cut_off len cut) → TurnSo header h n (left_of upto left) who true new n (left_of upto after)
unopened_step header h new n who upto len cut left after next grows there is =
    turn_at header h (broke h who) new n n n (Some (record { upto = upto; at = stages.Laid })) (left_of upto left) (Some (record { upto = upto; at = stages.Cut cut })) (left_of upto after) who true (left_now upto len stages.Laid left there) grows refl (left_now upto len (stages.Cut cut) after is) (unopened_so header h n who upto cut next)

pub closed_step : (header : Header) (h : List Entry) (n who upto len : ℕ) (left after : Option lefts.Left) → left ≡ Some (opened len) → after ≡ None → TurnSo header h n (left_of upto left) who false h upto (left_of upto after)
closed_step header h n who upto len left after there is =
    turn_at header h h h n upto upto (Some (record { upto = upto; at = stages.Opened })) (left_of upto left) None (left_of upto after) who false (left_now upto len stages.Opened left there) refl refl (ap (λ (o : Option lefts.Left). left_of upto o) is) (closed_so header h n who upto)

pub unclosed_step : (header : Header) (h new : List Entry) (n who upto len : ℕ) (cut : Cut) (left after : Option lefts.Left) → cut ≡ cuts.Seal → new ≡ broke h who → left ≡ Some (opened len) → after ≡ Some (cut_off len cut) → TurnSo header h n (left_of upto left) who true new n (left_of upto after)
unclosed_step header h new n who upto len cut left after next grows there is =
    turn_at header h (broke h who) new n n n (Some (record { upto = upto; at = stages.Opened })) (left_of upto left) (Some (record { upto = upto; at = stages.Cut cut })) (left_of upto after) who true (left_now upto len stages.Opened left there) grows refl (left_now upto len (stages.Cut cut) after is) (unclosed_so header h n who upto cut next)

-- ---- one turn after another

bodies_by : (h : List Entry) (who : ℕ) (b : Bool) → bodies (if b then h ++ entry_by who (Fault true) ∷ [] else h) ≡ bodies h
bodies_by h who true = bodies-fault h who true
bodies_by h who false = refl

-- no entry is lost or made
pub bodies_after : (who : ℕ) (failed : Bool) (h new : List Entry) → new ≡ after_seal who failed h → bodies new ≡ bodies h
bodies_after who failed h new e = ap (λ (g : List Entry). bodies g) e ∙ bodies_by h who (breaks failed h)

abbrev pub Between : State → State → State → Type 0
Between a b c = (reach b ≡ a.sealed) ⊎ ((reach b ≡ c.sealed) ⊎ (reach c ≡ reach b))

-- where nothing is sealed in the first
pub leaves_both : (a b c : State) (who : ℕ) (failed : Bool) → b.header ≡ a.header → b.history ≡ a.history → b.sealed ≡ a.sealed → Between a b c → c.history ≡ after_seal who failed b.history → Kept a.disk b.disk
    → (IsTrue a.disk.honest → LeavesSeal a.header a.history a.sealed b.history b.sealed (reach b) a.disk b.disk) → (IsTrue b.disk.honest → LeavesSeal b.header b.history b.sealed c.history c.sealed (reach c) b.disk c.disk)
    → IsTrue a.disk.honest → LeavesSeal a.header a.history a.sealed c.history c.sealed (reach c) a.disk c.disk
leaves_both a b c who failed header history sealed between seals kept first second honest =
    leaves_then a.disk b.disk c.disk kept (leaves_map a.disk b.disk early (first honest)) (leaves_map b.disk c.disk late (second (kept.honest ∙ honest)))
  where
    later : bodies b.history ≡ bodies c.history
    later = sym (bodies_after who failed b.history c.history seals)

    back : (i : ℕ) (image : List ℕ) → StandsFor b.header b.history i image → StandsFor a.header a.history i image
    back i image stands = subst (λ x. StandsFor x a.history i image) header (subst (λ g. StandsFor b.header g i image) history stands)

    on : (i : ℕ) (image : List ℕ) → StandsFor a.header b.history i image → StandsFor a.header c.history i image
    on i image stands = for_same a.header b.history c.history i image later stands

    at_reach : (image : List ℕ) → Between a b c → StandsFor a.header b.history (reach b) image → StandsFor a.header a.history a.sealed image ⊎ StandsNow a.header c.history c.sealed (reach c) image
    at_reach image (inl e) stands = inl (subst (λ g. StandsFor a.header g a.sealed image) history (subst (λ i. StandsFor a.header b.history i image) e stands))
    at_reach image (inr (inl e)) stands = inr (inl (on c.sealed image (subst (λ i. StandsFor a.header b.history i image) e stands)))
    at_reach image (inr (inr e)) stands = inr (inr (on (reach c) image (subst (λ i. StandsFor a.header b.history i image) (sym e) stands)))

    early : (image : List ℕ) → StandsFor a.header a.history a.sealed image ⊎ StandsNow a.header b.history b.sealed (reach b) image → StandsFor a.header a.history a.sealed image ⊎ StandsNow a.header c.history c.sealed (reach c) image
    early image (inl stands) = inl stands
    early image (inr (inl stands)) = inl (subst (λ g. StandsFor a.header g a.sealed image) history (subst (λ i. StandsFor a.header b.history i image) sealed stands))
    early image (inr (inr stands)) = at_reach image between stands

    late : (image : List ℕ) → StandsFor b.header b.history b.sealed image ⊎ StandsNow b.header c.history c.sealed (reach c) image → StandsFor a.header a.history a.sealed image ⊎ StandsNow a.header c.history c.sealed (reach c) image
    late image (inl stands) = inl (subst (λ i. StandsFor a.header a.history i image) sealed (back b.sealed image stands))
    late image (inr (inl stands)) = inr (inl (subst (λ x. StandsFor x c.history c.sealed image) header stands))
    late image (inr (inr stands)) = inr (inr (subst (λ x. StandsFor x c.history (reach c) image) header stands))

-- the group that was under way is sealed in the first
pub leaves_rest : (a b c : State) (upto who : ℕ) (failed : Bool) → b.header ≡ a.header → b.history ≡ a.history → b.sealed ≡ upto → reach b ≡ upto → c.history ≡ after_seal who failed b.history → Kept a.disk b.disk
    → (IsTrue a.disk.honest → LeavesSeal a.header a.history a.sealed b.history b.sealed (reach b) a.disk b.disk) → (IsTrue b.disk.honest → LeavesSeal b.header b.history b.sealed c.history c.sealed (reach c) b.disk c.disk)
    → IsTrue a.disk.honest → LeavesSeals a.header a.history a.sealed upto c.history c.sealed (reach c) a.disk c.disk
leaves_rest a b c upto who failed header history sealed reaches seals kept first second honest =
    leaves_then a.disk b.disk c.disk kept (leaves_map a.disk b.disk early (first honest)) (leaves_map b.disk c.disk late (second (kept.honest ∙ honest)))
  where
    at_end : (i : ℕ) (image : List ℕ) → i ≡ upto → StandsFor a.header b.history i image → StandsFor a.header a.history upto image
    at_end i image e stands = subst (λ g. StandsFor a.header g upto image) history (subst (λ k. StandsFor a.header b.history k image) e stands)

    early : (image : List ℕ) → StandsFor a.header a.history a.sealed image ⊎ StandsNow a.header b.history b.sealed (reach b) image → StandsNow a.header a.history a.sealed upto image ⊎ StandsNow a.header c.history c.sealed (reach c) image
    early image (inl stands) = inl (inl stands)
    early image (inr (inl stands)) = inl (inr (at_end b.sealed image sealed stands))
    early image (inr (inr stands)) = inl (inr (at_end (reach b) image reaches stands))

    late : (image : List ℕ) → StandsFor b.header b.history b.sealed image ⊎ StandsNow b.header c.history c.sealed (reach c) image → StandsNow a.header a.history a.sealed upto image ⊎ StandsNow a.header c.history c.sealed (reach c) image
    late image (inl stands) = inl (inr (at_end b.sealed image sealed (subst (λ x. StandsFor x b.history b.sealed image) header stands)))
    late image (inr (inl stands)) = inr (inl (subst (λ x. StandsFor x c.history c.sealed image) header stands))
    late image (inr (inr stands)) = inr (inr (subst (λ x. StandsFor x c.history (reach c) image) header stands))

-- that of a step alone
pub leaves_once : (header : Header) (h new : List Entry) (n upto after reach : ℕ) (m now : Meaning) → LeavesSeal header h n new after reach m now → LeavesSeals header h n upto new after reach m now
leaves_once header h new n upto after reach m now only = leaves_map m now by only
  where
    by : (image : List ℕ) → StandsFor header h n image ⊎ StandsNow header new after reach image → StandsNow header h n upto image ⊎ StandsNow header new after reach image
    by image (inl stands) = inl (inl stands)
    by image (inr stands) = inr stands

-- ---- of states

pub moved_open : (a b : State) → IsAt stages.Laid a.left → HasMoved a.history a.sealed a.left b.sealed b.left → (b.sealed ≡ a.sealed) × (b.left ≡ Some (record { upto = group_end a.sealed a.left; at = stages.Opened }))
moved_open a b is moved =
    let there = subst (λ (o : Option Left). HasMoved a.history a.sealed o b.sealed b.left) is.1 moved in
    (there.0, there.1 ∙ sym (ap (λ (o : Option Left). Some (record { upto = group_end a.sealed o; at = stages.Opened })) is.1))

pub moved_shut : (a b : State) → IsAt stages.Opened a.left → HasMoved a.history a.sealed a.left b.sealed b.left → (b.sealed ≡ group_end a.sealed a.left) × (b.left ≡ None)
moved_shut a b is moved =
    let there = subst (λ (o : Option Left). HasMoved a.history a.sealed o b.sealed b.left) is.1 moved in
    (there.0 ∙ sym (ap (λ (o : Option Left). group_end a.sealed o) is.1), there.1)

pub moved_laid : (a b : State) → a.left ≡ None → HasMoved a.history a.sealed a.left b.sealed b.left → (b.sealed ≡ a.sealed) × (b.left ≡ Some (record { upto = length (bodies a.history); at = stages.Laid }))
moved_laid a b none moved = subst (λ (o : Option Left). HasMoved a.history a.sealed o b.sealed b.left) none moved

-- what is laid is sealed by two turns
pub ends_by_two : (a b c : State) (who : ℕ) (failed : Bool) → IsAt stages.Laid a.left → HasMoved a.history a.sealed a.left b.sealed b.left → b.header ≡ a.header
    → TurnSo a.header a.history a.sealed a.left who false b.history b.sealed b.left → TurnSo b.header b.history b.sealed b.left who failed c.history c.sealed c.left → EndsSo a.header a.history a.sealed a.left who failed c.history c.sealed c.left
ends_by_two a b c who failed is moved header first second =
    let upto = is.0 in
    let there = moved_open a b is moved in
    let mid : b.left ≡ Some (record { upto = upto; at = stages.Opened }) = there.1 ∙ ap (λ (o : Option Left). Some (record { upto = group_end a.sealed o; at = stages.Opened })) is.1 in
    subst (λ (o : Option Left). EndsSo a.header a.history a.sealed o who failed c.history c.sealed c.left) (sym is.1)
    (ends_both a.header a.history b.history c.history a.sealed b.sealed c.sealed upto who failed b.left c.left mid
    (subst (λ (o : Option Left). TurnSo a.header a.history a.sealed o who false b.history b.sealed b.left) is.1 first)
    (subst (λ x. TurnSo x b.history b.sealed b.left who failed c.history c.sealed c.left) header second))

pub ends_by_first : (a c : State) (who : ℕ) → IsAt stages.Laid a.left → TurnSo a.header a.history a.sealed a.left who true c.history c.sealed c.left → EndsSo a.header a.history a.sealed a.left who true c.history c.sealed c.left
ends_by_first a c who is turn = ends_unopened a.header a.history c.history a.sealed c.sealed is.0 who a.left c.left is.1 turn

pub ends_by_last : (a c : State) (who : ℕ) (failed : Bool) → IsAt stages.Opened a.left → TurnSo a.header a.history a.sealed a.left who failed c.history c.sealed c.left → EndsSo a.header a.history a.sealed a.left who failed c.history c.sealed c.left
ends_by_last a c who failed is turn = ends_last a.header a.history c.history a.sealed c.sealed is.0 who failed a.left c.left is.1 turn

-- all that waits is written, and sealed
pub rest_by_two : (a b c : State) (who : ℕ) (failed : Bool) → a.left ≡ None → HasMoved a.history a.sealed a.left b.sealed b.left → b.header ≡ a.header
    → TurnSo a.header a.history a.sealed a.left who false b.history b.sealed b.left → EndsSo b.header b.history b.sealed b.left who failed c.history c.sealed c.left → RestSo a.header a.history a.sealed who failed c.history c.sealed c.left
rest_by_two a b c who failed none moved header first second =
    rest_so a.header a.history b.history c.history a.sealed b.sealed c.sealed (length (bodies a.history)) who failed b.left c.left (moved_laid a b none moved).1
    (subst (λ (o : Option Left). TurnSo a.header a.history a.sealed o who false b.history b.sealed b.left) none first)
    (subst (λ x. EndsSo x b.history b.sealed b.left who failed c.history c.sealed c.left) header second)

pub rest_by_first : (a c : State) (who : ℕ) → a.left ≡ None → TurnSo a.header a.history a.sealed a.left who true c.history c.sealed c.left → RestSo a.header a.history a.sealed who true c.history c.sealed c.left
rest_by_first a c who none turn = rest_unbegun a.header a.history c.history a.sealed c.sealed who c.left (subst (λ (o : Option Left). TurnSo a.header a.history a.sealed o who true c.history c.sealed c.left) none turn)

-- a group under way, and the rest
pub seals_by_two : (a b c : State) (who : ℕ) (failed : Bool) → b.left ≡ None → b.header ≡ a.header → EndsSo a.header a.history a.sealed a.left who false b.history b.sealed b.left → RestSo b.header b.history b.sealed who failed c.history c.sealed c.left
    → SealsSo a.header a.history a.sealed a.left who failed c.history c.sealed c.left
seals_by_two a b c who failed none header first second =
    seals_rest a.header a.history b.history c.history a.sealed b.sealed c.sealed who failed a.left b.left c.left none first (subst (λ x. RestSo x b.history b.sealed who failed c.history c.sealed c.left) header second)

-- where none is under way, what may be left is what is sealed
pub reach_none : (b : State) → b.left ≡ None → reach b ≡ b.sealed
reach_none b none = ap (λ (o : Option Left). reach_of b.sealed o) none

pub reach_laid : (b : State) (upto : ℕ) → b.left ≡ Some (record { upto = upto; at = stages.Laid }) → reach b ≡ b.sealed
reach_laid b upto is = ap (λ (o : Option Left). reach_of b.sealed o) is

pub reach_open : (b : State) (upto : ℕ) → b.left ≡ Some (record { upto = upto; at = stages.Opened }) → reach b ≡ upto
reach_open b upto is = ap (λ (o : Option Left). reach_of b.sealed o) is

pub counts_both : (a b c : Meaning) (failed : Bool) → Counts a.faults b.faults false → Counts b.faults c.faults failed → Counts a.faults c.faults failed
counts_both a b c failed first second = counts_then a.faults b.faults c.faults false failed first second

pub seals_both : (a b c : State) (who : ℕ) (failed : Bool) → b.history ≡ after_seal who false a.history → c.history ≡ after_seal who failed b.history → c.history ≡ after_seal who failed a.history
seals_both a b c who failed first second = second ∙ ap (λ (h : List Entry). after_seal who failed h) first

-- ---- whether a step fails

pub failed_ok : {A E : Type 0} (r : Result A E) {x : A} (who : ℕ) (h new : List Entry) (n upto : ℕ) → r ≡ Ok x → is_down h ≡ false → new ≡ after_seal who false h → IsTrue (is_err r) ↔ (IsTrue (is_down new) × (n < upto))
failed_ok r {x} who h new n upto is up same = (
  λ fails. absurd (true≢false (sym fails ∙ ap (λ q. is_err q) is)),
  λ p. absurd (true≢false (sym p.0 ∙ ap (λ (g : List Entry). is_down g) same ∙ up)),
)

pub failed_err : {A E : Type 0} (r : Result A E) {e : E} (who : ℕ) (h new : List Entry) (n upto : ℕ) → r ≡ Err e → is_down h ≡ false → new ≡ after_seal who true h → n < upto → IsTrue (is_err r) ↔ (IsTrue (is_down new) × (n < upto))
failed_err r {e} who h new n upto is up same less = (
  λ _. (ap (λ (g : List Entry). is_down g) (same ∙ ap (λ b. if not b then h ++ entry_by who (Fault true) ∷ [] else h) up) ∙ down-breaking h who, less),
  λ _. ap (λ q. is_err q) is,
)
