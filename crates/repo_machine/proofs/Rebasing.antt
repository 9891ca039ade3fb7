-- A plan's stack on its head, with the record of the landing.
--     is_recorded      it keeps what a rebased landing keeps ready
--     told_fits      where the payload that tells no caller isn't too long, the length of the other has 32 bits
--     has_frame      the length of its record, whether it tells who asked or not
use Rattle.std.proofs.Common.{◌≡◌, ◌≤◌, ◌<◌, ◌+◌, ◌^◌, ℕ, Bool, true, false, cond, List, [], length, length-append, map, refl, sym, ap, subst, ◌∙◌, arith, ◌∷◌, drop}
use Rattle.std.specs.Prelude.{Option, None, Some, ◌&&◌, ◌==◌, not, nat_lt, position, take, is_none, ◌||◌, slice_index_or}
use Rattle.std.specs.Option.{option_or}
use Rattle.std.specs.Int.{w8}
use Rattle.std.proofs.lemmas.Bool.{le-ltb, ltb-false}
use Rattle.byte_fields.specs.Bytes.{Id, is_bytes, sized}
use Rattle.changeset_model.specs.Changeset.{Changeset, id_of}
use Rattle.history_model.specs.Bookmark.{is_name, is_name_byte}
use Rattle.history_model.specs.History as model
use Rattle.history_model.specs.Journal.{payload, payload_len, most_payload, record_len, wrapped}
use Rattle.history_model.specs.Pushrebase.{rewrite, moment_of}
use Rattle.reply_model.specs.Reply.{most_stack}
use Rattle.repo_machine.specs.declared.judged.LandMade.{LandMade}
use Rattle.repo_machine.specs.Judged.{Frames}
use Rattle.repo_machine.specs.Made.{landing_made, HasNumbers}
use Rattle.repo_machine.specs.Plans.{PlannedLanding, RebasedLanding, rebased_of, landing_in, told_where, record_size, frame_size}
use Rattle.repo_machine.specs.Recorded.{IsRecorded, telling}
use Rattle.repo_calls.proofs.Fitting.{length-rewrite}
use Rattle.repo_machine.proofs.MadeReady.{frame_length}
use Rattle.std.specs.Arc.{arc_value}
use Rattle.std.specs.declared.sync.Arc.{Arc}
use Rattle.std.specs.List.{list_any}
use Rattle.std.proofs.lemmas.List.{drop_more, drop_all}
use Rattle.changeset_model.specs.Version.{is_second}
use Rattle.changeset_store.specs.Shared.{values}

abbrev landing_for : RebasedLanding → Option (List ℕ) → model.Body
landing_for r caller = model.Land (landing_in r caller)

-- who is told makes the payload longer
longer : (caller bytes : List ℕ) → length bytes ≤ length (wrapped (Some caller) bytes)
longer caller bytes = let long = length-append (sized w8 caller) bytes in omega arith

name_by : (bad : Option ℕ) (n : ℕ) (long empty : Bool) → nat_lt 128 n ≡ long → is_none (option_or bad (cond long (Some 128) (cond empty (Some 0) None))) ≡ true → n ≤ 128
name_by (Some k) n long empty e h = absurd cc
name_by None n true empty e h = absurd cc
name_by None n false empty e h = ltb-false 128 n e

short_name : (name : List ℕ) → is_name name ≡ true → length name ≤ 128
short_name name h = name_by (position (λ b. not (is_name_byte b)) (take 128 name)) (length name) (nat_lt 128 (length name)) (length name == 0) refl h

told_by : (caller bytes : List ℕ) → is_name caller ≡ true → length (wrapped (Some caller) bytes) ≤ length bytes + 130
told_by caller bytes named = let name = short_name caller named in let long = length-append (sized w8 caller) bytes in omega arith

pub told_fits : (r : RebasedLanding) → is_name r.caller ≡ true → (n told : ℕ) → n ≡ payload_len (landing_for r None) → told ≡ payload_len (landing_for r (Some r.caller)) → n ≤ most_payload → told < 2 ^ 32
told_fits r named n told is told_is short =
    let more : payload_len (landing_for r (Some r.caller)) ≤ payload_len (landing_for r None) + 130 = told_by r.caller (payload (landing_for r None) []) named in
    omega arith

size_by : (body : model.Body) (other : ℕ) (b : Bool) → nat_lt most_payload (payload_len body) ≡ b → record_size body other ≡ cond b other (record_len body)
size_by body other b is = ap (λ b. cond b other (record_len body)) is

bare_within : (r : RebasedLanding) (n : ℕ) → n ≡ record_len (landing_for r None) → payload_len (landing_for r None) ≤ most_payload → (b : Bool) → nat_lt most_payload (payload_len (landing_for r (Some r.caller))) ≡ b → n ≤ frame_size r
bare_within r n is short true long =
    let same : frame_size r ≡ record_len (landing_for r None) = size_by (landing_for r (Some r.caller)) (record_size (landing_for r None) 0) true long ∙ size_by (landing_for r None) 0 false (le-ltb most_payload (payload_len (landing_for r None)) short) in
    omega arith
bare_within r n is short false fits =
    let same : frame_size r ≡ record_len (landing_for r (Some r.caller)) = size_by (landing_for r (Some r.caller)) (record_size (landing_for r None) 0) false fits in
    let more : payload_len (landing_for r None) ≤ payload_len (landing_for r (Some r.caller)) = longer r.caller (payload (landing_for r None) []) in
    omega arith

pub has_frame : (r : RebasedLanding) (told : Bool) (frame : List ℕ) → payload_len (landing_for r (told_where told r.caller)) ≤ most_payload → Frames (Some (landing_for r (told_where told r.caller))) frame → length frame ≤ frame_size r
has_frame r true frame short frames =
    let same : frame_size r ≡ record_len (landing_for r (Some r.caller)) = size_by (landing_for r (Some r.caller)) (record_size (landing_for r None) 0) false (le-ltb most_payload (payload_len (landing_for r (Some r.caller))) short) in
    let long = frame_length (landing_for r (Some r.caller)) frame frames in
    omega arith
has_frame r false frame short frames =
    bare_within r (length frame) (frame_length (landing_for r None) frame frames) short (nat_lt most_payload (payload_len (landing_for r (Some r.caller)))) refl

-- the landing that is made of what was rebased
abbrev landing_on : PlannedLanding → List Changeset → Option ℕ → model.Landing
landing_on plan new moment = record { name = plan.name; old = plan.old; draft = plan.draft; new = new; moment = moment; caller = None }

pub landing_of_plan : (plan : PlannedLanding) (at : ℕ) (new : List Changeset) (moment : Option ℕ) (l : model.Landing) → l ≡ landing_on plan new moment → new ≡ rewrite plan.stack plan.old at → moment ≡ moment_of plan.stack at → l ≡ landing_in (rebased_of plan at) None
landing_of_plan plan at new moment l is new_is moment_is = is ∙ (λ i. landing_on plan (new_is i) (moment_is i))

module _ (plan : PlannedLanding) (at : ℕ) (l : LandMade) (made : landing_made l ≡ landing_in (rebased_of plan at) None) (few : length plan.stack ≤ most_stack) where
  few_new : length (landing_in (rebased_of plan at) None).new ≤ most_stack
  few_new = let same = length-rewrite plan.stack plan.old at in omega arith

  pub is_recorded : (caller : List ℕ) → caller ≡ plan.caller → (ids : List Id) (n told : ℕ) (frame : List ℕ) → HasNumbers l → is_name plan.name && is_bytes 32 plan.draft ≡ true → ids ≡ map id_of (rewrite plan.stack plan.old at)
      → n ≡ payload_len (landing_for (rebased_of plan at) None) → told ≡ payload_len (landing_for (rebased_of plan at) (Some plan.caller)) → (n ≤ most_payload → Frames (Some (landing_for (rebased_of plan at) (Some plan.caller))) frame) → IsRecorded l caller ids n told frame
  is_recorded caller calls ids n told frame ready rules ids_are length_is told_is frames = record {
    ready = ready;
    few = subst (λ (m : model.Landing). length m.new ≤ most_stack) (sym made) few_new;
    rules = subst (λ (m : model.Landing). is_name m.name && is_bytes 32 m.draft ≡ true) (sym made) rules;
    untold = ap (λ (m : model.Landing). m.caller) made;
    ids_are = ids_are ∙ ap (λ (m : model.Landing). map id_of m.new) (sym made);
    length_is = length_is ∙ ap (λ (m : model.Landing). payload_len (model.Land m)) (sym made);
    told_is = told_is ∙ (λ i. payload_len (model.Land (telling (sym made i) (sym calls i))));
    frames = λ short. subst (λ (m : model.Landing). Frames (Some (model.Land m)) frame) (λ i. telling (sym made i) (sym calls i)) (frames short);
  }

abbrev pub dates : List Changeset → Bool
dates cs = list_any (λ c. is_second c.version) cs

module _ {Z : Type 0} (stack : List (Arc Changeset Z)) (i : ℕ) where
  next : (c : Arc Changeset Z) → i < length stack → c ≡ slice_index_or stack i c → dates (values (drop i stack)) ≡ (is_second (arc_value c).version || dates (values (drop (i + 1) stack)))
  next c less is = ap (λ (left : List (Arc Changeset Z)). dates (values left)) (drop_more stack i c less ∙ ap (λ c. c ∷ drop (i + 1) stack) (sym is))

  pub one_passed : (c : Arc Changeset Z) → i < length stack → c ≡ slice_index_or stack i c → is_second (arc_value c).version ≡ false → dates (values (drop i stack)) ≡ dates (values stack) → dates (values (drop (i + 1) stack)) ≡ dates (values stack)
  one_passed c less is first so_far = sym (next c less is ∙ ap (λ b. b || dates (values (drop (i + 1) stack))) first) ∙ so_far

  pub one_found : (c : Arc Changeset Z) (moment : ℕ) → i < length stack → c ≡ slice_index_or stack i c → is_second (arc_value c).version ≡ true → dates (values (drop i stack)) ≡ dates (values stack) → Some moment ≡ moment_of (values stack) moment
  one_found c moment less is second so_far = sym (ap (λ b. cond b (Some moment) None) (sym so_far ∙ next c less is ∙ ap (λ b. b || dates (values (drop (i + 1) stack))) second))

  pub none_at_all : (moment : ℕ) → length stack ≤ i → dates (values (drop i stack)) ≡ dates (values stack) → None ≡ moment_of (values stack) moment
  none_at_all moment past so_far = sym (ap (λ b. cond b (Some moment) None) (sym so_far ∙ ap (λ (left : List (Arc Changeset Z)). dates (values left)) (drop_all i stack past)))
