use Rattle.std.proofs.Common.{◌+◌, ◌-◌, ℕ, List, [], take, drop, length, subst, sym, ap, refl, ◌∙◌, arith}
use Rattle.http_model.specs.Stream as model
use Rattle.http_model.specs.Stream.{Whole, Partial, Stands}
use Rattle.http_wire.specs.Holding.{Awaits}
use Rattle.http_wire.specs.Seen.{request_at}
use Rattle.http_wire.proofs.CutterLemmas.{good_partial, good_awaits, answers_message, answers_memory, answers_head_only, answers_whole, answers_granted, waiting_is, whole_at, whole_behind}
use Rattle.http_wire.specs.Answers.{Answers}
use Rattle.http_wire.proofs.cutter.Cutter.take_next.Goals as goal
use Rattle.http_wire.proofs.cutter.Cutter.take_next.Goals.{After-with_body}

pub invariant_of-self-then-waiting-end : goal.invariant_of-self-then-waiting-end
invariant_of-self-then-waiting-end c =
    let before = c.self.invariant in
    let waiting = waiting_is c.as_slice.result.now c.self.inside.bytes.items c.args.self.now c.self.inside.start c.as_slice.ensures.value c.self.view_is in
    let good = c.in-Head.ensures.first in
    let awaits : List ℕ → Type 0 = λ bs. Awaits bs (c.in-Head.len + c.in-Head.framing.body) in
    record {
      start = before.start;
      room = before.room;
      headers = c.read_head.ensures.room;
      scanned = before.scanned;
      none = before.none;
      awaits = subst awaits (waiting ∙ sym c.self.view_is) (good_awaits _ c.in-Head.len c.in-Head.spans c.in-Head.framing (ap model.skip_blank waiting ∙ c.requires ∙ sym waiting) good);
      most = let head = good.fits in let body = good.frames.most in omega arith;
    }

pub returns-then-waiting-end-clause-need_more : goal.returns-then-waiting-end-clause-need_more
returns-then-waiting-end-clause-need_more c =
    let waiting = waiting_is c.as_slice.result.now c.self.inside.bytes.items c.args.self.now c.self.inside.start c.as_slice.ensures.value c.self.view_is in
    let P : List ℕ → Type 0 = λ bs. Stands bs (Partial (length bs)) in
    subst P waiting (good_partial _ c.in-Head.len c.in-Head.spans c.in-Head.framing c.in-Head.ensures.first c.if-waiting-end.true)

abbrev waiting_bytes : goal.After-self-in-Head-3-1 → List ℕ
waiting_bytes c = take (length c.as_slice.result.now - c.self.inside.start) (drop c.self.inside.start c.as_slice.result.now)

abbrev asked : goal.After-self-in-Head-3-1 → model.Request
asked c = request_at (take c.in-Head.len (waiting_bytes c)) c.in-Head.spans c.in-Head.framing (take ((c.in-Head.len + c.in-Head.framing.body) - c.in-Head.len) (drop c.in-Head.len (waiting_bytes c)))

abbrev left : goal.After-self-in-Head-3-1 → List ℕ
left c = drop (c.self.inside.start + (c.in-Head.len + c.in-Head.framing.body)) c.self.inside.bytes.items

whole : (c : goal.After-self-in-Head-3-1) → Stands c.args.self.now (Whole (asked c) (left c))
whole c =
    let waiting = waiting_is c.as_slice.result.now c.self.inside.bytes.items c.args.self.now c.self.inside.start c.as_slice.ensures.value c.self.view_is in
    whole_at _ c.args.self.now c.self.inside.bytes.items c.self.inside.start c.in-Head.len c.in-Head.spans c.in-Head.framing waiting c.self.view_is c.in-Head.ensures.first c.if-waiting-end.false

pub returns-else-body-ge-LONG_BODY-clause-message : goal.returns-else-body-ge-LONG_BODY-clause-message
returns-else-body-ge-LONG_BODY-clause-message c =
    answers_message (asked c) c.message-answer-in-Head.result (λ request. Stands c.args.self.now (Whole request (left c))) c.message-answer-in-Head.ensures (whole c)

pub returns-else-body-ge-LONG_BODY-clause-memory : goal.returns-else-body-ge-LONG_BODY-clause-memory
returns-else-body-ge-LONG_BODY-clause-memory c =
    answers_memory (asked c) c.message-answer-in-Head.result (λ request. Stands c.args.self.now (Whole request (left c))) c.message-answer-in-Head.ensures (whole c)

-- ---- a long body

abbrev waiting_then : After-with_body → List ℕ
waiting_then c = take (length c.as_slice.result.now - c.self.inside.start) (drop c.self.inside.start c.as_slice.result.now)

abbrev held_then : After-with_body → List ℕ
held_then c = drop c.self.inside.start c.self.inside.bytes.items

abbrev asked_long : After-with_body → model.Request
asked_long c = request_at (take c.in-Head.len (waiting_then c)) c.in-Head.spans c.in-Head.framing (take ((c.in-Head.len + c.in-Head.framing.body) - c.in-Head.len) (drop c.in-Head.len (held_then c)))

answers_long : (c : After-with_body) → Answers (asked_long c) c.with_body.result
answers_long c = c.with_body.ensures.answers (request_at (take c.in-Head.len (waiting_then c)) c.in-Head.spans c.in-Head.framing []) c.message-answer.ensures

whole_long : (c : After-with_body) → Stands c.args.self.now (Whole (asked_long c) c.with_body.new.self)
whole_long c =
    let waiting = waiting_is c.as_slice.result.now c.self.inside.bytes.items (held_then c) c.self.inside.start c.as_slice.ensures.value refl in
    subst (λ bs. Stands bs (Whole (asked_long c) c.with_body.new.self)) c.self.view_is
    (subst (λ rest. Stands (held_then c) (Whole (asked_long c) rest)) (sym c.with_body.ensures.rest)
    (whole_behind (waiting_then c) (held_then c) c.in-Head.len c.in-Head.spans c.in-Head.framing waiting c.in-Head.ensures.first c.if-waiting-end.false))

pub returns-then-body-ge-LONG_BODY-clause-message : goal.returns-then-body-ge-LONG_BODY-clause-message
returns-then-body-ge-LONG_BODY-clause-message c =
    answers_message (asked_long c) c.with_body.result (λ request. Stands c.args.self.now (Whole request c.with_body.new.self)) (answers_long c) (whole_long c)

pub returns-then-body-ge-LONG_BODY-clause-memory : goal.returns-then-body-ge-LONG_BODY-clause-memory
returns-then-body-ge-LONG_BODY-clause-memory c =
    answers_memory (asked_long c) c.with_body.result (λ request. Stands c.args.self.now (Whole request c.with_body.new.self)) (answers_long c) (whole_long c)

pub returns-then-body-ge-LONG_BODY-clause-head_only : goal.returns-then-body-ge-LONG_BODY-clause-head_only
returns-then-body-ge-LONG_BODY-clause-head_only c = answers_head_only (asked_long c) c.with_body.result (answers_long c)

pub returns-then-body-ge-LONG_BODY-clause-need_more : goal.returns-then-body-ge-LONG_BODY-clause-need_more
returns-then-body-ge-LONG_BODY-clause-need_more c = answers_whole (asked_long c) c.with_body.result _ (answers_long c)

pub returns-then-body-ge-LONG_BODY-clause-waiting : goal.returns-then-body-ge-LONG_BODY-clause-waiting
returns-then-body-ge-LONG_BODY-clause-waiting c = answers_whole (asked_long c) c.with_body.result _ (answers_long c)

pub returns-then-body-ge-LONG_BODY-clause-kept : goal.returns-then-body-ge-LONG_BODY-clause-kept
returns-then-body-ge-LONG_BODY-clause-kept c = answers_whole (asked_long c) c.with_body.result _ (answers_long c)

pub returns-then-body-ge-LONG_BODY-clause-refused : goal.returns-then-body-ge-LONG_BODY-clause-refused
returns-then-body-ge-LONG_BODY-clause-refused c = answers_granted (asked_long c) c.with_body.result _ (answers_long c)

pub returns-then-body-ge-LONG_BODY-clause-status : goal.returns-then-body-ge-LONG_BODY-clause-status
returns-then-body-ge-LONG_BODY-clause-status c = answers_granted (asked_long c) c.with_body.result _ (answers_long c)

pub returns-then-body-ge-LONG_BODY-clause-stays : goal.returns-then-body-ge-LONG_BODY-clause-stays
returns-then-body-ge-LONG_BODY-clause-stays c = answers_granted (asked_long c) c.with_body.result _ (answers_long c)
