use Rattle.std.proofs.Common.{◌≡◌, inr, refl, sym, ap, subst, ◌∙◌}
use Rattle.std.specs.Prelude.{Ok, [], ◌∷◌}
use Rattle.history_model.specs.History.{Book}
use Rattle.policy_model.specs.Rules.{bookmark_place}
use Rattle.reply_model.specs.Reply.{SetBookmark, BookmarkSet, NoChangeset, Moved, refuse_some, denial}
use Rattle.reply_model.specs.After.{Refuses}
use Rattle.repo_calls.specs.Refusing.{IsRefusal}
use Rattle.repo_machine.proofs.Judging.{judged_unknown, judged_moved, passes_refusal}
use Rattle.repo_machine.proofs.Deciding.{decided_by}
use Rattle.repo_machine.proofs.Judging.{denied_as, same_as, moving_as, moved_as, not_true}
use Rattle.repo_machine.proofs.Granting.{judges_nothing, judges_made, if_ok, all_prevented}
use Rattle.repo_machine.proofs.machine.Machine.judge_bookmark.Goals as goal

pub returns-in_err-check_bookmark-clause-err : goal.returns-in_err-check_bookmark-clause-err
returns-in_err-check_bookmark-clause-err c =
    passes_refusal _ c.from_residual-in_err-check_bookmark.result _ c.from_residual-in_err-check_bookmark.ensures.1
    (denied_as c.args.self.now.header c.args.self.now.history c.in_ok-check_up.ensures.ok c.args.caller.now c.args.name.now c.args.from c.args.to c.head-found.result c.unknown.result c.unknown.ensures c.in_default.is c.head-found.ensures (sym c.ne.ensures ∙ c.if-ne.false) _
    (subst (λ d. IsRefusal (refuse_some d denial) c.in_err-check_bookmark.field-0.0) (decided_by c.args.self.now.history c.args.caller.now (bookmark_place c.args.name.now ∷ []) _ c.rules.ensures) c.in_err-check_bookmark.ensures))

pub returns-in-Some-clause-err : goal.returns-in-Some-clause-err
returns-in-Some-clause-err c = inr (NoChangeset c.in-Some.id, judged_unknown c.args.self.now.header c.args.self.now.history c.args.caller.now c.args.name.now c.args.from c.args.to c.in_ok-check_up.ensures.ok c.in-Some.id (sym c.unknown.ensures ∙ c.in-Some.is), refl)

pub returns-then-ne-clause-err : goal.returns-then-ne-clause-err
returns-then-ne-clause-err c =
    inr (_, judged_moved c.args.self.now.header c.args.self.now.history c.args.caller.now c.args.name.now c.args.from c.args.to c.in_ok-check_up.ensures.ok (sym c.unknown.ensures ∙ c.in_default.is) (not_true _ _ c.args.from c.head-found.ensures (sym c.ne.ensures ∙ c.if-ne.true)), ap (λ o. Refuses (Moved o)) c.head-found.ensures)

pub returns-then-eq-clause-ok : goal.returns-then-eq-clause-ok
returns-then-eq-clause-ok c =
    judges_nothing c.args.self.now.header c.args.self.now.history c.args.self.now.room c.args.who (SetBookmark c.args.caller.now c.args.name.now c.args.from c.args.to) (c.keep_rules.ensures c.args.self.now.history) BookmarkSet (same_as c.args.self.now.header c.args.self.now.history c.in_ok-check_up.ensures.ok c.args.caller.now c.args.name.now c.args.from c.args.to c.head-found.result c.unknown.result c.unknown.ensures c.in_default.is c.head-found.ensures (sym c.ne.ensures ∙ c.if-ne.false) (subst (λ d. refuse_some d denial ≡ Ok tt) (decided_by c.args.self.now.history c.args.caller.now (bookmark_place c.args.name.now ∷ []) _ c.rules.ensures) c.in_ok-check_bookmark.ensures) (sym c.eq.ensures ∙ c.if-eq.true)) c.unchanged.result c.unchanged.ensures

pub returns-clause-ok : goal.returns-clause-ok
returns-clause-ok c =
    if_ok c.make_move.result _ _
    (λ j p. judges_made c.args.self.now.header c.args.self.now.history c.make_move.new.self.room c.args.who (SetBookmark c.args.caller.now c.args.name.now c.args.from c.args.to) (c.keep_rules.ensures c.args.self.now.history) BookmarkSet _ (moved_as c.args.self.now.header c.args.self.now.history (SetBookmark c.args.caller.now c.args.name.now c.args.from c.args.to) c.args.from c.args.to c.in_ok-name.ensures c.in_ok-told.ensures (moving_as c.args.self.now.header c.args.self.now.history c.in_ok-check_up.ensures.ok c.args.caller.now c.args.name.now c.args.from c.args.to c.head-found.result c.unknown.result c.unknown.ensures c.in_default.is c.head-found.ensures (sym c.ne.ensures ∙ c.if-ne.false) (subst (λ d. refuse_some d denial ≡ Ok tt) (decided_by c.args.self.now.history c.args.caller.now (bookmark_place c.args.name.now ∷ []) _ c.rules.ensures) c.in_ok-check_bookmark.ensures) (sym c.eq.ensures ∙ c.if-eq.false))) tt j p) c.make_move.ensures.ok

pub returns-clause-err : goal.returns-clause-err
returns-clause-err c =
    all_prevented c.make_move.result c.args.self.now.header c.args.self.now.history (SetBookmark c.args.caller.now c.args.name.now c.args.from c.args.to) BookmarkSet (Book (record { name = c.in_ok-name.name; from = c.args.from; to = c.args.to; caller = c.in_ok-told.field-0 }))
    (moved_as c.args.self.now.header c.args.self.now.history (SetBookmark c.args.caller.now c.args.name.now c.args.from c.args.to) c.args.from c.args.to c.in_ok-name.ensures c.in_ok-told.ensures (moving_as c.args.self.now.header c.args.self.now.history c.in_ok-check_up.ensures.ok c.args.caller.now c.args.name.now c.args.from c.args.to c.head-found.result c.unknown.result c.unknown.ensures c.in_default.is c.head-found.ensures (sym c.ne.ensures ∙ c.if-ne.false) (subst (λ d. refuse_some d denial ≡ Ok tt) (decided_by c.args.self.now.history c.args.caller.now (bookmark_place c.args.name.now ∷ []) _ c.rules.ensures) c.in_ok-check_bookmark.ensures) (sym c.eq.ensures ∙ c.if-eq.false)))
    c.make_move.ensures.err
