-- What the checks of an upload find.
use Rattle.std.proofs.Common.{◌≡◌, ℕ, ◌≤◌, ◌<◌, ◌+◌, Bool, true, false, cond, not, List, ◌∷◌, drop, length, drop-cons, add-one, get_or, inl, inr, refl, sym, ap, ◌∙◌}
use Rattle.std.specs.Prelude.{Option, None, Some, Result, Ok, Err, IsErrAnd, ◌==◌, find, option_map}
use Rattle.std.specs.Option.{option_or}
use Rattle.std.proofs.lemmas.Bool.{eq-eqb}
use Rattle.std.proofs.lemmas.List.{drop_all}
use Rattle.std.proofs.lemmas.Bool.Decides.{Decides-eqb}
use Rattle.byte_fields.specs.Bytes.{Id}
use Rattle.changeset_model.specs.Path.{Path}
use Rattle.history_model.specs.History.{Known, is_known}
use Rattle.bonsai.specs.declared.change.Change as changes
use Rattle.bonsai.specs.declared.change.Change.TheVariants as change
use Rattle.bonsai.specs.declared.kind.FileKind as kinds
use Rattle.bonsai.specs.declared.copy_source.CopySource as sources
use Rattle.bonsai.specs.Kinds.{kind_view}
use Rattle.bonsai.specs.View.{change_view, edit_view, edits_view}
use Rattle.bonsai.specs.declared.edit.Edit as edits
use Rattle.reply_model.specs.Reply as reply
use Rattle.repo_calls.specs.declared.refusal.Refusal.{Refusal}
use Rattle.repo_calls.specs.declared.refusal.Refusal.TheVariants as refusals
use Rattle.repo_calls.specs.Calls.{refused}
use Rattle.repo_machine.specs.Checking.{IsFound, Checks, parents_refusal, edit_refusal, contents_refusal}

parent_by : (b : Bool) (p : Id) (later : Option Id) → option_map reply.NoParent (cond (not b) (Some p) later) ≡ cond b (option_map reply.NoParent later) (Some (reply.NoParent p))
parent_by true p later = refl
parent_by false p later = refl

module _ (ks : List Known) (ps : List Id) (i : ℕ) where
  next_parent : (p : Id) → i < length ps → p ≡ get_or ps i p → parents_refusal ks (drop i ps) ≡ cond (is_known ks p) (parents_refusal ks (drop (i + 1) ps)) (Some (reply.NoParent p))
  next_parent p below is =
      ap (parents_refusal ks) (drop-cons ps i p below ∙ (λ j. sym is j ∷ drop (sym (add-one i) j) ps))
      ∙ parent_by (is_known ks p) p (find (λ p. not (is_known ks p)) (drop (i + 1) ps))

  pub fine_parent : (p : Id) → i < length ps → p ≡ get_or ps i p → is_known ks p ≡ true → parents_refusal ks (drop i ps) ≡ parents_refusal ks (drop (i + 1) ps)
  fine_parent p below is there = next_parent p below is ∙ ap (λ b. cond b (parents_refusal ks (drop (i + 1) ps)) (Some (reply.NoParent p))) there

  pub no_parent : (p : Id) → i < length ps → p ≡ get_or ps i p → is_known ks p ≡ false → parents_refusal ks (drop i ps) ≡ Some (reply.NoParent p)
  no_parent p below is out = next_parent p below is ∙ ap (λ b. cond b (parents_refusal ks (drop (i + 1) ps)) (Some (reply.NoParent p))) out

  pub no_more_parents : length ps ≤ i → parents_refusal ks (drop i ps) ≡ None
  no_more_parents past = ap (parents_refusal ks) (drop_all i ps past)

-- what the check of one parent tells is what is found
pub found_parent : (result : Result (Unit {0}) Refusal) (e : Refusal) (p : Id) (found : Option reply.Refusal) → IsErrAnd result (λ x. x ≡ e) → e ≡ refusals.NoParent p → found ≡ Some (reply.NoParent p) → Checks result found
found_parent (Ok done) e p found err is some = absurd err
found_parent (Err x) e p found err is some = inr (reply.NoParent p, some, ap refused (err ∙ is))

apart_test : (a b : ℕ) → (a ≡ b → ⊥) → (a == b) ≡ false
apart_test a b apart = by (a == b) refl
  where
    by : (t : Bool) → (a == b) ≡ t → (a == b) ≡ false
    by true e = absurd (apart ((Decides-eqb a b).0 e))
    by false e = e

module _ (lengths : Id → Option ℕ) (path : Path) (c : changes.Change) (content : Id) (kind : kinds.FileKind) (size : ℕ) (copied : Option sources.CopySource) (is : c ≡ change.Set content kind size copied) where
  of_set : (o : Option ℕ) → lengths content ≡ o → edit_refusal lengths (path, change_view c) ≡ reply.content_refusal (path, record { content = content; kind = kind_view kind; size = size }) o
  of_set o e = ap (λ c. edit_refusal lengths (path, change_view c)) is ∙ ap (reply.content_refusal (path, record { content = content; kind = kind_view kind; size = size })) e

  pub right_size : (n : ℕ) → lengths content ≡ Some n → n ≡ size → edit_refusal lengths (path, change_view c) ≡ None
  right_size n e same = of_set (Some n) e ∙ ap (λ b. cond b None (Some (reply.WrongSize path size n))) (eq-eqb n size same)

  pub wrong_size : (n : ℕ) (copy : Path) → copy ≡ path → lengths content ≡ Some n → (n ≡ size → ⊥) → IsFound (refusals.WrongSize copy size n) (edit_refusal lengths (path, change_view c))
  wrong_size n copy copied e apart = inr (reply.WrongSize path size n, of_set (Some n) e ∙ ap (λ b. cond b None (Some (reply.WrongSize path size n))) (apart_test n size apart), ap (λ p. refused (refusals.WrongSize p size n)) copied)

  pub no_content : (copy : Path) → copy ≡ path → lengths content ≡ None → IsFound (refusals.NoContent copy content) (edit_refusal lengths (path, change_view c))
  no_content copy copied e = inr (reply.NoContent path content, of_set None e, ap (λ p. refused (refusals.NoContent p content)) copied)

module _ (lengths : Id → Option ℕ) (es : List edits.Edit) (i : ℕ) where
  pub next_edit : (e : edits.Edit) → i < length es → e ≡ get_or es i e → contents_refusal lengths (edits_view (drop i es)) ≡ option_or (edit_refusal lengths (edit_view e)) (contents_refusal lengths (edits_view (drop (i + 1) es)))
  next_edit e below is = ap (λ l. contents_refusal lengths (edits_view l)) (drop-cons es i e below ∙ (λ j. sym is j ∷ drop (sym (add-one i) j) es))

  pub fine_edit : (e : edits.Edit) → i < length es → e ≡ get_or es i e → edit_refusal lengths (edit_view e) ≡ None → contents_refusal lengths (edits_view (drop i es)) ≡ contents_refusal lengths (edits_view (drop (i + 1) es))
  fine_edit e below is fine = next_edit e below is ∙ ap (λ o. option_or o (contents_refusal lengths (edits_view (drop (i + 1) es)))) fine

  pub no_edits : length es ≤ i → contents_refusal lengths (edits_view (drop i es)) ≡ None
  no_edits past = ap (λ l. contents_refusal lengths (edits_view l)) (drop_all i es past)

-- what the first check finds is found
pub found_first : (result : Result (Unit {0}) Refusal) (e : Refusal) (a b : Option reply.Refusal) → IsErrAnd result (λ x. x ≡ e) → IsFound e a → Checks result (option_or a b)
found_first (Ok done) e a b err found = absurd err
found_first (Err x) e a b err (inl memory) = inl (err ∙ memory)
found_first (Err x) e a b err (inr (r, some, same)) = inr (r, ap (λ o. option_or o b) some, ap refused err ∙ same)
