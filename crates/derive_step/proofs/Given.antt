-- The deleted nodes of a changeset, from what is given of them.
use Rattle.std.proofs.Common.{◌≡◌, ℕ, List, ◌++◌, sym, ap, subst, ◌∙◌}
use Rattle.std.specs.Prelude.{Option, Result, Ok, Err, IfOk, OnOk}
use Rattle.byte_fields.specs.Bytes.{Id}
use Rattle.changeset_model.specs.Path.{Path}
use Rattle.history_model.specs.History.{Known}
use Rattle.history_model.specs.Past.{Past, At}
use Rattle.deleted_step.specs.declared.done.Done.{Done}
use Rattle.deleted_step.specs.Steps.{AreComeAndGone, AreGiven, AreHeldAt, IsDoneOf}

module _ (c : Known) (first second : Past) (gone come g h : List Path) (is_gone : g ≡ gone) (is_come : h ≡ come) where
  pub same_given : (contents : Id → Option (List ℕ)) (top up : Option Id) (x y : Id) → AreGiven contents top c first second x gone come → y ≡ x → up ≡ top → AreGiven contents up c first second y g h
  same_given contents top up x y given id root = record {
    id = id ∙ given.id;
    root = root ∙ given.root;
    held = subst (AreHeldAt contents first) (λ i. sym is_gone i ++ sym is_come i) given.held;
    files = subst (λ ps. AreComeAndGone c first second ps h) (sym is_gone) (subst (λ ps. AreComeAndGone c first second gone ps) (sym is_come) given.files);
  }

  pub same_done : (done : Done) → IsDoneOf first (At c first second) (g ++ h) done → IsDoneOf first (At c first second) (gone ++ come) done
  same_done done of = subst (λ ps. IsDoneOf first (At c first second) ps done) (λ i. is_gone i ++ is_come i) of

-- an error is the same of any value
pub err_again : {A B E : Type 0} (f e : E) → ◌≡◌ {A = Result A E} (Err f) (Err e) → ◌≡◌ {A = Result B E} (Err f) (Err e)
err_again {A} {B} {E} f e is = ap (λ (x : E). Err x) same
  where
    same : f ≡ e
    same = cc

pub if_ok : {A E : Type 0} (P Q : A → Type 0) (r : Result A E) → ((x : A) → P x → Q x) → IfOk r P → IfOk r Q
if_ok P Q (Ok x) more h = more x h
if_ok P Q (Err e) more h = tt

pub on_ok : {A E P Q : Type 0} (r : Result A E) → (P → Q) → OnOk r P → OnOk r Q
on_ok (Ok x) more h = more h
on_ok (Err e) more h = tt

pub always_ok : {A E Q : Type 0} (r : Result A E) → Q → OnOk r Q
always_ok (Ok x) h = h
always_ok (Err e) h = tt
