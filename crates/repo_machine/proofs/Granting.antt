-- What is judged, with what is made of it.
use Rattle.std.proofs.Common.{◌≡◌, ℕ, true, List, [], refl, sym, subst, ◌∙◌}
use Rattle.std.specs.Prelude.{None, Result, Ok, Err, IfOk, IfErr}
use Rattle.history_model.specs.History.{Body, Entry}
use Rattle.history_model.specs.Journal.{Header}
use Rattle.reply_model.specs.Reply.{Ask, is_ask, Granted, judge, entered, unchanged}
use Rattle.reply_model.specs.Legal.{IsLegal}
use Rattle.repo_calls.specs.declared.refusal.Refusal.{Refusal}
use Rattle.repo_machine.specs.Held.{Room, HasRoom}
use Rattle.repo_machine.specs.Judged.{JudgedChange, Frames}
use Rattle.repo_machine.specs.Entering.{IsNew, IsPrepared, Prevents, Enters, Judges}
use Rattle.repo_calls.specs.Refusing.{IsRefusal}
use Rattle.repo_machine.proofs.Judging.{entered_made, prevented}

module _ (header : Header) (h : List Entry) (room : Room) (who : ℕ) (ask : Ask) (asks : is_ask h ask ≡ true) (granted : Granted) where
  pub judges_made : (body : Body) → judge header h ask ≡ entered header h granted body → IsNew h body → (j : JudgedChange) → IsPrepared header h room who granted body j → Judges header h room who ask j
  judges_made body judged new j p = record {
    by = p.by;
    is_judged = record {
      asks = asks;
      granted = judged ∙ entered_made header h granted body p.fits ∙ (λ i. Ok (record { granted = sym p.granted_is i; made = sym p.made_is i }));
      frames = subst (λ m. Frames m j.frame) (sym p.made_is) p.frames;
    };
    enters = subst (Enters header h) (sym p.made_is) (record { can = record { ask = ask; granted = granted; asks = asks; judged = judged }; new = new; fits = p.fits });
    room_for = subst (HasRoom room) (sym p.made_is) p.room_for;
  }

  pub judges_nothing : judge header h ask ≡ unchanged granted → (j : JudgedChange) → j ≡ record { who = who; granted = granted; made = None; frame = [] } → Judges header h room who ask j
  judges_nothing judged j is = subst (Judges header h room who ask) (sym is) (record {
    by = refl;
    is_judged = record { asks = asks; granted = judged; frames = refl };
    enters = tt;
    room_for = tt;
  })

pub if_err : {X : Type 0} (r : Result X Refusal) (P Q : Refusal → Type 0) → ((e : Refusal) → P e → Q e) → IfErr r P → IfErr r Q
if_err (Ok x) P Q then h = tt
if_err (Err e) P Q then h = then e h

pub if_ok : {X : Type 0} (r : Result X Refusal) (P Q : X → Type 0) → ((x : X) → P x → Q x) → IfOk r P → IfOk r Q
if_ok (Ok x) P Q then h = then x h
if_ok (Err e) P Q then h = tt

pub all_prevented : {X : Type 0} (r : Result X Refusal) (header : Header) (h : List Entry) (ask : Ask) (granted : Granted) (body : Body) → judge header h ask ≡ entered header h granted body → IfErr r (Prevents header h body) → IfErr r (IsRefusal (judge header h ask))
all_prevented r header h ask granted body judged = if_err r _ _ (λ e prevents. prevented header h ask granted body e prevents judged)

pub legal_same : (header header' : Header) (h h' : List Entry) → IsLegal header h → header' ≡ header → h' ≡ h → IsLegal header' h'
legal_same header header' h h' legal same_header same = subst (λ g. IsLegal header' g) (sym same) (subst (λ header. IsLegal header h) (sym same_header) legal)
