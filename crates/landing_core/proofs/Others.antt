-- The steps of a plan and of a read, and a state as it begins.
use Rattle.std.proofs.Common.{◌≡◌, ℕ, true, false, List, [], ◌∷◌, ◌++◌, length, refl, sym, ap, subst, ◌∙◌}
use Rattle.std.specs.Prelude.{None, Some}
use Rattle.byte_fields.specs.Bytes.{Id}
use Rattle.history_model.specs.History.{Fault, Entry, bodies, known, is_down}
use Rattle.history_model.specs.Bookmark.{head}
use Rattle.history_model.specs.Pushrebase.{Fork, fork, rewrite}
use Rattle.history_model.specs.Journal.{Header}
use Rattle.reply_model.specs.After.{entry_by}
use Rattle.core_model.specs.Core.{State, PlanLanding, Look, set_for, plan_of, added, opened}
use Rattle.landing_core.specs.Steps.{IsLeft, Shows, Rests, HasPlan, Goes}
use Rattle.landing_core.proofs.Down.{down-fault}
use Rattle.landing_core.proofs.Planned.{set_here, plan_is}

pub plan_goes : (header : Header) (h : List Entry) (n who : ℕ) (name : List ℕ) (draft : Id) (moment : ℕ) (old : Id) (f : Fork) (s : State) → head h name ≡ Some old → fork (known h) old draft ≡ Some f → Shows h n s → Goes header s (PlanLanding who name draft moment ∷ []) (λ t. Shows h n t × HasPlan t who name draft moment old (rewrite f.stack old moment))
plan_goes header h n who name draft moment old f s at forks shows = record {
  state = record s { plan = set_for who (plan_of s.history name draft moment) s.plan };
  taken = refl;
  meets = (
    record { history_is = shows.history_is; sealed_is = shows.sealed_is; left = shows.left },
    record {
      plan = record { name = name; draft = draft; moment = moment; old = old; fork = f; new = rewrite f.stack old moment };
      plan_is = set_here who (plan_of s.history name draft moment) s.plan ∙ ap (λ h. plan_of h name draft moment) shows.history_is ∙ plan_is h name draft moment old f at forks;
      names = refl;
      drafts = refl;
      moments = refl;
      old_is = refl;
      new_is = refl;
    },
  );
}

-- a read that the disk answered, or that wasn't asked of it
pub looked_goes : (header : Header) (h new : List Entry) (n who : ℕ) (s : State) → new ≡ h → Shows h n s → Goes header s (Look who true ∷ []) (Shows new n)
looked_goes header h new n who s same shows = record {
  state = s;
  taken = refl;
  meets = subst (λ h. Shows h n s) (sym same) shows;
}

-- a read that the disk failed
pub fault_goes : (header : Header) (h new : List Entry) (n who : ℕ) (s : State) → new ≡ h ++ entry_by who (Fault false) ∷ [] → Shows h n s → Goes header s (Look who false ∷ []) (Shows new n)
fault_goes header h new n who s grows shows = record {
  state = added who (Fault false) s;
  taken = refl;
  meets = record {
    history_is = ap (λ (h : List Entry). h ++ entry_by who (Fault false) ∷ []) shows.history_is ∙ sym grows;
    sealed_is = shows.sealed_is;
    left = subst (λ b. IsLeft b s.sealing) (sym (ap is_down grows ∙ down-fault h who)) shows.left;
  };
}

pub opened_shows : (h : List Entry) → is_down h ≡ false → Rests h (length (bodies h)) (opened h)
opened_shows h up = (record { history_is = refl; sealed_is = refl; left = subst (λ b. IsLeft b None) (sym up) tt }, refl)
