-- The steps that ask a change leave the group as it was.
use Rattle.std.proofs.Common.{◌≡◌, ◌⊎◌, inl, inr, ℕ, Bool, true, false, cond, List, [], ◌∷◌, refl, sym, ap, subst, ◌∙◌}
use Rattle.std.specs.Prelude.{Option, None, Some}
use Rattle.std.specs.Option.{option_and_then}
use Rattle.history_model.specs.History.{Body, Entry}
use Rattle.history_model.specs.Journal.{Header}
use Rattle.reply_model.specs.Reply.{Ask, PutContent, PutWhole, PutChangeset, SetBookmark, LandDraft, SetPolicy, is_ask, judge}
use Rattle.core_model.specs.Core.{Sealing, State, Step, Exchange, set_for, plan_of, is_as_planned, entry_of, entered, exchanged, when, after_steps}
use Rattle.core_model.proofs.Cores.{some_is}
use Rattle.landing_core.specs.Steps.{Shows, Rests, is_idle, asking, Goes}

entered_same : (s : State) (who : ℕ) (made : Option Body) → (entered who made s).sealing ≡ s.sealing
entered_same s who None = refl
entered_same s who (Some body) = refl

choose : (b : Bool) (t u : State) (group : Option Sealing) → t.sealing ≡ group → u.sealing ≡ group → (cond b t u).sealing ≡ group
choose true t u group p q = p
choose false t u group p q = q

exchanged_same : (header : Header) (s : State) (who : ℕ) (ask : Ask) → (exchanged header s who ask).sealing ≡ s.sealing
exchanged_same header s who ask =
    choose (is_as_planned s.history (s.plan who) ask) (entered who (entry_of (judge header s.history ask)) s) (record s { plan = set_for who None s.plan }) s.sealing
    (entered_same s who (entry_of (judge header s.history ask))) refl

exchange_by : (header : Header) (x t : State) (group : Option Sealing) (b : Bool) → x.sealing ≡ group → option_and_then (λ next. after_steps header next []) (when b x) ≡ Some t → t.sealing ≡ group
exchange_by header x t group true same e = ap (λ (y : State). y.sealing) (sym (some_is x t e)) ∙ same
exchange_by header x t group false same e = absurd cc

exchange_same : (header : Header) (s t : State) (who : ℕ) (ask : Ask) → after_steps header s (Exchange who ask ∷ []) ≡ Some t → t.sealing ≡ s.sealing
exchange_same header s t who ask e = exchange_by header (exchanged header s who ask) t s.sealing (is_ask s.history ask) (exchanged_same header s who ask) e

asking_same : (header : Header) (s t : State) (who : ℕ) (ask : Ask) → after_steps header s (asking who ask) ≡ Some t → t.sealing ≡ s.sealing
asking_same header s t who (PutContent bytes) e = exchange_same header s t who (PutContent bytes) e
asking_same header s t who (PutWhole body pieces) e = exchange_same header s t who (PutWhole body pieces) e
asking_same header s t who (PutChangeset bytes) e = exchange_same header s t who (PutChangeset bytes) e
asking_same header s t who (SetBookmark caller name from to) e = exchange_same header s t who (SetBookmark caller name from to) e
asking_same header s t who (SetPolicy caller text) e = exchange_same header s t who (SetPolicy caller text) e
asking_same header s t who (LandDraft caller name draft moment) e = exchange_same header (record s { plan = set_for who (plan_of s.history name draft moment) s.plan }) t who (LandDraft caller name draft moment) e

-- they are asked, or none is taken
stays : (header : Header) (s t : State) (who : ℕ) (ask : Ask) (steps : List Step) → (steps ≡ asking who ask) ⊎ (steps ≡ []) → after_steps header s steps ≡ Some t → t.sealing ≡ s.sealing
stays header s t who ask steps (inl same) e = asking_same header s t who ask (ap (after_steps header s) (sym same) ∙ e)
stays header s t who ask steps (inr none) e = ap (λ (y : State). y.sealing) (sym (some_is s t (ap (after_steps header s) (sym none) ∙ e)))

pub rests_too : (header : Header) (s : State) (who : ℕ) (ask : Ask) (steps : List Step) (new : List Entry) (n : ℕ) → is_idle s.sealing ≡ true → (steps ≡ asking who ask) ⊎ (steps ≡ []) → Goes header s steps (Shows new n) → Goes header s steps (Rests new n)
rests_too header s who ask steps new n idle same goes = record {
  state = goes.state;
  taken = goes.taken;
  meets = (goes.meets, ap is_idle (stays header s goes.state who ask steps same goes.taken) ∙ idle);
}
