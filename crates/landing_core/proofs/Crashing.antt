-- A crash as a step, from a state that shows a history.
use Rattle.std.proofs.Common.{◌≡◌, ℕ, ◌≤◌, true, false, List, [], ◌∷◌, map, take, length, Bool, refl, sym, ap, subst, ◌∙◌, arith}
use Rattle.std.specs.Prelude.{if◌then◌else◌, None, Some, option_map}
use Rattle.std.proofs.lemmas.List.{length-take}
use Rattle.history_model.specs.History.{Body, Entry, unnumbered, bodies, is_down}
use Rattle.history_model.specs.Journal.{Header}
use Rattle.reply_model.proofs.Stored.{is_down-stored}
use Rattle.core_model.specs.Core.{State, Crash, may_be_kept, group_end, reopened}
use Rattle.core_model.proofs.Cores.{bodies_left}
use Rattle.landing_core.proofs.Asked.{one_step}
use Rattle.landing_core.specs.Steps.{IsLeft, Shows, Rests, left_open, Goes}

-- no breaking fault is left
calm : (h : List Entry) (n : ℕ) → is_down (map unnumbered (take n (bodies h))) ≡ false
calm h n = ap (λ (bs : List Body). is_down (map unnumbered bs)) (sym (bodies_left h n)) ∙ is_down-stored (map unnumbered (take n (bodies h)))

reopened_shows : (h : List Entry) (n m : ℕ) (s : State) → s.history ≡ h → m ≡ n → n ≤ length (bodies h) → Rests (map unnumbered (take n (bodies h))) n (reopened s m)
reopened_shows h n m s history m_is most = (
  record {
    history_is = (λ i. map unnumbered (take (m_is i) (bodies (history i))));
    sealed_is = ap length (bodies_left s.history m ∙ (λ i. take (m_is i) (bodies (history i)))) ∙ (let len = length-take n (bodies h) in omega arith);
    left = subst (λ b. IsLeft b None) (sym (calm h n)) tt;
  },
  refl,
)

pub crash_goes : (header : Header) (h : List Entry) (n : ℕ) (s : State) → n ≤ length (bodies h) → Shows h n s → Goes header s (Crash false ∷ []) (Rests (map unnumbered (take n (bodies h))) n)
crash_goes header h n s most shows = record {
  state = reopened s s.sealed;
  taken = refl;
  meets = reopened_shows h n s.sealed s shows.history_is shows.sealed_is most;
}

pub left_shows : (h : List Entry) (n upto : ℕ) (s : State) → is_down h ≡ true → Shows h n s → Shows h n (left_open upto s)
left_shows h n upto s down shows = record {
  history_is = shows.history_is;
  sealed_is = shows.sealed_is;
  left = subst (λ b. IsLeft b (left_open upto s).sealing) (sym down) refl;
}

-- with the group that is left over, up to its end
pub kept_goes : (header : Header) (h : List Entry) (n upto : ℕ) (s : State) → upto ≤ length (bodies h) → Shows h n s → Goes header (left_open upto s) (Crash true ∷ []) (Rests (map unnumbered (take upto (bodies h))) upto)
kept_goes header h n upto s most shows = record {
  state = reopened (left_open upto s) upto;
  taken = refl;
  meets = reopened_shows h upto upto (left_open upto s) shows.history_is refl most;
}

-- and with any whose gate was to be opened
pub group_goes : (header : Header) (h : List Entry) (n : ℕ) (s : State) → may_be_kept s.sealing ≡ true → group_end s ≤ length (bodies h) → Shows h n s → Goes header s (Crash true ∷ []) (Rests (map unnumbered (take (group_end s) (bodies h))) (group_end s))
group_goes header h n s kept most shows = record {
  state = reopened s (group_end s);
  taken = one_step header s (reopened s (group_end s)) (Crash true) (ap (λ (b : Bool). option_map (reopened s) (if b then Some (group_end s) else None)) kept);
  meets = reopened_shows h (group_end s) (group_end s) s shows.history_is refl most;
}
