-- The steps of a planned landing, by what comes of it.
use Rattle.std.proofs.Common.{◌≡◌, ℕ, true, List, [], ◌∷◌, ◌++◌, refl, sym, ap, subst, ◌∙◌}
use Rattle.std.specs.Prelude.{◌≢◌, ◌⊎◌, Some, Ok}
use mathlib.Core.Bool.{true≢false}
use mathlib.Core.Logic.{inl, inr}
use Rattle.byte_fields.specs.Bytes.{Id}
use Rattle.changeset_model.specs.Changeset.{Changeset}
use Rattle.history_model.specs.History.{Body, Entry, is_down}
use Rattle.history_model.specs.Bookmark.{head}
use Rattle.history_model.specs.Journal.{Header}
use Rattle.reply_model.specs.Reply.{LandDraft, Granted, Refusal, judge}
use Rattle.reply_model.specs.After.{Grants, Refuses, Asks, Replies, entries_of}
use Rattle.reply_model.proofs.Stored.{granted_is_up}
use Rattle.core_model.specs.Core.{State, Step, Exchange, is_as_planned}
use Rattle.landing_core.specs.Steps.{IsLeft, Shows, MayAsk, HasPlan, Goes}
use Rattle.landing_core.proofs.Asked.{unplanned, granted_by, answered}
use Rattle.landing_core.proofs.Planned.{planned_now, moved_on}

module _ (header : Header) (h : List Entry) (n who : ℕ) (caller name : List ℕ) (draft : Id) (moment : ℕ) (old : Id) (new_stack : List Changeset) (s : State) (shows : Shows h n s) (may : MayAsk s who (LandDraft caller name draft moment)) (planned : HasPlan s who name draft moment old new_stack) where
  left : IsLeft (is_down s.history) s.sealing
  left = subst (λ h. IsLeft (is_down h) s.sealing) (sym shows.history_is) shows.left

  start : Shows s.history s.sealed s
  start = record { history_is = refl; sealed_is = refl; left = left }

  there : head h name ≡ Some old → is_as_planned s.history (s.plan who) (LandDraft caller name draft moment) ≡ true
  there at = planned_now s.history s who caller name draft moment old new_stack planned (ap (λ h. head h name) shows.history_is ∙ at)

  -- its entry waits to be sealed
  pub landed_goes : (granted : Granted) (new : List Entry) → head h name ≡ Some old → Replies header h who (Asks (LandDraft caller name draft moment)) (Grants granted) new → Goes header s (Exchange who (LandDraft caller name draft moment) ∷ []) (Shows new n)
  landed_goes granted new at r =
      let here : Replies header s.history who (Asks (LandDraft caller name draft moment)) (Grants granted) new = subst (λ h. Replies header h who (Asks (LandDraft caller name draft moment)) (Grants granted) new) (sym shows.history_is) r in
      subst (λ n. Goes header s (Exchange who (LandDraft caller name draft moment) ∷ []) (Shows new n)) shows.sealed_is
      (granted_by header s s [] refl start who (LandDraft caller name draft moment) left may granted here.made.entry new (λ _ _ _. there at) here.answers.1
      (here.new_is ∙ (λ i. s.history ++ entries_of who (record { entry = here.made.entry; fault = here.answers.0 i }))))

  pub moved_goes : head h name ≢ Some old → Goes header s (Exchange who (LandDraft caller name draft moment) ∷ []) (Shows h n)
  moved_goes moved =
      subst (λ h. Goes header s (Exchange who (LandDraft caller name draft moment) ∷ []) (Shows h n)) shows.history_is
      (subst (λ n. Goes header s (Exchange who (LandDraft caller name draft moment) ∷ []) (Shows s.history n)) shows.sealed_is
      (unplanned header s s [] refl start who (LandDraft caller name draft moment) left may (moved_on s.history s who caller name draft moment old new_stack planned (λ at. moved (sym (ap (λ h. head h name) shows.history_is) ∙ at)))))

  planned_where : (is_down h ≡ true) ⊎ (head h name ≡ Some old) → (granted : Granted) (body : Body) → judge header s.history (LandDraft caller name draft moment) ≡ Ok (record { granted = granted; made = Some body }) → is_as_planned s.history (s.plan who) (LandDraft caller name draft moment) ≡ true
  planned_where (inl down) granted body is = absurd (true≢false (sym down ∙ ap is_down (sym shows.history_is) ∙ granted_is_up header s.history (LandDraft caller name draft moment) _ is))
  planned_where (inr at) granted body is = there at

  pub refused_goes : (refusal : Refusal) (new : List Entry) → (is_down h ≡ true) ⊎ (head h name ≡ Some old) → Replies header h who (Asks (LandDraft caller name draft moment)) (Refuses refusal) new → Goes header s (Exchange who (LandDraft caller name draft moment) ∷ []) (Shows new n)
  refused_goes refusal new why r =
      let here : Replies header s.history who (Asks (LandDraft caller name draft moment)) (Refuses refusal) new = subst (λ h. Replies header h who (Asks (LandDraft caller name draft moment)) (Refuses refusal) new) (sym shows.history_is) r in
      let goes = answered header s s [] refl start who (LandDraft caller name draft moment) left may (Refuses refusal) here.made new (λ e. absurd cc) (planned_where why) here.answers here.new_is in
      subst (λ n. Goes header s (Exchange who (LandDraft caller name draft moment) ∷ []) (Shows new n)) shows.sealed_is
      (subst (λ (steps : List Step). Goes header s steps (Shows new s.sealed)) goes.1 goes.2)
