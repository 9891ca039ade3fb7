-- Where one entry waits at most, a crash leaves what is sealed or the whole history.
use Rattle.std.proofs.Common.{◌≡◌, ℕ, ◌≤◌, List, length, subst, arith, inl, inr}
use Rattle.std.specs.Prelude.{◌⊎◌}
use Rattle.std.proofs.lemmas.Bool.{cases_lt}
use Rattle.disk_model.specs.Meaning.{Meaning}
use Rattle.history_model.specs.History.{Entry, bodies}
use Rattle.history_model.specs.Journal.{Header}
use Rattle.bookmark_lock.specs.Opening.{Opening}
use Rattle.repo_state.specs.Images.{Leaves, StandsFor, StandsNow, StandsSince}
use Rattle.repo_state.specs.State.{IsSound, IsSealedAlone}
use Rattle.repo_state.proofs.Chains.{leaves_map}

-- of another end, where there is no group or it ends there
pub leaves_wider : (header : Header) (k moment : ℕ) (h : List Entry) (n reach upto : ℕ) (first m : Meaning) → (reach ≡ n) ⊎ (reach ≡ upto) → k ≤ n → Leaves header k moment h n reach first m → Leaves header k moment h n upto first m
leaves_wider header k moment h n reach upto first m end least old = record {
  now = λ image is. now image end (old.now image is);
  since = λ image left. since image end (old.since image left);
  only = leaves_map first m (λ image stands. since image end stands) old.only;
}
  where
    now : (image : List ℕ) → (reach ≡ n) ⊎ (reach ≡ upto) → StandsNow header h n reach image → StandsNow header h n upto image
    now image end (inl stands) = inl stands
    now image (inl none) (inr stands) = inl (subst (λ i. StandsFor header h i image) none stands)
    now image (inr here) (inr stands) = inr (subst (λ i. StandsFor header h i image) here stands)

    since : (image : List ℕ) → (reach ≡ n) ⊎ (reach ≡ upto) → StandsSince header k h n reach image → StandsSince header k h n upto image
    since image end (inl f) = inl f
    since image (inl none) (inr stands) = inl (n, least, omega arith, subst (λ i. StandsFor header h i image) none stands)
    since image (inr here) (inr stands) = inr (subst (λ i. StandsFor header h i image) here stands)

pub sound_wider : (opening : Opening) (h : List Entry) (n reach upto : ℕ) (m : Meaning) → (reach ≡ n) ⊎ (reach ≡ upto) → n ≤ upto → upto ≤ length (bodies h) → IsSound opening h n reach m → IsSound opening h n upto m
sound_wider opening h n reach upto m end reaches within sound = record {
  legal = sound.legal;
  begins = sound.begins;
  reaches = reaches;
  within = within;
  calm = sound.calm;
  honest = sound.honest;
  quiet = sound.quiet;
  begun = sound.begun;
  kept = sound.kept;
  covers = sound.covers;
  most = sound.most;
  leaves = λ honest. leaves_wider opening.header opening.length opening.moment h n reach upto opening.disk m end sound.begins (sound.leaves honest);
}

-- as of a repository that is served alone
pub sound_alone : (opening : Opening) (h : List Entry) (n reach : ℕ) (m : Meaning) → IsSealedAlone h n → IsSound opening h n reach m → IsSound opening h n (length (bodies h)) m
sound_alone opening h n reach m all sound =
    let least = sound.reaches in
    let most = sound.within in
    let few = all.1 in
    sound_wider opening h n reach (length (bodies h)) m end (omega arith) (omega arith) sound
  where
    end : (reach ≡ n) ⊎ (reach ≡ length (bodies h))
    end =
        let least = sound.reaches in
        let most = sound.within in
        let few = all.1 in
        elim (cases_lt n reach) as (λ _. (reach ≡ n) ⊎ (reach ≡ length (bodies h))) [ inl more ↦ inr (omega arith) | inr less ↦ inl (omega arith) ]
