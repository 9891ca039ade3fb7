-- Calls of a disk one after another.
use Rattle.std.proofs.Common.{◌≡◌, ℕ, List, sym, subst, arith}
use Rattle.std.specs.Prelude.{◌⊎◌}
use mathlib.Core.Logic.{inl, inr}
use Rattle.disk_model.specs.Images.{IsImage}
use Rattle.disk_model.specs.Meaning.{Meaning, LeftSince}
use Rattle.disk_model.specs.Calls.{Kept, LeavesOnly}

pub leaves_map : {P Q : List ℕ → Type 0} (a b : Meaning) → ((image : List ℕ) → P image → Q image) → LeavesOnly P a b → LeavesOnly Q a b
leaves_map {P} {Q} a b f p = record {
  since = λ t image early l. elim (p.since t image early l) as (λ _. LeftSince a t image ⊎ Q image) [ inl old ↦ inl old | inr new ↦ inr (f image new) ];
}

pub leaves_then : {P : List ℕ → Type 0} (a b c : Meaning) → Kept a b → LeavesOnly P a b → LeavesOnly P b c → LeavesOnly P a c
leaves_then {P} a b c kept p q = record {
  since = λ t image early l. (let later = kept.later in elim (q.since t image (omega arith) l) as (λ _. LeftSince a t image ⊎ P image) [ inl old ↦ p.since t image early old | inr new ↦ inr new ]);
}

pub leaves_nothing : {P : List ℕ → Type 0} (a : Meaning) → LeavesOnly P a a
leaves_nothing a = record { since = λ t image early l. inl l }

pub leaves_same : (a b : Meaning) → b ≡ a → LeavesOnly (IsImage b.state) a b
leaves_same a b same = subst (λ (d : Meaning). LeavesOnly (IsImage d.state) a d) (sym same) (leaves_nothing a)
