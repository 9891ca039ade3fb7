-- For those who call a disk several times.
use Rattle.std.proofs.Common.{ℕ, List, refl, ◌∙◌, inl, inr, arith}
use Rattle.disk_model.specs.Meaning.{Meaning}
use Rattle.disk_model.specs.Calls.{Kept, LeavesOnly}

pub kept_none : (m : Meaning) → Kept m m
kept_none m = record {
  honest = refl;
  quiet = refl;
  no_shorter = λ n long. long;
  later = omega arith;
  told = refl;
  remembers = λ t image left. left;
}

pub kept_then : (a b c : Meaning) → Kept a b → Kept b c → Kept a c
kept_then a b c first next = record {
  honest = next.honest ∙ first.honest;
  quiet = next.quiet ∙ first.quiet;
  no_shorter = λ n long. next.no_shorter n (first.no_shorter n long);
  later = (let p = first.later in let q = next.later in omega arith);
  told = next.told ∙ first.told;
  remembers = λ t image left. next.remembers t image (first.remembers t image left);
}

pub leaves_then : (P : List ℕ → Type 0) (a b c : Meaning) → Kept a b → LeavesOnly P a b → LeavesOnly P b c → LeavesOnly P a c
leaves_then P a b c kept first next = record {
  since = λ t image early left. elim (next.since t image (let p = kept.later in omega arith) left) [
    | inl before ↦ first.since t image early before
    | inr now ↦ inr now
  ];
}

pub leaves_weaker : (P Q : List ℕ → Type 0) (a b : Meaning) → ((image : List ℕ) → P image → Q image) → LeavesOnly P a b → LeavesOnly Q a b
leaves_weaker P Q a b weaker only = record {
  since = λ t image early left. elim (only.since t image early left) [ inl before ↦ inl before | inr now ↦ inr (weaker image now) ];
}
