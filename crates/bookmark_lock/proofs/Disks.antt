-- What every call of a disk keeps is kept by none and by two.
use Rattle.std.proofs.Common.{refl, ◌∙◌, arith}
use Rattle.disk_model.specs.Meaning.{Meaning}
use Rattle.disk_model.specs.Calls.{Kept}

pub kept_none : (m : Meaning) → Kept m m
kept_none m = record {
  honest = refl;
  quiet = refl;
  no_shorter = λ n long. long;
  later = omega arith;
  told = refl;
  remembers = λ t image left. left;
}

pub kept_then : (a b c : Meaning) → Kept a b → Kept b c → Kept a c
kept_then a b c first next = record {
  honest = next.honest ∙ first.honest;
  quiet = next.quiet ∙ first.quiet;
  no_shorter = λ n long. next.no_shorter n (first.no_shorter n long);
  later = (let p = first.later in let q = next.later in omega arith);
  told = next.told ∙ first.told;
  remembers = λ t image left. next.remembers t image (first.remembers t image left);
}
