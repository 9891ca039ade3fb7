use Rattle.std.proofs.Common.{◌≡◌, ◌⊎◌, inl, inr, ap, sym, ◌∙◌}
use Rattle.run_gen.specs.Outcomes.{fault_of}
use Rattle.run_gen.specs.declared.fault.LoadFault.{LoadFault}
use Rattle.run_gen.proofs.asking.fault_of.Goals as goal
use Rattle.run_gen.proofs.asking.fault_of.Goals.{in-Memory, in-Down}

or_else : {A B : Type 0} {x y : LoadFault} → (A → x ≡ y) → (B → x ≡ y) → A ⊎ B → x ≡ y
or_else f g (inl a) = f a
or_else f g (inr b) = g b

pub returns : goal.returns
returns c = elim c.match-refusal.branch [
  | in-Memory w ↦ w.result-is ∙ ap fault_of (sym w.in-Memory.is)
  | in-Down w ↦ w.result-is ∙ (or_else (λ e. ap fault_of (sym e))
      (or_else (λ e. ap fault_of (sym e.1))
      (or_else (λ e. ap fault_of (sym e.1))
      (or_else (λ e. ap fault_of (sym e.2))
      (or_else (λ e. ap fault_of (sym e.1))
      (or_else (λ e. ap fault_of (sym e))
      (or_else (λ e. ap fault_of (sym e.1))
      (or_else (λ e. ap fault_of (sym e.1))
      (or_else (λ e. ap fault_of (sym e.1))
      (or_else (λ e. ap fault_of (sym e.2))
      (or_else (λ e. ap fault_of (sym e.3))
      (or_else (λ e. ap fault_of (sym e.1))
      (or_else (λ e. ap fault_of (sym e.1))
      (or_else (λ e. ap fault_of (sym e.1))
      (or_else (λ e. ap fault_of (sym e.1))
      (or_else (λ e. ap fault_of (sym e))
      (or_else (λ e. ap fault_of (sym e))
      (or_else (λ e. ap fault_of (sym e.1))
      (or_else (λ e. ap fault_of (sym e))
      (or_else (λ e. ap fault_of (sym e.1))
      (or_else (λ e. ap fault_of (sym e.1))
      (or_else (λ e. ap fault_of (sym e.1))
      (or_else (λ e. ap fault_of (sym e.2))
      (or_else (λ e. ap fault_of (sym e.2))
      (or_else (λ e. ap fault_of (sym e.1))
      (or_else (λ e. ap fault_of (sym e.1))
      (λ e. ap fault_of (sym e.2)))))))))))))))))))))))))))) w.in-Down.is
]
