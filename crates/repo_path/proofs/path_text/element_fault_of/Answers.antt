use Rattle.std.proofs.Common.{◌≡◌, ◌<◌, ◌+◌, ◌-◌, true, false, take, drop, length, Some, None, sym, ap, ◌∙◌, arith}
use Rattle.std.specs.Prelude.{position, ◌==◌}
use Rattle.std.proofs.lemmas.List.{drop-drop, length-drop}
use Rattle.std.proofs.lemmas.List.Quantifiers.{position-Some}
use Rattle.changeset_model.specs.Path.{elements, element_fault, is_element}
use Rattle.repo_path.proofs.Faults.{take_rest, fault_at_front, fault_after_front, fault_of_only, no_fault_of_only}
use Rattle.repo_path.proofs.path_text.element_fault_of.Goals as goal

pub returns-then-not-is_element : goal.returns-then-not-is_element
returns-then-not-is_element c =
    let start = c.loop-len.start in
    let rest = drop start c.args.text.now in
    let n = c.in-Some.len in
    let found : position (λ b. b == 0x2F) rest ≡ Some n = ap (position (λ b. b == 0x2F)) (sym (take_rest c.args.text.now start)) ∙ sym c.first_slash.ensures ∙ c.in-Some.is in
    let same : n ≡ start + n - start = omega arith in
    let fails : is_element (take n rest) ≡ false = ap (λ k. is_element (take k rest)) same ∙ sym c.is_element.ensures ∙ c.if-not-is_element.true in
    sym (fault_at_front rest start n found fails) ∙ c.loop-len.invariant.1

pub loop-len-preserved : goal.loop-len-preserved
loop-len-preserved c =
    let text = c.args.text.now in
    let start = c.loop-len.start in
    let rest = drop start text in
    let n = c.in-Some.len in
    let found : position (λ b. b == 0x2F) rest ≡ Some n = ap (position (λ b. b == 0x2F)) (sym (take_rest text start)) ∙ sym c.first_slash.ensures ∙ c.in-Some.is in
    let less : n < length rest = (position-Some (λ b. b == 0x2F) rest n 0 found).0 in
    let same : n ≡ start + n - start = omega arith in
    let keeps : is_element (take n rest) ≡ true = ap (λ k. is_element (take k rest)) same ∙ sym c.is_element.ensures ∙ c.if-not-is_element.false in (
      omega (arith, length-drop start text),
      ap (λ r. element_fault (start + (n + 1)) (elements r)) (sym (drop-drop (n + 1) start text)) ∙ sym (fault_after_front rest start n found less keeps) ∙ c.loop-len.invariant.1,
    )

pub returns-then-is_element : goal.returns-then-is_element
returns-then-is_element c =
    let text = c.args.text.now in
    let start = c.loop-len.start in
    let found : position (λ b. b == 0x2F) (drop start text) ≡ None = ap (position (λ b. b == 0x2F)) (sym (take_rest text start)) ∙ sym c.first_slash.ensures ∙ c.in_default.is in
    sym (no_fault_of_only (drop start text) start found (ap is_element (sym (take_rest text start)) ∙ sym c.is_element-2.ensures ∙ c.if-is_element.true)) ∙ c.loop-len.invariant.1

pub returns-else-is_element : goal.returns-else-is_element
returns-else-is_element c =
    let text = c.args.text.now in
    let start = c.loop-len.start in
    let found : position (λ b. b == 0x2F) (drop start text) ≡ None = ap (position (λ b. b == 0x2F)) (sym (take_rest text start)) ∙ sym c.first_slash.ensures ∙ c.in_default.is in
    sym (fault_of_only (drop start text) start found (ap is_element (sym (take_rest text start)) ∙ sym c.is_element-2.ensures ∙ c.if-is_element.false)) ∙ c.loop-len.invariant.1
