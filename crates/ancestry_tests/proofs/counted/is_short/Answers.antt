use Rattle.std.proofs.Common.{◌≡◌, ℕ, List, [], ◌∷◌, false, length, Option, Some, None, sym, ap, ◌∙◌, arith}
use Rattle.std.specs.Prelude.{is_some}
use Rattle.std.specs.Option.{option_map_or}
use Rattle.std.proofs.lemmas.Bool.{ltb-true}
use Rattle.ancestry.specs.Forest.{line}
use Rattle.ancestry.proofs.Following.{length-following}
use Rattle.ancestry_tests.proofs.counted.is_short.Goals as goal

-- a member without a parent is alone on its line
alone : (ps : List (Option ℕ)) (r : ℕ) (p : Option ℕ) → line ps r ≡ r ∷ option_map_or (line ps) p [] → is_some p ≡ false → length (line ps r) ≡ 1
alone ps r None opens none = ap length opens
alone ps r (Some q) opens none = absurd cc

pub returns : goal.returns
returns c = λ few.
    let ps = c.args.chain.now.parents in
    let one = alone ps c.args.root c.parent.result c.parent.ensures.line (sym c.is_some.ensures ∙ c.if-is_some.false) in
    let sum = length-following ps c.args.root c.args.x c.is_ancestor.ensures.earlier (sym c.is_ancestor.ensures.is_ancestor ∙ c.if-not-is_ancestor.false) in
    let less = ltb-true c.distance.result 8191 few in
    omega (arith, c.distance.ensures.distance)
