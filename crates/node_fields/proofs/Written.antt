-- What parts written one after the other make.
use Rattle.std.proofs.Common.{◌≡◌, List, ◌++◌, append_assoc, ap, ◌∙◌}

pub two_parts : {X : Type 0} (a b c x y : List X) → b ≡ a ++ x → c ≡ b ++ y → c ≡ a ++ (x ++ y)
two_parts {X = X} a b c x y p q = q ∙ ap (λ (t : List X). t ++ y) p ∙ append_assoc a x y

pub three_parts : {X : Type 0} (a b c d x y z : List X) → b ≡ a ++ x → c ≡ b ++ y → d ≡ c ++ z → d ≡ a ++ (x ++ (y ++ z))
three_parts a b c d x y z p q r = two_parts a b d x (y ++ z) p (two_parts b c d y z q r)

pub four_parts : {X : Type 0} (a b c d e x y z u : List X) → b ≡ a ++ x → c ≡ b ++ y → d ≡ c ++ z → e ≡ d ++ u → e ≡ a ++ (x ++ (y ++ (z ++ u)))
four_parts a b c d e x y z u p q r s = two_parts a b e x (y ++ (z ++ u)) p (three_parts b c d e y z u q r s)
