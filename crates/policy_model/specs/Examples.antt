-- Two small policies and their rules.
use Rattle.std.specs.Prelude.{ℕ, true, false, List, [], ◌∷◌, None, Some, codes}
use Rattle.policy_model.specs.Rules.{Rule}

abbrev pub lib_policy : List ℕ
lib_policy = codes "allow ann lib\ndeny * lib\nallow * /\n"

abbrev pub lib_rules : List Rule
lib_rules =
    record { allows = true; name = Some (codes "ann"); elements = codes "lib" ∷ [] }
    ∷ record { allows = false; name = None; elements = codes "lib" ∷ [] }
    ∷ record { allows = true; name = None; elements = [] } ∷ []

abbrev pub ann_policy : List ℕ
ann_policy = codes "allow ann /\n"

abbrev pub ann_rules : List Rule
ann_rules = record { allows = true; name = Some (codes "ann"); elements = [] } ∷ []
