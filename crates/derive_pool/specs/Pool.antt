-- What a deriver does with ids.
--     DerivesAll derives before ids after      it derives for these ids, one after another
use Rattle.std.specs.Prelude.{◌≡◌, List, [], ◌∷◌}
use Rattle.byte_fields.specs.Bytes.{Id}

-- derives: what one call does
abbrev pub DerivesAll : {S : Type 0} → (S → Id → S → Type 0) → S → List Id → S → Type 0
DerivesAll derives before [] after = after ≡ before
DerivesAll {S} derives before (id ∷ ids) after = (next : S) × derives before id next × DerivesAll derives next ids after
