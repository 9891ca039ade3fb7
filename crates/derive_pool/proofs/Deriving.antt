-- A deriver that goes on.
use Rattle.std.proofs.Common.{List, [], ◌∷◌, ◌++◌, refl, subst}
use Rattle.byte_fields.specs.Bytes.{Id}
use Rattle.derive_pool.specs.Pool.{DerivesAll}

pub derives_more : {S : Type 0} (derives : S → Id → S → Type 0) (before : S) (ids : List Id) (between : S) (id : Id) (after : S)
    → DerivesAll derives before ids between → derives between id after → DerivesAll derives before (ids ++ id ∷ []) after
derives_more {S} derives before [] between id after d one = (after, subst (λ (s : S). derives s id after) d one, refl)
derives_more derives before (x ∷ ids) between id after d one = (d.0, d.1, derives_more derives d.0 ids between id after d.2 one)
