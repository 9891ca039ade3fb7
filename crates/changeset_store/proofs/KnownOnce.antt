-- What is known of brought changesets, each id once, is known of all of them.
use Rattle.std.proofs.Common.{◌≡◌, Bool, true, false, cond, not, ◌||◌, List, [], ◌∷◌, refl, sym, ap, ◌∙◌}
use Rattle.std.specs.Prelude.{filter, bytes_eq}
use Rattle.std.proofs.lemmas.Slice.Eq.{bytes_eq-Decides}
use Rattle.byte_fields.specs.Bytes.{Id}
use Rattle.history_model.specs.History.{Known, each_id_once, is_known}

skip_by : (y : Id) (z : Known) (rest zs : List Known) (x : Id) → bytes_eq y x ≡ false → is_known rest x ≡ is_known zs x → (b : Bool) → bytes_eq y z.id ≡ b → is_known (cond (not b) (z ∷ rest) rest) x ≡ (bytes_eq z.id x || is_known zs x)
skip_by y z rest zs x apart ih true e =
    let other : bytes_eq z.id x ≡ false = ap (λ a. bytes_eq a x) (sym ((bytes_eq-Decides y z.id).0 e)) ∙ apart in
    ih ∙ ap (λ b. b || is_known zs x) (sym other)
skip_by y z rest zs x apart ih false e = ap (λ b. bytes_eq z.id x || b) ih

-- leaving out one id keeps the others
skip : (y : Id) (zs : List Known) (x : Id) → bytes_eq y x ≡ false → is_known (filter (λ later. not (bytes_eq y later.id)) zs) x ≡ is_known zs x
skip y [] x apart = refl
skip y (z ∷ zs) x apart = skip_by y z (filter (λ later. not (bytes_eq y later.id)) zs) zs x apart (skip y zs x apart) (bytes_eq y z.id) refl

once_by : (k : Known) (ks : List Known) (x : Id) → is_known (each_id_once ks) x ≡ is_known ks x → (b : Bool) → bytes_eq k.id x ≡ b → (b || is_known (filter (λ later. not (bytes_eq k.id later.id)) (each_id_once ks)) x) ≡ (b || is_known ks x)
once_by k ks x ih true e = refl
once_by k ks x ih false e = skip k.id (each_id_once ks) x e ∙ ih

pub is_known-once : (ks : List Known) (x : Id) → is_known (each_id_once ks) x ≡ is_known ks x
is_known-once [] x = refl
is_known-once (k ∷ ks) x = once_by k ks x (is_known-once ks x) (bytes_eq k.id x) refl
