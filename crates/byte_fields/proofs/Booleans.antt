-- Facts about truth values and options that several crates rest on.
use Rattle.std.proofs.Common.{◌≡◌, Bool, true, false, cond, ◌&&◌, ◌||◌, refl, ap}
use Rattle.std.specs.Prelude.{Option, None, Some, Result, Ok, Err, not, is_some, option_map, unwrap_or}
use Rattle.std.specs.Result.{result_ok}

pub or_false : (b : Bool) → (b || false) ≡ b
or_false true = refl
or_false false = refl

pub or_true : (b : Bool) → (b || true) ≡ true
or_true true = refl
or_true false = refl

pub neither : (a b : Bool) → (a || b) ≡ false → (a ≡ false) × (b ≡ false)
neither true b e = absurd cc
neither false b e = (refl, e)

pub either_false : (a b : Bool) → a ≡ false → b ≡ false → (a || b) ≡ false
either_false true b p q = absurd cc
either_false false b p q = q

pub not_false : (b : Bool) → not b ≡ false → b ≡ true
not_false true e = refl
not_false false e = absurd cc

pub or_turned : (b c : Bool) → (b || (c || false)) ≡ (c || b)
or_turned true true = refl
or_turned true false = refl
or_turned false true = refl
or_turned false false = refl

pub and_false : (b : Bool) → (b && false) ≡ false
and_false true = refl
and_false false = refl

pub and_true : (b : Bool) → (b && true) ≡ b
and_true true = refl
and_true false = refl

pub same_some : {X : Type 0} (x y : X) → ◌≡◌ {A = Option X} (Some x) (Some y) → x ≡ y
same_some x y e = ap (λ o. unwrap_or o x) e

pub ok_some : {X E : Type 0} (r : Result X E) (x : X) → result_ok r ≡ Some x → r ≡ Ok x
ok_some (Ok y) x e = ap (λ o. Ok (unwrap_or o y)) e
ok_some (Err e) x h = absurd cc

pub unmapped : {X Y : Type 0} (f : X → Y) (o : Option X) → option_map f o ≡ None → o ≡ None
unmapped f None e = refl
unmapped f (Some x) e = absurd cc

pub is_some_cond : {X : Type 0} (b : Bool) (x : X) (rest : Option X) → is_some (cond b (Some x) rest) ≡ (b || is_some rest)
is_some_cond true x rest = refl
is_some_cond false x rest = refl
