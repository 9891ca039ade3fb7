-- One member before another, on the way to an ancestor.
use Rattle.std.proofs.Common.{◌≡◌, ℕ, ◌<◌, true, List, [], ◌∷◌, ◌++◌, length, reverse, Option, Some, None, arith, refl, sym, ap, subst, ◌∙◌}
use Rattle.std.specs.Prelude.{IfSome, IfNone}
use Rattle.std.specs.Option.{option_map_or}
use Rattle.std.proofs.lemmas.List.{length-append, length-reverse}
use Rattle.ancestry.specs.Forest.{line, chain, AreEarlier, is_member, following}
use Rattle.ancestry.proofs.Lines.{reverse-cons, is_member-reverse, is_member-head, is_member-append_right}
use Rattle.ancestry.proofs.Nearest.{step_of}
use Rattle.ancestry.proofs.Following.{after_member, after_of}

-- q is the member before x, and comes after m too or is m
pub record IsPrevious (ps : List (Option ℕ)) (m x q : ℕ) : Type 0 where
  pub ancestor : is_member m (chain ps q) ≡ true
  pub newest : following m (chain ps x) ≡ following m (chain ps q) ++ x ∷ []

module _ (ps : List (Option ℕ)) (m x : ℕ) (e : AreEarlier ps) (known : m < length ps) where
  previous_by : (p : Option ℕ) (bs : List ℕ) → line ps x ≡ x ∷ option_map_or (line ps) p [] → line ps x ≡ bs ++ line ps m → following m (chain ps x) ≡ reverse bs → 0 < length bs → (q : ℕ) × (p ≡ Some q) × IsPrevious ps m x q
  previous_by p [] opens is after some = absurd (omega arith)
  previous_by None (b ∷ bs) opens is after some =
      let size = ap length (sym opens ∙ is) in
      let itself = ap length (step_of ps m e known).opens in
      let whole = length-append bs (line ps m) in
      absurd (omega arith)
  previous_by (Some q) (b ∷ bs) opens is after some =
      let both : x ∷ line ps q ≡ b ∷ (bs ++ line ps m) = sym opens ∙ is in
      let first : b ≡ x = cc in
      let rest : line ps q ≡ bs ++ line ps m = cc in (
        q,
        refl,
        record {
          ancestor = is_member-reverse m (line ps q) ∙ ap (is_member m) rest ∙ is_member-append_right m bs (line ps m) (ap (is_member m) (step_of ps m e known).opens ∙ is_member-head m _);
          newest = after ∙ reverse-cons b bs ∙ (λ i. sym (after_member ps m q e known bs rest) i ++ first i ∷ []);
        },
      )

-- the parent is the one before
pub previous_of : (ps : List (Option ℕ)) (m x : ℕ) (p : Option ℕ) → AreEarlier ps → is_member m (chain ps x) ≡ true → line ps x ≡ x ∷ option_map_or (line ps) p [] → 0 < length (following m (chain ps x)) → (q : ℕ) × (p ≡ Some q) × IsPrevious ps m x q
previous_of ps m x p e there opens some =
    let after = after_of ps m x e there in
    let size = ap length after.1.following_is ∙ length-reverse after.0 in
    previous_by ps m x e after.1.known p after.0 opens after.1.line_is after.1.following_is (omega arith)

module _ (ps : List (Option ℕ)) (m x : ℕ) (p : Option ℕ) (found : (q : ℕ) × (p ≡ Some q) × IsPrevious ps m x q) where
  pub is_some : IfNone p (following m (chain ps x) ≡ [])
  is_some = subst (λ p. IfNone p (following m (chain ps x) ≡ [])) (sym found.1) tt

  pub has_ancestor : IfSome p (λ q. is_member m (chain ps q) ≡ true)
  has_ancestor = subst (λ p. IfSome p (λ q. is_member m (chain ps q) ≡ true)) (sym found.1) found.2.ancestor

  pub has_newest : IfSome p (λ q. following m (chain ps x) ≡ following m (chain ps q) ++ x ∷ [])
  has_newest = subst (λ p. IfSome p (λ q. following m (chain ps x) ≡ following m (chain ps q) ++ x ∷ [])) (sym found.1) found.2.newest
