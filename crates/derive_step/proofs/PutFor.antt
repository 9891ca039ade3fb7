-- What is put to the nodes for a directory: the unodes of the files that a changeset sets in it, those of the files of which its parents have different ones, and its own nodes.
use Rattle.std.proofs.Common.{◌≡◌, ℕ, List, [], ◌∷◌, ◌++◌, map, inl, inr, refl, sym, ap, ◌∙◌, append_assoc, append-nil}
use Rattle.std.specs.Prelude.{Contains, Some}
use Rattle.std.specs.List.{AllByRecursion}
use Rattle.byte_fields.proofs.Lists.{all_both as all_append}
use Rattle.changeset_model.specs.Path.{Path}
use Rattle.manifest_model.specs.Unode.{UnodeEntry}
use Rattle.derive_step.specs.Walk.{Sides}
use Rattle.derive_step.specs.Join.{AreJoined}
use Rattle.derive_step.proofs.JoinedNodes.{all_joined, nothing_joined, one_joined, these}
use Rattle.derive_step.proofs.Members.{Has, has_contains, has_left, has_right, has_map, all_map}

-- the directory has the node fs and that of d, and sets are the files that are set in it. The names have own nodes where both parents' entries are left
module _ (bytes_at : Path → List ℕ) (sets : List Path) (fs : List ℕ) (d : Path) (own : List ℕ → UnodeEntry → UnodeEntry → List (List ℕ)) (left : List ℕ → Sides UnodeEntry) (old mid : List (List ℕ)) (files : AreJoined own left (old ++ map bytes_at sets) mid) where
  abbrev set_ones : List (List ℕ)
  set_ones = map bytes_at sets

  abbrev own_ones : List (List ℕ)
  own_ones = fs ∷ bytes_at d ∷ []

  abbrev joined_ones : List (List ℕ)
  joined_ones = these own left (old ++ map bytes_at sets) mid files

  abbrev pub all_put : List (List ℕ)
  all_put = set_ones ++ (joined_ones ++ own_ones)

  pub put_is : (new : List (List ℕ)) → new ≡ mid ++ own_ones → new ≡ old ++ all_put
  put_is new puts = puts ∙ ap (λ ns. ns ++ own_ones) files.nodes ∙ append_assoc (old ++ set_ones) joined_ones own_ones ∙ append_assoc old set_ones (joined_ones ++ own_ones)

  pub put_right : (P : List ℕ → Type 0) → AllByRecursion (λ p. P (bytes_at p)) sets → P fs → P (bytes_at d) → ((n : List ℕ) (a b : UnodeEntry) → (left n).0 ≡ Some a → (left n).1 ≡ Some b → AllByRecursion P (own n a b)) → AllByRecursion P all_put
  put_right P set_there fs_there dir_there each =
      all_append P set_ones (joined_ones ++ own_ones) (all_map P bytes_at sets set_there)
      (all_append P joined_ones own_ones (all_joined own left (old ++ map bytes_at sets) mid files P each) (fs_there, (dir_there, tt)))

  own_in : (x : List ℕ) → Has own_ones x → Contains all_put x
  own_in x h = has_contains all_put x (has_right set_ones (joined_ones ++ own_ones) x (has_right joined_ones own_ones x h))

  pub fs_in : Contains all_put fs
  fs_in = own_in fs (inl refl)

  pub dir_in : Contains all_put (bytes_at d)
  dir_in = own_in (bytes_at d) (inr (inl refl))

  pub set_in_put : (p : Path) → Has sets p → Contains all_put (bytes_at p)
  set_in_put p h = has_contains all_put (bytes_at p) (has_left set_ones (joined_ones ++ own_ones) (bytes_at p) (has_map bytes_at sets p h))

  pub joined_in_put : (n : List ℕ) (u v : UnodeEntry) (x : List ℕ) → (left n).0 ≡ Some u → (left n).1 ≡ Some v → Has (own n u v) x → Contains all_put x
  joined_in_put n u v x one two h = has_contains all_put x (has_right set_ones (joined_ones ++ own_ones) x (has_left joined_ones own_ones x (one_joined own left (old ++ map bytes_at sets) mid files n u v x one two h)))

  -- where no name is joined to anything new
  pub put_alone : ((n : List ℕ) (a b : UnodeEntry) → (left n).0 ≡ Some a → (left n).1 ≡ Some b → own n a b ≡ []) → all_put ≡ (set_ones ++ own_ones) ++ []
  put_alone none = ap (λ ns. set_ones ++ (ns ++ own_ones)) (nothing_joined own left (old ++ map bytes_at sets) mid files none) ∙ sym (append-nil (set_ones ++ own_ones))
