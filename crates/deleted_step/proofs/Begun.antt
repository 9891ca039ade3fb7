-- The first parent's root, and what is held for the next changeset.
use Rattle.std.proofs.Common.{◌≡◌, ◌⊎◌, inl, inr, ℕ, true, false, List, [], ◌∷◌, ◌++◌, length, refl, sym, ap, subst, ◌∙◌, arith}
use Rattle.std.specs.Prelude.{Contains, Option, Some, is_some, map, ◌==◌}
use mathlib.Core.Bool.{true≢false}
use Rattle.std.specs.Ordering.{nat_cmp}
use Rattle.std.specs.Cmp.Lexicographic.{slice_cmp}
use Rattle.std.specs.FinMap.{find as find_key}
use Rattle.std.specs.Map.{lookup}
use Rattle.std.specs.BTreeMap.{is_at}
use Rattle.std.proofs.lemmas.Bool.{ne_eqb}
use Rattle.sha2.specs.Sha256.{sha256}
use Rattle.byte_fields.specs.Bytes.{Id}
use Rattle.changeset_model.specs.Path.{Path, path_cmp}
use Rattle.history_model.specs.History.{Known}
use Rattle.history_model.specs.Past.{At, Begin, Past}
use Rattle.manifest_model.specs.Deleted.{deleted, deleted_at, has_deleted}
use Rattle.deleted_step.specs.declared.done.Done.{Done}
use Rattle.deleted_step.specs.declared.unfolded.Unfolded.{Unfolded}
use Rattle.deleted_step.specs.Opened.{IsOf}
use Rattle.deleted_step.specs.Unfolded.{IsUnfolded, entry_in, is_unfolded, link_after, link_in}
use Rattle.deleted_step.specs.Steps.{AreComeAndGone, AreHeld, AreHeldAt, IsDoneOf, IsHeld, IsLedTo, IsNew, IsStart, are_set, root_on}
use Rattle.deleted_step.proofs.SetLinks.{links_are, paths_set}
use Rattle.deleted_step.proofs.Unfolding.{held_at}

pub root_led : (contents : Id → Option (List ℕ)) (first : Past) (root : Option Id) → root ≡ root_on first → (ps : List Path) → AreHeldAt contents first ps → IsLedTo contents root (deleted first [])
root_led contents first root e ps held = subst (λ root. IsLedTo contents root (deleted first [])) (sym e) (by first held)
  where
    by : (first : Past) → AreHeldAt contents first ps → IsLedTo contents (root_on first) (deleted first [])
    by Begin held = refl
    by (At c one other) held = (refl, held [] refl refl)

pub root_alone : (first : Past) (u : Unfolded) → IsOf u.root (deleted first []) → u.places.entries ≡ [] → IsUnfolded first [] [] u
root_alone first u of none = record {
  root = ap (lookup (is_at (path_cmp []))) none;
  places = λ n d. far n d;
  links = λ d h. link d h;
  entries = λ d h. entry d h;
}
  where
    far : (n : List ℕ) (d : Path) → is_unfolded u (n ∷ d) ≡ false
    far n d = ap (λ es. is_some (lookup (is_at (path_cmp (n ∷ d))) es)) none

    link : (d : Path) → is_unfolded u d ≡ true → link_in u d ≡ (deleted first d).link
    link [] h = of.link
    link (n ∷ d) h = absurd (true≢false (sym h ∙ far n d))

    entry : (d : Path) → is_unfolded u d ≡ true → (n : List ℕ) → entry_in u d n ≡ find_key (slice_cmp nat_cmp) n (deleted first d).entries
    entry [] h = of.entries
    entry (n ∷ d) h = absurd (true≢false (sym h ∙ far n d))

-- ---- the step

pub start_of : (c : Known) (first second : Past) (x : Id) (gone come : List Path) (u : Unfolded) → x ≡ c.id → AreComeAndGone c first second gone come → IsUnfolded first (are_set x gone come) [] u → IsStart first (At c first second) (are_set x gone come) u
start_of c first second x gone come u e files unfolded = record {
  unfolded = unfolded;
  links = λ d. links_are c first second gone come files d ∙ ap (λ x. link_after (are_set x gone come) d (deleted_at first d)) (sym e);
}

pub done_by : (first now : Past) (x : Id) (gone come : List Path) (done : Done) → IsDoneOf first now (map (λ (l : Path × Option Id). l.0) (are_set x gone come)) done → IsDoneOf first now (gone ++ come) done
done_by first now x gone come done h = subst (λ ps. IsDoneOf first now ps done) (paths_set x gone come) h

-- ---- for the next

module _ (before after : Id → Option (List ℕ)) (c : Known) (first second : Past) (ps : List Path) (done : Done) (held : AreHeld before first) (of : IsDoneOf first (At c first second) ps done)
    (put : (n : List ℕ) → Contains done.nodes.items n → after (sha256 n) ≡ Some n) (kept : (x : Id) (n : List ℕ) → before x ≡ Some n → after x ≡ Some n) where
  abbrev now : Past
  now = At c first second

  of_new : (d : Path) → IsNew done.nodes.items (deleted now d) → IsHeld after (deleted now d)
  of_new d new = record { there = put _ new.here; rules = new.rules }

  deep : (n : List ℕ) (d : Path) → (length (n ∷ d) == 0) ≡ false
  deep n d = ne_eqb (length (n ∷ d)) 0 (λ e. absurd (omega (arith, e)))

  of_old : (n : List ℕ) (d : Path) → has_deleted first (n ∷ d) ≡ true → deleted now (n ∷ d) ≡ deleted first (n ∷ d) → IsHeld after (deleted now (n ∷ d))
  of_old n d there same =
      let was = held_at before first (n ∷ d) (deep n d) held there in
      subst (IsHeld after) (sym same) (record { there = kept _ _ was.there; rules = was.rules })

  by : (n : List ℕ) (d : Path) → IsNew done.nodes.items (deleted now (n ∷ d)) ⊎ ((has_deleted first (n ∷ d) ≡ true) × (deleted now (n ∷ d) ≡ deleted first (n ∷ d))) → IsHeld after (deleted now (n ∷ d))
  by n d (inl new) = of_new (n ∷ d) new
  by n d (inr old) = of_old n d old.0 old.1

  pub held_next : AreHeld after (At c first second)
  held_next [] there = of_new [] of.root_new
  held_next (n ∷ d) there = by n d (of.whole (n ∷ d) there)
