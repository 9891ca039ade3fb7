-- The oldest changeset with two parents, found from the newest on.
use Rattle.std.proofs.Common.{◌≡◌, ℕ, Bool, true, false, cond, List, [], ◌∷◌, ◌++◌, refl, sym, ap, ◌∙◌}
use Rattle.std.specs.Prelude.{Option, Some, None, option_map, find}
use Rattle.std.specs.Option.{option_or}
use Rattle.std.proofs.lemmas.List.Folds.{find-append}
use Rattle.byte_fields.specs.Bytes.{Id}
use Rattle.byte_fields.proofs.Lists.{option_or-None}
use Rattle.changeset_model.specs.Changeset.{Changeset, id_of}
use Rattle.history_model.specs.History.{Known}
use Rattle.reply_model.specs.Reply.{is_merge}
use Rattle.changeset_store.specs.Store.{changeset_at}
use Rattle.changeset_store.specs.Fork.{following_at}
use Rattle.changeset_store.specs.Merges.{IsBetween}

found_first : (p : Changeset → Bool) (cs : List Changeset) (c d : Changeset) (b : Bool) → find p (cs ++ c ∷ []) ≡ option_or (find p cs) (cond (p c) (Some c) None) → cond b (Some d) (find p (cs ++ c ∷ [])) ≡ option_or (cond b (Some d) (find p cs)) (cond (p c) (Some c) None)
found_first p cs c d true e = refl
found_first p cs c d false e = e

find_push : (p : Changeset → Bool) (cs : List Changeset) (c : Changeset) → find p (cs ++ c ∷ []) ≡ option_or (find p cs) (cond (p c) (Some c) None)
find_push p [] c = refl
find_push p (d ∷ cs) c = found_first p cs c d (p d) (find_push p cs c)

older : (o : Option Changeset) (c : Changeset) (b : Bool) (later : Option Id) → option_or (option_map id_of (option_or o (cond b (Some c) None))) later ≡ option_or (option_map id_of o) (cond b (Some (id_of c)) later)
older (Some d) c b later = refl
older None c true later = refl
older None c false later = refl

-- the oldest of some changesets, or else the later one that was found
abbrev pub oldest_or : List Changeset → Option Id → Option Id
oldest_or cs later = option_or (option_map id_of (find is_merge cs)) later

-- the newest among those that follow an ancestor is the last of what follows it up to there
pub same_before : (ks : List Known) (above m n : ℕ) → IsBetween ks above m n → find is_merge (following_at ks m n) ≡ None → find is_merge (following_at ks above n) ≡ find is_merge (following_at ks above m)
same_before ks above m n between none =
    ap (find is_merge) between.following ∙ find-append is_merge (following_at ks above m) (following_at ks m n)
    ∙ ap (option_or (find is_merge (following_at ks above m))) none ∙ option_or-None (find is_merge (following_at ks above m))

module _ (ks : List Known) (above last number : ℕ) (later : Option Id) (found : oldest_or (following_at ks above number) later ≡ oldest_or (following_at ks above last) None) where
  pub one_older : (merge earlier : ℕ) (c : Changeset) (now : Option Id) → find is_merge (following_at ks above number) ≡ find is_merge (following_at ks above merge) → is_merge (changeset_at ks merge) ≡ true
      → following_at ks above merge ≡ following_at ks above earlier ++ changeset_at ks merge ∷ [] → c ≡ changeset_at ks merge → now ≡ Some (id_of c)
      → oldest_or (following_at ks above earlier) now ≡ oldest_or (following_at ks above last) None
  one_older merge earlier c now same two newest is now_is =
      let cs = following_at ks above earlier in
      let d = changeset_at ks merge in
      ap (oldest_or cs) (now_is ∙ (λ i. cond (sym two i) (Some (id_of (is i))) later))
      ∙ sym (older (find is_merge cs) d (is_merge d) later)
      ∙ ap (λ o. option_or (option_map id_of o) later) (sym (same ∙ ap (find is_merge) newest ∙ find_push is_merge cs d))
      ∙ found

  -- where none follows
  pub no_older : find is_merge (following_at ks above number) ≡ None → later ≡ option_map id_of (find is_merge (following_at ks above last))
  no_older none = sym (ap (λ o. option_or (option_map id_of o) later) none) ∙ found ∙ option_or-None (option_map id_of (find is_merge (following_at ks above last)))
