-- What is placed, taken back, found and removed, one path after another.
--     placed_in f ns p o      what is at a path where o was, once these files are placed
use Rattle.std.proofs.Common.{◌≡◌, ℕ, Bool, true, false, cond, ◌&&◌, ◌||◌, Option, Some, None, List, [], ◌∷◌, drop, suc, zero, refl, sym, ap, ◌∙◌}
use Rattle.std.specs.Prelude.{is_some, is_none}
use Rattle.std.specs.List.{list_any}
use Rattle.changeset_model.specs.Path.{Path, path_eq}
use Rattle.std.specs.Borrow.{Bor}
use Rattle.tree_fold.specs.declared.file.File.{File}
use Rattle.byte_fields.proofs.Booleans.{neither as either_false}

abbrev pub is_placed : Path → List (Bor Path) → Bool
is_placed p ns = list_any (λ n. path_eq n.now p) ns

abbrev pub placed_in : File → List (Bor Path) → Path → Option File → Option File
placed_in f [] p o = o
placed_in f (n ∷ ns) p o = placed_in f ns p (cond (path_eq n.now p) (Some f) o)

pub placed_in-none : (f : File) (ns : List (Bor Path)) (p : Path) (o : Option File) → is_placed p ns ≡ false → placed_in f ns p o ≡ o
placed_in-none f [] p o h = refl
placed_in-none f (n ∷ ns) p o h =
    let no = either_false (path_eq n.now p) (is_placed p ns) h in
    ap (λ b. placed_in f ns p (cond b (Some f) o)) no.0 ∙ placed_in-none f ns p o no.1

stays : (f : File) (ns : List (Bor Path)) (p : Path) (o : Option File) → is_some o ≡ true → is_some (placed_in f ns p o) ≡ true
stays f [] p o h = h
stays f (n ∷ ns) p o h = stays f ns p (cond (path_eq n.now p) (Some f) o) (by (path_eq n.now p))
  where
    by : (b : Bool) → is_some (cond b (Some f) o) ≡ true
    by true = refl
    by false = h

some_by : (f : File) (n : Bor Path) (ns : List (Bor Path)) (p : Path) (o : Option File) → (is_placed p ns ≡ true → is_some (placed_in f ns p o) ≡ true) → (b : Bool) → (b || is_placed p ns) ≡ true → is_some (placed_in f ns p (cond b (Some f) o)) ≡ true
some_by f n ns p o later true h = stays f ns p (Some f) refl
some_by f n ns p o later false h = later h

pub placed_in-some : (f : File) (ns : List (Bor Path)) (p : Path) (o : Option File) → is_placed p ns ≡ true → is_some (placed_in f ns p o) ≡ true
placed_in-some f [] p o h = absurd (cc)
placed_in-some f (n ∷ ns) p o h = some_by f n ns p o (placed_in-some f ns p o) (path_eq n.now p) h

pub is_placed-drop : (i : ℕ) (ns : List (Bor Path)) (p : Path) → is_placed p ns ≡ false → is_placed p (drop i ns) ≡ false
is_placed-drop zero ns p h = h
is_placed-drop (suc i) [] p h = h
is_placed-drop (suc i) (n ∷ ns) p h = is_placed-drop i ns p (either_false (path_eq n.now p) (is_placed p ns) h).1

taken_by : (b r : Bool) (o : Option File) → cond r None (cond b None o) ≡ cond (b || r) None o
taken_by true true o = refl
taken_by true false o = refl
taken_by false r o = refl

pub taken-more : (n : Bor Path) (later left : List (Bor Path)) (p : Path) (o new old : Option File) → left ≡ n ∷ later → new ≡ cond (path_eq n.now p) None o → cond (is_placed p left) None o ≡ old → cond (is_placed p later) None new ≡ old
taken-more n later left p o new old is taken before =
    ap (cond (is_placed p later) None) taken ∙ taken_by (path_eq n.now p) (is_placed p later) o
    ∙ ap (λ ns. cond (is_placed p ns) None o) (sym is) ∙ before

none_there : (a : Bool) (o : Option File) → (a && is_none o) ≡ true → o ≡ None
none_there true None h = refl
none_there true (Some x) h = absurd (cc)
none_there false o h = absurd (cc)

-- what was placed where nothing was, and taken back, leaves nothing behind
pub back_again : (ns : List (Bor Path)) (p : Path) (sets : Bool) (old mid new : Option File) → is_placed p ns ≡ (sets && is_none old) → (is_placed p ns ≡ false → mid ≡ old) → new ≡ cond (is_placed p ns) None mid → new ≡ old
back_again ns p sets old mid new absent kept taken = by (is_placed p ns) refl
  where
    by : (b : Bool) → is_placed p ns ≡ b → new ≡ old
    by true e = taken ∙ ap (λ b. cond b None mid) e ∙ sym (none_there sets old (sym absent ∙ e))
    by false e = taken ∙ ap (λ b. cond b None mid) e ∙ kept e
