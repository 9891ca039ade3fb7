-- What is read, by what is left to read.
use Rattle.std.proofs.Common.{◌≡◌, ℕ, zero, suc, ◌+◌, ◌≤◌, Bool, true, false, cond, List, [], ◌∷◌, ◌++◌, length, refl, sym, ap, ◌∙◌, arith}
use Rattle.std.specs.Prelude.{filter_map, sum_by, bytes_eq}
use Rattle.std.specs.List.{AllByRecursion, list_any}
use Rattle.std.proofs.lemmas.List.Sums.{sum_by-cons, sum_by-append}
use Rattle.std.proofs.lemmas.List.{append-nil}
use Rattle.byte_fields.specs.Bytes.{Id}
use Rattle.changeset_model.specs.Path.{Path}
use Rattle.changeset_model.specs.Changeset.{Changeset}
use Rattle.manifest_model.specs.Fsnode.{FsEntry, FsFile, FsDir}
use Rattle.manifest_laws.specs.Changes.{is_covered}
use Rattle.merge_walk.specs.Walk.{Listing}
use Rattle.merge_walk.specs.Meeting.{Meeting, met, opened}
use Rattle.merge_walk.specs.Left.{is_left_file, dir_in}
use Rattle.merge_walk.specs.Cost.{room, cleared_here, cleared, judging, opening, reads_at, reads}
use Rattle.merge_walk.proofs.Weights.{IsIn, dirs_in_room, met_in_room}

-- ---- sums

same_sum : {X : Type 0} (f g : X → ℕ) (xs : List X) → AllByRecursion (λ x. f x ≡ g x) xs → sum_by f xs ≡ sum_by g xs
same_sum f g [] all = refl
same_sum f g (x ∷ xs) all = sum_by-cons f x xs ∙ (λ i. all.0 i + same_sum f g xs all.1 i) ∙ sym (sum_by-cons g x xs)

all_deep : {X : Type 0} (at : X → Path) (f : ℕ → X → ℕ) (d : Path) (k : ℕ) (xs : List X) → room d ≡ suc k → AllByRecursion (λ x. IsIn d (at x)) xs → AllByRecursion (λ x. f (room (at x)) x ≡ f k x) xs
all_deep at f d k [] deep all = tt
all_deep at f d k (x ∷ xs) deep all =
    let longer : length (at x) ≡ length d + 1 = all.0.0 in
    let less : room (at x) ≡ k = omega arith in
    (ap (λ n. f n x) less, all_deep at f d k xs deep all.1)

deep_sum : {X : Type 0} (at : X → Path) (f : ℕ → X → ℕ) (d : Path) (k : ℕ) (xs : List X) → room d ≡ suc k → AllByRecursion (λ x. IsIn d (at x)) xs → sum_by (λ x. f (room (at x)) x) xs ≡ sum_by (λ x. f k x) xs
deep_sum at f d k xs deep all = same_sum (λ x. f (room (at x)) x) (λ x. f k x) xs (all_deep at f d k xs deep all)

no_sum : {X : Type 0} (at : X → Path) (f : X → ℕ) (d : Path) (xs : List X) → room d ≡ 0 → AllByRecursion (λ x. IsIn d (at x)) xs → sum_by f xs ≡ 0
no_sum at f d [] deep all = refl
no_sum at f d (x ∷ xs) deep all =
    let longer : length (at x) ≡ length d + 1 = all.0.0 in
    let short : length (at x) ≤ 4096 = all.0.1 in
    absurd (omega arith)

-- ---- a directory against a file

abbrev pub due_dirs : Listing → Changeset → List (Path × Id) → ℕ
due_dirs listed c ts = sum_by (λ t. cleared listed c (room t.0) t.0 t.1) ts

pub cleared_is : (listed : Listing) (c : Changeset) (d : Path) (x : Id) → cleared listed c (room d) d x ≡ cleared_here listed c d x + due_dirs listed c (filter_map (dir_in d) (listed x))
unfolding cleared
cleared_is listed c d x = by (room d) refl
  where
    by : (n : ℕ) → room d ≡ n → cleared listed c n d x ≡ cleared_here listed c d x + due_dirs listed c (filter_map (dir_in d) (listed x))
    by zero e = let none = no_sum (λ t. t.0) (λ t. cleared listed c (room t.0) t.0 t.1) d (filter_map (dir_in d) (listed x)) e (dirs_in_room d (listed x)) in omega arith
    by (suc k) e = ap (λ n. cleared_here listed c d x + n) (sym (deep_sum (λ t. t.0) (λ n t. cleared listed c n t.0 t.1) d k (filter_map (dir_in d) (listed x)) e (dirs_in_room d (listed x))))

here_by : (listed : Listing) (c : Changeset) (d : Path) (x : Id) (b : Bool) → list_any (is_left_file c d) (listed x) ≡ b → cleared_here listed c d x ≡ cond b 0 1
here_by listed c d x b e = ap (λ b. cond b 0 1) e

module _ (listed : Listing) (c : Changeset) (rest left : List (Path × Id)) (here : Path × Id) (es : List (List ℕ × FsEntry)) (popped : rest ≡ left ++ here ∷ []) (read : es ≡ listed here.1) where
  due_before : due_dirs listed c rest ≡ due_dirs listed c left + cleared listed c (room here.0) here.0 here.1
  due_before = ap (due_dirs listed c) popped ∙ sum_by-append (λ t. cleared listed c (room t.0) t.0 t.1) left (here ∷ []) ∙ ap (λ n. due_dirs listed c left + n) (sum_by-cons (λ (t : Path × Id). cleared listed c (room t.0) t.0 t.1) here [] ∙ add_zero (cleared listed c (room here.0) here.0 here.1))
    where
      add_zero : (n : ℕ) → n + 0 ≡ n
      add_zero n = omega arith

  -- one directory less is left to read
  pub due_falls : (after : List (Path × Id)) → list_any (is_left_file c here.0) es ≡ false → after ≡ left ++ filter_map (dir_in here.0) es → due_dirs listed c after + 1 ≡ due_dirs listed c rest
  due_falls after none e =
      let now : due_dirs listed c after ≡ due_dirs listed c left + due_dirs listed c (filter_map (dir_in here.0) (listed here.1)) =
      ap (due_dirs listed c) (e ∙ ap (λ es. left ++ filter_map (dir_in here.0) es) read) ∙ sum_by-append (λ t. cleared listed c (room t.0) t.0 t.1) left (filter_map (dir_in here.0) (listed here.1)) in
      let one = here_by listed c here.0 here.1 false (ap (list_any (is_left_file c here.0)) (sym read) ∙ none) in
      sums (due_dirs listed c after) (due_dirs listed c left) (due_dirs listed c (filter_map (dir_in here.0) (listed here.1))) (due_dirs listed c rest) (cleared listed c (room here.0) here.0 here.1) (cleared_here listed c here.0 here.1) now due_before (cleared_is listed c here.0 here.1) one
    where
      sums : (a l n r w h : ℕ) → a ≡ l + n → r ≡ l + w → w ≡ h + n → h ≡ 1 → a + 1 ≡ r
      sums a l n r w h p q s t = omega arith

pub due_begins : (listed : Listing) (c : Changeset) (d : Path) (x : Id) (rest : List (Path × Id)) → rest ≡ (d, x) ∷ [] → due_dirs listed c rest ≡ cleared listed c (room d) d x
due_begins listed c d x rest e = ap (due_dirs listed c) e ∙ sum_by-cons (λ (t : Path × Id). cleared listed c (room t.0) t.0 t.1) (d, x) [] ∙ add_zero (cleared listed c (room d) d x)
  where
    add_zero : (n : ℕ) → n + 0 ≡ n
    add_zero n = omega arith

-- ---- meetings

abbrev pub due : Listing → Changeset → List Meeting → ℕ
due listed c ms = sum_by (λ m. reads_at listed c (room m.0) m.0 m.1.0 m.1.1) ms

opened_in_room : (listed : Listing) (c : Changeset) (d : Path) (e g : FsEntry) → AllByRecursion (λ m. IsIn d m.0) (opened listed c d e g)
opened_in_room listed c d (FsFile f) (FsFile g) = tt
opened_in_room listed c d (FsFile f) (FsDir y t) = tt
opened_in_room listed c d (FsDir x s) (FsFile g) = tt
opened_in_room listed c d (FsDir x s) (FsDir y t) = by (is_covered c d)
  where
    by : (b : Bool) → AllByRecursion (λ m. IsIn d m.0) (cond b [] (met d (listed x) (listed y)))
    by true = tt
    by false = met_in_room d (listed x) (listed y)

reads_at_is : (listed : Listing) (c : Changeset) (d : Path) (e g : FsEntry) → reads_at listed c (room d) d e g ≡ judging listed c (room d) d e g + opening c d e g + due listed c (opened listed c d e g)
unfolding reads_at
reads_at_is listed c d e g = by (room d) refl
  where
    by : (n : ℕ) → room d ≡ n → reads_at listed c n d e g ≡ judging listed c n d e g + opening c d e g + due listed c (opened listed c d e g)
    by zero h = let none = no_sum (λ m. m.0) (λ m. reads_at listed c (room m.0) m.0 m.1.0 m.1.1) d (opened listed c d e g) h (opened_in_room listed c d e g) in omega arith
    by (suc k) h = ap (λ n. judging listed c (suc k) d e g + opening c d e g + n) (sym (deep_sum (λ m. m.0) (λ n m. reads_at listed c n m.0 m.1.0 m.1.1) d k (opened listed c d e g) h (opened_in_room listed c d e g)))

-- what is left to read where the first meeting is taken: what it needs itself, and what is laid in its place
pub due_first : (listed : Listing) (c : Changeset) (m : Meeting) (before ms after : List Meeting) → before ≡ m ∷ ms → after ≡ opened listed c m.0 m.1.0 m.1.1 ++ ms → due listed c before ≡ judging listed c (room m.0) m.0 m.1.0 m.1.1 + opening c m.0 m.1.0 m.1.1 + due listed c after
due_first listed c m before ms after popped laid =
    let was = ap (due listed c) popped ∙ sum_by-cons (λ (m : Meeting). reads_at listed c (room m.0) m.0 m.1.0 m.1.1) m ms in
    let now = ap (due listed c) laid ∙ sum_by-append (λ (m : Meeting). reads_at listed c (room m.0) m.0 m.1.0 m.1.1) (opened listed c m.0 m.1.0 m.1.1) ms in
    sums (due listed c before) (reads_at listed c (room m.0) m.0 m.1.0 m.1.1) (due listed c ms) (due listed c after) (due listed c (opened listed c m.0 m.1.0 m.1.1)) (judging listed c (room m.0) m.0 m.1.0 m.1.1) (opening c m.0 m.1.0 m.1.1) was now (reads_at_is listed c m.0 m.1.0 m.1.1)
  where
    sums : (b w l a n j o : ℕ) → b ≡ w + l → a ≡ n + l → w ≡ j + o + n → b ≡ j + o + a
    sums b w l a n j o p q s = omega arith

pub due_own : (listed : Listing) (c : Changeset) (m : Meeting) (before ms : List Meeting) → before ≡ m ∷ ms → judging listed c (room m.0) m.0 m.1.0 m.1.1 + opening c m.0 m.1.0 m.1.1 ≤ due listed c before
due_own listed c m before ms popped = let all = due_first listed c m before ms (opened listed c m.0 m.1.0 m.1.1 ++ ms) popped refl in omega arith

-- of roots that differ
pub reads_is : (listed : Listing) (c : Changeset) (x y : Id) (ms : List Meeting) → bytes_eq x y ≡ false → ms ≡ met [] (listed x) (listed y) ++ [] → reads listed c x y ≡ 2 + due listed c ms
reads_is listed c x y ms apart e =
    ap (λ b. cond b 0 (2 + due listed c (met [] (listed x) (listed y)))) apart ∙ ap (λ ms. 2 + due listed c ms) (sym (e ∙ append-nil (met [] (listed x) (listed y))))

pub reads_two : (listed : Listing) (c : Changeset) (x y : Id) → bytes_eq x y ≡ false → 2 ≤ reads listed c x y
reads_two listed c x y apart = let all = reads_is listed c x y (met [] (listed x) (listed y) ++ []) apart refl in omega arith
