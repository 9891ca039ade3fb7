-- Only what begins with the mark of a file's unode is read as one.
use Rattle.std.proofs.Common.{◌≡◌, ℕ, Bool, true, false, cond, List, [], ◌∷◌, length, Result, Ok, Err, refl, sym, subst, ◌∙◌, arith}
use mathlib.Core.Bool.{true≢false}
use Rattle.std.specs.Prelude.{Option, None, Some, ◌==◌, ◌&&◌, ◌||◌, bytes_eq, nat_le}
use Rattle.std.specs.Option.{option_map_or}
use Rattle.std.specs.Int.{w32}
use Rattle.std.proofs.lemmas.Bool.{eqb-true, eq-eqb, le-leb}
use Rattle.byte_fields.specs.Reading.{Reader, value, and_then, ◌>>=◌, exactly, number, any, id, whole}
use Rattle.manifest_model.specs.Unode.{Unode, Manifest}
use Rattle.manifest_model.specs.NodeReading.{entries, one_unode_entry, node_parents, manifest, file_unode, unode_of}
use Rattle.unode.specs.Views.{file_of, file_in}

abbrev file_read : Result (Unode × List ℕ) ℕ → Option Unode
file_read (Ok x) = file_of x.0
file_read (Err left) = None

never_file : {A : Type 0} (o : Result (A × List ℕ) ℕ) (f : A → Reader Unode) → ((x : A) (rest : List ℕ) → file_read (f x rest) ≡ None) → file_read (and_then o f) ≡ None
never_file (Ok x) f h = h x.0 x.1
never_file (Err left) f h = refl

never_manifest : (bytes : List ℕ) → file_read (manifest bytes) ≡ None
never_manifest bytes =
    never_file (node_parents bytes) (λ ps. id >>= λ link. number w32 any >>= λ count. entries one_unode_entry count None >>= λ es. value (Manifest ps link es)) (λ ps r1.
    never_file (id r1) (λ link. number w32 any >>= λ count. entries one_unode_entry count None >>= λ es. value (Manifest ps link es)) (λ link r2.
    never_file (number w32 any r2) (λ count. entries one_unode_entry count None >>= λ es. value (Manifest ps link es)) (λ count r3.
    never_file (entries one_unode_entry count None r3) (λ es. value (Manifest ps link es)) (λ es r4. refl))))

of_whole : (n : ℕ) (o : Result (Unode × List ℕ) ℕ) → file_read o ≡ None → file_in (whole n o) ≡ None
of_whole n (Ok (x, [])) h = h
of_whole n (Ok (x, b ∷ left)) h = refl
of_whole n (Err left) h = refl

mark_is : (n b : ℕ) (bs : List ℕ) (t : Bool) → (b == 0x55) ≡ t → t ≡ true → file_in (whole n (cond t manifest file_unode bs)) ≡ None
mark_is n b bs true e h = of_whole n (manifest bs) (never_manifest bs)
mark_is n b bs false e h = absurd (true≢false (sym h))

by_marks : (n len b : ℕ) (bs : List ℕ) (left : ℕ) (fits s t : Bool) → fits ≡ true → (b == 0x55) ≡ s → option_map_or {U = Result (List ℕ × List ℕ) ℕ} (λ x. Ok (x, bs)) (cond fits (cond t (Some (b ∷ [])) None) None) (Err len) ≡ Err left
    → file_in (whole n (and_then (option_map_or {U = Result (ℕ × List ℕ) ℕ} (λ x. Ok (x, bs)) (cond fits (cond (s || t) (Some b) None) None) (Err len)) (λ mark. cond (mark == 0x55) manifest file_unode))) ≡ None
by_marks n len b bs left false s t f is e = absurd (true≢false (sym f))
by_marks n len b bs left true true t f is e = mark_is n b bs (b == 0x55) refl is
by_marks n len b bs left true false true f is e = absurd cc
by_marks n len b bs left true false false f is e = refl

same_mark : (b : ℕ) → bytes_eq (0x56 ∷ []) (b ∷ []) ≡ (b == 0x56)
same_mark b = by (0x56 == b) (b == 0x56) refl refl
  where
    by : (s t : Bool) → (0x56 == b) ≡ s → (b == 0x56) ≡ t → (s && true) ≡ t
    by true true e f = refl
    by true false e f = sym (eq-eqb b 0x56 (sym (eqb-true 0x56 b e))) ∙ f
    by false true e f = sym e ∙ eq-eqb 0x56 b (sym (eqb-true b 0x56 f))
    by false false e f = refl

pub no_file : (bytes : List ℕ) (left : ℕ) → exactly (0x56 ∷ []) bytes ≡ Err left → file_in (unode_of bytes) ≡ None
no_file [] left e = refl
no_file (b ∷ bs) left e =
    let fits : Bool = nat_le 1 (length (b ∷ bs)) in
    by_marks (length (b ∷ bs)) (length (b ∷ bs)) b bs left fits (b == 0x55) (b == 0x56) (le-leb 1 (length (b ∷ bs)) (omega arith)) refl
    (subst (λ t. option_map_or {U = Result (List ℕ × List ℕ) ℕ} (λ x. Ok (x, bs)) (cond fits (cond t (Some (b ∷ [])) None) None) (Err (length (b ∷ bs))) ≡ Err left) (same_mark b) e)
