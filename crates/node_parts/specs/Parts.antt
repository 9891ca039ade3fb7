-- Entries in parts of whole entries.
--     joined ps      the bytes of parts, one after the other
--     found_in es n later      of entries, the first whose name is n, if no greater name comes before it;  where all names are less, it is what is found later
--     AllBelow es n      all names are less than n
--     Runs r bytes es      a name is looked up in these bytes, and whatever follows them, as it is among these entries
--     IsRun r bytes es      these bytes are such entries, one or more, and begin with the name of the first
--     Parted r before ps all      parts, which follow these entries: together with the parts' entries they are all. The names of those before a part are less than its first one
--     AreParts r count ps      parts with so many entries
--     ReadsOn r      what the reader reads it reads whatever follows
use Rattle.std.specs.Prelude.{◌≡◌, ◌+◌, ◌++◌, ℕ, List, [], ◌∷◌, length, Option, None, Some, Ok}
use Rattle.std.specs.declared.cmp.Ordering.TheVariants.{Less}
use Rattle.std.specs.Ordering.{match_ordering, nat_cmp}
use Rattle.std.specs.Cmp.Lexicographic.{slice_cmp}
use Rattle.byte_fields.specs.Reading.{Reader}
use Rattle.byte_fields.specs.Places.{ReadsFront}
use Rattle.node_fields.specs.Lookup.{named_in, sized}

abbrev pub joined : List (List ℕ) → List ℕ
joined [] = []
joined (p ∷ ps) = p ++ joined ps

abbrev pub found_in : {X : Type 0} → List (List ℕ × X) → List ℕ → Option X → Option X
found_in [] n later = later
found_in (e ∷ es) n later = match_ordering (slice_cmp nat_cmp e.0 n) (found_in es n later) (Some e.1) None

abbrev pub AllBelow : {X : Type 0} → List (List ℕ × X) → List ℕ → Type 0
AllBelow [] n = Unit {0}
AllBelow (e ∷ es) n = (slice_cmp nat_cmp e.0 n ≡ Less) × AllBelow es n

abbrev pub Runs : {X : Type 0} → Reader X → List ℕ → List (List ℕ × X) → Type 0
Runs r bytes es = (m : ℕ) (n other : List ℕ) → named_in r (length es + m) n (bytes ++ other) ≡ found_in es n (named_in r m n other)

pub record IsRun {X : Type 0} (r : Reader X) (bytes : List ℕ) (es : List (List ℕ × X)) : Type 0 where
  pub first : List ℕ
  pub it : X
  pub more : List (List ℕ × X)
  pub behind : List ℕ
  pub opens : es ≡ (first, it) ∷ more
  pub read : (other : List ℕ) → sized (bytes ++ other) ≡ Ok (first, behind ++ other)
  pub runs : Runs r bytes es

abbrev pub Parted : {X : Type 0} → Reader X → List (List ℕ × X) → List (List ℕ) → List (List ℕ × X) → Type 0
Parted r before [] all = all ≡ before
Parted r before (p ∷ ps) all = (es : List (List ℕ × _)) × (run : IsRun r p es) × AllBelow before run.first × Parted r (before ++ es) ps all

pub record AreParts {X : Type 0} (r : Reader X) (count : ℕ) (ps : List (List ℕ)) : Type 0 where
  pub all : List (List ℕ × X)
  pub many : length all ≡ count
  pub parted : Parted r [] ps all

abbrev pub ReadsOn : {X : Type 0} → Reader X → Type 0
ReadsOn {X} r = (bytes : List ℕ) (x : X) (rest : List ℕ) → r bytes ≡ Ok (x, rest) → ReadsFront r bytes x rest
