-- The entry of a name, found in the bytes of entries.
--     sized bytes      a length in one byte, and as many bytes
--     named_in r m n bytes      of m entries that r reads behind their names: the first whose name is n, if no greater name comes before it
use Rattle.std.specs.Prelude.{ℕ, zero, suc, List, Option, None, Some, Result, Ok, Err}
use Rattle.std.specs.declared.cmp.Ordering.{Ordering}
use Rattle.std.specs.Ordering.{match_ordering, nat_cmp}
use Rattle.std.specs.Cmp.Lexicographic.{slice_cmp}
use Rattle.std.specs.Int.{w8}
use Rattle.byte_fields.specs.Reading.{Reader, any, keeping, with_len}

abbrev pub sized : Reader (List ℕ)
sized = with_len w8 any (keeping any)

abbrev pub at_entry : {X : Type 0} → Ordering → Result (X × List ℕ) ℕ → (List ℕ → Option X) → Option X
at_entry o (Ok e) later = match_ordering o (later e.1) (Some e.0) None
at_entry o (Err left) later = None

abbrev pub at_name : {X : Type 0} → Reader X → List ℕ → Result (List ℕ × List ℕ) ℕ → (List ℕ → Option X) → Option X
at_name r n (Ok s) later = at_entry (slice_cmp nat_cmp s.0 n) (r s.1) later
at_name r n (Err left) later = None

abbrev pub named_in : {X : Type 0} → Reader X → ℕ → List ℕ → List ℕ → Option X
named_in r zero n bytes = None
named_in r (suc m) n bytes = at_name r n (sized bytes) (named_in r m n)
