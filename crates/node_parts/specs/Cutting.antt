-- Entries, as they are gone through.
--     IsNext r bytes last name rest      the bytes begin with an entry of this name, which is greater than the last one, and these are behind it
--     IsRunOn r bytes before part k last rest      the bytes begin with a part of k entries, the last of this name, and these are behind it. The first name is greater than the one before, and no later one is less than an earlier one
use Rattle.std.specs.Prelude.{◌≡◌, ◌++◌, ℕ, true, List, length, Option, Ok}
use Rattle.std.specs.declared.cmp.Ordering.TheVariants.{Less}
use Rattle.std.specs.Ordering.{nat_cmp}
use Rattle.std.specs.Cmp.Lexicographic.{slice_cmp}
use Rattle.byte_fields.specs.Reading.{Reader}
use Rattle.manifest_model.specs.NodeReading.{is_after_name}
use Rattle.node_fields.specs.Lookup.{sized}
use Rattle.node_parts.specs.Parts.{AllBelow, IsRun}

pub record IsNext {X : Type 0} (r : Reader X) (bytes : List ℕ) (last : Option (List ℕ)) (name rest : List ℕ) : Type 0 where
  pub behind : List ℕ
  pub it : X
  pub named : sized bytes ≡ Ok (name, behind)
  pub after : is_after_name last name ≡ true
  pub gave : r behind ≡ Ok (it, rest)

pub record IsRunOn {X : Type 0} (r : Reader X) (bytes : List ℕ) (before : Option (List ℕ)) (part : List ℕ) (k : ℕ) (last rest : List ℕ) : Type 0 where
  pub es : List (List ℕ × X)
  pub parts : bytes ≡ part ++ rest
  pub many : length es ≡ k
  pub run : IsRun r part es
  pub after : is_after_name before run.first ≡ true
  pub below : (n : List ℕ) → slice_cmp nat_cmp last n ≡ Less → AllBelow es n
  pub beyond : (n : List ℕ) → slice_cmp nat_cmp last n ≡ Less → is_after_name before n ≡ true
