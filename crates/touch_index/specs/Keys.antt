-- Keys of paths: numbers, of which different paths may have one.
--     mixed key b      the key of one byte more
--     keys p      the keys of the paths above p and of p, the highest first, at most 16;  last_key p      the last of them
use Rattle.std.specs.Prelude.{ℕ, ◌*◌, ◌%◌, ◌^◌, ◌-◌, bit_xor, List, [], ◌∷◌, length, take, slice_index}
use Rattle.changeset_model.specs.Path.{Path}
use Rattle.touch_index.specs.declared.keys.TheConstants.{ROOT, PRIME, MOST_KEYS}

unfoldable pub mixed : ℕ → ℕ → ℕ
mixed key b = bit_xor key b * PRIME % 2 ^ 64

abbrev pub mixed_all : ℕ → List ℕ → ℕ
mixed_all key [] = key
mixed_all key (b ∷ bytes) = mixed_all (mixed key b) bytes

-- each element has a slash before it
abbrev pub element_key : ℕ → List ℕ → ℕ
element_key key e = mixed_all (mixed key 0x2F) e

-- under a directory with this key
abbrev pub keys_from : ℕ → Path → List ℕ
keys_from key [] = []
keys_from key (e ∷ p) = element_key key e ∷ keys_from (element_key key e) p

-- of the first elements, if it has many
abbrev pub keys : Path → List ℕ
keys p = take MOST_KEYS (keys_from ROOT p)

abbrev pub last_key : Path → ℕ
last_key p = slice_index (keys p) (length (keys p) - 1)
