-- Pages, computed: the text of a first page, of one behind the last entry, and of none.
use Rattle.std.proofs.Common.{ℕ, refl, List, [], ◌∷◌, codes, lit<, lit≤, inl, inr, None, Some, arith}
use Rattle.std.specs.Fmt.{digits}
use Rattle.hex.specs.Hex.{encode_with}
use Rattle.reply_model.specs.Log.{ContentLine, BookmarkLine, PolicyLine}
use Rattle.page_reader.specs.Pages.{Counts, IsPage}

-- the SHA-256 of the bytes "abc" (FIPS 180-4)
abc : List ℕ
abc =
    0xBA ∷ 0x78 ∷ 0x16 ∷ 0xBF ∷ 0x8F ∷ 0x01 ∷ 0xCF ∷ 0xEA ∷ 0x41 ∷ 0x41 ∷ 0x40 ∷ 0xDE ∷ 0x5D ∷ 0xAE ∷ 0x22 ∷ 0x23
    ∷ 0xB0 ∷ 0x03 ∷ 0x61 ∷ 0xA3 ∷ 0x96 ∷ 0x17 ∷ 0x7A ∷ 0x9C ∷ 0xB4 ∷ 0x10 ∷ 0xFF ∷ 0x61 ∷ 0xF2 ∷ 0x00 ∷ 0x15 ∷ 0xAD ∷ []

one_content : IsPage 0 (codes "{\"code\":\"log\",\"entries\":[{\"id\":\"ba7816bf8f01cfea414140de5dae2223b00361a396177a9cb410ff61f20015ad\",\"kind\":\"content\",\"number\":0,\"size\":3}],\"total\":1}") (ContentLine abc 3 ∷ []) 1
unfolding abc digits encode_with
one_content = record { text_is = refl; told = ((refl, lit< tt), tt); counts = inl (lit< tt, lit≤ tt, lit≤ tt); small = lit< tt }

a_new_bookmark : IsPage 7 (codes "{\"code\":\"log\",\"entries\":[{\"from\":null,\"kind\":\"bookmark\",\"name\":\"main\",\"number\":7,\"to\":\"ba7816bf8f01cfea414140de5dae2223b00361a396177a9cb410ff61f20015ad\"}],\"total\":12}") (BookmarkLine (record { name = codes "main"; from = None; to = Some abc; caller = None }) ∷ []) 12
unfolding abc digits encode_with
a_new_bookmark = record { text_is = refl; told = ((refl, tt, refl, tt), tt); counts = inl (lit< tt, lit≤ tt, lit≤ tt); small = lit< tt }

a_first_policy : IsPage 3 (codes "{\"code\":\"log\",\"entries\":[{\"caller\":\"root\",\"kind\":\"policy\",\"number\":3,\"rules\":2}],\"total\":4}") (PolicyLine (codes "root") 2 ∷ []) 4
unfolding digits
a_first_policy = record { text_is = refl; told = ((refl, lit< tt), tt); counts = inl (lit< tt, lit≤ tt, lit≤ tt); small = lit< tt }

nothing_more : IsPage 12 (codes "{\"code\":\"log\",\"entries\":[],\"total\":12}") [] 12
unfolding digits
nothing_more = record { text_is = refl; told = tt; counts = inr (refl, lit≤ tt); small = lit< tt }

-- a total that isn't above the last number, and a total above the number where there are no entries
not_above_the_last : Counts 7 1 7 → ⊥
not_above_the_last (inl some) = let above = some.2 in omega arith
not_above_the_last (inr none) = let zero = none.0 in omega arith

more_than_none : Counts 12 0 13 → ⊥
more_than_none (inl some) = let one = some.0 in omega arith
more_than_none (inr none) = let most = none.1 in omega arith
