use Rattle.std.proofs.Common.{◌++◌, ℕ, length, take, ap, ◌∙◌, arith, length-append}
use Rattle.std.proofs.lemmas.Slice.{take-put_mid}
use borrow.Rule.Slice.PartMut.{post_of}
use Rattle.land_policy.proofs.bookmark_text.write_text.Goals as goal

pub returns-clause-text : goal.returns-clause-text
returns-clause-text c =
    let front = c.copy_from_slice.new.self in
    let name = c.copy_from_slice-2.new.self in
    take-put_mid 11 _ _ name _ (omega (arith, ap length c.copy_from_slice-2.ensures.after)) (omega (arith, length-append {A = ℕ}, ap length c.copy_from_slice.ensures.after))
    ∙ (λ i. take 11 (c.copy_from_slice.ensures.after i ++ post_of 0 11 c.args.bytes.now) ++ (c.copy_from_slice-2.ensures.after ∙ c.as_bytes-name.ensures.value ∙ c.as_str.ensures.text) i)
