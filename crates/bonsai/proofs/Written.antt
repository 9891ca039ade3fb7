-- Parts that are written one after another are a spelling.
use Rattle.std.proofs.Common.{◌≡◌, ℕ, List, [], ◌∷◌, ◌++◌, length, refl, sym, ap, ◌∙◌, append_assoc}
use Rattle.std.specs.Prelude.{flat_map}
use Rattle.std.specs.List.{concat}
use Rattle.std.specs.Int.{w16, w32, w64, to_be_bytes, cast_unsigned}
use Rattle.byte_fields.specs.Bytes.{sized}
use Rattle.changeset_model.specs.Version.{version_byte}
use Rattle.changeset_model.specs.Changeset.{Changeset, edit_bytes, spelling}

-- one more part, and two
more : (s t a : List ℕ) (rest : List (List ℕ)) → t ≡ s ++ a → t ++ concat rest ≡ s ++ concat (a ∷ rest)
more s t a rest e = ap (λ x. x ++ concat rest) e ∙ append_assoc s a (concat rest)

two_more : (s t a b : List ℕ) (rest : List (List ℕ)) → t ≡ s ++ a ++ b → t ++ concat rest ≡ s ++ concat (a ∷ b ∷ rest)
two_more s t a b rest e = more (s ++ a) t b rest e ∙ append_assoc s a (concat (b ∷ rest))

append_nothing : (s : List ℕ) → s ++ [] ≡ s
append_nothing [] = refl
append_nothing (b ∷ s) = ap (λ t. b ∷ t) (append_nothing s)

-- what is written, part after part
pub record WritesParts (c : Changeset) (out head author date message edits : List ℕ) : Type 0 where
  pub head_is : head ≡ out ++ 0x43 ∷ version_byte c.version ∷ length c.parents ∷ concat c.parents
  pub author_is : author ≡ head ++ sized w16 c.author
  pub date_is : date ≡ author ++ to_be_bytes w64 (cast_unsigned w64 c.seconds) ++ to_be_bytes w32 (cast_unsigned w32 c.offset)
  pub message_is : message ≡ date ++ sized w32 c.message
  pub edits_is : edits ≡ message ++ to_be_bytes w32 (length c.changes) ++ flat_map (edit_bytes c.version) c.changes

pub spelled : (c : Changeset) (out head author date message edits : List ℕ) → WritesParts c out head author date message edits → edits ≡ out ++ spelling c
spelled c out head author date message edits w =
    let last : List (List ℕ) = to_be_bytes w32 (length c.changes) ∷ flat_map (edit_bytes c.version) c.changes ∷ [] in
    let after_date : List (List ℕ) = sized w32 c.message ∷ last in
    let after_author : List (List ℕ) = to_be_bytes w64 (cast_unsigned w64 c.seconds) ∷ to_be_bytes w32 (cast_unsigned w32 c.offset) ∷ after_date in
    sym (append_nothing edits)
    ∙ two_more message edits (to_be_bytes w32 (length c.changes)) (flat_map (edit_bytes c.version) c.changes) [] w.edits_is
    ∙ more date message (sized w32 c.message) last w.message_is
    ∙ two_more author date (to_be_bytes w64 (cast_unsigned w64 c.seconds)) (to_be_bytes w32 (cast_unsigned w32 c.offset)) after_date w.date_is
    ∙ more head author (sized w16 c.author) after_author w.author_is
    ∙ more out head (0x43 ∷ version_byte c.version ∷ length c.parents ∷ concat c.parents) (sized w16 c.author ∷ after_author) w.head_is
