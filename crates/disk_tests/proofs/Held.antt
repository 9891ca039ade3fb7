-- Records that wait, one behind another.
use Rattle.std.proofs.Common.{◌≡◌, ℕ, ◌+◌, List, [], ◌∷◌, length, take, drop, sym, ap, ◌∙◌, arith}
use Rattle.std.proofs.lemmas.List.{length-append, length-take}
use Rattle.repo_journal.specs.Groups.{group, grown, IsGroup}
use Rattle.repo_journal.specs.Sealing.{IsFramed, payload_in}
use Rattle.repo_journal.proofs.Frames.{framed_again}
use Rattle.repo_journal.proofs.Groups.{group_behind, group_of_one, grown_group}

pub grown_length : (bytes frame : List ℕ) → length (grown bytes frame) ≡ length bytes + length frame
grown_length [] frame = omega arith
grown_length (b ∷ bytes) frame =
    let whole = length-append (take (length bytes) (b ∷ bytes)) (1 ∷ frame) in
    let front = length-take (length bytes) (b ∷ bytes) in
    omega arith

pub both_held : (a b : List ℕ) → IsFramed a → IsFramed b → IsGroup (grown (grown [] a) b)
both_held a b one other = (
  payload_in a,
  payload_in b ∷ [],
  ap (λ bytes. grown bytes b) (framed_again a one ∙ group_of_one (payload_in a))
      ∙ ap (λ frame. grown (group (payload_in a ∷ [])) frame) (framed_again b other)
      ∙ grown_group (payload_in a ∷ []) (payload_in b),
)

-- what was held behind a group is left once it is sealed
pub behind_group : (group frame : List ℕ) → IsGroup group → IsFramed frame → drop (length group) (grown group frame) ≡ frame
behind_group bytes frame is other =
    let payload = is.0 in
    let payloads = is.1 in
    let one = payload_in frame in
    ap (λ b. drop (length b) (grown b frame)) is.2
    ∙ ap (λ f. drop (length (group (payload ∷ payloads))) (grown (group (payload ∷ payloads)) f)) (framed_again frame other)
    ∙ ap (drop (length (group (payload ∷ payloads)))) (grown_group (payload ∷ payloads) one)
    ∙ group_behind payload payloads (one ∷ [])
    ∙ sym (framed_again frame other ∙ group_of_one one)
