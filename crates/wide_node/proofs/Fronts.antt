-- What stands before the parts of a node.
--     behind_of, is_whole      where a front was cut off, the parts are behind it, and both are the node
--     link_there      the link stands in the front
--     no_file_in      no node with parts is a file's
--     other_front      bytes that begin otherwise are others
use Rattle.std.proofs.Common.{Bool, false, ◌≡◌, ℕ, ◌-◌, List, [], ◌++◌, length, take, refl, sym, ap, ◌∙◌, arith, append_assoc}
use Rattle.std.specs.Prelude.{None, Option, Ok, bytes_eq}
use mathlib.Core.Bool.{true≢false}
use Rattle.std.specs.Int.{w32}
use Rattle.std.proofs.lemmas.List.{append-nil, length-append}
use Rattle.std.proofs.lemmas.Slice.Eq.{bytes_eq-Decides}
use Rattle.std.proofs.Math.Seq.{take-append_seam}
use Rattle.byte_fields.specs.Bytes.{Id}
use Rattle.byte_fields.specs.Reading.{Reader, any, id, number}
use Rattle.byte_fields.specs.Places.{ReadsFront}
use Rattle.manifest_model.specs.NodeReading.{unode_of}
use Rattle.unode.specs.Views.{file_in}
use Rattle.deleted_node.specs.Lookup.{before_count, entry_count as deleted_count, link_before, link_in as link_of}
use Rattle.node_fields.proofs.Named.{then_read}
use Rattle.node_parts.specs.Parts.{AreParts, ReadsOn, joined}
use Rattle.wide_node.specs.declared.kind.Kind.{Kind}
use Rattle.wide_node.specs.declared.kind.Kind.TheVariants.{Fsnode, Unode, Deleted}
use Rattle.wide_node.specs.Wide.{IsBehind, IsWide}
use Rattle.wide_node.proofs.Onward.{on_link}
use Rattle.wide_node.proofs.Marks.{deleted_marked, fs_marked, not_file, unode_marked}

abbrev Bytes : Type 0
Bytes = List ℕ

module _ {X : Type 0} (counted : Reader ℕ) (r : Reader X) (on : ReadsOn counted) (count : ℕ) (bytes entries front : Bytes) (ps : List Bytes)
    (read : counted bytes ≡ Ok (count, entries)) (cut : front ≡ take (length bytes - length entries) bytes) where
  front_is : (q : ReadsFront counted bytes count entries) → front ≡ q.front
  front_is q = cut ∙ ap (λ k. take k bytes) at ∙ ap (take (length q.front)) q.parts ∙ take-append_seam q.front entries
    where
      at : length bytes - length entries ≡ length q.front
      at = let both = ap length q.parts ∙ length-append q.front entries in omega arith

  pub behind_of : AreParts r count ps → IsBehind counted r count front ps
  behind_of are = let q = on bytes count entries read in record { counts = λ other. ap (λ f. counted (f ++ other)) (front_is q) ∙ q.stands other; are = are }

  pub is_whole : joined ps ≡ entries → front ++ joined ps ≡ bytes
  is_whole all = let q = on bytes count entries read in ap (λ f. f ++ joined ps) (front_is q) ∙ ap (λ t. q.front ++ t) all ∙ sym q.parts

link_by : (front : Bytes) (ps : List Bytes) (link : Option Id) (rest : Bytes) → before_count front ≡ Ok (link, rest) → link_of front ≡ link_of (front ++ joined ps)
link_by front ps link rest read =
    let q = on_link front link rest read in
    ap link_before read ∙ sym (ap link_before (ap (λ f. before_count (f ++ joined ps)) q.parts ∙ ap before_count (append_assoc q.front rest (joined ps)) ∙ q.stands (rest ++ joined ps)))

pub link_there : (count : ℕ) (front : Bytes) (ps : List Bytes) → IsBehind deleted_count id count front ps → link_of front ≡ link_of (front ++ joined ps)
link_there count front ps is =
    let p = then_read (before_count front) (λ link. number w32 any) (count, []) (ap deleted_count (sym (append-nil front)) ∙ is.counts []) in
    link_by front ps p.0.0 p.0.1 p.1

pub no_file_in : (kind : Kind) (count : ℕ) (front : Bytes) (ps : List Bytes) → IsWide kind count front ps → None ≡ file_in (unode_of (front ++ joined ps))
no_file_in Fsnode count front ps is = not_file 0x46 (front ++ joined ps) (fs_marked (front ++ joined ps) (count, joined ps) (is.counts (joined ps))) refl
no_file_in Unode count front ps is = not_file 0x55 (front ++ joined ps) (unode_marked (front ++ joined ps) (count, joined ps) (is.counts (joined ps))) refl
no_file_in Deleted count front ps is = not_file 0x44 (front ++ joined ps) (deleted_marked (front ++ joined ps) (count, joined ps) (is.counts (joined ps))) refl

-- ---- compared with bytes

pub other_front : (front tail bytes here slice : Bytes) (t : Bool) → slice ≡ front → here ≡ take (length slice) bytes → t ≡ bytes_eq here slice → t ≡ false → front ++ tail ≡ bytes → ⊥
other_front front tail bytes here slice t is cut eq not same = true≢false (sym ((bytes_eq-Decides here slice).1 alike) ∙ sym eq ∙ not)
  where
    alike : here ≡ slice
    alike = cut ∙ ap (λ f. take (length f) bytes) is ∙ ap (take (length front)) (sym same) ∙ take-append_seam front tail ∙ sym is
