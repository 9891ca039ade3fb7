-- What is read of the parts of a whole: pieces of them, and of an honest disk those that its file holds.
--     AreThere h parts      each stands where it is told
use Rattle.std.proofs.Common.{◌≡◌, ℕ, zero, suc, ◌+◌, ◌<◌, ◌≤◌, Bool, true, false, ◌&&◌, List, [], ◌∷◌, ◌++◌, map, length, take, drop, refl, sym, ap, subst, ◌∙◌, arith, length-append}
use Rattle.std.specs.Prelude.{Some, Err, IsTrue, bytes_eq, sum_by, ◌==◌}
use Rattle.std.specs.List.{All, AllByRecursion, concat}
use Rattle.std.specs.Option.{option_eq}
use Rattle.std.proofs.lemmas.Bool.{and_from, eq-eqb}
use Rattle.std.proofs.lemmas.List.Sums.{sum_by-cons}
use Rattle.std.proofs.lemmas.Slice.Eq.{bytes_eq-Decides}
use Rattle.sha2.specs.Sha256.{sha256}
use Rattle.byte_fields.specs.Bytes.{Id, are_bytes}
use Rattle.byte_fields.proofs.FieldLemmas.{all_bytes}
use Rattle.disk_model.specs.Meaning.{Meaning}
use Rattle.history_model.specs.History.{Entry, bodies, content_len}
use Rattle.history_model.specs.Journal.{Header, held, size}
use Rattle.reply_model.specs.Legal.{IsLegal}
use Rattle.reply_model.specs.Reply.{is_piece, are_pieces}
use Rattle.repo_journal.specs.View.{JournalView}
use Rattle.content_pieces.specs.declared.piece.Piece.{Piece}
use Rattle.content_pieces.specs.Joining as reading
use Rattle.content_pieces.specs.Joining.{AreJoined, HasOther, IsWithin, TellsPiece}
use Rattle.content_pieces.specs.declared.fault.PieceFault.{PieceFault}
use Rattle.content_pieces.specs.declared.fault.PieceFault.TheVariants.{ReadFault, BadBytes}
use Rattle.content_table.specs.declared.part.Part.{Part}
use Rattle.repo_machine.specs.Indexes.{StandsAt}
use Rattle.repo_machine.specs.Wholes.{IsJoined}
use Rattle.recovery.specs.Joining.{piece_of, held_of, IsRead, JoinsParts}
use Rattle.recovery.specs.ReplayFaults.{piece_fault}
use Rattle.recovery.proofs.Held.{held_at, length_at, lies_inside}

-- ---- each element

to_each : {T : Type 0} (P : T → Type 0) (xs : List T) → All P xs → AllByRecursion P xs
to_each P [] all = tt
to_each P (x ∷ xs) all = (all 0 x (omega arith), to_each P xs (λ k d less. all (suc k) d (omega arith)))

from_each : {T : Type 0} (P : T → Type 0) (xs : List T) → AllByRecursion P xs → All P xs
from_each P [] each k d less = absurd (omega arith)
from_each P (x ∷ xs) each zero d less = each.0
from_each P (x ∷ xs) each (suc k) d less = from_each P xs each.1 k d (omega arith)

abbrev pub AreThere : List Entry → List Part → Type 0
AreThere h parts = AllByRecursion (λ p. StandsAt h p.id p.place) parts

pub are_there : (h : List Entry) (parts : List Part) → All (λ p. StandsAt h p.id p.place) parts → AreThere h parts
are_there h parts all = to_each (λ (p : Part). StandsAt h p.id p.place) parts all

-- ---- parts of a history that may be read

module _ (header : Header) (h : List Entry) (legal : IsLegal header h) (j : JournalView) (m : Meaning) (far : j.size ≡ size h) (few : size h ≤ 34_359_738_368) where
  inside : (p : Part) → StandsAt h p.id p.place → p.place.at + p.place.length < j.size
  inside p s = let within = lies_inside header h legal s.before s.later s.who p.id p.place.length s.history_is in let at = s.at_is in omega arith

  is_within : (p : Part) → StandsAt h p.id p.place → IsWithin j (piece_of p)
  is_within p s = let within = inside p s in record { inside = omega arith; apart = λ _. omega arith; small = omega arith }

  each_within : (parts : List Part) → AreThere h parts → AllByRecursion (IsWithin j) (map piece_of parts)
  each_within [] there = tt
  each_within (p ∷ parts) there = (is_within p there.0, each_within parts there.1)

  pub all_within : (parts : List Part) (pieces : List Piece) → pieces ≡ map piece_of parts → All (λ p. StandsAt h p.id p.place) parts → All (IsWithin j) pieces
  all_within parts pieces same all = subst (All (IsWithin j)) (sym same) (from_each (IsWithin j) (map piece_of parts) (each_within parts (are_there h parts all)))

  each_small : (parts : List Part) → AreThere h parts → AllByRecursion (λ p. p.place.length ≤ 34_359_738_368) parts
  each_small [] there = tt
  each_small (p ∷ parts) there = ((let within = inside p there.0 in omega arith), each_small parts there.1)

  pub all_small : (parts : List Part) → All (λ p. StandsAt h p.id p.place) parts → All (λ p. p.place.length ≤ 34_359_738_368) parts
  all_small parts all = from_each (λ (p : Part). p.place.length ≤ 34_359_738_368) parts (each_small parts (are_there h parts all))

  -- what was read of one
  module _ (p : Part) (s : StandsAt h p.id p.place) (bytes : List ℕ) (read : reading.IsRead j m (piece_of p) bytes) where
    held_here : IsTrue m.honest → bytes ≡ held m.state.reads 16 (bodies h) p.id
    held_here honest =
        read.in_file (let within = inside p s in omega arith) honest
        ∙ ap (λ k. take p.place.length (drop k m.state.reads)) s.at_is
        ∙ sym (held_at header h legal s.before s.later s.who p.id p.place.length s.history_is m.state.reads)

    its_length : option_eq (λ n m. n == m) (content_len h p.id) (Some (length bytes)) ≡ true
    its_length =
        (λ i. option_eq (λ n m. n == m) (length_at header h legal s.before s.later s.who p.id p.place.length s.history_is i) (Some (read.length i)))
        ∙ eq-eqb p.place.length p.place.length refl

    piece_read : sha256 bytes ≡ p.id → is_piece h p.id bytes ≡ true
    piece_read same =
        and_from (are_bytes bytes && bytes_eq (sha256 bytes) p.id) _ (and_from (are_bytes bytes) _ (all_bytes bytes read.are_bytes) ((bytes_eq-Decides (sha256 bytes) p.id).1 same)) its_length

    other_read : (sha256 bytes ≡ p.id → ⊥) → IsTrue m.honest → is_piece h p.id (held m.state.reads 16 (bodies h) p.id) ≡ false
    other_read other honest = ap (is_piece h p.id) (sym (held_here honest)) ∙ by (are_bytes bytes) (bytes_eq (sha256 bytes) p.id) refl
      where
        by : (fits same : Bool) → bytes_eq (sha256 bytes) p.id ≡ same → (fits && same && option_eq (λ n m. n == m) (content_len h p.id) (Some (length bytes))) ≡ false
        by false same e = refl
        by true false e = refl
        by true true e = absurd (other ((bytes_eq-Decides (sha256 bytes) p.id).0 e))

  -- ---- all of them

  record AreRead (parts : List Part) (joined : List ℕ) : Type 0 where
    pieces : List (List ℕ)
    joined_is : concat pieces ≡ joined
    are : are_pieces h (map (λ p. p.id) parts) pieces ≡ true
    held_are : IsRead m h (map (λ p. p.id) parts) pieces
    total_is : sum_by (λ p. p.place.length) parts ≡ length (concat pieces)

  are_read : (parts : List Part) (joined : List ℕ) → AreThere h parts → AreJoined j m (map piece_of parts) joined → AreRead parts joined
  are_read [] joined there is = record { pieces = []; joined_is = sym is; are = refl; held_are = λ _. refl; total_is = refl }
  are_read (p ∷ parts) joined there (bytes, read, same, (rest, more, parts_are)) =
      let later = are_read parts rest there.1 more in
      let both = length-append bytes (concat later.pieces) in
      let sum = sum_by-cons (λ (p : Part). p.place.length) p parts in
      let own : length bytes ≡ p.place.length = read.length in
      let on = later.total_is in
      record {
        pieces = bytes ∷ later.pieces;
        joined_is = ap (λ (t : List ℕ). bytes ++ t) later.joined_is ∙ sym parts_are;
        are = and_from (is_piece h p.id bytes) (are_pieces h (map (λ p. p.id) parts) later.pieces) (piece_read p there.0 bytes read same) later.are;
        held_are = λ honest i. held_here p there.0 bytes read honest i ∷ later.held_are honest i;
        total_is = omega arith;
      }

  is_joined : (parts : List Part) (joined id : List ℕ) (n : ℕ) → (r : AreRead parts joined) → id ≡ sha256 joined → n ≡ sum_by (λ p. p.place.length) parts → IsJoined h (map (λ p. p.id) parts) r.pieces id n
  is_joined parts joined id n r same total = record { are = r.are; id_is = same ∙ ap sha256 (sym r.joined_is); length_is = total ∙ r.total_is }

  -- ---- one whose bytes aren't its own

  no_part : (before : List Piece) (other : Piece) (after : List Piece) → [] ≡ before ++ other ∷ after → ⊥
  no_part [] other after e = absurd cc
  no_part (p ∷ before) other after e = absurd cc

  abbrev first_of : Piece → List Piece → Piece
  first_of p [] = p
  first_of p (q ∷ ps) = q

  not_theirs : (parts : List Part) (before : List Piece) (other : Piece) (after : List Piece) (bytes : List ℕ) → AreThere h parts → map piece_of parts ≡ before ++ other ∷ after
      → reading.IsRead j m other bytes → (sha256 bytes ≡ other.id → ⊥) → IsTrue m.honest → are_pieces h (map (λ p. p.id) parts) (held_of m h (map (λ p. p.id) parts)) ≡ false
  not_theirs [] before other after bytes there is read differ honest = absurd (no_part before other after is)
  not_theirs (p ∷ parts) [] other after bytes there is read differ honest =
      let same : piece_of p ≡ other = ap (λ (ps : List Piece). first_of other ps) is in
      let own = subst (λ (q : Piece). reading.IsRead j m q bytes) (sym same) read in
      ap (λ b. b && are_pieces h (map (λ p. p.id) parts) (held_of m h (map (λ p. p.id) parts))) (other_read p there.0 bytes own (λ e. differ (e ∙ ap (λ (q : Piece). q.id) same)) honest)
  not_theirs (p ∷ parts) (q ∷ before) other after bytes there is read differ honest =
      let later = not_theirs parts before other after bytes there.1 (ap (drop 1) is) read differ honest in
      and_last (is_piece h p.id (held m.state.reads 16 (bodies h) p.id)) (are_pieces h (map (λ p. p.id) parts) (held_of m h (map (λ p. p.id) parts))) later
    where
      and_last : (a b : Bool) → b ≡ false → (a && b) ≡ false
      and_last true b e = e
      and_last false b e = refl

  has_other : (parts : List Part) (wanted found : Id) → AreThere h parts → HasOther j m (map piece_of parts) wanted found → IsTrue m.honest → are_pieces h (map (λ p. p.id) parts) (held_of m h (map (λ p. p.id) parts)) ≡ false
  has_other parts wanted found there o honest =
      not_theirs parts o.before o.other o.after o.bytes there o.parts o.is_read (λ e. o.differ (o.found_is ∙ e ∙ sym o.wanted_is)) honest

  -- ---- by what reading them answers

  module _ (parts : List Part) (pieces : List Piece) (ids : List Id) (same : pieces ≡ map piece_of parts) (ids_are : map (λ p. p.id) parts ≡ ids) (all : All (λ p. StandsAt h p.id p.place) parts) where
    pub read_fails : (fault : PieceFault) → TellsPiece j m pieces fault → JoinsParts m h ids (Err (piece_fault fault))
    read_fails ReadFault tells = tt
    read_fails (BadBytes wanted found) tells = λ honest.
        subst (λ xs. are_pieces h xs (held_of m h xs) ≡ false) ids_are (has_other parts wanted found (are_there h parts all) (subst (λ ps. HasOther j m ps wanted found) same tells) honest)

    pub read_joins : (joined id : List ℕ) (n : ℕ) → AreJoined j m pieces joined → id ≡ sha256 joined → n ≡ sum_by (λ p. p.place.length) parts → (pieces : List (List ℕ)) × IsRead m h ids pieces × IsJoined h ids pieces id n
    read_joins joined id n is same_id total =
        let r = are_read parts joined (are_there h parts all) (subst (λ ps. AreJoined j m ps joined) same is) in
        (r.pieces, subst (λ xs. IsRead m h xs r.pieces) ids_are r.held_are, subst (λ xs. IsJoined h xs r.pieces id n) ids_are (is_joined parts joined id n r same_id total))
