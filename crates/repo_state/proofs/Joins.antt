-- What is read of contents that are joined.
use Rattle.std.proofs.Common.{◌≡◌, ℕ, ◌+◌, ◌-◌, ◌≤◌, ◌<◌, true, false, ◌&&◌, List, [], ◌∷◌, ◌++◌, map, length, take, drop, refl, sym, ap, subst, ◌∙◌, arith, inl, inr, length-append}
use Rattle.std.specs.Prelude.{◌⊎◌, IsSome, IsTrue, Option, None, Some, Err, sum_by, bytes_eq, nat_le, Contains, ◌==◌}
use Rattle.std.specs.List.{All, AllByRecursion, concat}
use mathlib.Core.Bool.{true≢false}
use Rattle.std.specs.Option.{option_eq, option_or}
use Rattle.std.proofs.lemmas.Bool.{and_parts, and_from, eq-eqb, eqb-true, leb-true}
use Rattle.std.proofs.lemmas.List.Elements.{All-from_recursion, recursion_from_All, Contains-append_right}
use Rattle.std.proofs.lemmas.List.Sums.{sum_by-cons}
use Rattle.std.proofs.lemmas.Slice.Eq.{bytes_eq-Decides}
use Rattle.sha2.specs.Sha256.{sha256}
use Rattle.byte_fields.specs.Bytes.{Id, are_bytes, first_some}
use Rattle.byte_fields.proofs.Booleans.{same_some}
use Rattle.byte_fields.proofs.FieldLemmas.{all_bytes}
use Rattle.byte_fields.proofs.Lists.{both_parts, contains_head, each_of, first_some-append}
use Rattle.disk_model.specs.Meaning.{Meaning}
use Rattle.disk_model.specs.Meaning as disk
use Rattle.reply_model.specs.After.{entry_by}
use Rattle.history_model.specs.History.{Whole, Fault, Entry, bodies, content_len, is_whole, length_in, whole_parts}
use Rattle.history_model.specs.Journal.{Header, HoldsParts, held, is_header, joined, size}
use Rattle.reply_model.proofs.Histories.{bodies-append}
use Rattle.reply_model.specs.Legal.{IsLegal}
use Rattle.reply_model.specs.Reply.{is_piece, are_pieces}
use Rattle.repo_journal.specs.Groups.{with_group}
use Rattle.repo_journal.specs.View.{JournalView}
use Rattle.content_pieces.specs.declared.piece.Piece.{Piece}
use Rattle.content_pieces.specs.Joining.{IsReadAt, IsWithin, AreJoined, HasOther}
use Rattle.content_table.specs.declared.part.Part.{Part}
use Rattle.content_table.specs.declared.place.Place.{Place}
use Rattle.repo_machine.specs.Indexes.{StandsAt}
use Rattle.bookmark_lock.specs.Opening.{Opening}
use Rattle.repo_state.specs.Asking.{ArePartsRead, IsReadFor, IsWaiting, WasThere}
use Rattle.repo_state.specs.Filling.{AreFilled, IsPartWithin, part_len, piece_of}
use Rattle.repo_state.specs.Images.{sealed_part}
use Rattle.repo_calls.specs.Asking.{is_misread, is_unread}
use Rattle.repo_calls.specs.declared.calls.ChangeFault.{ChangeFault}
use Rattle.repo_calls.specs.declared.calls.ChangeFault.TheVariants.{Refused, DiskFault, ReadFault, BadBytes}
use Rattle.repo_machine.specs.declared.found.Joined.{Joined}
use Rattle.repo_state.specs.Joining.{ids_of, AreStanding, IsJoinOf, IsReadWhole, JoinFails, TellsUnread, is_disks}
use Rattle.repo_state.specs.State.{State, IsSound, Agrees, laid}
use Rattle.repo_state.proofs.Contents.{InFile, Behind, lies, apart, content_inside, waiting_content, honest_content}
use Rattle.repo_state.proofs.GroupParts.{pending_size}
use Rattle.repo_state.proofs.Held.{held_there, whole_in}
use Rattle.repo_state.proofs.Laid.{laid_front, laid_behind}
use Rattle.repo_state.proofs.Once.{content_once}

abbrev pub Stands : List Entry → Part → Type 0
Stands h p = StandsAt h p.id p.place

abbrev pub AllStand : List Entry → List Part → Type 0
AllStand h parts = AllByRecursion (Stands h) parts

pub standing : (h : List Entry) (parts : List Part) → AreStanding h parts → AllStand h parts
standing h parts all = recursion_from_All (Stands h) parts all

-- the length of a content is that at its place
pub length_there : (header : Header) (h : List Entry) (x : Id) (place : Place) → IsLegal header h → StandsAt h x place → content_len h x ≡ Some place.length
length_there header h x place legal s =
    ap (λ g. content_len g x) s.history_is ∙ (content_once header s.before s.later s.who x place.length (subst (IsLegal header) s.history_is legal)).len_is

-- ---- how long the parts of a whole are

option_is : (o : Option ℕ) (k : ℕ) → option_eq (λ n m. n == m) o (Some k) ≡ true → o ≡ Some k
option_is None k e = absurd (true≢false (sym e))
option_is (Some j) k e = ap (λ k. Some k) (eqb-true j k e)

piece_long : (h : List Entry) (x : Id) (piece : List ℕ) → is_piece h x piece ≡ true → content_len h x ≡ Some (length piece)
piece_long h x piece is = option_is (content_len h x) (length piece) (and_parts (are_bytes piece && bytes_eq (sha256 piece) x) (option_eq (λ n m. n == m) (content_len h x) (Some (length piece))) is).1

length_kept : (before later : List Entry) (x : Id) (k : ℕ) → content_len before x ≡ Some k → content_len (before ++ later) x ≡ Some k
length_kept before later x k some = first_some-append (λ e. length_in x e.body) before later ∙ ap (λ o. option_or o (first_some (λ e. length_in x e.body) later)) some

parts_long : (header : Header) (before later : List Entry) (e : Entry) (parts : List Part) (pieces : List (List ℕ)) → IsLegal header (before ++ e ∷ later) → AllStand (before ++ e ∷ later) parts → are_pieces before (ids_of parts) pieces ≡ true → length (concat pieces) ≡ sum_by part_len parts
parts_long header before later e [] [] legal all are = refl
parts_long header before later e [] (piece ∷ pieces) legal all are = absurd (true≢false (sym are))
parts_long header before later e (p ∷ parts) [] legal all are = absurd (true≢false (sym are))
parts_long header before later e (p ∷ parts) (piece ∷ pieces) legal all are =
    let both = and_parts (is_piece before p.id piece) (are_pieces before (ids_of parts) pieces) are in
    let one : length piece ≡ p.place.length = same_some (length piece) p.place.length (sym (length_kept before (e ∷ later) p.id (length piece) (piece_long before p.id piece both.0)) ∙ length_there header (before ++ e ∷ later) p.id p.place legal all.0) in
    let rest = parts_long header before later e parts pieces legal all.1 both.1 in
    let sum = sum_by-cons part_len p parts in
    let whole = length-append piece (concat pieces) in
    omega arith

module _ {header : Header} {h : List Entry} {n upto : ℕ} {journal : JournalView} {m : Meaning} (agrees : Agrees header h n upto journal m) where
  abbrev file_laid : List ℕ
  file_laid = with_group journal.size journal.pending.bytes m.state.reads

  -- ---- a place that may be read

  part_inside : (x : Id) (place : Place) → StandsAt h x place → place.at + place.length ≤ journal.size + length journal.pending.bytes
  part_inside x place s =
      let within = content_inside s in
      let both = pending_size h n journal.pending.bytes agrees.waits in
      let file = agrees.size_is in
      omega arith

  part_apart : (x : Id) (place : Place) → StandsAt h x place → place.at < journal.size → place.at + place.length ≤ journal.size
  part_apart x place s less =
      let file = agrees.size_is in
      let whole = apart s n (omega arith) in
      omega arith

  parts_within : (parts : List Part) → AllStand h parts → AllByRecursion (IsPartWithin journal) parts
  parts_within [] all = tt
  parts_within (p ∷ parts) all = (record { inside = part_inside p.id p.place all.0; apart = part_apart p.id p.place all.0 }, parts_within parts all.1)

  pub all_within : (parts : List Part) → AreStanding h parts → All (IsPartWithin journal) parts
  all_within parts all = All-from_recursion (IsPartWithin journal) parts (parts_within parts (standing h parts all))

  pieces_within : is_header header ≡ true → (parts : List Part) → AllStand h parts → AllByRecursion (IsWithin journal) (map piece_of parts)
  pieces_within limits [] all = tt
  pieces_within limits (p ∷ parts) all =
      let bounds = and_parts (nat_le 4_096 header.capacity) (nat_le header.capacity 34_359_738_368) limits in
      let last = leb-true header.capacity 34_359_738_368 bounds.1 in
      let within = content_inside all.0 in
      let fits = agrees.fits in
      (record { inside = part_inside p.id p.place all.0; apart = part_apart p.id p.place all.0; small = omega arith }, pieces_within limits parts all.1)

  pub all_pieces_within : is_header header ≡ true → (parts : List Part) → AreStanding h parts → All (IsWithin journal) (map piece_of parts)
  all_pieces_within limits parts all = All-from_recursion (IsWithin journal) (map piece_of parts) (pieces_within limits parts (standing h parts all))

  -- ---- what an honest disk gives there

  module _ (legal : IsLegal header h) (told : disk.IsSound m) where
    from_laid : IsTrue m.honest → (x : Id) (place : Place) (bytes : List ℕ) → StandsAt h x place → IsReadAt journal m place.at place.length bytes → bytes ≡ take place.length (drop place.at file_laid)
    from_laid honest x place bytes s read = by (lies s n)
      where
        file : journal.size ≡ size (sealed_part n h)
        file = agrees.size_is

        long : journal.size ≤ length m.state.reads
        long = agrees.long m.state.reads (told.reads honest)

        by : InFile s n ⊎ Behind s n → bytes ≡ take place.length (drop place.at file_laid)
        by (inl in_it) = (let ends = in_it.ends in read.in_file (omega arith) honest ∙ sym (laid_front journal.size journal.pending.bytes m.state.reads (omega arith) long place.at place.length (omega arith)))
        by (inr behind) = (let starts = behind.starts in read.waiting (omega arith) ∙ sym (laid_behind journal.size journal.pending.bytes m.state.reads (omega arith) long place.at place.length (omega arith)))

    pub is_held : IsTrue m.honest → (x : Id) (place : Place) (bytes : List ℕ) → StandsAt h x place → IsReadAt journal m place.at place.length bytes → bytes ≡ held file_laid 16 (bodies h) x
    is_held honest x place bytes s read =
        from_laid honest x place bytes s read
        ∙ ap (λ k. take place.length (drop k file_laid)) s.at_is
        ∙ sym (ap (λ g. held file_laid 16 (bodies g) x) s.history_is ∙ held_there header s.before s.later s.who x place.length file_laid (subst (IsLegal header) s.history_is legal))

    -- what waits has its id
    pub waits_true : (x : Id) (place : Place) (bytes : List ℕ) → StandsAt h x place → IsReadAt journal m place.at place.length bytes → journal.size ≤ place.at → sha256 bytes ≡ x
    waits_true x place bytes s read waiting = by (lies s n)
      where
        file : journal.size ≡ size (sealed_part n h)
        file = agrees.size_is

        by : InFile s n ⊎ Behind s n → sha256 bytes ≡ x
        by (inl in_it) = absurd (let ends = in_it.ends in omega arith)
        by (inr behind) = ap sha256 (read.waiting waiting ∙ ap (λ k. take place.length (drop (place.at - k) journal.pending.bytes)) file) ∙ (waiting_content s n journal.pending.bytes behind agrees.waits).0

    -- ---- joined

    pub record IsReadJoin (parts : List Part) (bytes : List ℕ) : Type 0 where
      pub pieces : List (List ℕ)
      pub are : are_pieces h (ids_of parts) pieces ≡ true
      pub bytes_are : bytes ≡ concat pieces
      pub long : length bytes ≡ sum_by part_len parts
      pub held_are : IsTrue m.honest → bytes ≡ joined file_laid (bodies h) (ids_of parts)

    is_piece_of : (x : Id) (place : Place) (bytes : List ℕ) → StandsAt h x place → IsReadAt journal m place.at place.length bytes → sha256 bytes ≡ x → is_piece h x bytes ≡ true
    is_piece_of x place bytes s read same =
        let len = length_there header h x place legal s ∙ ap Some (sym read.length) in
        and_from (are_bytes bytes && bytes_eq (sha256 bytes) x) _
        (and_from _ _ (all_bytes bytes read.are_bytes) ((bytes_eq-Decides (sha256 bytes) x).1 same))
        (ap (λ o. option_eq (λ n m. n == m) o (Some (length bytes))) len ∙ eq-eqb (length bytes) (length bytes) refl)

    pub joined_as : (parts : List Part) (bytes : List ℕ) → AllStand h parts → AreJoined journal m (map piece_of parts) bytes → IsReadJoin parts bytes
    joined_as [] bytes all none = record { pieces = []; are = refl; bytes_are = none; long = ap (λ (b : List ℕ). length b) none; held_are = λ honest. none }
    joined_as (p ∷ parts) bytes all (own, read, same, (rest, others, is)) =
        let later = joined_as parts rest all.1 others in
        let one = is_piece_of p.id p.place own all.0 read same in
        let sum = sum_by-cons part_len p parts in
        let both = ap (λ (b : List ℕ). length b) is in
        let parts_long = length-append own rest in
        let own_long = read.length in
        let rest_long = later.long in
        record {
          pieces = own ∷ later.pieces;
          are = and_from (is_piece h p.id own) (are_pieces h (ids_of parts) later.pieces) one later.are;
          bytes_are = is ∙ ap (λ t. own ++ t) later.bytes_are;
          long = omega arith;
          held_are = λ honest. is ∙ (λ i. is_held honest p.id p.place own all.0 read i ++ later.held_are honest i);
        }

    -- ---- read for a whole

    parts_read : (parts : List Part) (bytes : List ℕ) → AllStand h parts → AreFilled journal m parts bytes → ArePartsRead m h n parts bytes
    parts_read [] bytes all none = none
    parts_read (p ∷ parts) bytes all (own, rest, is, filled, later) = (
      own,
      rest,
      is,
      record {
        stands = all.0;
        long = filled.is_read.length;
        read = by (lies all.0 n);
        waits = λ waiting. waits_true p.id p.place own all.0 filled.is_read (let file = agrees.size_is in omega arith);
      },
      parts_read parts rest all.1 later,
    )
      where
        by : InFile all.0 n ⊎ Behind all.0 n → IsWaiting h n p.place.at ⊎ WasThere m p.place own
        by (inl in_it) = inr (filled.there (let ends = in_it.ends in let file = agrees.size_is in omega arith))
        by (inr behind) = inl behind.starts

    filled_long : (parts : List Part) (bytes : List ℕ) → AreFilled journal m parts bytes → length bytes ≡ sum_by part_len parts
    filled_long [] bytes none = ap (λ (b : List ℕ). length b) none
    filled_long (p ∷ parts) bytes (own, rest, is, filled, later) =
        let sum = sum_by-cons part_len p parts in
        let both = ap (λ (b : List ℕ). length b) is in
        let parts_long = length-append own rest in
        let own_long = filled.is_read.length in
        let rest_long = filled_long parts rest later in
        omega arith

    filled_held : IsTrue m.honest → (parts : List Part) (bytes : List ℕ) → AllStand h parts → AreFilled journal m parts bytes → bytes ≡ joined file_laid (bodies h) (ids_of parts)
    filled_held honest [] bytes all none = none
    filled_held honest (p ∷ parts) bytes all (own, rest, is, filled, later) = is ∙ (λ i. is_held honest p.id p.place own all.0 filled.is_read i ++ filled_held honest parts rest all.1 later i)

    -- its length is that of its parts together
    pub read_parts : (x : Id) (parts : List Part) (bytes : List ℕ) → is_whole h x ≡ true → ids_of parts ≡ whole_parts h x → AreStanding h parts → AreFilled journal m parts bytes → IsReadFor m h n x bytes parts
    read_parts x parts bytes is ids places filled =
        let all = standing h parts places in
        let w = whole_in header h x legal is in
        let same = subst (λ g. IsLegal header g) w.history_is legal in
        let total = parts_long header w.before w.later (record { who = w.who; body = Whole x w.n (whole_parts h x) }) parts w.made.pieces same (subst (λ g. AllStand g parts) w.history_is all) (ap (λ xs. are_pieces w.before xs w.made.pieces) ids ∙ w.made.are) in
        record {
          stored = w.len_is ∙ ap Some (w.made.length_is ∙ total ∙ sym (filled_long parts bytes filled));
          parts_are = ids;
          read = inr (is, parts_read parts bytes all filled);
        }

    pub parts_true : IsTrue m.honest → (x : Id) (parts : List Part) (bytes : List ℕ) → is_whole h x ≡ true → ids_of parts ≡ whole_parts h x → AreStanding h parts → AreFilled journal m parts bytes → sha256 bytes ≡ x
    parts_true honest x parts bytes is ids places filled =
        let w = whole_in header h x legal is in
        let body = Whole x w.n (whole_parts h x) in
        let among : Contains (bodies h) body = subst (λ bs. Contains bs body) (sym (ap (λ g. bodies g) w.history_is ∙ bodies-append w.before (record { who = w.who; body = body } ∷ w.later))) (Contains-append_right (bodies w.before) (body ∷ bodies w.later) body (contains_head body (bodies w.later))) in
        let holds : sha256 (joined file_laid (bodies h) (whole_parts h x)) ≡ x = each_of (HoldsParts file_laid (bodies h)) (bodies h) body (agrees.holds honest) among in
        ap sha256 (filled_held honest parts bytes (standing h parts places) filled ∙ ap (joined file_laid (bodies h)) ids) ∙ holds

pub whole_stored : (header : Header) (h : List Entry) (x : Id) → IsLegal header h → is_whole h x ≡ true → IsSome (content_len h x)
whole_stored header h x legal is = subst (λ o. IsSome o) (sym (whole_in header h x legal is).len_is) search

-- ---- one whose bytes aren't its own

abbrev PieceStands : List Entry → Piece → Type 0
PieceStands h p = StandsAt h p.id (record { at = p.at; length = p.length })

pieces_stand : (h : List Entry) (parts : List Part) → AllStand h parts → AllByRecursion (PieceStands h) (map piece_of parts)
pieces_stand h [] all = tt
pieces_stand h (p ∷ parts) all = (all.0, pieces_stand h parts all.1)

ids_are : (parts : List Part) → map (λ (p : Piece). p.id) (map piece_of parts) ≡ ids_of parts
ids_are [] = refl
ids_are (p ∷ parts) = ap (λ xs. p.id ∷ xs) (ids_are parts)

ids_with : (before : List Piece) (p : Piece) (after : List Piece) → Contains (map (λ (p : Piece). p.id) (before ++ p ∷ after)) p.id
ids_with [] p after = contains_head p.id (map (λ (p : Piece). p.id) after)
ids_with (q ∷ before) p after = Contains-append_right (q.id ∷ []) (map (λ (p : Piece). p.id) (before ++ p ∷ after)) p.id (ids_with before p after)

pub other_among : (j : JournalView) (m : Meaning) (parts : List Part) (wanted found : Id) → HasOther j m (map piece_of parts) wanted found → Contains (ids_of parts) wanted
other_among j m parts wanted found other =
    subst (λ xs. Contains xs wanted) (ids_are parts)
    (subst (λ ps. Contains (map (λ (p : Piece). p.id) ps) wanted) (sym other.parts)
    (subst (λ x. Contains (map (λ (p : Piece). p.id) (other.before ++ other.other ∷ other.after)) x) (sym other.wanted_is) (ids_with other.before other.other other.after)))

-- an honest disk gives a content's own bytes
pub true_bytes : (opening : Opening) (h : List Entry) (n : ℕ) {reach upto : ℕ} (journal : JournalView) (m : Meaning) → IsSound opening h n reach m → Agrees opening.header h n upto journal m → disk.IsSound m → IsTrue m.honest → (x : Id) (place : Place) (bytes : List ℕ) → StandsAt h x place → IsReadAt journal m place.at place.length bytes → sha256 bytes ≡ x
true_bytes opening h n journal m sound agrees told honest x place bytes s read = by (lies s n)
  where
    file : journal.size ≡ size (sealed_part n h)
    file = agrees.size_is

    by : InFile s n ⊎ Behind s n → sha256 bytes ≡ x
    by (inl in_it) = (let ends = in_it.ends in (honest_content opening s n m bytes in_it sound told honest (read.in_file (omega arith) honest)).0)
    by (inr behind) = (let starts = behind.starts in waits_true agrees sound.legal told x place bytes s read (omega arith))

pub none_other : (opening : Opening) (h : List Entry) (n : ℕ) {reach upto : ℕ} (journal : JournalView) (m : Meaning) → IsSound opening h n reach m → Agrees opening.header h n upto journal m → disk.IsSound m → IsTrue m.honest → (parts : List Part) (wanted found : Id) → AllStand h parts → HasOther journal m (map piece_of parts) wanted found → ⊥
none_other opening h n journal m sound agrees told honest parts wanted found all other =
    let stands = subst (AllByRecursion (PieceStands h)) other.parts (pieces_stand h parts all) in
    let p = other.other in
    let here = (both_parts (PieceStands h) other.before (p ∷ other.after) stands).1.0 in
    other.differ (other.found_is ∙ true_bytes opening h n journal m sound agrees told honest p.id (record { at = p.at; length = p.length }) other.bytes here other.is_read ∙ sym other.wanted_is)

-- ---- of the repository

-- a whole that was read is what the repository has of its parts
pub join_of : {header : Header} {h : List Entry} {n upto : ℕ} {journal : JournalView} {m : Meaning} → Agrees header h n upto journal m → IsLegal header h → disk.IsSound m → {inside now : State} → inside ≡ now → inside.history ≡ h → inside.disk ≡ m → laid inside ≡ with_group journal.size journal.pending.bytes m.state.reads
    → (parts : List Part) (whole : Joined) → AreStanding now.history parts → IsReadWhole journal m parts whole → IsJoinOf now parts whole
join_of {h = h} {journal = journal} {m = m} agrees legal told {inside} {now} same history_is disk_is laid_is parts whole places read =
    let standing_now = subst (λ g. AreStanding g parts) (sym (ap (λ (s : State). s.history) same) ∙ history_is) places in
    let join = joined_as agrees legal told parts read.bytes (standing h parts standing_now) read.joined in
    subst (λ s. IsJoinOf s parts whole) same
    (record {
      parts_are = read.parts_are;
      pieces = join.pieces;
      joined = record {
        are = ap (λ g. are_pieces g (ids_of parts) join.pieces) history_is ∙ join.are;
        id_is = read.id_is ∙ ap sha256 join.bytes_are;
        length_is = read.length_is ∙ sym join.long ∙ ap (λ (b : List ℕ). length b) join.bytes_are;
      };
      holds = λ honest.
          (ap sha256 ((λ i. joined (laid_is i) (bodies (history_is i)) (ids_of parts)) ∙ sym (join.held_are (subst (λ (d : Meaning). IsTrue d.honest) disk_is honest)))
          ∙ sym read.id_is);
    })

-- what comes of one that wasn't
pub not_joined : (j : JournalView) (m : Meaning) (h new : List Entry) (who : ℕ) (parts : List Part) (fault : ChangeFault) → new ≡ h → is_disks fault ≡ false → TellsUnread j m parts fault → JoinFails h who (ids_of parts) fault new
not_joined j m h new who parts (Refused refusal) same other tells = (tells, same)
not_joined j m h new who parts DiskFault same other tells = absurd tells
not_joined j m h new who parts ReadFault same other tells = absurd (true≢false other)
not_joined j m h new who parts (BadBytes wanted found) same other tells = (other_among j m parts wanted found tells, tells.differ, same)

pub disk_failed : (h new : List Entry) (who : ℕ) (ids : List Id) (fault : ChangeFault) → new ≡ h ++ entry_by who (Fault false) ∷ [] → is_disks fault ≡ true → JoinFails h who ids fault new
disk_failed h new who ids (Refused refusal) grows is = absurd (true≢false (sym is))
disk_failed h new who ids DiskFault grows is = absurd (true≢false (sym is))
disk_failed h new who ids ReadFault grows is = grows
disk_failed h new who ids (BadBytes wanted found) grows is = absurd (true≢false (sym is))

pub unread_by : (fault : ChangeFault) → is_unread {T = Unit {0}} (Err fault) ≡ is_disks fault
unread_by (Refused refusal) = refl
unread_by DiskFault = refl
unread_by ReadFault = refl
unread_by (BadBytes wanted found) = refl

pub is_misread_by : (opening : Opening) (h : List Entry) (n : ℕ) {reach upto : ℕ} (journal : JournalView) (m : Meaning) → IsSound opening h n reach m → Agrees opening.header h n upto journal m → disk.IsSound m → IsTrue m.honest → (parts : List Part) → AllStand h parts → (fault : ChangeFault) → TellsUnread journal m parts fault → is_misread {T = Unit {0}} (Err fault) ≡ false
is_misread_by opening h n journal m sound agrees told honest parts all (Refused refusal) tells = refl
is_misread_by opening h n journal m sound agrees told honest parts all DiskFault tells = refl
is_misread_by opening h n journal m sound agrees told honest parts all ReadFault tells = refl
is_misread_by opening h n journal m sound agrees told honest parts all (BadBytes wanted found) tells = absurd (none_other opening h n journal m sound agrees told honest parts wanted found all tells)
