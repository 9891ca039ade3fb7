-- What is so as a repository is opened: all is sealed.
use Rattle.std.proofs.Common.{◌≡◌, ℕ, ◌≤◌, ◌<◌, true, List, length, refl, sym, ap, subst, ◌∙◌, arith, inl}
use Rattle.std.specs.Prelude.{nat_le, Option, None, Some}
use Rattle.std.proofs.lemmas.List.{length-map}
use Rattle.std.proofs.lemmas.Bool.{and_parts, leb-true}
use Rattle.std.specs.List.{AllByRecursion}
use Rattle.disk_model.specs.Meaning.{Meaning}
use Rattle.disk_model.specs.Meaning as disk
use Rattle.history_model.specs.History.{Entry, bodies, stored, unnumbered, is_down}
use Rattle.history_model.specs.Journal.{Header, HoldsParts, Stands, is_header, size}
use Rattle.reply_model.specs.Legal.{IsLegal}
use Rattle.reply_model.proofs.Stored.{is_down-stored}
use Rattle.opening_laws.proofs.Sizes.{history_fits}
use Rattle.repo_journal.specs.Groups.{with_group}
use Rattle.repo_journal.specs.Opened.{IsOpened}
use Rattle.repo_journal.specs.View.{JournalView}
use Rattle.repo_journal.specs.declared.left.Left as lefts
use Rattle.blob_disk.proofs.Clients.{kept_none}
use Rattle.repo_state.specs.Groups.{left_of, reach_of}
use Rattle.repo_state.specs.Images.{sealed_part, IsPending}
use Rattle.repo_state.specs.State.{IsSound, LeavesAfter, Agrees, opening_of}
use Rattle.repo_state.proofs.Chains.{leaves_nothing}
use Rattle.repo_state.proofs.GroupParts.{nothing_pending, part_whole}
use Rattle.repo_state.proofs.Laid.{holds_opened}
use Rattle.repo_state.proofs.LeftOver.{left_none}
use Rattle.repo_state.proofs.Stands.{no_fault-stored, no_faults, size-same, stands-same}

pub stored_count : (h : List Entry) → length (stored h) ≡ length (bodies h)
stored_count h = length-map (bodies h) unnumbered

whole_stands : (header : Header) (h : List Entry) (image : List ℕ) → Stands header image h → Stands header image (sealed_part (length (bodies h)) h)
whole_stands header h image stands = stands-same header image h (sealed_part (length (bodies h)) h) (sym (part_whole h)) stands

sound_all : (header : Header) (h : List Entry) (journal : JournalView) (m : Meaning) → IsOpened header h journal m → IsLegal header h → h ≡ stored h → IsSound (opening_of header journal.opening m) h (length (bodies h)) (length (bodies h)) m
sound_all header h journal m opened legal alone =
    let none = no_fault-stored h alone in
    let counted = opened.counted in
    let count = no_faults h none in
    let long : length h ≡ length (bodies h) = ap (λ (g : List Entry). length g) alone ∙ stored_count h in
    let same = opened.length_is in
    let begins : journal.opening.length ≤ length (bodies h) = omega arith in
    record {
      legal = legal;
      begins = begins;
      reaches = omega arith;
      within = omega arith;
      calm = λ quiet. none;
      honest = refl;
      quiet = refl;
      begun = opened.begun;
      kept = kept_none m;
      covers = inl (omega arith);
      most = opened.most;
      leaves = λ honest. record {
        now = λ image i. inl (whole_stands header h image (opened.now honest image i));
        since = λ image l. inl (length (bodies h), begins, omega arith, whole_stands header h image (opened.since honest image l));
        only = leaves_nothing m;
      };
    }

no_left : (left : Option lefts.Left) (l : lefts.Left) → left ≡ None → left ≡ Some l → ⊥
no_left left l none some = let both = sym none ∙ some in absurd cc

room_for : (header : Header) → is_header header ≡ true → 17 ≤ header.capacity
room_for header limits =
    let least = leb-true 4_096 header.capacity (and_parts (nat_le 4_096 header.capacity) (nat_le header.capacity 34_359_738_368) limits).0 in
    omega (arith, least)

agrees_all : (header : Header) (h : List Entry) (journal : JournalView) (m : Meaning) → disk.IsSound m → is_header header ≡ true → IsLegal header h → IsOpened header h journal m → h ≡ stored h → Agrees header h (length (bodies h)) (length (bodies h)) journal m
agrees_all header h journal m told limits legal opened alone = record {
  capacity_is = opened.capacity_is;
  fits = history_fits header h (room_for header limits) legal;
  size_is = opened.size_is ∙ sym (size-same (sealed_part (length (bodies h)) h) h (part_whole h));
  left = subst (λ (o : Option lefts.Left). LeavesAfter header h (length (bodies h)) journal.pending.bytes (left_of (length (bodies h)) o) m) (sym opened.whole)
      (left_none header h (length (bodies h)) journal.pending.bytes m (ap (λ g. is_down g) alone ∙ is_down-stored h) (λ honest image i. whole_stands header h image (opened.now honest image i)));
  long = opened.long;
  waits = subst (λ b. IsPending h (length (bodies h)) b) (sym opened.settled) (nothing_pending h);
  group = λ l e. absurd (no_left journal.left l opened.whole e);
  going = λ l e. absurd (no_left journal.left l opened.whole e);
  holds = λ honest. (
      let long : size h ≤ length m.state.reads = subst (λ k. k ≤ length m.state.reads) opened.size_is (opened.long m.state.reads (told.reads honest)) in
      let all = holds_opened h m.state.reads long (opened.now honest m.state.reads (told.image honest)).4 in
      subst (λ f. AllByRecursion (HoldsParts f (bodies h)) (bodies h)) (λ i. with_group (sym opened.size_is i) (sym opened.settled i) m.state.reads) all);
  stable = λ honest none. opened.stable honest;
}

pub sound_opened : (header : Header) (h : List Entry) (n : ℕ) (journal : JournalView) (m : Meaning) → n ≡ length (stored h) → IsOpened header h journal m → IsLegal header h → h ≡ stored h → IsSound (opening_of header journal.opening m) h n (reach_of n (left_of n journal.left)) m
sound_opened header h n journal m is opened legal alone =
    subst (λ (o : Option lefts.Left). IsSound (opening_of header journal.opening m) h n (reach_of n (left_of n o)) m) (sym opened.whole)
    (subst (λ k. IsSound (opening_of header journal.opening m) h k k m) (sym (is ∙ stored_count h)) (sound_all header h journal m opened legal alone))

pub agrees_opened : (header : Header) (h : List Entry) (n : ℕ) (journal : JournalView) (m : Meaning) → n ≡ length (stored h) → disk.IsSound m → is_header header ≡ true → IsLegal header h → IsOpened header h journal m → h ≡ stored h → Agrees header h n n journal m
agrees_opened header h n journal m is told limits legal opened alone = subst (λ k. Agrees header h k k journal m) (sym (is ∙ stored_count h)) (agrees_all header h journal m told limits legal opened alone)

pub all_are_sealed : (h : List Entry) (p : ℕ) → p ≡ length (stored h) → p < length (bodies h) → ⊥
all_are_sealed h p count less = let len = stored_count h in omega arith
