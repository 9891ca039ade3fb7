-- Parts, as they are cut.
--     run_first, run_on      a part of one entry, and with one more
--     HasCut r bytes count ps last left remaining      so many entries remain behind these parts, of which the last has this name
--     cut_first, cut_on, cut_all      before the first part, with one more, and at the end
use Rattle.std.proofs.Common.{◌≡◌, ℕ, ◌+◌, true, List, [], ◌∷◌, ◌++◌, length, refl, sym, ap, ◌∙◌, arith, append_assoc}
use Rattle.std.specs.Prelude.{Option, Some, None, Ok}
use Rattle.std.specs.declared.cmp.Ordering.{Ordering}
use Rattle.std.specs.declared.cmp.Ordering.TheVariants.{Less, Equal, Greater}
use Rattle.std.specs.Int.{w8}
use Rattle.std.specs.Ordering.{is_lt}
use Rattle.std.specs.Cmp.Lexicographic.{nat_list_cmp_total}
use Rattle.std.proofs.lemmas.List.{length-append, append-nil}
use Rattle.byte_fields.specs.Reading.{Reader, any, keeping}
use Rattle.byte_fields.specs.Places.{ReadsFront}
use Rattle.byte_fields.proofs.Places.{keeps_with_len}
use Rattle.manifest_model.specs.NodeReading.{is_after_name}
use Rattle.node_fields.specs.Lookup.{sized}
use Rattle.node_parts.specs.Parts.{AllBelow, AreParts, Parted, ReadsOn, Runs, joined}
use Rattle.node_parts.specs.Cutting.{IsNext, IsRunOn}
use Rattle.node_parts.proofs.Runs.{Bytes, by_name, below_append, joined_append, one_run, parted_more, run_then}

-- ---- names

less_of : (o : Ordering) → is_lt o ≡ true → o ≡ Less
less_of Less h = refl
less_of Equal h = absurd (cc)
less_of Greater h = absurd (cc)

-- what is greater than a name is greater than those before it
after_both : (last : Option Bytes) (name n : Bytes) → is_after_name last name ≡ true → by_name name n ≡ Less → is_after_name last n ≡ true
after_both None name n a less = refl
after_both (Some before) name n a less = ap is_lt (nat_list_cmp_total.trans before name n (less_of (by_name before name) a) less)

-- ---- one entry

sized_reads : ReadsOn sized
sized_reads = (keeps_with_len 0 w8 any (keeping any)).reads

pub record IsOne {X : Type 0} (r : Reader X) (bytes name rest : Bytes) : Type 0 where
  pub front : Bytes
  pub it : X
  pub behind : Bytes
  pub parts : bytes ≡ front ++ rest
  pub read : (other : Bytes) → sized (front ++ other) ≡ Ok (name, behind ++ other)
  pub runs : Runs r front ((name, it) ∷ [])

module _ {X : Type 0} (r : Reader X) (on : ReadsOn r) where
  one_of : (bytes : Bytes) (last : Option Bytes) (name rest : Bytes) → IsNext r bytes last name rest → IsOne r bytes name rest
  one_of bytes last name rest next = by (sized_reads bytes name next.behind next.named) (on next.behind next.it rest next.gave)
    where
      by : ReadsFront sized bytes name next.behind → ReadsFront r next.behind next.it rest → IsOne r bytes name rest
      by a b = record {
        front = a.front ++ b.front;
        it = next.it;
        behind = b.front;
        parts = a.parts ∙ ap (λ t. a.front ++ t) b.parts ∙ sym (append_assoc a.front b.front rest);
        read = λ other. ap sized (append_assoc a.front b.front other) ∙ a.stands (b.front ++ other);
        runs = one_run r a.front b.front name next.it a.stands b.stands;
      }

  -- ---- a part

  pub run_first : (bytes : Bytes) (before : Option Bytes) (name rest : Bytes) → IsNext r bytes before name rest → (first : Bytes) × IsRunOn r bytes before first 1 name rest
  run_first bytes before name rest next = by (one_of bytes before name rest next)
    where
      by : IsOne r bytes name rest → (first : Bytes) × IsRunOn r bytes before first 1 name rest
      by one = (
        one.front,
        record {
          es = (name, one.it) ∷ [];
          parts = one.parts;
          many = refl;
          run = record { first = name; it = one.it; more = []; behind = one.behind; opens = refl; read = one.read; runs = one.runs };
          after = next.after;
          below = λ n less. (less, tt);
          beyond = λ n less. after_both before name n next.after less;
        },
      )

  pub run_on : (bytes : Bytes) (before : Option Bytes) (part : Bytes) (k : ℕ) (last left name rest : Bytes) → IsRunOn r bytes before part k last left → IsNext r left (Some last) name rest → (more : Bytes) × IsRunOn r bytes before more (k + 1) name rest
  run_on bytes before part k last left name rest so next = by (one_of left (Some last) name rest next)
    where
      rises : (n : Bytes) → by_name name n ≡ Less → by_name last n ≡ Less
      rises n less = nat_list_cmp_total.trans last name n (less_of (by_name last name) next.after) less

      by : IsOne r left name rest → (more : Bytes) × IsRunOn r bytes before more (k + 1) name rest
      by one = (
        part ++ one.front,
        record {
          es = so.es ++ (name, one.it) ∷ [];
          parts = so.parts ∙ ap (λ t. part ++ t) one.parts ∙ sym (append_assoc part one.front rest);
          many = length-append so.es ((name, one.it) ∷ []) ∙ ap (λ m. m + 1) so.many;
          run = record {
            first = so.run.first;
            it = so.run.it;
            more = so.run.more ++ (name, one.it) ∷ [];
            behind = so.run.behind ++ one.front;
            opens = ap (λ es. es ++ (name, one.it) ∷ []) so.run.opens;
            read = λ other. ap sized (append_assoc part one.front other) ∙ so.run.read (one.front ++ other) ∙ ap (λ t. Ok (so.run.first, t)) (sym (append_assoc so.run.behind one.front other));
            runs = run_then r part one.front so.es ((name, one.it) ∷ []) so.run.runs one.runs;
          };
          after = so.after;
          below = λ n less. below_append so.es ((name, one.it) ∷ []) n (so.below n (rises n less)) (less, tt);
          beyond = λ n less. so.beyond n (rises n less);
        },
      )

-- ---- all parts

pub record HasCut {X : Type 0} (r : Reader X) (bytes : Bytes) (count : ℕ) (ps : List Bytes) (last : Option Bytes) (left : Bytes) (remaining : ℕ) : Type 0 where
  pub all : List (Bytes × X)
  pub split : bytes ≡ joined ps ++ left
  pub many : length all + remaining ≡ count
  pub parted : Parted r [] ps all
  pub below : (n : Bytes) → is_after_name last n ≡ true → AllBelow all n

module _ {X : Type 0} (r : Reader X) (bytes : Bytes) (count : ℕ) where
  pub cut_first : HasCut r bytes count [] None bytes count
  cut_first = record { all = []; split = refl; many = omega arith; parted = refl; below = λ n after. tt }

  pub cut_on : (ps : List Bytes) (last : Option Bytes) (left : Bytes) (remaining : ℕ) → HasCut r bytes count ps last left remaining
      → (part : Bytes) (k : ℕ) (name rest : Bytes) → IsRunOn r left last part k name rest → (fewer : ℕ) → fewer + k ≡ remaining
      → HasCut r bytes count (ps ++ part ∷ []) (Some name) rest fewer
  cut_on ps last left remaining so part k name rest run fewer less = record {
    all = so.all ++ run.es;
    split = so.split ∙ ap (λ t. joined ps ++ t) run.parts ∙ sym (append_assoc (joined ps) part rest) ∙ ap (λ t. t ++ rest) (sym (joined_append ps (part ∷ []) ∙ ap (λ t. joined ps ++ t) (append-nil part)));
    many = (let both = length-append so.all run.es in let one = run.many in let had = so.many in omega arith);
    parted = parted_more r [] ps so.all part run.es so.parted run.run (so.below run.run.first run.after);
    below = λ n after. (let past = less_of (by_name name n) after in below_append so.all run.es n (so.below n (run.beyond n past)) (run.below n past));
  }

  pub cut_all : (ps : List Bytes) (last : Option Bytes) → HasCut r bytes count ps last [] 0 → AreParts r count ps × (joined ps ≡ bytes)
  cut_all ps last so = (record { all = so.all; many = (let had = so.many in omega arith); parted = so.parted }, sym (so.split ∙ append-nil (joined ps)))
