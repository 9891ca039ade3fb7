-- What was taken out of the shelf, by whether the file was opened.
use Rattle.std.proofs.Common.{◌≡◌, ℕ, Bool, true, false, List, refl, ap, subst, sym, ◌∙◌}
use Rattle.std.specs.Prelude.{if◌then◌else◌, is_none, is_some, Option, None, Some}
use Rattle.std.specs.Option.{option_map}
use Rattle.ports.specs.Faults.{Counts}
use Rattle.ports.specs.Openers.{Shelf, left}
use Rattle.ports.proofs.Counting.{counts_then}
use Rattle.command_line.specs.Outside.{Outside, taken_from}
use Rattle.command_line.specs.Running.{OpensOnly}

pub calm_count : (a b : ℕ) (failed : Bool) → Counts a b failed → Counts a b false
calm_count a b failed counts = record { grows = counts.grows; most = counts.most; cause = λ fails. absurd (cc fails) }

opened_none : {D : Type 0} (disk : Option D) → is_some disk ≡ true → is_none disk ≡ false
opened_none None some = absurd (cc some)
opened_none (Some d) some = refl

pub opened_from : {D : Type 0} (file : List ℕ) (create : Bool) (disk : Option D) (old new : Option (Shelf D)) → is_some disk ≡ true → new ≡ option_map (left file create) old → new ≡ taken_from file create disk old
opened_from file create None old new some is = absurd (cc some)
opened_from file create (Some d) old new some is = is

pub refused_from : {D : Type 0} (file : List ℕ) (disk : Option D) (old new : Option (Shelf D)) → new ≡ (if is_none disk then old else option_map (left file false) old) → new ≡ taken_from file false disk old
refused_from file None old new is = is
refused_from file (Some d) old new is = is

pub opens_it : {D : Type 0} (file : List ℕ) (old new : Outside D) (disk : Option D) → is_some disk ≡ true → new.shelf ≡ option_map (left file false) old.shelf → Counts old.unopened new.unopened false → OpensOnly file false old new disk
opens_it {D} file old new disk some is counts = record {
  shelf = opened_from file false disk old.shelf new.shelf some is;
  unopened = subst (λ (b : Bool). Counts old.unopened new.unopened b) (sym (opened_none disk some)) counts;
}

pub opens_or_not : {D : Type 0} (file : List ℕ) (old new : Outside D) (came disk : Option D) → disk ≡ came → new.shelf ≡ (if is_none came then old.shelf else option_map (left file false) old.shelf) → Counts old.unopened new.unopened (is_none came) → OpensOnly file false old new disk
opens_or_not {D} file old new came disk same is counts = subst (λ (o : Option D). OpensOnly file false old new o) (sym same) (record {
  shelf = refused_from file came old.shelf new.shelf is;
  unopened = counts;
})

-- another file is opened behind the source
pub opens_both : {D : Type 0} (source target : List ℕ) (disk other : Option D) (old middle new : Option (Shelf D)) → is_some other ≡ true → middle ≡ option_map (left source false) old → new ≡ taken_from target true disk middle → new ≡ taken_from target true disk (taken_from source false other old)
opens_both {D} source target disk other old middle new some first second = second ∙ ap (λ (s : Option (Shelf D)). taken_from target true disk s) (opened_from source false other old middle some first)

pub counts_both : {D : Type 0} (other : Option D) (a b c : ℕ) (failed : Bool) → is_some other ≡ true → Counts a b false → Counts b c failed → Counts a c (is_none other)
counts_both {D} other a b c failed some first second =
    subst (λ (o : Bool). Counts a c o) (sym (opened_none other some)) (calm_count a c failed (counts_then a b c false failed first second))
