-- The core's law, whole.
use Rattle.std.proofs.Common.{◌≡◌, ℕ, Bool, List, [], ◌∷◌, ◌++◌, refl, sym, ap, subst, ◌∙◌}
use Rattle.std.specs.Prelude.{Option, None, Some}
use Rattle.std.specs.Option.{option_and_then}
use Rattle.history_model.specs.History.{Body, Entry}
use Rattle.history_model.specs.Journal.{Header}
use Rattle.reply_model.specs.Legal.{IsLegal}
use Rattle.byte_fields.proofs.Lists.{weaker}
use Rattle.core_model.specs.Core.{State, Step, Crash, opened, after_step, after_steps}
use Rattle.core_model.proofs.Cores.{core_keeps, core_seals}
use Rattle.core_model.proofs.Tables.{table_is_right, table_is_apart}
use mathlib.Core.List.{IsPrefix}
use Rattle.landing_core.specs.Gained.{StandsAt, IsSealedAt, sealed_log}
use Rattle.landing_core.proofs.Asked.{after_then}
use Rattle.landing_core.specs.Whole.{LeavesAll, Crashed, Keeps}
use Rattle.landing_core.proofs.Reached.{log_is, stay, keep_numbers, crash_leaves, crash_reopens, waiting_stands, acknowledged_sealed}

-- ---- a list of steps, and then another

record Between (header : Header) (s : State) (before rest : List Step) (u : State) : Type 0 where
  at : State
  reached : after_steps header s before ≡ Some at
  later : after_steps header at rest ≡ Some u

between_by : (header : Header) (s u : State) (step : Step) (before rest : List Step) (o : Option State) → after_step header s step ≡ o → ((next : State) → after_steps header next (before ++ rest) ≡ Some u → Between header next before rest u) → option_and_then (λ next. after_steps header next (before ++ rest)) o ≡ Some u → Between header s (step ∷ before) rest u
between_by header s u step before rest None was inner e = absurd cc
between_by header s u step before rest (Some next) was inner e =
    let b = inner next e in
    record { at = b.at; reached = ap (option_and_then (λ next. after_steps header next before)) was ∙ b.reached; later = b.later }

between : (header : Header) (s u : State) (before rest : List Step) → after_steps header s (before ++ rest) ≡ Some u → Between header s before rest u
between header s u [] rest e = record { at = s; reached = refl; later = e }
between header s u (step ∷ before) rest e = between_by header s u step before rest (after_step header s step) refl (λ next. between header next u before rest) e

only_step : (header : Header) (t : State) (o : Option State) → option_and_then (λ next. after_steps header next []) o ≡ Some t → o ≡ Some t
only_step header t None e = absurd cc
only_step header t (Some next) e = e

-- ---- a crash

module _ (header : Header) (h : List Entry) (legal : IsLegal header h) where
  leaves_all : (before : List Step) (at after : State) (kept : Bool) → after_steps header (opened h) before ≡ Some at → after_step header at (Crash kept) ≡ Some after → after_steps header at (Crash kept ∷ []) ≡ Some after → LeavesAll at after
  leaves_all before at after kept reached crashes taken = record {
    log = crash_leaves header h before at after kept reached crashes;
    sealed = (crash_reopens header at after kept crashes).1;
    acknowledged = (crash_reopens header at after kept crashes).2;
    stand = weaker (λ (a : ℕ × Body). IsSealedAt at a.0 a.1) (λ (a : ℕ × Body). StandsAt after.history a.0 a.1) (λ a is. (keep_numbers header h before (Crash kept ∷ []) at after a.0 a.1 is reached taken).1) at.acknowledged
        (acknowledged_sealed at at.acknowledged (core_keeps header h before at legal reached).1 (core_seals header h before at legal reached));
    waiting = λ who number waits less. waiting_stands header h before (Crash kept ∷ []) at after who number reached waits less taken;
    unseated = (crash_reopens header at after kept crashes).0;
  }

  then_reached : (before : List Step) (at after : State) (kept : Bool) → after_steps header (opened h) before ≡ Some at → after_steps header at (Crash kept ∷ []) ≡ Some after → after_steps header (opened h) (before ++ Crash kept ∷ []) ≡ Some after
  then_reached before at after kept reached taken = after_then header (opened h) at before (Crash kept ∷ []) reached ∙ taken

  crashed : (before later : List Step) (kept : Bool) (s : State) → after_steps header (opened h) (before ++ Crash kept ∷ later) ≡ Some s → Crashed header h before kept s
  crashed before later kept s e =
      let first = between header (opened h) s before (Crash kept ∷ later) e in
      let then_it = between header first.at s (Crash kept ∷ []) later first.later in
      let crashes = only_step header then_it.at (after_step header first.at (Crash kept)) then_it.reached in
      record {
        at = first.at;
        after = then_it.at;
        reached = first.reached;
        crashes = crashes;
        log = log_is header h before first.at first.reached;
        leaves = leaves_all before first.at then_it.at kept first.reached crashes then_it.reached;
        stays = subst (λ bs. IsPrefix bs (sealed_log s)) (crash_reopens header first.at then_it.at kept crashes).1
            (stay header h (before ++ Crash kept ∷ []) later then_it.at s (then_reached before first.at then_it.at kept first.reached then_it.reached) then_it.later);
      }

  pub keeps : (steps : List Step) (s : State) → after_steps header (opened h) steps ≡ Some s → Keeps header h steps s
  keeps steps s e =
      let kept = core_keeps header h steps s legal e in
      record {
        legal = kept.0;
        log = log_is header h steps s e;
        acknowledged = kept.1;
        first = core_seals header h steps s legal e;
        once = kept.2;
        crashed = λ before later kept same. crashed before later kept s (ap (after_steps header (opened h)) (sym same) ∙ e);
        manifests = table_is_right header h steps s legal e;
        apart = table_is_apart header h steps s legal e;
      }

pub core_law : (header : Header) (h : List Entry) (steps : List Step) (s : State) → IsLegal header h → after_steps header (opened h) steps ≡ Some s → Keeps header h steps s
core_law header h steps s legal e = keeps header h legal steps s e
