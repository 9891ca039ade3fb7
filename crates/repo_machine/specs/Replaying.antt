-- Changes of which no record is made.
--     Decides header h ask granted body known      the change is granted so at h, and makes this entry, unless what it brings is known
--     IsReplayed header h who ask made after      the change is granted, and the entry that it makes is entered, if it makes one, which is told
use Rattle.std.specs.Prelude.{◌≡◌, ℕ, Bool, true, false, cond, List, ◌++◌, Ok, None, is_some}
use Rattle.history_model.specs.History.{Body, Entry}
use Rattle.history_model.specs.Journal.{Header}
use Rattle.reply_model.specs.After.{entries_of}
use Rattle.reply_model.specs.Reply.{Ask, is_ask, Granted, Judged, judge, entered, unchanged}
use Rattle.repo_machine.specs.Entering.{IsNew}

pub record Decides (header : Header) (h : List Entry) (ask : Ask) (granted : Granted) (body : Body) (known : Bool) : Type 0 where
  pub judged : judge header h ask ≡ cond known (unchanged granted) (entered header h granted body)
  pub new : known ≡ false → IsNew h body

pub record IsReplayed (header : Header) (h : List Entry) (who : ℕ) (ask : Ask) (made : Bool) (after : List Entry) : Type 0 where
  pub asks : is_ask h ask ≡ true
  pub judged : Judged
  pub judged_is : judge header h ask ≡ Ok judged
  pub told : made ≡ is_some judged.made
  pub grows : after ≡ h ++ entries_of who (record { entry = judged.made; fault = None })
