-- What is heard of a page, from a reply.
use Rattle.std.proofs.Common.{◌≡◌, ◌≢◌, ℕ, List, [], ◌++◌, refl, sym, ap, subst}
use Rattle.std.specs.Prelude.{Option, None, Some, Result, Ok, Err}
use Rattle.page_reader.specs.Pages.{IsPage, IsNoPage}
use Rattle.page_reader.specs.declared.page_fault.PageFault.{PageFault}
use Rattle.page_reader.specs.declared.page_fault.PageFault.TheVariants as faults
use Rattle.reply_model.specs.Log.{LogLine}
use Rattle.repo_calls.specs.Calls.{lines_seen}
use Rattle.repo_calls.specs.declared.log.LogPage.{LogPage}
use Rattle.reply_reader.specs.Replies.{Reply}
use Rattle.reply_reader.proofs.Found.{reply_unique}
use Rattle.follower.specs.declared.inbox.HearFault.{HearFault}
use Rattle.follower.specs.declared.inbox.HearFault.TheVariants.{LinkFault, BadReply, Memory}
use Rattle.follower.specs.declared.wanted.Wanted.{Wanted}
use Rattle.follower.specs.declared.wanted.Wanted.TheVariants.{Page}
use Rattle.follower.specs.Wanting.{limit_of, reply_wanted}
use Rattle.follower.specs.Receiving.{IsAhead, IsHeard, Hears}
use Rattle.follower.specs.Hearing.{IsNoPageReply, IsPageHeard, HearsPage, TellsPage, IsFetchHeard, HearsFetched, heard_instead}
use Rattle.follower.proofs.Heard.{more_follows}

page_heard : (from : ℕ) (bytes text held : List ℕ) (rest : Option (List ℕ)) (lines : List LogLine) (total : ℕ) → IsHeard (Page from) bytes text held rest → IsPage from text lines total → IsPageHeard from bytes lines total held rest
page_heard from bytes text held rest lines total heard page = (heard.0, heard.1, (text, heard.2, page))

no_page_heard : (from : ℕ) (bytes text held : List ℕ) (rest : Option (List ℕ)) → IsHeard (Page from) bytes text held rest → IsNoPage from text → IsNoPageReply from bytes
no_page_heard from bytes text held rest heard none = λ lines total after is.
    let wanted = Page from in
    let same = (reply_unique (limit_of wanted) bytes [] (reply_wanted wanted text) (reply_wanted wanted is.0) heard.0 (after ++ []) heard.2 (more_follows (limit_of wanted) bytes [] (reply_wanted wanted is.0) after is.1)).0 in
    none lines total (subst (λ t. IsPage from t lines total) (sym (ap (λ (r : Reply). r.body) same)) is.2)

pub no_page_told : (from : ℕ) (text : List ℕ) (fault : PageFault) → (fault ≢ faults.Memory → IsNoPage from text) → TellsPage from text (Err (heard_instead fault))
no_page_told from text faults.BadJson none = none (λ is. absurd cc)
no_page_told from text faults.BadPart none = none (λ is. absurd cc)
no_page_told from text faults.BadCount none = none (λ is. absurd cc)
no_page_told from text faults.OtherText none = none (λ is. absurd cc)
no_page_told from text faults.Memory none = tt

pub page_told : (from : ℕ) (bytes text held : List ℕ) (rest : Option (List ℕ)) (result : Result LogPage HearFault) → IsHeard (Page from) bytes text held rest → TellsPage from text result → HearsPage from bytes held rest result
page_told from bytes text held rest (Ok page) heard tells = page_heard from bytes text held rest (lines_seen page.entries.items) page.total heard tells
page_told from bytes text held rest (Err LinkFault) heard tells = absurd tells
page_told from bytes text held rest (Err BadReply) heard tells = no_page_heard from bytes text held rest heard tells
page_told from bytes text held rest (Err Memory) heard tells = tt

pub page_in_vain : (from : ℕ) (bytes held : List ℕ) (rest : Option (List ℕ)) (fault : HearFault) → Hears (Page from) bytes held rest (Err fault) → HearsPage from bytes held rest (Err fault)
page_in_vain from bytes held rest LinkFault hears = tt
page_in_vain from bytes held rest BadReply hears = λ lines total after is. hears is.0 after is.1
page_in_vain from bytes held rest Memory hears = tt

-- ---- what an entry needs

pub fetched_none : (wanted : Option Wanted) (bytes held : List ℕ) (rest : Option (List ℕ)) → wanted ≡ None → IsAhead held rest bytes → IsFetchHeard wanted bytes [] held rest
fetched_none wanted bytes held rest is ahead = subst (λ w. IsFetchHeard w bytes [] held rest) (sym is) (bytes, ahead, (refl, refl))

pub fetch_in_vain : (asked : Wanted) (bytes held : List ℕ) (rest : Option (List ℕ)) (fault : HearFault) → Hears asked bytes held rest (Err fault) → HearsFetched (Some asked) bytes held rest (Err fault)
fetch_in_vain asked bytes held rest LinkFault hears = tt
fetch_in_vain asked bytes held rest BadReply hears = hears
fetch_in_vain asked bytes held rest Memory hears = tt
