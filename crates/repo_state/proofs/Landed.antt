-- The trees after a landing, by the reply to it.
use Rattle.std.proofs.Common.{ℕ, List, ◌≡◌, subst}
use Rattle.history_model.specs.History.{Entry}
use Rattle.history_model.specs.Journal.{Header}
use Rattle.reply_model.specs.Legal.{IsLegal}
use Rattle.reply_model.specs.Reply.{Ask, PutContent, PutWhole, PutChangeset, SetBookmark, LandDraft, SetPolicy, Granted, ContentPut, WholePut, ChangesetPut, BookmarkSet, Landed, PolicySet}
use Rattle.reply_model.specs.After.{Call, Asks, Joins, Looks, Derives, Grants, Replies}
use Rattle.repo_calls.proofs.Lawful.{alone}
use Rattle.repo_state.proofs.Landing.{replied_trees}
use Rattle.repo_state.specs.Trees.{LandsAsked, LandsAs}

lands_at : (header : Header) (h : List Entry) (who : ℕ) (ask : Ask) (granted : Granted) (new : List Entry) → IsLegal header new → Replies header h who (Asks ask) (Grants granted) new → LandsAsked ask granted h new
lands_at header h who (PutContent bytes) granted new legal r = tt
lands_at header h who (PutWhole body pieces) granted new legal r = tt
lands_at header h who (PutChangeset bytes) granted new legal r = tt
lands_at header h who (SetBookmark caller name from to) granted new legal r = tt
lands_at header h who (SetPolicy caller text) granted new legal r = tt
lands_at header h who (LandDraft caller name draft moment) (ContentPut x) new legal r = absurd (alone.fits header h who (Asks (LandDraft caller name draft moment)) (ContentPut x) new r)
lands_at header h who (LandDraft caller name draft moment) (WholePut x n) new legal r = absurd (alone.fits header h who (Asks (LandDraft caller name draft moment)) (WholePut x n) new r)
lands_at header h who (LandDraft caller name draft moment) (ChangesetPut x) new legal r = absurd (alone.fits header h who (Asks (LandDraft caller name draft moment)) (ChangesetPut x) new r)
lands_at header h who (LandDraft caller name draft moment) BookmarkSet new legal r = absurd (alone.fits header h who (Asks (LandDraft caller name draft moment)) BookmarkSet new r)
lands_at header h who (LandDraft caller name draft moment) (PolicySet number) new legal r = absurd (alone.fits header h who (Asks (LandDraft caller name draft moment)) (PolicySet number) new r)
lands_at header h who (LandDraft caller name draft moment) (Landed old ids) new legal r = replied_trees header h who caller name draft moment old ids new legal r

-- the header of the history after it is named otherwise
pub lands_as : (header now : Header) (h : List Entry) (who : ℕ) (call : Call) (granted : Granted) (new : List Entry) → now ≡ header → IsLegal now new → Replies header h who call (Grants granted) new → LandsAs call granted h new
lands_as header now h who (Asks ask) granted new same legal r = lands_at header h who ask granted new (subst (λ header. IsLegal header new) same legal) r
lands_as header now h who (Joins body) granted new same legal r = tt
lands_as header now h who (Looks question) granted new same legal r = tt
lands_as header now h who (Derives id) granted new same legal r = tt
