use Rattle.std.proofs.Common.{◌≡◌, ℕ, List, refl, ap, subst, sym, ◌∙◌}
use Rattle.reply_model.specs.Reply.{WholePut}
use Rattle.repo_calls.specs.declared.ask.Ask.{Ask}
use Rattle.repo_calls.specs.declared.ask.Ask.TheVariants as asks
use Rattle.repo_calls.specs.declared.ask.Granted.{Granted}
use Rattle.repo_calls.specs.Calls.{call_seen, granted_seen}
use Rattle.repo_calls.specs.Replying.{Fits}
use Rattle.session_model.specs.declared.status.Status.TheVariants.{Fine}
use Rattle.session_model.specs.Responses.{text_of}
use Rattle.session_model.specs.Bodies.{json, bookmark_body, whole_body}
use Rattle.session_model.specs.Asking.{granted}
use Rattle.http_front.proofs.changes.put_granted.Goals as goal

pub returns-in-SetBookmark : goal.returns-in-SetBookmark
returns-in-SetBookmark c =
    c.put_body-in-Bookmark.ensures
    ∙ ap (λ name. text_of (json Fine (bookmark_body c.in-SetBookmark.to name)) c.args.form.close c.args.form.head_only) c.as_str.ensures.text
    ∙ (λ i. text_of (granted (call_seen (sym c.in-SetBookmark.is i)) (granted_seen (sym c.in-Bookmark.is i))) c.args.form.close c.args.form.head_only)

-- no other change is granted a whole
whole_granted : (ask : Ask) (x : List ℕ) (n : ℕ) → Fits (call_seen ask) (WholePut x n) → granted (call_seen ask) (WholePut x n) ≡ json Fine (whole_body x n)
whole_granted (asks.PutContent bytes) x n fits = absurd fits
whole_granted (asks.PutWhole body) x n fits = refl
whole_granted (asks.PutChangeset bytes) x n fits = absurd fits
whole_granted (asks.SetBookmark caller name from to) x n fits = absurd fits
whole_granted (asks.Land caller name draft moment) x n fits = absurd fits
whole_granted (asks.SetPolicy caller text) x n fits = absurd fits

pub returns-in-Whole : goal.returns-in-Whole
returns-in-Whole c =
    let ask = c.args.ask.now in
    let fits = subst (λ (g : Granted). Fits (call_seen ask) (granted_seen g)) c.in-Whole.is c.requires in
    c.put_body-in-Whole.ensures
    ∙ ap (λ r. text_of r c.args.form.close c.args.form.head_only) (sym (whole_granted ask c.in-Whole.id c.in-Whole.size fits))
    ∙ ap (λ (g : Granted). text_of (granted (call_seen ask) (granted_seen g)) c.args.form.close c.args.form.head_only) (sym c.in-Whole.is)
