use Rattle.std.proofs.Common.{◌≡◌, ◌∙◌, ap, sym, subst, List, [], map, Option, Some, None, option_map, Result}
use Rattle.std.specs.Prelude.{IfErr, IfOk, unwrap_or}
use Rattle.std.specs.Option.{ok_or}
use Rattle.program_words.specs.Said.{said_of}
use Rattle.program_words.specs.Words.{Request, Text, request_of}
use Rattle.program_words.specs.declared.command.Command.{Command}
use Rattle.program_words.specs.declared.fault.WordsFault.{WordsFault}
use Rattle.program_words.proofs.Ends.{helped_by, refused_by, taken_by, versioned_by}
use Rattle.program_words.proofs.words.read_words.Goals as goal

abbrev requested : Option (List Text) → Option Request
requested o = request_of (unwrap_or o [])

ok_says : (wanted : Option Request) (o : Option Command) (r : Result Command WordsFault) (e : WordsFault) → wanted ≡ option_map said_of o → r ≡ ok_or o e
    → IfOk r (λ c. wanted ≡ Some (said_of c))
ok_says wanted (Some x) r e says is = subst (λ t. IfOk t (λ c. wanted ≡ Some (said_of c))) (sym is) says
ok_says wanted None r e says is = subst (λ t. IfOk t (λ c. wanted ≡ Some (said_of c))) (sym is) tt

err_says : (wanted : Option Request) (o : Option Command) (r : Result Command WordsFault) (e k : WordsFault) → wanted ≡ option_map said_of o → r ≡ ok_or o e
    → IfErr r (λ f. f ≡ k → wanted ≡ None)
err_says wanted (Some x) r e k says is = subst (λ t. IfErr t (λ f. f ≡ k → wanted ≡ None)) (sym is) tt
err_says wanted None r e k says is = subst (λ t. IfErr t (λ f. f ≡ k → wanted ≡ None)) (sym is) (λ _. says)

pub returns-in-Some-clause-command : goal.returns-in-Some-clause-command
returns-in-Some-clause-command c =
    let is = taken_by _ _ c.in_ok-command_line.ensures c.in-Ok.matches c.in-Ok.ensures.kinds c.in-Ok.ensures.matches
    ∙ ap requested (sym c.get_strs.ensures ∙ ap (option_map (λ s. map (λ v. v.now) s.now)) c.in-Some.is) ∙ sym c.command_from.ensures.request in
    ok_says _ c.command_from.result c.ok_or.result _ is c.ok_or.ensures.value

pub returns-in-Some-clause-usage : goal.returns-in-Some-clause-usage
returns-in-Some-clause-usage c =
    let is = taken_by _ _ c.in_ok-command_line.ensures c.in-Ok.matches c.in-Ok.ensures.kinds c.in-Ok.ensures.matches
    ∙ ap requested (sym c.get_strs.ensures ∙ ap (option_map (λ s. map (λ v. v.now) s.now)) c.in-Some.is) ∙ sym c.command_from.ensures.request in
    err_says _ c.command_from.result c.ok_or.result _ _ is c.ok_or.ensures.value

pub returns-in-Ok-clause-usage : goal.returns-in-Ok-clause-usage
returns-in-Ok-clause-usage c = λ _.
    taken_by _ _ c.in_ok-command_line.ensures c.in-Ok.matches c.in-Ok.ensures.kinds c.in-Ok.ensures.matches
    ∙ ap requested (sym c.get_strs.ensures ∙ ap (option_map (λ s. map (λ v. v.now) s.now)) c.in-None.is)

pub returns-in-DisplayHelp-clause-command : goal.returns-in-DisplayHelp-clause-command
returns-in-DisplayHelp-clause-command c = helped_by _ _ c.in_ok-command_line.ensures c.in-Err.error c.in-Err.ensures.kinds (sym c.in-DisplayHelp.is ∙ c.kind.ensures)

pub returns-in-DisplayVersion-clause-command : goal.returns-in-DisplayVersion-clause-command
returns-in-DisplayVersion-clause-command c = versioned_by _ _ c.in_ok-command_line.ensures c.in-Err.error c.in-Err.ensures.kinds (sym c.in-DisplayVersion.is ∙ c.kind.ensures)

pub returns-clause-usage : goal.returns-clause-usage
returns-clause-usage c = λ _. refused_by _ _ c.in_ok-command_line.ensures c.in-Err.error c.in-Err.ensures.kinds (λ e. c.in_default.not-OutOfMemory (c.kind.ensures ∙ e))
    (λ e. c.in_default.not-DisplayHelp (c.kind.ensures ∙ e)) (λ e. c.in_default.not-DisplayVersion (c.kind.ensures ∙ e))
