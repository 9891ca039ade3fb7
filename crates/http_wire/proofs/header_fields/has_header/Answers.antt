use Rattle.std.proofs.Common.{sym, ap, ◌∙◌}
use Rattle.std.specs.Str.{str_eq_ignore_ascii_case}
use Rattle.httparse.specs.Spans.{header_bytes}
use Rattle.http_model.specs.Head.{is_named}
use Rattle.http_wire.proofs.HeaderLemmas.{any_at}
use Rattle.http_wire.proofs.header_fields.has_header.Goals as goal

pub returns-then-is_word : goal.returns-then-is_word
returns-then-is_word c =
    let named = ap (λ text. str_eq_ignore_ascii_case text c.args.name.now) (sym c.of.ensures) ∙ sym c.is_word.ensures ∙ c.if-is_word.true in
    sym (any_at (is_named c.args.name.now) (header_bytes c.args.bytes.now) c.args.headers.now c.headers.header-index _ c.headers-test.true named)
