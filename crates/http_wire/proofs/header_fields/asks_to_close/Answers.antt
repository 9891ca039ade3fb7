use Rattle.std.proofs.Common.{sym, ap, ◌∙◌, codes}
use Rattle.std.specs.Str.{str_eq_ignore_ascii_case}
use Rattle.httparse.specs.Spans.{header_bytes}
use Rattle.http_model.specs.Head.{names_close}
use Rattle.http_wire.proofs.HeaderLemmas.{any_value_at}
use Rattle.http_wire.proofs.header_fields.asks_to_close.Goals as goal

pub returns-then-names_close : goal.returns-then-names_close
returns-then-names_close c =
    let named = ap (λ text. str_eq_ignore_ascii_case text (codes "connection")) (sym c.of.ensures) ∙ sym c.is_word.ensures ∙ c.if-is_word.true in
    let close = ap names_close (sym c.of-then-is_word.ensures) ∙ sym c.names_close.ensures ∙ c.if-names_close.true in
    sym (any_value_at names_close (codes "connection") (header_bytes c.args.bytes.now) c.args.headers.now c.headers.header-index _ c.headers-test.true named close)
