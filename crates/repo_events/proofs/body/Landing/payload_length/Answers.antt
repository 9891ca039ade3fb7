use Rattle.std.proofs.Common.{length, ap, ◌∙◌, arith}
use Rattle.repo_events.proofs.Lengths.{length_by_parts}
use Rattle.repo_events.specs.Entries.{caller_bytes, landing_of}
use Rattle.repo_events.proofs.body.Landing.payload_length.Goals as goal

pub returns-clause-value : goal.returns-clause-value
returns-clause-value c =
    let parts = length_by_parts (landing_of c.args.self.now) _ _ _ _ c.moment_length.result c.caller_length.result c.as_str-name.ensures.text (c.as_slice.ensures ∙ c.as_bytes.ensures.value) (c.as_slice-2.ensures ∙ c.as_bytes-2.ensures.value) c.as_slice-3.ensures.value c.moment_length.ensures.value (c.caller_length.ensures.value ∙ ap (λ who. length (caller_bytes who)) c.as_ref.ensures.value) in
    omega arith
