use Rattle.std.proofs.Common.{[], ◌∷◌, ◌++◌, ap, ◌∙◌}
use Rattle.manifest_model.specs.Fsnode.{summary_bytes}
use Rattle.fsnode.specs.Parts.{summary_seen}
use Rattle.node_fields.proofs.Written.{three_parts}
use Rattle.fsnode.proofs.writing.put_entry.Goals as goal

pub returns-in_ok-put_summary-in-Directory : goal.returns-in_ok-put_summary-in-Directory
returns-in_ok-put_summary-in-Directory c =
    let marked = c.push-in-Directory.new.self.items in
    let with_id = c.extend_from_slice-in-Directory.new.self.items in
    rw c.in-Directory.is (three_parts c.args.out.now.items marked with_id c.put_summary.new.out.items (1 ∷ []) c.in-Directory.id (summary_bytes (summary_seen c.in-Directory.summary))
    c.in_ok-push-in-Directory.ensures.items (c.in_ok-extend_from_slice-in-Directory.ensures.items ∙ ap (λ id. marked ++ id) c.as_bytes-in-Directory.ensures.value) c.in_ok-put_summary-in-Directory.ensures)
