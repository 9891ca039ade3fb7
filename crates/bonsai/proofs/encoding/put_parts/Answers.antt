use Rattle.std.proofs.Common.{◌≤◌, ◌++◌, ◌∷◌, length, sym, subst, ap, ◌∙◌}
use Rattle.std.specs.Prelude.{flat_map}
use Rattle.std.specs.List.{concat}
use Rattle.std.specs.Int.{w16, w32, w64, to_be_bytes, cast_unsigned}
use Rattle.std.proofs.lemmas.Int.{to_z-of_z}
use Rattle.std.proofs.lemmas.List.{length-map}
use Rattle.byte_fields.specs.Bytes.{sized}
use Rattle.changeset_model.specs.Version.{version_byte}
use Rattle.changeset_model.specs.Changeset.{edit_bytes}
use Rattle.bonsai.specs.View.{edit_view, edits_view, parts_view}
use Rattle.bonsai.proofs.Rules.{short_parts, seconds_fit, offset_fits}
use Rattle.bonsai.proofs.Written.{spelled}
use Rattle.bonsai.proofs.encoding.put_parts.Goals as goal

pub put_message-requires : goal.put_message-requires
put_message-requires c = subst (λ t. length t ≤ 1_048_576) (sym c.as_str-2.ensures.value) (short_parts (parts_view c.args.parts) c.requires).message

pub put_edit_list-requires : goal.put_edit_list-requires
put_edit_list-requires c =
    subst (λ es. length es ≤ 4096) (sym c.as_slice.ensures.value) (subst (λ n. n ≤ 4096) (length-map c.args.parts.told.now.edits.items edit_view) (short_parts (parts_view c.args.parts) c.requires).changes)

pub returns : goal.returns
returns c =
    let f = parts_view c.args.parts in
    let out = c.args.out.now.items in
    let head = c.put_head.new.out.items in
    let author = c.put_author.new.out.items in
    let date = c.put_date.new.out.items in
    let message = c.put_message.new.out.items in
    let edits = c.put_edit_list.new.out.items in
    spelled f out head author date message edits (record {
      head_is = c.in_ok-put_head.ensures;
      author_is = c.in_ok-put_author.ensures ∙ ap (λ t. head ++ sized w16 t) c.as_str.ensures.value;
      date_is = c.in_ok-put_date.ensures ∙ (λ i. author ++ to_be_bytes w64 (cast_unsigned w64 (to_z-of_z w64 f.seconds (seconds_fit f c.requires) i)) ++ to_be_bytes w32 (cast_unsigned w32 (to_z-of_z w32 f.offset (offset_fits f c.requires) i)));
      message_is = c.in_ok-put_message.ensures ∙ ap (λ t. date ++ sized w32 t) c.as_str-2.ensures.value;
      edits_is = c.in_ok-put_edit_list.ensures ∙ ap (λ es. message ++ to_be_bytes w32 (length es) ++ flat_map (edit_bytes f.version) (edits_view es)) c.as_slice.ensures.value ∙ ap (λ n. message ++ to_be_bytes w32 n ++ flat_map (edit_bytes f.version) f.changes) (sym (length-map c.args.parts.told.now.edits.items edit_view));
    })
