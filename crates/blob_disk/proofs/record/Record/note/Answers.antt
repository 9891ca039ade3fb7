use Rattle.std.proofs.Common.{◌≡◌, [], ◌∷◌, ◌++◌, length, ap, ◌∙◌, arith, length-append}
use Rattle.blob_disk.specs.Log.{bytes_in, call_of, noted}
use Rattle.blob_disk.proofs.Logs.{bytes_in-push, noted-push}
use Rattle.blob_disk.proofs.record.Record.note.Goals as goal

pub invariant_of-self : goal.invariant_of-self
invariant_of-self c =
    let written : c.extend_from_slice.new.self.items ≡ c.self.inside.written.items ++ c.args.bytes.now = rw c.unwrap.ensures at c.extend_from_slice.ensures.items in
    let turns : c.push.new.self.items ≡ c.self.inside.turns.items ++ c.args.turn ∷ [] = rw c.unwrap-2.ensures at c.push.ensures.items in
    let len_written = length-append c.self.inside.written.items c.args.bytes.now in
    let len_turns = length-append c.self.inside.turns.items (c.args.turn ∷ []) in
    let more_turns = ap (λ xs. length xs) turns in
    let more_written = ap (λ xs. length xs) written in
    let left_turns = ap (λ log. log.turns_left) c.self.view_is in
    let left_bytes = ap (λ log. log.bytes_left) c.self.view_is in
    let all = ap (λ xs. bytes_in xs) turns ∙ bytes_in-push c.self.inside.turns.items c.args.turn in
    record {
      turns_fit = omega arith;
      bytes_fit = omega arith;
      room_for_turns = omega arith;
      room_for_bytes = omega arith;
      all_bytes = omega arith;
    }

pub returns : goal.returns
returns c =
    let written : c.extend_from_slice.new.self.items ≡ c.self.inside.written.items ++ c.args.bytes.now = rw c.unwrap.ensures at c.extend_from_slice.ensures.items in
    let turns : c.push.new.self.items ≡ c.self.inside.turns.items ++ c.args.turn ∷ [] = rw c.unwrap-2.ensures at c.push.ensures.items in
    noted-push _ _ _ _ c.args.turn c.args.bytes.now c.self.inside.most_turns c.self.inside.most_bytes c.self.invariant.all_bytes c.requires.all turns written
    ∙ ap (λ log. noted (call_of c.args.turn c.args.bytes.now) (length c.args.bytes.now) log) c.self.view_is
