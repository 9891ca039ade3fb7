use Rattle.std.proofs.Common.{◌≡◌, ◌≢◌, length, map, string_bytes, sym, arith}
use Rattle.std.proofs.lemmas.List.{length-map}
use Rattle.program_words.proofs.SessionWords.{other_lines}
use Rattle.program_words.proofs.session_words.asks_session.Goals as goal

pub returns-else-words-eq4 : goal.returns-else-words-eq4
returns-else-words-eq4 c =
    let same : length (map string_bytes c.args.words.now) ≡ length c.args.words.now = simp length-map in
    sym (other_lines (map string_bytes c.args.words.now) (let n = c.if-words-eq3.false in let ne : length (map string_bytes c.args.words.now) ≢ 3 = omega arith in ne) (let n = c.if-words-eq4.false in let ne : length (map string_bytes c.args.words.now) ≢ 4 = omega arith in ne))
