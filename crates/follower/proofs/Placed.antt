-- Where a reply stands.
use Rattle.std.proofs.Common.{◌≡◌, ℕ, ◌+◌, ◌-◌, List, ◌++◌, length, take, drop, sym, ap, ◌∙◌, subst, arith, length-append}
use Rattle.std.proofs.Math.Seq.{drop-append-add, drop-append_seam, take-append-add, take-append_seam}
use Rattle.httparse.specs.Grammar.{print_response}
use Rattle.reply_reader.specs.declared.front.Reply as declared
use Rattle.reply_reader.specs.Heads.{media_of}
use Rattle.reply_reader.specs.Replies.{IsReply}
use Rattle.reply_reader.specs.Fronts.{reply_of}
use Rattle.follower.specs.declared.placing.Placed.{Placed}
use Rattle.follower.specs.Receiving.{IsWhole, reply_placed}

pub whole_at : (limit : ℕ) (bytes : List ℕ) (reply : declared.Reply) (placed : Placed) → IsReply limit bytes (reply_of reply) reply.rest.now → placed.status ≡ reply.status → placed.media ≡ reply.media
    → placed.end ≡ length bytes - length reply.rest.now → placed.at ≡ placed.end - length reply.body.now → IsWhole limit bytes placed
whole_at limit bytes reply placed is es em ee ea =
    let p = print_response is.0 in
    let body = reply.body.now in
    let rest = reply.rest.now in
    let all : bytes ≡ p ++ (body ++ rest) = is.2.1 in
    let count : length bytes ≡ length p + (length body + length rest) = ap length all ∙ length-append p (body ++ rest) ∙ ap (λ n. length p + n) (length-append body rest) in
    let end : placed.end ≡ length p + length body = omega arith in
    let at : placed.at ≡ length p = omega arith in
    let front : take placed.end bytes ≡ p ++ body = ap (λ n. take n bytes) end ∙ ap (take (length p + length body)) all ∙ take-append-add p (body ++ rest) (length body) ∙ ap (λ xs. p ++ xs) (take-append_seam body rest) in
    let is_body : drop placed.at (take placed.end bytes) ≡ body = ap (λ n. drop n (take placed.end bytes)) at ∙ ap (drop (length p)) front ∙ drop-append_seam p body in
    let is_rest : drop placed.end bytes ≡ rest = ap (λ n. drop n bytes) end ∙ ap (drop (length p + length body)) all ∙ drop-append-add p (body ++ rest) (length body) ∙ drop-append_seam body rest in
    record {
      before = omega arith;
      within = omega arith;
      is_reply = subst (λ r. IsReply limit bytes (reply_placed bytes placed) r) (sym is_rest)
          (subst (λ q. IsReply limit bytes q rest) (sym (λ i. record { status = es i; media = media_of (em i); body = is_body i })) is);
    }
