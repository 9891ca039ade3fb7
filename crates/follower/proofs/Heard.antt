-- What is heard, from what was read so far.
use Rattle.std.proofs.Common.{◌≡◌, ℕ, List, [], ◌++◌, sym, ap, ◌∙◌, subst}
use Rattle.std.proofs.lemmas.List.{append_assoc}
use Rattle.std.specs.Prelude.{Option, None, Some, Err}
use Rattle.httparse.specs.Grammar.{print_response}
use Rattle.reply_reader.specs.Replies.{Reply, IsReply}
use Rattle.reply_reader.proofs.Found.{reply_unique}
use Rattle.follower.specs.declared.inbox.HearFault.{HearFault}
use Rattle.follower.specs.declared.inbox.HearFault.TheVariants.{LinkFault, BadReply, Memory}
use Rattle.follower.specs.declared.inbox.Received.{Received}
use Rattle.follower.specs.declared.wanted.Wanted.{Wanted}
use Rattle.follower.specs.Wanting.{IsUnanswered, limit_of, reply_wanted}
use Rattle.follower.specs.Receiving.{IsAhead, IsNowhere, IsFirst, Hears, Receives, reply_received}

-- a reply stands first whatever follows
pub more_follows : (limit : ℕ) (bytes more : List ℕ) (reply : Reply) (rest : List ℕ) → IsReply limit bytes reply rest → IsReply limit (bytes ++ more) reply (rest ++ more)
more_follows limit bytes more reply rest is =
    (is.0, is.1, (is.2.0, ap (λ xs. xs ++ more) is.2.1 ∙ append_assoc (print_response is.0) (reply.body ++ rest) more ∙ ap (λ xs. print_response is.0 ++ xs) (append_assoc reply.body rest more)))

-- of what is to come a part is held
pub nowhere_ahead : (limit : ℕ) (held : List ℕ) (rest : Option (List ℕ)) (bytes : List ℕ) → ((more : List ℕ) → IsNowhere limit (held ++ more)) → IsAhead held rest bytes → IsNowhere limit bytes
nowhere_ahead limit held None bytes nowhere ahead = absurd ahead
nowhere_ahead limit held (Some left) bytes nowhere ahead = subst (IsNowhere limit) (sym ahead) (nowhere left)

-- ---- after a question

pub hears_in_vain : (wanted : Wanted) (bytes held : List ℕ) (rest : Option (List ℕ)) (limit : ℕ) (fault : HearFault) → limit ≡ limit_of wanted → Receives limit bytes held rest (Err fault) → Hears wanted bytes held rest (Err fault)
hears_in_vain wanted bytes held rest limit LinkFault is receives = tt
hears_in_vain wanted bytes held rest limit BadReply is receives = λ body after answered. subst (λ n. IsNowhere n bytes) is receives (reply_wanted wanted body) after answered
hears_in_vain wanted bytes held rest limit Memory is receives = tt

pub unheard : (wanted : Wanted) (bytes held : List ℕ) (rest : Option (List ℕ)) (received : Received) → IsFirst (limit_of wanted) bytes (reply_received received) held rest
    → ¬ (reply_received received ≡ reply_wanted wanted received.body.items) → IsUnanswered wanted bytes
unheard wanted bytes held rest received first other = λ body after is.
    let same = (reply_unique (limit_of wanted) bytes [] (reply_received received) (reply_wanted wanted body) first.0 (after ++ []) first.2 (more_follows (limit_of wanted) bytes [] (reply_wanted wanted body) after is)).0 in
    other (same ∙ ap (reply_wanted wanted) (sym (ap (λ (r : Reply). r.body) same)))
