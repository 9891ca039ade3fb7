-- What is known after a landing.
use Rattle.std.proofs.Common.{◌≡◌, ℕ, Bool, true, false, cond, not, List, [], ◌∷◌, ◌++◌, map, refl, sym, ap, ◌∙◌}
use Rattle.std.proofs.lemmas.List.{append_assoc, append-nil}
use Rattle.changeset_model.specs.Changeset.{Changeset, id_of}
use Rattle.history_model.specs.History.{Entry, Known, Landing, Land, Change, with_id, each_id_once, is_known, known}
use Rattle.reply_model.specs.After.{entry_by}
use Rattle.reply_model.proofs.Parents.{brought, brought-push}
use Rattle.reply_model.proofs.Lines.{known-append}
use Rattle.changeset_store.proofs.KnownOnce.{is_known-once}
use Rattle.repo_machine.proofs.Growing.{known-change}
use Rattle.changeset_store.specs.Grown.{adding_one, adding}
use Rattle.changeset_store.proofs.Added.{adds_none, adds_it}

-- ---- what is known then

known_one : (h : List Entry) (who : ℕ) (c : Changeset) → adding_one (known h) c ≡ known (h ++ entry_by who (Change c) ∷ [])
known_one h who c = by (is_known (known h) (id_of c)) refl
  where
    by : (there : Bool) → is_known (known h) (id_of c) ≡ there → adding_one (known h) c ≡ known (h ++ entry_by who (Change c) ∷ [])
    by true e =
        adds_none (known h) c e
        ∙ sym (known-append h (entry_by who (Change c) ∷ []) ∙ ap (λ b. known h ++ cond (not b) (with_id c ∷ []) []) (sym (is_known-once (brought h) (id_of c)) ∙ e) ∙ append-nil (known h))
    by false e = adds_it (known h) c e ∙ sym (known-change h who c e)

abbrev landing_of : Landing → List Changeset → Landing
landing_of l cs = record { name = l.name; old = l.old; draft = l.draft; new = cs; moment = l.moment; caller = l.caller }

known_all : (h : List Entry) (who : ℕ) (l : Landing) (cs : List Changeset) → adding (known h) cs ≡ known (h ++ entry_by who (Land (landing_of l cs)) ∷ [])
known_all h who l [] = sym (known-append h (entry_by who (Land (landing_of l [])) ∷ []) ∙ append-nil (known h))
known_all h who l (c ∷ cs) =
    ap (λ ks. adding ks cs) (known_one h who c)
    ∙ known_all (h ++ entry_by who (Change c) ∷ []) who l cs
    ∙ ap each_id_once
    (brought-push (h ++ entry_by who (Change c) ∷ []) (entry_by who (Land (landing_of l cs)))
    ∙ ap (λ (b : List Known). b ++ map with_id cs) (brought-push h (entry_by who (Change c)))
    ∙ append_assoc (brought h) (with_id c ∷ []) (map with_id cs)
    ∙ sym (brought-push h (entry_by who (Land (landing_of l (c ∷ cs))))))

pub known-land : (h : List Entry) (who : ℕ) (l : Landing) → known (h ++ entry_by who (Land l) ∷ []) ≡ adding (known h) l.new
known-land h who l = sym (known_all h who l l.new)
