-- A legal history fits into its file.
use Rattle.std.proofs.Common.{◌≡◌, ◌+◌, ◌≤◌, Bool, true, false, cond, List, [], ◌∷◌, ◌++◌, refl, sym, subst, arith}
use Rattle.std.proofs.lemmas.List.{append_assoc, append-nil}
use Rattle.history_model.specs.History.{Body, Entry, is_stored}
use Rattle.history_model.specs.Journal.{Header, record_len, size}
use Rattle.reply_model.specs.Legal.{MayFollow, GoesOn, IsLegal}
use Rattle.reply_model.proofs.Histories.{size-push}
use Rattle.opening_laws.proofs.Made.{is_made}

next_fits : (header : Header) (h : List Entry) (body : Body) → size h ≤ header.capacity → MayFollow header h body → (s : Bool) → is_stored body ≡ s → size h + cond s (record_len body) 0 ≤ header.capacity
next_fits header h body fits m true s = let one = (is_made header h body s m).fits in omega arith
next_fits header h body fits m false s = omega arith

fits_on_from : (header : Header) (before later : List Entry) → size before ≤ header.capacity → GoesOn header before later → size (before ++ later) ≤ header.capacity
fits_on_from header before [] fits goes = subst (λ h. size h ≤ header.capacity) (sym (append-nil before)) fits
fits_on_from header before (e ∷ later) fits goes =
    subst (λ h. size h ≤ header.capacity) (append_assoc before (e ∷ []) later)
    (fits_on_from header (before ++ e ∷ []) later (subst (λ n. n ≤ header.capacity) (sym (size-push before e)) (next_fits header before e.body fits goes.0 (is_stored e.body) refl)) goes.1)

pub history_fits : (header : Header) (h : List Entry) → 17 ≤ header.capacity → IsLegal header h → size h ≤ header.capacity
history_fits header h room legal = fits_on_from header [] h room legal
