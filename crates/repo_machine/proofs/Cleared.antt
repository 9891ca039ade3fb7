-- Numbers of seats change nothing of what is told of a history.
use Rattle.std.proofs.Common.{◌≡◌, ℕ, ◌+◌, cond, List, [], ◌∷◌, ◌++◌, map, refl, sym, ap, subst, ◌∙◌}
use Rattle.std.specs.Prelude.{◌||◌, ◌&&◌, flat_map, sum_by, Option}
use Rattle.std.specs.Option.{option_or, option_flatten}
use Rattle.std.proofs.lemmas.List.{map-append}
use Rattle.byte_fields.specs.Bytes.{Id, first_some, last_some}
use Rattle.history_model.specs.History.{Body, Content, Whole, Change, Book, Land, Policy, Fault, Entry, with_id, each_id_once, is_stored, is_breaking, unnumbered, bodies, stored, is_down, changesets_in, known, length_in, content_len, policy_text, policy_of}
use Rattle.history_model.specs.Bookmark.{moved_to, head}
use Rattle.history_model.specs.Journal.{Header, record_len, size}
use Rattle.reply_model.specs.Reply.{Ask, is_ask, Judged, judge}
use Rattle.reply_model.specs.Legal.{MayFollow, GoesOn, IsLegal}
use Rattle.reply_model.proofs.Stored.{judge-stored, is_ask-stored, granted_is_up}
use Rattle.std.specs.Prelude.{Ok}
use Rattle.repo_machine.specs.Seats.{cleared}

-- ---- what is told by the bodies alone

flat_map-cleared : {X : Type 0} (f : Body → List X) (h : List Entry) → flat_map (λ e. f e.body) (cleared h) ≡ flat_map (λ e. f e.body) h
flat_map-cleared f [] = refl
flat_map-cleared f (e ∷ h) = ap (λ xs. f e.body ++ xs) (flat_map-cleared f h)

first_some-cleared : {X : Type 0} (f : Body → Option X) (h : List Entry) → first_some (λ e. f e.body) (cleared h) ≡ first_some (λ e. f e.body) h
first_some-cleared f [] = refl
first_some-cleared f (e ∷ h) = ap (λ o. option_or (f e.body) o) (first_some-cleared f h)

last_some-cleared : {X : Type 0} (f : Body → Option X) (h : List Entry) → last_some (λ e. f e.body) (cleared h) ≡ last_some (λ e. f e.body) h
last_some-cleared f [] = refl
last_some-cleared f (e ∷ h) = ap (λ o. option_or o (f e.body)) (last_some-cleared f h)

pub bodies-cleared : (h : List Entry) → bodies (cleared h) ≡ bodies h
bodies-cleared [] = refl
bodies-cleared (e ∷ h) = ap (λ bs. cond (is_stored e.body) (e.body ∷ bs) bs) (bodies-cleared h)

pub stored-cleared : (h : List Entry) → stored (cleared h) ≡ stored h
stored-cleared h = ap (map unnumbered) (bodies-cleared h)

pub is_down-cleared : (h : List Entry) → is_down (cleared h) ≡ is_down h
is_down-cleared [] = refl
is_down-cleared (e ∷ h) = ap (λ b. is_breaking e.body || b) (is_down-cleared h)

pub known-cleared : (h : List Entry) → known (cleared h) ≡ known h
known-cleared h = ap (λ cs. each_id_once (map with_id cs)) (flat_map-cleared changesets_in h)

pub content_len-cleared : (h : List Entry) (x : Id) → content_len (cleared h) x ≡ content_len h x
content_len-cleared h x = first_some-cleared (length_in x) h

pub head-cleared : (h : List Entry) (name : List ℕ) → head (cleared h) name ≡ head h name
head-cleared h name = ap option_flatten (last_some-cleared (moved_to name) h)

pub policy_of-cleared : (h : List Entry) → policy_of (cleared h) ≡ policy_of h
policy_of-cleared h = last_some-cleared policy_text h

pub size-cleared : (h : List Entry) → size (cleared h) ≡ size h
size-cleared h = ap (λ bs. 17 + sum_by record_len bs) (bodies-cleared h)

-- ---- legality

judge-cleared : (header : Header) (h : List Entry) (ask : Ask) (judged : Judged) → judge header h ask ≡ Ok judged → judge header (cleared h) ask ≡ Ok judged
judge-cleared header h ask judged e =
    let up = granted_is_up header h ask judged e in
    sym (judge-stored header (cleared h) ask (is_down-cleared h ∙ up)) ∙ ap (λ g. judge header g ask) (stored-cleared h) ∙ judge-stored header h ask up ∙ e

is_ask-cleared : (h : List Entry) (ask : Ask) → is_ask (cleared h) ask ≡ is_ask h ask
is_ask-cleared h ask = sym (is_ask-stored (cleared h) ask) ∙ ap (λ g. is_ask g ask) (stored-cleared h) ∙ is_ask-stored h ask

pub follows_cleared : (header : Header) (h : List Entry) (body : Body) → MayFollow header h body → MayFollow header (cleared h) body
follows_cleared header h (Fault breaking) m = ap (λ b. breaking && b) (is_down-cleared h) ∙ m
follows_cleared header h (Content x n) m = (m.0, m.1, is_ask-cleared h m.0 ∙ m.2, judge-cleared header h m.0 _ m.3)
follows_cleared header h (Whole x n parts) m = (m.0, m.1, is_ask-cleared h m.0 ∙ m.2, judge-cleared header h m.0 _ m.3)
follows_cleared header h (Change c) m = (m.0, m.1, is_ask-cleared h m.0 ∙ m.2, judge-cleared header h m.0 _ m.3)
follows_cleared header h (Book move) m = (m.0, m.1, is_ask-cleared h m.0 ∙ m.2, judge-cleared header h m.0 _ m.3)
follows_cleared header h (Land landing) m = (m.0, m.1, is_ask-cleared h m.0 ∙ m.2, judge-cleared header h m.0 _ m.3)
follows_cleared header h (Policy caller text) m = (m.0, m.1, is_ask-cleared h m.0 ∙ m.2, judge-cleared header h m.0 _ m.3)

goes_cleared : (header : Header) (before h : List Entry) → GoesOn header before h → GoesOn header (cleared before) (cleared h)
goes_cleared header before [] g = tt
goes_cleared header before (e ∷ later) g = (
  follows_cleared header before e.body g.0,
  subst (λ h. GoesOn header h (cleared later)) (map-append (λ (e : Entry). unnumbered e.body) before (e ∷ [])) (goes_cleared header (before ++ e ∷ []) later g.1),
)

-- a legal history stays legal without the numbers
pub IsLegal-cleared : (header : Header) (h : List Entry) → IsLegal header h → IsLegal header (cleared h)
IsLegal-cleared header h legal = goes_cleared header [] h legal
