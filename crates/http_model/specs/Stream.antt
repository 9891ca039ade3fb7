-- What stands first on a stream.
--     Request      a whole request
--     Next      a whole request and the bytes after it, less than a whole message, or a refusal
--     skip_blank bytes      the bytes after the empty lines that they begin with
--     IsHeadEnd bytes len      the first len bytes are the shortest front that ends in an empty line
--     Begins bytes next      this stands first, after any empty lines
use Rattle.std.specs.Prelude.{◌≡◌, ℕ, ◌+◌, ◌<◌, ◌≤◌, ◌⊎◌, Bool, true, false, ◌&&◌, ◌||◌, ◌==◌, nat_le, if◌then◌else◌, List, [], ◌∷◌, length, take, drop, bytes_eq, codes, Option, None, Some}
use Rattle.std.specs.List.{ends_with}
use Rattle.httparse.specs.Ascii.{line_feed, carriage_return}
use Rattle.http_model.specs.declared.head_refusal.HeadRefusal.{HeadRefusal}
use Rattle.http_model.specs.declared.head_refusal.HeadRefusal.TheVariants.{HeadTooLarge, BadHead}
use Rattle.http_model.specs.Head.{Head, IsHead, IsNoHead, lengths_of, body_length, CallerField, caller_of, closes, refusal_of}

-- its target is whole, with what follows a '?'; `caller` is what its headers say of who asks; the session ends after it where `close` says so
pub record Request : Type 0 where
  pub method : List ℕ
  pub target : List ℕ
  pub minor : ℕ
  pub caller : CallerField
  pub close : Bool
  pub body : List ℕ

-- a request that is answered by a head alone
abbrev pub is_head_only : Request → Bool
is_head_only request = bytes_eq request.method (codes "HEAD")

pub data Next : Type 0 where
  Whole : (request : Request) (rest : List ℕ) → Next
  -- this many bytes of the message were read; with none of them a message has ended
  Partial : (read : ℕ) → Next
  Refuses : (refusal : HeadRefusal) → Next

-- a line ends in CR LF, or in LF alone
abbrev pub skip_blank : List ℕ → List ℕ
skip_blank [] = []
skip_blank (a ∷ []) = if a == line_feed then [] else a ∷ []
skip_blank (a ∷ b ∷ bytes) = if a == line_feed then skip_blank (b ∷ bytes) else (if a == carriage_return && b == line_feed then skip_blank bytes else a ∷ b ∷ bytes)

-- the bytes end in a line end and an empty line
abbrev pub ends_head : List ℕ → Bool
ends_head bytes = ends_with (λ a b. a == b) bytes (line_feed ∷ line_feed ∷ []) || ends_with (λ a b. a == b) bytes (line_feed ∷ carriage_return ∷ line_feed ∷ [])

pub record IsHeadEnd (bytes : List ℕ) (len : ℕ) : Type 0 where
  pub within : len ≤ length bytes
  pub ends : ends_head (take len bytes) ≡ true
  pub shortest : (n : ℕ) → n < len → ends_head (take n bytes) ≡ false

abbrev pub most_head : ℕ
most_head = 16384

abbrev pub request_of : Head → List ℕ → Request
request_of head body = record { method = head.method; target = head.target; minor = head.minor; caller = caller_of head; close = closes head; body = body }

-- after a head of len bytes that is in order: the body is the next bytes, as many as it says
abbrev pub with_body : List ℕ → ℕ → ℕ → Head → Next
with_body bytes len body head = if nat_le (len + body) (length bytes) then Whole (request_of head (take body (drop len bytes))) (drop (len + body) bytes) else Partial (length bytes)

abbrev pub unless_refused : Option HeadRefusal → Next → Next
unless_refused None next = next
unless_refused (Some refusal) next = Refuses refusal

-- what the first len bytes are, where they are as long as a head
abbrev pub IsReading : List ℕ → Option Head → Type 0
IsReading bytes None = IsNoHead bytes
IsReading bytes (Some head) = IsHead bytes head

abbrev pub after_head : List ℕ → ℕ → Option Head → Next
after_head bytes len None = Refuses BadHead
after_head bytes len (Some head) = unless_refused (refusal_of head) (with_body bytes len (body_length (lengths_of head)) head)

-- no front that is short enough ends in an empty line
pub record LacksHead (bytes : List ℕ) (next : Next) : Type 0 where
  pub none : (n : ℕ) → n ≤ most_head → ends_head (take n bytes) ≡ false
  pub gives : next ≡ (if nat_le most_head (length bytes) then Refuses HeadTooLarge else Partial (length bytes))

pub record HasHead (bytes : List ℕ) (next : Next) : Type 0 where
  pub len : ℕ
  pub reading : Option Head
  pub end : IsHeadEnd bytes len
  pub fits : len ≤ most_head
  pub reads : IsReading (take len bytes) reading
  pub gives : next ≡ after_head bytes len reading

-- the same of bytes that don't begin with an empty line
abbrev pub Stands : List ℕ → Next → Type 0
Stands bytes next = LacksHead bytes next ⊎ HasHead bytes next

abbrev pub Begins : List ℕ → Next → Type 0
Begins bytes next = Stands (skip_blank bytes) next
