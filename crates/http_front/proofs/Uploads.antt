-- What a request asks for: a content to store is its body, and of a list all but the last store changesets.
use Rattle.std.proofs.Common.{◌≡◌, ◌<◌, ℕ, zero, suc, if◌then◌else◌, ◌==◌, Bool, true, false, List, [], ◌∷◌, length, Option, None, Some, Result, Ok, Err, bytes_eq, refl, ap, subst, arith}
use Rattle.byte_fields.specs.Reading.{and_then, whole}
use Rattle.reply_model.specs.Reply.{◌>>=◌, PutContent, PutWhole, PutChangeset, SetBookmark, LandDraft, SetPolicy, PolicyOf}
use Rattle.reply_model.specs.After.{Call, Asks, Joins, Looks, Derives}
use Rattle.http_model.specs.Head.{path_of}
use Rattle.http_model.specs.Stream.{Request}
use Rattle.session_model.specs.declared.route_name.RouteName.{RouteName}
use Rattle.session_model.specs.declared.route_name.RouteName.TheVariants as routes
use Rattle.session_model.specs.declared.method.Method.TheVariants.{Put}
use Rattle.session_model.specs.Methods.{method_text, has_method, methods_of}
use Rattle.session_model.specs.Responses.{Response}
use Rattle.session_model.specs.Routes.{Route, value, is_target, route_of}
use Rattle.session_model.specs.Parameters.{name_parameter, id_parameter, maybe_id_parameter, number_parameter, path_parameter, caller_named}
use Rattle.session_model.specs.Stacks.{most_listed, one_listed, and_last, listed, list_or, stack_of, put, puts}
use Rattle.http_front.specs.Dating.{IsStack}
use Rattle.session_model.specs.Asking.{Asked, Calls, Lists, Fails, sets_policy, by_name, asked_or, on_route, asked}

-- ---- a list has at least one changeset

abbrev Listing : Type 0
Listing = Result (List (List ℕ) × List ℕ) ℕ

-- where it is read, there is one
abbrev HasSome : Listing → Type 0
HasSome (Ok all) = 0 < length all.0
HasSome (Err left) = Unit {0}

with_more : (x : List ℕ) (later : Listing) → HasSome (and_last x later)
with_more x (Ok later) = omega arith
with_more x (Err left) = tt

at_end : (x rest : List ℕ) (later : Listing) (end : Bool) → HasSome (if end then Ok (x ∷ [], rest) else and_last x later)
at_end x rest later true = omega arith
at_end x rest later false = with_more x later

behind_first : (one : Result (List ℕ × List ℕ) ℕ) (rest : List ℕ → Listing) → HasSome (and_then one (λ x left. if length left == 0 then Ok (x ∷ [], left) else and_last x (rest left)))
behind_first (Ok one) rest = at_end one.0 one.1 (rest one.1) (length one.1 == 0)
behind_first (Err left) rest = tt

some_listed : (n : ℕ) (bytes : List ℕ) → HasSome (listed n bytes)
unfolding listed
some_listed zero bytes = tt
some_listed (suc n) bytes = behind_first (one_listed bytes) (listed n)

abbrev AreSome : Result (List (List ℕ)) Response → Type 0
AreSome (Ok changesets) = 0 < length changesets
AreSome (Err r) = Unit {0}

whole_list : (len : ℕ) (listing : Listing) → HasSome listing → AreSome (list_or (whole len listing))
whole_list len (Ok (changesets, [])) some = some
whole_list len (Ok (changesets, b ∷ left)) some = tt
whole_list len (Err left) some = tt

stack_has_some : (body : List ℕ) → AreSome (stack_of body)
stack_has_some body = whole_list (length body) (listed most_listed body) (some_listed most_listed body)

-- all but the last, and the last
stack_of_puts : (changesets : List (List ℕ)) → 0 < length changesets → IsStack (puts changesets)
stack_of_puts [] some = absurd (omega arith)
stack_of_puts (c ∷ []) some = record { earlier = []; last = put c; calls_are = refl }
stack_of_puts (c ∷ (d ∷ cs)) some =
    let later = stack_of_puts (d ∷ cs) (omega arith) in
    record { earlier = c ∷ later.earlier; last = later.last; calls_are = ap (λ calls. put c ∷ calls) later.calls_are }

module _ (q : Request) where
  abbrev IsMeant : Asked → Type 0
  IsMeant (Fails r) = Unit {0}
  IsMeant (Lists calls) = IsStack calls
  IsMeant (Calls (Asks (PutContent bytes))) = bytes ≡ q.body
  IsMeant (Calls (Asks (PutWhole body pieces))) = Unit {0}
  IsMeant (Calls (Asks (PutChangeset bytes))) = Unit {0}
  IsMeant (Calls (Asks (SetBookmark caller name from to))) = Unit {0}
  IsMeant (Calls (Asks (LandDraft caller name draft moment))) = Unit {0}
  IsMeant (Calls (Asks (SetPolicy caller text))) = Unit {0}
  IsMeant (Calls (Joins body)) = Unit {0}
  IsMeant (Calls (Looks question)) = Unit {0}
  IsMeant (Calls (Derives x)) = Unit {0}

  after_read : {X : Type 0} (read : Result X Response) (rest : X → Result Asked Response) → ((x : X) → IsMeant (asked_or (rest x))) → IsMeant (asked_or (read >>= rest))
  after_read (Ok x) rest is = is x
  after_read (Err r) rest is = tt

  either_way : (test : Bool) (x y : Result Asked Response) → IsMeant (asked_or x) → IsMeant (asked_or y) → IsMeant (asked_or (if test then x else y))
  either_way true x y is other = is
  either_way false x y is other = other

  list_meant : (read : Result (List (List ℕ)) Response) → AreSome read → IsMeant (asked_or (read >>= (λ changesets. Ok (Lists (puts changesets)))))
  list_meant (Ok changesets) some = stack_of_puts changesets some
  list_meant (Err r) some = tt

  by_name_meant : (name : RouteName) (value : ℕ → List ℕ) → IsMeant (asked_or (by_name name value q))
  by_name_meant routes.Contents value = refl
  by_name_meant routes.Content value = after_read (id_parameter (value 0)) _ (λ x. tt)
  by_name_meant routes.Wholes value = tt
  by_name_meant routes.Changesets value = tt
  by_name_meant routes.Changeset value = after_read (id_parameter (value 0)) _ (λ x. tt)
  by_name_meant routes.ChangesetList value = list_meant (stack_of q.body) (stack_has_some q.body)
  by_name_meant routes.Head value = after_read (name_parameter (value 0)) _ (λ m. tt)
  by_name_meant routes.Move value =
      after_read (name_parameter (value 0)) _ (λ m. after_read (maybe_id_parameter (value 1)) _ (λ before. after_read (maybe_id_parameter (value 2)) _ (λ after. after_read (caller_named q.caller) _ (λ caller. tt))))
  by_name_meant routes.Land value =
      after_read (name_parameter (value 0)) _ (λ m. after_read (id_parameter (value 1)) _ (λ d. after_read (caller_named q.caller) _ (λ caller. tt)))
  by_name_meant routes.Stack value = after_read (name_parameter (value 0)) _ (λ m. after_read (caller_named q.caller) _ (λ caller. after_read (stack_of q.body) _ (λ changesets. record { earlier = changesets; last = _; calls_are = refl })))
  by_name_meant routes.Policy value = either_way (bytes_eq q.method (method_text Put)) (sets_policy q) (Ok (Calls (Looks (PolicyOf None)))) (after_read (caller_named q.caller) _ (λ caller. tt)) tt
  by_name_meant routes.NumberedPolicy value = after_read (number_parameter (value 0)) _ (λ n. tt)
  by_name_meant routes.Log value = after_read (number_parameter (value 0)) _ (λ n. tt)
  by_name_meant routes.RootFsnode value = after_read (id_parameter (value 0)) _ (λ x. tt)
  by_name_meant routes.Fsnode value = after_read (id_parameter (value 0)) _ (λ x. after_read (path_parameter (value 1)) _ (λ p. tt))
  by_name_meant routes.RootUnode value = after_read (id_parameter (value 0)) _ (λ x. tt)
  by_name_meant routes.Unode value = after_read (id_parameter (value 0)) _ (λ x. after_read (path_parameter (value 1)) _ (λ p. tt))
  by_name_meant routes.RootDeleted value = after_read (id_parameter (value 0)) _ (λ x. tt)
  by_name_meant routes.Deleted value = after_read (id_parameter (value 0)) _ (λ x. after_read (path_parameter (value 1)) _ (λ p. tt))
  by_name_meant routes.History value = after_read (id_parameter (value 0)) _ (λ x. after_read (path_parameter (value 1)) _ (λ p. tt))
  by_name_meant routes.PathLog value = after_read (id_parameter (value 0)) _ (λ x. after_read (path_parameter (value 1)) _ (λ p. tt))
  by_name_meant routes.Copies value = after_read (id_parameter (value 0)) _ (λ x. tt)

  if_allowed : (test : Bool) (x : Asked) (r : Response) → IsMeant x → IsMeant (if test then x else Fails r)
  if_allowed true x r is = is
  if_allowed false x r is = tt

  on_route_meant : (found : Option Route) → IsMeant (on_route found q)
  on_route_meant None = tt
  on_route_meant (Some route) = if_allowed (has_method (methods_of route.name) q.method) _ _ (by_name_meant route.name (value route))

  is_meant : IsMeant (asked q)
  is_meant = if_allowed (is_target (path_of q.target)) _ _ (on_route_meant (route_of (path_of q.target)))

  pub content_is_body : (bytes : List ℕ) → asked q ≡ Calls (Asks (PutContent bytes)) → bytes ≡ q.body
  content_is_body bytes asks = subst IsMeant asks is_meant

  pub list_is_stack : (calls : List Call) → asked q ≡ Lists calls → IsStack calls
  list_is_stack calls asks = subst IsMeant asks is_meant
