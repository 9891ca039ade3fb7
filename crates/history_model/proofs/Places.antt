-- A payload's reader finds its fault at a field.
use Rattle.std.proofs.Common.{◌≡◌, ℕ, zero, suc, ◌+◌, ◌-◌, ◌<◌, ◌≤◌, Bool, true, false, cond, List, [], ◌∷◌, length, take, drop, refl, sym, ap, subst, ◌∙◌, arith, inl, inr}
use Rattle.std.specs.Prelude.{◌⊎◌, if◌then◌else◌, nat_lt, ◌||◌, ◌==◌, Option, Some, None, Result, Ok, Err}
use Rattle.std.specs.Result.{result_ok}
use Rattle.std.specs.Int.{from_be_bytes, w8, w16, w32, w64}
use Rattle.std.proofs.lemmas.Bool.{eqb-true, ltb-true}
use Rattle.std.proofs.Math.Seq.{drop-length}
use Rattle.sha2.specs.Sha256.{sha256}
use Rattle.byte_fields.specs.Bytes.{Id}
use Rattle.byte_fields.specs.Places.{NamesField, NamesPlace, ReadsFront}
use Rattle.byte_fields.specs.Reading.{Reader, ◌>>=◌, field, and_then, value, number, keeping, any, read, whole as all_of}
use Rattle.byte_fields.proofs.FieldLemmas.{spelled_8}
use Rattle.byte_fields.proofs.Places.{KeepsPlaces, LastKeeps, Falls, last_keeps, names_fall, keeps_value, keeps_field, keeps_number, keeps_id, keeps_then, keeps_either, last_then, keeps_last, keeps_times, keeps_with_len, keeps_one, field_size, within_field, within_then, within_last, within_value, fails_first, fails_later, reads_both, field_read, field_fails, field_to_end, not_both, the_rest, the_left, the_value, at_field, followed}
use Rattle.changeset_model.specs.Changeset.{Changeset}
use Rattle.changeset_model.specs.Decoding.{decoded}
use Rattle.history_model.specs.Bookmark.{is_name}
use Rattle.history_model.specs.Journal.{most_payload}
use Rattle.history_model.specs.History.{Body, Content, Change, Book, Land, Whole, Policy}
use Rattle.history_model.specs.Payload.{bookmark_name, flagged, optional, encoded, book, no_moment, a_moment, landing, whole, policy, content, upload, with_caller, wrapper, by_mark, body, payload_body, IsPayloadFault}

keeps_name : KeepsPlaces 1 bookmark_name
keeps_name = keeps_with_len 1 w8 any (keeping is_name)

keeps_flagged : (n : ℕ) → KeepsPlaces 0 (flagged n)
keeps_flagged zero = keeps_value 0 None
keeps_flagged (suc n) = keeps_last 0 (λ x. Some x) (keeps_id 0)

within_flagged : (n : ℕ) (bytes : List ℕ) (left : ℕ) → flagged n bytes ≡ Err left → length bytes ≤ 0 + left
within_flagged zero = within_value 0 None
within_flagged (suc n) = within_last 0 (λ x. Some x) (within_field 0 32 (keeping any))

abbrev flag_in : List ℕ → Option ℕ
flag_in bytes = keeping (λ n. nat_lt n 2) (from_be_bytes w8 bytes)

-- a flag tells how long the field is
pub keeps_optional : KeepsPlaces 1 optional
keeps_optional =
    keeps_one 1 (keeps_then 0 (keeps_number 0 w8 (λ n. nat_lt n 2)) keeps_flagged)
    (within_then 0 1 (field_size 1 (flag_in)) (within_field 1 1 flag_in) within_flagged)

keeps_encoded : KeepsPlaces 1 encoded
keeps_encoded = keeps_with_len 1 w32 any (λ bytes. result_ok (decoded bytes))

keeps_book : (caller : Option (List ℕ)) → KeepsPlaces 1 (book caller)
keeps_book caller =
    keeps_then 1 keeps_name (λ name. keeps_then 1 keeps_optional (λ from.
    keeps_last 1 (λ to. Book (record { name = name; from = from; to = to; caller = caller })) keeps_optional))

keeps_no_moment : KeepsPlaces 1 no_moment
keeps_no_moment = keeps_value 1 None

keeps_a_moment : KeepsPlaces 1 a_moment
keeps_a_moment = keeps_last 1 (λ moment. Some moment) (keeps_number 1 w64 any)

keeps_landing : (caller : Option (List ℕ)) (its_moment : Reader (Option ℕ)) → KeepsPlaces 1 its_moment → KeepsPlaces 1 (landing caller its_moment)
keeps_landing caller its_moment keeps =
    keeps_then 1 keeps_name (λ name. keeps_then 1 (keeps_id 1) (λ old. keeps_then 1 (keeps_id 1) (λ draft. keeps_then 1 keeps (λ moment. keeps_then 1 (keeps_number 1 w16 any) (λ count.
    keeps_last 1 (λ new. Land (record { name = name; old = old; draft = draft; new = new; moment = moment; caller = caller })) (keeps_times 1 count keeps_encoded))))))

keeps_whole : KeepsPlaces 1 whole
keeps_whole =
    keeps_then 1 (keeps_id 1) (λ x. keeps_then 1 (keeps_number 1 w64 any) (λ len. keeps_then 1 (keeps_number 1 w16 any) (λ count.
    keeps_last 1 (λ parts. Whole x len parts) (keeps_times 1 count (keeps_id 1)))))

-- ---- what goes to the end

never_fails : {A : Type 0} (r : Reader A) → ((bytes : List ℕ) → (x : A) × (r bytes ≡ Ok (x, []))) → LastKeeps 1 r
never_fails {A} r each = record {
  reads = λ bytes x b left h. (let some = each bytes in absurd (no_more (ap (the_rest {A = A}) (sym some.1 ∙ h))));
  names = λ bytes left h. (let some = each bytes in absurd (not_both some.0 [] left (sym some.1 ∙ h)));
}
  where
    no_more : {b : ℕ} {left : List ℕ} → ◌≡◌ {A = List ℕ} [] (b ∷ left) → ⊥
    no_more h = absurd cc

last_content : LastKeeps 1 content
last_content = never_fails content (λ bytes. (Content (sha256 bytes) (length bytes), refl))

last_policy : (caller : List ℕ) → LastKeeps 1 (policy caller)
last_policy caller = never_fails (policy caller) (λ bytes. (Policy caller bytes, refl))

last_landing : (caller : Option (List ℕ)) → LastKeeps 1 (landing caller no_moment)
last_landing caller = last_keeps 1 (keeps_landing caller no_moment keeps_no_moment)

last_dated : (caller : Option (List ℕ)) → LastKeeps 1 (landing caller a_moment)
last_dated caller = last_keeps 1 (keeps_landing caller a_moment keeps_a_moment)

last_with_caller : (caller : List ℕ) (mark : ℕ) → LastKeeps 1 (with_caller caller mark)
last_with_caller caller mark =
    keeps_either 1 (mark == 0x4D) (last_keeps 1 (keeps_book (Some caller)))
    (keeps_either 1 (mark == 0x4C) (last_landing (Some caller)) (keeps_either 1 (mark == 0x4E) (last_dated (Some caller)) (last_policy caller)))

last_wrapper : LastKeeps 1 wrapper
last_wrapper = last_then 1 keeps_name (λ caller. last_then 1 (keeps_number 1 w8 (λ n. n == 0x4D || n == 0x4C || n == 0x4E || n == 0x52)) (last_with_caller caller))

abbrev behind_upload : ℕ → Reader Body
behind_upload mark =
    if mark == 0x4D then book None else if mark == 0x4C then landing None no_moment else if mark == 0x4E then landing None a_moment else if mark == 0x57 then whole else wrapper

last_behind : (mark : ℕ) → LastKeeps 1 (behind_upload mark)
last_behind mark =
    keeps_either 1 (mark == 0x4D) (last_keeps 1 (keeps_book None))
    (keeps_either 1 (mark == 0x4C) (last_landing None) (keeps_either 1 (mark == 0x4E) (last_dated None) (keeps_either 1 (mark == 0x57) (last_keeps 1 keeps_whole) last_wrapper)))

-- of every mark but that of a changeset
last_by_mark : (mark : ℕ) → (mark == 0x43) ≡ false → LastKeeps 1 (by_mark mark)
last_by_mark mark other = subst (LastKeeps 1) (λ i. cond (mark == 0x42) content (cond (sym other i) upload (behind_upload mark))) (keeps_either 1 (mark == 0x42) last_content (last_behind mark))

abbrev upload_view : List ℕ → Option Changeset
upload_view rest = result_ok (decoded (0x43 ∷ rest))

-- where the rest of a changeset fails, no changeset is spelled
record UploadFails (bytes : List ℕ) (left : ℕ) : Type 0 where
  left_is : left ≡ length bytes
  none : result_ok (decoded (0x43 ∷ bytes)) ≡ None

upload_fails : (bytes : List ℕ) (l : ℕ) → upload bytes ≡ Err l → UploadFails bytes l
upload_fails bytes l h = by (field (length bytes) upload_view bytes) refl h
  where
    by : (read : Result (Changeset × List ℕ) ℕ) → field (length bytes) upload_view bytes ≡ read → and_then read (λ c. value (Change c)) ≡ Err l → UploadFails bytes l
    by (Ok (c, left)) e h = absurd (not_both (Change c) left l h)
    by (Err m) e h = record {
      left_is = sym (ap (the_left {A = Body}) h) ∙ field_fails (length bytes) upload_view bytes m e;
      none = field_to_end upload_view bytes m e;
    }

upload_falls : Falls upload
upload_falls bytes l h = let p = upload_fails bytes l h in let same = p.left_is in omega arith

upload_ends : (bytes : List ℕ) (x : Body) (left : List ℕ) → upload bytes ≡ Ok (x, left) → left ≡ []
upload_ends bytes x left h = by (field (length bytes) upload_view bytes) refl h
  where
    by : (read : Result (Changeset × List ℕ) ℕ) → field (length bytes) upload_view bytes ≡ read → and_then read (λ c. value (Change c)) ≡ Ok (x, left) → left ≡ []
    by (Ok (c, after)) e h = sym (ap (the_rest {A = Body}) h) ∙ sym (field_read (length bytes) upload_view bytes c after e).after ∙ drop-length bytes
    by (Err m) e h = absurd (not_both x left m (sym h))

-- ---- by the mark

abbrev is_mark : ℕ → Bool
is_mark n = n == 0x42 || n == 0x43 || n == 0x4D || n == 0x4C || n == 0x4E || n == 0x57 || n == 0x41

mark_falls : (mark : ℕ) → Falls (by_mark mark)
mark_falls mark = by (mark == 0x43) refl
  where
    by : (b : Bool) → (mark == 0x43) ≡ b → Falls (by_mark mark)
    by false e = names_fall 1 (last_by_mark mark e).names
    by true e = subst (λ m. Falls (by_mark m)) (sym (eqb-true mark 0x43 e)) upload_falls

-- a mark and what follows it
record IsMarked (bytes : List ℕ) (mark : ℕ) (after : List ℕ) : Type 0 where
  read : number w8 is_mark bytes ≡ Ok (mark, after)
  bytes_are : bytes ≡ mark ∷ after

keeping_is : (rule : ℕ → Bool) (n m : ℕ) → keeping rule n ≡ Some m → n ≡ m
keeping_is rule n m h = by (rule n) h
  where
    by : (b : Bool) → cond b (Some n) None ≡ Some m → n ≡ m
    by true h = cc
    by false h = absurd cc

marked : (bytes : List ℕ) (mark : ℕ) (after : List ℕ) → number w8 is_mark bytes ≡ Ok (mark, after) → bytes ≡ mark ∷ after
marked [] mark after h = absurd (let p = field_read 1 (λ bytes. keeping is_mark (from_be_bytes w8 bytes)) [] mark after h in no_byte p.fits)
  where
    no_byte : false ≡ true → ⊥
    no_byte e = absurd cc
marked (b ∷ bytes) mark after h =
    let p = field_read 1 (λ bytes. keeping is_mark (from_be_bytes w8 bytes)) (b ∷ bytes) mark after h in
    ap (λ n. n ∷ bytes) (sym (spelled_8 b).back ∙ keeping_is is_mark (from_be_bytes w8 (b ∷ [])) mark p.seen) ∙ ap (λ t. mark ∷ t) p.after

keeps_mark : KeepsPlaces 1 (number w8 is_mark)
keeps_mark = keeps_number 1 w8 is_mark

abbrev IsFaultOf : List ℕ → ℕ → Type 0
IsFaultOf bytes at = NamesPlace 1 body bytes at ⊎ ((rest : List ℕ) × (bytes ≡ 0x43 ∷ rest) × (at ≡ 1) × (result_ok (decoded bytes) ≡ None))

of_upload : (bytes after : List ℕ) (at : ℕ) → bytes ≡ 0x43 ∷ after → all_of (length bytes) (upload after) ≡ Err at → IsFaultOf bytes at
of_upload bytes after at e h = by (upload after) refl h
  where
    by : (read : Result (Body × List ℕ) ℕ) → upload after ≡ read → all_of (length bytes) read ≡ Err at → IsFaultOf bytes at
    by (Ok (x, [])) g h = absurd cc
    by (Ok (x, b ∷ more)) g h = absurd (no_more (sym (upload_ends after x (b ∷ more) g)))
      where
        no_more : ◌≡◌ {A = List ℕ} [] (b ∷ more) → ⊥
        no_more h = absurd cc
    by (Err left) g h =
        let p = upload_fails after left g in
        inr (after, e, (let same = p.left_is in let sum = ap length e in let given = at_is left h in omega arith), ap (λ t. result_ok (decoded t)) e ∙ p.none)
      where
        at_is : (left : ℕ) → ◌≡◌ {A = Result Body ℕ} (Err (length bytes - left)) (Err at) → length bytes - left ≡ at
        at_is left h = cc

of_others : (bytes : List ℕ) (mark : ℕ) (after : List ℕ) (at : ℕ) → number w8 is_mark bytes ≡ Ok (mark, after) → (mark == 0x43) ≡ false → all_of (length bytes) (by_mark mark after) ≡ Err at → NamesPlace 1 body bytes at
of_others bytes mark after at e other h = by (by_mark mark after) refl h
  where
    by : (read : Result (Body × List ℕ) ℕ) → by_mark mark after ≡ read → all_of (length bytes) read ≡ Err at → NamesPlace 1 body bytes at
    by (Ok (x, [])) g h = absurd cc
    by (Ok (x, b ∷ more)) g h =
        inr (followed bytes at x b more (reads_both (number w8 is_mark) by_mark bytes mark after x (b ∷ more) (keeps_mark.reads bytes mark after e) ((last_by_mark mark other).reads after x b more g)) cc)
    by (Err left) g h =
        inl (at_field 1 bytes at left (fails_later 1 (number w8 is_mark) by_mark bytes left mark after (keeps_mark.reads bytes mark after e) ((last_by_mark mark other).names after left g)) cc)

of_body : (bytes : List ℕ) (at : ℕ) → read body bytes ≡ Err at → IsFaultOf bytes at
of_body bytes at h = by (number w8 is_mark bytes) refl h
  where
    split : (mark : ℕ) (after : List ℕ) → number w8 is_mark bytes ≡ Ok (mark, after) → all_of (length bytes) (by_mark mark after) ≡ Err at → (b : Bool) → (mark == 0x43) ≡ b → IsFaultOf bytes at
    split mark after e h false other = inl (of_others bytes mark after at e other h)
    split mark after e h true same =
        of_upload bytes after at (marked bytes mark after e ∙ ap (λ m. m ∷ after) (eqb-true mark 0x43 same)) (ap (λ m. all_of (length bytes) (by_mark m after)) (sym (eqb-true mark 0x43 same)) ∙ h)

    by : (read : Result (ℕ × List ℕ) ℕ) → number w8 is_mark bytes ≡ read → all_of (length bytes) (and_then read by_mark) ≡ Err at → IsFaultOf bytes at
    by (Ok (mark, after)) e h = split mark after e h (mark == 0x43) refl
    by (Err left) e h = inl (inl (at_field 1 bytes at left (fails_first 1 (number w8 is_mark) by_mark keeps_mark mark_falls bytes left e) cc))

pub payload_fault : (bytes : List ℕ) (at : ℕ) → payload_body bytes ≡ Err at → IsPayloadFault bytes at
payload_fault bytes at h = by (nat_lt most_payload (length bytes)) refl h
  where
    by : (b : Bool) → nat_lt most_payload (length bytes) ≡ b → cond b (Err most_payload) (read body bytes) ≡ Err at → IsPayloadFault bytes at
    by true e h = inl (ltb-true most_payload (length bytes) e, sym cc)
    by false e h = inr (of_body bytes at h)
