-- The acceptance that the statement writes out is the calls' own. Idea: a call's refusal is the first whose condition holds
-- (`order_of` of text_input_parts), so it is none where no condition holds; and `ltb` and `leb` are the two sides of one test.
--     needs           the places that a chunk needs, by how it is taken
--     refusal_by       the number by which the definition of a call refuses it, and 0 for none
--     accepts_is      a call is accepted exactly where this is 0
--     accepted_none   and so an accepted call has no refusal
--     accepts_told    a call answers 0 exactly where it is accepted, by its record and the record's count
use Prim.Native.Nat.{ℕ, zero, suc, ◌+◌, ◌*◌}
use mathlib.Core.Bool.{Bool, true, false, cond, not, ◌&&◌, ◌||◌}
use mathlib.Core.List.{List}
use mathlib.Core.Path.{◌≡◌, refl, ap, ap₂, sym, ◌∙◌}
use native.Mathlib.Omega.{arith}
use lib.Dec.{eqb, ltb, leb}
use lib.ListN.{length}
use borrow.Author.Tests.{eqb-true, ne_eqb, lt-ltb, le-ltb, le-leb, lt-leb}
use Rattle.common.specs.Answers.{refusal_in, room_refusal}
use Rattle.common.proofs.Kit.{by_lt}
use Rattle.scalars.specs.Chars.{are_chars}
use Rattle.page.specs.Page.{accepted}
use Rattle.text_input_parts.specs.Refusals.{places_for_chunk, refusal_of}
use Rattle.text_input_parts.proofs.Order.{order_of, refusal_order}
use Rattle.text_input.specs.declared.Options.{Options}
use Rattle.text_input.specs.declared.TextInput.{TextInput}
use Rattle.text_input.proofs.Refusals.{scan_order, finish_order}
use Rattle.text_input_price.specs.Price.{places_filled}
use Rattle.text_input_price.proofs.Laws.{commits}
use Rattle.one_reading.specs.Calls.{Taking, scan, commit, Call, chunk_by, finish, call_of, enough, accepts}

abbrev pub needs : Taking → List ℕ → Options → TextInput → List ℕ → ℕ
needs scan page options r chunk = places_for_chunk (length chunk)
needs commit page options r chunk = places_filled page options r chunk

abbrev pub refusal_by : ℕ → TextInput → Call → ℕ
refusal_by count r (chunk_by how page options chunk places) =
    refusal_of count (accepted page) (are_chars chunk) (length chunk) (needs how page options r chunk) (length places)
refusal_by count r (finish eof places) = room_refusal 2 (length places)

-- ---- one test from its two sides
leb_is : (a b : ℕ) → leb a b ≡ not (ltb b a)
leb_is a b = by_lt b a (λ h. rw (lt-ltb b a h) (lt-leb a b h)) (λ h. rw (le-ltb b a h) (le-leb a b h))

-- none of the four conditions holds
none_by : (a b d e : Bool) → eqb (cond (not a) 2 (cond (not b) 1 (cond d 10 (cond e 8 0)))) 0 ≡ a && (b && (not d && not e))
none_by false b d e = refl
none_by true false d e = refl
none_by true true true e = refl
none_by true true false true = refl
none_by true true false false = refl

-- "A chunk of n characters needs 3 × n + 1 free places, an empty one none."
room_is : (n room : ℕ) → eqb n 0 || leb (3 * n + 1) room ≡ not (ltb room (places_for_chunk n))
room_is zero room = rw (le-ltb room 0 (omega arith))
room_is (suc n) room = rw (ne_eqb (suc n) 0 (λ h. omega arith)) (leb_is (3 * suc n + 1) room)

enough_is : (how : Taking) (page : List ℕ) (options : Options) (r : TextInput) (chunk : List ℕ) (room : ℕ) →
    enough how page options r chunk room ≡ not (ltb room (needs how page options r chunk))
enough_is scan page options r chunk room = room_is (length chunk) room
enough_is commit page options r chunk room = leb_is (places_filled page options r chunk) room

pub accepts_is : (count : ℕ) (r : TextInput) (c : Call) → accepts count r c ≡ eqb (refusal_by count r c) 0
accepts_is count r (chunk_by how page options chunk places) =
    let n = length chunk in
    let room = length places in
    let needed = needs how page options r chunk in
    ap₂ (λ x y. accepted page && (are_chars chunk && (x && y))) (leb_is (count + n) 4294967295) (enough_is how page options r chunk room)
    ∙ sym (none_by (accepted page) (are_chars chunk) (ltb 4294967295 (count + n)) (ltb room needed))
    ∙ sym (ap (λ k. eqb k 0) (order_of count (accepted page) (are_chars chunk) n needed room))
accepts_is count r (finish eof places) = leb_is 2 (length places) ∙ eight (ltb (length places) 2)
  where
    eight : (b : Bool) → not b ≡ eqb (cond b 8 0) 0
    eight true = refl
    eight false = refl

pub accepted_none : (count : ℕ) (r : TextInput) (c : Call) → accepts count r c ≡ true → refusal_by count r c ≡ 0
accepted_none count r c h = eqb-true (refusal_by count r c) 0 (sym (accepts_is count r c) ∙ h)

-- the answer of a call says it
told_by : (r : TextInput) (c : Call) → refusal_in (call_of r c).numbers ≡ refusal_by r.count r c
told_by r (chunk_by scan page options chunk places) =
    scan_order r page options chunk places
    ∙ sym (refusal_order r.count (accepted page) (are_chars chunk) (length chunk) (length places))
told_by r (chunk_by commit page options chunk places) =
    (commits r page options chunk places).order
    ∙ sym (order_of r.count (accepted page) (are_chars chunk) (length chunk) (places_filled page options r chunk) (length places))
told_by r (finish eof places) = finish_order r eof places

pub accepts_told : (r : TextInput) (c : Call) → eqb (refusal_in (call_of r c).numbers) 0 ≡ accepts r.count r c
accepts_told r c = ap (λ k. eqb k 0) (told_by r c) ∙ sym (accepts_is r.count r c)
