-- A list of calls, refused ones in between, comes to scans of the accepted chunks and a finish. A call is accepted exactly where its
-- refusal's number is 0 (proofs/Accepts.antt), and what the definition of the call then gives is what these scans and this finish
-- give; a refused call gives the record back. So it goes by the list: the record at hand is the one that the accepted calls lead to, and
-- its count is that of the characters accepted so far.
--     queue_listed    the queue is what scans of the accepted chunks and the finish append
--     count_listed    the count is the number of characters in the accepted chunks, whatever the calls bring
--     chars_listed    the accepted chunks are characters
--     answered_listed the accepted calls are those that answer 0
use Prim.Native.Nat.{ℕ, ◌+◌, ◌≤◌}
use mathlib.Core.Bool.{Bool, true, false, cond}
use mathlib.Core.List.{List, [], ◌∷◌, ◌++◌, append_assoc, append-nil, flatten}
use mathlib.Core.Path.{◌≡◌, refl, ap, sym, ◌∙◌}
use native.Mathlib.Omega.{arith}
use lib.Dec.{eqb, ltb}
use lib.ListN.{length, drop, length-append}
use lib.Seq.{sets}
use Rattle.common.proofs.Lists.{take_first}
use Rattle.scalars.specs.Chars.{are_chars}
use Rattle.page.specs.Page.{accepted}
use Rattle.text_input.specs.declared.Options.{Options}
use Rattle.text_input.specs.declared.TextInput.{TextInput}
use Rattle.common.specs.Answers.{refusal_in, wrote_in}
use Rattle.text_input.specs.Scan.{Outcome, refused, written, scan_chars, scan_next, scan_of, finish_chars, finish_next, finish_of, opened, skipped}
use Rattle.text_input.specs.Streams.{scans_chars, scans_next}
use Rattle.text_input_price.specs.Price.{commit_of}
use Rattle.text_input_parts.proofs.Passed.{ChunkPassed, passed, room_passed}
use Rattle.text_input.proofs.Meaning.{ends_count}
use Rattle.text_input.proofs.Room.{scan_room, finish_room}
use Rattle.one_reading.proofs.Accepts.{needs, refusal_by, accepts_is, accepted_none, accepts_told}
use Rattle.scalars.proofs.Texts.{chars_append}
use Rattle.one_reading.specs.Calls.{Taking, scan, commit, Call, chunk_by, finish, call_of, Seen, queue_of, record_after, accepts, count_with, leads_to, accepted_from, chunks_of, FinishedOnce}
use Rattle.one_reading.specs.Demand.{answered}

-- ---- one call, by whether it is accepted
-- what an accepted call appends
abbrev chars_of : TextInput → Call → List ℕ
chars_of r (chunk_by how p o chunk places) = scan_chars p o r chunk
chars_of r (finish eof places) = finish_chars r eof

abbrev lent : Call → List ℕ
lent (chunk_by how p o chunk places) = places
lent (finish eof places) = places

abbrev outcome_by : Bool → TextInput → Call → Outcome
outcome_by b r c = cond b (written (leads_to r c) (chars_of r c) (lent c)) (refused r (refusal_by r.count r c) (lent c))

finish_is : (b : Bool) (r : TextInput) (eof : Bool) (places : List ℕ) →
    cond b (refused r 8 places) (written (finish_next r eof) (finish_chars r eof) places)
    ≡ cond (eqb (cond b 8 0) 0) (written (finish_next r eof) (finish_chars r eof) places) (refused r (cond b 8 0) places)
finish_is true r eof places = refl
finish_is false r eof places = refl

call_by : (r : TextInput) (c : Call) → call_of r c ≡ outcome_by (eqb (refusal_by r.count r c) 0) r c
call_by r (chunk_by scan p o chunk places) = unfold scan_of in refl
call_by r (chunk_by commit p o chunk places) = unfold commit_of in refl
call_by r (finish eof places) = unfold finish_of in finish_is (ltb (length places) 2) r eof places

call_is : (r : TextInput) (c : Call) → call_of r c ≡ outcome_by (accepts r.count r c) r c
call_is r c = call_by r c ∙ ap (λ b. outcome_by b r c) (sym (accepts_is r.count r c))

wrote_is : (out places : List ℕ) → length out ≤ length places → wrote_in (0 ∷ length out ∷ []) (sets places 0 out) ≡ out
wrote_is out places h = take_first out places (length out) refl h

-- what an accepted chunk shows
taken_passed : (count : ℕ) (how : Taking) (p : List ℕ) (o : Options) (r : TextInput) (chunk places : List ℕ) →
    refusal_by count r (chunk_by how p o chunk places) ≡ 0 →
    ChunkPassed count (accepted p) (are_chars chunk) (length chunk) × (needs how p o r chunk ≤ length places)
taken_passed count how p o r chunk places h =
    passed count (accepted p) (are_chars chunk) (length chunk) (needs how p o r chunk) (length places) h

-- what a chunk appends is at most what it needs
needs_most : (how : Taking) (p : List ℕ) (o : Options) (r : TextInput) (chunk : List ℕ) → length (scan_chars p o r chunk) ≤ needs how p o r chunk
needs_most scan p o r chunk = scan_room p o r chunk
needs_most commit p o r chunk = omega arith

-- an accepted call has room for what it appends
chars_fit : (r : TextInput) (c : Call) → refusal_by r.count r c ≡ 0 → length (chars_of r c) ≤ length (lent c)
chars_fit r (chunk_by how p o chunk places) e =
    omega (arith, needs_most how p o r chunk, (taken_passed r.count how p o r chunk places e).1)
chars_fit r (finish eof places) e = omega (arith, finish_room r eof, room_passed 2 (length places) e)

-- the count after an accepted call
next_count : (r : TextInput) (c : Call) → (leads_to r c).count ≡ count_with r.count c
next_count r (chunk_by how p o chunk places) = ends_count p o (opened r (length chunk)) (drop (skipped r chunk) chunk)
next_count r (finish eof places) = refl

-- the accepted calls of a list whose first is accepted or not
abbrev left_by : Bool → ℕ → TextInput → Call → List Call → List Call
left_by b n r c cs = cond b (c ∷ accepted_from (count_with n c) (leads_to r c) cs) (accepted_from n r cs)

cons_nil : {A : Type 0} {P : Type 0} (x : A) (l : List A) → x ∷ l ≡ [] → P
cons_nil x l h = let z : ◌≡◌ {A = ℕ} 0 1 = cc in let e : ⊥ = omega arith in absurd e

-- ---- the count
count_by : (b : Bool) (c : Call) (cs : List Call) (r : TextInput) (seen : List Outcome) →
    ((n : TextInput) → Seen n cs seen → (record_after n seen).count ≡ n.count + length (flatten (chunks_of (accepted_from n.count n cs)))) →
    Seen (outcome_by b r c).next cs seen →
    (record_after (outcome_by b r c).next seen).count ≡ r.count + length (flatten (chunks_of (left_by b r.count r c cs)))
unfolding flatten
count_by true (chunk_by how p o chunk places) cs r seen ih h =
    let more = flatten (chunks_of (accepted_from (r.count + length chunk) (scan_next p o r chunk) cs)) in
    let e = next_count r (chunk_by how p o chunk places) in
    let g : (record_after (scan_next p o r chunk) seen).count ≡ r.count + length chunk + length more = rw e at (ih (scan_next p o r chunk) h) in
    omega (arith, g, length-append chunk more)
count_by true (finish eof places) cs r seen ih h = ih (finish_next r eof) h
count_by false c cs r seen ih h = ih r h

pub count_listed : (calls : List Call) (r : TextInput) (seen : List Outcome) → Seen r calls seen →
    (record_after r seen).count ≡ r.count + length (flatten (chunks_of (accepted_from r.count r calls)))
unfolding record_after accepted_from flatten
count_listed [] r [] h = omega arith
count_listed [] r (s ∷ seen) h = absurd h
count_listed (c ∷ cs) r [] h = absurd h
count_listed (c ∷ cs) r (s ∷ seen) h =
    let e : s ≡ outcome_by (accepts r.count r c) r c = h.0 ∙ call_is r c in
    rw e (count_by (accepts r.count r c) c cs r seen (λ n g. count_listed cs n seen g) (rw e at h.1))

-- ---- the accepted chunks are characters
chars_by : (b : Bool) (n : ℕ) (r : TextInput) (c : Call) (cs : List Call) → accepts n r c ≡ b →
    ((m : ℕ) (q : TextInput) → are_chars (flatten (chunks_of (accepted_from m q cs))) ≡ true) →
    are_chars (flatten (chunks_of (left_by b n r c cs))) ≡ true
unfolding flatten
chars_by true n r (chunk_by how p o chunk places) cs e ih =
    chars_append chunk (flatten (chunks_of (accepted_from (n + length chunk) (scan_next p o r chunk) cs)))
    (taken_passed n how p o r chunk places (accepted_none n r (chunk_by how p o chunk places) e)).0.are_chars_lem
    (ih (n + length chunk) (scan_next p o r chunk))
chars_by true n r (finish eof places) cs e ih = ih n (finish_next r eof)
chars_by false n r c cs e ih = ih n r

pub chars_listed : (calls : List Call) (n : ℕ) (r : TextInput) → are_chars (flatten (chunks_of (accepted_from n r calls))) ≡ true
unfolding accepted_from flatten
chars_listed [] n r = refl
chars_listed (c ∷ cs) n r = chars_by (accepts n r c) n r c cs refl (λ m q. chars_listed cs m q)

-- ---- the accepted calls are those that answer 0
answered_by : (b : Bool) (c : Call) (cs : List Call) (r : TextInput) (seen : List Outcome) →
    eqb (refusal_in (call_of r c).numbers) 0 ≡ b →
    ((n : TextInput) → Seen n cs seen → accepted_from n.count n cs ≡ answered cs seen) → Seen (outcome_by b r c).next cs seen →
    left_by b r.count r c cs ≡ cond b (c ∷ answered cs seen) (answered cs seen)
answered_by true c cs r seen e ih h = ap (λ l. c ∷ l) (rw (next_count r c) at (ih (leads_to r c) h))
answered_by false c cs r seen e ih h = ih r h

pub answered_listed : (calls : List Call) (r : TextInput) (seen : List Outcome) → Seen r calls seen →
    accepted_from r.count r calls ≡ answered calls seen
unfolding accepted_from answered
answered_listed [] r [] h = refl
answered_listed [] r (s ∷ seen) h = absurd h
answered_listed (c ∷ cs) r [] h = absurd h
answered_listed (c ∷ cs) r (s ∷ seen) h =
    let b = accepts r.count r c in
    let e : s ≡ outcome_by b r c = h.0 ∙ call_is r c in
    let t : eqb (refusal_in s.numbers) 0 ≡ b = ap (λ (x : Outcome). eqb (refusal_in x.numbers) 0) h.0 ∙ accepts_told r c in
    rw t (answered_by b c cs r seen (accepts_told r c) (λ n g. answered_listed cs n seen g) (rw e at h.1))

-- ---- where no call is accepted, nothing is written
none_by : (b : Bool) (c : Call) (cs : List Call) (r : TextInput) (seen : List Outcome) → left_by b r.count r c cs ≡ [] →
    (accepted_from r.count r cs ≡ [] → Seen r cs seen → queue_of seen ≡ []) → Seen (outcome_by b r c).next cs seen →
    wrote_in (outcome_by b r c).numbers (outcome_by b r c).places ++ queue_of seen ≡ []
none_by true c cs r seen h ih g = cons_nil c (accepted_from (count_with r.count c) (leads_to r c) cs) h
none_by false c cs r seen h ih g = ih h g

none_listed : (calls : List Call) (r : TextInput) (seen : List Outcome) → Seen r calls seen → accepted_from r.count r calls ≡ [] →
    queue_of seen ≡ []
unfolding queue_of accepted_from
none_listed [] r [] h n = refl
none_listed [] r (s ∷ seen) h n = absurd h
none_listed (c ∷ cs) r [] h n = absurd h
none_listed (c ∷ cs) r (s ∷ seen) h n =
    let e : s ≡ outcome_by (accepts r.count r c) r c = h.0 ∙ call_is r c in
    rw e (none_by (accepts r.count r c) c cs r seen n (λ m g. none_listed cs r seen g m) (rw e at h.1))

-- ---- the queue
module _ (page : List ℕ) (options : Options) where
  -- what scans of these chunks and a finish as end of file append
  abbrev pub whole_from : TextInput → List (List ℕ) → List ℕ
  whole_from r ts = scans_chars page options r ts ++ finish_chars (scans_next page options r ts) true

  abbrev Queued : List Call → List Outcome → Type 0
  Queued cs seen = (r : TextInput) → Seen r cs seen → FinishedOnce page options (accepted_from r.count r cs) →
      queue_of seen ≡ whole_from r (chunks_of (accepted_from r.count r cs))

  chunk_queued : (how : Taking) (chunk places : List ℕ) (cs : List Call) (seen : List Outcome) (r : TextInput) → Queued cs seen →
      Seen (scan_next page options r chunk) cs seen → FinishedOnce page options (accepted_from (r.count + length chunk) (scan_next page options r chunk) cs) →
      scan_chars page options r chunk ++ queue_of seen ≡ whole_from r (chunk ∷ chunks_of (accepted_from (r.count + length chunk) (scan_next page options r chunk) cs))
  unfolding scans_chars scans_next
  chunk_queued how chunk places cs seen r ih g h =
      let next = scan_next page options r chunk in
      let ts = chunks_of (accepted_from (r.count + length chunk) (scan_next page options r chunk) cs) in
      let k : next.count ≡ r.count + length chunk = next_count r (chunk_by how page options chunk places) in
      let e : queue_of seen ≡ whole_from next ts = rw k at (ih next g (rw k h)) in
      rw e (sym (append_assoc (scan_chars page options r chunk) (scans_chars page options next ts) (finish_chars (scans_next page options next ts) true)))

  queue_by : (b : Bool) (c : Call) (cs : List Call) (seen : List Outcome) (r : TextInput) → accepts r.count r c ≡ b → Queued cs seen →
      Seen (outcome_by b r c).next cs seen → FinishedOnce page options (left_by b r.count r c cs) →
      wrote_in (outcome_by b r c).numbers (outcome_by b r c).places ++ queue_of seen ≡ whole_from r (chunks_of (left_by b r.count r c cs))
  queue_by true (chunk_by how p o chunk places) cs seen r b ih g h =
      let e : p ≡ page = h.0 in
      let d : o ≡ options = h.1 in
      let f = rw (e, d) at (chars_fit r (chunk_by how p o chunk places) (accepted_none r.count r (chunk_by how p o chunk places) b)) in
      rw (e, d, wrote_is (scan_chars page options r chunk) places f) (chunk_queued how chunk places cs seen r ih (rw (e, d) at g) (rw (e, d) at h.2))
  queue_by true (finish eof places) cs seen r b ih g h =
      let e : eof ≡ true = h.0 in
      let none = rw e at h.1 in
      let n : queue_of seen ≡ [] = none_listed cs (finish_next r eof) seen g h.1 in
      let f = rw e at (chars_fit r (finish eof places) (accepted_none r.count r (finish eof places) b)) in
      rw (e, wrote_is (finish_chars r true) places f, n, none) (unfold scans_chars scans_next in append-nil (finish_chars r true))
  queue_by false c cs seen r b ih g h = ih r g h

  pub queue_listed : (calls : List Call) (seen : List Outcome) → Queued calls seen
  unfolding queue_of accepted_from
  queue_listed [] [] r h f = absurd f
  queue_listed [] (s ∷ seen) r h f = absurd h
  queue_listed (c ∷ cs) [] r h f = absurd h
  queue_listed (c ∷ cs) (s ∷ seen) r h f =
      let e : s ≡ outcome_by (accepts r.count r c) r c = h.0 ∙ call_is r c in
      rw e (queue_by (accepts r.count r c) c cs seen r refl (queue_listed cs seen) (rw e at h.1) f)
