-- A list of calls, refused ones in between, comes to the accepted bytes and a finish. A call is accepted exactly where its refusal's
-- number is 0, and what its definition then gives is what its bytes, or the finish, give from the record on; a refused call gives the
-- record back. So it goes by the list.
--     accepts_told    a call answers 0 exactly where it is accepted; call-is: what it comes to by that; fits: and has room for
--     Listed          what calls had written and counted; add, pass: with an accepted call before them, with a refused one
--     Whole           the output and the counts are those of the bytes and a finish, from pending bytes and a text on
--     listed          THE LIST
use Prim.Native.Nat.{ℕ, zero, suc, ◌+◌, ◌*◌, ◌≤◌}
use mathlib.Core.Bool.{Bool, true, false, cond, not, ◌&&◌, ◌||◌}
use mathlib.Core.List.{List, [], ◌∷◌, ◌++◌, append-nil}
use mathlib.Core.Path.{◌≡◌, refl, sym, ap, ap₂, subst, ◌∙◌}
use native.Mathlib.Omega.{arith}
use lib.Dec.{eqb, ltb, leb}
use lib.ListN.{length, length-append}
use borrow.Author.Tests.{ne_eqb, lt-ltb, le-ltb, le-leb, lt-leb, ltb-false}
use Rattle.common.specs.Answers.{refusal_in, written_in, wrote_in}
use Rattle.common.proofs.Kit.{by_lt, both_true}
use Rattle.common.proofs.Lists.{take_first}
use Rattle.scalars.specs.Utf8.{encode_all}
use Rattle.scalars.proofs.Texts.{encode_append}
use Rattle.page.specs.Page.{accepted}
use Rattle.utf8_lossy.specs.Machine.{outs_of, rest_of, replaced_of}
use Rattle.utf8_lossy.specs.Machine as decoder
use Rattle.utf8_lossy.specs.Decode.{pending_of}
use Rattle.utf8_lossy.proofs.Reading.{outs_append, rest_append, replaced_append}
use Rattle.text_input.specs.declared.Options.{Options}
use Rattle.text_clean.specs.declared.text.Text.{Text}
use Rattle.text_clean.specs.declared.Cleaner.{Cleaner}
use Rattle.text_clean.specs.Text.{Passed, joined, passed_of}
use Rattle.text_clean.specs.Clean.{Outcome, outcome, refused, done, refusal_of, places_for_bytes, chars_in, clean_of, finish_passed, finish_of}
use Rattle.text_clean.specs.Calls.{Call, clean, finish, call_of, Answered, Seen, numbers_of, output_of, read_in, replaced_in, dropped_in, lost_in, total_of, accepts, accepted_of, chunks_of, FinishedOnce}
use Rattle.text_clean.specs.Inner.{no_tally}
use Rattle.text_clean.proofs.Append.{joined_assoc, passed_append}
use Rattle.text_clean.proofs.Room.{bytes_room, last_room}
use Rattle.text_clean.proofs.Reading.{end_of, whole_from}
use Rattle.text_clean.proofs.Lines.{is_no}

-- ---- one call, by whether it is accepted
abbrev pub refusal_by : Call → ℕ
refusal_by (clean p o lines bs places) = refusal_of p (places_for_bytes (length bs)) (length places)
refusal_by (finish p o eof places) = refusal_of p 8 (length places)

abbrev pub lent : Call → List ℕ
lent (clean p o lines bs places) = places
lent (finish p o eof places) = places

-- what an accepted one comes to, what is pending after it, and what it counts
abbrev pub passed_by : Cleaner → Call → Passed
passed_by r (clean p o lines bs places) = passed_of p o lines r.text (chars_in r bs)
passed_by r (finish p o eof places) = finish_passed r p o eof

abbrev pending_by : Cleaner → Call → List ℕ
pending_by r (clean p o lines bs places) = rest_of (pending_of r.pending) bs
pending_by r (finish p o eof places) = []

abbrev read_by : Cleaner → Call → ℕ
read_by r (clean p o lines bs places) = length (chars_in r bs)
read_by r (finish p o eof places) = length (decoder.finish_of (pending_of r.pending))

abbrev replaced_by : Cleaner → Call → ℕ
replaced_by r (clean p o lines bs places) = replaced_of (pending_of r.pending) bs
replaced_by r (finish p o eof places) = length (pending_of r.pending)

abbrev pub outcome_by : Bool → Cleaner → Call → Outcome
outcome_by b r c =
    cond b (done (read_by r c) (replaced_by r c) (pending_by r c) (passed_by r c) (lent c)) (refused r (refusal_by c) (lent c))

call_by : (r : Cleaner) (c : Call) → call_of r c ≡ outcome_by (eqb (refusal_by c) 0) r c
call_by r (clean p o lines bs places) = unfold clean_of in refl
call_by r (finish p o eof places) = unfold finish_of in refl

-- ---- acceptance, written out, is the calls' own
leb_is : (a b : ℕ) → leb a b ≡ not (ltb b a)
leb_is a b = by_lt b a (λ h. rw (lt-ltb b a h) (lt-leb a b h)) (λ h. rw (le-ltb b a h) (le-leb a b h))

room_is : (n room : ℕ) → eqb n 0 || leb (3 * n + 13) room ≡ not (ltb room (places_for_bytes n))
room_is zero room = rw (le-ltb room 0 (omega arith))
room_is (suc n) room = rw (ne_eqb (suc n) 0 (λ h. omega arith)) (leb_is (3 * suc n + 13) room)

none_by : (a b : Bool) → a && not b ≡ eqb (cond (eqb (cond (not a) 2 0) 0) (cond b 8 0) (cond (not a) 2 0)) 0
none_by true true = refl
none_by true false = refl
none_by false b = refl

accepts_is : (c : Call) → accepts c ≡ eqb (refusal_by c) 0
accepts_is (clean p o lines bs places) =
    ap (λ b. accepted p && b) (room_is (length bs) (length places))
    ∙ none_by (accepted p) (ltb (length places) (places_for_bytes (length bs)))
accepts_is (finish p o eof places) =
    ap (λ b. accepted p && b) (leb_is 8 (length places)) ∙ none_by (accepted p) (ltb (length places) 8)

pub call_is : (r : Cleaner) (c : Call) → call_of r c ≡ outcome_by (accepts c) r c
call_is r c = call_by r c ∙ ap (λ b. outcome_by b r c) (sym (accepts_is c))

told_by : (r : Cleaner) (c : Call) (b : Bool) → eqb (refusal_by c) 0 ≡ b → eqb (refusal_in (outcome_by b r c).numbers) 0 ≡ b
told_by r c true h = refl
told_by r c false h = h

pub accepts_told : (r : Cleaner) (c : Call) → eqb (refusal_in (call_of r c).numbers) 0 ≡ accepts c
accepts_told r c =
    ap (λ (x : Outcome). eqb (refusal_in x.numbers) 0) (call_is r c) ∙ told_by r c (accepts c) (sym (accepts_is c))

-- ---- what calls had written and counted
pub record Listed (out : List ℕ) (read replaced dropped lost : ℕ) (seen : List Answered) : Type 0 where
  pub output : output_of seen ≡ encode_all out
  pub written_is : total_of written_in seen ≡ length (encode_all out)
  pub read_is : total_of read_in seen ≡ read
  pub replaced_is : total_of replaced_in seen ≡ replaced
  pub dropped_is : total_of dropped_in seen ≡ dropped
  pub lost_is : total_of lost_in seen ≡ lost

pub same : {u v : List ℕ} {a b c d e f g h : ℕ} (seen : List Answered) → Listed u a c e g seen → u ≡ v → a ≡ b → c ≡ d → e ≡ f → g ≡ h →
    Listed v b d f h seen
same seen l p q r s t =
    record {
      output = l.output ∙ ap encode_all p;
      written_is = l.written_is ∙ ap (λ (x : List ℕ). length (encode_all x)) p;
      read_is = l.read_is ∙ q;
      replaced_is = l.replaced_is ∙ r;
      dropped_is = l.dropped_is ∙ s;
      lost_is = l.lost_is ∙ t;
    }

-- a call that was accepted, before others
pub add : (s : Answered) (read replaced : ℕ) (q : List ℕ) (x : Passed) (places : List ℕ) →
    outcome s.returned s.places ≡ done read replaced q x places → length (encode_all x.out) ≤ length places →
    {w : List ℕ} {a b d l : ℕ} (seen : List Answered) → Listed w a b d l seen →
    Listed (x.out ++ w) (read + a) (replaced + b) (x.dropped + d) (x.lost + l) (s ∷ seen)
unfolding output_of total_of
add s read replaced q x places e h {w} seen m =
    let n = ap (λ (y : Outcome). y.numbers) e in
    let written : ℕ = length (encode_all x.out) in
    record {
      output =
          ap₂ (λ (ns ps : List ℕ). wrote_in ns ps ++ output_of seen) n (ap (λ (y : Outcome). y.places) e)
          ∙ ap₂ (λ (u v : List ℕ). u ++ v) (take_first (encode_all x.out) places written refl h) m.output
          ∙ sym (encode_append x.out w);
      written_is =
          ap₂ (λ (ns : List ℕ) (k : ℕ). written_in ns + k) n m.written_is
          ∙ sym (ap length (encode_append x.out w) ∙ length-append (encode_all x.out) (encode_all w));
      read_is = ap₂ (λ (ns : List ℕ) (k : ℕ). read_in ns + k) n m.read_is;
      replaced_is = ap₂ (λ (ns : List ℕ) (k : ℕ). replaced_in ns + k) n m.replaced_is;
      dropped_is = ap₂ (λ (ns : List ℕ) (k : ℕ). dropped_in ns + k) n m.dropped_is;
      lost_is = ap₂ (λ (ns : List ℕ) (k : ℕ). lost_in ns + k) n m.lost_is;
    }

-- a call that was refused
pub pass : (s : Answered) (r : Cleaner) (k : ℕ) (places : List ℕ) → outcome s.returned s.places ≡ refused r k places →
    {w : List ℕ} {a b d l : ℕ} (seen : List Answered) → Listed w a b d l seen → Listed w a b d l (s ∷ seen)
unfolding output_of total_of
pass s r k places e seen m =
    let n : numbers_of s ≡ k ∷ [] = ap (λ (y : Outcome). y.numbers) e in
    record {
      output = ap (λ (ns : List ℕ). wrote_in ns s.places ++ output_of seen) n ∙ m.output;
      written_is = omega (arith, ap written_in n, m.written_is);
      read_is = omega (arith, ap read_in n, m.read_is);
      replaced_is = omega (arith, ap replaced_in n, m.replaced_is);
      dropped_is = omega (arith, ap dropped_in n, m.dropped_is);
      lost_is = omega (arith, ap lost_in n, m.lost_is);
    }

-- the accepted calls of a list whose first is accepted or not
abbrev pub left_by : Bool → Call → List Call → List Call
left_by b c cs = cond b (c ∷ accepted_of cs) (accepted_of cs)

cons_nil : {A : Type 0} {P : Type 0} (x : A) (l : List A) → x ∷ l ≡ [] → P
cons_nil x l h = let z : ◌≡◌ {A = ℕ} 0 1 = cc in let e : ⊥ = omega arith in absurd e

-- ---- where no call is accepted, nothing is written and counted
none_by_call : (b : Bool) (c : Call) (cs : List Call) (r : Cleaner) (s : Answered) (seen : List Answered) →
    outcome s.returned s.places ≡ outcome_by b r c → left_by b c cs ≡ [] → (accepted_of cs ≡ [] → Listed [] 0 0 0 0 seen) →
    Listed [] 0 0 0 0 (s ∷ seen)
none_by_call true c cs r s seen e h ih = cons_nil c (accepted_of cs) h
none_by_call false c cs r s seen e h ih = pass s r (refusal_by c) (lent c) e seen (ih h)

none_listed : (calls : List Call) (r : Cleaner) (seen : List Answered) → Seen r calls seen → accepted_of calls ≡ [] →
    Listed [] 0 0 0 0 seen
unfolding accepted_of
none_listed [] r [] h n =
    unfold output_of total_of in
    record { output = refl; written_is = refl; read_is = refl; replaced_is = refl; dropped_is = refl; lost_is = refl }
none_listed [] r (s ∷ seen) h n = absurd h
none_listed (c ∷ cs) r [] h n = absurd h
none_listed (c ∷ cs) r (s ∷ seen) h n =
    none_by_call (accepts c) c cs r s seen (h.0 ∙ call_is r c) n (λ m. none_listed cs s.returned.next seen h.1 m)

-- ---- bytes in two parts, with the finish
module _ (p : List ℕ) (o : Options) (lines : Bool) where
  whole_append : (q : List ℕ) (t : Text) (xs ys : List ℕ) →
      whole_from p o lines q t (xs ++ ys)
      ≡ joined (passed_of p o lines t (outs_of q xs)) (whole_from p o lines (rest_of q xs) (passed_of p o lines t (outs_of q xs)).next ys)
  whole_append q t xs ys =
      let x : Passed = passed_of p o lines t (outs_of q xs) in
      let y : Passed = passed_of p o lines x.next (outs_of (rest_of q xs) ys) in
      ap₂ (λ (l m : List ℕ). joined (passed_of p o lines t l) (end_of p o m (passed_of p o lines t l).next true)) (outs_append q xs ys)
      (rest_append q xs ys)
      ∙ ap (λ (z : Passed). joined z (end_of p o (rest_of (rest_of q xs) ys) z.next true))
      (passed_append p o lines t (outs_of q xs) (outs_of (rest_of q xs) ys))
      ∙ joined_assoc x y (end_of p o (rest_of (rest_of q xs) ys) y.next true)

  -- what calls come to whose accepted bytes are bs, where q is pending and the text is t
  abbrev pub Whole : List ℕ → Text → List ℕ → List Answered → Type 0
  Whole q t bs seen =
      Listed (whole_from p o lines q t bs).out (length (outs_of q bs) + length (decoder.finish_of (rest_of q bs)))
      (replaced_of q bs + length (rest_of q bs)) (whole_from p o lines q t bs).dropped (whole_from p o lines q t bs).lost seen

  pub moved : {q r : List ℕ} {t u : Text} (bs : List ℕ) (seen : List Answered) → q ≡ r → t ≡ u → Whole q t bs seen → Whole r u bs seen
  moved {r = r} {t = t} bs seen e f w = subst (λ (u : Text). Whole r u bs seen) f (subst (λ (q : List ℕ). Whole q t bs seen) e w)

-- ---- the calls
-- an accepted call has room for what it writes
pub fits : (r : Cleaner) (c : Call) → accepts c ≡ true → length (encode_all (passed_by r c).out) ≤ length (lent c)
fits r (clean p o lines bs places) h =
    let n = length bs in
    let a = (both_true (accepted p) (eqb n 0 || leb (3 * n + 13) (length places)) h).1 in
    let b : not (ltb (length places) (places_for_bytes n)) ≡ true = sym (room_is n (length places)) ∙ a in
    omega (arith, bytes_room p o lines r no_tally bs, ltb-false (length places) (places_for_bytes n) (is_no _ b))
fits r (finish p o eof places) h =
    let b : not (ltb (length places) 8) ≡ true = sym (leb_is 8 (length places)) ∙ (both_true (accepted p) (leb 8 (length places)) h).1 in
    omega (arith, last_room r p o eof, ltb-false (length places) 8 (is_no _ b))

module _ (p : List ℕ) (o : Options) (lines : Bool) where
  abbrev Queued : List Call → List Answered → Type 0
  Queued cs seen = (r : Cleaner) → Seen r cs seen → FinishedOnce p o lines (accepted_of cs) →
      Whole p o lines (pending_of r.pending) r.text (chunks_of (accepted_of cs)) seen

  -- a chunk, and what follows
  clean_queued : (bs places : List ℕ) (cs : List Call) (r : Cleaner) (s : Answered) (seen : List Answered) →
      accepts (clean p o lines bs places) ≡ true →
      outcome s.returned s.places ≡ outcome_by true r (clean p o lines bs places) →
      Queued cs seen → Seen s.returned.next cs seen → FinishedOnce p o lines (accepted_of cs) →
      Whole p o lines (pending_of r.pending) r.text (bs ++ chunks_of (accepted_of cs)) (s ∷ seen)
  clean_queued bs places cs r s seen b e ih g h =
      let q : List ℕ = pending_of r.pending in
      let ys : List ℕ = chunks_of (accepted_of cs) in
      let x : Passed = passed_of p o lines r.text (chars_in r bs) in
      let w = moved p o lines ys seen (ap (λ (y : Outcome). y.pending) e) (ap (λ (y : Outcome). y.text) e)
      (ih s.returned.next g h) in
      let a = whole_append p o lines q r.text bs ys in
      let m : length (outs_of q (bs ++ ys)) ≡ length (outs_of q bs) + length (outs_of (rest_of q bs) ys) =
      ap length (outs_append q bs ys) ∙ length-append (outs_of q bs) (outs_of (rest_of q bs) ys) in
      let n = ap (λ (l : List ℕ). length (decoder.finish_of l)) (rest_append q bs ys) in
      let k = ap length (rest_append q bs ys) in
      same (s ∷ seen)
      (add s (length (chars_in r bs)) (replaced_of q bs) (rest_of q bs) x places e (fits r (clean p o lines bs places) b) seen w)
      (ap (λ (y : Passed). y.out) (sym a)) (omega (arith, m, n)) (omega (arith, replaced_append q bs ys, k))
      (ap (λ (y : Passed). y.dropped) (sym a)) (ap (λ (y : Passed). y.lost) (sym a))

  finish_queued : (places : List ℕ) (r : Cleaner) (s : Answered) (seen : List Answered) → accepts (finish p o true places) ≡ true →
      outcome s.returned s.places ≡ outcome_by true r (finish p o true places) → Listed [] 0 0 0 0 seen →
      Whole p o lines (pending_of r.pending) r.text [] (s ∷ seen)
  finish_queued places r s seen b e w =
      let q : List ℕ = pending_of r.pending in
      let x : Passed = finish_passed r p o true in
      same (s ∷ seen)
      (add s (length (decoder.finish_of q)) (length q) [] x places e (fits r (finish p o true places) b) seen w)
      (append-nil x.out) (omega arith) (omega arith) (omega arith) (omega arith)

  by_call : (b : Bool) (c : Call) (cs : List Call) (r : Cleaner) (s : Answered) (seen : List Answered) → accepts c ≡ b →
      outcome s.returned s.places ≡ outcome_by b r c → Queued cs seen → Seen s.returned.next cs seen →
      FinishedOnce p o lines (left_by b c cs) →
      Whole p o lines (pending_of r.pending) r.text (chunks_of (left_by b c cs)) (s ∷ seen)
  unfolding chunks_of
  by_call true (clean page options l bs places) cs r s seen b e ih g h =
      clean_queued bs places cs r s seen
      (subst (λ (x : List ℕ). accepts (clean x o lines bs places) ≡ true) h.0 b)
      (subst (λ (x : Bool). outcome s.returned s.places ≡ outcome_by true r (clean p o x bs places)) h.2
      (subst (λ (x : Options). outcome s.returned s.places ≡ outcome_by true r (clean p x l bs places)) h.1
      (subst (λ (x : List ℕ). outcome s.returned s.places ≡ outcome_by true r (clean x options l bs places)) h.0 e))) ih g h.3
  by_call true (finish page options eof places) cs r s seen b e ih g h =
      subst (λ (l : List Call). Whole p o lines (pending_of r.pending) r.text (chunks_of l) (s ∷ seen)) (sym h.3)
      (finish_queued places r s seen
      (subst (λ (x : List ℕ). accepts (finish x o true places) ≡ true) h.0 b)
      (subst (λ (x : Bool). outcome s.returned s.places ≡ outcome_by true r (finish p o x places)) h.2
      (subst (λ (x : Options). outcome s.returned s.places ≡ outcome_by true r (finish p x eof places)) h.1
      (subst (λ (x : List ℕ). outcome s.returned s.places ≡ outcome_by true r (finish x options eof places)) h.0 e)))
      (none_listed cs s.returned.next seen g h.3))
  by_call false c cs r s seen b e ih g h =
      pass s r (refusal_by c) (lent c) e seen
      (moved p o lines (chunks_of (accepted_of cs)) seen (ap (λ (y : Outcome). y.pending) e) (ap (λ (y : Outcome). y.text) e)
      (ih s.returned.next g h))

  -- ---- THE LIST
  pub listed : (calls : List Call) (seen : List Answered) → Queued calls seen
  unfolding accepted_of
  listed [] [] r g h = absurd h
  listed [] (s ∷ seen) r g h = absurd g
  listed (c ∷ cs) [] r g h = absurd g
  listed (c ∷ cs) (s ∷ seen) r g h =
      by_call (accepts c) c cs r s seen refl (g.0 ∙ call_is r c) (listed cs seen) g.1 h
