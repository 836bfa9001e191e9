-- A list of calls with any number of finishes comes to what the scanner's streams come to. Idea: what the calls write, joined, is what the
-- parts give one after the other (as proofs/Listed.antt has it of one); a part and its finish go the scanner's way over the characters
-- that the part is read as, and leave a text where nothing is pending, from which the next goes on.
--     stream_from, queued     what parts give, and that calls come to it
--     text_from               the same by characters
--     goes_spent, -none, -first    a part without its finish, as the scanner has it
--     follows                the output is that of the scanner's stream
--     counted                what is counted, by pieces
--     streamed               THE THEOREM
use Prim.Native.Nat.{ℕ, ◌+◌}
use mathlib.Core.Bool.{Bool, true, false, cond, ◌||◌}
use mathlib.Core.List.{List, [], ◌∷◌, ◌++◌, append_assoc, append-nil, flatten}
use mathlib.Core.Logic.{inl}
use mathlib.Core.Path.{◌≡◌, refl, sym, ap, ap₂, subst, ◌∙◌}
use native.Mathlib.Omega.{arith}
use lib.Dec.{eqb}
use lib.ListN.{length, length-append}
use Rattle.common.proofs.Kit.{never}
use Rattle.scalars.specs.Utf8.{encode_all}
use Rattle.utf8_lossy.specs.Machine.{outs_of, rest_of, replaced_of}
use Rattle.utf8_lossy.specs.Machine as decoder
use Rattle.utf8_lossy.specs.Decode.{pending_of}
use Rattle.utf8_lossy.proofs.Reading.{decoded, outs_append, rest_append, replaced_append}
use Rattle.text_input.specs.declared.Options.{Options}
use Rattle.text_input.specs.declared.TextInput.{TextInput}
use Rattle.text_input_parts.specs.Appended.{last_of}
use Rattle.text_input.specs.Scan.{after_line, leading_bom, finish_chars, finish_next}
use Rattle.text_input.specs.Inner.{outs, ends}
use Rattle.text_input.specs.Pieces.{Piece, Reading}
use Rattle.text_input.specs.Streams.{Section, scans_chars, scans_next, stream_chars, stream_text, without_bom, without_bom_stream, Readings}
use Rattle.text_input.proofs.Chunks.{marked, outs_marked, ends_marked, spent_outs, spent_ends, chunks_first, first_ends}
use Rattle.text_input.proofs.Streams.{ready, stream}
use Rattle.text_input.proofs.Unique.{exists}
use Rattle.text_clean.specs.declared.text.Text.{Text}
use Rattle.text_clean.specs.declared.Cleaner.{Cleaner}
use Rattle.text_clean.specs.Text.{Passed, bit, fresh_text, mark_of, take_of, joined, passed_of, closed_of}
use Rattle.text_clean.specs.Clean.{Outcome, outcome, chars_in}
use Rattle.text_clean.specs.Clean as call
use Rattle.text_clean.specs.Calls.{Call, clean, finish, Answered, Seen, output_of, total_of, accepts, accepted_of}
use Rattle.text_clean.specs.Promise.{escaped, swallowed}
use Rattle.text_clean.specs.Streams.{Finished, Part, in_front, parts_of, chunk_of, Decoded, none, more, escaped_in, swallowed_in, AllStreamed}
use Rattle.text_clean.proofs.Append.{joined_assoc, passed_append}
use Rattle.text_clean.proofs.Reading.{chars_of, end_of, spent_passed}
use Rattle.text_clean.proofs.Listed.{refusal_by, lent, outcome_by, call_is, Listed, same, add, pass, left_by, fits}
use Rattle.text_clean.proofs.Counting.{run_is, run_escaped, run_swallowed, calm_false}

-- ---- what parts give
module _ (p : List ℕ) (o : Options) where
  abbrev nothing : Text → Passed
  nothing t = record { out = []; next = t; dropped = 0; lost = 0 }

  -- a part and its finish, where q is pending and the text is t
  abbrev part_from : List ℕ → Text → List ℕ → Bool → Passed
  part_from q t bs eof =
      joined (passed_of p o false t (outs_of q bs)) (end_of p o (rest_of q bs) (passed_of p o false t (outs_of q bs)).next eof)

  abbrev stream_from : List ℕ → Text → List Part → Passed
  stream_from q t [] = nothing t
  stream_from q t (s ∷ ps) =
      joined (part_from q t s.bytes s.eof) (stream_from [] (part_from q t s.bytes s.eof).next ps)

  abbrev read_from : List ℕ → List Part → ℕ
  read_from q [] = 0
  read_from q (s ∷ ps) = length (outs_of q s.bytes) + length (decoder.finish_of (rest_of q s.bytes)) + read_from [] ps

  abbrev replaced_from : List ℕ → List Part → ℕ
  replaced_from q [] = 0
  replaced_from q (s ∷ ps) = replaced_of q s.bytes + length (rest_of q s.bytes) + replaced_from [] ps

  -- bytes in front of a part
  part_append : (q : List ℕ) (t : Text) (xs ys : List ℕ) (eof : Bool) →
      part_from q t (xs ++ ys) eof
      ≡ joined (passed_of p o false t (outs_of q xs)) (part_from (rest_of q xs) (passed_of p o false t (outs_of q xs)).next ys eof)
  part_append q t xs ys eof =
      let x : Passed = passed_of p o false t (outs_of q xs) in
      let y : Passed = passed_of p o false x.next (outs_of (rest_of q xs) ys) in
      ap₂ (λ (l m : List ℕ). joined (passed_of p o false t l) (end_of p o m (passed_of p o false t l).next eof)) (outs_append q xs ys)
      (rest_append q xs ys)
      ∙ ap (λ (z : Passed). joined z (end_of p o (rest_of (rest_of q xs) ys) z.next eof))
      (passed_append p o false t (outs_of q xs) (outs_of (rest_of q xs) ys))
      ∙ joined_assoc x y (end_of p o (rest_of (rest_of q xs) ys) y.next eof)

  abbrev Some : List Part → Type 0
  Some [] = ⊥
  Some (s ∷ ps) = Unit {0}

  record Front (q : List ℕ) (t : Text) (bs : List ℕ) (ps : List Part) : Type 0 where
    all : stream_from q t (in_front bs ps)
        ≡ joined (passed_of p o false t (outs_of q bs)) (stream_from (rest_of q bs) (passed_of p o false t (outs_of q bs)).next ps)
    read : read_from q (in_front bs ps) ≡ length (outs_of q bs) + read_from (rest_of q bs) ps
    replaced : replaced_from q (in_front bs ps) ≡ replaced_of q bs + replaced_from (rest_of q bs) ps

  front : (q : List ℕ) (t : Text) (bs : List ℕ) (ps : List Part) → Some ps → Front q t bs ps
  front q t bs [] h = absurd h
  front q t bs (s ∷ ps) h =
      let ys : List ℕ = s.bytes in
      let x : Passed = passed_of p o false t (outs_of q bs) in
      let y : Passed = part_from (rest_of q bs) x.next ys s.eof in
      let m : length (outs_of q (bs ++ ys)) ≡ length (outs_of q bs) + length (outs_of (rest_of q bs) ys) =
      ap length (outs_append q bs ys) ∙ length-append (outs_of q bs) (outs_of (rest_of q bs) ys) in
      let n = ap (λ (l : List ℕ). length (decoder.finish_of l)) (rest_append q bs ys) in
      let k = ap length (rest_append q bs ys) in
      record {
        all =
            ap (λ (z : Passed). joined z (stream_from [] z.next ps)) (part_append q t bs ys s.eof)
            ∙ joined_assoc x y (stream_from [] y.next ps);
        read = omega (arith, m, n);
        replaced = omega (arith, replaced_append q bs ys, k);
      }

  some_front : (bs : List ℕ) (ps : List Part) → Some ps → Some (in_front bs ps)
  some_front bs [] h = h
  some_front bs (s ∷ ps) h = h

  some_parts : (l : List Call) → Finished p o true l → Some (parts_of l)
  unfolding parts_of
  some_parts [] h = never (sym h)
  some_parts (clean q x lines bs places ∷ l) h = some_front bs (parts_of l) (some_parts l h.3)
  some_parts (finish q x eof places ∷ l) h = tt

  -- ---- the calls
  abbrev Gives : List ℕ → Text → List Part → List Answered → Type 0
  Gives q t ps seen =
      Listed (stream_from q t ps).out (read_from q ps) (replaced_from q ps) (stream_from q t ps).dropped (stream_from q t ps).lost seen

  moved : {q r : List ℕ} {t u : Text} (ps : List Part) (seen : List Answered) → q ≡ r → t ≡ u → Gives q t ps seen → Gives r u ps seen
  moved {r = r} {t = t} ps seen e f w = subst (λ (u : Text). Gives r u ps seen) f (subst (λ (q : List ℕ). Gives q t ps seen) e w)

  abbrev Queued : List Call → List Answered → Type 0
  Queued cs seen =
      (r : Cleaner) → Seen r cs seen → (owes : Bool) → Finished p o owes (accepted_of cs) →
      Gives (pending_of r.pending) r.text (parts_of (accepted_of cs)) seen

  clean_queued : (bs places : List ℕ) (cs : List Call) (r : Cleaner) (s : Answered) (seen : List Answered) →
      accepts (clean p o false bs places) ≡ true →
      outcome s.returned s.places ≡ outcome_by true r (clean p o false bs places) →
      Queued cs seen → Seen s.returned.next cs seen → Finished p o true (accepted_of cs) →
      Gives (pending_of r.pending) r.text (in_front bs (parts_of (accepted_of cs))) (s ∷ seen)
  clean_queued bs places cs r s seen b e ih g h =
      let q : List ℕ = pending_of r.pending in
      let ps : List Part = parts_of (accepted_of cs) in
      let x : Passed = passed_of p o false r.text (chars_in r bs) in
      let w = moved ps seen (ap (λ (y : Outcome). y.pending) e) (ap (λ (y : Outcome). y.text) e) (ih s.returned.next g true h) in
      let f = front q r.text bs ps (some_parts (accepted_of cs) h) in
      same (s ∷ seen)
      (add s (length (chars_in r bs)) (replaced_of q bs) (rest_of q bs) x places e (fits r (clean p o false bs places) b) seen w)
      (ap (λ (y : Passed). y.out) (sym f.all)) (sym f.read) (sym f.replaced)
      (ap (λ (y : Passed). y.dropped) (sym f.all)) (ap (λ (y : Passed). y.lost) (sym f.all))

  finish_queued : (eof : Bool) (places : List ℕ) (cs : List Call) (r : Cleaner) (s : Answered) (seen : List Answered) →
      accepts (finish p o eof places) ≡ true →
      outcome s.returned s.places ≡ outcome_by true r (finish p o eof places) →
      Queued cs seen → Seen s.returned.next cs seen → Finished p o false (accepted_of cs) →
      Gives (pending_of r.pending) r.text (record { bytes = []; eof = eof } ∷ parts_of (accepted_of cs)) (s ∷ seen)
  finish_queued eof places cs r s seen b e ih g h =
      let q : List ℕ = pending_of r.pending in
      let ps : List Part = parts_of (accepted_of cs) in
      let x : Passed = call.finish_passed r p o eof in
      let w = moved ps seen (ap (λ (y : Outcome). y.pending) e) (ap (λ (y : Outcome). y.text) e) (ih s.returned.next g false h) in
      same (s ∷ seen)
      (add s (length (decoder.finish_of q)) (length q) [] x places e (fits r (finish p o eof places) b) seen w)
      refl (omega arith) (omega arith) (omega arith) (omega arith)

  by_call : (b : Bool) (c : Call) (cs : List Call) (r : Cleaner) (s : Answered) (seen : List Answered) → accepts c ≡ b →
      outcome s.returned s.places ≡ outcome_by b r c → Queued cs seen → Seen s.returned.next cs seen →
      (owes : Bool) → Finished p o owes (left_by b c cs) →
      Gives (pending_of r.pending) r.text (parts_of (left_by b c cs)) (s ∷ seen)
  unfolding parts_of
  by_call true (clean page options l bs places) cs r s seen b e ih g owes h =
      clean_queued bs places cs r s seen
      (subst (λ (x : List ℕ). accepts (clean x o false bs places) ≡ true) h.0 b)
      (subst (λ (x : Bool). outcome s.returned s.places ≡ outcome_by true r (clean p o x bs places)) h.2
      (subst (λ (x : Options). outcome s.returned s.places ≡ outcome_by true r (clean p x l bs places)) h.1
      (subst (λ (x : List ℕ). outcome s.returned s.places ≡ outcome_by true r (clean x options l bs places)) h.0 e))) ih g h.3
  by_call true (finish page options eof places) cs r s seen b e ih g owes h =
      finish_queued eof places cs r s seen
      (subst (λ (x : List ℕ). accepts (finish x o eof places) ≡ true) h.0 b)
      (subst (λ (x : Options). outcome s.returned s.places ≡ outcome_by true r (finish p x eof places)) h.1
      (subst (λ (x : List ℕ). outcome s.returned s.places ≡ outcome_by true r (finish x options eof places)) h.0 e)) ih g h.2
  by_call false c cs r s seen b e ih g owes h =
      pass s r (refusal_by c) (lent c) e seen
      (moved (parts_of (accepted_of cs)) seen (ap (λ (y : Outcome). y.pending) e) (ap (λ (y : Outcome). y.text) e)
      (ih s.returned.next g owes h))

  queued : (calls : List Call) (seen : List Answered) → Queued calls seen
  unfolding accepted_of
  queued [] [] r g owes h =
      unfold output_of total_of parts_of in
      record { output = refl; written_is = refl; read_is = refl; replaced_is = refl; dropped_is = refl; lost_is = refl }
  queued [] (s ∷ seen) r g owes h = absurd g
  queued (c ∷ cs) [] r g owes h = absurd g
  queued (c ∷ cs) (s ∷ seen) r g owes h =
      by_call (accepts c) c cs r s seen refl (g.0 ∙ call_is r c) (queued cs seen) g.1 owes h

  -- ---- by characters
  abbrev text_part : Text → List ℕ → Bool → Passed
  text_part t cs eof = joined (passed_of p o false t cs) (closed_of (passed_of p o false t cs).next eof)

  abbrev text_from : Text → List Part → Passed
  text_from t [] = nothing t
  text_from t (s ∷ ps) =
      joined (text_part t (chars_of s.bytes) s.eof) (text_from (text_part t (chars_of s.bytes) s.eof).next ps)

  part_text : (t : Text) (bs : List ℕ) (eof : Bool) → part_from [] t bs eof ≡ text_part t (chars_of bs) eof
  part_text t bs eof =
      let e = passed_append p o false t (outs_of [] bs) (decoder.finish_of (rest_of [] bs)) in
      let x : Passed = passed_of p o false t (outs_of [] bs) in
      let y : Passed = passed_of p o false x.next (decoder.finish_of (rest_of [] bs)) in
      sym (joined_assoc x y (closed_of y.next eof)) ∙ ap (λ (z : Passed). joined z (closed_of z.next eof)) (sym e)

  stream_text_lem : (t : Text) (ps : List Part) → stream_from [] t ps ≡ text_from t ps
  stream_text_lem t [] = refl
  stream_text_lem t (s ∷ ps) =
      let x : Passed = text_part t (chars_of s.bytes) s.eof in
      ap (λ (z : Passed). joined z (stream_from [] z.next ps)) (part_text t s.bytes s.eof)
      ∙ ap (joined x) (stream_text_lem x.next ps)

  -- ---- a part as the scanner has it
  -- a text as a finish leaves it, and a fresh one
  abbrev ready_text : Bool → Bool → ℕ → ℕ → Text
  ready_text b a n k = record { input = ready b a n k; cr = false }

  flat : (cs : List ℕ) → flatten (chunk_of cs) ≡ cs
  unfolding flatten
  flat [] = refl
  flat (c ∷ cs) = append-nil (c ∷ cs)

  flat_none : (l : List ℕ) → l ++ flatten [] ≡ l
  unfolding flatten
  flat_none l = append-nil l

  -- where the chance to drop U+FEFF is there, without that character
  record Begins (b : Bool) (n k : ℕ) (cs ds : List ℕ) : Type 0 where
    out : (passed_of p o false (ready_text b true n k) cs).out ≡ (passed_of p o false (ready_text b false n k) ds).out
    next : (passed_of p o false (ready_text b true n k) cs).next ≡ (passed_of p o false (ready_text b false n k) ds).next
    dropped : (passed_of p o false (ready_text b true n k) cs).dropped
        ≡ leading_bom cs + (passed_of p o false (ready_text b false n k) ds).dropped
    lost : (passed_of p o false (ready_text b true n k) cs).lost ≡ (passed_of p o false (ready_text b false n k) ds).lost
    size : length cs ≡ leading_bom cs + length ds

  begins_by : (b : Bool) (n k c : ℕ) (cs : List ℕ) (d : Bool) → eqb c 0xFEFF ≡ d → Begins b n k (c ∷ cs) (cond d cs (c ∷ cs))
  begins_by b n k c cs true h =
      let t : Text = ready_text b true n k in
      let e : take_of p o false t c ≡ mark_of t c = unfold take_of in rw h in
      record {
        out = ap (λ (x : Passed). x.out ++ (passed_of p o false x.next cs).out) e;
        next = ap (λ (x : Passed). (passed_of p o false x.next cs).next) e;
        dropped = ap (λ (x : Passed). x.dropped + (passed_of p o false x.next cs).dropped) e ∙ rw h;
        lost = ap (λ (x : Passed). x.lost + (passed_of p o false x.next cs).lost) e ∙ omega arith;
        size = rw h (omega arith);
      }
  begins_by b n k c cs false h =
      let e : take_of p o false (ready_text b true n k) c ≡ take_of p o false (ready_text b false n k) c = unfold take_of in rw h in
      let d : passed_of p o false (ready_text b true n k) (c ∷ cs) ≡ passed_of p o false (ready_text b false n k) (c ∷ cs) =
      ap (λ (x : Passed). joined x (passed_of p o false x.next cs)) e in
      let m = ap (λ (x : Passed). x.dropped) d in
      record {
        out = ap (λ (x : Passed). x.out) d;
        next = ap (λ (x : Passed). x.next) d;
        dropped = rw h (omega (arith, m));
        lost = ap (λ (x : Passed). x.lost) d;
        size = rw h (omega arith);
      }

  begins : (b : Bool) (n k c : ℕ) (cs : List ℕ) → Begins b n k (c ∷ cs) (without_bom (c ∷ cs))
  begins b n k c cs = begins_by b n k c cs (eqb c 0xFEFF) refl

  -- the characters cs, with the cleaner's count k, which stays, and the scanner's j, which grows
  record Goes (b a : Bool) (n k j : ℕ) (cs : List ℕ) (start : Bool) : Type 0 where
    after : TextInput
    count : ℕ
    chars : (passed_of p o false (ready_text b a n k) cs).out ≡ scans_chars p o (ready b a n j) (chunk_of cs)
    text : (passed_of p o false (ready_text b a n k) cs).next.input ≡ marked after start k
    scan : scans_next p o (ready b a n j) (chunk_of cs) ≡ marked after start count

  goes_spent : (b : Bool) (n k j : ℕ) (cs : List ℕ) → Goes b false n k j cs false
  goes_spent b n k j cs =
      let r : TextInput = ready b false n j in
      let s = spent_passed p o cs (ready_text b false n k) refl in
      record {
        after = ends p o r cs;
        count = j + length (flatten (chunk_of cs));
        chars = s.0 ∙ outs_marked p o r false k cs ∙ sym (spent_outs p o r refl (chunk_of cs) ∙ ap (outs p o r) (flat cs));
        text = s.1 ∙ ends_marked p o r false k cs;
        scan = spent_ends p o r refl (chunk_of cs)
            ∙ ap (λ (l : List ℕ). marked (ends p o r l) false (j + length (flatten (chunk_of cs)))) (flat cs);
      }

  goes_none : (b : Bool) (n k j : ℕ) → Goes b true n k j [] true
  unfolding scans_chars scans_next
  goes_none b n k j = record { after = ready b true n j; count = j; chars = refl; text = refl; scan = refl }

  goes_first : (b : Bool) (n k j c : ℕ) (cs : List ℕ) → Goes b true n k j (c ∷ cs) false
  goes_first b n k j c cs =
      let r : TextInput = ready b true n j in
      let ds : List ℕ = without_bom (c ∷ cs) in
      let g = begins b n k c cs in
      let s = spent_passed p o ds (ready_text b false n k) refl in
      let e = flat_none ds in
      record {
        after = ends p o r ds;
        count = j + (length (c ∷ cs) + length (flatten {A = ℕ} []));
        chars = g.out ∙ s.0 ∙ outs_marked p o r false k ds ∙ sym (chunks_first p o r refl (c ∷ cs) [] ∙ ap (outs p o r) e);
        text = ap (λ (t : Text). t.input) g.next ∙ s.1 ∙ ends_marked p o r false k ds;
        scan = first_ends p o r refl (c ∷ cs) []
            ∙ ap (λ (l : List ℕ). marked (ends p o r l) false (j + (length (c ∷ cs) + length (flatten {A = ℕ} [])))) e;
      }

  -- ---- the output
  abbrev sections_of : List Part → List Section
  sections_of [] = []
  sections_of (s ∷ ps) = record { chunks = chunk_of (chars_of s.bytes); eof = s.eof } ∷ sections_of ps

  abbrev line_by : TextInput → Bool → Bool
  line_by r eof = eof || after_line r.state

  abbrev last_by : TextInput → Bool → ℕ
  last_by r eof = last_of r.last (finish_chars r eof)

  module _ (b a : Bool) (n k j : ℕ) (cs : List ℕ) (start : Bool) (g : Goes b a n k j cs start) (eof : Bool) where
    part_next : (text_part (ready_text b a n k) cs eof).next ≡ ready_text (line_by g.after eof) start (last_by g.after eof) k
    part_next = ap (λ (r : TextInput). record { input = finish_next r eof; cr = false }) g.text

    part_step : (ps : List Part) (ss : List Section) →
        ((line : Bool) (last : ℕ) → (text_from (ready_text line start last k) ps).out ≡ stream_chars p o (ready line start last g.count) ss) →
        (text_part (ready_text b a n k) cs eof).out ++ (text_from (text_part (ready_text b a n k) cs eof).next ps).out
        ≡ stream_chars p o (ready b a n j) (record { chunks = chunk_of cs; eof = eof } ∷ ss)
    unfolding stream_chars
    part_step ps ss ih =
        let r : TextInput = ready b a n j in
        let u : List ℕ = scans_chars p o r (chunk_of cs) in
        let v : List ℕ = finish_chars g.after eof in
        let line : Bool = line_by g.after eof in
        let last : ℕ = last_by g.after eof in
        ap₂ (λ (l : List ℕ) (z : TextInput). (l ++ finish_chars z eof) ++ (text_from (record { input = finish_next z eof; cr = false }) ps).out) g.chars g.text
        ∙ append_assoc u v (text_from (ready_text line start last k) ps).out
        ∙ ap (λ (l : List ℕ). u ++ (v ++ l)) (ih line last)
        ∙ sym (ap (λ (z : TextInput). u ++ (finish_chars z eof ++ stream_chars p o (finish_next z eof) ss)) g.scan)

  follows_by : (cs : List ℕ) (eof : Bool) (ps : List Part) →
      ((a b : Bool) (n k j : ℕ) → (text_from (ready_text b a n k) ps).out ≡ stream_chars p o (ready b a n j) (sections_of ps)) →
      (a b : Bool) (n k j : ℕ) →
      (text_part (ready_text b a n k) cs eof).out ++ (text_from (text_part (ready_text b a n k) cs eof).next ps).out
      ≡ stream_chars p o (ready b a n j) (record { chunks = chunk_of cs; eof = eof } ∷ sections_of ps)
  follows_by cs eof ps ih false b n k j =
      let g = goes_spent b n k j cs in
      part_step b false n k j cs false g eof ps (sections_of ps) (λ line last. ih false line last k g.count)
  follows_by [] eof ps ih true b n k j =
      let g = goes_none b n k j in
      part_step b true n k j [] true g eof ps (sections_of ps) (λ line last. ih true line last k g.count)
  follows_by (c ∷ cs) eof ps ih true b n k j =
      let g = goes_first b n k j c cs in
      part_step b true n k j (c ∷ cs) false g eof ps (sections_of ps) (λ line last. ih false line last k g.count)

  follows : (ps : List Part) (a b : Bool) (n k j : ℕ) → (text_from (ready_text b a n k) ps).out ≡ stream_chars p o (ready b a n j) (sections_of ps)
  follows [] a b n k j = unfold stream_chars in refl
  follows (s ∷ ps) a b n k j = follows_by (chars_of s.bytes) s.eof ps (follows ps) a b n k j

  -- ---- what is counted
  -- the sections without a dropped U+FEFF
  abbrev opened_of : Bool → List Section → List Section
  opened_of true ss = without_bom_stream ss
  opened_of false ss = ss

  -- so many characters dropped and line ends lost, where the sections ss are these without a dropped U+FEFF, and xss their readings
  record Counted (dropped lost : ℕ) (all ss : List Section) (xss : List (List Piece)) : Type 0 where
    dropped_is : dropped + length (stream_text ss) ≡ length (stream_text all) + escaped_in xss
    lost_is : lost ≡ swallowed_in o xss

  abbrev CountedFrom : Text → List Part → List Section → List (List Piece) → Type 0
  CountedFrom t ps ss xss = Counted (text_from t ps).dropped (text_from t ps).lost (sections_of ps) ss xss

  -- a part of a text that has begun, by its reading
  part_counts : (b : Bool) (n k : ℕ) (cs : List ℕ) (xs : List Piece) → Reading o cs xs →
      ((passed_of p o false (ready_text b false n k) cs).dropped ≡ escaped xs)
      × ((passed_of p o false (ready_text b false n k) cs).lost + bit (passed_of p o false (ready_text b false n k) cs).next.cr ≡ swallowed o false xs)
  part_counts b n k cs xs read =
      let t : Text = ready_text b false n k in
      let e = run_is p o false t refl cs (calm_false p o cs) in (
        ap (λ (x : Passed). x.dropped) e ∙ run_escaped p o false t b refl refl cs xs read,
        ap (λ (x : Passed). x.lost + bit x.next.cr) e ∙ run_swallowed p o false t b refl refl cs xs read,
      )

  text_cons : (s : Section) (ss : List Section) → length (stream_text (s ∷ ss)) ≡ length (flatten s.chunks) + length (stream_text ss)
  unfolding stream_text
  text_cons s ss = length-append (flatten s.chunks) (stream_text ss)

  escaped_cons : (xs : List Piece) (xss : List (List Piece)) → escaped_in (xs ∷ xss) ≡ escaped xs + escaped_in xss
  escaped_cons xs xss = unfold escaped_in in refl

  swallowed_cons : (xs : List Piece) (xss : List (List Piece)) → swallowed_in o (xs ∷ xss) ≡ swallowed o false xs + swallowed_in o xss
  swallowed_cons xs xss = unfold swallowed_in in refl

  -- a part, of which `own` is what is left without a dropped U+FEFF, and others of which the counts are known from the text that it leaves
  part_counted : (b a : Bool) (n k : ℕ) (cs : List ℕ) (start : Bool) → Goes b a n k 0 cs start → (eof : Bool) →
      (own : Section) (xs : List Piece) →
      (passed_of p o false (ready_text b a n k) cs).dropped + length (flatten own.chunks) ≡ length cs + escaped xs →
      (passed_of p o false (ready_text b a n k) cs).lost + bit (passed_of p o false (ready_text b a n k) cs).next.cr ≡ swallowed o false xs →
      (ps : List Part) (ss : List Section) (xss : List (List Piece)) →
      ((line : Bool) (last : ℕ) → CountedFrom (ready_text line start last k) ps ss xss) →
      Counted ((text_part (ready_text b a n k) cs eof).dropped + (text_from (text_part (ready_text b a n k) cs eof).next ps).dropped)
      ((text_part (ready_text b a n k) cs eof).lost + (text_from (text_part (ready_text b a n k) cs eof).next ps).lost)
      (record { chunks = chunk_of cs; eof = eof } ∷ sections_of ps) (own ∷ ss) (xs ∷ xss)
  part_counted b a n k cs start g eof own xs d l ps ss xss ih =
      let e = part_next b a n k 0 cs start g eof in
      let c = subst (λ (u : Text). CountedFrom u ps ss xss) (sym e) (ih (line_by g.after eof) (last_by g.after eof)) in
      let m = text_cons (record { chunks = chunk_of cs; eof = eof }) (sections_of ps) in
      let f = ap length (flat cs) in
      record {
        dropped_is = omega (arith, d, c.dropped_is, m, f, text_cons own ss, escaped_cons xs xss);
        lost_is = omega (arith, l, c.lost_is, swallowed_cons xs xss);
      }

  one_chunk : (l : List ℕ) → flatten (l ∷ []) ≡ l
  unfolding flatten
  one_chunk l = append-nil l

  abbrev Counts : List Part → Type 0
  Counts ps =
      (a b : Bool) (n k : ℕ) (xss : List (List Piece)) → Readings o (opened_of a (sections_of ps)) xss →
      CountedFrom (ready_text b a n k) ps (opened_of a (sections_of ps)) xss

  counted_by : (cs : List ℕ) (eof : Bool) (ps : List Part) → Counts ps → (a b : Bool) (n k : ℕ) (xss : List (List Piece)) →
      Readings o (opened_of a (record { chunks = chunk_of cs; eof = eof } ∷ sections_of ps)) xss →
      Counted ((text_part (ready_text b a n k) cs eof).dropped + (text_from (text_part (ready_text b a n k) cs eof).next ps).dropped)
      ((text_part (ready_text b a n k) cs eof).lost + (text_from (text_part (ready_text b a n k) cs eof).next ps).lost)
      (record { chunks = chunk_of cs; eof = eof } ∷ sections_of ps) (opened_of a (record { chunks = chunk_of cs; eof = eof } ∷ sections_of ps)) xss
  counted_by cs eof ps ih false b n k [] read = absurd read
  counted_by cs eof ps ih false b n k (xs ∷ xss) read =
      let w = part_counts b n k cs xs (subst (λ (l : List ℕ). Reading o l xs) (flat cs) read.0) in
      let f = ap length (flat cs) in
      part_counted b false n k cs false (goes_spent b n k 0 cs) eof (record { chunks = chunk_of cs; eof = eof }) xs
      (omega (arith, w.0, f)) w.1 ps (sections_of ps) xss (λ line last. ih false line last k xss read.1)
  counted_by [] eof ps ih true b n k [] read = absurd read
  counted_by [] eof ps ih true b n k (xs ∷ xss) read =
      let w = part_counts b n k [] xs (subst (λ (l : List ℕ). Reading o l xs) (flat []) read.0) in
      let f = ap length (flat []) in
      part_counted b true n k [] true (goes_none b n k 0) eof (record { chunks = []; eof = eof }) xs
      (omega (arith, w.0, f)) w.1 ps (without_bom_stream (sections_of ps)) xss (λ line last. ih true line last k xss read.1)
  counted_by (c ∷ cs) eof ps ih true b n k [] read = absurd read
  counted_by (c ∷ cs) eof ps ih true b n k (xs ∷ xss) read =
      let ds : List ℕ = without_bom (c ∷ cs) in
      let w = part_counts b n k ds xs (subst (λ (l : List ℕ). Reading o l xs) (one_chunk ds) read.0) in
      let g = begins b n k c cs in
      let f = ap length (one_chunk ds) in
      let l = ap (λ (t : Text). bit t.cr) g.next in
      part_counted b true n k (c ∷ cs) false (goes_first b n k 0 c cs) eof (record { chunks = ds ∷ []; eof = eof }) xs
      (omega (arith, w.0, f, g.dropped, g.size)) (omega (arith, w.1, g.lost, l)) ps (sections_of ps) xss
      (λ line last. ih false line last k xss read.1)

  nothing_counted : (a : Bool) (xss : List (List Piece)) → Readings o (opened_of a []) xss → Counted 0 0 [] (opened_of a []) xss
  unfolding escaped_in swallowed_in stream_text
  nothing_counted true [] h = record { dropped_is = refl; lost_is = refl }
  nothing_counted false [] h = record { dropped_is = refl; lost_is = refl }
  nothing_counted true (xs ∷ xss) h = absurd h
  nothing_counted false (xs ∷ xss) h = absurd h

  counted : (ps : List Part) → Counts ps
  counted [] a b n k xss read = nothing_counted a xss read
  counted (s ∷ ps) a b n k xss read = counted_by (chars_of s.bytes) s.eof ps (counted ps) a b n k xss read

  -- ---- the sections, what they replace and read, and their readings
  parts_decoded : (ps : List Part) → Decoded ps (sections_of ps) (replaced_from [] ps)
  parts_decoded [] = none
  parts_decoded (s ∷ ps) = more (decoded s.bytes [] (inl refl)) (parts_decoded ps)

  parts_read : (ps : List Part) → read_from [] ps ≡ length (stream_text (sections_of ps))
  parts_read [] = unfold stream_text in refl
  parts_read (s ∷ ps) =
      let bs : List ℕ = s.bytes in
      let m = text_cons (record { chunks = chunk_of (chars_of bs); eof = s.eof }) (sections_of ps) in
      let f = ap length (flat (chars_of bs)) in
      let n = length-append (outs_of [] bs) (decoder.finish_of (rest_of [] bs)) in
      omega (arith, m, f, n, parts_read ps)

  readings : (ss : List Section) → (xss : List (List Piece)) × Readings o ss xss
  readings [] = ([], tt)
  readings (s ∷ ss) =
      let r = exists o (flatten s.chunks) in
      let q = readings ss in
      (r.0 ∷ q.0, (r.1, q.1))

-- ---- THE THEOREM
pub streamed : AllStreamed
streamed page good o calls last r new seen saw =
    let ps : List Part = parts_of (accepted_of calls) in
    let ss : List Section = sections_of page o ps in
    let w = moved page o ps seen new.pending new.text (queued page o calls seen r saw false last) in
    let e = stream_text_lem page o fresh_text ps in
    let q = readings page o (without_bom_stream ss) in
    let c = counted page o ps true true 0x0A 0 q.0 q.1 in
    let d = ap (λ (x : Passed). x.dropped) e in
    let l = ap (λ (x : Passed). x.lost) e in
    record {
      sections = ss;
      decoded = subst (Decoded ps ss) (sym w.replaced_is) (parts_decoded page o ps);
      readings = q.0;
      read_as = q.1;
      output_is =
          w.output
          ∙ ap encode_all (
          ap (λ (x : Passed). x.out) e ∙ follows page o ps true true 0x0A 0 0 ∙ stream page good o ss q.0 q.1
          );
      read = w.read_is ∙ parts_read page o ps;
      dropped = omega (arith, w.dropped_is, d, c.dropped_is);
      lost = omega (arith, w.lost_is, l, c.lost_is);
    }
