-- What calls come to, from a fresh record: a whole text, in any chunks and finished once as end of file, gives the cleaned text of
-- its reading; and a stream of chunks and finishes gives each section's image with what its finish adds. Each section is a run over
-- the joined chunks (proofs/Chunks.antt), whose meaning is known (proofs/Meaning.antt), and the finish leaves a ground state again.
--     nothing                     no text gives nothing
--     whole                       a whole text, in any chunks, finished once as end of file
--     stream                      a stream from a fresh record
--     stream_count                the count after a stream
--     stream_from_lem, stream_start   a stream from a record that a finish left, after a scan and before the first
--     ready                       such a record
--     last_newline_is              a whole text's last newline is the one that is owed
use Prim.Native.Nat.{ℕ, ◌+◌}
use mathlib.Core.Bool.{Bool, true, false, cond, not, ◌&&◌, ◌||◌}
use mathlib.Core.List.{List, [], ◌∷◌, ◌++◌, append_assoc, flatten}
use mathlib.Core.Path.{◌≡◌, refl, ap, ap₂, sym, ◌∙◌}
use native.Mathlib.Omega.{arith}
use lib.ListN.{length, length-append}
use Rattle.page.specs.Page.{accepted}
use Rattle.text_utils.specs.Classes.{basic_text_end}
use Rattle.text_utils.proofs.Classes.{end_newline}
use Rattle.text_input.specs.declared.State.TheVariants.{Ground}
use Rattle.text_input.specs.declared.Options.{Options}
use Rattle.text_input.specs.declared.TextInput.{TextInput}
use Rattle.text_input_parts.specs.Appended.{lead_chars, last_of}
use Rattle.text_input.specs.Scan.{fresh, finish_chars, finish_next}
use Rattle.text_input.specs.Inner.{outs, ends}
use Rattle.text_input.specs.Pieces.{Piece, Reading, is_line, image, end_mark, last_newline, cleaned}
use Rattle.text_input.specs.Streams.{Section, scans_chars, scans_next, stream_chars, stream_next, stream_text, without_bom, without_bom_first, without_bom_stream}
use Rattle.text_input.specs.Streams.{Readings, owed_after, section_of, stream_of}
use Rattle.text_input.proofs.Meaning.{section_after, section_chars, section_next}
use Rattle.text_input.proofs.Chunks.{marked, spent_outs, spent_ends, chunks_first, first_ends, count_of}
use Rattle.std.specs.Prelude.{Some, None}

-- the record that a finish leaves, and a fresh one: a start is expected, and nothing is pending
abbrev pub ready : Bool → Bool → ℕ → ℕ → TextInput
ready line start last count =
    record { state = Ground line; expect_starter = true; at_start = start; last = last; count = count }

-- a fresh record owes nothing: case 1, "empty: empty"
pub nothing : finish_chars fresh true ≡ []
nothing = rw end_newline

-- ---- a section by its pieces, where a start is expected
joiner_lead : (b : Bool) → lead_chars (cond b None (Some 0x34F)) ≡ cond b [] (0x34F ∷ [])
joiner_lead true = refl
joiner_lead false = refl

newline_lead : (b : Bool) → lead_chars (cond b (Some 0x0A) None) ≡ cond b (0x0A ∷ []) []
newline_lead true = refl
newline_lead false = refl

section_is : (p : List ℕ) (o : Options) (n : ℕ) (owed : Bool) (xs : List Piece) (eof : Bool) →
    section_after p o true n owed xs eof ≡ section_of p o n owed xs eof
unfolding section_after section_of
section_is p o n owed xs eof = rw (joiner_lead (basic_text_end (last_of n (image o xs))), newline_lead (eof && owed_after owed xs))

-- a whole text's
end_mark_is : (w : List ℕ) → cond (basic_text_end (last_of 0x0A w)) [] (0x34F ∷ []) ≡ end_mark w
unfolding end_mark
end_mark_is [] = rw end_newline
end_mark_is (x ∷ []) = refl
end_mark_is (x ∷ y ∷ w) = end_mark_is (y ∷ w)

cond_not : (b : Bool) (u v : List ℕ) → cond (not b) u v ≡ cond b v u
cond_not true u v = refl
cond_not false u v = refl

newline_is : (owed : Bool) (x : Piece) (xs : List Piece) → cond (owed_after owed (x ∷ xs)) (0x0A ∷ []) [] ≡ last_newline (x ∷ xs)
unfolding owed_after last_newline
newline_is owed x [] = cond_not (is_line x.kind) (0x0A ∷ []) []
newline_is owed x (y ∷ xs) = newline_is (not (is_line x.kind)) y xs

pub last_newline_is : (xs : List Piece) → cond (owed_after false xs) (0x0A ∷ []) [] ≡ last_newline xs
last_newline_is [] = unfold owed_after last_newline in refl
last_newline_is (x ∷ xs) = newline_is false x xs

whole_is : (p : List ℕ) (o : Options) (xs : List Piece) → section_of p o 0x0A false xs true ≡ cleaned p o xs
unfolding section_of cleaned
whole_is p o xs = rw (end_mark_is (image o xs), last_newline_is xs)

module _ (p : List ℕ) (good : accepted p ≡ true) (o : Options) where
  -- ---- one section: the chunks cs come to a run over the text t
  record Comes (r : TextInput) (cs : List (List ℕ)) (t : List ℕ) (start : Bool) (count : ℕ) : Type 0 where
    chars : scans_chars p o r cs ≡ outs p o r t
    next : scans_next p o r cs ≡ marked (ends p o r t) start count

  comes_none : (r : TextInput) → Comes r [] [] r.at_start r.count
  unfolding scans_chars scans_next
  comes_none r = record { chars = refl; next = refl }

  comes_spent : (r : TextInput) → r.at_start ≡ false → (cs : List (List ℕ)) →
      Comes r cs (flatten cs) false (r.count + length (flatten cs))
  comes_spent r h cs = record { chars = spent_outs p o r h cs; next = spent_ends p o r h cs }

  comes_first : (r : TextInput) → r.at_start ≡ true → (c : List ℕ) (cs : List (List ℕ)) →
      Comes r (c ∷ cs) (without_bom c ++ flatten cs) false (r.count + (length c + length (flatten cs)))
  comes_first r h c cs = record { chars = chunks_first p o r h c cs; next = first_ends p o r h c cs }

  module _ (b a : Bool) (n k : ℕ) (cs : List (List ℕ)) (t : List ℕ) (start : Bool) (count : ℕ)
      (h : Comes (ready b a n k) cs t start count) (xs : List Piece) (read : Reading o t xs) (eof : Bool) where
    section_step : scans_chars p o (ready b a n k) cs ++ finish_chars (scans_next p o (ready b a n k) cs) eof
        ≡ section_of p o n (not b) xs eof
    section_step =
        ap₂ (λ (u : List ℕ) (z : TextInput). u ++ finish_chars z eof) h.chars h.next
        ∙ section_chars p good o (ready b a n k) b refl t xs read eof
        ∙ section_is p o n (not b) xs eof

    section_ready : finish_next (scans_next p o (ready b a n k) cs) eof
        ≡ ready (eof || not (owed_after (not b) xs)) start (last_of n (section_of p o n (not b) xs eof)) count
    section_ready =
        ap (λ (z : TextInput). finish_next z eof) h.next
        ∙ ap (λ (z : TextInput). marked z start count) (section_next p good o (ready b a n k) b refl t xs read eof)
        ∙ ap (λ w. ready (eof || not (owed_after (not b) xs)) start (last_of n w) count) (section_is p o n (not b) xs eof)

  -- ---- A WHOLE TEXT, in any chunks, finished once as end of file
  pub whole : (cs : List (List ℕ)) (xs : List Piece) → Reading o (flatten (without_bom_first cs)) xs →
      scans_chars p o fresh cs ++ finish_chars (scans_next p o fresh cs) true ≡ cleaned p o xs
  unfolding flatten
  whole [] xs read = section_step true true 0x0A 0 [] [] true 0 (comes_none fresh) xs read true ∙ whole_is p o xs
  whole (c ∷ cs) xs read =
      section_step true true 0x0A 0 (c ∷ cs) (without_bom c ++ flatten cs) false (0 + (length c + length (flatten cs)))
      (comes_first fresh refl c cs) xs read true
      ∙ whole_is p o xs

  -- ---- A STREAM
  owed_on : (eof owed : Bool) → not (eof || not owed) ≡ not eof && owed
  owed_on true owed = refl
  owed_on false true = refl
  owed_on false false = refl

  -- one section, then others of which the meaning is known from the record that this one leaves
  stream_step : (b a : Bool) (n k : ℕ) (cs : List (List ℕ)) (t : List ℕ) (start : Bool) (count : ℕ) →
      Comes (ready b a n k) cs t start count → (xs : List Piece) → Reading o t xs → (eof : Bool) →
      (ss us : List Section) (xss : List (List Piece)) →
      ((line : Bool) (last : ℕ) → stream_chars p o (ready line start last count) ss ≡ stream_of p o last (not line) us xss) →
      (ts : List (List ℕ)) →
      stream_chars p o (ready b a n k) (record { chunks = cs; eof = eof } ∷ ss)
      ≡ stream_of p o n (not b) (record { chunks = ts; eof = eof } ∷ us) (xs ∷ xss)
  unfolding stream_chars stream_of
  stream_step b a n k cs t start count h xs read eof ss us xss rest ts =
      let owed = owed_after (not b) xs in
      let last = last_of n (section_of p o n (not b) xs eof) in
      let r = ready b a n k in
      let after = scans_next p o r cs in
      sym (append_assoc (scans_chars p o r cs) (finish_chars after eof) (stream_chars p o (finish_next after eof) ss))
      ∙ ap₂ (λ (u : List ℕ) (z : TextInput). u ++ stream_chars p o z ss)
      (section_step b a n k cs t start count h xs read eof)
      (section_ready b a n k cs t start count h xs read eof)
      ∙ ap (λ u. section_of p o n (not b) xs eof ++ u) (
      rest (eof || not owed) last ∙ ap (λ x. stream_of p o last x us xss) (owed_on eof owed)
      )

  -- from a record that has had a scan
  pub stream_from_lem : (ss : List Section) (xss : List (List Piece)) → Readings o ss xss → (line : Bool) (last count : ℕ) →
      stream_chars p o (ready line false last count) ss ≡ stream_of p o last (not line) ss xss
  stream_from_lem [] xss read line last count = unfold stream_chars stream_of in refl
  stream_from_lem (s ∷ ss) [] read line last count = absurd read
  stream_from_lem (s ∷ ss) (xs ∷ xss) read line last count =
      let k = count + length (flatten s.chunks) in
      stream_step line false last count s.chunks (flatten s.chunks) false k
      (comes_spent (ready line false last count) refl s.chunks) xs read.0 s.eof
      ss ss xss (λ line last. stream_from_lem ss xss read.1 line last k) s.chunks

  -- from one that has had none: its first chunk may come after a finish
  start_by : (cs : List (List ℕ)) (eof : Bool) (ss : List Section) →
      ((xss : List (List Piece)) → Readings o (without_bom_stream ss) xss → (line : Bool) (last count : ℕ) →
      stream_chars p o (ready line true last count) ss ≡ stream_of p o last (not line) (without_bom_stream ss) xss) →
      (xss : List (List Piece)) → Readings o (without_bom_stream (record { chunks = cs; eof = eof } ∷ ss)) xss →
      (line : Bool) (last count : ℕ) →
      stream_chars p o (ready line true last count) (record { chunks = cs; eof = eof } ∷ ss)
      ≡ stream_of p o last (not line) (without_bom_stream (record { chunks = cs; eof = eof } ∷ ss)) xss
  unfolding flatten
  start_by [] eof ss ih [] read line last count = absurd read
  start_by [] eof ss ih (xs ∷ xss) read line last count =
      stream_step line true last count [] [] true count (comes_none (ready line true last count)) xs read.0 eof
      ss (without_bom_stream ss) xss (λ line last. ih xss read.1 line last count) []
  start_by (c ∷ cs) eof ss ih [] read line last count = absurd read
  start_by (c ∷ cs) eof ss ih (xs ∷ xss) read line last count =
      let k = count + (length c + length (flatten cs)) in
      stream_step line true last count (c ∷ cs) (without_bom c ++ flatten cs) false k
      (comes_first (ready line true last count) refl c cs) xs read.0 eof
      ss ss xss (λ line last. stream_from_lem ss xss read.1 line last k) (without_bom c ∷ cs)

  pub stream_start : (ss : List Section) (xss : List (List Piece)) → Readings o (without_bom_stream ss) xss → (line : Bool) (last count : ℕ) →
      stream_chars p o (ready line true last count) ss ≡ stream_of p o last (not line) (without_bom_stream ss) xss
  stream_start [] xss read line last count = unfold stream_chars stream_of in refl
  stream_start (s ∷ ss) xss read line last count =
      start_by s.chunks s.eof ss (λ yss g. stream_start ss yss g) xss read line last count

  pub stream : (ss : List Section) (xss : List (List Piece)) → Readings o (without_bom_stream ss) xss →
      stream_chars p o fresh ss ≡ stream_of p o 0x0A false (without_bom_stream ss) xss
  stream ss xss read = stream_start ss xss read true 0x0A 0

-- ---- THE COUNT: the characters of all chunks, on every page and record
pub stream_count : (p : List ℕ) (o : Options) (r : TextInput) (ss : List Section) →
    (stream_next p o r ss).count ≡ r.count + length (stream_text ss)
unfolding stream_next stream_text
stream_count p o r [] = omega arith
stream_count p o r (s ∷ ss) =
    let n = stream_count p o (finish_next (scans_next p o r s.chunks) s.eof) ss in
    omega (arith, n, count_of p o r s.chunks, length-append (flatten s.chunks) (stream_text ss))
