-- One text, from bytes to bytes: what its bytes come to, with the finish as end of file, is the encoding of the cleaned text of the
-- characters that they are read as.
-- Idea: after the first character a text is the scanner's run, step by step; the first one is dropped where it is U+FEFF, and else goes
-- the same way from a record that has begun. A run and a finish are known (`whole` of text_input), and so is what the bytes are read as
-- (`decoded` of utf8_lossy).
--     chars_of             the characters that bytes are read as
--     end_of, whole_from    what a finish comes to, and bytes with it, from pending bytes and a text on
--     spent_passed        a text that has begun is the scanner's run
--     text_cleaned        the characters of a text and its end
--     whole_text          bytes and a finish are the characters that the bytes are read as, and the text's end; whole_out: what they
--                         append
--     text_is             so they are the one cleaned text
--     one_decoding        bytes are read as one list of characters
--     text_only           and the cleaned text is one
use Prim.Native.Nat.{ℕ, ◌+◌}
use mathlib.Core.Bool.{Bool, true, false, cond}
use mathlib.Core.List.{List, [], ◌∷◌, ◌++◌, append-nil, flatten}
use mathlib.Core.Logic.{inl}
use mathlib.Core.Path.{◌≡◌, refl, sym, ap, ap₂, ◌∙◌}
use lib.Dec.{eqb}
use lib.ListN.{length}
use Rattle.common.specs.Only.{ExactlyOne}
use Rattle.scalars.specs.Utf8.{encode_all}
use Rattle.page.specs.Page.{accepted}
use Rattle.utf8_lossy.specs.Lossy.{Lossy}
use Rattle.utf8_lossy.specs.Machine.{outs_of, rest_of, replaced_of, finish_of}
use Rattle.utf8_lossy.proofs.Reading.{decoded, only}
use Rattle.text_input.specs.declared.Options.{Options}
use Rattle.text_input.specs.declared.TextInput.{TextInput}
use Rattle.text_input.specs.Step.{scan_step_of, out_chars}
use Rattle.text_input.specs.Scan.{fresh, finish_chars}
use Rattle.text_input.specs.Inner.{outs, ends}
use Rattle.text_input.specs.Pieces.{Piece, Reading, cleaned}
use Rattle.text_input.specs.Streams.{scans_chars, scans_next, without_bom, without_bom_first}
use Rattle.text_input.proofs.Meaning.{ends_start}
use Rattle.text_input.proofs.Chunks.{outs_marked, ends_marked, chunks_first, first_ends}
use Rattle.text_input.proofs.Streams.{whole}
use Rattle.text_input.proofs.Unique.{exists, unique}
use Rattle.text_clean.specs.declared.text.Text.{Text}
use Rattle.text_clean.specs.Text.{Passed, fresh_text, begun, mark_of, stepped_of, take_of, joined, passed_of, closed_of}
use Rattle.text_clean.specs.Promise.{Decoding, CleanedText, text}
use Rattle.text_clean.proofs.Append.{joined_assoc, passed_append}

-- the characters that bytes are read as
abbrev pub chars_of : List ℕ → List ℕ
chars_of bs = outs_of [] bs ++ finish_of (rest_of [] bs)

-- ---- what is read is one
pub one_decoding : (l : List ℕ) → ExactlyOne Decoding (λ (d : Decoding). Lossy l d.chars d.replaced)
one_decoding l =
    let r = decoded l [] (inl refl) in
    record {
      one = record { chars = chars_of l; replaced = replaced_of [] l + length (rest_of [] l) };
      is = r;
      only = λ d h. let e = only h r in λ i. record { chars = e.0 i; replaced = e.1 i };
    }

-- ---- the end, and bytes with it, where q is pending and the text is t
abbrev pub end_of : List ℕ → Options → List ℕ → Text → Bool → Passed
end_of p o q t eof = joined (passed_of p o false t (finish_of q)) (closed_of (passed_of p o false t (finish_of q)).next eof)

abbrev pub whole_from : List ℕ → Options → Bool → List ℕ → Text → List ℕ → Passed
whole_from p o lines q t bs =
    joined (passed_of p o lines t (outs_of q bs)) (end_of p o (rest_of q bs) (passed_of p o lines t (outs_of q bs)).next true)

module _ (p : List ℕ) (o : Options) where
  -- ---- a text that has begun
  taken : (t : Text) → t.input.at_start ≡ false → (c : ℕ) → take_of p o false t c ≡ stepped_of p o false t c
  unfolding take_of
  taken t h c = rw h

  pub spent_passed : (cs : List ℕ) (t : Text) → t.input.at_start ≡ false →
      ((passed_of p o false t cs).out ≡ outs p o t.input cs) × ((passed_of p o false t cs).next.input ≡ ends p o t.input cs)
  spent_passed [] t h = (refl, refl)
  spent_passed (c ∷ cs) t h =
      let r : TextInput = t.input in
      let e : take_of p o false t c ≡ stepped_of p o false t c = taken t h c in
      let k : false ≡ r.at_start = sym h in
      let b : begun r ≡ r =
      λ i. record { state = r.state; expect_starter = r.expect_starter; at_start = k i; last = r.last; count = r.count } in
      let ih = spent_passed cs (stepped_of p o false t c).next (ends_start p o (begun r) (c ∷ [])) in (
        ap (λ (x : Passed). x.out ++ (passed_of p o false x.next cs).out) e
            ∙ ap (λ (l : List ℕ). out_chars (scan_step_of p o (begun r) c) ++ l) ih.0
            ∙ ap (λ (s : TextInput). outs p o s (c ∷ cs)) b,
        ap (λ (x : Passed). (passed_of p o false x.next cs).next.input) e
            ∙ ih.1
            ∙ ap (λ (s : TextInput). ends p o s (c ∷ cs)) b,
      )

  -- ---- the first character
  abbrev begun_text : Text
  begun_text = record { input = begun fresh; cr = false }

  -- from a fresh text, as from one that has begun, without a leading U+FEFF
  record Begins (cs ds : List ℕ) : Type 0 where
    out : (passed_of p o false fresh_text cs).out ≡ (passed_of p o false begun_text ds).out
    end : finish_chars (passed_of p o false fresh_text cs).next.input true ≡ finish_chars (passed_of p o false begun_text ds).next.input true

  begins_by : (c : ℕ) (cs : List ℕ) (b : Bool) → eqb c 0xFEFF ≡ b → Begins (c ∷ cs) (cond b cs (c ∷ cs))
  begins_by c cs true h =
      let e : take_of p o false fresh_text c ≡ mark_of fresh_text c = unfold take_of in rw h in
      record {
        out = ap (λ (x : Passed). x.out ++ (passed_of p o false x.next cs).out) e;
        end = ap (λ (x : Passed). finish_chars (passed_of p o false x.next cs).next.input true) e;
      }
  begins_by c cs false h =
      let e : take_of p o false fresh_text c ≡ take_of p o false begun_text c = unfold take_of in rw h in
      record {
        out = ap (λ (x : Passed). x.out ++ (passed_of p o false x.next cs).out) e;
        end = ap (λ (x : Passed). finish_chars (passed_of p o false x.next cs).next.input true) e;
      }

  begins : (cs : List ℕ) → Begins cs (without_bom cs)
  begins [] = record { out = refl; end = refl }
  begins (c ∷ cs) = begins_by c cs (eqb c 0xFEFF) refl

  -- ---- the characters of a text, and its end
  abbrev pub text_out : List ℕ → List ℕ
  text_out cs = (passed_of p o false fresh_text cs).out ++ finish_chars (passed_of p o false fresh_text cs).next.input true

  -- as the scanner has it
  text_run : (cs : List ℕ) → text_out cs ≡ outs p o fresh (without_bom cs) ++ finish_chars (ends p o fresh (without_bom cs)) true
  text_run cs =
      let ds : List ℕ = without_bom cs in
      let b = begins cs in
      let s = spent_passed ds begun_text refl in
      ap₂ (λ (l m : List ℕ). l ++ m) (b.out ∙ s.0 ∙ outs_marked p o fresh false 0 ds)
      (b.end ∙ ap (λ (r : TextInput). finish_chars r true) (s.1 ∙ ends_marked p o fresh false 0 ds))

  scans_run : (cs : List ℕ) →
      scans_chars p o fresh (cs ∷ []) ++ finish_chars (scans_next p o fresh (cs ∷ [])) true
      ≡ outs p o fresh (without_bom cs) ++ finish_chars (ends p o fresh (without_bom cs)) true
  scans_run cs =
      let n : without_bom cs ++ flatten [] ≡ without_bom cs = unfold flatten in append-nil (without_bom cs) in
      ap₂ (λ (l : List ℕ) (r : TextInput). l ++ finish_chars r true) (chunks_first p o fresh refl cs []) (first_ends p o fresh refl cs [])
      ∙ ap (λ (l : List ℕ). outs p o fresh l ++ finish_chars (ends p o fresh l) true) n

  pub text_cleaned : accepted p ≡ true → (cs : List ℕ) (xs : List Piece) → Reading o (without_bom cs) xs → text_out cs ≡ cleaned p o xs
  text_cleaned good cs xs read =
      let n : flatten (without_bom_first (cs ∷ [])) ≡ without_bom cs = unfold flatten in append-nil (without_bom cs) in
      text_run cs ∙ sym (scans_run cs) ∙ whole p good o (cs ∷ []) xs (rw n read)

  -- ---- the bytes of a text
  -- the characters of a text and its end, by all that they come to
  abbrev pub text_passed : List ℕ → Passed
  text_passed cs = joined (passed_of p o false fresh_text cs) (closed_of (passed_of p o false fresh_text cs).next true)

  pub whole_text : (bs : List ℕ) → whole_from p o false [] fresh_text bs ≡ text_passed (chars_of bs)
  whole_text bs =
      let e = passed_append p o false fresh_text (outs_of [] bs) (finish_of (rest_of [] bs)) in
      let x : Passed = passed_of p o false fresh_text (outs_of [] bs) in
      let y : Passed = passed_of p o false x.next (finish_of (rest_of [] bs)) in
      sym (joined_assoc x y (closed_of y.next true)) ∙ ap (λ (z : Passed). joined z (closed_of z.next true)) (sym e)

  pub whole_out : (bs : List ℕ) → (whole_from p o false [] fresh_text bs).out ≡ text_out (chars_of bs)
  whole_out bs = ap (λ (z : Passed). z.out) (whole_text bs)

  module _ (good : accepted p ≡ true) where
    pub text_is : (bs : List ℕ) → CleanedText p o bs (encode_all (text_out (chars_of bs)))
    text_is bs =
        let r = exists o (without_bom (chars_of bs)) in
        rw (text_cleaned good (chars_of bs) r.0 r.1) (text (decoded bs [] (inl refl)) r.1)

pub text_only : {p : List ℕ} {o : Options} {bs out also : List ℕ} → CleanedText p o bs out → CleanedText p o bs also → out ≡ also
text_only {p} {o} (text {xs = xs} d r) (text {xs = ys} e s) =
    let k = (only d e).0 in
    ap (λ (zs : List Piece). encode_all (cleaned p o zs)) (unique o _ xs ys r (rw (← k) at s))
