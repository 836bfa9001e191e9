-- THE PROMISE. A list of calls comes to the accepted bytes and a finish (proofs/Listed.antt), these to the one cleaned text
-- (proofs/Reading.antt), or with `lines` to those of the lines (proofs/Lines.antt), and that is UTF-8 (proofs/Valid.antt).
--     promise     the theorem
--     cut_free    equal bytes, however cut, give equal outputs and counts
use Prim.Native.Nat.{ℕ}
use mathlib.Core.Bool.{Bool, true, false}
use mathlib.Core.List.{List, [], append-nil}
use mathlib.Core.Logic.{inl}
use mathlib.Core.Path.{◌≡◌, refl, sym, ap, subst, ◌∙◌}
use lib.ListN.{length, length-append}
use Rattle.scalars.specs.Utf8.{encode_all}
use Rattle.page.specs.Page.{accepted}
use Rattle.utf8_lossy.specs.Lossy.{Lossy}
use Rattle.utf8_lossy.specs.Machine.{outs_of, rest_of}
use Rattle.utf8_lossy.specs.Machine as decoder
use Rattle.utf8_lossy.proofs.Reading.{decoded, only}
use Rattle.text_input.specs.declared.Options.{Options}
use Rattle.text_input.specs.Pieces.{Piece, Reading, cleaned}
use Rattle.text_input.specs.Streams.{without_bom}
use Rattle.text_clean.specs.declared.Cleaner.{Cleaner}
use Rattle.text_clean.specs.Text.{fresh_text}
use Rattle.text_clean.specs.Calls.{Call, Fresh, Answered, Seen, output_of, totals_of, accepted_of, bytes_of, FinishedOnce}
use Rattle.text_clean.specs.Promise.{CleanedTexts, CountedTexts, text, none, more, texts_of, Promise, Promised, CutFree}
use Rattle.text_input.proofs.Unique.{one_reading}
use Rattle.text_clean.proofs.Reading.{chars_of, whole_from, text_out, whole_out, text_is, one_decoding}
use Rattle.text_clean.proofs.Lines.{lines_are, texts_only}
use Rattle.text_clean.proofs.Listed.{Whole, moved, listed}
use Rattle.text_clean.proofs.Counting.{texts_counted, counts_only}
use Rattle.text_clean.proofs.Valid.{whole_valid}

module _ (page : List ℕ) (good : accepted page ≡ true) (o : Options) where
  -- the accepted bytes and a finish are the cleaned texts
  images : (lines : Bool) (bs : List ℕ) →
      CleanedTexts page o (texts_of lines bs) (encode_all (whole_from page o lines [] fresh_text bs).out)
  images false bs =
      rw (whole_out page o bs, ← append-nil (encode_all (text_out page o (chars_of bs))))
      (more (text_is page o good bs) none)
  images true bs = lines_are page o good bs

module _ (page : List ℕ) (o : Options) (lines : Bool) (calls : List Call) (once : FinishedOnce page o lines (accepted_of calls))
    (r : Cleaner) (new : Fresh r) (seen : List Answered) (saw : Seen r calls seen) where
  -- from a fresh record
  whole : Whole page o lines [] fresh_text (bytes_of calls) seen
  whole =
      moved page o lines (bytes_of calls) seen new.pending new.text
      (listed page o lines calls seen r saw once)

  module _ (good : accepted page ≡ true) where
    image_is : CleanedTexts page o (texts_of lines (bytes_of calls)) (output_of seen)
    image_is = rw whole.output (images page good o lines (bytes_of calls))

    whole_is : lines ≡ false → (cs : List ℕ) (n : ℕ) → Lossy (bytes_of calls) cs n → (xs : List Piece) →
        Reading o (without_bom cs) xs → output_of seen ≡ encode_all (cleaned page o xs)
    whole_is h cs n d xs read =
        texts_only (subst (λ (b : Bool). CleanedTexts page o (texts_of b (bytes_of calls)) (output_of seen)) h image_is)
        (more (text d read) none)
        ∙ append-nil (encode_all (cleaned page o xs))

    counts_are : (cs : List ℕ) (n : ℕ) → Lossy (bytes_of calls) cs n →
        ((totals_of seen).read ≡ length cs) × ((totals_of seen).replaced ≡ n)
    counts_are cs n d =
        let bs : List ℕ = bytes_of calls in
        let e = only (decoded bs [] (inl refl)) d in
        let n = length-append (outs_of [] bs) (decoder.finish_of (rest_of [] bs)) in
        (whole.read_is ∙ sym n ∙ ap length e.0, whole.replaced_is ∙ e.1)

    losses_are : CountedTexts o lines (texts_of lines (bytes_of calls)) (totals_of seen).dropped (totals_of seen).lost
    losses_are = rw (whole.dropped_is, whole.lost_is) (texts_counted page o lines (bytes_of calls))

    theorem : Promise page o lines (bytes_of calls) (output_of seen) (totals_of seen)
    theorem =
        let out : List ℕ = (whole_from page o lines [] fresh_text (bytes_of calls)).out in
        record {
          decoding = one_decoding;
          reading = one_reading o;
          image = image_is;
          only = λ other h. texts_only h image_is;
          whole = whole_is;
          valid = (out, whole_valid page o lines [] fresh_text (bytes_of calls), whole.output);
          written = whole.written_is ∙ ap length (sym whole.output);
          counts = counts_are;
          losses = losses_are;
          sole = λ d l h. counts_only h losses_are;
        }

-- THE THEOREM
pub promise : Promised
promise page good o lines calls once r new seen saw = theorem page o lines calls once r new seen saw good

-- two lists with equal bytes
pub cut_free : CutFree
cut_free page good o lines calls others once onceToo same r s new newToo seen also saw sawToo =
    let a = whole page o lines calls once r new seen saw in
    let b = rw (← same) at (whole page o lines others onceToo s newToo also sawToo) in
    let written = a.written_is ∙ sym b.written_is in
    let read = a.read_is ∙ sym b.read_is in
    let replaced = a.replaced_is ∙ sym b.replaced_is in
    let dropped = a.dropped_is ∙ sym b.dropped_is in
    let lost = a.lost_is ∙ sym b.lost_is in (
      a.output ∙ sym b.output,
      λ i. record { written = written i; read = read i; replaced = replaced i; dropped = dropped i; lost = lost i },
    )
