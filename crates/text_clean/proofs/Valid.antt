-- What comes out is UTF-8: bytes and a finish come to characters, whatever is pending and whatever the text is. What a chunk and its finish
-- put out are characters (`are_chars_lem`, `finish_chars_lem` of utf8_lossy), and a step or a text's end appends characters alone.
--     whole_valid    what bytes and a finish come to are characters
use Prim.Native.Nat.{ℕ}
use mathlib.Core.Bool.{Bool, true, false}
use mathlib.Core.List.{List}
use mathlib.Core.Path.{◌≡◌}
use Rattle.scalars.specs.Chars.{are_chars}
use Rattle.scalars.proofs.Texts.{chars_append}
use Rattle.utf8_lossy.specs.Machine.{outs_of, rest_of, finish_of}
use Rattle.utf8_lossy.proofs.Room.{are_chars_lem, finish_chars_lem}
use Rattle.text_input.specs.declared.Options.{Options}
use Rattle.text_input.proofs.Clean.{finish_chars_lem as end-chars}
use Rattle.text_clean.specs.declared.text.Text.{Text}
use Rattle.text_clean.specs.Text.{Passed, passed_of}
use Rattle.text_clean.proofs.Room.{passed_chars}
use Rattle.text_clean.proofs.Reading.{end_of, whole_from}

module _ (p : List ℕ) (o : Options) where
  end_valid : (q : List ℕ) (t : Text) (eof : Bool) → are_chars (end_of p o q t eof).out ≡ true
  end_valid q t eof =
      let x : Passed = passed_of p o false t (finish_of q) in
      chars_append x.out _ (passed_chars p o false t (finish_of q) (finish_chars_lem q)) (end-chars x.next.input eof)

  pub whole_valid : (lines : Bool) (q : List ℕ) (t : Text) (bs : List ℕ) → are_chars (whole_from p o lines q t bs).out ≡ true
  whole_valid lines q t bs =
      let x : Passed = passed_of p o lines t (outs_of q bs) in
      chars_append x.out _ (passed_chars p o lines t (outs_of q bs) (are_chars_lem q bs)) (end_valid (rest_of q bs) x.next true)
