-- The entries' tests, and the definitions' cases.
--     Through, let_through            what a write that 9, 2, the values and 8 let through has
--     str_refused, bytes_refused      a write of characters, of bytes, that is refused before its steps
--     str_written, bytes_written      the definition of a write of characters, of bytes, that is not refused
--     end_anywhere                    how a write ends hangs on the first place alone
--     place_sound, place_room         what the steps ask for, from where a write begins
--     place_ends                      how it ends, by where they end
--     place_ends_written              what is answered by the first place alone is what the write comes to
--     taken                           the bytes taken beside what a write of characters returns
use Prim.Native.Nat.{ℕ, ◌+◌, ◌≤◌}
use mathlib.Core.Path.{◌≡◌, refl, sym, ◌∙◌, ap}
use mathlib.Core.Bool.{Bool, true, cond}
use mathlib.Core.List.{List, [], ◌∷◌}
use native.Mathlib.Omega.{arith}
use lib.Dec.{eqb, ltb}
use lib.ListN.{length, get_or}
use borrow.Author.Tests.{ne_eqb, eqb-false, ltb-false}
use Rattle.common.specs.Answers.{refusal_number}
use Rattle.common.specs.declared.Refusal.{Refusal}
use Rattle.common.proofs.Answers.{refusal_some}
use Rattle.common.proofs.Kit.{by}
use Rattle.scalars.specs.Utf8.{encode_all, chars_of}
use Rattle.page.specs.Page.{accepted}
use Rattle.text_output.specs.declared.Mode.{Mode}
use Rattle.text_output.specs.declared.TextOutput.{TextOutput}
use Rattle.text_output.specs.declared.Written.{Written}
use Rattle.text_output.specs.declared.WrittenBytes.{WrittenBytes}
use Rattle.text_output_write.specs.declared.store.Place.{Place}
use Rattle.text_output_write.specs.declared.store.Stopped.{Stopped}
use Rattle.text_output.specs.Writer.{Outcome, machine_of, sound, wrote_numbers, written_outcome, bytes_outcome}
use Rattle.text_output.specs.Write.{run_in, written_by, places_for_write, write_refusal, refused_write, write_str_refusal, write_str_of, succeeds, taking, write_bytes_refusal, write_of}
use Rattle.text_output_write.specs.Inner.{machine_at, pushed, stored, progress, end_of}
use Rattle.text_output_write.proofs.Ends.{ended_stored, write_fits}
use Rattle.std.specs.Prelude.{Result, Ok, Err}

-- ---- the tests
pub record Through (w : TextOutput) (p : List ℕ) (n room : ℕ) : Type 0 where
  pub is_sound : sound (machine_of w) ≡ true
  pub page : accepted p ≡ true
  pub fits : places_for_write w n ≤ room

module _ (w : TextOutput) (p : List ℕ) (values n room : ℕ) where
  by_room : sound (machine_of w) ≡ true → accepted p ≡ true → 0 ≡ cond (eqb values 0) (cond (ltb room (places_for_write w n)) 8 0) values →
      Through w p n room
  by_room s a e =
      by (eqb values 0)
      (λ v.
      by (ltb room (places_for_write w n))
      (λ t. let q : 0 ≡ 8 = rw (v, t) at e in absurd (omega arith))
      (λ t. record { is_sound = s; page = a; fits = ltb-false room (places_for_write w n) t }))
      (λ v. let q : 0 ≡ values = rw v at e in absurd (omega (arith, eqb-false values 0 v)))

  pub let_through : 0 ≡ write_refusal w p values n room → Through w p n room
  unfolding write_refusal
  let_through e =
      by (sound (machine_of w))
      (λ s.
      by (accepted p)
      (λ a. by_room s a (rw (s, a) at e))
      (λ a. let q : 0 ≡ 2 = rw (s, a) at e in absurd (omega arith)))
      (λ s. let q : 0 ≡ 9 = rw s at e in absurd (omega arith))

-- ---- a write that is refused
module _ (w : TextOutput) (p : List ℕ) (why : Refusal) (r : Written) (g : (written_outcome r []).given ≡ refused_write (refusal_number why) w) (places : List ℕ) where
  pub str_refused : (cs : List ℕ) → refusal_number why ≡ write_str_refusal w p cs (length places) → written_outcome r places ≡ write_str_of w p cs places
  unfolding write_str_of
  str_refused cs e = rw (← e, ne_eqb _ 0 (refusal_some why), ← g) refl

  pub bytes_refused : (bytes : List ℕ) → refusal_number why ≡ write_bytes_refusal w p bytes (length places) →
      taking bytes (written_outcome r places) ≡ write_of w p bytes places
  unfolding write_of
  bytes_refused bytes e = rw (← e, ne_eqb _ 0 (refusal_some why), ← g) refl

-- ---- one that is not
module _ (w : TextOutput) (p places : List ℕ) where
  pub str_written : (cs : List ℕ) → 0 ≡ write_str_refusal w p cs (length places) → written_by w p cs places ≡ write_str_of w p cs places
  unfolding write_str_of
  str_written cs e = rw (← e) refl

  pub bytes_written : (bytes : List ℕ) → 0 ≡ write_bytes_refusal w p bytes (length places) →
      taking bytes (written_by w p (chars_of bytes) places) ≡ write_of w p bytes places
  unfolding write_of
  bytes_written bytes e = rw (← e) refl

-- ---- by the first place alone
module _ (p : List ℕ) (mode : Mode) (expect : Bool) (r : Written) (x : Result Place Stopped) (escape : List ℕ) (first : ℕ)
    (e : written_outcome r (first ∷ []) ≡ end_of p mode expect (progress x escape (first ∷ []))) where
  pub end_anywhere : (places : List ℕ) → first ≡ get_or places 0 0 → written_outcome r places ≡ end_of p mode expect (progress x escape places)
  end_anywhere places f = ap (λ (o : Outcome). record { given = o.given; places = places }) e ∙ same x
    where
      same : (y : Result Place Stopped) → record { given = (end_of p mode expect (progress y escape (first ∷ []))).given; places = places } ≡ end_of p mode expect (progress y escape places)
      same (Ok next) = rw f refl
      same (Err s) = refl

-- ---- from where a write begins
module _ (w : TextOutput) (start : Place) (m : machine_at start w.escape_sequence ≡ machine_of w) (k : start.at ≡ w.kept) (p cs : List ℕ) where
  same_run : run_in w.mode p (machine_at start w.escape_sequence) cs ≡ run_in w.mode p (machine_of w) cs
  same_run = rw m refl

  pub place_sound : sound (machine_of w) ≡ true → sound (machine_at start w.escape_sequence) ≡ true
  place_sound s = rw m s

  pub place_room : (room : ℕ) → Through w p (length cs) room →
      start.at + length (pushed (run_in w.mode p (machine_at start w.escape_sequence) cs)) ≤ room
  place_room room t = rw (same_run, k) (write_fits p t.page cs w room t.is_sound t.fits)

  module _ (x : Result Place Stopped) (escape after places : List ℕ)
      (led : progress x escape after ≡ stored start.at places (run_in w.mode p (machine_at start w.escape_sequence) cs)) where
    pub place_ends : end_of p w.mode w.expect_starter (progress x escape after) ≡ written_by w p cs places
    unfolding written_by
    place_ends = ap (end_of p w.mode w.expect_starter) led ∙ rw (same_run, k) (sym (ended_stored p w (run_in w.mode p (machine_of w) cs) places))

    pub place_ends_written : (r : Written) (first : ℕ) →
        written_outcome r (first ∷ []) ≡ end_of p w.mode w.expect_starter (progress x escape (first ∷ [])) →
        first ≡ get_or after 0 0 → written_outcome r after ≡ written_by w p cs places
    place_ends_written r first e f = end_anywhere p w.mode w.expect_starter r x escape first e after f ∙ place_ends

-- ---- what a write of bytes returns
pub taken : (x : WrittenBytes) (y : Written) (n : ℕ) (places bytes : List ℕ) → x.used ≡ cond (succeeds (wrote_numbers y.answer)) n 0 →
    x.answer ≡ y.answer → x.next ≡ y.next → n ≡ length (encode_all (chars_of bytes)) →
    bytes_outcome x places ≡ taking bytes (written_outcome y places)
taken x y n places bytes u a m e = rw (u, a, m, e) refl
