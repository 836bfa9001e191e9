-- What goes over to the caller comes back as it was, since the two tables for states, modes and flags agree, and so do reading and
-- writing numbers. So a stream's records are handed on from call to call unchanged.
--     record_back     a record as numbers, read again
--     writer_back     the writer's record as numbers, read again
--     Wide            each number of a list has 32 bits
--     numbers_back    numbers as bytes, read again
--     options_back    each choice of options has a number
--     reply-..        a reply says what the call answered: refused or not, how many, told to abandon or not, the reason and its values
use Prim.Native.Nat.{ℕ, suc, ◌+◌, ◌*◌, ◌<◌, ◌/◌, ◌%◌}
use mathlib.Core.Bool.{Bool, true, false}
use mathlib.Core.Path.{◌≡◌, refl}
use Rattle.check_char.specs.declared.BasicTextError.{BasicTextError}
use Rattle.check_char.specs.declared.BasicTextError.TheVariants.{ColorEscapeSequence, ControlCode, DeprecatedFormatChar, Escape, BidiFormatChar, Interlinear, LanguageTag, LineSeparation, NonChar, ParaSeparation, UnneededBOM, OutOfBand, Omit, Beyyal, UnrecognizedEscape, Replacement}
use Rattle.check_char.proofs.Back.{error_of}
use Rattle.common.specs.Answers.{refusal_number}
use Rattle.common.specs.declared.Refusal.{Refusal}
use Rattle.text_input.specs.declared.Options.{Options}
use Rattle.text_input.specs.Scan.{outcome}
use Rattle.text_output.specs.Writer.{bytes_outcome}
use Rattle.basic_text_numbers.specs.Numbers.{flag_number}
use Rattle.basic_text.specs.declared.WriteReply.{WriteReply}
use mathlib.Core.List.{List, [], ◌∷◌}
use native.Mathlib.Omega.{arith}
use lib.ListN.{get_or}
use Rattle.text_input.specs.declared.TextInput.{TextInput}
use Rattle.text_output.specs.declared.TextOutput.{TextOutput}
use Rattle.basic_text_numbers.proofs.Back.{flag_back, state_back, mode_back, writer_state_back}
use Rattle.basic_text.specs.Exports.{number_of, numbers_of, bytes_of, record_of, options_of, record_numbers, reply_of, writer_of, writer_numbers, write_reply_of}
use Rattle.std.specs.Prelude.{Ok, Err, Result}
use Rattle.text_output.specs.declared.WriteError.{WriteError}
use Rattle.text_output.specs.declared.WriteError.TheVariants.{Refused, Abandon, Unwritable}

-- "Scan, finish and byte write are exported on numbers and byte slices for the Rust harness."
pub record_back : (r : TextInput) → record_of (record_numbers r) ≡ r
record_back r =
    λ i. record {
      state = state_back r.state i;
      expect_starter = flag_back r.expect_starter i;
      at_start = flag_back r.at_start i;
      last = r.last;
      count = r.count;
    }

pub writer_back : (w : TextOutput) → writer_of (writer_numbers w) ≡ w
writer_back w =
    λ i. record {
      mode = mode_back w.mode i;
      expect_starter = flag_back w.expect_starter i;
      state = writer_state_back w.state i;
      kept = w.kept;
      held = w.held;
      escape_sequence = w.escape_sequence;
    }

-- every number has 32 bits
abbrev pub Wide : List ℕ → Type 0
Wide ns = (i : ℕ) → get_or ns i 0 < 4294967296

pub wide_more : (n : ℕ) (ns : List ℕ) → Wide (n ∷ ns) → Wide ns
wide_more n ns w i = w (suc i)

-- n = n % 256 + 256 × x, x = x % 256 + 256 × y and y = y % 256 + 256 × z
digits : (n x y z : ℕ) → x ≡ n / 256 → y ≡ x / 256 → z ≡ y / 256 → z < 256 → number_of (n % 256) (x % 256) (y % 256) (z % 256) ≡ n
digits n x y z hx hy hz h =
    let a : n ≡ n % 256 + 256 * x = omega arith in
    let b : x ≡ x % 256 + 256 * y = omega arith in
    let c : y ≡ y % 256 + 256 * z = omega arith in
    let d : z % 256 ≡ z = omega arith in
    omega (arith, a, b, c, d)

pub number_back : (n : ℕ) → n < 4294967296 → number_of (n % 256) (n / 256 % 256) (n / 65536 % 256) (n / 16777216 % 256) ≡ n
number_back n h = digits n (n / 256) (n / 65536) (n / 16777216) refl (omega arith) (omega arith) (omega arith)

pub numbers_back : (ns : List ℕ) → Wide ns → numbers_of (bytes_of ns) ≡ ns
numbers_back [] h = refl
numbers_back (n ∷ ns) h = rw (number_back n (h 0), numbers_back ns (wide_more n ns h))

-- ---- what goes over in one direction only
-- each choice of options has a number
options_by_lem : (nel lsps units : Bool) →
    options_of (flag_number nel + 2 * flag_number lsps + 4 * flag_number units)
    ≡ record { nel_compatibility = nel; lsps_compatibility = lsps; units_compatibility = units }
options_by_lem true true true = refl
options_by_lem true true false = refl
options_by_lem true false true = refl
options_by_lem true false false = refl
options_by_lem false true true = refl
options_by_lem false true false = refl
options_by_lem false false true = refl
options_by_lem false false false = refl

pub options_back : (o : Options) →
    options_of (flag_number o.nel_compatibility + 2 * flag_number o.lsps_compatibility + 4 * flag_number o.units_compatibility) ≡ o
options_back o = options_by_lem o.nel_compatibility o.lsps_compatibility o.units_compatibility

-- the other bits have no meaning
pub options_others : (n : ℕ) → options_of n ≡ options_of (n % 8)
options_others n =
    let a : n % 2 ≡ n % 8 % 2 = omega arith in
    let halves : n / 2 ≡ 4 * (n / 8) + n % 8 / 2 = omega arith in
    let quarters : n / 4 ≡ 2 * (n / 8) + n % 8 / 4 = omega arith in
    let b : n / 2 % 2 ≡ n % 8 / 2 % 2 = rw halves (omega arith) in
    let c : n / 4 % 2 ≡ n % 8 / 4 % 2 = rw quarters (omega arith) in
    rw (← a, ← b, ← c)

-- a reply says what the call answered
pub reply_written : (n : ℕ) (next : TextInput) (places : List ℕ) →
    let r = reply_of (outcome (record { answer = Ok n; next = next }) places) in (r.refused ≡ 0) × (r.written ≡ n)
reply_written n next places = (refl, refl)

pub reply_refused : (why : Refusal) (next : TextInput) (places : List ℕ) →
    let r = reply_of (outcome (record { answer = Err why; next = next }) places) in (r.refused ≡ refusal_number why) × (r.written ≡ 0)
reply_refused why next places = (refl, refl)

abbrev replied : ℕ → Result ℕ WriteError → TextOutput → WriteReply
replied used answer next = write_reply_of (bytes_outcome (record { used = used; answer = answer; next = next }) [])

-- refused or not, told to abandon or not, how many bytes taken and characters handed out
abbrev told : WriteReply → List ℕ
told r = r.refused ∷ r.abandon ∷ r.used ∷ r.written ∷ []

-- the reason and its values
abbrev why : WriteReply → List ℕ
why r = r.reason ∷ r.character ∷ r.count ∷ r.first ∷ r.second ∷ r.third ∷ []

abbrev nothing : List ℕ
nothing = 0 ∷ 0 ∷ 0 ∷ 0 ∷ 0 ∷ 0 ∷ []

module _ (used : ℕ) (next : TextOutput) where
  pub reply_handed : (k : ℕ) → let r = replied used (Ok k) next in (told r ≡ 0 ∷ 0 ∷ used ∷ k ∷ []) × (r.reason ≡ 0)
  reply_handed k = (refl, refl)

  pub reply_quiet : (e : Refusal) → let r = replied used (Err (Refused e)) next in
      (told r ≡ refusal_number e ∷ 0 ∷ used ∷ 0 ∷ []) × (why r ≡ nothing)
  reply_quiet e = (refl, refl)

  -- "tell the caller to abandon"
  pub reply_abandon : (e : Refusal) → let r = replied used (Err (Abandon e)) next in
      (told r ≡ refusal_number e ∷ 1 ∷ used ∷ 0 ∷ []) × (why r ≡ nothing)
  reply_abandon e = (refl, refl)

  -- "4 .. with the reason as the place in `BasicTextError`"
  pub reply_unwritable : (e : BasicTextError) → let r = replied used (Err (Unwritable e)) next in
      (told r ≡ 4 ∷ 1 ∷ used ∷ 0 ∷ []) × (error_of (why r) ≡ e)
  reply_unwritable ColorEscapeSequence = (refl, refl)
  reply_unwritable (ControlCode c) = (refl, refl)
  reply_unwritable (DeprecatedFormatChar c) = (refl, refl)
  reply_unwritable Escape = (refl, refl)
  reply_unwritable BidiFormatChar = (refl, refl)
  reply_unwritable Interlinear = (refl, refl)
  reply_unwritable LanguageTag = (refl, refl)
  reply_unwritable LineSeparation = (refl, refl)
  reply_unwritable NonChar = (refl, refl)
  reply_unwritable ParaSeparation = (refl, refl)
  reply_unwritable UnneededBOM = (refl, refl)
  reply_unwritable OutOfBand = (refl, refl)
  reply_unwritable (Omit c) = (refl, refl)
  reply_unwritable Beyyal = (refl, refl)
  reply_unwritable UnrecognizedEscape = (refl, refl)
  reply_unwritable (Replacement y n) = (refl, refl)
