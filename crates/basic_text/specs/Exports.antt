-- What the exported calls read and write: bytes as 32-bit numbers, and a record, options and an answer as plain numbers. Document 01,
-- "Rust shapes that give way": "Scan, finish and byte write are exported on numbers and byte slices for the Rust harness." The calls
-- themselves are those of `text_input`, specs/Scan.antt, and of `text_output`, specs/Write.antt. Which number stands for which flag,
-- state or mode is in `basic_text_numbers`, specs/Numbers.antt.
use Rattle.std.specs.Prelude.{ℕ, ◌+◌, ◌*◌, ◌/◌, ◌%◌, cond, List, [], ◌∷◌, eqb, length, get_or}
use Rattle.common.specs.Answers.{refusal_in, written_in}
use Rattle.text_input.specs.declared.Options.{Options}
use Rattle.text_input.specs.declared.TextInput.{TextInput}
use Rattle.text_input.specs.Scan.{Outcome}
use Rattle.text_output.specs.declared.TextOutput.{TextOutput}
use Rattle.text_output.specs.Writer.{BytesOutcome}
use Rattle.text_output.specs.Write.{succeeds}
use Rattle.basic_text_numbers.specs.Numbers.{flag, flag_number, state_of, state_number, mode_of, mode_number, writer_state_of, writer_state_number}
use Rattle.basic_text.specs.declared.Record.{Record}
use Rattle.basic_text.specs.declared.Reply.{Reply}
use Rattle.basic_text.specs.declared.Writer.{Writer}
use Rattle.basic_text.specs.declared.WriteReply.{WriteReply}

-- ---- bytes as numbers
-- four bytes as one number, the low byte first
abbrev pub number_of : ℕ → ℕ → ℕ → ℕ → ℕ
number_of a b c d = a + 256 * b + 65536 * c + 16777216 * d

-- the numbers of a slice of bytes; those past its last whole four are not read. Document 01 leaves this open.
abbrev pub numbers_of : List ℕ → List ℕ
numbers_of [] = []
numbers_of (a ∷ []) = []
numbers_of (a ∷ b ∷ []) = []
numbers_of (a ∷ b ∷ c ∷ []) = []
numbers_of (a ∷ b ∷ c ∷ d ∷ rest) = number_of a b c d ∷ numbers_of rest

-- the four bytes of each number, the low byte first
abbrev pub bytes_of : List ℕ → List ℕ
bytes_of [] = []
bytes_of (n ∷ ns) = n % 256 ∷ n / 256 % 256 ∷ n / 65536 % 256 ∷ n / 16777216 % 256 ∷ bytes_of ns

-- a page's numbers; one whose bytes are no multiple of four is a wrong page, as the empty one is. Document 01 leaves this open.
abbrev pub page_of : List ℕ → List ℕ
page_of bytes = cond (eqb (length bytes % 4) 0) (numbers_of bytes) []

-- ---- a call's arguments
abbrev pub record_of : Record → TextInput
record_of r =
    record {
      state = state_of r.state;
      expect_starter = flag r.expect_starter;
      at_start = flag r.at_start;
      last = r.last;
      count = r.count;
    }

-- bit 0: 85 ends a line; bit 1: 2028 and 2029 do; bit 2: the signs for units are replaced by their letters; the other bits have no
-- meaning. The documents leave this open.
abbrev pub options_of : ℕ → Options
options_of n =
    record { nel_compatibility = eqb (n % 2) 1; lsps_compatibility = eqb (n / 2 % 2) 1; units_compatibility = eqb (n / 4 % 2) 1 }

-- ---- a call's answer
abbrev pub record_numbers : TextInput → Record
record_numbers r =
    record {
      state = state_number r.state;
      expect_starter = flag_number r.expect_starter;
      at_start = flag_number r.at_start;
      last = r.last;
      count = r.count;
    }

-- a call's answer: the number of a refusal, and 0 where it was accepted; how many characters were written; the record after it
-- "Scan, finish and byte write are exported on numbers and byte slices for the Rust harness."
abbrev pub reply_of : Outcome → Reply
reply_of s = record { refused = refusal_in s.numbers; written = written_in s.numbers; «record» = record_numbers s.next }

-- ---- the writer
-- the writer's record from its numbers
abbrev pub writer_of : Writer → TextOutput
writer_of w =
    record {
      mode = mode_of w.mode;
      expect_starter = flag w.expect_starter;
      state = writer_state_of w.state;
      kept = w.kept;
      held = w.held;
      escape_sequence = w.escape_sequence;
    }

-- the writer's record as numbers
abbrev pub writer_numbers : TextOutput → Writer
writer_numbers w =
    record {
      mode = mode_number w.mode;
      expect_starter = flag_number w.expect_starter;
      state = writer_state_number w.state;
      kept = w.kept;
      held = w.held;
      escape_sequence = w.escape_sequence;
    }

-- how many characters an accepted write hands out, by its answer's numbers; else 0
abbrev pub handed_out : List ℕ → ℕ
handed_out ns = cond (succeeds ns) (get_or ns 1 0) 0

-- the number of a refused write's reason, by its answer's numbers; else 0
abbrev pub reason_in : List ℕ → ℕ
reason_in ns = cond (succeeds ns) 0 (get_or ns 1 0)

-- its values: the character that the reason names, how many replacements and which, each 0 where there is none
abbrev pub character_in : List ℕ → ℕ
character_in ns = get_or ns 2 0

abbrev pub count_in : List ℕ → ℕ
count_in ns = get_or ns 3 0

abbrev pub first_in : List ℕ → ℕ
first_in ns = get_or ns 4 0

abbrev pub second_in : List ℕ → ℕ
second_in ns = get_or ns 5 0

abbrev pub third_in : List ℕ → ℕ
third_in ns = get_or ns 6 0

-- a byte write's answer
abbrev pub write_reply_of : BytesOutcome → WriteReply
write_reply_of o =
    record {
      refused = get_or o.outcome.given.numbers 0 0;
      abandon = flag_number o.outcome.given.abandon;
      reason = reason_in o.outcome.given.numbers;
      character = character_in o.outcome.given.numbers;
      count = count_in o.outcome.given.numbers;
      first = first_in o.outcome.given.numbers;
      second = second_in o.outcome.given.numbers;
      third = third_in o.outcome.given.numbers;
      used = o.used;
      written = handed_out o.outcome.given.numbers;
      writer = writer_numbers o.outcome.given.next;
    }
