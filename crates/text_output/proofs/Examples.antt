-- Calls on a fresh writer in which nothing is kept, with the oracle's answers: text and room, ESC by the mode, escapes, CRLF; flush, close
-- and abandon. Each by computing.
--     examples    the table
use mathlib.Core.List.{List, [], ◌∷◌, ◌++◌, map}
use mathlib.Core.Path.{◌≡◌, refl}
use lib.ListN.{replicate}
use Rattle.scalars.specs.Chars.{is_char}
use Rattle.ranges.specs.Ranges.{member, rises}
use Rattle.page.specs.Page.{sized, rising, nonstarter, assigned, accepted}
use Rattle.text_utils.specs.Classes.{starter, grapheme_extend_not_cgj, spacing_mark_plus, basic_text_start, basic_text_end, is_private_use}
use Rattle.replace.specs.Replace.{replace_of}
use Rattle.check_char.specs.Check.{reason_of, check_numbers}
use Rattle.isolate_unassigned.specs.Meaning.{to_isolate, isolated}
use Rattle.text_output.specs.declared.Mode.TheVariants.{Plain, Crlf, Color}
use Rattle.text_output.specs.Step.{ground_of, write_step_of, steps_of}
use Rattle.text_output.specs.Write.{run_of, parts, more_parts, written_by, write_refusal, write_str_of}
use Rattle.text_output.specs.Close.{flush_of, close_of, abandon_of}
use Rattle.text_output.proofs.Rows.{write, flush, close, abandon, claim, told, ◌gives◌, Row, expected, computed}

unfoldable pub table : List Row
table =
    -- a character, a newline, a close
    record {
      mode = Plain;
      page = 0 ∷ 1 ∷ 0 ∷ 0x377 ∷ [];
      calls =
          write 200 (0x61 ∷ []) gives told (0 ∷ 1 ∷ []) (0 ∷ 2 ∷ 0 ∷ 0 ∷ []) (0x61 ∷ []) ∷
          write 200 (0x0A ∷ []) gives told (0 ∷ 1 ∷ []) (0 ∷ 0 ∷ 0 ∷ 0 ∷ []) (0x0A ∷ []) ∷
          close gives told [] (0 ∷ 0 ∷ 1 ∷ 0 ∷ []) [] ∷
          [];
    }
    -- a newline, and a character behind it in one write: this stands last
    ∷ record {
      mode = Plain;
      page = 0 ∷ 1 ∷ 0 ∷ 0x377 ∷ [];
      calls =
          write 200 (0x0A ∷ 0x61 ∷ []) gives told (0 ∷ 2 ∷ []) (0 ∷ 2 ∷ 0 ∷ 0 ∷ []) (0x0A ∷ 0x61 ∷ []) ∷
          close gives told (12 ∷ []) (1 ∷ 0 ∷ 1 ∷ 0 ∷ []) [] ∷
          [];
    }
    -- a fresh writer closes, and flushes
    ∷ record {
      mode = Plain;
      page = 0 ∷ 1 ∷ 0 ∷ 0x377 ∷ [];
      calls =
          close gives told [] (0 ∷ 0 ∷ 1 ∷ 0 ∷ []) [] ∷
          flush gives told [] (0 ∷ 0 ∷ 1 ∷ 0 ∷ []) [] ∷
          [];
    }
    -- reason 16 for 2126 names 2126 itself
    ∷ record {
      mode = Plain;
      page = 0 ∷ 1 ∷ 0 ∷ 0x377 ∷ [];
      calls =
          write 200 (0x2126 ∷ []) gives told (4 ∷ 16 ∷ 0x2126 ∷ 1 ∷ 0x2126 ∷ 0 ∷ 0 ∷ []) (1 ∷ 0 ∷ 1 ∷ 0 ∷ []) [] ∷
          [];
    }
    -- each reason of the check, 4 and 15 apart, which are the state machine's
    ∷ record {
      mode = Plain;
      page = 0 ∷ 1 ∷ 0 ∷ 0x377 ∷ [];
      calls =
          write 200 (0x01 ∷ []) gives told (4 ∷ 2 ∷ 0x01 ∷ []) (1 ∷ 0 ∷ 1 ∷ 0 ∷ []) [] ∷
          write 200 (0x206A ∷ []) gives told (4 ∷ 3 ∷ 0x206A ∷ []) (1 ∷ 0 ∷ 1 ∷ 0 ∷ []) [] ∷
          write 200 (0x202A ∷ []) gives told (4 ∷ 5 ∷ []) (1 ∷ 0 ∷ 1 ∷ 0 ∷ []) [] ∷
          write 200 (0xFFF9 ∷ []) gives told (4 ∷ 6 ∷ []) (1 ∷ 0 ∷ 1 ∷ 0 ∷ []) [] ∷
          write 200 (0xE0001 ∷ []) gives told (4 ∷ 7 ∷ []) (1 ∷ 0 ∷ 1 ∷ 0 ∷ []) [] ∷
          write 200 (0x2028 ∷ []) gives told (4 ∷ 8 ∷ []) (1 ∷ 0 ∷ 1 ∷ 0 ∷ []) [] ∷
          write 200 (0xFDD0 ∷ []) gives told (4 ∷ 9 ∷ []) (1 ∷ 0 ∷ 1 ∷ 0 ∷ []) [] ∷
          write 200 (0x2029 ∷ []) gives told (4 ∷ 10 ∷ []) (1 ∷ 0 ∷ 1 ∷ 0 ∷ []) [] ∷
          write 200 (0xFEFF ∷ []) gives told (4 ∷ 11 ∷ []) (1 ∷ 0 ∷ 1 ∷ 0 ∷ []) [] ∷
          write 200 (0xFFFC ∷ []) gives told (4 ∷ 12 ∷ []) (1 ∷ 0 ∷ 1 ∷ 0 ∷ []) [] ∷
          write 200 (0x17B4 ∷ []) gives told (4 ∷ 13 ∷ 0x17B4 ∷ []) (1 ∷ 0 ∷ 1 ∷ 0 ∷ []) [] ∷
          write 200 (0x17D8 ∷ []) gives told (4 ∷ 14 ∷ []) (1 ∷ 0 ∷ 1 ∷ 0 ∷ []) [] ∷
          write 200 (0xFB03 ∷ []) gives told (4 ∷ 16 ∷ 0xFB03 ∷ 3 ∷ 0x66 ∷ 0x66 ∷ 0x69 ∷ []) (1 ∷ 0 ∷ 1 ∷ 0 ∷ []) [] ∷
          [];
    }
    -- of two refused characters the first gives the reason
    ∷ record {
      mode = Plain;
      page = 0 ∷ 1 ∷ 0 ∷ 0x377 ∷ [];
      calls =
          write 200 (0x7F ∷ 0x2126 ∷ []) gives told (4 ∷ 2 ∷ 0x7F ∷ []) (1 ∷ 0 ∷ 1 ∷ 0 ∷ []) [] ∷
          write 200 (0x2126 ∷ 0x7F ∷ []) gives told (4 ∷ 16 ∷ 0x2126 ∷ 1 ∷ 0x2126 ∷ 0 ∷ 0 ∷ []) (1 ∷ 0 ∷ 1 ∷ 0 ∷ []) [] ∷
          [];
    }
    -- an empty write spends the expectation of a start, in no place
    ∷ record {
      mode = Plain;
      page = 0 ∷ 1 ∷ 0 ∷ 0x377 ∷ [];
      calls =
          write 0 [] gives told (0 ∷ 0 ∷ []) (0 ∷ 0 ∷ 0 ∷ 0 ∷ []) [] ∷
          write 200 (0x301 ∷ []) gives told (0 ∷ 1 ∷ []) (0 ∷ 2 ∷ 0 ∷ 0 ∷ []) (0x301 ∷ []) ∷
          [];
    }
    -- 4 leaves the expectation, spent or not
    ∷ record {
      mode = Plain;
      page = 0 ∷ 1 ∷ 0 ∷ 0x377 ∷ [];
      calls =
          write 200 (0x7F ∷ []) gives told (4 ∷ 2 ∷ 0x7F ∷ []) (1 ∷ 0 ∷ 1 ∷ 0 ∷ []) [] ∷
          write 200 (0x61 ∷ []) gives told (0 ∷ 1 ∷ []) (0 ∷ 2 ∷ 0 ∷ 0 ∷ []) (0x61 ∷ []) ∷
          write 200 (0x7F ∷ []) gives told (4 ∷ 2 ∷ 0x7F ∷ []) (1 ∷ 0 ∷ 0 ∷ 0 ∷ []) [] ∷
          [];
    }
    -- five places are one too few for two characters
    ∷ record {
      mode = Plain;
      page = 0 ∷ 1 ∷ 0 ∷ 0x377 ∷ [];
      calls =
          write 5 (0x61 ∷ 0x62 ∷ []) gives told (8 ∷ []) (0 ∷ 0 ∷ 1 ∷ 0 ∷ []) [] ∷
          [];
    }
    -- six are enough
    ∷ record {
      mode = Plain;
      page = 0 ∷ 1 ∷ 0 ∷ 0x377 ∷ [];
      calls =
          write 6 (0x61 ∷ 0x0A ∷ []) gives told (0 ∷ 2 ∷ []) (0 ∷ 0 ∷ 0 ∷ 0 ∷ []) (0x61 ∷ 0x0A ∷ []) ∷
          [];
    }
    -- a held character needs a place of its own, and no more; an empty write too
    ∷ record {
      mode = Color;
      page = 0 ∷ 1 ∷ 0 ∷ 0x377 ∷ [];
      calls =
          write 200 (0x1B ∷ 0x5B ∷ []) gives told (0 ∷ 0 ∷ []) (0 ∷ 4 ∷ 0 ∷ 2 ∷ []) [] ∷
          write 1 [] gives told (8 ∷ []) (0 ∷ 4 ∷ 0 ∷ 2 ∷ []) [] ∷
          write 2 [] gives told (0 ∷ 0 ∷ []) (0 ∷ 4 ∷ 0 ∷ 2 ∷ []) [] ∷
          write 4 (0x6D ∷ []) gives told (8 ∷ []) (0 ∷ 4 ∷ 0 ∷ 2 ∷ []) [] ∷
          write 5 (0x6D ∷ []) gives told (0 ∷ 3 ∷ []) (0 ∷ 2 ∷ 0 ∷ 0 ∷ []) (0x1B ∷ 0x5B ∷ 0x6D ∷ []) ∷
          [];
    }
    -- 34F unassigned: a wrong page
    ∷ record {
      mode = Plain;
      page = 0 ∷ 1 ∷ 0 ∷ 0x34E ∷ [];
      calls =
          write 200 (0x61 ∷ []) gives told (2 ∷ []) (0 ∷ 0 ∷ 1 ∷ 0 ∷ []) [] ∷
          [];
    }
    -- a value that is no character
    ∷ record {
      mode = Plain;
      page = 0 ∷ 1 ∷ 0 ∷ 0x377 ∷ [];
      calls =
          write 200 (0xD800 ∷ []) gives told (1 ∷ []) (0 ∷ 0 ∷ 1 ∷ 0 ∷ []) [] ∷
          [];
    }
    -- a held count that the state can't have
    ∷ record {
      mode = Plain;
      page = 0 ∷ 1 ∷ 0 ∷ 0x377 ∷ [];
      calls =
          claim 1 gives told [] (0 ∷ 0 ∷ 1 ∷ 1 ∷ []) [] ∷
          write 200 (0x0A ∷ []) gives told (9 ∷ []) (0 ∷ 0 ∷ 1 ∷ 1 ∷ []) [] ∷
          flush gives told (9 ∷ []) (0 ∷ 0 ∷ 1 ∷ 1 ∷ []) [] ∷
          close gives told (9 ∷ []) (0 ∷ 0 ∷ 1 ∷ 1 ∷ []) [] ∷
          abandon gives told [] (0 ∷ 0 ∷ 1 ∷ 0 ∷ []) [] ∷
          [];
    }
    -- nor after ESC, nor after ESC `[`
    ∷ record {
      mode = Color;
      page = 0 ∷ 1 ∷ 0 ∷ 0x377 ∷ [];
      calls =
          write 200 (0x1B ∷ []) gives told (0 ∷ 0 ∷ []) (0 ∷ 3 ∷ 0 ∷ 1 ∷ []) [] ∷
          claim 2 gives told [] (0 ∷ 3 ∷ 0 ∷ 2 ∷ []) [] ∷
          write 200 (0x5B ∷ []) gives told (9 ∷ []) (0 ∷ 3 ∷ 0 ∷ 2 ∷ []) [] ∷
          flush gives told (9 ∷ []) (0 ∷ 3 ∷ 0 ∷ 2 ∷ []) [] ∷
          close gives told (9 ∷ []) (0 ∷ 3 ∷ 0 ∷ 2 ∷ []) [] ∷
          abandon gives told [] (0 ∷ 0 ∷ 0 ∷ 0 ∷ []) [] ∷
          write 200 (0x1B ∷ 0x5B ∷ []) gives told (0 ∷ 0 ∷ []) (0 ∷ 4 ∷ 0 ∷ 2 ∷ []) [] ∷
          claim 1 gives told [] (0 ∷ 4 ∷ 0 ∷ 1 ∷ []) [] ∷
          write 200 (0x6D ∷ []) gives told (9 ∷ []) (0 ∷ 4 ∷ 0 ∷ 1 ∷ []) [] ∷
          claim 65 gives told [] (0 ∷ 4 ∷ 0 ∷ 65 ∷ []) [] ∷
          write 200 (0x6D ∷ []) gives told (9 ∷ []) (0 ∷ 4 ∷ 0 ∷ 65 ∷ []) [] ∷
          flush gives told (9 ∷ []) (0 ∷ 4 ∷ 0 ∷ 65 ∷ []) [] ∷
          close gives told (9 ∷ []) (0 ∷ 4 ∷ 0 ∷ 65 ∷ []) [] ∷
          [];
    }
    -- plain: ESC, which the check accepts, is refused by the state machine
    ∷ record {
      mode = Plain;
      page = 0 ∷ 1 ∷ 0 ∷ 0x377 ∷ [];
      calls =
          write 200 (0x1B ∷ []) gives told (4 ∷ 4 ∷ []) (1 ∷ 0 ∷ 1 ∷ 0 ∷ []) [] ∷
          write 200 (0x1B ∷ 0x5B ∷ 0x6D ∷ []) gives told (4 ∷ 4 ∷ []) (1 ∷ 0 ∷ 1 ∷ 0 ∷ []) [] ∷
          [];
    }
    -- CRLF: it is too
    ∷ record {
      mode = Crlf;
      page = 0 ∷ 1 ∷ 0 ∷ 0x377 ∷ [];
      calls =
          write 200 (0x1B ∷ []) gives told (4 ∷ 4 ∷ []) (1 ∷ 0 ∷ 1 ∷ 0 ∷ []) [] ∷
          write 200 (0x0A ∷ 0x61 ∷ []) gives told (0 ∷ 3 ∷ []) (0 ∷ 2 ∷ 0 ∷ 0 ∷ []) (0x0D ∷ 0x0A ∷ 0x61 ∷ []) ∷
          write 200 (0x1B ∷ 0x5B ∷ 0x6D ∷ []) gives told (4 ∷ 4 ∷ []) (1 ∷ 0 ∷ 0 ∷ 0 ∷ []) [] ∷
          [];
    }
    -- color: it begins an escape, which is a start
    ∷ record {
      mode = Color;
      page = 0 ∷ 1 ∷ 0 ∷ 0x377 ∷ [];
      calls =
          write 200 (0x1B ∷ 0x5B ∷ 0x6D ∷ []) gives told (0 ∷ 3 ∷ []) (0 ∷ 2 ∷ 0 ∷ 0 ∷ []) (0x1B ∷ 0x5B ∷ 0x6D ∷ []) ∷
          [];
    }
    -- color: an escape in progress is held from write to write
    ∷ record {
      mode = Color;
      page = 0 ∷ 1 ∷ 0 ∷ 0x377 ∷ [];
      calls =
          write 200 (0x61 ∷ 0x1B ∷ 0x5B ∷ []) gives told (0 ∷ 1 ∷ []) (0 ∷ 4 ∷ 0 ∷ 2 ∷ []) (0x61 ∷ []) ∷
          write 200 (0x31 ∷ 0x6D ∷ []) gives told (0 ∷ 4 ∷ []) (0 ∷ 2 ∷ 0 ∷ 0 ∷ []) (0x1B ∷ 0x5B ∷ 0x31 ∷ 0x6D ∷ []) ∷
          close gives told (12 ∷ []) (1 ∷ 0 ∷ 1 ∷ 0 ∷ []) [] ∷
          close gives told [] (0 ∷ 0 ∷ 1 ∷ 0 ∷ []) [] ∷
          [];
    }
    -- in an escape, a refused character gives reason 15
    ∷ record {
      mode = Color;
      page = 0 ∷ 1 ∷ 0 ∷ 0x377 ∷ [];
      calls =
          write 200 (0x1B ∷ 0x7F ∷ []) gives told (4 ∷ 15 ∷ []) (1 ∷ 0 ∷ 1 ∷ 0 ∷ []) [] ∷
          write 200 (0x1B ∷ 0x5B ∷ 0x7F ∷ []) gives told (4 ∷ 15 ∷ []) (1 ∷ 0 ∷ 1 ∷ 0 ∷ []) [] ∷
          [];
    }
    -- after ESC only `[` goes on: `m` and `A`, which end no escape here, give reason 15
    ∷ record {
      mode = Color;
      page = 0 ∷ 1 ∷ 0 ∷ 0x377 ∷ [];
      calls =
          write 200 (0x61 ∷ 0x1B ∷ []) gives told (0 ∷ 1 ∷ []) (0 ∷ 3 ∷ 0 ∷ 1 ∷ []) (0x61 ∷ []) ∷
          write 200 (0x6D ∷ []) gives told (4 ∷ 15 ∷ []) (1 ∷ 0 ∷ 0 ∷ 0 ∷ []) [] ∷
          write 200 (0x1B ∷ 0x41 ∷ []) gives told (4 ∷ 15 ∷ []) (1 ∷ 0 ∷ 0 ∷ 0 ∷ []) [] ∷
          [];
    }
    -- after ESC `[`, 20 and 3F go on; 40, `l`, `n`, ESC and a newline give reason 15
    ∷ record {
      mode = Color;
      page = 0 ∷ 1 ∷ 0 ∷ 0x377 ∷ [];
      calls =
          write 200 (0x1B ∷ 0x5B ∷ 0x20 ∷ 0x3F ∷ []) gives told (0 ∷ 0 ∷ []) (0 ∷ 4 ∷ 0 ∷ 4 ∷ []) [] ∷
          write 200 (0x40 ∷ []) gives told (4 ∷ 15 ∷ []) (1 ∷ 0 ∷ 0 ∷ 0 ∷ []) [] ∷
          write 200 (0x1B ∷ 0x5B ∷ 0x6C ∷ []) gives told (4 ∷ 15 ∷ []) (1 ∷ 0 ∷ 0 ∷ 0 ∷ []) [] ∷
          write 200 (0x1B ∷ 0x5B ∷ 0x6E ∷ []) gives told (4 ∷ 15 ∷ []) (1 ∷ 0 ∷ 0 ∷ 0 ∷ []) [] ∷
          write 200 (0x1B ∷ 0x5B ∷ 0x1B ∷ []) gives told (4 ∷ 15 ∷ []) (1 ∷ 0 ∷ 0 ∷ 0 ∷ []) [] ∷
          write 200 (0x1B ∷ 0x5B ∷ 0x0A ∷ []) gives told (4 ∷ 15 ∷ []) (1 ∷ 0 ∷ 0 ∷ 0 ∷ []) [] ∷
          [];
    }
    -- color: an escape of 64 characters goes out
    ∷ record {
      mode = Color;
      page = 0 ∷ 1 ∷ 0 ∷ 0x377 ∷ [];
      calls =
          write 200 (0x1B ∷ 0x5B ∷ replicate 61 0x31 ++ (0x6D ∷ [])) gives told (0 ∷ 64 ∷ []) (0 ∷ 2 ∷ 0 ∷ 0 ∷ []) (0x1B ∷ 0x5B ∷ replicate 61 0x31 ++ (0x6D ∷ [])) ∷
          [];
    }
    -- color: one that holds 64 is full: `m` is refused by 6
    ∷ record {
      mode = Color;
      page = 0 ∷ 1 ∷ 0 ∷ 0x377 ∷ [];
      calls =
          write 200 (0x1B ∷ 0x5B ∷ replicate 62 0x31) gives told (0 ∷ 0 ∷ []) (0 ∷ 4 ∷ 0 ∷ 64 ∷ []) [] ∷
          write 200 (0x6D ∷ []) gives told (6 ∷ []) (1 ∷ 0 ∷ 0 ∷ 0 ∷ []) [] ∷
          [];
    }
    -- so are 20 and 3F, in one write with the others too, which leaves the expectation
    ∷ record {
      mode = Color;
      page = 0 ∷ 1 ∷ 0 ∷ 0x377 ∷ [];
      calls =
          write 200 (0x1B ∷ 0x5B ∷ replicate 62 0x31) gives told (0 ∷ 0 ∷ []) (0 ∷ 4 ∷ 0 ∷ 64 ∷ []) [] ∷
          write 200 (0x20 ∷ []) gives told (6 ∷ []) (1 ∷ 0 ∷ 0 ∷ 0 ∷ []) [] ∷
          write 200 (0x1B ∷ 0x5B ∷ replicate 62 0x31 ++ (0x3F ∷ [])) gives told (6 ∷ []) (1 ∷ 0 ∷ 0 ∷ 0 ∷ []) [] ∷
          write 200 (0x1B ∷ 0x5B ∷ replicate 62 0x31 ++ (0x6D ∷ [])) gives told (6 ∷ []) (1 ∷ 0 ∷ 0 ∷ 0 ∷ []) [] ∷
          [];
    }
    -- 6 leaves an unspent expectation
    ∷ record {
      mode = Color;
      page = 0 ∷ 1 ∷ 0 ∷ 0x377 ∷ [];
      calls =
          write 200 (0x1B ∷ 0x5B ∷ replicate 62 0x31 ++ (0x6D ∷ [])) gives told (6 ∷ []) (1 ∷ 0 ∷ 1 ∷ 0 ∷ []) [] ∷
          [];
    }
    -- any other character gives reason 15 there
    ∷ record {
      mode = Color;
      page = 0 ∷ 1 ∷ 0 ∷ 0x377 ∷ [];
      calls =
          write 200 (0x1B ∷ 0x5B ∷ replicate 62 0x31) gives told (0 ∷ 0 ∷ []) (0 ∷ 4 ∷ 0 ∷ 64 ∷ []) [] ∷
          write 200 (0x40 ∷ []) gives told (4 ∷ 15 ∷ []) (1 ∷ 0 ∷ 0 ∷ 0 ∷ []) [] ∷
          write 200 (0x1B ∷ 0x5B ∷ replicate 62 0x31) gives told (0 ∷ 0 ∷ []) (0 ∷ 4 ∷ 0 ∷ 64 ∷ []) [] ∷
          write 200 (0x7F ∷ []) gives told (4 ∷ 15 ∷ []) (1 ∷ 0 ∷ 0 ∷ 0 ∷ []) [] ∷
          [];
    }
    -- "Each character is checked, refused ones becoming 1A, then isolated, then stepped through `state_machine_char`."
    ∷ record {
      mode = Plain;
      page = 0 ∷ 1 ∷ 0 ∷ 0x377 ∷ [];
      calls =
          write 200 (0x378 ∷ 0x0A ∷ []) gives told (0 ∷ 4 ∷ []) (0 ∷ 0 ∷ 0 ∷ 0 ∷ []) (0x34F ∷ 0x378 ∷ 0x34F ∷ 0x0A ∷ []) ∷
          close gives told [] (0 ∷ 0 ∷ 1 ∷ 0 ∷ []) [] ∷
          [];
    }
    -- CRLF: 0A gives 0D 0A, also behind another
    ∷ record {
      mode = Crlf;
      page = 0 ∷ 1 ∷ 0 ∷ 0x377 ∷ [];
      calls =
          write 200 (0x0A ∷ 0x0A ∷ 0x61 ∷ []) gives told (0 ∷ 5 ∷ []) (0 ∷ 2 ∷ 0 ∷ 0 ∷ []) (0x0D ∷ 0x0A ∷ 0x0D ∷ 0x0A ∷ 0x61 ∷ []) ∷
          write 200 (0x0D ∷ []) gives told (4 ∷ 2 ∷ 0x0D ∷ []) (1 ∷ 0 ∷ 0 ∷ 0 ∷ []) [] ∷
          [];
    }
    -- CRLF: the 34F of one part is owed to no other, and serves no other
    ∷ record {
      mode = Crlf;
      page = 0 ∷ 1 ∷ 0 ∷ 0x377 ∷ [];
      calls =
          write 200 (0x378 ∷ 0x0A ∷ 0x61 ∷ 0x0A ∷ []) gives told (0 ∷ 8 ∷ []) (0 ∷ 0 ∷ 0 ∷ 0 ∷ []) (0x34F ∷ 0x378 ∷ 0x34F ∷ 0x0D ∷ 0x0A ∷ 0x61 ∷ 0x0D ∷ 0x0A ∷ []) ∷
          write 200 (0x34F ∷ 0x0A ∷ 0x378 ∷ 0x0A ∷ []) gives told (0 ∷ 8 ∷ []) (0 ∷ 0 ∷ 0 ∷ 0 ∷ []) (0x34F ∷ 0x0D ∷ 0x0A ∷ 0x34F ∷ 0x378 ∷ 0x34F ∷ 0x0D ∷ 0x0A ∷ []) ∷
          close gives told [] (0 ∷ 0 ∷ 1 ∷ 0 ∷ []) [] ∷
          [];
    }
    -- CRLF: each part is isolated alone
    ∷ record {
      mode = Crlf;
      page = 0 ∷ 1 ∷ 0 ∷ 0x377 ∷ [];
      calls =
          write 200 (0x378 ∷ 0x0A ∷ 0x378 ∷ 0x0A ∷ []) gives told (0 ∷ 10 ∷ []) (0 ∷ 0 ∷ 0 ∷ 0 ∷ []) (0x34F ∷ 0x378 ∷ 0x34F ∷ 0x0D ∷ 0x0A ∷ 0x34F ∷ 0x378 ∷ 0x34F ∷ 0x0D ∷ 0x0A ∷ []) ∷
          close gives told [] (0 ∷ 0 ∷ 1 ∷ 0 ∷ []) [] ∷
          [];
    }
    -- a flush after a non-end leaves the expectation; the next write may begin with any character
    ∷ record {
      mode = Plain;
      page = 0 ∷ 1 ∷ 0 ∷ 0xFFFF ∷ [];
      calls =
          write 200 (0x61 ∷ 0x600 ∷ []) gives told (0 ∷ 2 ∷ []) (0 ∷ 1 ∷ 0 ∷ 0 ∷ []) (0x61 ∷ 0x600 ∷ []) ∷
          flush gives told (11 ∷ []) (1 ∷ 0 ∷ 0 ∷ 0 ∷ []) [] ∷
          write 200 (0x301 ∷ []) gives told (0 ∷ 1 ∷ []) (0 ∷ 2 ∷ 0 ∷ 0 ∷ []) (0x301 ∷ []) ∷
          [];
    }
    -- a flush after text expects a start again; the text stands last
    ∷ record {
      mode = Plain;
      page = 0 ∷ 1 ∷ 0 ∷ 0x377 ∷ [];
      calls =
          write 200 (0x61 ∷ []) gives told (0 ∷ 1 ∷ []) (0 ∷ 2 ∷ 0 ∷ 0 ∷ []) (0x61 ∷ []) ∷
          flush gives told [] (0 ∷ 2 ∷ 1 ∷ 0 ∷ []) [] ∷
          close gives told (12 ∷ []) (1 ∷ 0 ∷ 1 ∷ 0 ∷ []) [] ∷
          [];
    }
    -- a flush after a newline does
    ∷ record {
      mode = Plain;
      page = 0 ∷ 1 ∷ 0 ∷ 0x377 ∷ [];
      calls =
          write 200 (0x0A ∷ []) gives told (0 ∷ 1 ∷ []) (0 ∷ 0 ∷ 0 ∷ 0 ∷ []) (0x0A ∷ []) ∷
          flush gives told [] (0 ∷ 0 ∷ 1 ∷ 0 ∷ []) [] ∷
          [];
    }
    -- a flush after a refusal succeeds: it is after a newline
    ∷ record {
      mode = Plain;
      page = 0 ∷ 1 ∷ 0 ∷ 0x377 ∷ [];
      calls =
          write 200 (0x61 ∷ []) gives told (0 ∷ 1 ∷ []) (0 ∷ 2 ∷ 0 ∷ 0 ∷ []) (0x61 ∷ []) ∷
          write 200 (0x7F ∷ []) gives told (4 ∷ 2 ∷ 0x7F ∷ []) (1 ∷ 0 ∷ 0 ∷ 0 ∷ []) [] ∷
          flush gives told [] (0 ∷ 0 ∷ 1 ∷ 0 ∷ []) [] ∷
          [];
    }
    -- a flush refused by 13 changes nothing, after ESC; a second close after 13 succeeds
    ∷ record {
      mode = Color;
      page = 0 ∷ 1 ∷ 0 ∷ 0x377 ∷ [];
      calls =
          write 200 (0x1B ∷ []) gives told (0 ∷ 0 ∷ []) (0 ∷ 3 ∷ 0 ∷ 1 ∷ []) [] ∷
          flush gives told (13 ∷ []) (0 ∷ 3 ∷ 0 ∷ 1 ∷ []) [] ∷
          close gives told (13 ∷ []) (1 ∷ 0 ∷ 1 ∷ 0 ∷ []) [] ∷
          close gives told [] (0 ∷ 0 ∷ 1 ∷ 0 ∷ []) [] ∷
          [];
    }
    -- nor after ESC `[`: the escape goes on; a close drops it
    ∷ record {
      mode = Color;
      page = 0 ∷ 1 ∷ 0 ∷ 0x377 ∷ [];
      calls =
          write 200 (0x1B ∷ 0x5B ∷ []) gives told (0 ∷ 0 ∷ []) (0 ∷ 4 ∷ 0 ∷ 2 ∷ []) [] ∷
          flush gives told (13 ∷ []) (0 ∷ 4 ∷ 0 ∷ 2 ∷ []) [] ∷
          write 200 (0x31 ∷ []) gives told (0 ∷ 0 ∷ []) (0 ∷ 4 ∷ 0 ∷ 3 ∷ []) [] ∷
          close gives told (13 ∷ []) (1 ∷ 0 ∷ 1 ∷ 0 ∷ []) [] ∷
          close gives told [] (0 ∷ 0 ∷ 1 ∷ 0 ∷ []) [] ∷
          [];
    }
    -- a second close after one refused by 11 succeeds
    ∷ record {
      mode = Plain;
      page = 0 ∷ 1 ∷ 0 ∷ 0xFFFF ∷ [];
      calls =
          write 200 (0x61 ∷ 0x600 ∷ []) gives told (0 ∷ 2 ∷ []) (0 ∷ 1 ∷ 0 ∷ 0 ∷ []) (0x61 ∷ 0x600 ∷ []) ∷
          close gives told (11 ∷ []) (1 ∷ 0 ∷ 1 ∷ 0 ∷ []) [] ∷
          close gives told [] (0 ∷ 0 ∷ 1 ∷ 0 ∷ []) [] ∷
          [];
    }
    -- a second close after one refused by 12 succeeds
    ∷ record {
      mode = Plain;
      page = 0 ∷ 1 ∷ 0 ∷ 0x377 ∷ [];
      calls =
          write 200 (0x61 ∷ []) gives told (0 ∷ 1 ∷ []) (0 ∷ 2 ∷ 0 ∷ 0 ∷ []) (0x61 ∷ []) ∷
          close gives told (12 ∷ []) (1 ∷ 0 ∷ 1 ∷ 0 ∷ []) [] ∷
          close gives told [] (0 ∷ 0 ∷ 1 ∷ 0 ∷ []) [] ∷
          [];
    }
    -- abandon leaves the expectation, spent by a write or set again by a close
    ∷ record {
      mode = Plain;
      page = 0 ∷ 1 ∷ 0 ∷ 0x377 ∷ [];
      calls =
          write 200 (0x61 ∷ []) gives told (0 ∷ 1 ∷ []) (0 ∷ 2 ∷ 0 ∷ 0 ∷ []) (0x61 ∷ []) ∷
          abandon gives told [] (0 ∷ 0 ∷ 0 ∷ 0 ∷ []) [] ∷
          close gives told [] (0 ∷ 0 ∷ 1 ∷ 0 ∷ []) [] ∷
          abandon gives told [] (0 ∷ 0 ∷ 1 ∷ 0 ∷ []) [] ∷
          [];
    }
    -- where abandon leaves it spent, a write may begin with any character
    ∷ record {
      mode = Plain;
      page = 0 ∷ 1 ∷ 0 ∷ 0x377 ∷ [];
      calls =
          write 200 (0x61 ∷ []) gives told (0 ∷ 1 ∷ []) (0 ∷ 2 ∷ 0 ∷ 0 ∷ []) (0x61 ∷ []) ∷
          abandon gives told [] (0 ∷ 0 ∷ 0 ∷ 0 ∷ []) [] ∷
          write 200 (0x301 ∷ []) gives told (0 ∷ 1 ∷ []) (0 ∷ 2 ∷ 0 ∷ 0 ∷ []) (0x301 ∷ []) ∷
          [];
    }
    -- abandon on a fresh writer; in an escape, which it drops
    ∷ record {
      mode = Color;
      page = 0 ∷ 1 ∷ 0 ∷ 0x377 ∷ [];
      calls =
          abandon gives told [] (0 ∷ 0 ∷ 1 ∷ 0 ∷ []) [] ∷
          write 200 (0x1B ∷ 0x5B ∷ []) gives told (0 ∷ 0 ∷ []) (0 ∷ 4 ∷ 0 ∷ 2 ∷ []) [] ∷
          abandon gives told [] (0 ∷ 0 ∷ 0 ∷ 0 ∷ []) [] ∷
          flush gives told [] (0 ∷ 0 ∷ 1 ∷ 0 ∷ []) [] ∷
          [];
    }
    -- color: what follows the end of an escape that was in progress is isolated
    ∷ record {
      mode = Color;
      page = 0 ∷ 1 ∷ 0 ∷ 0x377 ∷ [];
      calls =
          write 200 (0x1B ∷ 0x5B ∷ []) gives told (0 ∷ 0 ∷ []) (0 ∷ 4 ∷ 0 ∷ 2 ∷ []) [] ∷
          write 200 (0x6D ∷ 0x378 ∷ []) gives told (0 ∷ 6 ∷ []) (0 ∷ 2 ∷ 0 ∷ 0 ∷ []) (0x1B ∷ 0x5B ∷ 0x6D ∷ 0x34F ∷ 0x378 ∷ 0x34F ∷ []) ∷
          [];
    }
    -- CRLF: the last part, which no 0A ends, is isolated
    ∷ record {
      mode = Crlf;
      page = 0 ∷ 1 ∷ 0 ∷ 0x377 ∷ [];
      calls =
          write 200 (0x61 ∷ 0x0A ∷ 0x378 ∷ []) gives told (0 ∷ 6 ∷ []) (0 ∷ 2 ∷ 0 ∷ 0 ∷ []) (0x61 ∷ 0x0D ∷ 0x0A ∷ 0x34F ∷ 0x378 ∷ 0x34F ∷ []) ∷
          [];
    }
    ∷ []

pub examples : map computed table ≡ map expected table
unfolding table write_str_of write_refusal written_by run_of parts more_parts steps_of write_step_of ground_of flush_of close_of abandon_of is_char
    replace_of reason_of check_numbers basic_text_start basic_text_end starter grapheme_extend_not_cgj spacing_mark_plus is_private_use
    to_isolate isolated accepted sized rising nonstarter assigned member rises
examples = refl
