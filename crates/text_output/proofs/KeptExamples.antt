-- Calls on a fresh writer in which characters stay kept, with the oracle's answers: after 4, 6 and 5, the room they need, and what other
-- calls leave of them. Each by computing.
--     kept_examples    the table
use mathlib.Core.List.{List, [], ◌∷◌, ◌++◌, map}
use mathlib.Core.Path.{◌≡◌, refl}
use lib.ListN.{replicate}
use Rattle.scalars.specs.Chars.{is_char}
use Rattle.ranges.specs.Ranges.{member, rises}
use Rattle.page.specs.Page.{sized, rising, nonstarter, assigned, accepted}
use Rattle.text_utils.specs.Classes.{starter, grapheme_extend_not_cgj, spacing_mark_plus, basic_text_start, basic_text_end, is_private_use}
use Rattle.replace.specs.Replace.{replace_of}
use Rattle.check_char.specs.Check.{reason_of, check_numbers}
use Rattle.isolate_unassigned.specs.Meaning.{to_isolate, isolated}
use Rattle.text_output.specs.declared.Mode.TheVariants.{Plain, Crlf, Color}
use Rattle.text_output.specs.Step.{ground_of, write_step_of, steps_of}
use Rattle.text_output.specs.Write.{run_of, parts, more_parts, written_by, write_refusal, write_str_of}
use Rattle.text_output.specs.Close.{flush_of, close_of, abandon_of}
use Rattle.text_output.proofs.Rows.{write, flush, close, abandon, claim, told, ◌gives◌, Row, expected, computed}

unfoldable pub table : List Row
table =
    -- after 4 the characters before the refused one stay kept, and go out with the next success
    record {
      mode = Plain;
      page = 0 ∷ 1 ∷ 0 ∷ 0x377 ∷ [];
      calls =
          write 200 (0x61 ∷ 0x7F ∷ []) gives told (4 ∷ 2 ∷ 0x7F ∷ []) (1 ∷ 0 ∷ 1 ∷ 0 ∷ []) (0x61 ∷ []) ∷
          write 200 (0x0A ∷ []) gives told (0 ∷ 2 ∷ []) (0 ∷ 0 ∷ 0 ∷ 0 ∷ []) (0x61 ∷ 0x0A ∷ []) ∷
          [];
    }
    -- a put 34F stays, and abandon leaves what is kept
    ∷ record {
      mode = Plain;
      page = 0 ∷ 1 ∷ 0 ∷ 0x377 ∷ [];
      calls =
          write 200 (0x378 ∷ 0x7F ∷ []) gives told (4 ∷ 2 ∷ 0x7F ∷ []) (1 ∷ 0 ∷ 1 ∷ 0 ∷ []) (0x34F ∷ 0x378 ∷ 0x34F ∷ []) ∷
          abandon gives told [] (0 ∷ 0 ∷ 1 ∷ 0 ∷ []) (0x34F ∷ 0x378 ∷ 0x34F ∷ []) ∷
          [];
    }
    -- 1A unassigned by the page: 34F goes before the 1A of a refused character
    ∷ record {
      mode = Plain;
      page = 0 ∷ 2 ∷ 0 ∷ 0x1B ∷ 0x19 ∷ 0x377 ∷ [];
      calls =
          write 200 (0x7F ∷ []) gives told (4 ∷ 2 ∷ 0x7F ∷ []) (1 ∷ 0 ∷ 1 ∷ 0 ∷ []) (0x34F ∷ []) ∷
          [];
    }
    -- CRLF: 0D 0A stays kept
    ∷ record {
      mode = Crlf;
      page = 0 ∷ 1 ∷ 0 ∷ 0x377 ∷ [];
      calls =
          write 200 (0x61 ∷ 0x0A ∷ 0x7F ∷ []) gives told (4 ∷ 2 ∷ 0x7F ∷ []) (1 ∷ 0 ∷ 1 ∷ 0 ∷ []) (0x61 ∷ 0x0D ∷ 0x0A ∷ []) ∷
          write 200 (0x0A ∷ []) gives told (0 ∷ 5 ∷ []) (0 ∷ 0 ∷ 0 ∷ 0 ∷ []) (0x61 ∷ 0x0D ∷ 0x0A ∷ 0x0D ∷ 0x0A ∷ []) ∷
          [];
    }
    -- color: the characters of an escape in progress are not kept
    ∷ record {
      mode = Color;
      page = 0 ∷ 1 ∷ 0 ∷ 0x377 ∷ [];
      calls =
          write 200 (0x61 ∷ 0x1B ∷ 0x5B ∷ 0x41 ∷ []) gives told (4 ∷ 15 ∷ []) (1 ∷ 0 ∷ 1 ∷ 0 ∷ []) (0x61 ∷ []) ∷
          [];
    }
    -- a kept character needs a place of its own, and no more
    ∷ record {
      mode = Plain;
      page = 0 ∷ 1 ∷ 0 ∷ 0x377 ∷ [];
      calls =
          write 200 (0x61 ∷ 0x7F ∷ []) gives told (4 ∷ 2 ∷ 0x7F ∷ []) (1 ∷ 0 ∷ 1 ∷ 0 ∷ []) (0x61 ∷ []) ∷
          write 3 (0x0A ∷ []) gives told (8 ∷ []) (0 ∷ 0 ∷ 1 ∷ 0 ∷ []) (0x61 ∷ []) ∷
          write 4 (0x0A ∷ []) gives told (0 ∷ 2 ∷ []) (0 ∷ 0 ∷ 0 ∷ 0 ∷ []) (0x61 ∷ 0x0A ∷ []) ∷
          [];
    }
    -- an empty write needs that place, and hands it out
    ∷ record {
      mode = Plain;
      page = 0 ∷ 1 ∷ 0 ∷ 0x377 ∷ [];
      calls =
          write 200 (0x61 ∷ 0x7F ∷ []) gives told (4 ∷ 2 ∷ 0x7F ∷ []) (1 ∷ 0 ∷ 1 ∷ 0 ∷ []) (0x61 ∷ []) ∷
          write 0 [] gives told (8 ∷ []) (0 ∷ 0 ∷ 1 ∷ 0 ∷ []) (0x61 ∷ []) ∷
          write 1 [] gives told (0 ∷ 1 ∷ []) (0 ∷ 0 ∷ 0 ∷ 0 ∷ []) (0x61 ∷ []) ∷
          [];
    }
    -- 5 spends the expectation; all stays kept
    ∷ record {
      mode = Plain;
      page = 0 ∷ 1 ∷ 0 ∷ 0x377 ∷ [];
      calls =
          write 200 (0x301 ∷ []) gives told (5 ∷ []) (1 ∷ 0 ∷ 0 ∷ 0 ∷ []) (0x301 ∷ []) ∷
          write 200 (0x61 ∷ []) gives told (0 ∷ 2 ∷ []) (0 ∷ 2 ∷ 0 ∷ 0 ∷ []) (0x301 ∷ 0x61 ∷ []) ∷
          [];
    }
    -- a flush expects a start again
    ∷ record {
      mode = Plain;
      page = 0 ∷ 1 ∷ 0 ∷ 0x377 ∷ [];
      calls =
          write 200 (0x0A ∷ []) gives told (0 ∷ 1 ∷ []) (0 ∷ 0 ∷ 0 ∷ 0 ∷ []) (0x0A ∷ []) ∷
          flush gives told [] (0 ∷ 0 ∷ 1 ∷ 0 ∷ []) [] ∷
          write 200 (0x301 ∷ []) gives told (5 ∷ []) (1 ∷ 0 ∷ 0 ∷ 0 ∷ []) (0x301 ∷ []) ∷
          [];
    }
    -- 5 where a write was refused before, which left the expectation
    ∷ record {
      mode = Plain;
      page = 0 ∷ 1 ∷ 0 ∷ 0x377 ∷ [];
      calls =
          write 200 (0x7F ∷ []) gives told (4 ∷ 2 ∷ 0x7F ∷ []) (1 ∷ 0 ∷ 1 ∷ 0 ∷ []) [] ∷
          write 200 (0x301 ∷ []) gives told (5 ∷ []) (1 ∷ 0 ∷ 0 ∷ 0 ∷ []) (0x301 ∷ []) ∷
          [];
    }
    -- 4 before 5: the kept 301 is then the buffer's first, also for an empty write
    ∷ record {
      mode = Plain;
      page = 0 ∷ 1 ∷ 0 ∷ 0x377 ∷ [];
      calls =
          write 200 (0x301 ∷ 0x7F ∷ []) gives told (4 ∷ 2 ∷ 0x7F ∷ []) (1 ∷ 0 ∷ 1 ∷ 0 ∷ []) (0x301 ∷ []) ∷
          write 200 [] gives told (5 ∷ []) (1 ∷ 0 ∷ 0 ∷ 0 ∷ []) (0x301 ∷ []) ∷
          write 200 [] gives told (0 ∷ 1 ∷ []) (0 ∷ 0 ∷ 0 ∷ 0 ∷ []) (0x301 ∷ []) ∷
          [];
    }
    -- 6 before 5
    ∷ record {
      mode = Color;
      page = 0 ∷ 1 ∷ 0 ∷ 0x377 ∷ [];
      calls =
          write 200 (0x301 ∷ 0x1B ∷ 0x5B ∷ replicate 62 0x31 ++ (0x6D ∷ [])) gives told (6 ∷ []) (1 ∷ 0 ∷ 1 ∷ 0 ∷ []) (0x301 ∷ []) ∷
          write 200 (0x61 ∷ []) gives told (5 ∷ []) (1 ∷ 0 ∷ 0 ∷ 0 ∷ []) (0x301 ∷ 0x61 ∷ []) ∷
          write 200 (0x62 ∷ []) gives told (0 ∷ 3 ∷ []) (0 ∷ 2 ∷ 0 ∷ 0 ∷ []) (0x301 ∷ 0x61 ∷ 0x62 ∷ []) ∷
          [];
    }
    -- in an escape, 5 drops the held characters
    ∷ record {
      mode = Color;
      page = 0 ∷ 1 ∷ 0 ∷ 0x377 ∷ [];
      calls =
          write 200 (0x301 ∷ 0x1B ∷ 0x5B ∷ []) gives told (5 ∷ []) (1 ∷ 0 ∷ 0 ∷ 0 ∷ []) (0x301 ∷ []) ∷
          close gives told [] (0 ∷ 0 ∷ 1 ∷ 0 ∷ []) (0x301 ∷ []) ∷
          [];
    }
    -- over a flush, a close and abandon they stay
    ∷ record {
      mode = Plain;
      page = 0 ∷ 1 ∷ 0 ∷ 0x377 ∷ [];
      calls =
          write 200 (0x61 ∷ 0x7F ∷ []) gives told (4 ∷ 2 ∷ 0x7F ∷ []) (1 ∷ 0 ∷ 1 ∷ 0 ∷ []) (0x61 ∷ []) ∷
          flush gives told [] (0 ∷ 0 ∷ 1 ∷ 0 ∷ []) (0x61 ∷ []) ∷
          close gives told [] (0 ∷ 0 ∷ 1 ∷ 0 ∷ []) (0x61 ∷ []) ∷
          abandon gives told [] (0 ∷ 0 ∷ 1 ∷ 0 ∷ []) (0x61 ∷ []) ∷
          write 200 (0x0A ∷ []) gives told (0 ∷ 2 ∷ []) (0 ∷ 0 ∷ 0 ∷ 0 ∷ []) (0x61 ∷ 0x0A ∷ []) ∷
          [];
    }
    -- over a flush and a close, what is no start too: it is refused by 5 again
    ∷ record {
      mode = Plain;
      page = 0 ∷ 1 ∷ 0 ∷ 0x377 ∷ [];
      calls =
          write 200 (0x301 ∷ []) gives told (5 ∷ []) (1 ∷ 0 ∷ 0 ∷ 0 ∷ []) (0x301 ∷ []) ∷
          flush gives told [] (0 ∷ 0 ∷ 1 ∷ 0 ∷ []) (0x301 ∷ []) ∷
          write 200 (0x61 ∷ []) gives told (5 ∷ []) (1 ∷ 0 ∷ 0 ∷ 0 ∷ []) (0x301 ∷ 0x61 ∷ []) ∷
          close gives told [] (0 ∷ 0 ∷ 1 ∷ 0 ∷ []) (0x301 ∷ 0x61 ∷ []) ∷
          write 200 (0x62 ∷ []) gives told (5 ∷ []) (1 ∷ 0 ∷ 0 ∷ 0 ∷ []) (0x301 ∷ 0x61 ∷ 0x62 ∷ []) ∷
          [];
    }
    -- under refusals that change nothing they stay
    ∷ record {
      mode = Plain;
      page = 0 ∷ 1 ∷ 0 ∷ 0x377 ∷ [];
      calls =
          write 200 (0x61 ∷ 0x7F ∷ []) gives told (4 ∷ 2 ∷ 0x7F ∷ []) (1 ∷ 0 ∷ 1 ∷ 0 ∷ []) (0x61 ∷ []) ∷
          write 200 (0xD800 ∷ []) gives told (1 ∷ []) (0 ∷ 0 ∷ 1 ∷ 0 ∷ []) (0x61 ∷ []) ∷
          write 3 (0x62 ∷ []) gives told (8 ∷ []) (0 ∷ 0 ∷ 1 ∷ 0 ∷ []) (0x61 ∷ []) ∷
          claim 1 gives told [] (0 ∷ 0 ∷ 1 ∷ 1 ∷ []) (0x61 ∷ []) ∷
          write 200 (0x62 ∷ []) gives told (9 ∷ []) (0 ∷ 0 ∷ 1 ∷ 1 ∷ []) (0x61 ∷ []) ∷
          flush gives told (9 ∷ []) (0 ∷ 0 ∷ 1 ∷ 1 ∷ []) (0x61 ∷ []) ∷
          abandon gives told [] (0 ∷ 0 ∷ 1 ∷ 0 ∷ []) (0x61 ∷ []) ∷
          [];
    }
    -- under a second refusal by 4 more are kept behind them
    ∷ record {
      mode = Plain;
      page = 0 ∷ 1 ∷ 0 ∷ 0x377 ∷ [];
      calls =
          write 200 (0x61 ∷ 0x7F ∷ []) gives told (4 ∷ 2 ∷ 0x7F ∷ []) (1 ∷ 0 ∷ 1 ∷ 0 ∷ []) (0x61 ∷ []) ∷
          write 200 (0x62 ∷ 0x7F ∷ []) gives told (4 ∷ 2 ∷ 0x7F ∷ []) (1 ∷ 0 ∷ 1 ∷ 0 ∷ []) (0x61 ∷ 0x62 ∷ []) ∷
          write 200 (0x0A ∷ []) gives told (0 ∷ 3 ∷ []) (0 ∷ 0 ∷ 0 ∷ 0 ∷ []) (0x61 ∷ 0x62 ∷ 0x0A ∷ []) ∷
          [];
    }
    -- in CRLF mode, over a close
    ∷ record {
      mode = Crlf;
      page = 0 ∷ 1 ∷ 0 ∷ 0x377 ∷ [];
      calls =
          write 200 (0x61 ∷ 0x0A ∷ 0x7F ∷ []) gives told (4 ∷ 2 ∷ 0x7F ∷ []) (1 ∷ 0 ∷ 1 ∷ 0 ∷ []) (0x61 ∷ 0x0D ∷ 0x0A ∷ []) ∷
          close gives told [] (0 ∷ 0 ∷ 1 ∷ 0 ∷ []) (0x61 ∷ 0x0D ∷ 0x0A ∷ []) ∷
          write 200 (0x62 ∷ 0x0A ∷ []) gives told (0 ∷ 6 ∷ []) (0 ∷ 0 ∷ 0 ∷ 0 ∷ []) (0x61 ∷ 0x0D ∷ 0x0A ∷ 0x62 ∷ 0x0D ∷ 0x0A ∷ []) ∷
          [];
    }
    -- color: an escape begun behind them is not handed out with them
    ∷ record {
      mode = Color;
      page = 0 ∷ 1 ∷ 0 ∷ 0x377 ∷ [];
      calls =
          write 200 (0x61 ∷ 0x7F ∷ []) gives told (4 ∷ 2 ∷ 0x7F ∷ []) (1 ∷ 0 ∷ 1 ∷ 0 ∷ []) (0x61 ∷ []) ∷
          write 200 (0x1B ∷ 0x5B ∷ []) gives told (0 ∷ 1 ∷ []) (0 ∷ 4 ∷ 0 ∷ 2 ∷ []) (0x61 ∷ []) ∷
          write 200 (0x6D ∷ []) gives told (0 ∷ 3 ∷ []) (0 ∷ 2 ∷ 0 ∷ 0 ∷ []) (0x1B ∷ 0x5B ∷ 0x6D ∷ []) ∷
          [];
    }
    -- CRLF: a refused character's part is kept up to it
    ∷ record {
      mode = Crlf;
      page = 0 ∷ 1 ∷ 0 ∷ 0x377 ∷ [];
      calls =
          write 200 (0x61 ∷ 0x0A ∷ 0x62 ∷ 0x7F ∷ []) gives told (4 ∷ 2 ∷ 0x7F ∷ []) (1 ∷ 0 ∷ 1 ∷ 0 ∷ []) (0x61 ∷ 0x0D ∷ 0x0A ∷ 0x62 ∷ []) ∷
          [];
    }
    ∷ []

pub kept_examples : map computed table ≡ map expected table
unfolding table write_str_of write_refusal written_by run_of parts more_parts steps_of write_step_of ground_of flush_of close_of abandon_of is_char
    replace_of reason_of check_numbers basic_text_start basic_text_end starter grapheme_extend_not_cgj spacing_mark_plus is_private_use
    to_isolate isolated accepted sized rising nonstarter assigned member rises
kept_examples = refl
