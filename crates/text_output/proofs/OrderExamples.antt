-- Two faults at once, with the oracle's answers: which refusal comes first. "Order: 9, 2, 1 (or 3 for bytes), 8, then 4 or 6 as met, then
-- 5." The pairs with 5 in which something is kept stand in KeptExamples. Each by computing.
--     order_examples    the table
use mathlib.Core.List.{List, [], ◌∷◌, map}
use mathlib.Core.Path.{◌≡◌, refl}
use lib.ListN.{replicate}
use Rattle.scalars.specs.Chars.{is_char}
use Rattle.ranges.specs.Ranges.{member, rises}
use Rattle.page.specs.Page.{sized, rising, nonstarter, assigned, accepted}
use Rattle.text_utils.specs.Classes.{starter, grapheme_extend_not_cgj, spacing_mark_plus, basic_text_start, basic_text_end, is_private_use}
use Rattle.replace.specs.Replace.{replace_of}
use Rattle.check_char.specs.Check.{reason_of, check_numbers}
use Rattle.isolate_unassigned.specs.Meaning.{to_isolate, isolated}
use Rattle.text_output.specs.declared.Mode.TheVariants.{Plain, Color}
use Rattle.text_output.specs.Step.{ground_of, write_step_of, steps_of}
use Rattle.text_output.specs.Write.{run_of, parts, more_parts, written_by, write_refusal, write_str_of}
use Rattle.text_output.specs.Close.{flush_of, close_of, abandon_of}
use Rattle.text_output.proofs.Rows.{write, flush, close, claim, told, ◌gives◌, Row, expected, computed}

unfoldable pub table : List Row
table =
    -- 9 before 2
    record {
      mode = Plain;
      page = 0 ∷ 1 ∷ 0 ∷ 0x34E ∷ [];
      calls =
          claim 1 gives told [] (0 ∷ 0 ∷ 1 ∷ 1 ∷ []) [] ∷
          write 200 (0x61 ∷ []) gives told (9 ∷ []) (0 ∷ 0 ∷ 1 ∷ 1 ∷ []) [] ∷
          [];
    }
    -- 9 before 1
    ∷ record {
      mode = Plain;
      page = 0 ∷ 1 ∷ 0 ∷ 0x377 ∷ [];
      calls =
          claim 1 gives told [] (0 ∷ 0 ∷ 1 ∷ 1 ∷ []) [] ∷
          write 200 (0xD800 ∷ []) gives told (9 ∷ []) (0 ∷ 0 ∷ 1 ∷ 1 ∷ []) [] ∷
          [];
    }
    -- 9 before 8
    ∷ record {
      mode = Plain;
      page = 0 ∷ 1 ∷ 0 ∷ 0x377 ∷ [];
      calls =
          claim 1 gives told [] (0 ∷ 0 ∷ 1 ∷ 1 ∷ []) [] ∷
          write 0 (0x61 ∷ []) gives told (9 ∷ []) (0 ∷ 0 ∷ 1 ∷ 1 ∷ []) [] ∷
          [];
    }
    -- 9 before 4
    ∷ record {
      mode = Plain;
      page = 0 ∷ 1 ∷ 0 ∷ 0x377 ∷ [];
      calls =
          claim 1 gives told [] (0 ∷ 0 ∷ 1 ∷ 1 ∷ []) [] ∷
          write 200 (0x7F ∷ []) gives told (9 ∷ []) (0 ∷ 0 ∷ 1 ∷ 1 ∷ []) [] ∷
          [];
    }
    -- 2 before 1
    ∷ record {
      mode = Plain;
      page = 0 ∷ 1 ∷ 0 ∷ 0x34E ∷ [];
      calls =
          write 200 (0xD800 ∷ []) gives told (2 ∷ []) (0 ∷ 0 ∷ 1 ∷ 0 ∷ []) [] ∷
          [];
    }
    -- 2 before 8
    ∷ record {
      mode = Plain;
      page = 0 ∷ 1 ∷ 0 ∷ 0x34E ∷ [];
      calls =
          write 0 (0x61 ∷ []) gives told (2 ∷ []) (0 ∷ 0 ∷ 1 ∷ 0 ∷ []) [] ∷
          [];
    }
    -- 2 before 4
    ∷ record {
      mode = Plain;
      page = 0 ∷ 1 ∷ 0 ∷ 0x34E ∷ [];
      calls =
          write 200 (0x7F ∷ []) gives told (2 ∷ []) (0 ∷ 0 ∷ 1 ∷ 0 ∷ []) [] ∷
          [];
    }
    -- 1 before 8
    ∷ record {
      mode = Plain;
      page = 0 ∷ 1 ∷ 0 ∷ 0x377 ∷ [];
      calls =
          write 0 (0x61 ∷ 0xD800 ∷ []) gives told (1 ∷ []) (0 ∷ 0 ∷ 1 ∷ 0 ∷ []) [] ∷
          [];
    }
    -- 1 before 4, which comes earlier in the text
    ∷ record {
      mode = Plain;
      page = 0 ∷ 1 ∷ 0 ∷ 0x377 ∷ [];
      calls =
          write 200 (0x7F ∷ 0x110000 ∷ []) gives told (1 ∷ []) (0 ∷ 0 ∷ 1 ∷ 0 ∷ []) [] ∷
          [];
    }
    -- 8 before 4
    ∷ record {
      mode = Plain;
      page = 0 ∷ 1 ∷ 0 ∷ 0x377 ∷ [];
      calls =
          write 2 (0x7F ∷ []) gives told (8 ∷ []) (0 ∷ 0 ∷ 1 ∷ 0 ∷ []) [] ∷
          write 3 (0x7F ∷ []) gives told (4 ∷ 2 ∷ 0x7F ∷ []) (1 ∷ 0 ∷ 1 ∷ 0 ∷ []) [] ∷
          [];
    }
    -- 8 before 5
    ∷ record {
      mode = Plain;
      page = 0 ∷ 1 ∷ 0 ∷ 0x377 ∷ [];
      calls =
          write 2 (0x301 ∷ []) gives told (8 ∷ []) (0 ∷ 0 ∷ 1 ∷ 0 ∷ []) [] ∷
          [];
    }
    -- 8 before 6
    ∷ record {
      mode = Color;
      page = 0 ∷ 1 ∷ 0 ∷ 0x377 ∷ [];
      calls =
          write 200 (0x1B ∷ 0x5B ∷ replicate 62 0x31) gives told (0 ∷ 0 ∷ []) (0 ∷ 4 ∷ 0 ∷ 64 ∷ []) [] ∷
          write 66 (0x6D ∷ []) gives told (8 ∷ []) (0 ∷ 4 ∷ 0 ∷ 64 ∷ []) [] ∷
          write 67 (0x6D ∷ []) gives told (6 ∷ []) (1 ∷ 0 ∷ 0 ∷ 0 ∷ []) [] ∷
          [];
    }
    -- 4 or 6 as met: 4 with its reason 15 first
    ∷ record {
      mode = Color;
      page = 0 ∷ 1 ∷ 0 ∷ 0x377 ∷ [];
      calls =
          write 200 (0x1B ∷ 0x5B ∷ replicate 62 0x31) gives told (0 ∷ 0 ∷ []) (0 ∷ 4 ∷ 0 ∷ 64 ∷ []) [] ∷
          write 200 (0x7F ∷ 0x31 ∷ []) gives told (4 ∷ 15 ∷ []) (1 ∷ 0 ∷ 0 ∷ 0 ∷ []) [] ∷
          [];
    }
    -- 4 or 6 as met: 6 first
    ∷ record {
      mode = Color;
      page = 0 ∷ 1 ∷ 0 ∷ 0x377 ∷ [];
      calls =
          write 200 (0x1B ∷ 0x5B ∷ replicate 62 0x31) gives told (0 ∷ 0 ∷ []) (0 ∷ 4 ∷ 0 ∷ 64 ∷ []) [] ∷
          write 200 (0x31 ∷ 0x7F ∷ []) gives told (6 ∷ []) (1 ∷ 0 ∷ 0 ∷ 0 ∷ []) [] ∷
          [];
    }
    -- 9 before 13
    ∷ record {
      mode = Color;
      page = 0 ∷ 1 ∷ 0 ∷ 0x377 ∷ [];
      calls =
          write 200 (0x1B ∷ []) gives told (0 ∷ 0 ∷ []) (0 ∷ 3 ∷ 0 ∷ 1 ∷ []) [] ∷
          claim 2 gives told [] (0 ∷ 3 ∷ 0 ∷ 2 ∷ []) [] ∷
          flush gives told (9 ∷ []) (0 ∷ 3 ∷ 0 ∷ 2 ∷ []) [] ∷
          close gives told (9 ∷ []) (0 ∷ 3 ∷ 0 ∷ 2 ∷ []) [] ∷
          [];
    }
    -- 9 before 11
    ∷ record {
      mode = Plain;
      page = 0 ∷ 1 ∷ 0 ∷ 0xFFFF ∷ [];
      calls =
          write 200 (0x61 ∷ 0x600 ∷ []) gives told (0 ∷ 2 ∷ []) (0 ∷ 1 ∷ 0 ∷ 0 ∷ []) (0x61 ∷ 0x600 ∷ []) ∷
          claim 1 gives told [] (0 ∷ 1 ∷ 0 ∷ 1 ∷ []) [] ∷
          flush gives told (9 ∷ []) (0 ∷ 1 ∷ 0 ∷ 1 ∷ []) [] ∷
          close gives told (9 ∷ []) (0 ∷ 1 ∷ 0 ∷ 1 ∷ []) [] ∷
          [];
    }
    -- 9 before 12
    ∷ record {
      mode = Plain;
      page = 0 ∷ 1 ∷ 0 ∷ 0x377 ∷ [];
      calls =
          write 200 (0x61 ∷ []) gives told (0 ∷ 1 ∷ []) (0 ∷ 2 ∷ 0 ∷ 0 ∷ []) (0x61 ∷ []) ∷
          claim 1 gives told [] (0 ∷ 2 ∷ 0 ∷ 1 ∷ []) [] ∷
          close gives told (9 ∷ []) (0 ∷ 2 ∷ 0 ∷ 1 ∷ []) [] ∷
          [];
    }
    ∷ []

pub order_examples : map computed table ≡ map expected table
unfolding table write_str_of write_refusal written_by run_of parts more_parts steps_of write_step_of ground_of flush_of close_of abandon_of is_char
    replace_of reason_of check_numbers basic_text_start basic_text_end starter grapheme_extend_not_cgj spacing_mark_plus is_private_use
    to_isolate isolated accepted sized rising nonstarter assigned member rises
order_examples = refl
