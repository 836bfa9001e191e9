-- The example of specs/Worked.antt: each hypothesis of demand 3 is met, by computing; `demand3` is applied; and the definitions give the
-- same values, by computing both. The reading's pieces are the longest by `longest_of` of text_input, at 0D and at 61.
--     worked    the example
use mathlib.Core.Bool.{true}
use mathlib.Core.List.{[], ◌∷◌, flatten}
use mathlib.Core.Path.{◌≡◌, refl}
use native.Mathlib.Omega.{arith}
use Rattle.scalars.specs.Chars.{is_char}
use Rattle.ranges.specs.Ranges.{member, rises}
use Rattle.page.specs.Page.{sized, rising, nonstarter, assigned, accepted}
use Rattle.text_utils.specs.Classes.{starter, grapheme_extend_not_cgj, spacing_mark_plus, basic_text_start, basic_text_end, is_private_use}
use Rattle.replace.specs.Replace.{replace_of}
use Rattle.check_char.specs.Check.{reason_of, check_numbers}
use Rattle.isolate_unassigned.specs.Meaning.{to_isolate, isolated}
use Rattle.text_input_parts.specs.PieceSets.{cr_or_lf}
use Rattle.text_input_parts.specs.Refusals.{chunk_refusal, refusal_of}
use Rattle.text_input.specs.Sets.{optional_line}
use Rattle.text_input.specs.Step.{leave_of, meet_of, scan_step_of}
use Rattle.text_input.specs.Scan.{fresh, scan_of, finish_of}
use Rattle.text_input.specs.Pieces.{option_char, line_char, join, Reading, piece_image, image, start_mark, end_mark, last_newline, cleaned}
use Rattle.text_input.proofs.Cut.{move, cut, cut_by}
use Rattle.text_input.proofs.Unique.{class, kind_c, tail_of, longest_of}
use Rattle.text_input_price.specs.Price.{commit_of}
use Rattle.text_output.specs.Step.{ground_of, write_step_of, steps_of}
use Rattle.text_output.specs.Write.{run_of, parts, more_parts, written_by, write_refusal, write_str_of}
use Rattle.text_output.specs.Close.{close_of}
use Rattle.text_output.specs.Passing.{Passes}
use Rattle.one_reading.specs.Calls.{Seen, queue_of, record_after, accepted_from, accepted_calls, accepted_chunks, text_of, FinishedOnce}
use Rattle.one_reading.specs.Demand.{NoneExcepted}
use Rattle.one_reading.specs.Cases.{page, options, lent}
use Rattle.one_reading.specs.Worked.{calls, seen, text, pieces, queue, wrote, closed, Worked}
use Rattle.one_reading.proofs.Demand.{demand3}

good_page : accepted page ≡ true
unfolding accepted sized rising nonstarter assigned member rises
good_page = refl

once_finished : FinishedOnce page options (accepted_calls calls)
unfolding calls accepted_from scan_step_of leave_of meet_of optional_line replace_of is_char accepted sized rising nonstarter assigned member rises
once_finished = (refl, refl, (refl, refl, (refl, refl)))

seen_is : Seen fresh calls seen
unfolding calls seen scan_of commit_of chunk_refusal refusal_of finish_of scan_step_of leave_of meet_of optional_line replace_of is_char
    basic_text_start basic_text_end starter grapheme_extend_not_cgj spacing_mark_plus accepted sized rising nonstarter assigned member rises
seen_is = (refl, (refl, (refl, (refl, (refl, (refl, (refl, (refl, tt))))))))

queue_computed : queue_of seen ≡ queue
unfolding seen queue_of
queue_computed = refl

none_excepted : NoneExcepted options (queue_of seen)
none_excepted = rw queue_computed

text_computed : text_of calls ≡ text
unfolding calls text_of accepted_chunks accepted_from flatten scan_step_of leave_of meet_of optional_line replace_of is_char accepted sized rising nonstarter assigned member rises
text_computed = refl

reads : Reading options text pieces
unfolding join class kind_c tail_of cut cut_by move line_char cr_or_lf option_char
reads =
    record {
      joined = refl;
      longest = (
        longest_of options 0x0D (0x0A ∷ 0x61 ∷ []) (tail_of (class options 0x0D) (0x0A ∷ 0x61 ∷ [])),
        (longest_of options 0x61 [] (tail_of (class options 0x61) []), tt),
      );
    }

image_computed : cleaned page options pieces ≡ queue
unfolding join image piece_image start_mark end_mark last_newline cleaned replace_of basic_text_start basic_text_end starter
    grapheme_extend_not_cgj spacing_mark_plus nonstarter member
image_computed = refl

count_computed : (record_after fresh seen).count ≡ 4
unfolding seen record_after
count_computed = refl

-- what demand 3 says of the write with exactly 3 × 3 places and of the close
passed : Passes queue wrote closed
unfolding seen queue_of wrote closed to_isolate isolated assigned member
passed =
    (demand3 page good_page options calls once_finished seen seen_is).passes none_excepted (lent 9) (omega arith) wrote refl closed refl

pub worked : Worked
unfolding wrote closed write_str_of write_refusal written_by run_of parts more_parts steps_of write_step_of ground_of close_of is_char
    replace_of reason_of check_numbers basic_text_start basic_text_end starter grapheme_extend_not_cgj spacing_mark_plus is_private_use
    to_isolate isolated accepted sized rising nonstarter assigned member rises
worked =
    record {
      good = good_page;
      once = once_finished;
      saw = seen_is;
      none = none_excepted;
      promise = demand3 page good_page options calls once_finished seen seen_is;
      text_is = text_computed;
      reading = reads;
      image = image_computed;
      queue_is = queue_computed;
      count = count_computed;
      passes = passed;
      number = refl;
      places = refl;
      closes = refl;
    }
