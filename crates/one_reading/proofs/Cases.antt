-- Document 01, "Checked by hand", cases 1 to 12: the definitions give what the table of specs/Cases.antt says, by computing both.
--     cases    the table
use mathlib.Core.Path.{◌≡◌, refl}
use mathlib.Core.List.{map}
use Rattle.scalars.specs.Chars.{is_char}
use Rattle.ranges.specs.Ranges.{member, rises}
use Rattle.page.specs.Page.{sized, rising, nonstarter, assigned, accepted}
use Rattle.text_utils.specs.Classes.{starter, grapheme_extend_not_cgj, spacing_mark_plus, basic_text_start, basic_text_end, is_private_use}
use Rattle.replace.specs.Replace.{replace_of}
use Rattle.isolate_unassigned.specs.Meaning.{to_isolate, isolated}
use Rattle.text_input_parts.specs.Sets.{final, string_end, up_to7_f, newline_char}
use Rattle.text_input.specs.Sets.{optional_line}
use Rattle.text_input.specs.Step.{leave_of, meet_of, scan_step_of}
use Rattle.text_input_parts.specs.Refusals.{chunk_refusal, refusal_of}
use Rattle.text_input.specs.Scan.{scan_of, finish_of}
use Rattle.one_reading.specs.Cases.{Row, table, computed}

-- "The first twelve are proved, with the page 0 1 0 377 (no nonstarters, 0..377 assigned); scans end as end of file." "Cases 1 to 12
-- are proved in a shared table by one theorem about the definitions."
pub cases : map computed table ≡ map (λ (row : Row). row.expected) table
unfolding table scan_of chunk_refusal refusal_of finish_of scan_step_of leave_of meet_of final string_end up_to7_f newline_char optional_line replace_of is_char
    basic_text_start basic_text_end starter grapheme_extend_not_cgj spacing_mark_plus is_private_use to_isolate isolated
    accepted sized rising nonstarter assigned member rises
cases = refl
