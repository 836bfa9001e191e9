-- A reason as plain numbers, for the exports and for the comparison. Which number it has is in specs/Check.antt.
use Rattle.std.specs.Prelude.{ℕ, List, length, get_or}
use Rattle.check_char.specs.declared.numbers.Reason.{Reason}

-- a reason from the list of its number and its values (`error_numbers`): how many they are, and these, each 0 where there is none
abbrev pub reason_by : List ℕ → Reason
reason_by ns =
    record {
      size = length ns;
      number = get_or ns 0 0;
      character = get_or ns 1 0;
      count = get_or ns 2 0;
      first = get_or ns 3 0;
      second = get_or ns 4 0;
      third = get_or ns 5 0;
    }
