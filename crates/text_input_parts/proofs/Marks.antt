-- Where 34F goes, as document 01 says it.
--     guard_puts, guard_spares    before a first character that is no start, where one is expected; and nowhere else
--     end_puts, end_spares        after a last character that is no end; and after no other
use Prim.Native.Nat.{ℕ}
use mathlib.Core.Path.{◌≡◌}
use mathlib.Core.Bool.{true, false}
use mathlib.Core.List.{List, [], ◌∷◌}
use Rattle.replace.specs.declared.Replaced.{Replaced}
use Rattle.text_utils.specs.Classes.{basic_text_start, basic_text_end}
use Rattle.text_input_parts.specs.Appended.{lead_chars, first_char, guard_of, end_mark_of}
use Rattle.std.specs.Prelude.{Option}

-- "If the first image character is no start, 34F goes before it."
pub guard_puts : (p : List ℕ) (lead : Option ℕ) (image : Replaced) → basic_text_start p (first_char image) ≡ false →
    lead_chars (guard_of p lead true image) ≡ 0x34F ∷ []
guard_puts p lead image h = rw h

pub guard_spares : (p : List ℕ) (lead : Option ℕ) (image : Replaced) → basic_text_start p (first_char image) ≡ true →
    guard_of p lead true image ≡ lead
guard_spares p lead image h = rw h

-- "If the last character ever appended is no end, 34F follows."
pub end_puts : (last : ℕ) → basic_text_end last ≡ false → lead_chars (end_mark_of last) ≡ 0x34F ∷ []
end_puts last h = rw h

pub end_spares : (last : ℕ) → basic_text_end last ≡ true → lead_chars (end_mark_of last) ≡ []
end_spares last h = rw h
