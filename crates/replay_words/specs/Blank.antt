-- Blank places, by which an answer says `clean`. In the language of the comparison blank places hold EEEEEEEE before use, and bytes EE.
use Rattle.std.specs.Prelude.{Bool, List}
use Rattle.std.specs.List.{list_all}

-- every one of the places holds b, by a test whether two values are equal
abbrev pub are_blank : {A : Type 0} → (A → A → Bool) → A → List A → Bool
are_blank eq b xs = list_all (λ x. eq x b) xs
