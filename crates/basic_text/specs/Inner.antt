-- What the contracts of private functions cite. The contracts of the exports cite nothing of it. Document 01, "A chunk comes in" for
-- the page, "Characters go out" for the rest.
use Rattle.std.specs.Prelude.{ℕ, ◌+◌, ◌*◌, cond, List, [], leb, length, drop, Result, Ok, Err}
use Rattle.text_output_write.specs.declared.store.Place.{Place}
use Rattle.basic_text.specs.Exports.{numbers_of}
use Rattle.text_output_write.specs.declared.store.Stopped.{Stopped}

-- the numbers of the longest page that is accepted: "N nonstarter ranges, A assigned ranges (0 to 2,048 each)" and "The length is
-- exactly 2 + 2 × (N + A)"
abbrev pub longest_page : ℕ
longest_page = 8194

-- a page that is too long to be accepted is as wrong as the empty one, and not read
unfoldable pub fitting : List ℕ → List ℕ
fitting p = cond (leb (length p) longest_page) p []

-- the bytes past the last whole four
abbrev pub tail : List ℕ → List ℕ
tail queue = drop (4 * length (numbers_of queue)) queue

-- the place, moved
unfoldable pub at_place : Place → ℕ → Place
at_place w at = record { state = w.state; held = w.held; at = at }

-- where some steps stand
abbrev pub place_in : Result Place Stopped → Place
place_in (Ok w) = w
place_in (Err s) = s.place

-- the same, with k numbers before theirs
abbrev pub behind_of : ℕ → Result Place Stopped → Result Place Stopped
behind_of k (Ok w) = Ok (at_place w (k + w.at))
behind_of k (Err s) = Err (record { place = at_place s.place (k + s.place.at); stop = s.stop })
