-- What a call answers and leaves, from what the numbers' call does (text_input, proofs/Calls.antt). Idea: the numbers stored in the
-- first places of the queue are their bytes stored there.
--     AskedBytes, asked                  a scan that is asked for, on bytes and on their numbers
--     scan_refused                       where it is refused
--     few, room, scan_accepted           where it is accepted: the count stays within its limit, what is appended has room, and the answer
--     finish_refused, finished           a finish that is refused, and one that is not: what its two places hold, and the answer
use mathlib.Core.Path.{◌≡◌, refl, sym, ap, ◌∙◌}
use mathlib.Core.Bool.{Bool}
use mathlib.Core.List.{List, [], ◌∷◌}
use Prim.Native.Nat.{ℕ, ◌+◌, ◌*◌, ◌/◌, ◌≤◌, ◌<◌}
use native.Mathlib.Omega.{arith}
use lib.ListN.{length, take, drop}
use lib.Seq.{sets}
use borrow.Author.Tests.{le-ltb}
use Rattle.scalars.specs.Chars.{are_chars}
use Rattle.page.specs.Page.{accepted}
use Rattle.common.specs.Answers.{refusal_number, written_numbers}
use Rattle.common.specs.declared.Refusal.{Refusal}
use Rattle.common.proofs.Answers.{refusal_some}
use Rattle.text_input.specs.declared.Options.{Options}
use Rattle.text_input.specs.declared.TextInput.{TextInput}
use Rattle.text_input.specs.declared.Scanned.{Scanned}
use Rattle.text_input.specs.declared.Ran.{Ran}
use Rattle.text_input.specs.Inner.{outs, ran_by}
use Rattle.text_input_parts.specs.Refusals.{max_count, places_for_chunk, refusal_of}
use Rattle.text_input.specs.Scan.{Outcome, run_of, skipped, opened, outcome, finish_chars, finish_next, finish_of}
use Rattle.text_input.proofs.Room.{finish_room}
use Rattle.text_input.proofs.Calls.{Asked, whole, refused_is, counts, enough, accepted_is}
use Rattle.text_input.proofs.Calls as calls
use Rattle.basic_text.specs.Exports.{numbers_of, bytes_of}
use Rattle.basic_text.proofs.Laws.{Bytes, length_numbers, with_all, with_filled}
use Rattle.basic_text.proofs.Stores.{stored_first}
use Rattle.std.specs.Prelude.{Ok, Err}
use Rattle.common.specs.declared.Refusal.TheVariants.{NoRoom}

-- the answer s and the queue's bytes q are those of an outcome on the queue's numbers
abbrev pub Answers : List ℕ → Outcome → Scanned → List ℕ → Type 0
Answers queue whole s q = (outcome s whole.places ≡ whole) × (q ≡ sets queue 0 (bytes_of whole.places))

-- an outcome is its answer and record with its places
with_places : (s : Scanned) (places : List ℕ) (whole : Outcome) → outcome s places ≡ whole → outcome s whole.places ≡ whole
with_places s places whole w = ap (λ (x : Outcome). outcome s x.places) (sym w) ∙ w

-- an outcome that leaves the numbers leaves the bytes
left_as_it_was : (queue : List ℕ) (s : Scanned) (whole : Outcome) → Bytes queue → outcome s (numbers_of queue) ≡ whole →
    Answers queue whole s queue
left_as_it_was queue s whole k w =
    (with_places s _ whole w, sym (with_all queue k) ∙ ap (λ (x : Outcome). sets queue 0 (bytes_of x.places)) w)

-- an outcome that stores numbers in the first places stores their bytes there
first_filled : (queue out q : List ℕ) (s : Scanned) (whole : Outcome) → Bytes queue → 4 * length out ≤ length queue →
    q ≡ sets queue 0 (bytes_of out) → outcome s (sets (numbers_of queue) 0 out) ≡ whole → Answers queue whole s q
first_filled queue out q s whole k room e w = (
  with_places s _ whole w,
  e ∙ sym (with_filled out queue k (omega (arith, length_numbers queue))) ∙ ap (λ (x : Outcome). sets queue 0 (bytes_of x.places)) w,
)

-- ---- a scan
-- one that is asked for, on bytes, and the number of its refusal
pub record AskedBytes : Type 0 where
  pub r : TextInput
  pub page : List ℕ
  pub options : Options
  pub chunk : List ℕ
  pub queue : List ℕ
  pub bytes : Bytes queue
  pub no : ℕ
  pub is : no ≡ refusal_of r.count (accepted page) (are_chars (numbers_of chunk)) (length chunk / 4) (places_for_chunk (length chunk / 4)) (length queue / 4)

-- the same on their numbers
abbrev pub asked : AskedBytes → Asked
asked a =
    record {
      r = a.r;
      page = a.page;
      options = a.options;
      chunk = numbers_of a.chunk;
      queue = numbers_of a.queue;
      no = a.no;
      is = rw (length_numbers a.chunk, length_numbers a.queue) a.is;
    }

module _ (a : AskedBytes) where
  pub scan_refused : (why : Refusal) → refusal_number why ≡ a.no → Answers a.queue (whole (asked a)) (record { answer = Err why; next = a.r }) a.queue
  scan_refused why e =
      left_as_it_was a.queue (record { answer = Err why; next = a.r }) (whole (asked a)) a.bytes
      (rw e (refused_is (asked a) (λ z. refusal_some why (e ∙ z))))

  module _ (z : a.no ≡ 0) where
    pub few : a.r.count + length a.chunk / 4 ≤ max_count
    few = rw length_numbers at (counts (asked a) z)

    module _ (from : ℕ) (f : from ≡ skipped a.r (numbers_of a.chunk)) (first : TextInput)
        (g : first ≡ opened a.r (length a.chunk / 4)) where
      same : first ≡ opened a.r (length (numbers_of a.chunk))
      same = rw length_numbers g

      pub room : 4 * length (outs a.page a.options first (drop from (numbers_of a.chunk))) ≤ length a.queue
      room = omega (arith, enough (asked a) z from f first same, length_numbers a.queue)

      pub scan_accepted : (ran : Ran) (q : List ℕ) →
          (ran ≡ ran_by 0 (run_of a.page a.options first (drop from (numbers_of a.chunk))))
          × (q ≡ sets a.queue 0 (bytes_of (outs a.page a.options first (drop from (numbers_of a.chunk)))))
          → Answers a.queue (whole (asked a)) (record { answer = Ok ran.written; next = ran.next }) q
      scan_accepted ran q h =
          let out = outs a.page a.options first (drop from (numbers_of a.chunk)) in
          first_filled a.queue out q (record { answer = Ok ran.written; next = ran.next }) (whole (asked a)) a.bytes room h.1
          (accepted_is (asked a) z from f first same ran (sets (numbers_of a.queue) 0 out) (h.0, refl))

-- ---- a finish
module _ (r : TextInput) (eof : Bool) (queue : List ℕ) where
  pub finish_refused : Bytes queue → length queue / 4 < 2 →
      Answers queue (finish_of r eof (numbers_of queue)) (record { answer = Err NoRoom; next = r }) queue
  finish_refused k h =
      left_as_it_was queue (record { answer = Err NoRoom; next = r }) _ k
      (calls.finish_refused r eof (numbers_of queue) (omega (arith, length_numbers queue)))

  -- a finish on two places answered s and left them so
  module _ (s : Scanned) (two : List ℕ) (e : outcome s two ≡ finish_of r eof (0 ∷ 0 ∷ [])) where
    listed : written_numbers s.answer ≡ 0 ∷ length (finish_chars r eof) ∷ []
    unfolding finish_of
    listed = ap (λ (x : Outcome). x.numbers) e

    next_is : s.next ≡ finish_next r eof
    unfolding finish_of
    next_is = ap (λ (x : Outcome). x.next) e

    places : two ≡ sets (0 ∷ 0 ∷ []) 0 (finish_chars r eof)
    unfolding finish_of
    places = ap (λ (x : Outcome). x.places) e

    pub never_refused : (why : Refusal) → s.answer ≡ Err why → ⊥
    never_refused why h = let g = rw h at listed in cc

    module _ (n : ℕ) (h : s.answer ≡ Ok n) where
      count : n ≡ length (finish_chars r eof)
      count = let g = rw h at listed in cc

      pub held : (n ≤ length two) × (take n two ≡ finish_chars r eof)
      held = stored_first (finish_chars r eof) (0 ∷ 0 ∷ []) two n count (finish_room r eof) places

      module _ (room : 2 ≤ length queue / 4) where
        pub fits : 4 * (0 + n) ≤ length queue
        fits = omega (arith, count, finish_room r eof)

        whole_finish : outcome s (sets (numbers_of queue) 0 (finish_chars r eof)) ≡ finish_of r eof (numbers_of queue)
        unfolding finish_of
        whole_finish =
            let two-places : 2 ≤ length (numbers_of queue) = omega (arith, length_numbers queue) in
            rw (le-ltb (length (numbers_of queue)) 2 two-places, listed, next_is)

        pub finished : Bytes queue → (q : List ℕ) → q ≡ sets queue (4 * 0) (bytes_of (take n two)) →
            Answers queue (finish_of r eof (numbers_of queue)) s q
        finished k q f =
            let out = finish_chars r eof in
            let enough : 4 * length out ≤ length queue = omega (arith, fits, count) in
            first_filled queue out q s (finish_of r eof (numbers_of queue)) k enough
            (f ∙ ap (λ (l : List ℕ). sets queue 0 (bytes_of l)) held.1)
            whole_finish
