-- The way of a write's loop, over characters, over bytes and into bytes. Idea: at its head, what is left of the write, stored from the
-- place at hand on, leads to the end that the whole leads to. What the loop goes over is known by what is left of it at a place.
--     Going                         at the head of the loop
--     begin, again, stopped, ended  before the first turn, after one that goes on, after one that stops, after the last
--     turn_room, finish_room        the room that the turn asks for, and the 34F that is owed at the end
--     LeftOn                        the characters that are left, where one is taken
--     Chars, chars_on, chars_end    those left at a place of characters
--     Bytes, bytes_begin, bytes_on, bytes_end    .. of bytes
use Prim.Native.Nat.{ℕ, zero, suc, ◌+◌, ◌≤◌, ◌<◌}
use mathlib.Core.Path.{◌≡◌, refl, sym, ◌∙◌}
use mathlib.Core.Bool.{true, false}
use mathlib.Core.List.{List, [], ◌∷◌}
use native.Mathlib.Numerals.{add-one}
use native.Mathlib.Omega.{arith}
use lib.ListN.{length, drop, get_or}
use lib.Seq.{drop-cons, drop-length}
use Rattle.scalars.specs.Utf8.{chars_from, chars_of}
use Rattle.scalars.specs.Utf8.{utf8_step_of as utf8Step}
use Rattle.scalars.proofs.Texts.{step_on, stop_from}
use Rattle.page.specs.Page.{accepted}
use Rattle.isolate_unassigned.specs.declared.IsolateUnassigned.{IsolateUnassigned}
use Rattle.isolate_unassigned.specs.Inner.{fresh, last_owed}
use Rattle.text_output.specs.declared.Mode.{Mode}
use Rattle.text_output_write.specs.declared.store.Place.{Place}
use Rattle.text_output.specs.Writer.{Machine, sound}
use Rattle.text_output.specs.Step.{Stepped, and_then, steps_of}
use Rattle.text_output.specs.Write.{run_in}
use Rattle.text_output_write.specs.Inner.{Progress, machine_at, pushed, stored, progress, turn_of, isolator_after}
use Rattle.text_output_write.proofs.Rest.{rest_of, run_rest}
use Rattle.text_output_write.proofs.Stays.{turn_sound}
use Rattle.text_output_write.proofs.Progress.{on_then, then_off, first_fits, same_end, next_sound, next_same}
use Rattle.std.specs.Prelude.{Some, None, Ok}

-- where one is taken at a place, and the next place is this
pub record LeftOn (L : ℕ → List ℕ → Type 0) (c next : ℕ) (cs : List ℕ) : Type 0 where
  pub behind : List ℕ
  pub is : cs ≡ c ∷ behind
  pub left : L next behind

-- L: what is left of the whole at a place
pub record Going (L : ℕ → List ℕ → Type 0) (p : List ℕ) (mode : Mode) (start : Place) (escape₀ out₀ cs₀ : List ℕ) (w : Place)
    (r : IsolateUnassigned) (i : ℕ) (escape out : List ℕ) : Type 0 where
  pub is_sound : sound (machine_at w escape) ≡ true
  pub same : length out ≡ length out₀
  pub cs : List ℕ
  pub left : L i cs
  pub leads :
      stored w.at out (rest_of mode p (machine_at w escape) r cs)
      ≡ stored start.at out₀ (run_in mode p (machine_at start escape₀) cs₀)

module _ {L : ℕ → List ℕ → Type 0} {p : List ℕ} {mode : Mode} {start : Place} {escape₀ out₀ cs₀ : List ℕ} where
  pub begin : accepted p ≡ true → sound (machine_at start escape₀) ≡ true → L 0 cs₀ → (r : IsolateUnassigned) → r ≡ fresh →
      Going L p mode start escape₀ out₀ cs₀ start r 0 escape₀ out₀
  begin a s l r e = record { is_sound = s; same = refl; cs = cs₀; left = l; leads = rw (e, run_rest mode p a (machine_at start escape₀) cs₀) refl }

  module _ {w : Place} {r : IsolateUnassigned} {i : ℕ} {escape out : List ℕ} (g : Going L p mode start escape₀ out₀ cs₀ w r i escape out) where
    -- ---- a turn
    module _ {c next-i : ℕ} (on : LeftOn L c next-i g.cs) where
      abbrev here : Stepped
      here = turn_of mode p (machine_at w escape) r c

      abbrev more : Machine → Stepped
      more next = rest_of mode p next (isolator_after mode p r c) on.behind

      turned : stored w.at out (and_then here more) ≡ stored start.at out₀ (run_in mode p (machine_at start escape₀) cs₀)
      unfolding rest_of
      turned = rw on.is at g.leads

      pub turn_room : start.at + length (pushed (run_in mode p (machine_at start escape₀) cs₀)) ≤ length out₀ → w.at + length (pushed here) ≤ length out
      turn_room room =
          let end = same_end w.at start.at out out₀ (and_then here more) (run_in mode p (machine_at start escape₀) cs₀) turned in
          omega (arith, room, end, first_fits here more, g.same)

      pub again : {next : Place} {s : IsolateUnassigned} {escape' out' : List ℕ} → progress (Ok next) escape' out' ≡ stored w.at out here →
          s ≡ isolator_after mode p r c → Going L p mode start escape₀ out₀ cs₀ next s next-i escape' out'
      again {next} {s} {escape'} {out'} e q =
          let stays = turn_sound mode p c (machine_at w escape) r g.is_sound in
          record {
            is_sound = next_sound w escape out here _ stays next escape' out' e;
            same = next_same w escape out here _ stays next escape' out' e ∙ g.same;
            cs = on.behind;
            left = on.left;
            leads = rw q (on_then w.at out more here next escape' out' e ∙ turned);
          }

      pub stopped : {x : Progress} → x ≡ stored w.at out here → x.going ≡ false →
          x ≡ stored start.at out₀ (run_in mode p (machine_at start escape₀) cs₀)
      stopped {x} e off = then_off w.at out more here x e off ∙ turned

    -- ---- the end
    module _ (none : g.cs ≡ []) where
      abbrev last : Stepped
      last = steps_of mode (machine_at w escape) [] (last_owed r)

      finishing : stored w.at out last ≡ stored start.at out₀ (run_in mode p (machine_at start escape₀) cs₀)
      unfolding rest_of
      finishing = rw none at g.leads

      pub finish_room : start.at + length (pushed (run_in mode p (machine_at start escape₀) cs₀)) ≤ length out₀ → w.at + length (pushed last) ≤ length out
      finish_room room = omega (arith, room, same_end w.at start.at out out₀ last (run_in mode p (machine_at start escape₀) cs₀) finishing, g.same)

      pub ended : {x : Progress} → x ≡ stored w.at out last → x ≡ stored start.at out₀ (run_in mode p (machine_at start escape₀) cs₀)
      ended e = e ∙ finishing

-- ---- characters
pub record Chars (chars : List ℕ) (i : ℕ) (cs : List ℕ) : Type 0 where
  pub within : i ≤ length chars
  pub is : drop i chars ≡ cs

pub chars_on : (chars : List ℕ) (i : ℕ) (cs : List ℕ) → Chars chars i cs → i < length chars → LeftOn (Chars chars) (get_or chars i 0) (i + 1) cs
chars_on chars i cs l h =
    record {
      behind = drop (suc i) chars;
      is = sym l.is ∙ drop-cons chars i 0 h;
      left = record { within = omega (arith, h); is = rw add-one refl };
    }

pub chars_end : (chars : List ℕ) (i : ℕ) (cs : List ℕ) → Chars chars i cs → length chars ≤ i → cs ≡ []
chars_end chars i cs l h = let e : i ≡ length chars = omega (arith, h, l.within) in sym l.is ∙ rw (e, drop-length) refl

-- ---- bytes
pub record Bytes (bytes : List ℕ) (place : ℕ) (cs : List ℕ) : Type 0 where
  pub most : ℕ
  pub enough : length bytes ≤ place + most
  pub is : chars_from most bytes place ≡ cs

pub bytes_begin : (bytes : List ℕ) → Bytes bytes 0 (chars_of bytes)
unfolding chars_of
bytes_begin bytes = record { most = length bytes; enough = omega arith; is = refl }

pub bytes_on : (bytes : List ℕ) (place c next : ℕ) (cs : List ℕ) → Bytes bytes place cs → utf8Step bytes place ≡ Some (c, next) →
    LeftOn (Bytes bytes) c next cs
bytes_on bytes place c next cs l e = on l.most l.enough l.is
  where
    on : (n : ℕ) → length bytes ≤ place + n → chars_from n bytes place ≡ cs → LeftOn (Bytes bytes) c next cs
    on zero h q = let o = step_on bytes place c next e in let a : ⊥ = omega (arith, o) in absurd a
    on (suc n) h q =
        let o = step_on bytes place c next e in
        record {
          behind = chars_from n bytes next;
          is = sym (rw e at q);
          left = record { most = n; enough = omega (arith, o); is = refl };
        }

pub bytes_end : (bytes : List ℕ) (place : ℕ) (cs : List ℕ) → Bytes bytes place cs → utf8Step bytes place ≡ None → cs ≡ []
bytes_end bytes place cs l e = sym l.is ∙ stop_from bytes l.most place e
