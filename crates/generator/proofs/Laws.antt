-- What the generator comes to.
--     steps                    the step, and the step back, which undo each other; product-is-one, the inverse
--     never_meet               different seeds never reach equal states
--     after_suc                the last of some steps
--     picks_length, picks_at   how many picks, and each of them
--     list_length              the list has 32
--     fills                    what filling leaves and hands back
--     adjoining                two parts are the whole
use Rattle.std.proofs.Common.{◌≡◌, ℕ, zero, suc, ◌+◌, ◌-◌, ◌*◌, ◌/◌, ◌%◌, ◌^◌, ◌<◌, true, List, [], ◌∷◌, ◌++◌, length, get_or, sym, refl, ap, ◌∙◌, mod-lt, suc-add, zero-add, arith, length-append, pow_pos}
use native.Mathlib.Nat.{mod-add-div}
use Rattle.common.proofs.Kit.{both_true, both}
use Rattle.scalars.specs.Chars.{is_char, are_chars}
use Rattle.generator.specs.Generator.{factor, addend, next_of, after, inverse, back_of, listed, pick_of, picks, fill_places, fill_state}
use Rattle.generator.specs.Promises.{State, before, Steps, NeverMeet, PickedBy, Fills, Adjoining}
use Rattle.generator.proofs.Modulo.{back_step, step_back}

-- ---- steps
pub next_state_lem : (s : ℕ) → State (next_of s)
unfolding next_of
next_state_lem s = mod-lt (factor * s + addend) (pow_pos 32)

-- n + 1 steps are n and one more
pub after_suc : (n s : ℕ) → after (suc n) s ≡ next_of (after n s)
after_suc zero s = refl
after_suc (suc n) s = after_suc n (next_of s)

-- "its inverse gives the backward step"
pub product_is_one : (factor * inverse) % 2 ^ 32 ≡ 1
product_is_one = refl

pub steps : (s : ℕ) → Steps s
unfolding next_of back_of
steps s =
    record {
      next =
          record {
            state = next_state_lem s;
            wraps = (factor * s + addend) / 2 ^ 32;
            sum = sym (mod-add-div (factor * s + addend) (2 ^ 32));
          };
      none = refl;
      more = λ n. after_suc n s;
      back_state = mod-lt (inverse * (s + (2 ^ 32 - addend))) (pow_pos 32);
      back_of_next = back_step (2 ^ 32) factor inverse addend product_is_one (omega arith) s;
      next_of_back = step_back (2 ^ 32) factor inverse addend product_is_one (omega arith) s;
    }

-- a step is undone, so that two states which it leads to one are one
one_to_one : (s t : ℕ) → State s → State t → next_of s ≡ next_of t → s ≡ t
one_to_one s t hs ht e = sym ((steps s).back_of_next hs) ∙ ap back_of e ∙ (steps t).back_of_next ht

-- and so are two that so many steps lead to one
after_one_to_one : (n s t : ℕ) → State s → State t → after n s ≡ after n t → s ≡ t
after_one_to_one zero s t hs ht e = e
after_one_to_one (suc n) s t hs ht e =
    one_to_one s t hs ht (after_one_to_one n (next_of s) (next_of t) (next_state_lem s) (next_state_lem t) e)

pub never_meet : (s t : ℕ) → NeverMeet s t
never_meet s t hs ht apart n e = apart (after_one_to_one n s t hs ht e)

after_add : (m n s : ℕ) → after (m + n) s ≡ after n (after m s)
after_add zero n s = rw zero-add
after_add (suc m) n s = rw suc-add (after_add m n (next_of s))

after_state : (n s : ℕ) → State s → State (after n s)
after_state zero s h = h
after_state (suc n) s h = after_state n (next_of s) (next_state_lem s)

-- the last step is the first to be undone
before_after : (n s : ℕ) → State s → before n (after n s) ≡ s
before_after zero s h = refl
before_after (suc n) s h =
    ap (before n) (ap back_of (after_suc n s) ∙ (steps (after n s)).back_of_next (after_state n s h)) ∙ before_after n s h

-- ---- picks
pub picks_length : (n s : ℕ) → length (picks n s) ≡ n
picks_length zero s = refl
picks_length (suc n) s = ap suc (picks_length n (next_of s))

pub picks_at : (n s i : ℕ) → i < n → get_or (picks n s) i 0 ≡ pick_of (after (suc i) s)
picks_at zero s i h = absurd (omega arith)
picks_at (suc n) s zero h = refl
picks_at (suc n) s (suc i) h = picks_at n (next_of s) i (omega arith)

picks_add : (m n s : ℕ) → picks (m + n) s ≡ picks m s ++ picks n (after m s)
picks_add zero n s = rw zero-add
picks_add (suc m) n s = rw suc-add (ap (λ (cs : List ℕ). pick_of (next_of s) ∷ cs) (picks_add m n (next_of s)))

-- "this list of 32"
pub list_length : length listed ≡ 32
unfolding listed
list_length = refl

-- each place of it has a character: one computed test
listed_chars : are_chars listed ≡ true
unfolding listed is_char
listed_chars = refl

-- so what stands at any place is one: past the end that is 0
char_at : (cs : List ℕ) → are_chars cs ≡ true → (i : ℕ) → is_char (get_or cs i 0) ≡ true
unfolding is_char
char_at [] h i = refl
char_at (c ∷ cs) h zero = (both_true (is_char c) (are_chars cs) h).0
char_at (c ∷ cs) h (suc i) = char_at cs (both_true (is_char c) (are_chars cs) h).1 i

picks_chars : (n s : ℕ) → are_chars (picks n s) ≡ true
unfolding pick_of
picks_chars zero s = refl
picks_chars (suc n) s = both (char_at listed listed_chars (next_of s / 2 ^ 27)) (picks_chars n (next_of s))

-- ---- filling
picked : (s : ℕ) → State s → PickedBy s (pick_of s)
unfolding pick_of
picked s h = record { place = s / 2 ^ 27; in_list = omega (arith, list_length); low = omega arith; high = omega arith; char = refl }

pub fills : (s : ℕ) (out : List ℕ) → Fills s out
unfolding fill_places fill_state
fills s out =
    record {
      whole = picks_length (length out) s;
      each =
          λ i h.
          rw (picks_at (length out) s i h) (picked (after (suc i) s) (after_state i (next_of s) (next_state_lem s)));
      chars = picks_chars (length out) s;
      last = refl;
      handed_back = before_after (length out) s;
    }

pub adjoining : (s : ℕ) (first second : List ℕ) → Adjoining s first second
unfolding fill_places fill_state
adjoining s first second =
    record {
      places = simp length-append (sym (picks_add (length first) (length second) s));
      state = simp length-append (sym (after_add (length first) (length second) s));
    }
