-- What `numbers` leans on: one byte more of a text, by the tests on it, where so many words have begun.
--     left_of                                                what is left of a text, from the word that goes on
--     Follows                                                how many words have begun, by the last
--     left_past                                              past the end
--     left_blank, left_bad, left_many, left_large, left_on   the byte at i, and what is left
--     place_passed                                           a word's place is no larger than the bytes passed
--     steps                                                  all of these
use Rattle.std.proofs.Common.{◌≡◌, ℕ, ◌+◌, ◌*◌, ◌<◌, ◌≤◌, Bool, true, false, cond, List, [], ◌∷◌, Option, Some, None, Ok, Err, length, get_or, drop, refl, ◌∙◌, add-one, arith, drop-cons}
use Rattle.std.proofs.Math.ListN.{set, drop_of_length-le}
use Rattle.std.specs.Option.{unwrap_or}
use borrow.Author.Tests.{lt-ltb, le-ltb, le-leb, lt-leb}
use Rattle.command_bytes.specs.declared.numbers.ParseError.TheVariants.{NoNumber, Many}
use Rattle.command_bytes.specs.Digits.{digit_of}
use Rattle.command_bytes.specs.Words.{Read, is_blank, read_in, read_from}

-- where n words have begun, and the last of them goes on at its place with its value, or none does
abbrev pub left_of : (n : ℕ) → Option (ℕ × ℕ) → (places bytes : List ℕ) → Read
left_of n None places bytes = read_from n 0 0 false places bytes
left_of n (Some w) places bytes = read_from n w.0 w.1 true places bytes

abbrev pub Follows : ℕ → Option (ℕ × ℕ) → Type 0
Follows n None = Unit {0}
Follows n (Some w) = n ≡ w.0 + 1

-- place and value of a word that has ended count for nothing
ended_by : (n at value b : ℕ) (places bytes : List ℕ) → read_from n at value false places bytes ≡ read_from n 0 0 false places bytes →
    read_from n at value false places (b ∷ bytes) ≡ read_from n 0 0 false places (b ∷ bytes)
unfolding read_from
ended_by n at value b places bytes e = rw e

ended : (n at value : ℕ) (places bytes : List ℕ) → read_from n at value false places bytes ≡ read_from n 0 0 false places bytes
unfolding read_from
ended n at value places [] = refl
ended n at value places (b ∷ bytes) = ended_by n at value b places bytes (ended n at value places bytes)

module _ (n at v : ℕ) (inside : Bool) (ps l : List ℕ) (i : ℕ) where
  read_past : length l ≤ i → read_from n at v inside ps (drop i l) ≡ read_in (Ok n) ps
  unfolding read_from
  read_past h = rw (drop_of_length-le l h)

  module _ (h : i < length l) where
    read_blank : is_blank (get_or l i 0) ≡ true → read_from n at v inside ps (drop i l) ≡ read_from n at v false ps (drop (i + 1) l)
    unfolding read_from
    read_blank b = rw (drop-cons l i 0 h, add-one i) (simp b)

    module _ (b : is_blank (get_or l i 0) ≡ false) where
      read_bad : 15 < digit_of (get_or l i 0) → read_from n at v inside ps (drop i l) ≡ read_in (Err NoNumber) ps
      unfolding read_from
      read_bad d = rw (drop-cons l i 0 h) (simp (b, lt-ltb 15 _ d))

      module _ (d : digit_of (get_or l i 0) ≤ 15) where
        read_many : length ps ≤ cond inside at n → read_from n at v inside ps (drop i l) ≡ read_in (Err Many) ps
        unfolding read_from
        read_many m = rw (drop-cons l i 0 h) (simp (b, le-ltb 15 _ d, le-leb _ _ m))

        module _ (m : cond inside at n < length ps) where
          read_large : 0x0FFFFFFF < cond inside v 0 → read_from n at v inside ps (drop i l) ≡ read_in (Err NoNumber) ps
          unfolding read_from
          read_large g = rw (drop-cons l i 0 h) (simp (b, le-ltb 15 _ d, lt-leb _ _ m, lt-ltb 0x0FFFFFFF _ g))

          read_on : cond inside v 0 ≤ 0x0FFFFFFF →
              read_from n at v inside ps (drop i l)
              ≡ read_from (cond inside n (n + 1)) (cond inside at n) (cond inside v 0 * 16 + digit_of (get_or l i 0)) true
              (set ps (cond inside at n) (cond inside v 0 * 16 + digit_of (get_or l i 0))) (drop (i + 1) l)
          unfolding read_from
          read_on g = rw (drop-cons l i 0 h, add-one i) (simp (b, le-ltb 15 _ d, lt-leb _ _ m, le-ltb 0x0FFFFFFF _ g))

pub left_past : (n : ℕ) (word : Option (ℕ × ℕ)) (ps l : List ℕ) (i : ℕ) → length l ≤ i → left_of n word ps (drop i l) ≡ read_in (Ok n) ps
left_past n None ps l i h = read_past n 0 0 false ps l i h
left_past n (Some w) ps l i h = read_past n w.0 w.1 true ps l i h

pub left_blank : (n : ℕ) (word : Option (ℕ × ℕ)) (ps l : List ℕ) (i : ℕ) → i < length l → is_blank (get_or l i 0) ≡ true →
    left_of n word ps (drop i l) ≡ left_of n None ps (drop (i + 1) l)
left_blank n None ps l i h b = read_blank n 0 0 false ps l i h b
left_blank n (Some w) ps l i h b = read_blank n w.0 w.1 true ps l i h b ∙ ended n w.0 w.1 ps (drop (i + 1) l)

pub left_bad : (n : ℕ) (word : Option (ℕ × ℕ)) (ps l : List ℕ) (i : ℕ) → i < length l → is_blank (get_or l i 0) ≡ false →
    15 < digit_of (get_or l i 0) → left_of n word ps (drop i l) ≡ read_in (Err NoNumber) ps
left_bad n None ps l i h b d = read_bad n 0 0 false ps l i h b d
left_bad n (Some w) ps l i h b d = read_bad n w.0 w.1 true ps l i h b d

pub left_many : (n : ℕ) (word : Option (ℕ × ℕ)) (ps l : List ℕ) (i : ℕ) → i < length l → is_blank (get_or l i 0) ≡ false →
    digit_of (get_or l i 0) ≤ 15 → length ps ≤ (unwrap_or word (n, 0)).0 → left_of n word ps (drop i l) ≡ read_in (Err Many) ps
left_many n None ps l i h b d m = read_many n 0 0 false ps l i h b d m
left_many n (Some w) ps l i h b d m = read_many n w.0 w.1 true ps l i h b d m

pub left_large : (n : ℕ) (word : Option (ℕ × ℕ)) (ps l : List ℕ) (i : ℕ) → i < length l → is_blank (get_or l i 0) ≡ false →
    digit_of (get_or l i 0) ≤ 15 → (unwrap_or word (n, 0)).0 < length ps → 0x0FFFFFFF < (unwrap_or word (n, 0)).1 →
    left_of n word ps (drop i l) ≡ read_in (Err NoNumber) ps
left_large n None ps l i h b d m g = read_large n 0 0 false ps l i h b d m g
left_large n (Some w) ps l i h b d m g = read_large n w.0 w.1 true ps l i h b d m g

pub left_on : (n : ℕ) (word : Option (ℕ × ℕ)) (ps l : List ℕ) (i : ℕ) → i < length l → is_blank (get_or l i 0) ≡ false →
    digit_of (get_or l i 0) ≤ 15 → (unwrap_or word (n, 0)).0 < length ps → (unwrap_or word (n, 0)).1 ≤ 0x0FFFFFFF → Follows n word →
    left_of n word ps (drop i l)
    ≡ left_of ((unwrap_or word (n, 0)).0 + 1)
    (Some ((unwrap_or word (n, 0)).0, (unwrap_or word (n, 0)).1 * 16 + digit_of (get_or l i 0)))
    (set ps (unwrap_or word (n, 0)).0 ((unwrap_or word (n, 0)).1 * 16 + digit_of (get_or l i 0))) (drop (i + 1) l)
left_on n None ps l i h b d m g f = read_on n 0 0 false ps l i h b d m g
left_on n (Some w) ps l i h b d m g f = read_on n w.0 w.1 true ps l i h b d m g ∙ rw f

-- the place of a word is no larger than the number of bytes passed
pub place_passed : (n i : ℕ) (word : Option (ℕ × ℕ)) → Follows n word → n ≤ i → (unwrap_or word (n, 0)).0 ≤ i
place_passed n i None f h = h
place_passed n i (Some w) f h = omega (arith, f, h)

pub ruleset steps = (left_past, left_blank, left_bad, left_many, left_large, left_on, place_passed)
