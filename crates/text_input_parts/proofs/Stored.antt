-- Laws on stores that are made, or counted alone: each is one on `sets`, or holds since nothing is stored.
--     kept_length, kept_append, kept_none   the places after them
--     limit_same, limit_fits                how many places there are
use Prim.Native.Nat.{ℕ, ◌+◌, ◌<◌}
use mathlib.Core.Bool.{Bool, true, false}
use mathlib.Core.List.{List, [], ◌++◌}
use mathlib.Core.Path.{◌≡◌, refl}
use native.Mathlib.Omega.{arith}
use lib.ListN.{length}
use lib.Seq.{length-sets}
use Rattle.common.proofs.Lists.{sets_append}
use Rattle.text_input_parts.specs.Appended.{stored_if, limit_of}

pub kept_length : (stores : Bool) (queue : List ℕ) (k : ℕ) (out : List ℕ) → length (stored_if stores queue k out) ≡ length queue
kept_length true queue k out = length-sets queue k out
kept_length false queue k out = refl

pub kept_append : (stores : Bool) (xs ys queue : List ℕ) (k : ℕ) →
    stored_if stores queue k (xs ++ ys) ≡ stored_if stores (stored_if stores queue k xs) (k + length xs) ys
kept_append true xs ys queue k = sets_append xs ys queue k
kept_append false xs ys queue k = refl

pub kept_none : (stores : Bool) (queue : List ℕ) (k : ℕ) → stored_if stores queue k [] ≡ queue
kept_none true queue k = refl
kept_none false queue k = refl

pub limit_same : (stores : Bool) (queue places : List ℕ) → length queue ≡ length places → limit_of stores queue ≡ limit_of stores places
limit_same true queue places h = h
limit_same false queue places h = refl

-- it is a number of 64 bits
pub limit_fits : (stores : Bool) (queue : List ℕ) → length queue < 18446744073709551616 → limit_of stores queue < 18446744073709551616
limit_fits true queue h = h
limit_fits false queue h = omega arith
