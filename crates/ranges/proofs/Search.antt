-- The binary search for a number c among n rising ranges, said over the first and the last of the range at each place: in whatever form a
-- list keeps them. The ranges before `lo` end before c, and the one at `hi`, if there is one, does not; where the two meet is the first
-- range that does not end before c, and `found_at` says what that is worth.
--     Between           where a search stands
--     begun             it begins with all ranges
--     right, left       it goes on with one half: past the range at mid, which ends before c, or up to it
--     met, past_all     what is found where lo and hi have met: a range, or that each ends before c
use mathlib.Core.Path.{◌≡◌}
use mathlib.Core.Bool.{true}
use mathlib.Core.List.{List}
use Prim.Native.Nat.{ℕ, ◌+◌, ◌≤◌, ◌<◌}
use native.Mathlib.Omega.{arith}
use lib.ListN.{length, get_or}
use Rattle.ranges.specs.Ranges.{rises}
use Rattle.ranges.specs.Inner.{no_range, Found}
use Rattle.ranges.proofs.Laws.{same_length, both_rise}
use Rattle.ranges.proofs.Found.{found_at, found_none}

module _ (firsts lasts : List ℕ) (c n : ℕ) where
  pub record Between (lo hi : ℕ) : Type 0 where
    pub rising : rises 0 firsts lasts ≡ true
    pub all_firsts : length firsts ≡ n
    pub all_lasts : length lasts ≡ n
    pub order : lo ≤ hi
    pub within : hi ≤ n
    pub past : (i : ℕ) → i < lo → get_or lasts i 0 < c
    pub not_past : hi < n → c ≤ get_or lasts hi 0

  pub begun : rises 0 firsts lasts ≡ true → length firsts ≡ n → Between 0 n
  begun r e =
      record {
        rising = r;
        all_firsts = e;
        all_lasts = omega (arith, same_length 0 firsts lasts r);
        order = omega arith;
        within = omega arith;
        past = λ i h. omega arith;
        not_past = λ h. omega arith;
      }

  module _ {lo hi : ℕ} (b : Between lo hi) where
    -- the ranges before mid end before c as well, since the lasts rise
    pub right : (mid : ℕ) → mid < hi → get_or lasts mid 0 < c → Between (mid + 1) hi
    right mid h e =
        record {
          rising = b.rising;
          all_firsts = b.all_firsts;
          all_lasts = b.all_lasts;
          order = omega arith;
          within = b.within;
          past = λ i k. omega (arith, (both_rise 0 firsts lasts b.rising i mid (omega arith) (omega (arith, b.within, b.all_firsts))).1);
          not_past = b.not_past;
        }

    pub left : (mid : ℕ) → lo ≤ mid → mid < hi → c ≤ get_or lasts mid 0 → Between lo mid
    left mid l h e =
        record {
          rising = b.rising;
          all_firsts = b.all_firsts;
          all_lasts = b.all_lasts;
          order = l;
          within = omega (arith, b.within);
          past = b.past;
          not_past = λ k. e;
        }

    pub met : hi ≤ lo → lo < n → Found firsts lasts c (record { first = get_or firsts lo 0; last = get_or lasts lo 0 })
    met e h =
        let s : hi ≡ lo = omega (arith, b.order) in
        found_at firsts lasts b.rising c lo (omega (arith, b.all_firsts)) b.past ((rw s at b.not_past) h)

    pub past_all : n ≤ lo → Found firsts lasts c no_range
    past_all h = found_none firsts lasts b.rising c (λ i k. b.past i (omega (arith, b.all_lasts)))
