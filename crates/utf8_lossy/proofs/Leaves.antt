-- What a call of `decode` leaves: `DecodeLeaves` of every call, by whether it is refused.
--     decode_leaves    it refuses by 8 where the places are too few, and then changes nothing; else it leaves what is past the written places
use Prim.Native.Nat.{ℕ, ◌≤◌, ◌<◌}
use mathlib.Core.List.{List}
use mathlib.Core.Path.{refl}
use native.Mathlib.Omega.{arith}
use borrow.Author.Tests.{lt-ltb, le-ltb}
use lib.ListN.{length}
use Rattle.common.proofs.Kit.{by_lt}
use Rattle.common.proofs.Lists.{drop_sets}
use Rattle.utf8_lossy.specs.Machine.{outs_of}
use Rattle.utf8_lossy.specs.Decode.{places_for_bytes, decode_of, DecodeLeaves}
use Rattle.utf8_lossy.proofs.Calls.{fits_places, few_places, more_places}

module _ (p bs out : List ℕ) where
  refused : length out < places_for_bytes (length bs) → DecodeLeaves p bs out (decode_of p bs out)
  unfolding decode_of
  refused h =
      simp (lt-ltb (length out) (places_for_bytes (length bs)) h)
      (record {
        refuses = λ m l. refl;
        takes = λ l. absurd (omega (arith, few_places (length bs) (length out) h));
        empty = λ e. absurd (omega (arith, few_places (length bs) (length out) h));
        nothing = λ z. (refl, refl);
        fits = omega arith;
        past = refl;
      })

  taken : places_for_bytes (length bs) ≤ length out → DecodeLeaves p bs out (decode_of p bs out)
  unfolding decode_of
  taken h =
      simp (le-ltb (length out) (places_for_bytes (length bs)) h)
      (record {
        refuses = λ m l. absurd (omega (arith, more_places (length bs) (length out) h m));
        takes = λ l. refl;
        empty = λ e. refl;
        nothing = λ z. absurd (omega arith);
        fits = fits_places p bs out h;
        past = drop_sets (length (outs_of p bs)) out 0 (outs_of p bs) (omega arith);
      })

  pub decode_leaves : DecodeLeaves p bs out (decode_of p bs out)
  decode_leaves = by_lt (length out) (places_for_bytes (length bs)) (λ h. refused h) (λ h. taken h)
