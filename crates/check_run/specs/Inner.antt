-- What an inner function promises. No entry's contract cites it.
use Rattle.std.specs.Prelude.{ℕ, ◌≤◌, ◌<◌, true, false, List, ◌≡◌, length, get_or}
use Rattle.check_run.specs.Rules.{allowed}

-- n is the place of the first character that is not allowed, and the length where all are
pub record AllowedUpTo (cs : List ℕ) (n : ℕ) : Type 0 where
  pub low : n ≤ length cs
  pub each : (x : ℕ) → x < n → allowed (get_or cs x 0) ≡ true
  pub then : n < length cs → allowed (get_or cs n 0) ≡ false
