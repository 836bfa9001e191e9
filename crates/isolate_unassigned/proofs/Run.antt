-- The loop of `isolate_run` on lists: isolation's way over a run (`stretch`, proofs/Way.antt), by the Rust's steps. By an accepted page
-- these give the run isolated.
--     isolate_way              what characters give out and where they lead
--     left                    there is room for what is left
--     moved                   after `advance`
--     fits_last               there is room for the 34F that is owed
--     stored, stored_owed     after the last character the whole is stored, once the 34F that is owed is
use Prim.Native.Nat.{ℕ, ◌+◌, ◌≤◌, ◌<◌}
use mathlib.Core.Path.{◌≡◌, ap}
use mathlib.Core.Bool.{true, false}
use mathlib.Core.List.{List}
use native.Mathlib.Omega.{arith}
use lib.ListN.{length, drop, set}
use lib.Seq.{sets}
use Rattle.page.specs.Page.{accepted}
use Rattle.stretch.specs.Stretch.{part}
use Rattle.stretch.proofs.Parts.{cut}
use Rattle.stretch.proofs.Way.{in_places, Way, Going, again, ended}
use Rattle.isolate_unassigned.specs.declared.IsolateUnassigned.{IsolateUnassigned}
use Rattle.isolate_unassigned.specs.declared.Moved.{Moved}
use Rattle.isolate_unassigned.specs.Meaning.{isolated}
use Rattle.isolate_unassigned.specs.Inner.{fresh, isolated_from, gives, leads, Moves}
use Rattle.isolate_unassigned.proofs.Means.{isolate_means}
use Rattle.isolate_unassigned.proofs.Stretch.{isolated_append, leads_append}

abbrev pub isolate_way : List ℕ → Way IsolateUnassigned
isolate_way p =
    record {
      store = in_places;
      gives = gives p;
      leads = leads p;
      whole = isolated_from p;
      whole_append = λ r t u. isolated_append p t u r;
      leads_append = λ r t u. leads_append p t u r;
    }

module _ (p cs out₀ out : List ℕ) (r : IsolateUnassigned) (k i : ℕ) (g : Going (isolate_way p) cs 0 out₀ fresh out r k i) where
  pub left : accepted p ≡ true → length (isolated p cs) ≤ length out₀ → k + length (isolated_from p r (drop i cs)) ≤ length out
  left a room = let e = ap length (isolate_means p cs a) in omega (arith, e, g.count, g.same)

  pub moved : (m : Moved) (after : List ℕ) → Moves p r cs i out k m after →
      Going (isolate_way p) cs 0 out₀ fresh after m.next m.written m.at
  moved m after v =
      again (isolate_way p) cs 0 out₀ fresh out r k i g (part i m.at cs) m.at (cut cs i m.at (omega (arith, v.on)))
      v.under after m.next m.written v.written v.next v.places

  module _ (a : accepted p ≡ true) (past : length cs ≤ i) where
    abbrev pub Stored : List ℕ → ℕ → Type 0
    Stored o n = (n ≡ length (isolated p cs)) × (o ≡ sets out₀ 0 (isolated p cs))

    pub stored : r.need_cgj ≡ false → Stored out k
    stored e =
        let w = ended (isolate_way p) cs 0 out₀ fresh out r k i g past in
        rw (← isolate_means p cs a) (omega (arith, simp e at w.0), simp e at w.1.1)

    pub fits_last : length (isolated p cs) ≤ length out₀ → r.need_cgj ≡ true → k < length out
    fits_last room e =
        let w = ended (isolate_way p) cs 0 out₀ fresh out r k i g past in
        omega (arith, ap length (isolate_means p cs a), g.same, simp e at w.0)

    pub stored_owed : r.need_cgj ≡ true → Stored (set out k 0x34F) (k + 1)
    stored_owed e =
        let w = ended (isolate_way p) cs 0 out₀ fresh out r k i g past in
        rw (← isolate_means p cs a) (omega (arith, simp e at w.0), simp e at w.1.1)
