-- The loop of `go` on lists: the scanner's way over a chunk (`stretch`, proofs/Way.antt).
--     scan_way      what a run gives and where it leads, however it is stored
--     ran          after the last character
--     storing      storing, or not
--     left         .. there is room for what is left
--     moved        .. after `advance`
--     gone         .. after the last character
use mathlib.Core.Path.{◌≡◌, sym, ap, ◌∙◌}
use mathlib.Core.Bool.{Bool}
use mathlib.Core.List.{List, []}
use Prim.Native.Nat.{ℕ, ◌+◌, ◌≤◌}
use native.Mathlib.Omega.{arith}
use lib.ListN.{length, drop}
use Rattle.stretch.specs.Stretch.{part}
use Rattle.stretch.proofs.Parts.{cut}
use Rattle.stretch.proofs.Way.{Store, Way, Going, again, ended}
use Rattle.text_input_parts.specs.Appended.{stored_if, limit_of}
use Rattle.text_input_parts.proofs.Stored.{kept_length, kept_append, kept_none, limit_same}
use Rattle.text_input.specs.declared.Options.{Options}
use Rattle.text_input.specs.declared.TextInput.{TextInput}
use Rattle.text_input.specs.declared.Moved.{Moved}
use Rattle.text_input.specs.declared.Ran.{Ran}
use Rattle.text_input.specs.Scan.{run_of}
use Rattle.text_input.specs.Inner.{outs, ends, ran_by, Moves}
use Rattle.text_input.proofs.Chunks.{outs_append, ends_append}
use Rattle.text_input.proofs.Stretch.{ran_is}

abbrev pub scan_way : Store → List ℕ → Options → Way TextInput
scan_way store p o =
    record {
      store = store;
      gives = outs p o;
      leads = ends p o;
      whole = outs p o;
      whole_append = outs_append p o;
      leads_append = ends_append p o;
    }

-- the chunk cs from place `from` on
module _ (store : Store) (p : List ℕ) (o : Options) (cs : List ℕ) (from : ℕ) (queue₀ : List ℕ) (r₀ : TextInput)
    (queue : List ℕ) (r : TextInput) (k i : ℕ) (g : Going (scan_way store p o) cs from queue₀ r₀ queue r k i) where
  pub ran : length cs ≤ i →
      (◌≡◌ {A = Ran} (record { written = k; next = r }) (ran_by 0 (run_of p o r₀ (drop from cs))))
      × (store.put queue k [] ≡ store.put queue₀ 0 (outs p o r₀ (drop from cs)))
  ran past =
      let e = ended (scan_way store p o) cs from queue₀ r₀ queue r k i g past in
      (ran_is (omega (arith, e.0)) e.1.0, e.1.1)

-- ---- stored or not
module _ (stores : Bool) where
  abbrev pub storing : Store
  storing = record { put = stored_if stores; put_length = kept_length stores; put_append = kept_append stores }

  module _ (p : List ℕ) (o : Options) (chunk queue₀ : List ℕ) (r₀ : TextInput) (queue : List ℕ) (r : TextInput) (k i : ℕ)
      (g : Going (scan_way storing p o) chunk 0 queue₀ r₀ queue r k i) where
    pub left : length (outs p o r₀ chunk) ≤ limit_of stores queue₀ → k + length (outs p o r (drop i chunk)) ≤ limit_of stores queue
    left room = omega (arith, g.count, limit_same stores queue queue₀ g.same)

    pub moved : (m : Moved) (after : List ℕ) → Moves p o r chunk i stores queue k m after →
        Going (scan_way storing p o) chunk 0 queue₀ r₀ after m.next m.written m.at
    moved m after v =
        again (scan_way storing p o) chunk 0 queue₀ r₀ queue r k i g (part i m.at chunk) m.at
        (cut chunk i m.at (omega (arith, v.on))) v.low after m.next m.written
        (ap (λ (x : Ran). x.written) v.ran) (ap (λ (x : Ran). x.next) v.ran) v.places

    pub gone : length chunk ≤ i →
        (◌≡◌ {A = Ran} (record { written = k; next = r }) (ran_by 0 (run_of p o r₀ chunk))) × (queue ≡ stored_if stores queue₀ 0 (outs p o r₀ chunk))
    gone past =
        let e = ran storing p o chunk 0 queue₀ r₀ queue r k i g past in
        (e.0, sym (kept_none stores queue k) ∙ e.1)
