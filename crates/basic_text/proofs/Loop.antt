-- The loop of `run` on lists: the scanner's way over a chunk (text_input, proofs/Loop.antt), what it appends being stored as bytes.
--     as_bytes    numbers stored as their bytes
--     Pieces      at the head of the loop; pieces_begin: before the first piece
--     piece_fits, piece_taken    a piece: the room for what it appends, and after it
use mathlib.Core.Path.{◌≡◌, refl, sym, ap, ◌∙◌}
use mathlib.Core.List.{List, [], ◌∷◌, ◌++◌}
use mathlib.Core.Logic.{inl, inr}
use Prim.Native.Nat.{ℕ, ◌+◌, ◌*◌, ◌≤◌, min}
use Rattle.common.proofs.Kit.{by_lt}
use native.Mathlib.Omega.{arith}
use lib.ListN.{length, drop, length-append, length-drop}
use lib.Seq.{sets, length-sets, drop-drop, drop-append_seam}
use Rattle.stretch.proofs.Way.{Store, Going, begin, size, again}
use Rattle.text_input.specs.declared.Options.{Options}
use Rattle.text_input.specs.declared.TextInput.{TextInput}
use Rattle.text_input.specs.declared.Ran.{Ran}
use Rattle.text_input.specs.Scan.{run_of}
use Rattle.text_input.specs.Inner.{outs, ran_by}
use Rattle.text_input.proofs.Loop.{scan_way}
use Rattle.basic_text.specs.Exports.{numbers_of, bytes_of}
use Rattle.basic_text.proofs.Laws.{numbers_append, numbers_drop}
use Rattle.text_input.proofs.Room.{room}
use Rattle.basic_text.proofs.Stores.{sets_bytes}

abbrev pub as_bytes : Store
as_bytes =
    record {
      put = λ places k xs. sets places (4 * k) (bytes_of xs);
      put_length = λ places k xs. length-sets places (4 * k) (bytes_of xs);
      put_append = sets_bytes;
    }

-- ---- the loop
-- at its head: what is left of the chunk's characters is that of the pieces left
pub record Pieces (p : List ℕ) (o : Options) (chunk : List ℕ) (from : ℕ) (queue₀ : List ℕ) (r₀ : TextInput) (queue : List ℕ) (ran : Ran) (rest : List ℕ) : Type 0 where
  pub i : ℕ
  pub way : Going (scan_way as_bytes p o) (numbers_of chunk) from queue₀ r₀ queue ran.next ran.written i
  pub left : drop i (numbers_of chunk) ≡ numbers_of rest

module _ (p : List ℕ) (o : Options) (chunk : List ℕ) (from : ℕ) (queue₀ : List ℕ) (r₀ : TextInput) where
  pub pieces_begin : from ≤ length (numbers_of chunk) → Pieces p o chunk from queue₀ r₀ queue₀ (record { written = 0; next = r₀ }) (drop (4 * from) chunk)
  pieces_begin h = record { i = from; way = begin _ _ _ _ _ h; left = sym (numbers_drop from chunk) }

  module _ (queue : List ℕ) (before : Ran) (rest : List ℕ) (g : Pieces p o chunk from queue₀ r₀ queue before rest) where
    abbrev cs : List ℕ
    cs = numbers_of chunk

    -- a piece, and the rest behind it
    module _ (bytes behind : List ℕ) (e : rest ≡ bytes ++ behind) (n : length bytes ≡ min 1024 (length rest)) where
      abbrev ns : List ℕ
      ns = numbers_of bytes

      cut : numbers_of rest ≡ ns ++ numbers_of behind
      cut =
          rw e (numbers_append bytes behind
          (by_lt (length rest) 1024
          (λ h. inr (none behind (omega (arith, ap length e, length-append bytes behind)))) (λ h. inl (omega arith))))
        where
          none : (l : List ℕ) → length l ≡ 0 → l ≡ []
          none [] h = refl
          none (x ∷ l) h = absurd (omega arith)

      later : drop (g.i + length ns) cs ≡ numbers_of behind
      later = rw (← drop-drop (length ns) g.i cs, g.left, cut) (drop-append_seam ns (numbers_of behind))

      split : drop g.i cs ≡ ns ++ drop (g.i + length ns) cs
      split = rw later (g.left ∙ cut)

      low : g.i + length ns ≤ length cs
      low = omega (arith, g.way.low, ap length split, length-append ns (drop (g.i + length ns) cs), length-drop g.i cs, length-drop (g.i + length ns) cs)

      pub piece_fits : 4 * length (outs p o r₀ (drop from cs)) ≤ length queue₀ → 4 * (before.written + length (outs p o before.next ns)) ≤ length queue
      piece_fits room =
          omega (
            arith,
            size (scan_way as_bytes p o) cs from queue₀ r₀ queue before.next before.written g.i g.way ns (g.i + length ns) split,
            g.way.same,
            g.way.count,
          )

      pub piece_taken : (ran : Ran) (after : List ℕ) → ran ≡ ran_by before.written (run_of p o before.next ns) →
          after ≡ sets queue (4 * before.written) (bytes_of (outs p o before.next ns)) → Pieces p o chunk from queue₀ r₀ after ran behind
      piece_taken ran after f h =
          record {
            i = g.i + length ns;
            way =
                again (scan_way as_bytes p o) cs from queue₀ r₀ queue before.next before.written g.i g.way ns (g.i + length ns) split low after ran.next
                ran.written (ap (λ (x : Ran). x.written) f) (ap (λ (x : Ran). x.next) f) h;
            left = later;
          }
