-- `put_chars` meets its contract: a stretch is stored at once, and then some characters one by one.
use Rattle.std.proofs.Common.{◌≡◌, ℕ, ◌+◌, ◌-◌, ◌<◌, List, length, get_or, take, drop, length-take, length-drop, get_or-take, get_or-drop, ◌∙◌, add-zero, arith}
use Rattle.utf16.proofs.Putting.{here, then, asks, again, stretched, ended}
use Rattle.utf16.proofs.put_chars.Goals as goal

part_at : (cs : List ℕ) (i j x : ℕ) → x < length (take (j - i) (drop i cs)) → get_or (take (j - i) (drop i cs)) x 0 ≡ get_or cs (i + x) 0
part_at cs i j x h = get_or-take (j - i) (drop i cs) x 0 (omega (arith, length-take (j - i) (drop i cs))) ∙ get_or-drop i cs x 0

pub loop-c-init : goal.loop-c-init
loop-c-init c =
    rw (add-zero c.short_end-end.result, c.put_short.ensures) (here _ _ _ _ _ _ _ _ (stretched _ _ _ _ _ _ _ _ c.loop-i.invariant _ c.short_end-end.ensures))

pub put_char-at-requires : goal.put_char-at-requires
put_char-at-requires c =
    rw (part_at c.args.chars.now c.short_end-end.result c.min-stop.result c.loop-c.c-index (omega arith))
    (asks _ _ _ _ _ _ _ _ c.loop-c.invariant (omega arith))

pub loop-c-preserved : goal.loop-c-preserved
loop-c-preserved c =
    let end = c.short_end-end.result in
    let j = c.loop-c.c-index in
    let e : end + (j + 1) ≡ end + j + 1 = omega arith in
    let p = c.put_char-at.ensures in
    rw (p.0, p.1, part_at c.args.chars.now end c.min-stop.result j (omega arith), e) (again _ _ _ _ _ _ _ _ c.loop-c.invariant (omega arith))

pub loop-i-preserved : goal.loop-i-preserved
loop-i-preserved c =
    let end = c.short_end-end.result in
    let all : end + c.loop-c.c-index ≡ c.min-stop.result = omega (arith, length-take {A = ℕ}, length-drop {A = ℕ}) in
    rw all at
    (then _ _ _ _ _ _ _ _ (stretched _ _ _ _ _ _ _ _ c.loop-i.invariant _ c.short_end-end.ensures) _ _ _ (rw c.put_short.ensures at c.loop-c.invariant))

pub returns : goal.returns
returns c = ended _ _ _ _ _ _ c.loop-i.invariant c.loop-i-test.false
