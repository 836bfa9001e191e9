-- What the machine puts out is `Lossy`, for every cut into chunks.
-- Idea: no encoding is the start of another (`same_first`, by unicode's step). So where the pending bytes p and a byte b begin no
-- encoding, p is the maximal subpart; `table` (proofs/Table.antt) says of each state what p and b are.
--     decoded          a state p and the bytes behind it: the characters, and how many bytes are replaced
--     state_kept       what is pending is part of a character, or nothing
--     only             `Lossy` gives one list of characters, and one number, for each list of bytes
--     lossy_chars      the characters of a reading are characters
--     lossy_le         no more bytes are replaced than there are
--     outs_append, rest_append, replaced_append    a chunk in two parts
--     accepted         what an accepted call of `decode` wrote, counted and left
--     calls_are        the same of calls one after the other: as if the chunks were one
--     calls_decoded    so the calls and the finish read the joined chunks
--     cut_free         two ways to cut the same bytes give the same characters and the same number
--     text             the encoding of characters, where nothing is pending, is the characters
--     valid            what is valid UTF-8 is read as `chars_of` reads it, and nothing is replaced
use Prim.Native.Nat.{ℕ, ◌+◌, ◌≤◌}
use mathlib.Core.Path.{◌≡◌, refl, sym, ap, subst, ◌∙◌}
use mathlib.Core.Bool.{true}
use mathlib.Core.Logic.{◌⊎◌, inl, inr, ⊎_elim}
use mathlib.Core.List.{List, [], ◌∷◌, ◌++◌, append_assoc, append-nil}
use native.Mathlib.Omega.{arith}
use borrow.Author.Tests.{eq-eqb, ltb-false}
use lib.Dec.{ltb}
use lib.ListN.{length, length-append}
use Rattle.common.specs.Answers.{refusal_in, wrote_in}
use Rattle.common.proofs.Kit.{by, both, both_true}
use Rattle.common.proofs.Lists.{take_first}
use Rattle.scalars.specs.Chars.{is_char, are_chars}
use Rattle.scalars.specs.Utf8.{encode_of, encode_all, Encoding, begins, Stands, chars_of}
use Rattle.scalars.proofs.Rows.{char_high, length_encode}
use Rattle.scalars.proofs.Steps.{stands_same}
use Rattle.scalars.proofs.Texts.{decode_encode}
use Rattle.utf8_lossy.specs.declared.Kind.{Kind}
use Rattle.utf8_lossy.specs.declared.Kind.TheVariants.{Whole, More, Bad}
use Rattle.utf8_lossy.specs.declared.Pending.{Pending}
use Rattle.utf8_lossy.specs.Lossy.{Unconvertible, Initial, Piece, Lossy, done, char, bad}
use Rattle.utf8_lossy.specs.Machine.{next_of, Turn, fresh_of, turn_of, step_of, outs_of, rest_of, replaced_of, finish_of}
use Rattle.utf8_lossy.specs.Decode.{pending_of, Outcome, places_for_bytes, decode_of, replaced_in, joined, Calls, none, call}
use Rattle.utf8_lossy.proofs.Calls.{fits_places}
use Rattle.utf8_lossy.proofs.Table.{State, Right, Dead, table}

-- ---- lists
begins_front : (e r : List ℕ) → begins e (e ++ r) ≡ true
begins_front [] r = refl
begins_front (x ∷ e) r = both (eq-eqb x x refl) (begins_front e r)

-- two starts of one list: the first is no longer, or goes on with b
compare : (p q s r : List ℕ) (b : ℕ) → p ++ (b ∷ s) ≡ q ++ r → ((t : List ℕ) × (p ≡ q ++ t)) ⊎ ((t : List ℕ) × (q ≡ p ++ (b ∷ t)))
compare p [] s r b e = inl (p, refl)
compare [] (x ∷ q) s r b e = inr (q, cc)
compare (a ∷ p) (x ∷ q) s r b e =
    let f : p ++ (b ∷ s) ≡ q ++ r = cc in
    ⊎_elim (λ h. inl (h.0, let g = h.1 in cc)) (λ h. inr (h.0, let g = h.1 in cc)) (compare p q s r b f)

-- two starts of one list that are as long
same_start : (p q s r : List ℕ) → p ++ s ≡ q ++ r → length p ≡ length q → (p ≡ q) × (s ≡ r)
same_start [] [] s r e h = (refl, e)
same_start [] (x ∷ q) s r e h = absurd (omega arith)
same_start (a ∷ p) [] s r e h = absurd (omega arith)
same_start (a ∷ p) (x ∷ q) s r e h =
    let f : p ++ s ≡ q ++ r = cc in
    let g = same_start p q s r f (omega arith) in
    let g₀ = g.0 in
    (cc, g.1)

-- ---- encodings
stands : (l e r : List ℕ) (k : Encoding e) → l ≡ e ++ r → Stands l 0 k.0
stands l e r k h = record { char = k.1; bytes = rw (h, ← k.2) (begins_front e r) }

same_char : (l e f r s : List ℕ) (k : Encoding e) (m : Encoding f) → l ≡ e ++ r → l ≡ f ++ s → k.0 ≡ m.0
same_char l e f r s k m h i = stands_same l 0 k.0 m.0 (stands l e r k h) (stands l f s m i)

-- no encoding is the start of another
same_first : (l e f r s : List ℕ) → Encoding e → Encoding f → l ≡ e ++ r → l ≡ f ++ s → e ≡ f
same_first l e f r s k m h i =
    let c = same_char l e f r s k m h i in
    k.2 ∙ ap encode_of c ∙ sym m.2

filled : (e : List ℕ) → Encoding e → 1 ≤ length e
filled e k = rw k.2 (length_encode k.0).0

-- an encoding is no start of an initial part
inner : (p e t : List ℕ) → Initial p → Encoding e → p ≡ e ++ t → ⊥
inner p e t i k h =
    let w = i.1.0 in
    let ws = i.1.1 in
    let g : p ++ (w ∷ ws) ≡ e ++ (t ++ (w ∷ ws)) = rw h (append_assoc e t (w ∷ ws)) in
    let f = same_first _ e _ _ [] k i.1.2 g (sym (append-nil _)) in
    omega (arith, simp length-append at (ap length f), simp length-append at (ap length h))

-- ---- where the pending bytes p and the byte b begin no encoding
module _ (p : List ℕ) (b : ℕ) (s : List ℕ) (dead : Dead (p ++ (b ∷ []))) where
  gone : (e t u : List ℕ) → e ≡ p ++ (b ∷ t) → Encoding (e ++ u) → ⊥
  gone e t u h k = dead (t ++ u) (rw append_assoc (rw (h, append_assoc) at k))

  nothing : State p → Unconvertible (p ++ (b ∷ s))
  nothing z e r k h =
      ⊎_elim (λ g. ⊎_elim
      (λ n. let f = filled e k in omega (arith, simp length-append at (ap length (sym n ∙ g.1))))
      (λ i. inner p e g.0 i k g.1) z)
      (λ g. gone e g.0 [] g.1 (rw append-nil k)) (compare p e s r b h)

  short : (q r : List ℕ) → Initial q → p ++ (b ∷ s) ≡ q ++ r → length q ≤ length p
  short q r i h =
      ⊎_elim (λ g. omega (arith, simp length-append at (ap length g.1)))
      (λ g. absurd (gone q g.0 _ g.1 i.1.2)) (compare p q s r b h)

  longest : (m : ℕ) → 1 ≤ m → length p ≤ m → (q r : List ℕ) → Piece q → p ++ (b ∷ s) ≡ q ++ r → length q ≤ m
  longest m o n q r (inl i) h = omega (arith, short q r i h)
  longest m o n q r (inr e) h = omega arith

-- ---- one turn
-- from a turn on: all that is put out, and how many bytes are replaced in it
abbrev after : Turn → List ℕ → List ℕ
after t bs = t.out ++ outs_of t.pending bs ++ finish_of (rest_of t.pending bs)

abbrev counted : Turn → List ℕ → ℕ
counted t bs = t.replaced + replaced_of t.pending bs + length (rest_of t.pending bs)

recount : {l cs : List ℕ} {m n : ℕ} → Lossy l cs m → m ≡ n → Lossy l cs n
recount {l} {cs} r e = subst (λ (k : ℕ). Lossy l cs k) e r

module _ (b : ℕ) (bs : List ℕ)
    (go : (p : List ℕ) → State p → Lossy (p ++ bs) (outs_of p bs ++ finish_of (rest_of p bs)) (replaced_of p bs + length (rest_of p bs))) where
  fresh : (k : Kind) → Right (b ∷ []) k → Lossy (b ∷ bs) (after (fresh_of k b) bs) (counted (fresh_of k b) bs)
  fresh (Whole c) r = recount (char {l = b ∷ bs} {bs = bs} r.0 (rw (← r.1) refl) (go [] (inl refl))) (omega arith)
  fresh More r = recount (go (b ∷ []) (inr r)) (omega arith)
  fresh Bad r =
      recount (bad {p = b ∷ []}
      (record { nothing = nothing [] b bs r (inl refl); piece = inr refl; longest = longest [] b bs r 1 (omega arith) (omega arith) }) refl
      (go [] (inl refl))) (omega arith)

  on : (p : List ℕ) (k : Kind) → State p → Right (p ++ (b ∷ [])) k
      → Lossy (p ++ (b ∷ bs)) (after (turn_of k p b) bs) (counted (turn_of k p b) bs)
  on p (Whole c) z r =
      recount (char {l = p ++ (b ∷ bs)} {bs = bs} r.0 (rw (← r.1) (sym (append_assoc p (b ∷ []) bs))) (go [] (inl refl))) (omega arith)
  on p More z r = recount (rw append_assoc at (go (p ++ (b ∷ [])) (inr r))) (omega arith)
  on [] Bad z r = fresh Bad r
  on (a ∷ p) Bad (inl e) r = absurd (omega (arith, ap length e))
  on (a ∷ p) Bad (inr i) r =
      recount (bad {p = a ∷ p}
      (record { nothing = nothing (a ∷ p) b bs r (inr i); piece = inl i; longest = longest (a ∷ p) b bs r _ (omega arith) (omega arith) }) refl
      (fresh (next_of [] b) (table [] b (inl refl)))) (omega arith)

ended : (p : List ℕ) → State p → Lossy p (finish_of p) (length p)
ended [] z = done
ended (a ∷ p) (inl e) = absurd (omega (arith, ap length e))
ended (a ∷ p) (inr i) =
    recount (bad {p = a ∷ p} (record {
      nothing = λ e r k h. inner (a ∷ p) e r i k h;
      piece = inl i;
      longest = λ q r _ h. omega (arith, simp length-append at (ap length h));
    }) (sym (append-nil (a ∷ p))) done) (omega arith)

pub decoded : (bs p : List ℕ) → State p
    → Lossy (p ++ bs) (outs_of p bs ++ finish_of (rest_of p bs)) (replaced_of p bs + length (rest_of p bs))
decoded [] p z = recount {m = length p} (rw append-nil (ended p z)) (omega arith)
decoded (b ∷ bs) p z = on b bs (λ q y. decoded bs q y) p (next_of p b) z (table p b z)

-- what is pending behind bytes is part of a character, or nothing
state_fresh : (k : Kind) (b : ℕ) → Right (b ∷ []) k → State (fresh_of k b).pending
state_fresh (Whole c) b r = inl refl
state_fresh More b r = inr r
state_fresh Bad b r = inl refl

state_turn : (k : Kind) (p : List ℕ) (b : ℕ) → Right (p ++ (b ∷ [])) k → State (turn_of k p b).pending
state_turn (Whole c) p b r = inl refl
state_turn More p b r = inr r
state_turn Bad [] b r = inl refl
state_turn Bad (a ∷ p) b r = state_fresh (next_of [] b) b (table [] b (inl refl))

pub state_kept : (bs p : List ℕ) → State p → State (rest_of p bs)
state_kept [] p z = z
state_kept (b ∷ bs) p z = state_kept bs (step_of p b).pending (state_turn (next_of p b) p b (table p b z))

-- ---- one reading
pieced : (p : List ℕ) → Piece p → 1 ≤ length p
pieced p (inl i) = i.0
pieced p (inr e) = omega arith

abbrev encoded : (c : ℕ) → is_char c ≡ true → Encoding (encode_of c)
encoded c s = (c, s, refl)

pub only : {l cs ds : List ℕ} {m n : ℕ} → Lossy l cs m → Lossy l ds n → (cs ≡ ds) × (m ≡ n)
only done done = (refl, refl)
only done (char {c = c} s e m) = absurd (omega (arith, filled _ (encoded c s), simp length-append at (ap length e)))
only done (bad {p = p} x e m) = absurd (omega (arith, pieced p x.piece, simp length-append at (ap length e)))
only (char {c = c} s e m) done = absurd (omega (arith, filled _ (encoded c s), simp length-append at (ap length e)))
only {l} (char {bs = bs} {c = c} s e m) (char {bs = bs'} {c = d} t f n) =
    let g : c ≡ d = same_char l (encode_of c) (encode_of d) bs bs' (encoded c s) (encoded d t) e f in
    let h : bs ≡ bs' = (same_start (encode_of c) (encode_of d) bs bs' (sym e ∙ f) (ap (λ (x : ℕ). length (encode_of x)) g)).1 in
    let k = only m (rw (← h) at n) in
    let k₀ = k.0 in
    (cc, k.1)
only (char {bs = bs} {c = c} s e m) (bad x f n) = absurd (x.nothing (encode_of c) bs (encoded c s) e)
only (bad {p = p} x e m) done = absurd (omega (arith, pieced p x.piece, simp length-append at (ap length e)))
only (bad x e m) (char {bs = bs} {c = c} s f n) = absurd (x.nothing (encode_of c) bs (encoded c s) f)
only (bad {p = p} {bs = bs} x e m) (bad {p = q} {bs = bs'} y f n) =
    let j = x.longest q bs' y.piece f in
    let i = y.longest p bs x.piece e in
    let h : bs ≡ bs' = (same_start p q bs bs' (sym e ∙ f) (omega arith)).1 in
    let k = only m (rw (← h) at n) in
    let k₀ = k.0 in
    (cc, omega (arith, k.1))

pub lossy_chars : {l cs : List ℕ} {n : ℕ} → Lossy l cs n → are_chars cs ≡ true
lossy_chars done = refl
lossy_chars (char s e m) = both s (lossy_chars m)
lossy_chars (bad x e m) = both (char_high 0xFFFD (omega arith) (omega arith)) (lossy_chars m)

pub lossy_le : {l cs : List ℕ} {n : ℕ} → Lossy l cs n → n ≤ length l
lossy_le done = omega arith
lossy_le (char s e m) = omega (arith, lossy_le m, simp length-append at (ap length e))
lossy_le (bad x e m) = omega (arith, lossy_le m, simp length-append at (ap length e))

-- ---- a chunk in two parts
pub outs_append : (p bs cs : List ℕ) → outs_of p (bs ++ cs) ≡ outs_of p bs ++ outs_of (rest_of p bs) cs
outs_append p [] cs = refl
outs_append p (b ∷ bs) cs = rw (outs_append (step_of p b).pending bs cs) (sym (append_assoc (step_of p b).out _ _))

pub rest_append : (p bs cs : List ℕ) → rest_of p (bs ++ cs) ≡ rest_of (rest_of p bs) cs
rest_append p [] cs = refl
rest_append p (b ∷ bs) cs = rest_append (step_of p b).pending bs cs

pub replaced_append : (p bs cs : List ℕ) → replaced_of p (bs ++ cs) ≡ replaced_of p bs + replaced_of (rest_of p bs) cs
replaced_append p [] cs = omega arith
replaced_append p (b ∷ bs) cs = omega (arith, replaced_append (step_of p b).pending bs cs)

-- ---- calls
abbrev pub Accepted : List ℕ → List ℕ → Outcome → Type 0
Accepted p bs x =
    (wrote_in x.numbers x.places ≡ outs_of p bs) × (replaced_in x.numbers ≡ replaced_of p bs) × (x.next ≡ rest_of p bs)

pub accepted : (p bs out : List ℕ) → refusal_in (decode_of p bs out).numbers ≡ 0 → Accepted p bs (decode_of p bs out)
unfolding decode_of
accepted p bs out =
    by (ltb (length out) (places_for_bytes (length bs))) (λ h. simp h (λ e. absurd (omega arith)))
    (λ h. simp h (λ e. (take_first (outs_of p bs) out _ refl (fits_places p bs out (ltb-false (length out) (places_for_bytes (length bs)) h)), refl, refl)))

-- calls from s on, as if the chunks were one
pub calls_are : {s u : Pending} {chunks : List (List ℕ)} {cs : List ℕ} {n : ℕ} → Calls s chunks cs n u
    → (cs ≡ outs_of (pending_of s) (joined chunks)) × (n ≡ replaced_of (pending_of s) (joined chunks))
    × (pending_of u ≡ rest_of (pending_of s) (joined chunks))
calls_are none = (refl, refl, refl)
calls_are (call s bs out places r {chunks = chunks} e f m) =
    let g = calls_are m in
    let b = accepted (pending_of s) bs out (ap (λ (x : Outcome). refusal_in x.numbers) (sym e) ∙ f) in
    let a = subst (λ (x : Outcome). Accepted (pending_of s) bs x) (sym e) b in (
      rw (a.0, g.0, a.2) (sym (outs_append (pending_of s) bs (joined chunks))),
      rw (a.1, g.1, a.2) (sym (replaced_append (pending_of s) bs (joined chunks))),
      rw (g.2, a.2) (sym (rest_append (pending_of s) bs (joined chunks))),
    )

-- from a record that holds nothing: the calls and the finish read the joined chunks
pub calls_decoded : {s u : Pending} {chunks : List (List ℕ)} {cs : List ℕ} {n : ℕ} → pending_of s ≡ [] → Calls s chunks cs n u
    → Lossy (joined chunks) (cs ++ finish_of (pending_of u)) (n + length (pending_of u))
calls_decoded {chunks = chunks} e m =
    let g = calls_are m in
    rw (g.0, g.1, g.2, e) (decoded (joined chunks) [] (inl refl))

pub cut_free : {s t u v : Pending} {xs ys : List (List ℕ)} {cs ds : List ℕ} {m n : ℕ}
    → pending_of s ≡ [] → pending_of t ≡ [] → joined xs ≡ joined ys → Calls s xs cs m u → Calls t ys ds n v
    → (cs ++ finish_of (pending_of u) ≡ ds ++ finish_of (pending_of v)) × (m + length (pending_of u) ≡ n + length (pending_of v))
cut_free e f h k l = only (calls_decoded e k) (rw h (calls_decoded f l))

-- ---- valid UTF-8
valid_lossy : (cs : List ℕ) → are_chars cs ≡ true → Lossy (encode_all cs) cs 0
valid_lossy [] s = done
valid_lossy (c ∷ cs) s =
    let p = both_true (is_char c) (are_chars cs) s in
    char p.0 refl (valid_lossy cs p.1)

none_left : (p : List ℕ) → length p ≡ 0 → p ≡ []
none_left [] e = refl
none_left (a ∷ p) e = absurd (omega arith)

-- the encoding of characters, where nothing is pending: they come out, nothing is left pending, and nothing is replaced
pub text : (cs : List ℕ) → are_chars cs ≡ true
    → (outs_of [] (encode_all cs) ≡ cs) × (rest_of [] (encode_all cs) ≡ []) × (replaced_of [] (encode_all cs) ≡ 0)
text cs s =
    let bs = encode_all cs in
    let o = only (decoded bs [] (inl refl)) (valid_lossy cs s) in
    let r : rest_of [] bs ≡ [] = none_left (rest_of [] bs) (omega (arith, o.1)) in
    (sym (append-nil (outs_of [] bs)) ∙ rw r at o.0, r, omega (arith, o.1))

pub valid : {s u : Pending} {chunks : List (List ℕ)} {ds : List ℕ} {n : ℕ} (cs : List ℕ) → are_chars cs ≡ true
    → joined chunks ≡ encode_all cs → pending_of s ≡ [] → Calls s chunks ds n u
    → (ds ≡ chars_of (joined chunks)) × (pending_of u ≡ []) × (n ≡ 0)
valid cs s e z m =
    let g = calls_are m in
    let t = text cs s in
    (rw (g.0, z, e, t.0) (sym (decode_encode cs s)), rw (g.2, z, e) t.1, rw (g.1, z, e) t.2)
