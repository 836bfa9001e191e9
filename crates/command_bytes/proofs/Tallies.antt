-- What the counts over bytes come to in std's words, by which the functions are proved.
--     tally_is          how many a test says yes of, as std counts them
--     since_append      one byte more behind the others
--     since_reverse     bytes since the last 0A: from the last back, those before the first that is 0A
use Rattle.std.proofs.Common.{◌≡◌, ℕ, ◌+◌, Bool, true, false, cond, not, List, refl, [], ◌∷◌, ◌++◌, reverse, sym, ap, ◌∙◌, arith}
use Rattle.std.specs.List.{count_by, prefix_len}
use Rattle.std.proofs.lemmas.List.{reverse-append}
use Rattle.std.proofs.lemmas.List.Recursion.{is_count_by}
use Rattle.command_bytes.specs.Counts.{tally, since_newline, is_newline}

one_more : (is : Bool) (n : ℕ) → cond is 1 0 + n ≡ cond is (1 + n) n
one_more true n = refl
one_more false n = omega arith

pub tally_is : (is : ℕ → Bool) (xs : List ℕ) → count_by is xs ≡ tally is xs
unfolding tally
tally_is is xs = sym (is_count_by (tally is) is refl (λ b bs. one_more (is b) (tally is bs)) xs)

since_append : (n b : ℕ) (xs : List ℕ) → since_newline n (xs ++ b ∷ []) ≡ cond (is_newline b) 0 (since_newline n xs + 1)
unfolding since_newline
since_append n b [] = refl
since_append n b (x ∷ xs) = since_append (cond (is_newline x) 0 (n + 1)) b xs

since_by : (is : Bool) (m n : ℕ) → m ≡ n → cond is 0 (m + 1) ≡ cond (not is) (1 + n) 0
since_by true m n e = refl
since_by false m n e = omega (arith, e)

pub since_reverse : (xs : List ℕ) → since_newline 0 (reverse xs) ≡ prefix_len (λ b. not (is_newline b)) xs
unfolding since_newline
since_reverse [] = refl
since_reverse (b ∷ xs) =
    ap (since_newline 0) (reverse-append (b ∷ []) xs) ∙ since_append 0 b (reverse xs) ∙ since_by (is_newline b) _ _ (since_reverse xs)
