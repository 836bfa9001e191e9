-- The entry: what the check of a run answers, and what the answer says. Nothing is lent to be written. Document 02, A.1.
use Rattle.std.specs.Prelude.{ℕ, suc, Bool, true, false, not, cond, ◌&&◌, List, [], ◌∷◌, ◌++◌, ◌≡◌, eqb, Option, Result, Some, None, Ok, Err}
use Rattle.scalars.specs.Chars.{are_chars}
use Rattle.page.specs.Page.{accepted}
use Rattle.text_utils.specs.Classes.{basic_text_start, basic_text_end}
use Rattle.check_run.specs.declared.FaultKind.{FaultKind}
use Rattle.check_run.specs.declared.FaultKind.TheVariants.{Char, Start, End, Newline}
use Rattle.common.specs.Answers.{refusal_number}
use Rattle.check_run.specs.Rules.{Rules, allowed, kind_number, First}
use Rattle.common.specs.declared.Refusal.{Refusal}
use Rattle.check_run.specs.declared.Fault.{Fault}

-- ---- the faults of a run, all of them, in reading order
pub data Found : Type 0 where
  fault : (place : ℕ) → FaultKind → Found

-- whether a character is the last, by those behind it
abbrev pub is_last : List ℕ → Bool
is_last [] = true
is_last (c ∷ cs) = false

-- whether the character c at place i, with the characters `after` behind it, breaks a rule: "all accepted and none ESC, first a start,
-- last an end, and a newline last unless empty"
abbrev pub broken_by : List ℕ → ℕ → ℕ → List ℕ → FaultKind → Bool
broken_by p i c after Char = not (allowed c)
broken_by p i c after Start = eqb i 0 && not (basic_text_start p c)
broken_by p i c after End = is_last after && not (basic_text_end c)
broken_by p i c after Newline = is_last after && not (eqb c 0x0A)

-- "At one place a refused character or ESC (one kind) comes first, then a start, an end and a newline fault."
abbrev pub kinds : List FaultKind
kinds = Char ∷ Start ∷ End ∷ Newline ∷ []

-- the faults at a place: of these kinds those that are broken, in order
abbrev pub faults_at : (FaultKind → Bool) → ℕ → List FaultKind → List Found
faults_at broken i [] = []
faults_at broken i (k ∷ ks) = cond (broken k) (fault i k ∷ faults_at broken i ks) (faults_at broken i ks)

-- those of the characters from place i on
abbrev pub faults_from : List ℕ → ℕ → List ℕ → List Found
faults_from p i [] = []
faults_from p i (c ∷ cs) = faults_at (broken_by p i c cs) i kinds ++ faults_from p (suc i) cs

-- those of the run: "the first fault in reading order" is the first of them
unfoldable pub faults : List ℕ → List ℕ → List Found
faults p cs = faults_from p 0 cs

-- ---- the answer
-- by numbers: 0 and how many faults are told, which is none, or one with its place and its kind's number; or the refusal's number.
-- "The reply is yes, or the place (from 0) and kind of the first fault in reading order."
abbrev pub yes_numbers : List ℕ
yes_numbers = 0 ∷ 0 ∷ []

abbrev pub fault_numbers : ℕ → FaultKind → List ℕ
fault_numbers place kind = 0 ∷ 1 ∷ place ∷ kind_number kind ∷ []

abbrev pub found_numbers : Option Fault → List ℕ
found_numbers None = yes_numbers
found_numbers (Some f) = fault_numbers f.place f.kind

abbrev pub verdict_numbers : Result (Option Fault) Refusal → List ℕ
verdict_numbers (Ok found) = found_numbers found
verdict_numbers (Err e) = refusal_number e ∷ []

-- yes where there is no fault, else the first
abbrev pub first_numbers : List Found → List ℕ
first_numbers [] = yes_numbers
first_numbers (fault place kind ∷ later) = fault_numbers place kind

-- the check of a run by a page. "Answers: pages and values are tested as for a scan, 2 then 1."
unfoldable pub check_run_of : List ℕ → List ℕ → List ℕ
check_run_of p cs = cond (not (accepted p)) (2 ∷ []) (cond (not (are_chars cs)) (1 ∷ []) (first_numbers (faults p cs)))

-- ---- what an answer says
-- of any page and run. The second of each pair asks for an accepted page and characters, since a refusal is neither yes nor a fault
pub record Says (p cs answer : List ℕ) : Type 0 where
  -- "Yes must hold exactly when all rules hold"
  pub yes_rules : answer ≡ yes_numbers → Rules p cs
  pub rules_yes : accepted p ≡ true → are_chars cs ≡ true → Rules p cs → answer ≡ yes_numbers
  -- "or the place (from 0) and kind of the first fault in reading order": a fault that is answered is one, and none comes before it
  pub fault_first : (place : ℕ) (kind : FaultKind) → answer ≡ fault_numbers place kind → First p cs place kind
  pub first_fault : accepted p ≡ true → are_chars cs ≡ true →
      (place : ℕ) (kind : FaultKind) → First p cs place kind → answer ≡ fault_numbers place kind
