-- The cut of one input, by its lines.
use Rattle.std.proofs.Common.{◌≡◌, ℕ, ◌+◌, ◌-◌, ◌≤◌, Bool, false, List, [], ◌∷◌, ◌++◌, length, take, drop, refl, sym, ◌∙◌, ap, inl, inr, arith}
use Rattle.std.specs.List.{concat, onto_first}
use Rattle.std.proofs.Math.Seq.{take-append_seam}
use Rattle.std.proofs.lemmas.List.{drop-drop, length-append, length-drop}
use Rattle.std.proofs.lemmas.Bool.{cases_Bool}
use Rattle.cudf_text.specs.Joined.{begins_request, behind, problem_part, solution_part}
use Rattle.cudf_text.specs.Chars.{is_blank_text}
use Rattle.cudf_text.specs.Lines.{is_lf, line_text, raw_lines}

-- ---- one search for a line

pub after-passed : (test : List ℕ → Bool) (rest line after raw : List ℕ) → raw_lines rest ≡ raw ∷ raw_lines after → line ≡ line_text raw → test line ≡ false
    → behind test (raw_lines after) ≡ behind test (raw_lines rest)
after-passed test rest line after raw e is t =
    let fails : test (line_text raw) ≡ false = rw (← is) t in
    rw e (rw fails refl)

pub suffix-next : (text rest after : List ℕ) (n : ℕ) → length rest ≤ length text → n ≤ length rest → drop (length text - length rest) text ≡ rest → after ≡ drop n rest
    → drop (length text - length after) text ≡ after
suffix-next text rest after n inside fits e is =
    let same : length text - length after ≡ length text - length rest + n = omega (arith, ap length is, length-drop n rest) in
    rw same (sym (drop-drop n (length text - length rest) text) ∙ ap (drop n) e ∙ sym is)

-- ---- the two parts

pub concat-raw_lines : (text : List ℕ) → concat (raw_lines text) ≡ text
concat-raw_lines [] = refl
concat-raw_lines (b ∷ bs) = elim (cases_Bool (is_lf b)) [ inl e ↦ rw e (ap (λ t. b ∷ t) (concat-raw_lines bs)) | inr e ↦ rw e (concat-onto_first b (raw_lines bs) ∙ ap (λ t. b ∷ t) (concat-raw_lines bs)) ] where
  concat-onto_first : (b : ℕ) (ls : List (List ℕ)) → concat (onto_first b ls) ≡ b ∷ concat ls
  concat-onto_first b [] = refl
  concat-onto_first b (l ∷ ls) = refl

pub solution-is : (text mid rest : List ℕ) → raw_lines mid ≡ behind begins_request (raw_lines text) → raw_lines rest ≡ behind is_blank_text (raw_lines mid)
    → rest ≡ solution_part text
unfolding solution_part
solution-is text mid rest e f = sym (concat-raw_lines rest) ∙ ap concat (f ∙ ap (behind is_blank_text) e)

-- the problem is what is before the solution
pub problem-is : (text problem : List ℕ) → problem ++ solution_part text ≡ text → problem ≡ problem_part text
unfolding problem_part
problem-is text problem e =
    let left : length text - length (solution_part text) ≡ length problem = omega (arith, ap length e, length-append problem (solution_part text)) in
    sym (ap (λ n. take n text) left ∙ ap (take (length problem)) (sym e) ∙ take-append_seam problem (solution_part text))
