-- The report of a proof against a problem's CNF.
use Rattle.std.proofs.Common.{◌≡◌, ◌∙◌, List, ℕ, length, Bool, false, Some, sym, ap}
use Rattle.cudf_problem.specs.Universe.{PlainProblem}
use Rattle.cudf_lrat.specs.Literals.{PlainCnf}
use Rattle.cudf_cnf.specs.Cnf.{clauses_of, cnf, is_too_large}
use Rattle.cudf_cnf.specs.Encodings.{IsEncoded, PlainKeyedClauses}
use Rattle.cudf_check.specs.Report.{checked_report, core_text, refute_answer, rules_of, unless_too_large}
use Rattle.cudf_check.specs.Styles.{Style}

-- these are the clauses of the CNF
pub rules_are : (problem : PlainProblem) (held : PlainKeyedClauses) (given : PlainCnf) → IsEncoded problem (Some held) → given.variables ≡ held.places → given.clauses ≡ clauses_of held.clauses → given ≡ rules_of problem
rules_are problem held given encoded places clauses =
    let variables_are : given.variables ≡ length problem.packages = places ∙ ap (λ (h : PlainKeyedClauses). h.places) encoded.1 in
    let clauses_are : given.clauses ≡ clauses_of (cnf problem) = clauses ∙ ap (λ (h : PlainKeyedClauses). clauses_of h.clauses) encoded.1 in
    λ k. record { variables = variables_are k; clauses = clauses_are k }

-- and so this is what is answered
pub refute_by : (style : Style) (problem : PlainProblem) (proof : List ℕ) (given : PlainCnf) → is_too_large problem ≡ false → given ≡ rules_of problem
    → checked_report style given (core_text style problem) proof ≡ refute_answer style proof problem
refute_by style problem proof given small are =
    ap (λ cnf. checked_report style cnf (core_text style problem) proof) are
    ∙ ap (λ (large : Bool). unless_too_large large (checked_report style (rules_of problem) (core_text style problem) proof)) (sym small)
