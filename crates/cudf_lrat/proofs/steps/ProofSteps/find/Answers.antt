use Rattle.std.proofs.Common.{◌≡◌, ◌≢◌, ℕ, ◌+◌, ◌<◌, ◌≤◌, List, length, sym, subst, arith}
use Rattle.std.specs.Prelude.{slice_index}
use Rattle.cudf_lrat.proofs.IndexLemmas.{index-step, unnamed-above, unnamed-zero}
use Rattle.cudf_lrat.specs.Working.Indices.{IsIndexOf}
use Rattle.cudf_lrat.proofs.steps.ProofSteps.find.Goals as goal

pub returns-in_err-before : goal.returns-in_err-before
returns-in_err-before c =
    let none : 1 ≤ c.args.number → ⊥ = c.in_err-before.ensures in
    rw c.from_residual.ensures (unnamed-zero c.args.cnf.now c.args.self.now c.args.number c.requires (omega arith))

pub returns-in_err-position : goal.returns-in_err-position
returns-in_err-position c =
    let cnf = c.args.cnf.now in
    let steps = c.args.self.now in
    let before = c.in_ok-before.ensures in
    let above : length cnf.clauses < c.args.number = omega (arith, before.0, before.1, c.len-given.ensures, c.from.ensures) in
    let none : (k : ℕ) → k < length steps.numbers.items → slice_index steps.numbers.items k ≢ c.args.number = subst (λ (xs : List ℕ). (k : ℕ) → k < length xs → slice_index xs k ≢ c.args.number) c.deref.ensures.value c.in_err-position.ensures.none in
    rw c.from_residual-in_err-position.ensures (unnamed-above cnf steps c.args.number above none)

pub returns : goal.returns
returns c =
    let cnf = c.args.cnf.now in
    let steps = c.args.self.now in
    let found = subst (λ (xs : List ℕ). (c.in_ok-position.position < length xs) × (slice_index xs c.in_ok-position.position ≡ c.args.number)) c.deref.ensures.value c.in_ok-position.ensures.found in
    subst (λ given. IsIndexOf cnf steps c.args.number (given + c.in_ok-position.position)) (sym c.len-given.ensures) (index-step cnf steps c.args.number c.in_ok-position.position c.requires found.0 found.1)
