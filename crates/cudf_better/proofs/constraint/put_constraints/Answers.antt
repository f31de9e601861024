use Rattle.std.proofs.Common.{◌≡◌, ℕ, suc, ◌+◌, ◌<◌, Bool, List, [], ◌∷◌, ap, arith, drop, drop-cons, get_or, length, subst, sym, ◌∙◌}
use Rattle.std.proofs.lemmas.List.{drop_all}
use Rattle.cudf_lrat.specs.declared.cnf.Literal.{Literal}
use Rattle.cudf_better.specs.declared.constraint.Constraint.{Constraint}
use Rattle.cudf_better.specs.Working.Constraints.{constraints_of}
use Rattle.cudf_better.specs.Working.Definitions.{IsBounded, at_most, with_clauses, with_constraints}
use Rattle.cudf_better.proofs.PutLemmas.{Remains, bound_end, bound_last, bound_more}
use Rattle.cudf_better.proofs.constraint.put_constraints.Goals as goal

next_constraint : (constraints : List Constraint) (i : ℕ) (b : Constraint) → i < length constraints → b ≡ get_or constraints i b → constraints_of (drop i constraints) ≡ at_most b.bound b.formulas ∷ constraints_of (drop (i + 1) constraints)
next_constraint constraints i b lt is =
    ap constraints_of (drop-cons constraints i b lt) ∙ ap (λ (x : Constraint). at_most x.bound x.formulas ∷ constraints_of (drop (suc i) constraints)) (sym is)
    ∙ ap (λ (n : ℕ). at_most b.bound b.formulas ∷ constraints_of (drop n constraints)) {x = suc i} {y = i + 1} (omega arith)

pub returns-then-not-branch : goal.returns-then-not-branch
returns-then-not-branch c =
    let g = c.loop-constraint.definitions in
    let constraints = c.args.constraints.now in
    let i = c.loop-constraint.constraint-index in
    let b = c.constraint-item.result in
    let whole = with_constraints c.args.definitions.now [] (constraints_of constraints) in
    let strict = c.loop-constraint.strict.items in
    bound_last whole g c.put_constraint.new.definitions strict c.put_constraint.new.strict.items (at_most b.bound b.formulas) (constraints_of (drop (i + 1) constraints))
    (subst (Remains whole g strict) (next_constraint constraints i b (omega arith) c.constraint-item.is) c.loop-constraint.invariant)
    (subst (λ (more : Bool). IsBounded more (at_most b.bound b.formulas) g strict c.put_constraint.new.definitions c.put_constraint.new.strict.items) c.if-not-branch.true c.in_ok-put_constraint.ensures)

pub loop-constraint-preserved : goal.loop-constraint-preserved
loop-constraint-preserved c =
    let g = c.loop-constraint.definitions in
    let constraints = c.args.constraints.now in
    let i = c.loop-constraint.constraint-index in
    let b = c.constraint-item.result in
    let whole = with_constraints c.args.definitions.now [] (constraints_of constraints) in
    let strict = c.loop-constraint.strict.items in
    bound_more whole g c.put_constraint.new.definitions strict c.put_constraint.new.strict.items (at_most b.bound b.formulas) (constraints_of (drop (i + 1) constraints))
    (subst (Remains whole g strict) (next_constraint constraints i b (omega arith) c.constraint-item.is) c.loop-constraint.invariant)
    (subst (λ (more : Bool). IsBounded more (at_most b.bound b.formulas) g strict c.put_constraint.new.definitions c.put_constraint.new.strict.items) c.if-not-branch.false c.in_ok-put_constraint.ensures)

pub returns : goal.returns
returns c =
    let g = c.loop-constraint.definitions in
    let constraints = c.args.constraints.now in
    let whole = with_constraints c.args.definitions.now [] (constraints_of constraints) in
    bound_end whole g c.put_whole.new.self c.loop-constraint.strict.items
    (subst (Remains whole g c.loop-constraint.strict.items) (ap constraints_of (drop_all c.loop-constraint.constraint-index constraints (omega arith))) c.loop-constraint.invariant)
    (c.in_ok-put_whole.ensures ∙ ap (λ (ls : List Literal). with_clauses g (ls ∷ [])) c.deref.ensures.value)
