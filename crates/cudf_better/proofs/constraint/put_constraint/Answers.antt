use Rattle.std.proofs.Common.{◌++◌, ◌∷◌, [], ap, drop, map, subst, ◌∙◌, List, ℕ}
use Rattle.cudf_cnf.specs.Cnf.{is_out}
use Rattle.cudf_better.specs.Cardinality.{strict_of}
use Rattle.cudf_better.specs.Working.Definitions.{IsStrict, at_most, with_clauses}
use Rattle.cudf_better.proofs.PutLemmas.{bound_put}
use Rattle.cudf_better.proofs.constraint.put_constraint.Goals as goal

pub returns : goal.returns
returns c =
    let outputs = c.in_ok-outputs.outputs.items in
    let strict = c.args.strict.now.items in
    bound_put c.in_ok-more.more (at_most c.args.most c.args.formulas.now) c.args.definitions.now c.put_counter.new.definitions c.put_bound.new.definitions strict c.put_bound.new.strict.items outputs c.in_ok-outputs.ensures
    (c.in_ok-more.ensures.definitions ∙ ap (λ (ps : List ℕ). with_clauses c.put_counter.new.definitions (map (λ variable. strict ++ is_out variable ∷ []) (drop c.args.most ps))) c.deref.ensures.value)
    (subst (λ (ps : List ℕ). IsStrict c.in_ok-more.more (strict_of c.args.most ps) strict c.put_bound.new.strict.items) c.deref.ensures.value c.in_ok-more.ensures.strict)
