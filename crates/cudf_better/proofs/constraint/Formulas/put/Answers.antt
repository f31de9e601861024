use Rattle.std.proofs.Common.{◌<◌, [], List, get_or, true, false, ap, arith, length, sym, ◌∙◌}
use Rattle.cudf_better.specs.Cardinality.{Dnf}
use Rattle.cudf_better.specs.Working.Definitions.{with_terms}
use Rattle.cudf_better.proofs.ItemLemmas.{formula_at, formulas_length}
use Rattle.cudf_better.proofs.constraint.Formulas.put.Goals as goal

pub some-some-requires : goal.some-some-requires
some-some-requires c = omega (arith, c.requires, formulas_length c.self.inside.is_true c.self.inside.items, ap length c.self.view_is)

pub none-none-requires : goal.none-none-requires
none-none-requires c = omega (arith, c.requires, formulas_length c.self.inside.is_true c.self.inside.items, ap length c.self.view_is)

pub returns-then-self : goal.returns-then-self
returns-then-self c =
    let f = c.self.inside in
    let inside : c.args.index < length f.items = omega (arith, c.requires, formulas_length f.is_true f.items, ap length c.self.view_is) in
    c.in_ok-define_true.ensures
    ∙ ap (with_terms c.args.definitions.now)
    (sym (ap (λ (fs : List Dnf). get_or fs c.args.index []) (sym c.self.view_is) ∙ formula_at true f.is_true f.items c.args.index c.some-some.result.now c.none-none.result.now c.if-self.true inside c.some-some.ensures c.none-none.ensures))

pub returns : goal.returns
returns c =
    let f = c.self.inside in
    let inside : c.args.index < length f.items = omega (arith, c.requires, formulas_length f.is_true f.items, ap length c.self.view_is) in
    c.in_ok-define_false.ensures
    ∙ ap (with_terms c.args.definitions.now)
    (sym (ap (λ (fs : List Dnf). get_or fs c.args.index []) (sym c.self.view_is) ∙ formula_at false f.is_true f.items c.args.index c.some-some.result.now c.none-none.result.now c.if-self.false inside c.some-some.ensures c.none-none.ensures))
