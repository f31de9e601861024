use Rattle.std.proofs.Common.{arith, ◌≡◌, ◌<◌, length, Some, subst, ap, sym, ◌∙◌}
use Rattle.cudf_problem.specs.Promises.Names.{names_of_ids}
use Rattle.cudf_problem.specs.Working.Numbers.{texts, other_index}
use Rattle.cudf_problem.proofs.NumberLemmas.{first_there, read_first, read_other, seen}
use Rattle.cudf_problem.proofs.package.PackageIds.find.Goals as goal

pub index-requires : goal.index-requires
index-requires c =
    let names = texts c.self.inside.names.keys in
    let named : names ≡ names_of_ids c.args.self.now = c.self.invariant.names_are ∙ ap names_of_ids c.self.view_is in
    omega (
      arith,
      first_there names c.self.inside.pairs.items c.self.inside.firsts.items (other_index c.self.inside.others) c.self.invariant c.args.pair c.args.pair c.index-first.result.now
          (subst (λ ns. c.args.pair.name < length ns) (sym named) c.requires) c.index-first.ensures,
      c.self.inside.pairs.ok,
    )

pub returns-then-index-pair : goal.returns-then-index-pair
returns-then-index-pair c =
    let names = texts c.self.inside.names.keys in
    let named : names ≡ names_of_ids c.args.self.now = c.self.invariant.names_are ∙ ap names_of_ids c.self.view_is in
    seen names (names_of_ids c.args.self.now) c.self.inside.pairs.items c.args.self.now c.args.pair (Some c.index-first.result.now) named c.self.view_is
    (read_first names c.self.inside.pairs.items c.self.inside.firsts.items (other_index c.self.inside.others) c.self.invariant c.args.pair c.index.result.now c.index-first.result.now
    (subst (λ ns. c.args.pair.name < length ns) (sym named) c.requires) c.index-first.ensures c.index.ensures c.if-index-pair.true)

pub returns : goal.returns
returns c =
    let names = texts c.self.inside.names.keys in
    let named : names ≡ names_of_ids c.args.self.now = c.self.invariant.names_are ∙ ap names_of_ids c.self.view_is in
    seen names (names_of_ids c.args.self.now) c.self.inside.pairs.items c.args.self.now c.args.pair c.copied.result named c.self.view_is
    (c.copied.ensures ∙ c.get.ensures.value
    ∙ read_other names c.self.inside.pairs.items c.self.inside.firsts.items (other_index c.self.inside.others) c.self.invariant c.args.pair c.index.result.now c.index-first.result.now
    (subst (λ ns. c.args.pair.name < length ns) (sym named) c.requires) c.index-first.ensures c.index.ensures c.if-index-pair.false)
