use Rattle.std.proofs.Common.{◌∙◌}
use Rattle.cudf_cnf.proofs.PlaceLemmas.{places_added}
use Rattle.cudf_cnf.proofs.rules.put_one_of.Goals as goal

pub push-requires : goal.push-requires
push-requires c =
    places_added c.args.clauses.now.places c.args.literals.now.items c.deref.result.now c.args.places.now c.requires.literals c.requires.places (c.deref.ensures.value ∙ c.in_ok-add_places.ensures)
