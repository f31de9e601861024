use Rattle.cudf_value.specs.Promises.Views.{vpkg_view}
use Rattle.cudf_value.proofs.AtomLemmas.{values_begun}
use Rattle.cudf_value.proofs.atom.first_atom.Goals as goal

pub returns-in-Some-end_at-clause-values : goal.returns-in-Some-end_at-clause-values
returns-in-Some-end_at-clause-values c =
    values_begun (vpkg_view c.in-Some.vpkg) c.args.text.now c.in-Some.rest.now c.in-Some-end_at.end c.in-Some.ensures.begins c.in-Some-end_at.ensures
