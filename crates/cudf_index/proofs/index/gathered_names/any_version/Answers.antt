use Rattle.std.proofs.Common.{rules, tests}
use Rattle.std.proofs.lemmas.Iterator.{YieldsList-from_slice}
use Rattle.std.proofs.lemmas.Iterator.Search.{any_from_yields_List}
use Rattle.cudf_index.proofs.index.gathered_names.any_version.Goals as goal

pub returns : goal.returns
returns c = any_from_yields_List (λ g. g.is_version) _ _ c.any.result c.any.ensures.ran (YieldsList-from_slice c.args.row.now cc) (λ x b q k. search (rules, tests))
