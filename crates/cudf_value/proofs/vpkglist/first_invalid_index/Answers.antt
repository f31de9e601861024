use Rattle.std.proofs.Common.{not, lit<, rules, tests}
use Rattle.std.specs.Str.{byte}
use Rattle.std.proofs.lemmas.Iterator.Search.{position_from_yields_List}
use Rattle.std.proofs.lemmas.Iterator.Splits.{YieldsList-from_str_split}
use Rattle.cudf_value.specs.Misfits.{type_word}
use Rattle.cudf_value.specs.Promises.Types.{type_view}
use Rattle.cudf_value.proofs.MisfitLemmas.{passes, misfit_found}
use Rattle.cudf_value.proofs.vpkglist.first_invalid_index.Goals as goal

pub returns-clause-value : goal.returns-clause-value
returns-clause-value c =
    misfit_found (type_word (type_view c.args.kind.now)) c.args.text.now c.position.result
    (position_from_yields_List (λ part. not (passes (type_word (type_view c.args.kind.now)) part)) _ _ c.position.result c.position.ensures.ran
    (YieldsList-from_str_split (byte ",") c.args.text.now (lit< tt) c.split.ensures.text c.split.ensures.has_more c.split.ensures.pattern)
    (λ x b q k. search (rules, tests)))
