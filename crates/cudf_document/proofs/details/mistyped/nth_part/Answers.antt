use Rattle.std.proofs.Common.{lit<}
use Rattle.std.specs.Str.{byte}
use Rattle.std.proofs.lemmas.Iterator.Consumers.{nth_from_yields_List}
use Rattle.std.proofs.lemmas.Iterator.Splits.{YieldsList-from_str_split}
use Rattle.cudf_document.proofs.details.mistyped.nth_part.Goals as goal

pub returns : goal.returns
returns c =
    nth_from_yields_List c.nth.result _ c.args.index c.nth.ensures.ran
    (YieldsList-from_str_split (byte ",") c.args.text.now (lit< tt) c.split.ensures.text c.split.ensures.has_more c.split.ensures.pattern)
