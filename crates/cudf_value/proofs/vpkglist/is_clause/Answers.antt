use Rattle.std.proofs.Common.{is_some, lit<, rules, tests, ◌∙◌}
use Rattle.std.specs.Str.{byte}
use Rattle.std.proofs.lemmas.Iterator.Search.{all_from_yields_List}
use Rattle.std.proofs.lemmas.Iterator.Splits.{YieldsList-from_str_split}
use Rattle.cudf_value.specs.Parts.{parts}
use Rattle.cudf_value.specs.Working.Atoms.{atom_part}
use Rattle.cudf_value.proofs.MisfitLemmas.{all_read}
use Rattle.cudf_value.proofs.vpkglist.is_clause.Goals as goal

pub returns : goal.returns
returns c =
    all_from_yields_List (λ part. is_some (atom_part part)) _ _ c.all.result c.all.ensures.ran
    (YieldsList-from_str_split (byte "|") c.args.text.now (lit< tt) c.split.ensures.text c.split.ensures.has_more c.split.ensures.pattern)
    (λ x b q k. search (rules, tests))
    ∙ all_read atom_part (parts (byte "|") c.args.text.now)
