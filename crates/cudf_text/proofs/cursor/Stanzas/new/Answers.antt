use Rattle.std.proofs.Common.{ap, ◌∙◌}
use Rattle.cudf_text.specs.Working.Tracked.{plain_of}
use Rattle.cudf_text.proofs.TrackedLemmas.{whole_plain}
use Rattle.cudf_text.proofs.cursor.Stanzas.new.Goals as goal

pub returns : goal.returns
returns c = ap plain_of c.start.ensures.left ∙ whole_plain c.args.source.now
