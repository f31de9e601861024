use Rattle.std.proofs.Common.{refl}
use Rattle.cudf_device.proofs.PaperLemmas.{blank}
use Rattle.cudf_device.proofs.paper.Paper.new.Goals as goal

pub returns-clause-blank : goal.returns-clause-blank
returns-clause-blank g c = record { sink = refl; none = blank _ _ c.requires }
