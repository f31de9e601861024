use Rattle.cudf_text.proofs.ClassLemmas.{table_is, table_ascii}
use Rattle.cudf_text.proofs.scan.Class.has.Goals as goal

pub returns-clause-value : goal.returns-clause-value
returns-clause-value c = table_is c.args.self c.bit.result c.args.byte c.bit.ensures c.ranges.byte.fits

pub returns-clause-ascii : goal.returns-clause-ascii
returns-clause-ascii c = table_ascii c.args.self c.bit.result c.args.byte c.bit.ensures c.ranges.byte.fits
