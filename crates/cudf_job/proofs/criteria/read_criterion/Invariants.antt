-- The aims so far, and those of the parts that are left, are those of the text.
use Rattle.std.proofs.Common.{◌≡◌, length, drop}
use Rattle.std.specs.Str.{byte}
use Rattle.cudf_value.specs.Parts.{parts, read_parts}
use Rattle.cudf_job.specs.Promises.Aims.{aim_of}
use Rattle.cudf_job.proofs.AimLemmas.{with_rest}
use Rattle.cudf_job.proofs.criteria.read_criterion.Given as goal

abbrev pub invariant-loop-part : goal.invariant-loop-part
invariant-loop-part l = with_rest l.aims.items (drop (length l.yielded) (parts (byte ",") l.text)) ≡ read_parts (byte ",") aim_of l.text
