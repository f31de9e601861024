use Rattle.std.proofs.Common.{◌≡◌, ◌++◌, map}
use Rattle.cudf_text.specs.Promises.Views.{own_property_view, property_view}
use Rattle.cudf_text.proofs.source.keep_properties.Given as goal

abbrev pub invariant-loop-line : goal.invariant-loop-line
invariant-loop-line l = map property_view l.kept.items ≡ map property_view l.fn.kept.items ++ map own_property_view l.yielded
