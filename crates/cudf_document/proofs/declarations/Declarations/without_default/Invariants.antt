use Rattle.std.proofs.Common.{◌≡◌, map, filter_map}
use Rattle.cudf_document.specs.Working.Judging.{name_without_default}
use Rattle.cudf_document.proofs.declarations.Declarations.without_default.Given as goal

abbrev pub invariant-loop-declared : goal.invariant-loop-declared
invariant-loop-declared l = map (λ name. name.now) l.names.items ≡ filter_map name_without_default (map (λ d. d.now) l.yielded)
