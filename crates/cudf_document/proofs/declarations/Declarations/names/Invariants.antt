use Rattle.std.proofs.Common.{◌≡◌, map}
use Rattle.cudf_document.proofs.declarations.Declarations.names.Given as goal

abbrev pub invariant-loop-declared : goal.invariant-loop-declared
invariant-loop-declared l = map (λ name. name.now) l.names.items ≡ map (λ d. d.name) (map (λ d. d.now) l.yielded)
