use Rattle.std.proofs.Common.{map}
use Rattle.cudf_value.specs.Promises.Types.{declaration_view}
use Rattle.cudf_document.proofs.DeclarationLemmas.{Added}
use Rattle.cudf_document.proofs.declarations.Declarations.insert_all.Given as goal

abbrev pub invariant-loop-declaration : goal.invariant-loop-declaration
invariant-loop-declaration l = Added l.initial.self l.self (map declaration_view l.yielded) l.are_all
