use Rattle.std.proofs.Common.{◌≡◌, drop, None}
use Rattle.std.specs.List.{enumerate_from}
use Rattle.cudf_referee.specs.Working.Searches.{Goes, packages_rest}
use Rattle.cudf_referee.proofs.ComesLemmas.{IsTail}
use Rattle.cudf_referee.proofs.referee.instances.Instances.search_packages.Given as goal

abbrev pub invariant-loop-index : goal.invariant-loop-index
invariant-loop-index l =
    let packages = enumerate_from 1 l.fn.self.judged.problem.packages in
    let all = packages_rest l.fn.self.judged l.fn.cursor.begun (drop l.fn.cursor.packages packages) in
    let rest = packages_rest l.fn.self.judged l.begun (drop l.index packages) in
    Goes l.fn.self all None rest l.self × IsTail all rest × (l.cursor ≡ l.fn.cursor)
