use Rattle.std.proofs.Common.{◌++◌, map, ◌∙◌}
use Rattle.std.specs.List.{flat_map, enumerate_from}
use Rattle.cudf_problem.specs.Promises.Views.{package_view}
use Rattle.cudf_device.proofs.PaperLemmas.{Says-as, ◌▸◌}
use Rattle.cudf_check.specs.Report.{clause_line, header_line, package_comment}
use Rattle.cudf_check.proofs.lines.dimacs.print_dimacs.Goals as goal

pub returns : goal.returns
returns g c =
    let comments = flat_map package_comment (enumerate_from 1 (map package_view c.args.packages.now)) in
    let variables = c.from.ensures ∙ c.variables.ensures.variables in
    let clauses = c.from-2.ensures ∙ c.len.ensures in
    Says-as _ _ _ _ _ (λ k. comments ++ header_line (variables k) (clauses k) ++ flat_map clause_line c.args.cnf.now.clauses)
    (c.print_packages.ensures ▸ c.print_header.ensures ▸ c.print_clauses.ensures)
