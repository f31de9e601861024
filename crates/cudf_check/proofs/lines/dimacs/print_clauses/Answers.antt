use Rattle.std.proofs.Common.{◌≡◌, ◌+◌, ◌-◌, [], ◌++◌, take, get_or, slice_index_or, ap, ◌∙◌, arith}
use Rattle.std.specs.List.{flat_map}
use Rattle.std.proofs.lemmas.List.{take_all}
use Rattle.cudf_check.specs.Report.{clause_line}
use Rattle.cudf_device.proofs.PaperLemmas.{Says-as, ◌▸◌, texts-more}
use Rattle.cudf_check.proofs.lines.dimacs.print_clauses.Goals as goal

pub loop-index-preserved : goal.loop-index-preserved
loop-index-preserved g c =
    let clauses = c.args.cnf.now.clauses in
    let i = c.loop-index.index in
    let at : i + 1 - 1 ≡ i = omega arith in
    let is : c.clause.result.now ≡ get_or clauses i [] = c.clause.ensures.clause ∙ ap (λ n. slice_index_or clauses n []) at in
    Says-as _ _ _ _ _ (ap (λ literals. flat_map clause_line (take i clauses) ++ clause_line literals) is ∙ texts-more clause_line clauses i [] (omega arith)) (c.loop-index.invariant ▸ c.print_clause.ensures)

pub returns : goal.returns
returns g c = Says-as _ _ _ _ _ (ap (flat_map clause_line) (take_all c.loop-index.index c.args.cnf.now.clauses (omega arith))) c.loop-index.invariant
