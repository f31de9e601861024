use Rattle.std.proofs.lemmas.List.Elements.{All-head, All-tail}
use Rattle.std.specs.Str.{IsUtf8}
use Rattle.cudf_calls.specs.Calls.{names_of}
use Rattle.cudf_calls.proofs.DocumentLemmas.{of_document, of_others}
use Rattle.cudf_calls.proofs.ReadLemmas.{run_ended, run_named, run_named-ended, run_written}
use Rattle.cudf_calls.proofs.carried.write.Goals as goal

pub returns-in_err-outcome-clause-same_reference : goal.returns-in_err-outcome-clause-same_reference
returns-in_err-outcome-clause-same_reference c =
    let order = c.args.order.now in
    let first = c.args.first.now in
    let others = c.args.others.now in
    let problem = of_document order.names_files first c.document-problem.result c.run.new.first (c.document-problem.ensures (All-head IsUtf8 first.name.now (names_of others) c.requires.names)) in
    let answers = of_others order.names_files others _ _ c.run.new.others c.deref_mut.ensures.value (c.in_ok-others.ensures (All-tail IsUtf8 first.name.now (names_of others) c.requires.names)) c.run.auto.others in
    run_named-ended order first others _ _ c.args.out.now c.run.new.out problem answers _ c.in_err-outcome.ensures.runs

pub returns-in_err-outcome-clause-written : goal.returns-in_err-outcome-clause-written
returns-in_err-outcome-clause-written c =
    let order = c.args.order.now in
    let first = c.args.first.now in
    let others = c.args.others.now in
    let problem = of_document order.names_files first c.document-problem.result c.run.new.first (c.document-problem.ensures (All-head IsUtf8 first.name.now (names_of others) c.requires.names)) in
    let answers = of_others order.names_files others _ _ c.run.new.others c.deref_mut.ensures.value (c.in_ok-others.ensures (All-tail IsUtf8 first.name.now (names_of others) c.requires.names)) c.run.auto.others in
    run_ended order first others _ _ c.args.out.now c.run.new.out problem answers _ c.from_residual-in_err-outcome.result c.in_err-outcome.ensures.runs c.from_residual-in_err-outcome.ensures

pub returns-clause-same_reference : goal.returns-clause-same_reference
returns-clause-same_reference c =
    let order = c.args.order.now in
    let first = c.args.first.now in
    let others = c.args.others.now in
    let problem = of_document order.names_files first c.document-problem.result c.run.new.first (c.document-problem.ensures (All-head IsUtf8 first.name.now (names_of others) c.requires.names)) in
    let answers = of_others order.names_files others _ _ c.run.new.others c.deref_mut.ensures.value (c.in_ok-others.ensures (All-tail IsUtf8 first.name.now (names_of others) c.requires.names)) c.run.auto.others in
    run_named order first others _ _ c.args.out.now c.run.new.out problem answers _ c.in_ok-outcome.ensures.runs

pub returns-clause-written : goal.returns-clause-written
returns-clause-written c =
    let order = c.args.order.now in
    let first = c.args.first.now in
    let others = c.args.others.now in
    let problem = of_document order.names_files first c.document-problem.result c.run.new.first (c.document-problem.ensures (All-head IsUtf8 first.name.now (names_of others) c.requires.names)) in
    let answers = of_others order.names_files others _ _ c.run.new.others c.deref_mut.ensures.value (c.in_ok-others.ensures (All-tail IsUtf8 first.name.now (names_of others) c.requires.names)) c.run.auto.others in
    run_written order first others _ _ c.args.out.now c.run.new.out problem answers _ c.in_ok-outcome.ensures.runs c.requires.report
