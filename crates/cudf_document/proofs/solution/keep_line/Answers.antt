use Rattle.std.proofs.Common.{Some, None, set, sym, ap, ◌∙◌}
use Rattle.std.specs.Option.{option_or}
use Rattle.cudf_text.specs.Promises.Views.{stanza_view}
use Rattle.cudf_document.proofs.LineLemmas.{lines_next}
use Rattle.cudf_document.proofs.solution.keep_line.Goals as goal

pub returns-in-Some : goal.returns-in-Some
returns-in-Some c = λ before are.
    let lines = c.args.lines.now.items in
    ap (set lines c.in-Some.index) c.earlier_line.ensures
    ∙ ap (λ line. set lines c.in-Some.index (option_or line (Some c.args.stanza.now.line))) c.index.ensures
    ∙ lines_next c.index.result.now c.args.problem.now.packages before (stanza_view c.args.stanza.now) c.args.lines.now.items (Some c.in-Some.index) c.requires.distinct c.in-Some.ensures are

pub returns-in_default : goal.returns-in_default
returns-in_default c = λ before are.
    lines_next None c.args.problem.now.packages before (stanza_view c.args.stanza.now) c.args.lines.now.items None c.requires.distinct (sym c.in_default.is ∙ c.index_of.ensures) are
