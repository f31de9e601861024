use Rattle.cudf_text.proofs.LineLemmas.{raw_lines-next, line_text-next}
use Rattle.cudf_text.proofs.line.line_end.Goals as goal

pub returns-clause-raw : goal.returns-clause-raw
returns-clause-raw c = raw_lines-next c.args.bytes.now c.lf_place-end.result c.min.result c.requires c.lf_place-end.ensures.value c.min.ensures

pub returns-clause-line : goal.returns-clause-line
returns-clause-line c =
    line_text-next c.args.bytes.now c.lf_place-end.result c.min.result c.len_without_return.result c.lf_place-end.ensures.value c.min.ensures c.len_without_return.ensures.inside c.len_without_return.ensures.value
