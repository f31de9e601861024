use Rattle.cudf_text.proofs.JoinedLemmas.{concat-raw_lines}
use Rattle.cudf_text.proofs.LawLemmas.{line_ends_at_lf, last_line_needs_no_lf}
use Rattle.cudf_text.proofs.laws.lines.Goals as goal

pub returns : goal.returns
returns c = record {
  joined = concat-raw_lines c.args.rest.now;
  first = line_ends_at_lf c.args.line.now c.args.rest.now;
  last = last_line_needs_no_lf c.args.line.now;
}
