use Rattle.cudf_value.proofs.VpkgLemmas.{named_begins, named_at_once, bounded_begins, some_run}
use Rattle.cudf_value.proofs.vpkg.split_vpkg.Goals as goal

pub returns-then-matches-clause-begins : goal.returns-then-matches-clause-begins
returns-then-matches-clause-begins c =
    rw (c.split_run.ensures.run, c.split_run.ensures.rest, c.trim_start.ensures)
    (named_at_once c.args.text.now
    (rw (c.split_run.ensures.run, c.trim_start.ensures) at (some_run c.split_run.result.0.now c.if-is_empty.ensures)))

pub returns-in-Some-clause-begins : goal.returns-in-Some-clause-begins
returns-in-Some-clause-begins c =
    rw (c.split_run.ensures.run, c.trim_start.ensures)
    (bounded_begins c.args.text.now c.in-Some.more.now c.in-Some.relop c.in-Some.number
    (rw (c.split_run.ensures.run, c.trim_start.ensures) at (some_run c.split_run.result.0.now c.if-is_empty.ensures))
    (rw (c.trim_start-rest.ensures, c.split_run.ensures.rest, c.trim_start.ensures) at c.in-Some.ensures.begins))

pub returns-in-None-clause-begins : goal.returns-in-None-clause-begins
returns-in-None-clause-begins c =
    rw (c.trim_start-rest.ensures, c.split_run.ensures.run, c.split_run.ensures.rest, c.trim_start.ensures)
    (named_begins c.args.text.now
    (rw (c.split_run.ensures.run, c.trim_start.ensures) at (some_run c.split_run.result.0.now c.if-is_empty.ensures)))
