use Rattle.cudf_text.proofs.Boundary.{boundary_after}
use Rattle.cudf_text.proofs.scan.split_run.Goals as goal

pub split_at-requires : goal.split_at-requires
split_at-requires c =
    boundary_after c.args.text.now c.run_len.result c.utf8.text (rw c.as_bytes.ensures.value at c.run_len.ensures.inside)
    (λ some _. rw c.as_bytes.ensures.value at (c.run_len.ensures.ascii some))
