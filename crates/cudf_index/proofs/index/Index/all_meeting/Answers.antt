use Rattle.std.specs.FinSet as set
use Rattle.std.proofs.lemmas.Result.{IfOk-equal}
use Rattle.cudf_index.proofs.WantedLemmas.{meeting_given}
use Rattle.cudf_index.proofs.index.Index.all_meeting.Goals as goal

pub returns : goal.returns
returns c =
    let f = c.args.vpkg.now.name.now in
    IfOk-equal c.all.result _ _ _ c.all.ensures (meeting_given (set.contains c.self.inside.status) c.self.inside.problem.now.packages c.args.self.now c.self.view_is f _ (c.self.invariant.0 f).1 c.clear.new.self.items c.clear.ensures.items c.args.vpkg.now.bound)
