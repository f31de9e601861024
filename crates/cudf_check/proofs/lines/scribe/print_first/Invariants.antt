-- The lines so far are printed, and so many instances were taken, for no more than the calls for them may cost.
use Rattle.std.proofs.Common.{◌≡◌, ◌≤◌, length, take, drop, option_map}
use Rattle.std.specs.List.{flat_map}
use Rattle.cudf_job.specs.KeyViews.{key_view}
use Rattle.cudf_referee.specs.Promises.Walks.{left}
use Rattle.cudf_check.specs.Working.Named.{instance_style}
use Rattle.cudf_check.specs.Report.{instance_line}
use Rattle.cudf_check.specs.Working.Pages.{HasSpent, end_key}
use Rattle.cudf_device.specs.Promises.PaperInside.{Says}
use Rattle.cudf_check.proofs.lines.scribe.print_first.Given as goal

abbrev pub invariant-loop-turn : goal.invariant-loop-turn
invariant-loop-turn g l = record {
  printed : Says g.W.Sink.state l.fn.paper l.paper (flat_map (instance_line (instance_style l.scribe.explain l.scribe.origins l.scribe.lines) l.scribe.judged) (take l.turn (left l.fn.instances)));
  left_is : left l.instances ≡ drop l.turn (left l.fn.instances);
  taken : l.turn ≤ length (left l.fn.instances);
  spent : HasSpent (take l.turn (left l.fn.instances)) l.fn.instances l.instances;
  key : option_map key_view l.last ≡ end_key (take l.turn (left l.fn.instances));
}
