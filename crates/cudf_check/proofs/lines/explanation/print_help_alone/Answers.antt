use Rattle.std.proofs.Common.{◌≡◌, ◌-◌, ◌==◌, ℕ, Bool, true, false, [], None, slice_get, option_and_then, if◌then◌else◌, refl}
use Rattle.cudf_referee.specs.Promises.Views.{instance_view}
use Rattle.cudf_check.specs.Explanations.{help_of, listed_text}
use Rattle.cudf_check.specs.Working.Named.{listed_by}
use Rattle.cudf_device.proofs.PaperLemmas.{Says-as}
use Rattle.cudf_check.proofs.lines.explanation.print_help_alone.Goals as goal

-- without lines nothing is said of a place
nothing_at : (place : ℕ) → listed_by None [] place ≡ []
nothing_at place = by (place == 0)
  where
    by : (b : Bool) → listed_text None (if b then None else option_and_then (λ n. n) (slice_get [] (place - 1))) ≡ []
    by true = refl
    by false = refl

pub returns : goal.returns
returns g c = Says-as _ _ _ _ _ (λ k. help_of (λ place. nothing_at place k) c.args.remedies.now (instance_view c.args.instance.now)) c.print_remedy.ensures
