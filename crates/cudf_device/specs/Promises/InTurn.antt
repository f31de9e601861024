-- What is answered of readers that are read one after another.
use Rattle.std.specs.Prelude.{◌≢◌, ◌↔◌, ℕ, List, Result, Err, IfOk, IsErrOf}
use Rattle.std.specs.List.{All, AllZip}
use Rattle.cudf_device.specs.Device.{SourceState}
use Rattle.cudf_device.specs.Readers.{LeavesBehind, change, ReadsAll, IsUnfinished, IsTooLong, IsStopped, StopsInTime, OfOne, changes}
use Rattle.cudf_device.specs.declared.outcome.RunError.{RunError}
use Rattle.cudf_device.specs.declared.outcome.RunError.TheVariants.{Read, TooLong, Write}

-- readers in a row were read to their ends, up to the first one whose reading ended in an error
pub record ReadsInTurn {D T : Type 0} (state : D → SourceState) (olds news : List D) (texts : T → List (List ℕ)) (result : Result T RunError) : Type 0 where
  pub all : IfOk result (λ v. AllZip ReadsAll (changes state olds news) (texts v))
  pub too_long : IsErrOf result TooLong ↔ OfOne IsTooLong (changes state olds news)
  pub read : IsErrOf result Read ↔ OfOne IsUnfinished (changes state olds news)
  pub calls : All StopsInTime (changes state olds news)
  pub behind : LeavesBehind (λ old new. IsStopped (change state old new)) olds news
  pub no_write : result ≢ Err Write
