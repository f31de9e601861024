-- What contracts see of a position in the walk: own.
use Rattle.cudf_referee.specs.declared.referee.instances.Position.{Position}
use Rattle.cudf_referee.specs.declared.referee.instances.Position.TheVariants.{Start, At, End}
use Rattle.cudf_job.specs.KeyViews.{key_view}
use Rattle.cudf_referee.specs.Promises.Stops.{PlainPosition, at_start, at_key, at_end}

abbrev pub position_view : Position → PlainPosition
position_view Start = at_start
position_view (At key) = at_key (key_view key)
position_view End = at_end
