-- What contracts see of a `Key`: own.
use Rattle.cudf_job.specs.declared.key.Key.{Key}
use Rattle.cudf_job.specs.Keys.{PlainKey}

-- a key by its parts
abbrev pub key_view : Key → PlainKey
key_view k = record { part = k.part; rule = k.rule; place = k.place; aspect = k.aspect }
