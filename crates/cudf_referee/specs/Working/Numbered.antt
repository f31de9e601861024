-- The numbers of keys: places in lists that memory holds, and numbers of stanzas.
use Rattle.std.specs.Prelude.{◌<◌, ◌^◌, All, length}
use Rattle.cudf_problem.specs.Universe.{PlainPackage}
use Rattle.cudf_referee.specs.Proposals.{Proposal}

-- the lists of a package
pub record IsListed (p : PlainPackage) : Type 0 where
  pub depends : length p.depends < 2 ^ 64
  pub conflicts : length p.conflicts < 2 ^ 64
  pub provides : length p.provides < 2 ^ 64

-- all of them are those of a `u64`
pub record IsNumbered (s : Proposal) : Type 0 where
  pub packages : length s.problem.packages < 2 ^ 64
  pub each : All IsListed s.problem.packages
  pub install : length s.problem.request.install < 2 ^ 64
  pub remove : length s.problem.request.remove < 2 ^ 64
  pub upgrade : length s.problem.request.upgrade < 2 ^ 64
  pub stanzas : All (λ u. u.stanza < 2 ^ 64) s.unknown
