-- What contracts see of packages, of a request and of unknown stanzas.
use Rattle.std.specs.Prelude.{option_map}
use Rattle.cudf_value.specs.Promises.Views.{formula_view, list_view}
use Rattle.cudf_problem.specs.declared.package.Package.{Package}
use Rattle.cudf_problem.specs.declared.problem.Request.{Request}
use Rattle.cudf_problem.specs.Universe.{PlainPackage, PlainRequest}
use Rattle.cudf_problem.specs.declared.solution.InstalledPair.{InstalledPair}
use Rattle.cudf_problem.specs.Statuses.{PlainUnknown}

abbrev pub package_view : Package → PlainPackage
package_view p = record {
  line = p.line;
  name = p.name.now;
  version = p.version;
  depends = formula_view p.depends;
  conflicts = list_view p.conflicts;
  provides = list_view p.provides;
  installed = p.installed;
  keep = p.keep;
  recommends = option_map formula_view p.recommends;
}

abbrev pub request_view : Request → PlainRequest
request_view r = record { line = r.line; install = list_view r.install; remove = list_view r.remove; upgrade = list_view r.upgrade }

abbrev pub unknown_view : InstalledPair → PlainUnknown
unknown_view u = record { stanza = u.stanza; line = u.line; name = u.name.now; version = u.version }
