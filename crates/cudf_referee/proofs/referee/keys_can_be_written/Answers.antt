use Rattle.std.proofs.Common.{◌≡◌, ℕ, ◌<◌, ◌≤◌, ◌^◌, true, List, length, map, slice_index_or, arith, ap, sym, subst}
use Rattle.std.specs.Prelude.{All}
use Rattle.std.proofs.lemmas.List.Elements.{All-map}
use Rattle.cudf_problem.specs.declared.package.Package.{Package}
use Rattle.cudf_problem.specs.declared.problem.Request.{Request}
use Rattle.cudf_problem.specs.declared.solution.InstalledPair.{InstalledPair}
use Rattle.cudf_problem.specs.Statuses.{PlainUnknown, ascend_above}
use Rattle.cudf_problem.specs.Promises.Views.{unknown_view, package_view, request_view}
use Rattle.cudf_problem.specs.Universe.{PlainPackage, PlainRequest, PlainProblem}
use Rattle.cudf_index.specs.Satisfaction.{Placed}
use Rattle.cudf_referee.specs.Working.Walkers.{put_forward}
use Rattle.cudf_referee.specs.Working.Numbered.{IsListed, IsNumbered}
use Rattle.cudf_referee.proofs.referee.keys_can_be_written.Goals as goal

-- no more than a `u64` counts
short : (n : ℕ) → n ≤ 2 ^ 63 → n < 2 ^ 64
short n few = omega arith

listed : (p : Package) → IsListed (package_view p)
listed p = record { depends = short _ p.depends.few; conflicts = short _ p.conflicts.few; provides = short _ p.provides.few }

numbered : (problem : PlainProblem) (unknown : List PlainUnknown) (packages : List Package) (request : Request)
    → map package_view packages ≡ problem.packages → request_view request ≡ problem.request
    → All (λ u. u.stanza < 2 ^ 64) unknown → (proposed : List Placed) → length problem.packages < 2 ^ 64 → IsNumbered (put_forward problem proposed unknown)
numbered problem unknown packages request all asked stanzas proposed counted = record {
  packages = counted;
  each = subst (λ (ps : List PlainPackage). All IsListed ps) all (All-map IsListed package_view packages (λ k d inside. listed (slice_index_or packages k d)));
  install = omega (arith, ap (λ (r : PlainRequest). length r.install) asked, short _ request.install.few);
  remove = omega (arith, ap (λ (r : PlainRequest). length r.remove) asked, short _ request.remove.few);
  upgrade = omega (arith, ap (λ (r : PlainRequest). length r.upgrade) asked, short _ request.upgrade.few);
  stanzas = stanzas;
}

pub do_stanza_numbers_fit-requires : goal.do_stanza_numbers_fit-requires
do_stanza_numbers_fit-requires c = subst (λ (us : List InstalledPair). ascend_above 0 (map unknown_view us) ≡ true) (sym c.as_slice.ensures.value) c.requires

pub returns : goal.returns
returns c =
    numbered c.args.problem.now (map unknown_view c.args.solution.now.unknown.items) c.packages-packages.result.now c.request-request.result.now
    c.packages-packages.ensures.packages c.request-request.ensures
    (subst (λ (us : List InstalledPair). All (λ u. u.stanza < 2 ^ 64) (map unknown_view us)) c.as_slice.ensures.value c.do_stanza_numbers_fit.ensures)
