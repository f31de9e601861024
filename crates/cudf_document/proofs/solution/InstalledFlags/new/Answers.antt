use Rattle.std.proofs.Common.{◌≡◌, length, replicate, false, map, sym, ap, ◌∙◌}
use Rattle.std.proofs.lemmas.List.{length-map}
use Rattle.cudf_problem.specs.Promises.Views.{package_view, unknown_view}
use Rattle.cudf_problem.specs.Universe.{package_id}
use Rattle.cudf_document.specs.Working.InstalledFlags.{ids_of}
use Rattle.cudf_document.proofs.PlacedLemmas.{none_flagged}
use Rattle.cudf_document.proofs.solution.InstalledFlags.new.Goals as goal

pub returns : goal.returns
returns c =
    let packages = c.packages.result.now in
    let len : length packages ≡ length (ids_of c.args.problem.now) =
    sym (length-map packages package_view) ∙ ap length c.packages.ensures.packages ∙ sym (length-map c.args.problem.now.packages package_id) in
    record {
      flags_are = c.in_ok-unset_flags.ensures ∙ ap (λ n. replicate n false) len ∙ none_flagged (ids_of c.args.problem.now);
      unknown_are = ap (map unknown_view) c.new.ensures.items;
    }
