use Rattle.std.proofs.Common.{◌++◌, map, option_map, option_to_list, ap, ◌∙◌}
use Rattle.cudf_text.specs.Promises.Views.{stanza_view}
use Rattle.cudf_problem.specs.Promises.Views.{package_view}
use Rattle.cudf_document.specs.Working.Identities.{known_id}
use Rattle.cudf_document.specs.Working.PackageFields.{package_from}
use Rattle.cudf_document.proofs.IdentityLemmas.{known_id-is}
use Rattle.cudf_document.proofs.PartsLemmas.{package_kept}
use Rattle.cudf_document.proofs.problem.keeping.ProblemBuilder.take_package.Goals as goal

pub returns-clause-kept : goal.returns-clause-kept
returns-clause-kept c = λ keeps before marked ds so_far.
    let s = stanza_view c.args.stanza.now in
    let old = c.args.self.now in
    package_kept keeps c.args.declarations.now before s (known_id c.args.identity) old c.keep_package.new.self marked ds
    (known_id-is c.args.identity s.properties c.requires) so_far
    c.in_ok-keep_package.ensures.keeps
    (λ kept. c.in_ok-keep_package.ensures.packages kept
    ∙ ap (λ o. map package_view old.packages.items ++ option_to_list o)
    (c.into_package-read.ensures
    ∙ ap (λ fields. option_map (package_from s.line fields) (known_id c.args.identity))
    c.in_ok-fault.ensures.read))
    c.in_ok-keep_package.ensures.request
