use Rattle.std.proofs.Common.{◌≡◌, [], ◌++◌, Some, not, bytes_eq, sym, ap, ◌∙◌, is_none}
use Rattle.std.proofs.lemmas.List.{append_assoc}
use Rattle.std.specs.List.{list_any, flat_map}
use Rattle.cudf_text.specs.declared.fault.Kind.TheVariants.{E11, E12, E14}
use Rattle.cudf_text.specs.Promises.Views.{stanza_view}
use Rattle.cudf_problem.specs.declared.problem.Postmark.TheVariants.{Package}
use Rattle.cudf_document.specs.Faults.{lesser, least, fault_if}
use Rattle.cudf_problem.specs.Documents.{with_earlier}
use Rattle.cudf_problem.specs.Ids.{is_known}
use Rattle.cudf_document.specs.Working.Judging.{id_under, line_of, lacks_one, version_property}
use Rattle.cudf_problem.specs.Promises.Packages.{with_id}
use Rattle.cudf_document.specs.ProblemFaults.{property_faults}
use Rattle.cudf_document.specs.Working.Walks.{texts}
use Rattle.cudf_document.proofs.FaultLemmas.{least-append}
use Rattle.cudf_document.proofs.IdentityLemmas.{known_id-is, version_faults}
use Rattle.cudf_problem.proofs.ListLemmas.{list_any-map}
use Rattle.cudf_document.proofs.NameLemmas.{lacks_one-seen}
use Rattle.cudf_document.proofs.problem.walk.ProblemState.take_package.Goals as goal

pub returns-clause-ids : goal.returns-clause-ids
returns-clause-ids c =
    c.in_ok-is_repeated.ensures.ids
    ∙ ap (with_id c.args.self.now.ids) (c.id.ensures ∙ known_id-is c.in_ok-identity.identity (stanza_view c.args.stanza.now).properties (c.in_ok-identity.ensures.same (stanza_view c.args.stanza.now).properties c.of.ensures))

pub returns-clause-fault : goal.returns-clause-fault
returns-clause-fault c =
    let s = stanza_view c.args.stanza.now in
    let ids = c.args.self.now.ids in
    let required = texts c.args.required.now in
    let inner = flat_map (property_faults c.args.self.now.declarations (Some Package)) (with_earlier [] s.properties) in
    let again = fault_if (is_known ids (id_under (Some Package) s.properties)) (line_of (version_property s)) E11 in
    let unversioned = fault_if (is_none (version_property s)) s.last E12 in
    let missing = fault_if (lacks_one required s.properties) s.last E14 in
    let repeated : c.in_ok-is_repeated.is_repeated ≡ is_known ids (id_under (Some Package) s.properties) =
    c.in_ok-is_repeated.ensures.is_known
    ∙ ap (is_known ids) (c.id.ensures ∙ known_id-is c.in_ok-identity.identity s.properties (c.in_ok-identity.ensures.same s.properties c.of.ensures)) in
    let lacks : c.lacks_one.result ≡ lacks_one required s.properties =
    c.lacks_one.ensures ∙ sym (list_any-map (λ name. name.now) (λ name. not (list_any (bytes_eq name) c.take_package.new.names)) c.args.required.now)
    ∙ lacks_one-seen c.take_package.new.names s.properties required c.in_ok-fault.ensures.names in
    let others : c.lesser-fault.result ≡ least (inner ++ (again ++ unversioned)) =
    c.lesser-fault.ensures ∙ (λ i. lesser (c.in_ok-fault.ensures.fault i) (c.package_fault.ensures i))
    ∙ ap (λ faults. lesser (least inner) (least faults))
    (version_faults c.in_ok-is_repeated.is_repeated c.in_ok-identity.identity s (c.in_ok-identity.ensures.same s.properties c.of.ensures)
    ∙ ap (λ b. fault_if b (line_of (version_property s)) E11 ++ unversioned) repeated)
    ∙ sym (least-append inner (again ++ unversioned)) in
    c.lesser.ensures
    ∙ (λ i. lesser ((c.fault_if-missing.ensures ∙ ap (λ b. least (fault_if b s.last E14)) lacks) i) (others i))
    ∙ sym (least-append missing (inner ++ (again ++ unversioned)))
    ∙ ap least (sym (append_assoc (missing ++ inner) again unversioned ∙ append_assoc missing inner (again ++ unversioned)))

pub returns-clause-kept : goal.returns-clause-kept
returns-clause-kept c = λ keeps before marked ds none so_far. c.in_ok-fault.ensures.kept keeps before marked ds (c.in_ok-identity.ensures.kept keeps before so_far)
