use Rattle.std.proofs.Common.{◌≡◌, true, false, not, ◌++◌, ◌∷◌, sym, ap, ◌∙◌}
use Rattle.std.specs.List.{list_any}
use Rattle.cudf_text.specs.Promises.Views.{property_view}
use Rattle.cudf_document.specs.Working.Judging.{same_name}
use Rattle.cudf_document.specs.Working.PackageFields.{fault_on, package_property_named, with_package_property}
use Rattle.cudf_document.proofs.BuilderLemmas.{not_swap}
use Rattle.cudf_document.proofs.NameLemmas.{find-first}
use Rattle.cudf_document.proofs.PackageLemmas.{package_fault, package_fields_of-repeated, package_fields_of-first}
use Rattle.cudf_document.proofs.package.read_property.Goals as goal

pub returns-then-not-branch-clause-fault : goal.returns-then-not-branch-clause-fault
returns-then-not-branch-clause-fault c = λ before later are identity.
    let p = property_view c.args.property.now in
    let again : list_any (same_name p) before ≡ true = sym (are p.name) ∙ not_swap _ _ c.in_ok-insert.ensures.is_new ∙ ap not c.if-not-branch.true in
    c.fault_on.ensures ∙ package_fault c.args.declarations.now before p true again

pub returns-then-not-branch-clause-read : goal.returns-then-not-branch-clause-read
returns-then-not-branch-clause-read c = λ before are read.
    let p = property_view c.args.property.now in
    let again : list_any (same_name p) before ≡ true = sym (are p.name) ∙ not_swap _ _ c.in_ok-insert.ensures.is_new ∙ ap not c.if-not-branch.true in
    read ∙ sym (package_fields_of-repeated c.args.declarations.now before p again)

pub returns-clause-fault : goal.returns-clause-fault
returns-clause-fault c = λ before later are identity.
    let p = property_view c.args.property.now in
    let new : list_any (same_name p) before ≡ false = sym (are p.name) ∙ not_swap _ _ c.in_ok-insert.ensures.is_new ∙ ap not c.if-not-branch.false in
    c.fault_on-2.ensures
    ∙ ap (fault_on p.line) (c.read_first-kind.ensures.kind (before ++ p ∷ later) identity (find-first before later p new))
    ∙ package_fault c.args.declarations.now before p false new

pub returns-clause-read : goal.returns-clause-read
returns-clause-read c = λ before are read.
    let p = property_view c.args.property.now in
    let new : list_any (same_name p) before ≡ false = sym (are p.name) ∙ not_swap _ _ c.in_ok-insert.ensures.is_new ∙ ap not c.if-not-branch.false in
    c.read_first-kind.ensures.read
    ∙ ap (with_package_property c.args.declarations.now (package_property_named p.name) p.value) read
    ∙ package_fields_of-first c.args.declarations.now before p new
