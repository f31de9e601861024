use Rattle.std.proofs.Common.{◌∙◌}
use Rattle.cudf_text.specs.Promises.Views.{stanza_view}
use Rattle.cudf_document.proofs.ExtraLemmas.{strictly_undeclared, leniently_undeclared}
use Rattle.cudf_document.proofs.proposed.package.DeclaredNames.undeclared_fault.Goals as goal

pub returns-in-Strict : goal.returns-in-Strict
returns-in-Strict c = λ mode names seen are.
    c.first_undeclared.ensures ∙ strictly_undeclared mode names seen c.args.self.now (stanza_view c.args.stanza.now).properties are c.in-Strict.is

pub returns-in-Lenient : goal.returns-in-Lenient
returns-in-Lenient c = λ mode names seen are.
    leniently_undeclared mode names seen c.args.self.now (stanza_view c.args.stanza.now).properties are c.in-Lenient.is
