use Rattle.std.proofs.Common.{sym, ◌∙◌}
use Rattle.std.proofs.lemmas.Result.{on_ok_weaker}
use Rattle.cudf_text.specs.Promises.Views.{stanza_view}
use Rattle.cudf_document.proofs.ExtraLemmas.{Extras-later, Extras-lenient, Extras-first}
use Rattle.cudf_document.proofs.proposed.package.DeclaredNames.take.Goals as goal

pub returns-then-not-is_first : goal.returns-then-not-is_first
returns-then-not-is_first c = λ mode names seen first are.
    Extras-later mode names seen (stanza_view c.args.stanza.now) c.args.self.now (sym first ∙ c.if-not-is_first.true) are

pub returns-in-Lenient : goal.returns-in-Lenient
returns-in-Lenient c = λ mode names seen first are.
    Extras-lenient mode names seen (stanza_view c.args.stanza.now) c.args.self.now c.in-Lenient.is are

pub returns-in-Strict : goal.returns-in-Strict
returns-in-Strict c = λ mode names seen first are.
    on_ok_weaker c.declare_first.result
    (λ own. Extras-first mode names seen (stanza_view c.args.stanza.now) c.args.self.now c.declare_first.new.declarations (sym first ∙ c.if-not-is_first.false) own are)
    c.declare_first.ensures
