use Rattle.std.proofs.Common.{true, false, sym, subst}
use Rattle.std.proofs.lemmas.Result.{IfOk-weaker}
use Rattle.cudf_value.specs.Promises.Views.{atom_view}
use Rattle.cudf_index.specs.Working.Places.{meets_atom_alone}
use Rattle.cudf_index.specs.Working.Questions.{PassesOrAsks}
use Rattle.cudf_index.proofs.ClauseLemmas.{none_added}
use Rattle.cudf_index.proofs.QuestionLemmas.{adds_asks, asks_instead}
use Rattle.cudf_index.proofs.index.Index.put_or_ask_atom.Goals as goal

pub returns-in-Yes : goal.returns-in-Yes
returns-in-Yes c =
    let asked = c.args.questions.now.items in
    IfOk-weaker c.put_members_unless_at.result _ _
    (λ is put. subst (λ a. PassesOrAsks is (meets_atom_alone (atom_view a)) c.args.own c.args.self.now c.args.places.now.items asked c.put_members_unless_at.new.places.items asked) (sym c.in-Yes.is) (asks_instead is (λ q. true) _ _ _ _ asked put))
    c.put_members_unless_at.ensures

pub returns-in-No : goal.returns-in-No
returns-in-No c =
    let asked = c.args.questions.now.items in
    subst (λ a. PassesOrAsks false (meets_atom_alone (atom_view a)) c.args.own c.args.self.now c.args.places.now.items asked c.args.places.now.items asked) (sym c.in-No.is)
    (adds_asks (λ q. false) c.args.self.now c.args.places.now.items c.args.places.now.items asked (none_added c.args.self.now c.args.places.now.items))

pub returns-in-Is : goal.returns-in-Is
returns-in-Is c =
    IfOk-weaker c.put_or_ask_vpkg.result _ _
    (λ is put. subst (λ a. PassesOrAsks is (meets_atom_alone (atom_view a)) c.args.own c.args.self.now c.args.places.now.items c.args.questions.now.items c.put_or_ask_vpkg.new.places.items c.put_or_ask_vpkg.new.questions.items) (sym c.in-Is.is) put)
    c.put_or_ask_vpkg.ensures
