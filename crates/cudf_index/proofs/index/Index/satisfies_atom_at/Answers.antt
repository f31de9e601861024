use Rattle.std.proofs.Common.{ap, sym, ◌∙◌}
use Rattle.std.specs.Option.{is_some}
use Rattle.cudf_problem.proofs.ListLemmas.{is_some-option_map}
use Rattle.cudf_value.specs.Promises.Views.{atom_view, vpkg_view}
use Rattle.cudf_index.specs.Working.Members.{member_view}
use Rattle.cudf_index.specs.Working.Places.{meets_atom_alone, passes_at}
use Rattle.cudf_index.proofs.ClauseLemmas.{alone_passes, here_passes, passes_never}
use Rattle.cudf_index.proofs.index.Index.satisfies_atom_at.Goals as goal

pub returns-in-Yes : goal.returns-in-Yes
returns-in-Yes c =
    c.is_some.ensures ∙ sym (is_some-option_map member_view c.member.result) ∙ ap is_some c.member.ensures ∙ here_passes c.args.place c.args.self.now
    ∙ ap (λ a. passes_at (meets_atom_alone (atom_view a)) c.args.place c.args.self.now) (sym c.in-Yes.is)

pub returns-in-No : goal.returns-in-No
returns-in-No c = sym (passes_never c.args.place c.args.self.now) ∙ ap (λ a. passes_at (meets_atom_alone (atom_view a)) c.args.place c.args.self.now) (sym c.in-No.is)

pub returns-in-Is : goal.returns-in-Is
returns-in-Is c =
    c.satisfies_at.ensures ∙ alone_passes (vpkg_view c.in-Is.vpkg) c.args.place c.args.self.now
    ∙ ap (λ a. passes_at (meets_atom_alone (atom_view a)) c.args.place c.args.self.now) (sym c.in-Is.is)
