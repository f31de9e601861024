use Rattle.std.proofs.Common.{ap, sym, ◌∙◌, ◌++◌, cond, not, ◌∷◌, [], bytes_eq}
use Rattle.std.proofs.lemmas.Cmp.{nat_list_eq_equiv}
use Rattle.cudf_problem.specs.Documents.{is_empty}
use Rattle.cudf_index.specs.Working.Gathering.{row_of, has_row}
use Rattle.cudf_index.proofs.FoundLemmas.{row_grown}
use Rattle.cudf_index.proofs.GatheringLemmas.{filled-push}
use Rattle.cudf_index.proofs.index.gathered_names.GatheredNames.add.Goals as goal

pub returns-clause-rows : goal.returns-clause-rows
returns-clause-rows c = λ f.
    row_grown c.args.name.now f c.number_of.new.self.names.keys c.number_of.new.self.rows.items c.in_ok-number.number c.index_mut.result.now c.push.new.self c.args.provision
    c.in_ok-number.ensures.lengths c.in_ok-number.ensures.number c.in_ok-number.ensures.within c.index_mut.ensures.value c.in_ok-push.ensures
    ∙ ap (λ row. row ++ cond (bytes_eq c.args.name.now f) (c.args.provision ∷ []) []) (c.in_ok-number.ensures.rows f)

pub returns-clause-filled : goal.returns-clause-filled
returns-clause-filled c = λ filled f.
    let row = row_of f c.args.self.now in
    c.in_ok-number.ensures.names f
    ∙ filled-push row c.args.provision (has_row f c.args.self.now) (bytes_eq f c.args.name.now) (filled f)
    ∙ ap (λ b. not (is_empty (row ++ cond b (c.args.provision ∷ []) []))) (nat_list_eq_equiv.symm f c.args.name.now)
    ∙ ap (λ r. not (is_empty r)) (sym (returns-clause-rows c f))
