use Rattle.std.proofs.Common.{◌++◌, Some, map, ap, sym, ◌∙◌}
use Rattle.std.proofs.lemmas.List.{append-nil}
use Rattle.cudf_value.specs.declared.vpkg.Relop.TheVariants.{Lt}
use Rattle.cudf_index.specs.Promises.Places.{gives_number}
use Rattle.cudf_job.specs.KeyViews.{key_view}
use Rattle.cudf_cnf.specs.Working.Parts.{keyed, lower_by}
use Rattle.cudf_cnf.proofs.PlaceLemmas.{found_places, put_as, unit, units_where}
use Rattle.cudf_cnf.proofs.rules.put_lower.Goals as goal

pub put_each_out-requires : goal.put_each_out-requires
put_each_out-requires c =
    found_places c.args.clauses.now.places (gives_number c.args.name.now (Some (Lt, c.in-Some.number))) c.args.all.now c.deref.result.now c.requires (c.deref.ensures.value ∙ c.in_ok-all_giving.ensures)

pub returns-in_default-clause-put : goal.returns-in_default-clause-put
returns-in_default-clause-put c =
    sym (append-nil c.args.clauses.now.clauses) ∙ ap (λ greatest. c.args.clauses.now.clauses ++ keyed (key_view c.args.key) (lower_by c.args.all.now c.args.name.now greatest)) (sym c.in_default.is)

pub returns-clause-put : goal.returns-clause-put
returns-clause-put c =
    let test = gives_number c.args.name.now (Some (Lt, c.in-Some.number)) in
    let key = key_view c.args.key in
    let all = c.args.all.now in
    put_as c.put_each_out.result c.put_each_out.new.clauses.clauses c.args.clauses.now.clauses (map (unit key) c.deref.result.now) (keyed key (lower_by all c.args.name.now c.args.greatest))
    (ap (map (unit key)) (c.deref.ensures.value ∙ c.in_ok-all_giving.ensures) ∙ units_where key test all ∙ ap (λ greatest. keyed key (lower_by all c.args.name.now greatest)) (sym c.in-Some.is))
    c.put_each_out.ensures.put
