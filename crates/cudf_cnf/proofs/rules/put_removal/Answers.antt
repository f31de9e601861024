use Rattle.std.proofs.Common.{[], map, ap, ◌∙◌}
use Rattle.cudf_value.specs.Promises.Views.{vpkg_view}
use Rattle.cudf_index.specs.Satisfaction.{meets_alone}
use Rattle.cudf_job.specs.KeyViews.{key_view}
use Rattle.cudf_cnf.specs.Cnf.{none_of}
use Rattle.cudf_cnf.specs.Working.Parts.{keyed}
use Rattle.cudf_cnf.proofs.PlaceLemmas.{found_places, put_as, unit, units_where}
use Rattle.cudf_cnf.proofs.rules.put_removal.Goals as goal

pub put_each_out-requires : goal.put_each_out-requires
put_each_out-requires c =
    found_places c.args.clauses.now.places (meets_alone (vpkg_view c.args.vpkg.now)) c.args.all.now c.deref.result.now c.requires (c.deref.ensures.value ∙ c.in_ok-all_meeting.ensures)

pub returns-clause-put : goal.returns-clause-put
returns-clause-put c =
    let test = meets_alone (vpkg_view c.args.vpkg.now) in
    let key = key_view c.args.key in
    let all = c.args.all.now in
    put_as c.put_each_out.result c.put_each_out.new.clauses.clauses c.args.clauses.now.clauses (map (unit key) c.deref.result.now) (keyed key (none_of [] test all))
    (ap (map (unit key)) (c.deref.ensures.value ∙ c.in_ok-all_meeting.ensures) ∙ units_where key test all)
    c.put_each_out.ensures.put
