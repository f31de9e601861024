use Rattle.std.proofs.Common.{refl, ◌++◌, map, ◌∙◌}
use Rattle.cudf_value.specs.Promises.Views.{vpkg_view}
use Rattle.cudf_index.specs.Satisfaction.{meets_alone}
use Rattle.cudf_job.specs.KeyViews.{key_view}
use Rattle.cudf_cnf.specs.Cnf.{is_in, one_of}
use Rattle.cudf_cnf.proofs.PlaceLemmas.{found_places, one_of-where, one_put}
use Rattle.cudf_cnf.proofs.rules.put_meeting.Goals as goal

pub put_one_of-requires-clause-places : goal.put_one_of-requires-clause-places
put_one_of-requires-clause-places c =
    found_places c.args.clauses.now.places (meets_alone (vpkg_view c.args.vpkg.now)) c.args.all.now c.deref.result.now c.requires (c.deref.ensures.value ∙ c.in_ok-all_meeting.ensures)

pub returns-clause-put : goal.returns-clause-put
returns-clause-put c =
    let test = meets_alone (vpkg_view c.args.vpkg.now) in
    let all = c.args.all.now in
    one_put c.put_one_of.result c.put_one_of.new.clauses.clauses c.args.clauses.now.clauses (key_view c.args.key) (key_view c.args.key) (c.clear.new.self.items ++ map is_in c.deref.result.now) (one_of test all)
    refl ((λ i. c.clear.ensures.items i ++ map is_in ((c.deref.ensures.value ∙ c.in_ok-all_meeting.ensures) i)) ∙ one_of-where test all) c.put_one_of.ensures.put
