use Rattle.cudf_index.proofs.FoundLemmas.{row_new}
use Rattle.cudf_index.proofs.index.gathered_names.GatheredNames.number_of.Goals as goal

pub returns-then-is_new-clause-rows : goal.returns-then-is_new-clause-rows
returns-then-is_new-clause-rows c = λ f.
    row_new f c.args.self.now.names.keys c.insert_full.new.self.keys c.args.self.now.rows.items c.push.new.self.items c.args.name c.none.result c.in_ok-number.is_new
    c.requires c.in_ok-number.ensures.added c.if-is_new.true c.in_ok-number.ensures.keys c.in_ok-push.ensures.items c.none.ensures
