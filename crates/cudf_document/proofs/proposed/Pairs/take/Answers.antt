use Rattle.std.proofs.Common.{option_map, refl}
use Rattle.cudf_text.specs.Promises.Views.{stanza_view}
use Rattle.cudf_document.proofs.PairLemmas.{ArePairs-strict}
use Rattle.cudf_document.proofs.proposed.Pairs.take.Goals as goal

pub returns-in_ok-is_repeated-in-Strict : goal.returns-in_ok-is_repeated-in-Strict
returns-in_ok-is_repeated-in-Strict c = λ mode seen id_is so_far.
    ArePairs-strict mode c.args.self.now (record { mode = c.args.self.now.mode; ids = c.insert_repeated.new.self; first = c.keep_lesser.new.first })
    seen (stanza_view c.args.stanza.now) (option_map (λ i. (i.0.now, i.1)) c.args.id) c.in_ok-is_repeated-in-Strict.is_repeated c.pair_fault-fault.result
    c.in-Strict.is id_is so_far c.in_ok-is_repeated-in-Strict.ensures.is_known c.pair_fault-fault.ensures
    refl c.in_ok-is_repeated-in-Strict.ensures.ids c.keep_lesser.ensures
