use Rattle.std.proofs.Common.{◌≡◌, ◌∷◌, map, refl, arith}
use Rattle.std.proofs.lemmas.List.{append-nil}
use Rattle.std.proofs.lemmas.Grind.{put_two}
use Rattle.cudf_value.specs.Promises.Views.{atom_view, clause_view}
use Rattle.cudf_value.proofs.PrintingLemmas.{clause_text_whole}
use Rattle.cudf_value.proofs.vpkg.ClauseDisplay.fmt.Goals as goal

pub returns-clause-writes : goal.returns-clause-writes
returns-clause-writes g c = λ plain ok.
    let first = c.in_ok-write.ensures.writes plain refl in
    let all : clause_view c.args.self.now ≡ atom_view c.in-Some.first ∷ map atom_view c.loop-atom.yielded = grind (arith, append-nil) in
    put_two _ _ _ _ _ _ _ first (c.loop-atom.invariant.1 first.plain) (clause_text_whole c.in-Some.first c.loop-atom.yielded (clause_view c.args.self.now) all)
