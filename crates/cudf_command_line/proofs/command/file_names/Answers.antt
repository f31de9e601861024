use Rattle.std.proofs.Common.{◌≡◌, ◌+◌, ◌<◌, ◌∷◌, ◌++◌, [], map, take, length, sym, subst, arith}
use Rattle.std.proofs.lemmas.Grind.{common_steps}
use Rattle.cudf_command_line.specs.Command.{AreNamedBy, IsNamedBy}
use Rattle.cudf_command_line.proofs.FileLemmas.{taken_more}
use Rattle.cudf_command_line.proofs.command.file_names.Goals as goal

pub loop-word-preserved : goal.loop-word-preserved
loop-word-preserved c =
    let words = c.in-Some.words.now in
    let below : c.loop-word.word-index < length words = omega arith in
    let pushed : c.push.new.self.items ≡ c.loop-word.names.items ++ c.file_name.result ∷ [] = grind (arith, common_steps) in
    subst (λ names. AreNamedBy (map (λ w. w.now) (take (c.loop-word.word-index + 1) words)) names) (sym pushed)
    (taken_more (λ w. w.now) IsNamedBy words c.loop-word.word-index _ c.loop-word.names.items c.file_name.result below c.loop-word.invariant c.file_name.ensures)
