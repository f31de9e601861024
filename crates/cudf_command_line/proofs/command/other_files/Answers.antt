use Rattle.std.proofs.Common.{◌≡◌, ◌∷◌, ◌++◌, [], map, option_map, unwrap_or, sym, subst, arith}
use Rattle.std.proofs.lemmas.Grind.{common_steps}
use Rattle.cudf_command_line.specs.Command.{AreNamedBy, IsNamedBy, other_words}
use Rattle.cudf_command_line.proofs.FileLemmas.{one_more}
use Rattle.cudf_command_line.proofs.command.other_files.Goals as goal

pub returns : goal.returns
returns c =
    let words = option_map (λ ws. map (λ w. w.now) ws.now) c.args.words in
    let pushed : c.push.new.self.items ≡ c.in_ok-files.files.items ++ c.file_name.result ∷ [] = grind (arith, common_steps) in
    subst (λ last. AreNamedBy (other_words words (option_map (λ w. w.now) last)) c.push.new.self.items) (sym c.in-Some.is)
    (subst (λ files. AreNamedBy (unwrap_or words [] ++ c.in-Some.word.now ∷ []) files) (sym pushed)
    (one_more IsNamedBy (unwrap_or words []) c.in_ok-files.files.items c.in-Some.word.now c.file_name.result c.in_ok-files.ensures c.file_name.ensures))
