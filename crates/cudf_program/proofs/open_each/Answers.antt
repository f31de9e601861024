use Rattle.std.proofs.Common.{◌≡◌, ◌≤◌, ◌⊎◌, ◌+◌, ◌<◌, ◌∷◌, ◌++◌, [], IfSome, Some, count_by, cond, drop, take, length, get_or, map, option_map, inl, ap, sym, ◌∙◌, subst, arith}
use Rattle.std.proofs.lemmas.Grind.{common_steps}
use Rattle.std.proofs.lemmas.List.{map-append}
use Rattle.std.specs.List.{AllZip}
use Rattle.cudf_device.specs.Promises.NamedInside.{name_of}
use Rattle.std.specs.Option.{option_to_list}
use Rattle.cudf_command_line.specs.Command.{is_standard}
use Rattle.cudf_command_line.specs.declared.command.FileName.{FileName}
use Rattle.cudf_command_line.specs.declared.command.FileName.TheVariants.{Path}
use Rattle.cudf_command_line.proofs.FileLemmas.{next_taken}
use Rattle.cudf_program.specs.Inputs.{IsFirstUnopened, IsHeldBy, IsOpenedAs, label, left_of}
use Rattle.cudf_program.proofs.FileLemmas.{counted, enough_behind, first_unopened, held_from, labelled-more, refused, same_behind, there}
use Rattle.cudf_program.specs.declared.failure.Failure.TheVariants.{Memory}
use Rattle.cudf_program.proofs.open_each.Goals as goal

-- what stands for a name at a place after the last one
abbrev no_name : FileName
no_name = Path (record { ref_ptr = (0, 0); now = [] })

pub open_named-requires : goal.open_named-requires
open_named-requires g c =
    let names = c.args.names.now in
    let i = c.loop-name.name-index in
    let below : i < length names = omega arith in
    there (get_or names i no_name) c.loop-name.standard (count_by is_standard (drop (i + 1) names)) (omega (arith, counted names i no_name below, c.loop-name.invariant.enough))

pub returns-in_err-reader-clause-opened : goal.returns-in_err-reader-clause-opened
returns-in_err-reader-clause-opened g c =
    let opens = g.R.System.opens c.args.rt.now in
    let standard = option_map g.S.Read.remaining c.args.standard.now in
    let names = c.args.names.now in
    let i = c.loop-name.name-index in
    let left = left_of g.R.File.Read.remaining g.S.Read.remaining in
    let below : i < length names = omega arith in
    refused (λ readers. AllZip (IsOpenedAs opens standard left) names readers.items) (λ failure. IsFirstUnopened opens names failure ⊎ (failure ≡ Memory)) c.in_err-reader.field-0.0 c.from_residual.result
    c.from_residual.ensures
    (inl (first_unopened opens standard left names i no_name c.loop-name.readers.items c.in_err-reader.field-0.0 below c.loop-name.invariant.opened c.in_err-reader.ensures.opened))

pub loop-name-preserved : goal.loop-name-preserved
loop-name-preserved g c =
    let opens = g.R.System.opens c.args.rt.now in
    let start = c.args.standard.now in
    let now = c.loop-name.standard in
    let names = c.args.names.now in
    let i = c.loop-name.name-index in
    let name = get_or names i no_name in
    let left = left_of g.R.File.Read.remaining g.S.Read.remaining in
    let below : i < length names = omega arith in
    let pushed : c.push.new.self.items ≡ c.loop-name.readers.items ++ c.in_ok-reader.reader ∷ [] = grind (arith, common_steps) in
    let held : IsHeldBy opens (option_map g.S.Read.remaining start) name (left c.in_ok-reader.reader) =
    held_from opens g.S.Read.remaining start now name (left c.in_ok-reader.reader) c.loop-name.invariant.same c.in_ok-reader.ensures.opened in
    let enough : cond (is_standard name) 1 0 + count_by is_standard (drop (i + 1) names) ≤ length (option_to_list now) =
    omega (arith, counted names i no_name below, c.loop-name.invariant.enough) in
    record {
      opened = subst (λ devices. AllZip (IsOpenedAs opens (option_map g.S.Read.remaining start) left) (take (i + 1) names) devices) (sym pushed)
          (next_taken (IsOpenedAs opens (option_map g.S.Read.remaining start) left) names i no_name c.loop-name.readers.items c.in_ok-reader.reader below c.loop-name.invariant.opened held);
      enough = subst (λ standard. count_by is_standard (drop (i + 1) names) ≤ length (option_to_list standard)) (sym c.in_ok-reader.ensures.left)
          (enough_behind name now (count_by is_standard (drop (i + 1) names)) enough);
      same = subst (λ standard. IfSome standard (λ given. start ≡ Some given)) (sym c.in_ok-reader.ensures.left) (same_behind start now name c.loop-name.invariant.same);
      named = ap (map name_of) pushed ∙ map-append name_of c.loop-name.readers.items (c.in_ok-reader.reader ∷ [])
          ∙ (λ k. c.loop-name.invariant.named k ++ c.in_ok-reader.ensures.named k ∷ []) ∙ labelled-more (label c.args.names_files) names i no_name below;
    }
