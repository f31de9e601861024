use Rattle.std.proofs.Common.{◌≡◌, ◌+◌, ◌<◌, ◌≤◌, ◌∷◌, ◌++◌, [], map, length, set, arith, subst, ap, sym, ◌∙◌}
use Rattle.std.proofs.lemmas.Grind.{common_steps}
use Rattle.std.proofs.lemmas.List.{map-append}
use Rattle.cudf_device.proofs.InputsLemmas.{ReadSoFar, names-set, so_far_more, read_to_the_end, no_room_left, stopped}
use Rattle.cudf_device.proofs.input.read_each.Goals as goal

pub returns-in_err-text-clause-reads : goal.returns-in_err-text-clause-reads
returns-in_err-text-clause-reads g c =
    let below : c.loop-source.source-index < length c.loop-source.sources = omega arith in
    stopped _ _ _ _ _ _ _ _ c.read_all.result _ _ below c.loop-source.invariant.0 c.in_err-text.was
    c.read_all.ensures.too_long c.read_all.ensures.read c.read_all.ensures.calls c.read_all.ensures.no_write c.from_residual.ensures

pub returns-then-is_err-clause-reads : goal.returns-then-is_err-clause-reads
returns-then-is_err-clause-reads g c =
    let below : c.loop-source.source-index < length c.loop-source.sources = omega arith in
    let read = c.in_ok-text.ensures in
    no_room_left _ _ _ _ _ _ (so_far_more _ _ _ _ _ _ _ _ below c.loop-source.invariant.0
    (record { all = read.all; finished = λ h. absurd (cc (read.read.1 h)); short = λ h. absurd (cc (read.too_long.1 h)); calls = read.calls }))

pub loop-source-preserved : goal.loop-source-preserved
loop-source-preserved g c =
    let below : c.loop-source.source-index < length c.loop-source.sources = omega arith in
    let read = c.in_ok-text.ensures in
    let pushed : c.push.new.self.items ≡ c.loop-source.texts.items ++ c.in_ok-text.text ∷ [] = grind (arith, common_steps) in
    let texts = ap (map (λ b. b.items)) pushed ∙ map-append (λ b. b.items) c.loop-source.texts.items (c.in_ok-text.text ∷ []) in (
      subst (λ ts. ReadSoFar g.S.Source.state c.args.sources.now (set c.loop-source.sources c.loop-source.source-index c.read_all.new.source) (c.loop-source.source-index + 1) ts) (sym texts)
          (so_far_more _ _ _ _ _ _ _ _ below c.loop-source.invariant.0
          (record { all = read.all; finished = λ h. absurd (cc (read.read.1 h)); short = λ h. absurd (cc (read.too_long.1 h)); calls = read.calls })),
      names-set g.S.Source.state c.loop-source.sources c.loop-source.source-index c.read_all.new.source _ below read.named ∙ c.loop-source.invariant.1,
    )

pub returns-clause-reads : goal.returns-clause-reads
returns-clause-reads g c =
    let end : length c.loop-source.sources ≤ c.loop-source.source-index = omega arith in
    read_to_the_end _ _ _ _ _ _ end c.loop-source.invariant.0

pub returns-clause-named : goal.returns-clause-named
returns-clause-named g c = c.loop-source.invariant.1
