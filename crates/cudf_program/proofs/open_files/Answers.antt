use Rattle.std.proofs.Common.{◌≡◌, map, option_map, subst}
use Rattle.cudf_device.specs.Promises.NamedInside.{name_of}
use Rattle.std.specs.List.{AllZip}
use Rattle.cudf_program.specs.Inputs.{IsHeldBy, IsOpenedAs, label, left_of}
use Rattle.cudf_program.proofs.FileLemmas.{each_weaker, held_before, held_behind}
use Rattle.cudf_program.proofs.open_files.Goals as goal

pub returns-clause-others : goal.returns-clause-others
returns-clause-others g c =
    let opens = g.R.System.opens c.args.rt.now in
    let standard = g.S.Read.remaining in
    let left = left_of g.R.File.Read.remaining standard in
    let order = c.args.order in
    let given = option_map standard c.args.standard in
    let tried = c.expect_open.new.standard in
    let behind = option_map standard c.open_named.new.standard in
    each_weaker (IsOpenedAs opens behind left) (IsOpenedAs opens given left)
    (λ name device h. held_before opens given (option_map standard tried) name (left device) c.expect_open.ensures.untouched
    (held_behind opens standard order.problem tried name (left device)
    (subst (λ now. IsHeldBy opens (option_map standard now) name (left device)) c.in_ok-problem.ensures.left h)))
    order.others.items c.in_ok-others.others.items
    (subst (λ names. AllZip (IsOpenedAs opens behind left) names c.in_ok-others.others.items) c.deref.ensures.value c.in_ok-others.ensures.opened)

pub returns-clause-named : goal.returns-clause-named
returns-clause-named g c =
    let order = c.args.order in
    λ k. record {
      first = c.in_ok-problem.ensures.named k;
      others = subst (λ names. map name_of c.in_ok-others.others.items ≡ map (label order.names_files) names) c.deref.ensures.value c.in_ok-others.ensures.named k;
    }
