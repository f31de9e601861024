use Rattle.std.proofs.Common.{◌≡◌, Some, None, option_map, sym, ap, ◌∙◌}
use Rattle.cudf_text.specs.Stanzas.{plain_text}
use Rattle.cudf_document.specs.Working.Details.{nothing_passed, found_in, found_view}
use Rattle.cudf_document.proofs.DetailLemmas.{pair_found}
use Rattle.cudf_document.proofs.details.invalid.pair_of.Goals as goal

pub returns-in-Some : goal.returns-in-Some
returns-in-Some c =
    let ss = (plain_text c.args.source.now).stanzas in
    let found : Some (found_view c.in-Some.found) ≡ found_in nothing_passed c.args.line ss =
    ap (option_map found_view) (sym c.in-Some.is) ∙ c.in_ok-found.ensures ∙ ap (λ t. found_in nothing_passed c.args.line t.stanzas) c.new.ensures in
    c.id_of.ensures ∙ pair_found c.args.line ss (Some (found_view c.in-Some.found)) found

pub returns-in-None : goal.returns-in-None
returns-in-None c =
    let ss = (plain_text c.args.source.now).stanzas in
    pair_found c.args.line ss None
    (ap (option_map found_view) (sym c.in-None.is) ∙ c.in_ok-found.ensures ∙ ap (λ t. found_in nothing_passed c.args.line t.stanzas) c.new.ensures)
