use Rattle.std.proofs.Common.{◌≡◌, Some, None, option_map, option_and_then, sym, ap, ◌∙◌}
use Rattle.std.proofs.lemmas.Result.{IfOk-weaker}
use Rattle.cudf_text.specs.Stanzas.{plain_text}
use Rattle.cudf_document.specs.Working.Details.{nothing_passed, found_in, found_view, found_detail}
use Rattle.cudf_document.proofs.DetailLemmas.{found_fault, no_text_detail, pair_fault}
use Rattle.cudf_document.proofs.details.of_fault.text_detail.Goals as goal

pub returns-then-is_of_pair : goal.returns-then-is_of_pair
returns-then-is_of_pair c =
    let whole = pair_fault (plain_text c.args.source.now) c.args.fault (sym c.if-is_of_pair.ensures) in
    IfOk-weaker c.earlier_package.result _ _ (λ d is. is ∙ whole) c.earlier_package.ensures

pub returns-then-not-is_of_stanza : goal.returns-then-not-is_of_stanza
returns-then-not-is_of_stanza c = no_text_detail (plain_text c.args.source.now) c.args.fault (sym c.if-is_of_pair.ensures) (sym c.if-not-is_of_stanza.ensures)

pub returns-in-Some : goal.returns-in-Some
returns-in-Some c =
    let text = plain_text c.args.source.now in
    let f = c.args.fault in
    let found : Some (found_view c.in-Some.found) ≡ found_in nothing_passed f.line text.stanzas =
    ap (option_map found_view) (sym c.in-Some.is) ∙ c.in_ok-found.ensures ∙ ap (λ t. found_in nothing_passed f.line t.stanzas) c.new.ensures in
    let whole = ap (option_and_then (found_detail f.kind f.line)) found ∙ found_fault text f (sym c.if-not-is_of_stanza.ensures) in
    IfOk-weaker c.stanza_fault_detail.result _ _ (λ d is. is ∙ whole) c.stanza_fault_detail.ensures

pub returns-in-None : goal.returns-in-None
returns-in-None c =
    let text = plain_text c.args.source.now in
    let f = c.args.fault in
    let found : None ≡ found_in nothing_passed f.line text.stanzas =
    ap (option_map found_view) (sym c.in-None.is) ∙ c.in_ok-found.ensures ∙ ap (λ t. found_in nothing_passed f.line t.stanzas) c.new.ensures in
    ap (option_and_then (found_detail f.kind f.line)) found ∙ found_fault text f (sym c.if-not-is_of_stanza.ensures)
