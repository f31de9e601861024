use Rattle.std.proofs.Common.{◌≡◌, ap, sym, ◌∙◌, Some, Ok, decimal}
use Rattle.std.specs.Result.{result_ok}
use Rattle.std.proofs.lemmas.Bool.{true≢false}
use Rattle.std.proofs.lemmas.Slice.Eq.{bytes_eq-Decides}
use Rattle.std.proofs.lemmas.Fmt.{parse-decimal}
use Rattle.cudf_job.proofs.key.reading.read_number.Goals as goal

pub returns-in_err-number-clause-exact : goal.returns-in_err-number-clause-exact
returns-in_err-number-clause-exact c = λ number small printed.
    let parsed : c.parse.result ≡ Ok number = parse-decimal 64 number c.args.text.now c.parse.result small small (sym printed) c.parse.ensures.value.0 in
    let found : c.ok.result ≡ Some number = c.ok.ensures.value ∙ ap result_ok parsed in
    absurd (cc (sym found ∙ c.in_err-number.was))

pub returns-then-eq-clause-exact : goal.returns-then-eq-clause-exact
returns-then-eq-clause-exact c = λ number small printed.
    let parsed : c.parse.result ≡ Ok number = parse-decimal 64 number c.args.text.now c.parse.result small small (sym printed) c.parse.ensures.value.0 in
    let found : c.ok.result ≡ Some number = c.ok.ensures.value ∙ ap result_ok parsed in
    sym c.in_ok-number.was ∙ found

pub returns-else-eq-clause-exact : goal.returns-else-eq-clause-exact
returns-else-eq-clause-exact c = λ number small printed.
    let parsed : c.parse.result ≡ Ok number = parse-decimal 64 number c.args.text.now c.parse.result small small (sym printed) c.parse.ensures.value.0 in
    let found : c.ok.result ≡ Some number = c.ok.ensures.value ∙ ap result_ok parsed in
    let value : Some c.in_ok-number.number ≡ Some number = sym c.in_ok-number.was ∙ found in
    let same : c.in_ok-number.number ≡ number = cc value in
    let text : c.format.result.now ≡ c.args.text.now = c.format.ensures.text ∙ ap decimal same ∙ printed in
    absurd (true≢false (sym ((bytes_eq-Decides c.format.result.now c.args.text.now).1 text) ∙ sym c.eq.ensures ∙ c.if-eq.false))
