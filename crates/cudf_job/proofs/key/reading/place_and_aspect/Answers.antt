use Rattle.std.proofs.Common.{Some, sym, ◌∙◌}
use Rattle.cudf_job.proofs.KeyTextLemmas.{with_aspect, without_aspect, none_isnt_some, some_is}
use Rattle.cudf_job.proofs.key.reading.place_and_aspect.Goals as goal

pub returns-in_err-read_number-in-Some-clause-exact :
    goal.returns-in_err-read_number-in-Some-clause-exact
returns-in_err-read_number-in-Some-clause-exact c = λ n a small same.
    let cut = with_aspect c.args.text.now c.in-Some.place.now c.in-Some.aspect.now n a small same c.in-Some.ensures.first (λ plain. none_isnt_some (c.in-Some.place, c.in-Some.aspect) (sym (c.in-Some.ensures.none plain))) in
    absurd (none_isnt_some n (c.in_err-read_number-in-Some.ensures.exact n small (sym cut.2)))

pub returns-in_err-parse-in-Some-clause-exact : goal.returns-in_err-parse-in-Some-clause-exact
returns-in_err-parse-in-Some-clause-exact c = λ n a small same.
    let cut = with_aspect c.args.text.now c.in-Some.place.now c.in-Some.aspect.now n a small same c.in-Some.ensures.first (λ plain. none_isnt_some (c.in-Some.place, c.in-Some.aspect) (sym (c.in-Some.ensures.none plain))) in
    absurd (none_isnt_some cut.0 (c.in_err-parse-in-Some.ensures.exact cut.0 (sym cut.3)))

pub returns-in_err-read_number-in-None-clause-exact :
    goal.returns-in_err-read_number-in-None-clause-exact
returns-in_err-read_number-in-None-clause-exact c = λ n a small same.
    let whole = without_aspect c.args.text.now n a small same c.in-None.ensures.first in
    absurd (none_isnt_some n (c.in_err-read_number-in-None.ensures.exact n small whole.1))

pub returns-in_ok-parse-in-Some-clause-exact : goal.returns-in_ok-parse-in-Some-clause-exact
returns-in_ok-parse-in-Some-clause-exact c = λ n a small same.
    let cut = with_aspect c.args.text.now c.in-Some.place.now c.in-Some.aspect.now n a small same c.in-Some.ensures.first (λ plain. none_isnt_some (c.in-Some.place, c.in-Some.aspect) (sym (c.in-Some.ensures.none plain))) in
    let number = some_is c.in_ok-read_number-in-Some.field-0 n (c.in_ok-read_number-in-Some.ensures.exact n small (sym cut.2)) in
    let aspect = c.in_ok-parse-in-Some.ensures.exact cut.0 (sym cut.3) ∙ sym cut.1 in
    λ i. Some (number i, aspect i)

pub returns-in_ok-read_number-in-None-clause-exact :
    goal.returns-in_ok-read_number-in-None-clause-exact
returns-in_ok-read_number-in-None-clause-exact c = λ n a small same.
    let whole = without_aspect c.args.text.now n a small same c.in-None.ensures.first in
    let number = some_is c.in_ok-read_number-in-None.field-0 n (c.in_ok-read_number-in-None.ensures.exact n small whole.1) in
    λ i. Some (number i, sym whole.0 i)
