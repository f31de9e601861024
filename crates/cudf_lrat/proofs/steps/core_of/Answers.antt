use Rattle.std.proofs.Common.{◌≡◌, ◌+◌, ◌-◌, ◌≤◌, ℕ, false, get_or, filter, length, take, Vec, Global, ◌∙◌, length-take-le, arith}
use Rattle.std.specs.List.{range_with_len}
use Rattle.std.proofs.lemmas.List.{with_items_is}
use Rattle.std.proofs.lemmas.Result.{IfOk-weaker}
use Rattle.cudf_lrat.proofs.NeededLemmas.{core-chosen}
use Rattle.cudf_lrat.specs.Answers.{core}
use Rattle.cudf_lrat.specs.Working.Indices.{steps_in}
use Rattle.cudf_lrat.proofs.steps.core_of.Goals as goal

pub returns : goal.returns
returns c =
    let cnf = c.args.cnf.now in
    let steps = c.args.steps.now in
    let needed = c.mark_backwards.new.needed in
    let front = take c.len-given.result c.deref.result.now in
    let len : length needed ≡ c.in_ok-needed.needed.len = omega (arith, c.mark_backwards.auto.needed, c.deref_mut.ensures.len) in
    let all : c.in_ok-needed.needed.len ≡ c.len-given.result + c.len.result = c.in_ok-needed.ensures.len in
    let given : c.len-given.result ≡ length cnf.clauses = c.len-given.ensures in
    let fits : length cnf.clauses ≤ length needed = omega arith in
    let is : front ≡ take (length cnf.clauses) needed = λ i. take (given i) ((c.deref.ensures.value ∙ with_items_is c.in_ok-needed.needed needed len) i) in
    let size : length front ≡ length cnf.clauses = (λ i. length (is i)) ∙ length-take-le (length cnf.clauses) needed fits in
    IfOk-weaker c.needed_numbers.result (λ (v : Vec ℕ Global). v.items ≡ filter (λ n. get_or front (n - 1) false) (range_with_len 1 (length front))) (λ (v : Vec ℕ Global). v.items ≡ core cnf.clauses (steps_in cnf steps))
    (λ v h. core-chosen cnf steps needed front v.items c.mark_backwards.ensures is fits size h) c.needed_numbers.ensures
