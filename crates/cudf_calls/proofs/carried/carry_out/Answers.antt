use Rattle.std.proofs.Common.{refl, subst}
use Rattle.std.specs.List.{All}
use Rattle.std.specs.Str.{IsUtf8}
use Rattle.cudf_calls.specs.Calls.{names_of}
use Rattle.cudf_calls.proofs.CallLemmas.{does_long, does_named, does_none, does_report, explained}
use Rattle.cudf_calls.proofs.carried.carry_out.Goals as goal

pub write_report-requires : goal.write_report-requires
write_report-requires c = subst (λ documents. All IsUtf8 (names_of documents)) c.in-Some.ensures.cases.0 c.requires

pub returns-in_default : goal.returns-in_default
returns-in_default c = does_none c.args.order.now c.args.documents.now _ c.in_default.ensures.cases (explained _ _ c.show.ensures.status c.show.ensures.shows)

pub returns-then-others-len : goal.returns-then-others-len
returns-then-others-len c =
    does_named c.args.order.now c.args.documents.now _ _ _ c.in-Some.ensures.cases.0 c.len.result c.len.ensures c.if-others-len.true
    (explained _ _ c.show-then-others-len.ensures.status c.show-then-others-len.ensures.shows)

pub returns-then-not-are_short : goal.returns-then-not-are_short
returns-then-not-are_short c =
    does_long c.args.order.now c.args.documents.now _ _ _ c.in-Some.ensures.cases.0 c.len.result c.len.ensures c.if-others-len.false c.if-not-are_short.ensures
    (record { status_is = c.refuse.ensures.status; length_is = c.refuse.ensures.length; kept = refl })

pub returns : goal.returns
returns c =
    does_report c.args.order.now c.args.documents.now _ _ _ c.in-Some.ensures.cases.0 c.len.result c.len.ensures c.if-others-len.false c.if-not-are_short.ensures c.write_report.ensures
