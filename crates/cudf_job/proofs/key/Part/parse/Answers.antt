use Rattle.std.proofs.Common.{◌≡◌, ◌<◌, ◌^◌, decimal, sym, Some, None, lit<}
use Rattle.std.proofs.lemmas.Str.Pattern.{strip_prefix_char}
use Rattle.cudf_job.specs.declared.key.Part.TheVariants.{Package, Request, Solution}
use Rattle.cudf_job.specs.Keys.{part_place, part_row}
use Rattle.cudf_job.proofs.key.Part.parse.Goals as goal

pub returns-in_err-strip_prefix-in_default-clause-exact : goal.returns-in_err-strip_prefix-in_default-clause-exact
returns-in_err-strip_prefix-in_default-clause-exact c = λ part. elim part as (λ p. part_place p < 2 ^ 64 → (part_row p).1 ≡ c.args.text.now → c.from_residual.result ≡ Some p) [
  | Package n ↦ λ small printed. absurd (strip_prefix_char 112 c.args.text.now None c.in_err-strip_prefix-in_default.ensures.cases (lit< tt) (decimal n) (sym printed))
  | Request ↦ λ small printed. absurd (c.in_default.not-r (sym printed))
  | Solution ↦ λ small printed. absurd (c.in_default.not-s (sym printed))
]
