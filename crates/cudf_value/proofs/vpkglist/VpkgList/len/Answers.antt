use Rattle.std.proofs.Common.{◌+◌, ◌==◌, count_by, ap, sym, ◌∙◌}
use Rattle.std.specs.Str.{byte}
use Rattle.cudf_value.proofs.LeftLemmas.{list_length}
use Rattle.cudf_value.proofs.vpkglist.VpkgList.len.Goals as goal

pub returns-clause-len : goal.returns-clause-len
returns-clause-len c =
    ap (λ n. n + 1) (c.comma_count.ensures.value ∙ ap (count_by (λ b. b == byte ",")) c.as_bytes.ensures.value)
    ∙ list_length c.args.self.text.now (sym c.is_empty.ensures ∙ c.if-is_empty.false) c.args.self.sound
