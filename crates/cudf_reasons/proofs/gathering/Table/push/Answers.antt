use Rattle.std.proofs.Common.{List, ◌∙◌, ap, ◌++◌, ◌∷◌, []}
use Rattle.cudf_job.specs.KeyViews.{key_view}
use Rattle.cudf_reasons.specs.Reasons.{PlainReason}
use Rattle.cudf_reasons.proofs.TableLemmas.{pushed, reason}
use Rattle.cudf_reasons.proofs.gathering.Table.push.Goals as goal

pub returns : goal.returns
returns c = record {
  ok =
      pushed c.self.inside.places.items c.args.named.now c.args.met.now c.extend_from_slice.new.self.items c.extend_from_slice-2.new.self.items c.self.inside.rows.items c.push.new.self.items _ c.self.invariant
      c.in_ok-extend_from_slice.ensures.items c.in_ok-extend_from_slice-2.ensures.items c.in_ok-push.ensures.items
      (c.len-start.ensures ∙ c.self.inside.places.ok.0) (c.len-middle.ensures ∙ c.extend_from_slice.new.self.ok.0) (c.len-end.ensures ∙ c.extend_from_slice-2.new.self.ok.0)
      ∙ ap (λ (rs : List PlainReason). rs ++ reason (key_view c.args.key) c.args.named.now c.args.met.now ∷ []) c.self.view_is;
}
