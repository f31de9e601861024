use Rattle.std.proofs.Common.{ap, sym, ◌∙◌}
use Rattle.std.specs.Prelude.{option_map}
use Rattle.cudf_value.specs.Promises.Views.{vpkg_view, vpkgs_view}
use Rattle.cudf_referee.specs.Working.Before.{kept_greatest, with_entries}
use Rattle.cudf_referee.proofs.BeforeLemmas.{pairs_none, entries-step}
use Rattle.cudf_referee.proofs.referee.NumberedNames.add_entries.Goals as goal

pub loop-entry-preserved-in-Continue-1 : goal.loop-entry-preserved-in-Continue-1
loop-entry-preserved-in-Continue-1 c = λ f.
    let entry = c.in-Some.entry in
    let old = kept_greatest f c.loop-entry.self in
    entries-step f (vpkg_view entry) (vpkgs_view c.next.new.self) (entry.name.now, c.in-Some-bound.number) old (kept_greatest f c.add.new.self)
    (ap (option_map (λ bound. (entry.name.now, bound.1))) c.in-Some-bound.is) (c.in_ok-add.ensures f)
    ∙ ap (λ es. with_entries f es old) (sym c.in-Some.ensures.steps) ∙ c.loop-entry.invariant f

pub returns : goal.returns
returns c = λ f.
    let old = kept_greatest f c.loop-entry.self in
    sym (pairs_none f old) ∙ ap (λ es. with_entries f es old) (sym c.in-None.ensures.steps.0) ∙ c.loop-entry.invariant f
