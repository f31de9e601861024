use Rattle.std.proofs.Common.{option_copied, sym, ◌∙◌}
use Rattle.cudf_value.specs.Promises.Views.{vpkg_view}
use Rattle.cudf_value.proofs.EntryLemmas.{begun_parts, begun_value}
use Rattle.cudf_value.proofs.entry.first_entry.Goals as goal

pub returns-then-ends_entry-clause-part : goal.returns-then-ends_entry-clause-part
returns-then-ends_entry-clause-part c =
    begun_parts (vpkg_view c.in-Some.vpkg) c.args.text.now c.in-Some.rest.now (option_copied c.after_comma.result) c.in-Some.ensures.begins c.after_comma.ensures

pub returns-then-ends_entry-clause-entry : goal.returns-then-ends_entry-clause-entry
returns-then-ends_entry-clause-entry c =
    c.exact_where_asked.ensures
    ∙ sym (begun_value c.args.exact (vpkg_view c.in-Some.vpkg) c.args.text.now c.in-Some.rest.now (option_copied c.after_comma.result) c.in-Some.ensures.begins c.after_comma.ensures)
