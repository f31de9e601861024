-- Lists that are one after the other.
use Rattle.std.specs.Prelude.{List, map, slice_range}
use Rattle.cudf_lrat.specs.declared.cnf.Lists.{Lists}

-- the lists, in order
abbrev pub lists_in : {T : Type 0} → Lists T → List (List T)
lists_in lists = map (λ span. slice_range lists.items.items span.start span.end) lists.spans.items
