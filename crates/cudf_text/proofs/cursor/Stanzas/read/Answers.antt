use Rattle.std.proofs.Common.{ap, sym, ◌∙◌}
use Rattle.cudf_text.specs.Working.Left.{text_left}
use Rattle.cudf_text.specs.Working.Tracked.{plain_of}
use Rattle.cudf_text.proofs.TrackedLemmas.{nothing_kept, plain-next}
use Rattle.cudf_text.proofs.cursor.Stanzas.read.Goals as goal

pub returns-clause-read : goal.returns-clause-read
returns-clause-read c =
    sym c.self.view_is ∙ ap plain_of c.in_ok-next.ensures.read
    ∙ plain-next c.in_ok-next.next c.read_stanza.new.parts.items c.read_stanza.new.others.items c.keep_properties.new.kept.items (text_left c.in_ok-next.place)
    c.in_ok-keep_properties.ensures

pub returns-clause-nothing : goal.returns-clause-nothing
returns-clause-nothing c = λ end.
    nothing_kept c.read_stanza.new.parts.items c.read_stanza.new.others.items c.keep_properties.new.kept.items (c.in_ok-next.ensures.nothing end)
    c.in_ok-keep_properties.ensures
