use Rattle.std.proofs.Common.{◌≡◌, length, replicate, [], None, map, refl, sym, ap, ◌∙◌}
use Rattle.std.proofs.lemmas.List.{length-map}
use Rattle.cudf_text.specs.Promises.Cursor.{with_next}
use Rattle.cudf_text.specs.Promises.Views.{property_view}
use Rattle.cudf_text.specs.Stanzas.{PlainStanza}
use Rattle.cudf_problem.specs.Promises.Views.{package_view}
use Rattle.cudf_document.proofs.LineLemmas.{no_lines, LinesSoFar-next}
use Rattle.cudf_document.proofs.solution.stanza_lines.Goals as goal

pub stanzas-init : goal.stanzas-init
stanzas-init c =
    let packages = c.packages.result.now in
    let len : length packages ≡ length c.args.problem.now.packages = sym (length-map packages package_view) ∙ ap length c.packages.ensures.packages in
    record { seen = []; lines_are = c.in_ok-lines.ensures ∙ ap (λ n. replicate n None) len ∙ no_lines c.args.problem.now.packages; whole = refl }

pub stanzas-preserved : goal.stanzas-preserved
stanzas-preserved c =
    let s : PlainStanza = record { line = c.in-Stanza.line; last = c.in-Stanza.last; properties = map property_view c.next.new.properties.items } in
    LinesSoFar-next c.args.problem.now.packages c.stanzas.lines.items c.keep_line.new.lines.items c.stanzas.stanzas c.next.new.self c.args.stanzas s c.stanzas.invariant
    (c.in_ok-line.ensures.read ∙ ap (λ n. with_next n c.next.new.properties.items c.next.new.self) c.in-Stanza.is) c.keep_line.ensures
