use Rattle.std.proofs.Common.{Some, None, not, find, map, bytes_eq, subst, ap, ◌∙◌}
use Rattle.std.specs.List.{list_any}
use Rattle.cudf_text.specs.Promises.Views.{property_view, stanza_view}
use Rattle.cudf_document.specs.Working.SeenNames.{AreNames}
use Rattle.cudf_document.proofs.DetailLemmas.{lacking-is}
use Rattle.cudf_document.proofs.details.mistyped.missing_name_detail.Goals as goal

pub returns-in-Some : goal.returns-in-Some
returns-in-Some c =
    let seen = c.in_ok-seen.seen in
    lacking-is c.args.declarations.now (stanza_view c.args.stanza.now) seen (map (λ n. n.now) c.in_ok-required.required.items) (Some c.in-Some.name.now)
    c.in_ok-required.ensures (subst (λ ps. AreNames seen (map property_view ps)) c.deref.ensures.value c.in_ok-seen.ensures)
    (c.in-Some.ensures ∙ ap (λ ns. find (λ name. not (list_any (bytes_eq name) seen)) (map (λ n. n.now) ns)) c.deref-2.ensures.value)

pub returns : goal.returns
returns c =
    let seen = c.in_ok-seen.seen in
    lacking-is c.args.declarations.now (stanza_view c.args.stanza.now) seen (map (λ n. n.now) c.in_ok-required.required.items) None
    c.in_ok-required.ensures (subst (λ ps. AreNames seen (map property_view ps)) c.deref.ensures.value c.in_ok-seen.ensures)
    (c.in-None.ensures ∙ ap (λ ns. find (λ name. not (list_any (bytes_eq name) seen)) (map (λ n. n.now) ns)) c.deref-2.ensures.value)
