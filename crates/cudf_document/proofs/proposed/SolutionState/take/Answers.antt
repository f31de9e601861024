use Rattle.std.proofs.Common.{◌≡◌, ◌+◌, ◌++◌, ◌∷◌, [], nat_eq, option_map, refl, ap, ◌∙◌}
use Rattle.cudf_text.specs.Promises.Views.{stanza_view}
use Rattle.cudf_problem.specs.Documents.{is_empty}
use Rattle.cudf_document.proofs.ExtraLemmas.{none_seen}
use Rattle.cudf_document.proofs.ProposedLemmas.{IsRead-next}
use Rattle.cudf_document.proofs.proposed.SolutionState.take.Goals as goal

pub returns : goal.returns
returns c = λ mode names seen so_far.
    let s = stanza_view c.args.stanza.now in
    let is_first : nat_eq c.args.self.now.number 0 ≡ is_empty seen = ap (λ n. nat_eq n 0) so_far.number_is ∙ none_seen seen in
    let extras = c.in_ok-take.ensures mode names seen is_first so_far.extras_are in
    IsRead-next mode names c.args.self.now (record { extras = c.take.new.self; first = c.lesser-self.result; pairs = c.take-2.new.self; number = c.args.self.now.number + 1; installed = c.push_installed.new.installed })
    seen s c.read_stanza-said.result.fault (option_map (λ id. (id.0.now, id.1)) c.read_stanza-said.result.installed) so_far extras
    (c.in_ok-take-2.ensures mode seen c.read_stanza-said.ensures.id so_far.pairs_are) (c.read_stanza-said.ensures.fault mode names (seen ++ s ∷ []) extras)
    c.lesser-self.ensures c.read_stanza-said.ensures.installed refl c.in_ok-push_installed.ensures
