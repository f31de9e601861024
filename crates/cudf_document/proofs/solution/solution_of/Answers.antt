use Rattle.std.proofs.Common.{◌≡◌, List, map, take, refl, sym, subst, ◌∙◌, arith}
use Rattle.std.proofs.lemmas.List.{take_all}
use Rattle.cudf_text.specs.Stanzas.{PlainStanza}
use Rattle.cudf_problem.specs.Promises.Statuses.{installed_stanzas}
use Rattle.cudf_problem.specs.Promises.Views.{unknown_view}
use Rattle.cudf_document.specs.Working.InstalledFlags.{IsPlaced, IsSolutionOf}
use Rattle.cudf_problem.proofs.ListLemmas.{map_next-copied}
use Rattle.cudf_document.proofs.PlacedLemmas.{IsSolutionOf-placed}
use Rattle.cudf_document.proofs.solution.solution_of.Goals as goal

pub loop-stanza-preserved : goal.loop-stanza-preserved
loop-stanza-preserved c =
    let items = c.installed-stanza-items.result.now in
    let i = c.loop-stanza.stanza-index in
    subst (λ us. IsPlaced c.args.problem.now us c.add.new.self) (sym (map_next-copied unknown_view items items i _ c.loop-stanza-test.true refl))
    (c.in_ok-add.ensures (map unknown_view (take i items)) c.loop-stanza.invariant)

pub returns : goal.returns
returns c =
    let problem = c.args.problem.now in
    let items = c.installed-stanza-items.result.now in
    let placed = subst (λ us. IsPlaced problem (map unknown_view us) c.loop-stanza.placed) (take_all c.loop-stanza.stanza-index items (omega arith)) c.loop-stanza.invariant in
    let solution : (stanzas : List PlainStanza) → c.args.proposed ≡ installed_stanzas stanzas
    → IsSolutionOf problem stanzas (record { status = c.from_flags.result; unknown = c.loop-stanza.placed.unknown }) =
    λ stanzas is. IsSolutionOf-placed problem stanzas (map unknown_view items) c.loop-stanza.placed _ (c.installed-stanza-items.ensures ∙ is) placed c.from_flags.ensures refl in
    record {
      status = λ stanzas is. (solution stanzas is).status;
      within = λ stanzas is. (solution stanzas is).within;
      unknown = λ stanzas is. (solution stanzas is).unknown;
      ascending = λ stanzas is. (solution stanzas is).ascending;
      outside = λ stanzas is. (solution stanzas is).outside;
    }
