-- The pairs of a solution's packages, one stanza after the other.
use Rattle.std.proofs.Common.{◌≡◌, Bool, ◌||◌, List, [], ◌∷◌, ◌++◌, Option, filter_map, refl, sym, ap, ◌∙◌}
use Rattle.std.proofs.lemmas.List.Elements.{filter_map-append}
use Rattle.std.proofs.lemmas.List.Folds.{list_any-append}
use Rattle.std.specs.List.{cons_option}
use Rattle.cudf_text.specs.declared.fault.Fault.{Fault}
use Rattle.cudf_text.specs.declared.fault.Kind.TheVariants.{E15}
use Rattle.cudf_text.specs.Stanzas.{PlainStanza}
use Rattle.cudf_problem.specs.declared.problem.Mode.{Mode}
use Rattle.cudf_problem.specs.declared.problem.Mode.TheVariants.{Lenient, Strict}
use Rattle.cudf_document.specs.declared.proposed.Pairs.{Pairs}
use Rattle.cudf_document.specs.Faults.{lesser, least, fault_if}
use Rattle.cudf_problem.specs.Ids.{Id, is_id, is_among, is_known, id_of}
use Rattle.cudf_problem.specs.Promises.Packages.{with_id}
use Rattle.cudf_document.specs.ProblemFaults.{repeated_package_faults}
use Rattle.cudf_document.specs.Working.Pairs.{ArePairs}
use Rattle.cudf_document.specs.Working.Judging.{line_of, version_property}
use Rattle.cudf_document.proofs.BuilderLemmas.{with_id-append, is_known-along}
use Rattle.cudf_document.proofs.FaultLemmas.{faults-next}

-- the pairs that are picked of some stanzas, and of one more
pub picked-push : (pick : PlainStanza → Option Id) (ids : List Id) (seen : List PlainStanza) (s : PlainStanza)
    → ((id : Id) → is_among ids id ≡ is_among (filter_map pick seen) id)
    → (id : Id) → is_among (with_id ids (pick s)) id ≡ is_among (filter_map pick (seen ++ s ∷ [])) id
picked-push pick ids seen s so_far id =
    with_id-append ids (pick s) id ∙ list_any-append (is_id id) ids (cons_option (pick s) [])
    ∙ ap (λ b. b || is_among (cons_option (pick s) []) id) (so_far id)
    ∙ sym (list_any-append (is_id id) (filter_map pick seen) (cons_option (pick s) []))
    ∙ ap (λ l. is_among l id) (sym (filter_map-append pick seen (s ∷ [])))

-- strictly one more does
pub ArePairs-strict : (mode : Mode) (old new : Pairs) (seen : List PlainStanza) (s : PlainStanza) (id : Option Id) (is_repeated : Bool) (fault : Option Fault)
    → old.mode ≡ Strict → id ≡ id_of s → ArePairs mode seen old
    → is_repeated ≡ is_known old.ids id → fault ≡ least (fault_if is_repeated (line_of (version_property s)) E15)
    → new.mode ≡ old.mode → new.ids ≡ with_id old.ids id → new.first ≡ lesser old.first fault
    → ArePairs mode (seen ++ s ∷ []) new
ArePairs-strict Lenient old new seen s id is_repeated fault strict id_is so_far repeated_is fault_is mode_is ids_is first_is = absurd (let lenient = so_far.mode_is in cc)
ArePairs-strict Strict old new seen s id is_repeated fault strict id_is so_far repeated_is fault_is mode_is ids_is first_is =
    let repeated : is_repeated ≡ is_known (filter_map id_of seen) (id_of s) =
    repeated_is ∙ ap (is_known old.ids) id_is ∙ is_known-along old.ids (filter_map id_of seen) (id_of s) (so_far.ids_are refl) in
    record {
      mode_is = mode_is ∙ strict;
      first_is = first_is ∙ faults-next (repeated_package_faults E15) seen s old.first fault so_far.first_is
          (fault_is ∙ ap (λ b. least (fault_if b (line_of (version_property s)) E15)) repeated);
      ids_are = λ strictly id. ap (λ ids. is_among ids id) (ids_is ∙ ap (with_id old.ids) id_is) ∙ picked-push id_of old.ids seen s (so_far.ids_are refl) id;
    }
