-- Properties out of place.
use Rattle.std.proofs.Common.{◌≡◌, ℕ, Bool, false, List, [], ◌∷◌, ◌++◌, None, Some, refl, sym, ap, ◌∙◌}
use Rattle.std.specs.List.{flat_map}
use Rattle.cudf_text.specs.declared.fault.Kind.TheVariants.{E16}
use Rattle.cudf_text.specs.Stanzas.{PlainProperty}
use Rattle.cudf_problem.specs.declared.problem.Mode.{Mode}
use Rattle.cudf_problem.specs.declared.problem.Mode.TheVariants.{Lenient, Strict}
use Rattle.cudf_problem.specs.declared.problem.Postmark.TheVariants.{Package}
use Rattle.cudf_document.specs.declared.names.DocumentKind.{DocumentKind}
use Rattle.cudf_document.specs.declared.names.DocumentKind.TheVariants.{Problem, Solution}
use Rattle.cudf_document.specs.Faults.{least, fault_if}
use Rattle.cudf_document.specs.ProblemFaults.{misplaced_faults}
use Rattle.cudf_document.specs.Working.Misplaced.{misplaces}

-- where each name has a meaning, none is
pub nothing_misplaced : (mode : Mode) (ps : List PlainProperty) → [] ≡ misplaced_faults mode (λ name. false) ps
nothing_misplaced Lenient ps = refl
nothing_misplaced Strict [] = refl
nothing_misplaced Strict (p ∷ ps) = nothing_misplaced Strict ps

-- and so there is no first fault
pub none_misplaced : (test : List ℕ → Bool) (ps : List PlainProperty) → ((name : List ℕ) → test name ≡ false)
    → None ≡ least (flat_map (λ p. fault_if (test p.name) p.line E16) ps)
none_misplaced test [] meant = refl
none_misplaced test (p ∷ ps) meant =
    none_misplaced test ps meant ∙ ap (λ b. least (fault_if b p.line E16 ++ flat_map (λ q. fault_if (test q.name) q.line E16) ps)) (sym (meant p.name))

-- of a package, and where there is no postmark, each has one
pub meant_in_package : (document : DocumentKind) (name : List ℕ) → misplaces document (Some Package) name ≡ false
meant_in_package Problem name = refl
meant_in_package Solution name = refl

pub meant_unmarked : (document : DocumentKind) (name : List ℕ) → misplaces document None name ≡ false
meant_unmarked Problem name = refl
meant_unmarked Solution name = refl
