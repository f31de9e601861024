-- The name and the version of a package.
use Rattle.std.proofs.Common.{◌≡◌, Bool, List, ◌++◌, Option, None, Some, is_none, unwrap_or, refl, ap, ◌∙◌, option_map}
use Rattle.cudf_text.specs.declared.fault.Kind.TheVariants.{E11, E12}
use Rattle.cudf_text.specs.Stanzas.{PlainProperty, PlainStanza}
use Rattle.cudf_document.specs.declared.package.Identity.{Identity}
use Rattle.cudf_problem.specs.declared.problem.Postmark.TheVariants.{Package}
use Rattle.cudf_document.specs.Faults.{fault_if}
use Rattle.std.specs.Option.{option_zip}
use Rattle.cudf_document.specs.Working.Judging.{id_under, line_of, version_property}
use Rattle.cudf_document.specs.Working.Identities.{IsIdentity, known_id}

pub known_id-is : (i : Identity) (ps : List PlainProperty) → IsIdentity i ps → known_id i ≡ id_under (Some Package) ps
known_id-is i ps it = λ k. option_zip (it.name_is k) (it.version_is k)

-- the faults of its name and version
pub version_faults : (is_repeated : Bool) (i : Identity) (s : PlainStanza) → IsIdentity i s.properties
    → fault_if is_repeated (unwrap_or i.version_line 0) E11 ++ fault_if (is_none i.version_line) s.last E12
    ≡ fault_if is_repeated (line_of (version_property s)) E11 ++ fault_if (is_none (version_property s)) s.last E12
version_faults is_repeated i s it = ap (λ l. fault_if is_repeated (unwrap_or l 0) E11 ++ fault_if (is_none l) s.last E12) it.line_is ∙ by (version_property s)
  where
    by : (v : Option PlainProperty) → fault_if is_repeated (unwrap_or (option_map (λ p. p.line) v) 0) E11 ++ fault_if (is_none (option_map (λ p. p.line) v)) s.last E12
        ≡ fault_if is_repeated (line_of v) E11 ++ fault_if (is_none v) s.last E12
    by None = refl
    by (Some p) = refl
