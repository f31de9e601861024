-- The names that are declared, while the stanzas of a solution are read.
use Rattle.std.proofs.Common.{◌≡◌, ℕ, suc, arith, nat_eq, Bool, true, false, not, ◌||◌, List, [], ◌∷◌, ◌++◌, map, length, Option, None, Some, Bor, refl, sym, ap, ◌∙◌, bytes_eq, if◌then◌else◌}
use Rattle.std.proofs.lemmas.Bool.Decides.{nat_tests}
use Rattle.std.proofs.lemmas.List.Folds.{list_any-append}
use Rattle.std.specs.List.{list_any, flat_map}
use Rattle.cudf_text.specs.declared.fault.Kind.TheVariants.{E8}
use Rattle.cudf_text.specs.Stanzas.{PlainProperty, PlainStanza}
use Rattle.cudf_value.specs.Declarations.{PlainDeclaration}
use Rattle.cudf_value.specs.Types.{is_one_of}
use Rattle.cudf_problem.specs.declared.problem.Mode.{Mode}
use Rattle.cudf_problem.specs.declared.problem.Mode.TheVariants.{Lenient, Strict}
use Rattle.cudf_problem.specs.declared.problem.Postmark.{Postmark}
use Rattle.cudf_problem.specs.declared.problem.Postmark.TheVariants.{Package}
use Rattle.cudf_problem.specs.Documents.{is_empty, marks}
use Rattle.cudf_problem.specs.Preamble.{reserved_names, declared, declared_names}
use Rattle.cudf_document.specs.declared.proposed.package.DeclaredNames.{DeclaredNames}
use Rattle.cudf_document.specs.Faults.{least, fault_if}
use Rattle.cudf_document.specs.SolutionFaults.{undeclared_in_solution}
use Rattle.cudf_document.specs.Working.Enums.{AreWords}
use Rattle.cudf_document.specs.Working.DeclaredNames.{is_extra, AreExtras, is_known_name, names_with}
use Rattle.cudf_document.specs.Working.Judging.{is_declared}
use Rattle.cudf_problem.proofs.ListLemmas.{list_any-map}
use Rattle.cudf_document.proofs.NameLemmas.{bytes_eq-sym}

-- ---- the names of the problem

pub words_known : (words : List (Bor (List ℕ))) (names known : List (List ℕ)) → AreWords words names → map (λ w. w.now) words ≡ known
    → (name : List ℕ) → list_any (bytes_eq name) names ≡ list_any (bytes_eq name) known
words_known words names known are is name =
    are name ∙ ap (λ ws. is_one_of ws name) is ∙ (λ i. list_any (λ word. bytes_eq-sym word name i) known)

-- ---- one more stanza

still_declared : (seen : List PlainStanza) (s : PlainStanza) → is_empty seen ≡ false → declared seen ≡ declared (seen ++ s ∷ [])
still_declared [] s none = absurd cc
still_declared (x ∷ seen) s some = refl

first_declared : (seen : List PlainStanza) (s : PlainStanza) → is_empty seen ≡ true → declared (s ∷ []) ≡ declared (seen ++ s ∷ [])
first_declared [] s none = refl
first_declared (x ∷ seen) s some = absurd cc

pub none_seen : (seen : List PlainStanza) → nat_eq (length seen) 0 ≡ is_empty seen
none_seen [] = refl
none_seen (x ∷ seen) = after (length seen)
  where
    after : (n : ℕ) → nat_eq (suc n) 0 ≡ false
    after n = grind (arith, nat_tests)

-- a later one declares nothing
pub Extras-later : (mode : Mode) (names : List (List ℕ)) (seen : List PlainStanza) (s : PlainStanza) (e : DeclaredNames)
    → is_empty seen ≡ false → AreExtras mode names seen e → AreExtras mode names (seen ++ s ∷ []) e
Extras-later mode names seen s e later are = record {
  mode_is = are.mode_is;
  names_are = are.names_are;
  own_are = λ strict. are.own_are strict ∙ still_declared seen s later;
}

-- leniently nothing is kept
pub Extras-lenient : (mode : Mode) (names : List (List ℕ)) (seen : List PlainStanza) (s : PlainStanza) (e : DeclaredNames)
    → e.mode ≡ Lenient → AreExtras mode names seen e → AreExtras mode names (seen ++ s ∷ []) e
Extras-lenient mode names seen s e lenient are = record {
  mode_is = are.mode_is;
  names_are = are.names_are;
  own_are = λ strict. absurd (let m = are.mode_is in cc);
}

-- strictly the first one does
pub Extras-first : (mode : Mode) (names : List (List ℕ)) (seen : List PlainStanza) (s : PlainStanza) (old : DeclaredNames) (own : List PlainDeclaration)
    → is_empty seen ≡ true → own ≡ declared (s ∷ []) → AreExtras mode names seen old
    → AreExtras mode names (seen ++ s ∷ []) (record { mode = old.mode; of_problem = old.of_problem; own = own })
Extras-first mode names seen s old own first own_is are = record {
  mode_is = are.mode_is;
  names_are = are.names_are;
  own_are = λ strict. own_is ∙ first_declared seen s first;
}

-- ---- names that aren't declared

or_assoc : (a b c : Bool) → ((a || b) || c) ≡ (a || (b || c))
or_assoc true b c = refl
or_assoc false b c = refl

-- what is known is what is declared
extra_known : (mode : Mode) (names : List (List ℕ)) (seen : List PlainStanza) (e : DeclaredNames) → AreExtras mode names seen e → mode ≡ Strict
    → (name : List ℕ) → is_extra e name ≡ is_known_name (names_with names seen) name
extra_known mode names seen e are strict name =
    or_assoc (list_any (bytes_eq name) reserved_names) (list_any (bytes_eq name) e.of_problem) (is_declared e.own name)
    ∙ ap (λ b. list_any (bytes_eq name) reserved_names || b)
    ((λ i. are.names_are strict name i || own i) ∙ sym (list_any-append (bytes_eq name) names (declared_names seen)))
  where
    own : is_declared e.own name ≡ list_any (bytes_eq name) (declared_names seen)
    own = ap (λ ds. is_declared ds name) (are.own_are strict) ∙ sym (list_any-map (λ d. d.name) (bytes_eq name) (declared seen))

pub strictly_undeclared : (mode : Mode) (names : List (List ℕ)) (seen : List PlainStanza) (e : DeclaredNames) (ps : List PlainProperty) → AreExtras mode names seen e → e.mode ≡ Strict
    → least (flat_map (λ p. fault_if (not (is_extra e p.name)) p.line E8) ps) ≡ least (undeclared_in_solution mode (names_with names seen) (Some Package) ps)
strictly_undeclared mode names seen e ps are is =
    let strict : mode ≡ Strict = sym are.mode_is ∙ is in
    (λ i. least (flat_map (λ p. fault_if (not (extra_known mode names seen e are strict p.name i)) p.line E8) ps))
    ∙ ap (λ m. least (undeclared_in_solution m (names_with names seen) (Some Package) ps)) (sym strict)

pub leniently_undeclared : (mode : Mode) (names : List (List ℕ)) (seen : List PlainStanza) (e : DeclaredNames) (ps : List PlainProperty) → AreExtras mode names seen e → e.mode ≡ Lenient
    → None ≡ least (undeclared_in_solution mode (names_with names seen) (Some Package) ps)
leniently_undeclared mode names seen e ps are is =
    ap (λ m. least (undeclared_in_solution m (names_with names seen) (Some Package) ps)) (sym is ∙ are.mode_is)

-- where there is no package, none is reported
pub nothing_undeclared : (mode : Mode) (names : List (List ℕ)) (mark : Option Postmark) (ps : List PlainProperty) → marks Package mark ≡ false
    → [] ≡ undeclared_in_solution mode names mark ps
nothing_undeclared Lenient names mark ps other = refl
nothing_undeclared Strict names mark ps other =
    ap (λ b. if b then flat_map (λ p. fault_if (not (is_known_name names p.name)) p.line E8) ps else []) (sym other)
