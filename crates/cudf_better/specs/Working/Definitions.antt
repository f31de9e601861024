-- Definitions of auxiliary variables as they are put, one after the other.
use Rattle.std.specs.Prelude.{◌≡◌, ◌<◌, ◌⊎◌, min, ℕ, ◌+◌, ◌-◌, ◌==◌, ◌&&◌, ◌||◌, Bool, nat_le, nat_lt, List, [], ◌∷◌, ◌++◌, length, map, drop, zip, true, false, Option, Some, None, if◌then◌else◌}
use Rattle.cudf_lrat.specs.declared.cnf.Literal.{Literal}
use Rattle.cudf_lrat.specs.Literals.{PlainCnf}
use Rattle.cudf_better.specs.Better.{Item, false_dnf, item, true_dnf}
use Rattle.cudf_better.specs.Cardinality.{AtMost, Dnf, Network, clauses_from, counter, defining_clauses, lexicographic_clauses, next_variable, strict_of}
use Rattle.cudf_cnf.specs.Cnf.{is_out}

-- clauses, and the next auxiliary variable
pub record PlainDefinitions : Type 0 where
  pub next : ℕ
  pub clauses : List (List Literal)

-- with clauses of the next variable's definition
abbrev pub with_terms : PlainDefinitions → Dnf → PlainDefinitions
with_terms g definition = record { next = g.next; clauses = g.clauses ++ defining_clauses g.next definition }

-- with the definitions of the next variables
abbrev pub with_definitions : PlainDefinitions → List Dnf → PlainDefinitions
with_definitions g definitions = record { next = g.next + length definitions; clauses = g.clauses ++ clauses_from g.next definitions }

-- a network's definitions are put, and its outputs added to others
pub record IsPut (net : Network) (g : PlainDefinitions) (before : List ℕ) (after : PlainDefinitions) (now : List ℕ) : Type 0 where
  pub definitions : after ≡ with_definitions g net.definitions
  pub outputs : now ≡ before ++ net.outputs

-- more variables before the next one than are allowed
abbrev pub IsOver : PlainDefinitions → Type 0
IsOver g = 2147483648 < g.next

-- the next one's definition is whole; 4294967295 stays the next one
abbrev pub ended : PlainDefinitions → PlainDefinitions
ended g = record g { next = min (g.next + 1) 4294967295 }

-- this was reached; or both have too many variables
abbrev pub Reaches : PlainDefinitions → PlainDefinitions → Type 0
Reaches whole now = (now ≡ whole) ⊎ (IsOver whole × IsOver now)

-- a network is put; or there are too many variables
abbrev pub Puts : Network → PlainDefinitions → List ℕ → PlainDefinitions → List ℕ → Type 0
Puts net g before after now = IsPut net g before after now ⊎ (IsOver (with_definitions g net.definitions) × IsOver after)

-- a variable for a formula
abbrev pub single : ℕ → Dnf → Network
single next formula = record { definitions = formula ∷ []; outputs = next ∷ [] }

-- what is still to be put of the whole
pub record IsRest (before : PlainDefinitions) (put : List ℕ) (whole : Network) (g : PlainDefinitions) (out : List ℕ) (rest : Network) : Type 0 where
  pub definitions : with_definitions before whole.definitions ≡ with_definitions g rest.definitions
  pub outputs : put ++ whole.outputs ≡ out ++ rest.outputs

abbrev pub Rests : PlainDefinitions → List ℕ → Network → PlainDefinitions → List ℕ → Network → Type 0
Rests before put whole g out rest = IsRest before put whole g out rest ⊎ (IsOver (with_definitions before whole.definitions) × IsOver g)

-- lists that are merged by their sums
abbrev pub is_direct : ℕ → List ℕ → List ℕ → Bool
is_direct depth xs ys = depth == 0 || (nat_le (length xs) 32 && nat_le (length ys) 32)

-- items, by the literals of which one is true, and those of which none is
abbrev pub items_of : List (List Literal) → List (List Literal) → List Item
items_of some none = map (λ p. item p.0 p.1) (zip some none)

-- that items are true, or that they aren't
abbrev pub formulas_of : Bool → List Item → List Dnf
formulas_of is_true items = map (if is_true then true_dnf else false_dnf) items

-- ---- constraints

abbrev pub with_clauses : PlainDefinitions → List (List Literal) → PlainDefinitions
with_clauses g clauses = record { next = g.next; clauses = g.clauses ++ clauses }

abbrev pub at_most : ℕ → List Dnf → AtMost
at_most most formulas = record { formulas = formulas; bound = most }

-- with a counter, and that its constraint is satisfied or one of the literals is true
abbrev pub with_constraint : PlainDefinitions → List Literal → AtMost → PlainDefinitions
with_constraint g strict constraint =
    let count = counter g.next constraint in
    with_clauses (with_definitions g count.definitions) (map (λ variable. strict ++ is_out variable ∷ []) (drop constraint.bound count.outputs))

-- with the clauses of constraints, unless one of the literals is true
abbrev pub with_constraints : PlainDefinitions → List Literal → List AtMost → PlainDefinitions
with_constraints g strict constraints = record { next = next_variable g.next constraints; clauses = g.clauses ++ lexicographic_clauses g.next strict constraints }

-- the literals that a constraint is strict were added to others; where there are none, it is in any case
pub record IsAdded (own : Option (List Literal)) (before now : List Literal) : Type 0 where
  pub literals : List Literal
  pub are : own ≡ Some literals
  pub added : now ≡ before ++ literals

abbrev pub IsStrict : Bool → Option (List Literal) → List Literal → List Literal → Type 0
IsStrict true own before now = IsAdded own before now
IsStrict false own before now = own ≡ None

-- a constraint's clauses are put; or there are too many variables
abbrev pub IsBounded : Bool → AtMost → PlainDefinitions → List Literal → PlainDefinitions → List Literal → Type 0
IsBounded more constraint g before after now =
    ((after ≡ with_constraint g before constraint) × IsStrict more (strict_of constraint.bound (counter g.next constraint).outputs) before now)
    ⊎ (IsOver (with_constraint g before constraint) × IsOver after)

-- more than 2147483647 variables before the next one, or more than 4294967295 clauses
abbrev pub has_too_many : PlainDefinitions → Bool
has_too_many d = nat_lt 2147483647 (d.next - 1) || nat_lt 4294967295 (length d.clauses)

-- these are the clauses, over the variables before the next one; or there are too many of either
abbrev pub IsMade : PlainDefinitions → Option PlainCnf → Type 0
IsMade d (Some made) = (has_too_many d ≡ false) × (made ≡ record { variables = d.next - 1; clauses = d.clauses })
IsMade d None = has_too_many d ≡ true
