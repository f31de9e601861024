-- Cardinality constraints as clauses: that at most so many of some formulas are true, by auxiliary variables with numbers
-- behind those that are there. The counter is a sorting network: Batcher's odd-even merging (K. Batcher, Sorting networks and
-- their applications, 1968). Own: only as many outputs as a bound asks for, short lists merged by their sums, and of each
-- definition only the direction that makes the variable true.
use Rattle.std.specs.Prelude.{ℕ, zero, suc, ◌+◌, ◌-◌, ◌^◌, ◌&&◌, min, nat_le, if◌then◌else◌, List, [], ◌∷◌, ◌++◌, length, map, take, drop, slice_get, Option, Some, option_map}
use Rattle.std.specs.Option.{option_map_or}
use Rattle.std.specs.List.{flat_map, enumerate_from, range_with_len}
use Rattle.cudf_lrat.specs.declared.cnf.Literal.{Literal}
use Rattle.cudf_lrat.specs.Steps.{negated}
use Rattle.cudf_cnf.specs.Cnf.{is_in, is_out}

-- ---- auxiliary variables

-- a formula in disjunctive normal form: true where all literals of one of its terms are
abbrev pub Dnf : Type 0
Dnf = List (List Literal)

-- the clauses that the variable is true where its definition is: one for each term
abbrev pub defining_clauses : ℕ → Dnf → List (List Literal)
defining_clauses variable definition = map (λ term. map negated term ++ is_in variable ∷ []) definition

-- those of variables from the first one on, by their definitions
abbrev pub clauses_from : ℕ → List Dnf → List (List Literal)
clauses_from first definitions = flat_map (λ g. defining_clauses g.0 g.1) (enumerate_from first definitions)

-- ---- sorting networks

-- the definitions of auxiliary variables from a number on; and the variables that are its sorted outputs: where n inputs are
-- true, the first n outputs are, and no others need be
pub record Network : Type 0 where
  pub definitions : List Dnf
  pub outputs : List ℕ

-- so many of a sorted list of variables are true
abbrev pub at_least : ℕ → List ℕ → Dnf
at_least zero variables = [] ∷ []
at_least (suc n) variables = map (λ variable. is_in variable ∷ []) (take 1 (drop n variables))

-- both formulas are true
abbrev pub both_of : Dnf → Dnf → Dnf
both_of g h = flat_map (λ term. map (λ more. term ++ more) h) g

-- so many of two sorted lists are true
abbrev pub sum_definition : List ℕ → List ℕ → ℕ → Dnf
sum_definition xs ys n = flat_map (λ i. both_of (at_least i xs) (at_least (n - i) ys)) (range_with_len 0 (n + 1))

-- two sorted lists merged by their sums: an output for each sum, up to so many
abbrev pub sums : ℕ → List ℕ → List ℕ → ℕ → Network
sums next xs ys n = record { definitions = map (sum_definition xs ys) (range_with_len 1 n); outputs = range_with_len next n }

-- up to `most`
unfoldable pub added : ℕ → ℕ → List ℕ → List ℕ → Network
added most next xs ys = sums next xs ys (min most (length xs + length ys))

-- comparators: for the two variables of each index one that is true where one of them is, and one where both are
unfoldable pub compared : ℕ → List ℕ → List ℕ → Network
compared next [] ys = record { definitions = []; outputs = ys }
compared next (a ∷ xs) [] = record { definitions = []; outputs = a ∷ xs }
compared next (a ∷ xs) (b ∷ ys) =
    let rest = compared (next + 2) xs ys in
    record {
      definitions = ((is_in a ∷ []) ∷ (is_in b ∷ []) ∷ []) ∷ ((is_in a ∷ is_in b ∷ []) ∷ []) ∷ rest.definitions;
      outputs = next ∷ (next + 1) ∷ rest.outputs;
    }

-- the elements of even index: the first, the third and so on
unfoldable pub evens : List ℕ → List ℕ
evens [] = []
evens (x ∷ []) = x ∷ []
evens (x ∷ y ∷ xs) = x ∷ evens xs

-- the last step of a merge, where the elements of even index and those of odd index were merged: the first even one, then
-- comparators
abbrev pub joined : ℕ → Network → Network → Network
joined next even odd =
    let last = compared (next + length even.definitions + length odd.definitions) odd.outputs (drop 1 even.outputs) in
    record { definitions = even.definitions ++ odd.definitions ++ last.definitions; outputs = take 1 even.outputs ++ last.outputs }

-- two sorted lists merged, of at most 32 * 2 ^ depth variables each: two of at most 32 by their sums, longer ones by their even
-- and odd indices
unfoldable pub merged : ℕ → ℕ → ℕ → List ℕ → List ℕ → Network
merged most depth next [] ys = record { definitions = []; outputs = ys }
merged most depth next (x ∷ xs) [] = record { definitions = []; outputs = x ∷ xs }
merged most zero next (x ∷ xs) (y ∷ ys) = added most next (x ∷ xs) (y ∷ ys)
merged most (suc depth) next (x ∷ xs) (y ∷ ys) =
    let even = merged most depth next (evens (x ∷ xs)) (evens (y ∷ ys)) in
    let odd = merged most depth (next + length even.definitions) (evens xs) (evens ys) in
    if nat_le (length xs) 31 && nat_le (length ys) 31 then added most next (x ∷ xs) (y ∷ ys) else joined next even odd

-- at most 2 ^ depth formulas sorted, each by a variable that it defines; only so many outputs
unfoldable pub sorted : ℕ → ℕ → ℕ → List Dnf → Network
sorted most zero next [] = record { definitions = []; outputs = [] }
sorted most zero next (formula ∷ formulas) = record { definitions = formula ∷ []; outputs = next ∷ [] }
sorted most (suc depth) next formulas =
    let left = sorted most depth next (take (2 ^ depth) formulas) in
    let right = sorted most depth (next + length left.definitions) (drop (2 ^ depth) formulas) in
    let both = merged most depth (next + length left.definitions + length right.definitions) left.outputs right.outputs in
    record { definitions = left.definitions ++ right.definitions ++ both.definitions; outputs = take most both.outputs }

-- ---- cardinality constraints

-- at most so many of the formulas are true
pub record AtMost : Type 0 where
  pub formulas : List Dnf
  pub bound : ℕ

-- so many outputs: one more than may be true, at most one for each formula
abbrev pub output_count : AtMost → ℕ
output_count constraint = min (constraint.bound + 1) (length constraint.formulas)

-- the formulas sorted
abbrev pub counter : ℕ → AtMost → Network
counter next constraint = sorted (output_count constraint) 32 next constraint.formulas

-- the literals of which one is true where fewer are than the bound allows, by the outputs: none where it is 0; `None` where there
-- are fewer formulas than that
abbrev pub strict_of : ℕ → List ℕ → Option (List Literal)
strict_of zero outputs = Some []
strict_of (suc n) outputs = option_map (λ variable. is_out variable ∷ []) (slice_get outputs n)

-- lexicographically less: some constraint is strict, and it and all before it are satisfied. For each constraint: it is satisfied or
-- one before it is strict, which is what the literals `strict` say; and last: one is strict. Where a constraint is strict in any
-- case, nothing is asked of the later ones
unfoldable pub lexicographic_clauses : ℕ → List Literal → List AtMost → List (List Literal)
lexicographic_clauses next strict [] = strict ∷ []
lexicographic_clauses next strict (constraint ∷ constraints) =
    let count = counter next constraint in
    clauses_from next count.definitions
    ++ map (λ variable. strict ++ is_out variable ∷ []) (drop constraint.bound count.outputs)
    ++ option_map_or (λ own. lexicographic_clauses (next + length count.definitions) (strict ++ own) constraints) (strict_of constraint.bound count.outputs) []

-- the first number behind the auxiliary variables of these clauses
unfoldable pub next_variable : ℕ → List AtMost → ℕ
next_variable next [] = next
next_variable next (constraint ∷ constraints) =
    let count = counter next constraint in
    let after = next + length count.definitions in
    option_map_or (λ own. next_variable after constraints) (strict_of constraint.bound count.outputs) after
