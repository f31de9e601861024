-- Prices on small statuses.
use Rattle.std.specs.Prelude.{◌≡◌, ℕ, true, List, [], ◌∷◌, Some, None, codes, refl, ◌+◌, ◌*◌, false}
use Rattle.cudf_value.specs.declared.vpkg.Relop.TheVariants.{Eq, Gt}
use Rattle.cudf_value.specs.Formulas.{truth_atom, falsehood_atom, named}
use Rattle.cudf_problem.specs.declared.package.Keep.TheVariants.{Nothing}
use Rattle.cudf_problem.specs.Universe.{PlainPackage}
use Rattle.cudf_index.specs.Satisfaction.{Placed, members}
use Rattle.cudf_index.specs.Promises.Prices.{digits_within, digits, entries, search_cost, clause_cost, clause_lookups, own_cost}

digits_0 : digits 0 ≡ 0
unfolding digits digits_within
digits_0 = refl

digits_1 : digits 1 ≡ 1
unfolding digits digits_within
digits_1 = refl

digits_4 : digits 4 ≡ 3
unfolding digits digits_within
digits_4 = refl

digits_8191 : digits 8191 ≡ 13
unfolding digits digits_within
digits_8191 = refl

digits_8192 : digits 8192 ≡ 14
unfolding digits digits_within
digits_8192 = refl

-- ---- two packages that provide `e, g = 1`, of the name g

abbrev g : List ℕ
g = codes "g"

abbrev e : List ℕ
e = codes "e"

abbrev version_of_g : ℕ → PlainPackage
version_of_g version = record {
  line = 1;
  name = g;
  version = version;
  depends = [];
  conflicts = [];
  provides = record { name = e; bound = None } ∷ record { name = g; bound = Some (Eq, 1) } ∷ [];
  installed = false;
  keep = Nothing;
  recommends = None;
}

abbrev both : List Placed
both = members (λ place. true) (version_of_g 1 ∷ version_of_g 2 ∷ [])

-- each version, and each entry `g = 1`, repeats too
entries_of_g : entries both g ≡ 4
entries_of_g = refl

-- unversioned provisions aren't entries
entries_of_e : entries both e ≡ 0
entries_of_e = refl

search_of_e : search_cost both e ≡ 1
unfolding digits digits_within
search_of_e = refl

search_of_g : search_cost both g ≡ 7
unfolding digits digits_within
search_of_g = refl

-- `true! | g > 2 | false! | e`
clause : clause_cost both (truth_atom ∷ named (record { name = g; bound = Some (Gt, 2) }) ∷ falsehood_atom ∷ named (record { name = e; bound = None }) ∷ []) ≡ 8
unfolding digits digits_within
clause = refl

-- no vpkg comes before `true!`: `true! | g > 2`
lookups_before_truth : clause_lookups both (truth_atom ∷ named (record { name = g; bound = Some (Gt, 2) }) ∷ []) ≡ 0
lookups_before_truth = refl

-- the two vpkgs up to the first that is satisfied: `g > 2 | false! | e | g`
lookups_to_first : clause_lookups both (named (record { name = g; bound = Some (Gt, 2) }) ∷ falsehood_atom ∷ named (record { name = e; bound = None }) ∷ named (record { name = g; bound = None }) ∷ []) ≡ 2
lookups_to_first = refl

-- each vpkg where none is satisfied: `g > 2 | false! | g > 2`
lookups_of_all : clause_lookups both (named (record { name = g; bound = Some (Gt, 2) }) ∷ falsehood_atom ∷ named (record { name = g; bound = Some (Gt, 2) }) ∷ []) ≡ 2
lookups_of_all = refl

-- the package and its two entries
own_of_second : own_cost both 2 ≡ 3
own_of_second = refl

-- a place that the status doesn't hold
own_of_third : own_cost both 3 ≡ 0
own_of_third = refl

-- ten thousand entries of a name
ten_thousand : 1 + 2 * digits 10000 ≡ 29
unfolding digits digits_within
ten_thousand = refl

-- a package that gives one name in its version and 64 entries: the entries are searched, at no more than 15 steps, where to go through them takes 65
sixty_five : 1 + 2 * digits 65 ≡ 15
unfolding digits digits_within
sixty_five = refl
