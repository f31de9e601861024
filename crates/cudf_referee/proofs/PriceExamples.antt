-- What pages of small listings cost at most, and the way to their ends at least, reckoned by hand beside each.
use Rattle.std.specs.Prelude.{◌≡◌, ℕ, ◌==◌, ◌||◌, Bool, true, false, List, [], ◌∷◌, length, Option, Some, None, codes, refl}
use Rattle.cudf_value.specs.declared.vpkg.Relop.TheVariants.{Eq, Gt}
use Rattle.cudf_value.specs.Vpkgs.{PlainVpkg}
use Rattle.cudf_value.specs.Formulas.{PlainAtom, truth_atom, falsehood_atom, named}
use Rattle.cudf_problem.specs.declared.package.Keep.{Keep}
use Rattle.cudf_problem.specs.declared.package.Keep.TheVariants.{Version, Package, Feature, Nothing}
use Rattle.cudf_problem.specs.Universe.{PlainPackage, PlainRequest}
use Rattle.cudf_problem.specs.Statuses.{PlainUnknown}
use Rattle.cudf_index.specs.Promises.Prices.{digits_within, digits}
use Rattle.cudf_index.specs.Satisfaction.{members}
use Rattle.cudf_job.specs.declared.key.Rule.{Rule}
use Rattle.cudf_job.specs.declared.key.Rule.TheVariants as rule
use Rattle.cudf_job.specs.declared.key.Aspect.{Aspect}
use Rattle.cudf_job.specs.declared.key.Aspect.TheVariants.{Unsatisfied}
use Rattle.cudf_job.specs.Keys.{PlainKey}
use Rattle.cudf_job.specs.Working.Keys.{package_key, request_key, unknown_key}
use Rattle.cudf_referee.specs.Proposals.{Proposal}
use Rattle.cudf_referee.specs.Violations.{listing}
use Rattle.cudf_referee.specs.Promises.Stops.{walk, at_start, at_key, at_end, stops_between, least_between}
use Rattle.cudf_referee.specs.Promises.Pages.{page_bound}

abbrev every : List ℕ → PlainVpkg
every name = record { name = name; bound = None }

abbrev version_of : List ℕ → ℕ → PlainVpkg
version_of name n = record { name = name; bound = Some (Eq, n) }

abbrev above : List ℕ → ℕ → PlainVpkg
above name n = record { name = name; bound = Some (Gt, n) }

-- a package by its name, version, depends, conflicts, provides and keep
abbrev made : List ℕ → ℕ → List (List PlainAtom) → List PlainVpkg → List PlainVpkg → Keep → PlainPackage
made name version depends conflicts provides keep = record {
  line = 1;
  name = name;
  version = version;
  depends = depends;
  conflicts = conflicts;
  provides = provides;
  installed = false;
  keep = keep;
  recommends = None;
}

-- a package with its name and version alone
abbrev plain : List ℕ → ℕ → PlainPackage
plain name version = made name version [] [] [] Nothing

abbrev asked : List PlainVpkg → List PlainVpkg → List PlainVpkg → PlainRequest
asked install remove upgrade = record { line = 1; install = install; remove = remove; upgrade = upgrade }

-- these packages and this request, with the places that were installed and those that are to be
abbrev proposed : List PlainPackage → PlainRequest → (ℕ → Bool) → (ℕ → Bool) → List PlainUnknown → Proposal
proposed packages request was is unknown = record {
  problem = record { packages = packages; request = request; recommends = None; extra_names = [] };
  initial = members was packages;
  proposed = members is packages;
  unknown = unknown;
}

abbrev nothing_asked : PlainRequest
nothing_asked = asked [] [] []

abbrev none : ℕ → Bool
none place = false

abbrev all : ℕ → Bool
all place = true

abbrev of_package : ℕ → Rule → ℕ → Option PlainKey
of_package n r place = Some (package_key n r place)

abbrev of_request : Rule → ℕ → Option Aspect → Option PlainKey
of_request r place aspect = Some (request_key r place aspect)

-- ---- two equal conjuncts that aren't satisfied: 1 step to look up each, and 1 to go by it

abbrev twice : Proposal
twice = proposed (made (codes "user") 1 ((named (every (codes "a")) ∷ []) ∷ (named (every (codes "a")) ∷ []) ∷ []) [] [] Nothing ∷ []) nothing_asked none all []

-- 2 + 2
twice_first : page_bound twice None 1 ≡ 4
unfolding digits_within digits listing walk
twice_first = refl

-- 2, and 1 for the end of the package
twice_second : page_bound twice (of_package 1 rule.Depends 1) 1 ≡ 3
unfolding digits_within digits listing walk
twice_second = refl

-- the end of the package
twice_over : page_bound twice (of_package 1 rule.Depends 2) 1 ≡ 1
unfolding digits_within digits listing walk
twice_over = refl

-- ---- conflicts with e, which has no number, and g, which has four: 1 and 7 steps, and 3 for what the package gives itself

abbrev e : List ℕ
e = codes "e"

abbrev g : List ℕ
g = codes "g"

abbrev rival : ℕ → PlainPackage
rival version = made g version [] (every e ∷ every g ∷ []) (every e ∷ version_of g 1 ∷ []) Nothing

abbrev rivals : Proposal
rivals = proposed (rival 1 ∷ rival 2 ∷ []) nothing_asked none all []

-- 5 + 11, 1 for the end of the package, 5
rivals_first : page_bound rivals None 2 ≡ 22
unfolding digits_within digits listing walk
rivals_first = refl

-- 1, 5 + 11, 1
rivals_second : page_bound rivals (of_package 1 rule.Conflicts 2) 2 ≡ 18
unfolding digits_within digits listing walk
rivals_second = refl

-- ---- what is kept: a version and a name for nothing, two features at 1 step each, where no package is left

abbrev kept : Proposal
kept = proposed (made (codes "a") 1 [] [] [] Version ∷ made (codes "b") 1 [] [] [] Package ∷ made (codes "c") 1 [] [] (version_of e 1 ∷ every g ∷ []) Feature ∷ []) nothing_asked all none []

-- 1, 1 for the end of the package, 1, 1, 2
kept_first : page_bound kept None 2 ≡ 6
unfolding digits_within digits listing walk
kept_first = refl

-- 2, 1 for the end of the last package
kept_last : page_bound kept (of_package 3 rule.Keep 1) 2 ≡ 3
unfolding digits_within digits listing walk
kept_last = refl

-- ---- conjuncts with truth values, which cost nothing, and g with two numbers: 1 + 4 steps

abbrev mixed : Proposal
mixed = proposed (made (codes "a") 1 ((named (every e) ∷ named (above g 2) ∷ []) ∷ (truth_atom ∷ []) ∷ (falsehood_atom ∷ named (every e) ∷ []) ∷ []) [] [] Nothing ∷ plain g 1 ∷ plain g 2 ∷ []) nothing_asked none all []

-- 1 + 5 + 1, 0 + 1 for the satisfied one, 1 + 1
mixed_first : page_bound mixed None 1 ≡ 10
unfolding digits_within digits listing walk
mixed_first = refl

-- ---- install and remove: names without a number at 1 step, car at 1 + 2

abbrev car : List ℕ
car = codes "car"

abbrev wished : Proposal
wished = proposed (plain car 1 ∷ []) (asked (every e ∷ every g ∷ []) (every car ∷ []) []) all all []

-- 1 for the end of the package, 2 + 2, 4
wished_first : page_bound wished None 2 ≡ 9
unfolding digits_within digits listing walk
wished_first = refl

-- after an entry that isn't there: 4
wished_between : page_bound wished (of_request rule.Install 7 None) 1 ≡ 4
unfolding digits_within digits listing walk
wished_between = refl

-- after a conjunct that isn't there, the end of its package too: 1, 2 + 2
wished_within : page_bound wished (of_package 1 rule.Depends 5) 1 ≡ 5
unfolding digits_within digits listing walk
wished_within = refl

-- ---- upgrade: car has two numbers, so 1 + 4 steps for the first aspect, and 4 for each of the others

abbrev upgraded : Proposal
upgraded = proposed (plain car 1 ∷ plain car 2 ∷ plain car 3 ∷ []) (asked [] [] (every car ∷ [])) (λ place. place == 2) (λ place. place == 1 || place == 3) []

-- 3 for the ends of the packages, 6 for the satisfied aspect, 5 + 5
upgraded_first : page_bound upgraded None 1 ≡ 19
unfolding digits_within digits listing walk
upgraded_first = refl

-- after the first aspect the others are still to be judged: 5 + 5
upgraded_between : page_bound upgraded (of_request rule.Upgrade 1 (Some Unsatisfied)) 1 ≡ 10
unfolding digits_within digits listing walk
upgraded_between = refl

-- ---- unknown stanzas: two, so 2 steps to find the first one to be listed, and 1 to go by each

abbrev stranger : ℕ → PlainUnknown
stranger stanza = record { stanza = stanza; line = stanza; name = g; version = 9 }

abbrev strange : Proposal
strange = proposed (plain car 1 ∷ []) (asked [] (every car ∷ []) []) all all (stranger 1 ∷ stranger 4 ∷ [])

-- 2, 1 for the end of the package, 1 + 2 + 1, 1
strange_first : page_bound strange None 1 ≡ 8
unfolding digits_within digits listing walk
strange_first = refl

-- after a stanza that is known: 2, 1
strange_between : page_bound strange (Some (unknown_key 2)) 1 ≡ 3
unfolding digits_within digits listing walk
strange_between = refl

-- ---- at least: 1 for each stop, and 1 for each look-up

-- two conjuncts, the end of the package
twice_stops : length (stops_between twice at_start at_end) ≡ 3
unfolding walk
twice_stops = refl

-- 2 + 2 + 1
twice_least : least_between twice at_start at_end ≡ 5
unfolding walk
twice_least = refl

-- after the first one: 2 + 1
twice_left : least_between twice (at_key (package_key 1 rule.Depends 1)) at_end ≡ 3
unfolding walk
twice_left = refl

-- to it: 2
twice_to : least_between twice at_start (at_key (package_key 1 rule.Depends 1)) ≡ 2
unfolding walk
twice_to = refl

-- two entries and the end, of two packages
rivals_stops : length (stops_between rivals at_start at_end) ≡ 6
unfolding walk
rivals_stops = refl

-- 2 + 2 + 1, 2 + 2 + 1
rivals_least : least_between rivals at_start at_end ≡ 10
unfolding walk
rivals_least = refl

-- a version, a name, two features, the ends of their packages: 1 + 1, 1 + 1, 2 + 2 + 1
kept_least : least_between kept at_start at_end ≡ 9
unfolding walk
kept_least = refl

-- e and g are looked up, nothing, e; the ends of three packages: 3 + 1 + 2 + 3
mixed_least : least_between mixed at_start at_end ≡ 9
unfolding walk
mixed_least = refl

-- the end of the package, 2 + 2, 2
wished_least : least_between wished at_start at_end ≡ 7
unfolding walk
wished_least = refl

-- three ends, three aspects
upgraded_stops : length (stops_between upgraded at_start at_end) ≡ 6
unfolding walk
upgraded_stops = refl

-- 3, 1 look-up for the first aspect and 2 for each of the others: 2 + 3 + 3
upgraded_least : least_between upgraded at_start at_end ≡ 11
unfolding walk
upgraded_least = refl

-- the end of the package, 2 to remove, two stanzas
strange_least : least_between strange at_start at_end ≡ 5
unfolding walk
strange_least = refl

-- where nothing was gone by: nothing
strange_nowhere : least_between strange at_end at_end ≡ 0
unfolding walk
strange_nowhere = refl
