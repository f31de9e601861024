-- What no function gives: the members of a status, what they give, all numbers of a name, and a clause of nothing.
use Rattle.std.specs.Prelude.{◌≡◌, ℕ, ◌==◌, ◌||◌, false, List, [], ◌∷◌, Some, None, codes, refl}
use Rattle.cudf_value.specs.declared.vpkg.Relop.TheVariants.{Eq}
use Rattle.cudf_value.specs.Vpkgs.{PlainVpkg}
use Rattle.cudf_problem.specs.declared.package.Keep.TheVariants.{Nothing}
use Rattle.cudf_problem.specs.Universe.{PlainPackage}
use Rattle.cudf_index.specs.Satisfaction.{Placed, members, gives, gives_all_versions, numbers_of, satisfies_clause}

-- a package of this name and version that provides these
abbrev provider : List ℕ → ℕ → List PlainVpkg → PlainPackage
provider name version provides = record {
  line = 1;
  name = name;
  version = version;
  depends = [];
  conflicts = [];
  provides = provides;
  installed = false;
  keep = Nothing;
  recommends = None;
}

-- `f`, and `g = 1`
abbrev f : PlainVpkg
f = record { name = codes "f"; bound = None }

abbrev g : PlainVpkg
g = record { name = codes "g"; bound = Some (Eq, 1) }

abbrev giver : PlainPackage
giver = provider (codes "giver") 1 (f ∷ [])

abbrev user : PlainPackage
user = provider (codes "user") 1 []

-- both are in the status, which holds the places 1 and 2
abbrev both : List Placed
both = members (λ place. place == 1 || place == 2) (giver ∷ user ∷ [])

both_members : both ≡ (1, giver) ∷ (2, user) ∷ []
both_members = refl

held_once : members (λ place. place == 2) (giver ∷ user ∷ []) ≡ (2, user) ∷ []
held_once = refl

both_gives : gives both ≡ (codes "giver", 1) ∷ (codes "user", 1) ∷ []
both_gives = refl

both_gives_all : gives_all_versions both ≡ codes "f" ∷ []
both_gives_all = refl

-- two versions of one name, which provide it in another one too
numbers_twice : numbers_of (codes "g") ((1, provider (codes "g") 1 (f ∷ g ∷ f ∷ [])) ∷ (2, provider (codes "g") 2 (f ∷ g ∷ [])) ∷ []) ≡ 1 ∷ 1 ∷ 2 ∷ 1 ∷ []
numbers_twice = refl

empty_clause : satisfies_clause both [] ≡ false
empty_clause = refl
