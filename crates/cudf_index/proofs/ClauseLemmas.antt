-- The places of the packages that satisfy one of a clause's atoms, atom by atom.
use Rattle.std.proofs.Common.{◌≡◌, ℕ, ◌+◌, ◌-◌, ◌<◌, Bool, true, false, cond, ◌||◌, ◌&&◌, ◌==◌, List, [], ◌∷◌, ◌++◌, length, map, take, get_or, Option, Some, None, refl, sym, ap, ◌∙◌, append_assoc}
use Rattle.std.specs.Prelude.{filter, find, slice_get}
use Rattle.std.specs.List.{list_any}
use Rattle.std.specs.Option.{option_map_or, is_some}
use Rattle.std.proofs.Math.Bool.{or_assoc}
use Rattle.std.proofs.lemmas.Bool.{true≢false, eqb-true}
use Rattle.std.proofs.lemmas.List.{map-append}
use Rattle.std.proofs.lemmas.List.Folds.{list_any-append, list_any_at}
use Rattle.std.proofs.lemmas.List.Sums.{fold-append}
use Rattle.std.proofs.lemmas.Option.{slice_get_within, get_or_from_slice_get}
use Rattle.cudf_value.specs.Formulas.{PlainAtom}
use Rattle.cudf_value.specs.Vpkgs.{PlainVpkg}
use Rattle.cudf_value.specs.declared.vpkg.Vpkg.{Vpkg}
use Rattle.cudf_problem.specs.Universe.{PlainPackage}
use Rattle.cudf_problem.proofs.ListLemmas.{is_some-find}
use Rattle.cudf_index.specs.Promises.Places.{at}
use Rattle.cudf_index.specs.Satisfaction.{Placed, members, meets_alone, meets_clause_alone, satisfies}
use Rattle.cudf_index.specs.Working.Gathering.{given_by, given_of}
use Rattle.cudf_index.specs.Working.Places.{has, passes_at, Adds, meets_atom_alone}
use Rattle.cudf_index.specs.Working.Questions.{will_have, WillAdd, PassesOrAsks}
use Rattle.cudf_index.specs.Working.ProvisionTest.{passes, ends_in, with_new, with_passing, with_all}
use Rattle.cudf_index.specs.declared.index.gathered_names.Provision.{Provision}
use Rattle.cudf_index.specs.declared.index.named_trees.ProvisionTest.{ProvisionTest}
use Rattle.cudf_index.specs.declared.index.named_trees.ProvisionTest.TheVariants.{Meeting}
use Rattle.cudf_index.proofs.MemberLemmas.{members_kept, members_left_out}
use Rattle.cudf_index.proofs.PlaceLemmas.{has_where}
use Rattle.cudf_index.proofs.SatisfactionLemmas.{member_alone}
use Rattle.cudf_index.proofs.SearchLemmas.{list_any-filter}
use Rattle.cudf_index.proofs.WantedLemmas.{one_wanted, package_places, meeting_tells}

-- ---- tests of lists

or_four : (a b c d : Bool) → ((a || b) || (c || d)) ≡ ((a || c) || (b || d))
or_four true b c d = refl
or_four false true true d = refl
or_four false true false d = refl
or_four false false c d = refl

pub and_or : (n a b : Bool) → (n && (a || b)) ≡ ((n && a) || (n && b))
and_or true a b = refl
and_or false a b = refl

pub or_none : (b : Bool) → b ≡ (b || false)
or_none true = refl
or_none false = refl

module _ {X : Type 0} where
  pub any_agree : (p q : X → Bool) → ((x : X) → p x ≡ q x) → (xs : List X) → list_any p xs ≡ list_any q xs
  any_agree p q same [] = refl
  any_agree p q same (x ∷ xs) = ap (λ b. b || list_any p xs) (same x) ∙ ap (λ b. q x || b) (any_agree p q same xs)

  pub any_or : (p q : X → Bool) (xs : List X) → list_any (λ x. p x || q x) xs ≡ (list_any p xs || list_any q xs)
  any_or p q [] = refl
  any_or p q (x ∷ xs) = ap (λ b. (p x || q x) || b) (any_or p q xs) ∙ or_four (p x) (q x) (list_any p xs) (list_any q xs)

  pub any_never : (p : X → Bool) → ((x : X) → p x ≡ false) → (xs : List X) → list_any p xs ≡ false
  any_never p never [] = refl
  any_never p never (x ∷ xs) = ap (λ b. b || list_any p xs) (never x) ∙ any_never p never xs

-- ---- one atom after the other

module _ (p : ℕ) (status : List Placed) where
  pub passes_first : (a : PlainAtom) (rest : List PlainAtom) → passes_at (meets_clause_alone (a ∷ rest)) p status ≡ (passes_at (meets_atom_alone a) p status || passes_at (meets_clause_alone rest) p status)
  passes_first a rest =
      any_agree (λ q. (q.0 == p) && (meets_atom_alone a q || meets_clause_alone rest q)) (λ q. ((q.0 == p) && meets_atom_alone a q) || ((q.0 == p) && meets_clause_alone rest q))
      (λ q. and_or (q.0 == p) (meets_atom_alone a q) (meets_clause_alone rest q)) status
      ∙ any_or (λ q. (q.0 == p) && meets_atom_alone a q) (λ q. (q.0 == p) && meets_clause_alone rest q) status

  left_out : (b : Bool) → (b && false) ≡ false
  left_out true = refl
  left_out false = refl

  pub passes_never : passes_at (λ q. false) p status ≡ false
  passes_never = any_never (λ (q : Placed). (q.0 == p) && false) (λ q. left_out (q.0 == p)) status

  -- the places of an atom are added
  pub atom_added : (old new : Bool) (all rest : List PlainAtom) (a : PlainAtom) (target : Bool) → new ≡ (old || passes_at (meets_atom_alone a) p status) → all ≡ a ∷ rest
      → (old || passes_at (meets_clause_alone all) p status) ≡ target → (new || passes_at (meets_clause_alone rest) p status) ≡ target
  atom_added old new all rest a target added is told =
      ap (λ b. b || passes_at (meets_clause_alone rest) p status) added
      ∙ or_assoc old (passes_at (meets_atom_alone a) p status) (passes_at (meets_clause_alone rest) p status)
      ∙ ap (λ b. old || b) (sym (passes_first a rest)) ∙ ap (λ as'. old || passes_at (meets_clause_alone as') p status) (sym is) ∙ told

  pub all_added : (old : Bool) (all : List PlainAtom) (target : Bool) → all ≡ [] → (old || passes_at (meets_clause_alone all) p status) ≡ target → old ≡ target
  all_added old all target is told =
      or_none old ∙ ap (λ b. old || b) (sym passes_never) ∙ ap (λ as'. old || passes_at (meets_clause_alone as') p status) (sym is) ∙ told

-- ---- the places of an atom

ends_has : (n : ℕ) (places : List ℕ) → ends_in n places ≡ true → has places n ≡ true
ends_has n places e = by (slice_get places (length places - 1)) refl e
  where
    by : (o : Option ℕ) → slice_get places (length places - 1) ≡ o → option_map_or (λ last. last == n) o false ≡ true → has places n ≡ true
    by None is e = absurd (true≢false (sym e))
    by (Some last) is e =
        list_any_at (λ p. p == n) places (length places - 1) n (slice_get_within places (length places - 1) last is)
        (ap (λ p. p == n) (get_or_from_slice_get places (length places - 1) last n is) ∙ e)

has_new : (n p : ℕ) (places : List ℕ) → has (with_new places n) p ≡ (has places p || (n == p))
has_new n p places = by (ends_in n places) refl
  where
    there : (b : Bool) → (n == p) ≡ b → ends_in n places ≡ true → has places p ≡ (has places p || b)
    there false e ends = or_none (has places p)
    there true e ends = let found = ap (has places) (sym (eqb-true n p e)) ∙ ends_has n places ends in found ∙ sym (ap (λ b. b || true) found)

    by : (b : Bool) → ends_in n places ≡ b → has (cond b places (places ++ n ∷ [])) p ≡ (has places p || (n == p))
    by true ends = there (n == p) refl ends
    by false ends = list_any-append (λ q. q == p) places (n ∷ []) ∙ ap (λ b. has places p || b) (sym (or_none (n == p)))

pub wanted_adds : (w : ProvisionTest) (f : List ℕ) (status : List Placed) (places : List ℕ) → Adds (λ q. list_any (passes w) (given_by f q)) status places (with_all w places (given_of f status))
wanted_adds w f [] places p = or_none (has places p)
wanted_adds w f (q ∷ qs) places p =
    ap (λ xs. has xs p) (fold-append (with_passing w) places (given_by f q) (given_of f qs))
    ∙ wanted_adds w f qs (with_all w places (given_by f q)) p
    ∙ ap (λ b. b || passes_at (λ x. list_any (passes w) (given_by f x)) p qs) (ap (λ xs. has xs p) (one_wanted w q.0 places (given_by f q) (package_places f q)) ∙ by (list_any (passes w) (given_by f q)))
    ∙ or_assoc (has places p) ((q.0 == p) && list_any (passes w) (given_by f q)) (passes_at (λ x. list_any (passes w) (given_by f x)) p qs)
  where
    never : (b : Bool) → false ≡ (b && false)
    never true = refl
    never false = refl

    always : (b : Bool) → b ≡ (b && true)
    always true = refl
    always false = refl

    by : (b : Bool) → has (cond b (with_new places q.0) places) p ≡ (has places p || ((q.0 == p) && b))
    by true = has_new q.0 p places ∙ ap (λ b. has places p || b) (always (q.0 == p))
    by false = or_none (has places p) ∙ ap (λ b. has places p || b) (never (q.0 == p))

-- where the bound of a vpkg is asked, what is found is its answers
pub meeting_at : (v : PlainVpkg) (p : ℕ) (status : List Placed) → passes_at (λ q. list_any (passes (Meeting v.bound)) (given_by v.name q)) p status ≡ passes_at (meets_alone v) p status
meeting_at v p status = any_agree (λ (q : Placed). (q.0 == p) && list_any (passes (Meeting v.bound)) (given_by v.name q)) (λ q. (q.0 == p) && meets_alone v q) (λ q. ap (λ b. (q.0 == p) && b) (meeting_tells v q)) status

-- of a status as it is kept
pub row_gives : (w : ProvisionTest) (f : List ℕ) (status now : List Placed) (row : List Provision) (old new : List ℕ) → status ≡ now → row ≡ given_of f status → new ≡ with_all w old row → Adds (λ q. list_any (passes w) (given_by f q)) now old new
row_gives w f status now row old new view kept put p =
    ap (λ xs. has xs p) (put ∙ ap (with_all w old) kept) ∙ wanted_adds w f status old p ∙ ap (λ s. has old p || passes_at (λ q. list_any (passes w) (given_by f q)) p s) view

pub row_adds : (v : PlainVpkg) (status now : List Placed) (row : List Provision) (old new : List ℕ) → status ≡ now → row ≡ given_of v.name status → new ≡ with_all (Meeting v.bound) old row → Adds (meets_alone v) now old new
row_adds v status now row old new view kept put p =
    row_gives (Meeting v.bound) v.name status now row old new view kept put p ∙ ap (λ b. has old p || b) (meeting_at v p now)

places_of : (p : ℕ) (status : List Placed) → has (map (λ q. q.0) status) p ≡ passes_at (λ q. true) p status
places_of p [] = refl
places_of p (q ∷ qs) = ap (λ b. (q.0 == p) || b) (places_of p qs) ∙ ap (λ b. b || passes_at (λ x. true) p qs) (by (q.0 == p))
  where
    by : (b : Bool) → b ≡ (b && true)
    by true = refl
    by false = refl

pub members_add : (status : List Placed) (old new : List ℕ) → new ≡ old ++ map (λ q. q.0) status → Adds (λ q. true) status old new
members_add status old new put p =
    ap (λ xs. has xs p) put ∙ list_any-append (λ q. q == p) old (map (λ q. q.0) status) ∙ ap (λ b. has old p || b) (places_of p status)

pub none_added : (status : List Placed) (old : List ℕ) → Adds (λ q. false) status old old
none_added status old p = or_none (has old p) ∙ ap (λ b. has old p || b) (sym (passes_never p status))

-- ---- one package more

module _ {A : Type 0} (view : A → PlainPackage) (holds : ℕ → Bool) (xs : List A) (i : ℕ) (d : A) (inside : i < length xs) (old : List ℕ) where
  abbrev before_it : List ℕ
  before_it = map (λ q. q.0) (members holds (map view (take i xs)))

  pub member_put : (done now : List ℕ) → holds (i + 1) ≡ true → done ≡ old ++ before_it → now ≡ done ++ (i + 1) ∷ [] → now ≡ old ++ map (λ q. q.0) (members holds (map view (take (i + 1) xs)))
  member_put done now e before more =
      more ∙ ap (λ ps. ps ++ (i + 1) ∷ []) before ∙ append_assoc old before_it ((i + 1) ∷ [])
      ∙ ap (λ ps. old ++ ps) (sym (ap (map (λ (q : Placed). q.0)) (members_kept view holds xs i d inside e) ∙ map-append (λ (q : Placed). q.0) (members holds (map view (take i xs))) ((i + 1, view (get_or xs i d)) ∷ [])))

  pub member_left_out : (done : List ℕ) → holds (i + 1) ≡ false → done ≡ old ++ before_it → done ≡ old ++ map (λ q. q.0) (members holds (map view (take (i + 1) xs)))
  member_left_out done e before = before ∙ ap (λ ps. old ++ map (λ (q : Placed). q.0) ps) (sym (members_left_out view holds xs i d inside e))

-- ---- unless a package passes

pub adds_else : (is : Bool) (test : Placed → Bool) (own : ℕ) (status : List Placed) (old new : List ℕ) (asked asking : List Vpkg) → is ≡ false → PassesOrAsks is test own status old asked new asking → WillAdd test status old asked new asking
adds_else true test own status old new asked asking e put = absurd (true≢false e)
adds_else false test own status old new asked asking e put = put

pub passes_then : (is : Bool) (test : Placed → Bool) (own : ℕ) (status : List Placed) (old new : List ℕ) (asked asking : List Vpkg) → is ≡ true → PassesOrAsks is test own status old asked new asking → (will_have old asked status own || passes_at test own status) ≡ true
passes_then true test own status old new asked asking e put = put
passes_then false test own status old new asked asking e put = absurd (true≢false (sym e))

-- a package that is there, or alone satisfies one of the atoms
pub atom_passes : (p : ℕ) (status : List Placed) (old : Bool) (all rest : List PlainAtom) (a : PlainAtom) (target : Bool) → (old || passes_at (meets_atom_alone a) p status) ≡ true → all ≡ a ∷ rest
    → (old || passes_at (meets_clause_alone all) p status) ≡ target → target ≡ true
atom_passes p status old all rest a target passes is told =
    sym (atom_added p status old true all rest a target (sym passes) is told)

pub places_own : (p : ℕ) (xs : List Placed) → has (map (λ q. q.0) xs) p ≡ list_any (λ (q : Placed). q.0 == p) xs
places_own p [] = refl
places_own p (x ∷ xs) = ap (λ b. (x.0 == p) || b) (places_own p xs)

pub own_found : (test : Placed → Bool) (p : ℕ) (status : List Placed) → passes_at test p status ≡ list_any (λ (q : Placed). q.0 == p) (filter test status)
own_found test p status = sym (has_where test p status) ∙ places_own p (filter test status)

pub alone_passes : (v : PlainVpkg) (p : ℕ) (status : List Placed) → satisfies (at p status) v ≡ passes_at (meets_alone v) p status
alone_passes v p status = member_alone (at p status) v ∙ list_any-filter (meets_alone v) (λ (q : Placed). q.0 == p) status

always_and : (b : Bool) → b ≡ (b && true)
always_and true = refl
always_and false = refl

pub here_passes : (p : ℕ) (status : List Placed) → is_some (find (λ q. q.0 == p) status) ≡ passes_at (λ q. true) p status
here_passes p status =
    is_some-find (λ (q : Placed). q.0 == p) status ∙ any_agree (λ (q : Placed). q.0 == p) (λ q. (q.0 == p) && true) (λ q. always_and (q.0 == p)) status
