-- Recommended conjuncts that aren't satisfied, package by package.
use Rattle.std.proofs.Common.{◌≡◌, ℕ, ◌+◌, ◌-◌, ◌<◌, ◌≤◌, ◌^◌, min, Bool, true, false, not, cond, List, [], ◌∷◌, ◌++◌, length, get_or, take, map, filter, Some, None, refl, ap, sym, ◌∙◌, arith}
use Rattle.std.specs.Prelude.{slice_get, unwrap_or, option_and_then, if◌then◌else◌}
use Rattle.std.specs.Option.{option_or}
use Rattle.std.specs.List.{flat_map, count_by, enumerate_from}
use Rattle.std.proofs.lemmas.Bool.{ne_eqb}
use Rattle.std.proofs.lemmas.List.{append-nil, length-append, length-map, length-take-le, take_more, take_all}
use Rattle.std.proofs.lemmas.Option.{slice_get-get_or}
use Rattle.std.proofs.lemmas.List.Concat.{flat_map-append}
use Rattle.std.proofs.lemmas.List.Elements.{filter-append}
use Rattle.std.proofs.lemmas.Grind.{common_steps}
use Rattle.cudf_problem.specs.declared.package.Keep.TheVariants.{Nothing}
use Rattle.cudf_problem.specs.Universe.{PlainPackage, PlainProblem, package_at}
use Rattle.cudf_problem.specs.Promises.Packages.{recommends_at}
use Rattle.cudf_index.specs.Satisfaction.{Placed, members, satisfies_clause}
use Rattle.cudf_referee.specs.Criteria.{at_most_max}
use Rattle.cudf_referee.specs.Proposals.{Proposal, recommended}
use Rattle.cudf_referee.proofs.EntryLemmas.{enumerate-push}

-- as many pass with their places as without
length-passing : {A : Type 0} (test : A → Bool) (n : ℕ) (xs : List A) → length (filter (λ (x : ℕ × A). test x.1) (enumerate_from n xs)) ≡ count_by test xs
length-passing test n [] = refl
length-passing test n (x ∷ xs) = grind (arith, common_steps, length-passing test (n + 1) xs)

-- the triples of one package
abbrev triples : Proposal → Placed → List (List ℕ × ℕ × ℕ)
triples s p = map (λ c. (p.1.name, p.1.version, c.0)) (filter (λ c. not (satisfies_clause s.proposed c.1)) (enumerate_from 1 (recommended s p)))

length-triples : (s : Proposal) (p : Placed) → length (triples s p) ≡ count_by (λ clause. not (satisfies_clause s.proposed clause)) (recommended s p)
length-triples s p = length-map (filter (λ e. not (satisfies_clause s.proposed e.1)) (enumerate_from 1 (recommended s p))) (λ e. (p.1.name, p.1.version, e.0))
    ∙ length-passing (λ clause. not (satisfies_clause s.proposed clause)) 1 (recommended s p)

-- those of the packages that the status holds among the first
abbrev pub counted : Proposal → (ℕ → Bool) → List PlainPackage → ℕ
counted s is packages = length (flat_map (triples s) (members is packages))

counted_push : (s : Proposal) (is : ℕ → Bool) (xs : List PlainPackage) (x : PlainPackage)
    → counted s is (xs ++ x ∷ []) ≡ counted s is xs + length (flat_map (triples s) (cond (is (1 + length xs)) ((1 + length xs, x) ∷ []) []))
counted_push s is xs x =
    ap (λ ps. length (flat_map (triples s) ps)) (ap (filter (λ (p : Placed). is p.0)) (enumerate-push 1 xs x) ∙ filter-append (λ (p : Placed). is p.0) (enumerate_from 1 xs) ((1 + length xs, x) ∷ []))
    ∙ ap length (flat_map-append (triples s) (members is xs) (cond (is (1 + length xs)) ((1 + length xs, x) ∷ []) []))
    ∙ length-append (flat_map (triples s) (members is xs)) (flat_map (triples s) (cond (is (1 + length xs)) ((1 + length xs, x) ∷ []) []))

module _ (s : Proposal) (is : ℕ → Bool) (packages : List PlainPackage) (i : ℕ) (d : PlainPackage) (inside : i < length packages) where
  counted_more : (b : Bool) → is (i + 1) ≡ b → counted s is (take (i + 1) packages) ≡ counted s is (take i packages) + length (flat_map (triples s) (cond b ((i + 1, get_or packages i d) ∷ []) []))
  counted_more b e =
      let long : 1 + length (take i packages) ≡ i + 1 = omega (arith, length-take-le i packages (omega arith)) in
      ap (counted s is) (take_more packages i d inside)
      ∙ counted_push s is (take i packages) (get_or packages i d)
      ∙ (λ j. counted s is (take i packages) + length (flat_map (triples s) (cond (is (long j)) ((long j, get_or packages i d) ∷ []) [])))
      ∙ (λ j. counted s is (take i packages) + length (flat_map (triples s) (cond (e j) ((i + 1, get_or packages i d) ∷ []) [])))

  -- a package that the status holds
  pub counted_held : (before now more : ℕ) → is (i + 1) ≡ true → before ≡ at_most_max (counted s is (take i packages))
      → more ≡ count_by (λ clause. not (satisfies_clause s.proposed clause)) (recommended s (i + 1, get_or packages i d))
      → now ≡ min (before + more) (2 ^ 64 - 1) → now ≡ at_most_max (counted s is (take (i + 1) packages))
  counted_held before now more e so_far own added =
      let one : length (flat_map (triples s) ((i + 1, get_or packages i d) ∷ [])) ≡ more = ap length (append-nil (triples s (i + 1, get_or packages i d))) ∙ length-triples s (i + 1, get_or packages i d) ∙ sym own in
      let all = counted_more true e in
      omega (arith, all, one, so_far, added)

  -- and one that it doesn't
  pub counted_left_out : (before : ℕ) → is (i + 1) ≡ false → before ≡ at_most_max (counted s is (take i packages)) → before ≡ at_most_max (counted s is (take (i + 1) packages))
  counted_left_out before e so_far = let all = counted_more false e in omega (arith, all, so_far)

-- what is recommended at a place
pub recommended_at : (problem : PlainProblem) (s : Proposal) (i : ℕ) (d : PlainPackage) → s.problem.recommends ≡ problem.recommends → i < length problem.packages
    → unwrap_or (recommends_at problem (i + 1)) [] ≡ recommended s (i + 1, get_or problem.packages i d)
recommended_at problem s i d same inside =
    let place : package_at problem (i + 1) ≡ Some (get_or problem.packages i d) =
    (λ j. if ne_eqb (i + 1) 0 (λ e. omega arith) j then None else slice_get problem.packages (i + 1 - 1))
    ∙ ap (slice_get problem.packages) {x = i + 1 - 1} {y = i} (omega arith) ∙ slice_get-get_or problem.packages i d inside in
    λ j. unwrap_or (option_or (option_and_then (λ p. p.recommends) (place j)) (sym same j)) []

-- what stands for a package past the end
pub nothing : PlainPackage
nothing = record { line = 0; name = []; version = 0; depends = []; conflicts = []; provides = []; installed = false; keep = Nothing; recommends = None }

pub all_counted : (s : Proposal) (is : ℕ → Bool) (packages : List PlainPackage) (i n : ℕ) → length packages ≤ i → n ≡ at_most_max (counted s is (take i packages)) → n ≡ at_most_max (counted s is packages)
all_counted s is packages i n end so_far = so_far ∙ ap (λ ps. at_most_max (counted s is ps)) (take_all i packages end)
