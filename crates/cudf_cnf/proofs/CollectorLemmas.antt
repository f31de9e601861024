-- What a collector has taken, with clauses more.
use Rattle.std.proofs.Common.{◌≡◌, ℕ, ◌+◌, ◌<◌, ◌≤◌, Bool, true, false, nat_le, List, [], ◌∷◌, ◌++◌, length, take, drop, get_or, refl, sym, subst, ap, ◌∙◌, arith, append_assoc, length-append}
use Rattle.std.specs.List.{flat_map}
use Rattle.std.proofs.lemmas.Bool.{true≢false}
use Rattle.std.proofs.lemmas.Bool.Decides.{nat_tests}
use Rattle.std.proofs.lemmas.List.{append-nil, map-append, take_more, take-append-drop}
use Rattle.std.proofs.lemmas.List.Concat.{flat_map-append}
use Rattle.cudf_problem.specs.Universe.{PlainProblem}
use Rattle.cudf_job.specs.Keys.{PlainKey}
use Rattle.cudf_lrat.specs.declared.cnf.Literal.{Literal}
use Rattle.cudf_referee.specs.Instances.{PlainInstance}
use Rattle.cudf_cnf.specs.declared.clauses.Collector.{Collector}
use Rattle.cudf_cnf.specs.Cnf.{Keyed, cnf, keyed_clauses}
use Rattle.cudf_cnf.specs.Working.Collecting.{Outcome, Received}
use Rattle.cudf_cnf.specs.Working.Parts.{keyed}

-- whether there is room for what it holds
pub has_space : (b : Bool) (n room : ℕ) → b ≡ true → b ≡ nat_le n room → n ≤ room
has_space b n room h is = grind (arith, nat_tests)

pub no_space : (b : Bool) (n room : ℕ) → b ≡ false → b ≡ nat_le n room → room < n
no_space b n room h is = grind (arith, nat_tests)

pub settled : (b : Bool) (xs : List Keyed) (c : Collector) → c.clauses.clauses ≡ xs → b ≡ nat_le (length c.clauses.clauses) c.room → Outcome b xs c
settled true xs c held is = record { held = held; fits = has_space true (length c.clauses.clauses) c.room refl is }
settled false xs c held is = subst (λ (ks : List Keyed). c.room < length ks) held (no_space false (length c.clauses.clauses) c.room refl is)

pub outcome_as : (b : Bool) (xs ys : List Keyed) (c : Collector) → xs ≡ ys → Outcome b xs c → Outcome b ys c
outcome_as b xs ys c same h = subst (λ (ks : List Keyed). Outcome b ks c) same h

-- where there is no room for the first of them there is none for all
pub too_many : (xs ys all : List Keyed) (c : Collector) → xs ++ ys ≡ all → c.room < length xs → c.room < length all
too_many xs ys all c same h = omega (arith, length-append xs ys, ap (λ (ks : List Keyed). length ks) same)

pub had_room : (b : Bool) (xs : List Keyed) (c : Collector) → b ≡ true → Outcome b xs c → Received xs c
had_room true xs c e h = h
had_room false xs c e h = absurd (true≢false (sym e))

pub had_none : (b : Bool) (xs : List Keyed) (c : Collector) → b ≡ false → Outcome b xs c → c.room < length xs
had_none true xs c e h = absurd (true≢false e)
had_none false xs c e h = h

-- with the clauses of one instance more
pub one_more : (problem : PlainProblem) (held : List Keyed) (i : PlainInstance) (is rest : List PlainInstance) → is ≡ i ∷ rest → held ++ flat_map (keyed_clauses problem) is ≡ cnf problem
    → (held ++ keyed_clauses problem i) ++ flat_map (keyed_clauses problem) rest ≡ cnf problem
one_more problem held i is rest steps left =
    append_assoc held (keyed_clauses problem i) (flat_map (keyed_clauses problem) rest) ∙ ap (λ (js : List PlainInstance). held ++ flat_map (keyed_clauses problem) js) (sym steps) ∙ left

-- ---- one place after the other

module _ (key : PlainKey) (make : ℕ → List (List Literal)) (xs : List Keyed) (ns : List ℕ) where
  -- the clauses of the first places
  abbrev pub up_to : ℕ → List Keyed
  up_to i = xs ++ keyed key (flat_map make (take i ns))

  pub next_place : (i n : ℕ) → i < length ns → n ≡ get_or ns i 0 → up_to i ++ keyed key (make n) ≡ up_to (i + 1)
  next_place i n inside read =
      append_assoc xs (keyed key (flat_map make (take i ns))) (keyed key (make n))
      ∙ ap (λ (ks : List Keyed). xs ++ ks)
      (sym (map-append (λ (clause : List Literal). (key, clause)) (flat_map make (take i ns)) (make n))
      ∙ ap (keyed key) (ap (λ (cs : List (List Literal)). flat_map make (take i ns) ++ cs) (sym (append-nil (make n))) ∙ sym (flat_map-append make (take i ns) (n ∷ []))
      ∙ ap (flat_map make) (ap (λ (m : ℕ). take i ns ++ m ∷ []) read ∙ sym (take_more ns i 0 inside))))

  pub rest_of : (i : ℕ) → up_to i ++ keyed key (flat_map make (drop i ns)) ≡ xs ++ keyed key (flat_map make ns)
  rest_of i =
      append_assoc xs (keyed key (flat_map make (take i ns))) (keyed key (flat_map make (drop i ns)))
      ∙ ap (λ (ks : List Keyed). xs ++ ks)
      (sym (map-append (λ (clause : List Literal). (key, clause)) (flat_map make (take i ns)) (flat_map make (drop i ns)))
      ∙ ap (keyed key) (sym (flat_map-append make (take i ns) (drop i ns)) ∙ ap (flat_map make) (take-append-drop i ns)))
