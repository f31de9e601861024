-- The order of faults, and the least of several.
use Rattle.std.proofs.Common.{◌≡◌, Bool, true, false, List, [], ◌∷◌, ◌++◌, Option, None, Some, refl, sym, ap, ◌∙◌, arith, if◌then◌else◌}
use Rattle.std.proofs.lemmas.Bool.Decides.{nat_tests}
use Rattle.std.proofs.lemmas.List.Concat.{flat_map-append}
use Rattle.std.proofs.lemmas.List.{append-nil}
use Rattle.std.specs.List.{flat_map}
use Rattle.std.specs.Option.{option_or}
use Rattle.cudf_text.specs.declared.fault.Fault.{Fault}
use Rattle.cudf_text.specs.Faults.{precedes}
use Rattle.cudf_document.specs.Faults.{lesser, least}
use Rattle.cudf_problem.specs.Documents.{with_earlier}
use Rattle.cudf_document.specs.Working.Judging.{faults_or}
use Rattle.cudf_problem.proofs.ListLemmas.{with_earlier-push}

-- ---- the order

pub precedes_along : (f g h : Fault) → precedes f g ≡ true → precedes g h ≡ true → precedes f h ≡ true
precedes_along f g h p q = grind (arith, nat_tests)

pub follows_along : (f g h : Fault) → precedes f g ≡ false → precedes g h ≡ false → precedes f h ≡ false
follows_along f g h p q = grind (arith, nat_tests)

-- ---- the lesser of two

abbrev pick : {A : Type 0} → (A → A → Bool) → A → A → A
pick before f g = if before g f then g else f

pick-assoc : {A : Type 0} (before : A → A → Bool) → ((x y z : A) → before x y ≡ true → before y z ≡ true → before x z ≡ true)
    → ((x y z : A) → before x y ≡ false → before y z ≡ false → before x z ≡ false)
    → (f g h : A) → pick before (pick before f g) h ≡ pick before f (pick before g h)
pick-assoc {A} before along against f g h = by (before g f) (before h g) (before h f) refl refl refl
  where
    by : (a b c : Bool) → before g f ≡ a → before h g ≡ b → before h f ≡ c → pick before (pick before f g) h ≡ pick before f (pick before g h)
    by true true true p q r = simp (p, q, r)
    by true true false p q r = absurd (let t : before h f ≡ true = along h g f q p in cc)
    by true false c p q r = simp (p, q)
    by false true c p q r = simp (p, q)
    by false false true p q r = absurd (let t : before h f ≡ false = against h g f q p in cc)
    by false false false p q r = simp (p, q, r)

pub lesser-assoc : (x y z : Option Fault) → lesser (lesser x y) z ≡ lesser x (lesser y z)
lesser-assoc None y z = refl
lesser-assoc (Some f) None z = refl
lesser-assoc (Some f) (Some g) None = refl
lesser-assoc (Some f) (Some g) (Some h) = ap (λ x. Some x) (pick-assoc precedes precedes_along follows_along f g h)

-- ---- the least of several

pub least-append : (fs gs : List Fault) → least (fs ++ gs) ≡ lesser (least fs) (least gs)
least-append [] gs = refl
least-append (f ∷ fs) gs = ap (λ x. lesser (Some f) x) (least-append fs gs) ∙ sym (lesser-assoc (Some f) (least fs) (least gs))

lesser_is_some : (f : Fault) (x : Option Fault) → lesser (Some f) x ≡ None → ⊥
lesser_is_some f None h = cc
lesser_is_some f (Some g) h = cc

-- where none is the least, there is none
pub least-none : (fs : List Fault) → least fs ≡ None → fs ≡ []
least-none [] h = refl
least-none (f ∷ fs) h = absurd (lesser_is_some f (least fs) h)

-- what is in a wrong place has no other fault
pub least-faults_or : (place inner : List Fault) → least (faults_or place inner) ≡ option_or (least place) (least inner)
least-faults_or [] inner = refl
least-faults_or (f ∷ fs) inner = by (least fs)
  where
    by : (x : Option Fault) → lesser (Some f) x ≡ option_or (lesser (Some f) x) (least inner)
    by None = refl
    by (Some g) = refl

-- one more element, with its own faults
pub faults-next : {A : Type 0} (faults : List A × A → List Fault) (xs : List A) (x : A) (first fault : Option Fault)
    → first ≡ least (flat_map faults (with_earlier [] xs)) → fault ≡ least (faults (xs, x))
    → lesser first fault ≡ least (flat_map faults (with_earlier [] (xs ++ x ∷ [])))
faults-next faults xs x first fault before here =
    (λ i. lesser (before i) (here i))
    ∙ sym (least-append (flat_map faults (with_earlier [] xs)) (faults (xs, x)))
    ∙ ap least (ap (λ fs. flat_map faults (with_earlier [] xs) ++ fs) (sym (append-nil (faults (xs, x))))
    ∙ sym (flat_map-append faults (with_earlier [] xs) ((xs, x) ∷ []))
    ∙ ap (flat_map faults) (sym (with_earlier-push [] xs x)))

-- the same, whatever is before it
pub faults-push : {A : Type 0} (faults : A → List Fault) (xs : List A) (x : A) (first fault : Option Fault)
    → first ≡ least (flat_map faults xs) → fault ≡ least (faults x) → lesser first fault ≡ least (flat_map faults (xs ++ x ∷ []))
faults-push faults xs x first fault before here =
    (λ i. lesser (before i) (here i))
    ∙ sym (least-append (flat_map faults xs) (faults x))
    ∙ ap least (ap (λ fs. flat_map faults xs ++ fs) (sym (append-nil (faults x))) ∙ sym (flat_map-append faults xs (x ∷ [])))

pub ruleset appended = (least-append)
