-- The answers to questions, asked one after the other.
use Rattle.std.proofs.Common.{◌≡◌, ℕ, ◌+◌, ◌<◌, ◌≤◌, Bool, true, false, not, ◌||◌, ◌&&◌, ◌==◌, List, [], ◌∷◌, ◌++◌, length, take, get_or, Option, Some, None, refl, sym, ap, ◌∙◌, arith, subst}
use Rattle.std.specs.List.{list_any}
use Rattle.std.specs.List.Sorted.{IsPermutation}
use Rattle.std.specs.Option.{option_map_or}
use Rattle.std.proofs.Math.Bool.{or_assoc}
use Rattle.std.proofs.lemmas.Bool.{true≢false}
use Rattle.std.proofs.lemmas.Bool.Decides.{nat_tests}
use Rattle.std.proofs.lemmas.List.{take_all, take_more}
use Rattle.std.proofs.lemmas.List.Folds.{list_any-append}
use Rattle.std.proofs.lemmas.List.Sorted.{list_any-IsPermutation}
use Rattle.cudf_value.specs.Promises.Views.{vpkg_view}
use Rattle.cudf_value.specs.Vpkgs.{meets}
use Rattle.cudf_value.specs.declared.vpkg.Relop.{Relop}
use Rattle.cudf_value.specs.declared.vpkg.Relop.TheVariants.{Eq, Neq, Geq, Gt, Leq, Lt}
use Rattle.cudf_value.specs.declared.vpkg.Vpkg.{Vpkg}
use Rattle.cudf_index.specs.Satisfaction.{Placed, is_below_one, meets_alone}
use Rattle.cudf_index.specs.Working.FirstPlaces.{number_meets}
use Rattle.cudf_index.specs.Working.Gathering.{given_by}
use Rattle.cudf_index.specs.Working.Places.{has, passes_at, Adds, PassesOrAdds}
use Rattle.cudf_index.specs.Working.Questions.{will_have, WillAdd, PassesOrAsks, passes_left, LeavesBound, covers, rest_of, gives_at, answers, Leaves, Answered}
use Rattle.cudf_index.specs.Working.ProvisionTest.{passes}
use Rattle.cudf_index.specs.declared.index.gathered_names.Provision.{Provision}
use Rattle.cudf_index.specs.declared.index.named_trees.ProvisionTest.{ProvisionTest}
use Rattle.cudf_index.specs.declared.index.named_trees.ProvisionTest.TheVariants.{Meeting, Number}
use Rattle.cudf_index.proofs.ClauseLemmas.{or_none, and_or, any_agree, any_or, any_never, meeting_at}

-- ---- questions beside places

or_swap : (h a t : Bool) → ((h || t) || a) ≡ ((h || a) || t)
or_swap true a t = refl
or_swap false true true = refl
or_swap false true false = refl
or_swap false false true = refl
or_swap false false false = refl

pub or_true : (a b : Bool) → b ≡ true → (a || b) ≡ true
or_true true b e = refl
or_true false b e = e

abbrev answered : List Vpkg → ℕ → List Placed → Bool
answered questions p status = list_any (λ v. passes_at (meets_alone (vpkg_view v)) p status) questions

pub adds_asks : (test : Placed → Bool) (status : List Placed) (old new : List ℕ) (questions : List Vpkg) → Adds test status old new → WillAdd test status old questions new questions
adds_asks test status old new questions added p =
    ap (λ b. b || answered questions p status) (added p) ∙ or_swap (has old p) (answered questions p status) (passes_at test p status)

pub question_asks : (v : Vpkg) (status : List Placed) (old : List ℕ) (questions more : List Vpkg) → more ≡ questions ++ v ∷ [] → WillAdd (meets_alone (vpkg_view v)) status old questions old more
question_asks v status old questions more is p =
    ap (λ qs. has old p || answered qs p status) is
    ∙ ap (λ b. has old p || b) (list_any-append (λ q. passes_at (meets_alone (vpkg_view q)) p status) questions (v ∷ []) ∙ ap (λ b. answered questions p status || b) (sym (or_none (passes_at (meets_alone (vpkg_view v)) p status))))
    ∙ sym (or_assoc (has old p) (answered questions p status) (passes_at (meets_alone (vpkg_view v)) p status))

pub asks_instead : (is : Bool) (test : Placed → Bool) (own : ℕ) (status : List Placed) (old new : List ℕ) (questions : List Vpkg) → PassesOrAdds is test own status old new → PassesOrAsks is test own status old questions new questions
asks_instead true test own status old new questions put = or_true (will_have old questions status own) _ put
asks_instead false test own status old new questions put = adds_asks test status old new questions put

pub will_have_same : (old new : List ℕ) (questions : List Vpkg) (status : List Placed) (p : ℕ) → has new p ≡ has old p → will_have new questions status p ≡ will_have old questions status p
will_have_same old new questions status p same = ap (λ b. b || answered questions p status) same

pub none_there : (places : List ℕ) (questions : List Vpkg) (status : List Placed) (p : ℕ) → places ≡ [] → questions ≡ [] → will_have places questions status p ≡ false
none_there places questions status p none unasked = ap (λ ps. will_have ps questions status p) none ∙ ap (λ qs. answered qs p status) unasked

-- ---- what is left of a bound

covered : (r : Relop) (m n : ℕ) → covers r m n ≡ true → (o : Option ℕ) → (number_meets (Some (r, m)) o || false) ≡ (number_meets (Some (r, m)) o || number_meets (Some (r, n)) o)
covered Eq m n e None = refl
covered Eq m n e (Some k) = grind (arith, nat_tests)
covered Neq m n e None = refl
covered Neq m n e (Some k) = grind (arith, nat_tests)
covered Geq m n e None = refl
covered Geq m n e (Some k) = grind (arith, nat_tests)
covered Gt m n e None = refl
covered Gt m n e (Some k) = grind (arith, nat_tests)
covered Leq m n e None = refl
covered Leq m n e (Some k) = grind (arith, nat_tests)
covered Lt m n e None = grind (arith, nat_tests)
covered Lt m n e (Some k) = grind (arith, nat_tests)

pub covered_leaves : (r : Relop) (m n : ℕ) → covers r m n ≡ true → LeavesBound (Some (r, m)) (Some (r, n)) None
covered_leaves r m n e g = covered r m n e g.number

unequal : (m n : ℕ) → (m == n) ≡ false → (o : Option ℕ) → (number_meets (Some (Neq, m)) o || option_map_or (meets (Some (Eq, m))) o false) ≡ (number_meets (Some (Neq, m)) o || number_meets (Some (Neq, n)) o)
unequal m n e None = refl
unequal m n e (Some k) = grind (arith, nat_tests)

equal : (m n : ℕ) (o : Option ℕ) → (number_meets (Some (Eq, m)) o || option_map_or (meets (Some (Eq, n))) o false) ≡ (number_meets (Some (Eq, m)) o || number_meets (Some (Eq, n)) o)
equal m n None = refl
equal m n (Some k) = refl

pub rest_leaves : (r : Relop) (m n : ℕ) → covers r m n ≡ false → LeavesBound (Some (r, m)) (Some (r, n)) (Some (rest_of r m n))
rest_leaves Eq m n e g = equal m n g.number
rest_leaves Neq m n e g = unequal m n e g.number
rest_leaves Geq m n e g = refl
rest_leaves Gt m n e g = refl
rest_leaves Leq m n e g = refl
rest_leaves Lt m n e g = refl

-- where those without a number are there
pub equal_leaves : (asked : Option (Relop × ℕ)) (n : ℕ) → is_below_one asked ≡ false → LeavesBound asked (Some (Eq, n)) (Some (Number (Some (Eq, n))))
equal_leaves asked n e g = by g.number
  where
    by : (o : Option ℕ) → (number_meets asked o || option_map_or (meets (Some (Eq, n))) o false) ≡ (number_meets asked o || number_meets (Some (Eq, n)) o)
    by None = ap (λ b. not b || false) e ∙ sym (ap (λ b. not b || true) e)
    by (Some k) = refl

-- ---- what is left of a question

module _ (name : List ℕ) (p : ℕ) (status : List Placed) where
  abbrev here : (Provision → Bool) → Placed → Bool
  here t q = (q.0 == p) && list_any t (given_by name q)

  gives_either : (s t : Provision → Bool) → gives_at (λ g. s g || t g) name p status ≡ (gives_at s name p status || gives_at t name p status)
  gives_either s t =
      any_agree (here (λ g. s g || t g)) (λ q. here s q || here t q)
      (λ q. ap (λ b. (q.0 == p) && b) (any_or s t (given_by name q)) ∙ and_or (q.0 == p) (list_any s (given_by name q)) (list_any t (given_by name q))) status
      ∙ any_or (here s) (here t) status

  gives_same : (s t : Provision → Bool) → ((g : Provision) → s g ≡ t g) → gives_at s name p status ≡ gives_at t name p status
  gives_same s t same = any_agree (here s) (here t) (λ q. ap (λ b. (q.0 == p) && b) (any_agree s t same (given_by name q))) status

  gives_none : gives_at (passes_left None) name p status ≡ false
  gives_none = any_never (here (λ g. false)) (λ q. ap (λ b. (q.0 == p) && b) (any_never (λ (g : Provision). false) (λ g. refl) (given_by name q)) ∙ never (q.0 == p)) status
    where
      never : (b : Bool) → (b && false) ≡ false
      never true = refl
      never false = refl

-- all of it, where nothing is known of its name
pub all_left : (asked : Option Vpkg) (v : Vpkg) → Leaves asked v (Some (Meeting v.bound))
all_left asked v p status = ap (λ b. answers asked p status || b) (meeting_at (vpkg_view v) p status)

pub named_left : (a v : Vpkg) (left : Option ProvisionTest) → a.name.now ≡ v.name.now → LeavesBound a.bound v.bound left → Leaves (Some a) v left
named_left a v left same bound p status =
    ap (λ b. b || gives_at (passes_left left) v.name.now p status) first
    ∙ sym (gives_either v.name.now p status (passes (Meeting a.bound)) (passes_left left))
    ∙ gives_same v.name.now p status (λ g. passes (Meeting a.bound) g || passes_left left g) (λ g. passes (Meeting a.bound) g || passes (Meeting v.bound) g) bound
    ∙ gives_either v.name.now p status (passes (Meeting a.bound)) (passes (Meeting v.bound))
    ∙ ap (λ b. b || gives_at (passes (Meeting v.bound)) v.name.now p status) (sym first)
    ∙ ap (λ b. answers (Some a) p status || b) (meeting_at (vpkg_view v) p status)
  where
    first : answers (Some a) p status ≡ gives_at (passes (Meeting a.bound)) v.name.now p status
    first = sym (meeting_at (vpkg_view a) p status) ∙ ap (λ f. gives_at (passes (Meeting a.bound)) f p status) same

-- ---- question by question

known_left : (a h l t : Bool) → (a || h) ≡ h → (a || l) ≡ (a || t) → (h || l) ≡ (h || t)
known_left a true l t known left = refl
known_left true false l t known left = absurd (true≢false known)
known_left false false l t known left = left

within : (t h : Bool) → (t || (h || t)) ≡ (h || t)
within true true = refl
within true false = refl
within false h = refl

module _ (old : List ℕ) (before : List Vpkg) (question : Vpkg) (status : List Placed) (asked : Option Vpkg) (places : List ℕ) (so_far : Answered old before status asked places) where
  abbrev meets_it : ℕ → Bool
  meets_it p = passes_at (meets_alone (vpkg_view question)) p status

  one_more : (p : ℕ) → (has places p || meets_it p) ≡ will_have old (before ++ question ∷ []) status p
  one_more p = ap (λ b. b || meets_it p) (so_far.there p) ∙ sym (question_asks question status old before (before ++ question ∷ []) refl p)

  pub nothing_more : Leaves asked question None → Answered old (before ++ question ∷ []) status asked places
  nothing_more left = record { known = so_far.known; there = λ p. or_none (has places p) ∙ same p ∙ one_more p }
    where
      same : (p : ℕ) → (has places p || false) ≡ (has places p || meets_it p)
      same p = known_left (answers asked p status) (has places p) false (meets_it p) (so_far.known p)
          (ap (λ b. answers asked p status || b) (sym (gives_none question.name.now p status)) ∙ left p status)

  pub more_there : (w : ProvisionTest) (new kept : List ℕ) → Leaves asked question (Some w) → Adds (λ q. list_any (passes w) (given_by question.name.now q)) status places new → ((p : ℕ) → has kept p ≡ has new p)
      → Answered old (before ++ question ∷ []) status (Some question) kept
  more_there w new kept left added same = record {
    known = λ p. ap (λ b. meets_it p || b) (now p) ∙ within (meets_it p) (has places p) ∙ sym (now p);
    there = λ p. now p ∙ one_more p;
  }
    where
      now : (p : ℕ) → has kept p ≡ (has places p || meets_it p)
      now p = same p ∙ added p ∙ known_left (answers asked p status) (has places p) (gives_at (passes w) question.name.now p status) (meets_it p) (so_far.known p) (left p status)

-- before the first
pub none_asked : (old : List ℕ) (status : List Placed) → Answered old [] status None old
none_asked old status = record { known = λ p. refl; there = λ p. or_none (has old p) }

-- an item of the list
pub one_answered : (old : List ℕ) (questions : List Vpkg) (i : ℕ) (d : Vpkg) (status : List Placed) (last : Option Vpkg) (places : List ℕ) → i < length questions
    → Answered old (take i questions ++ get_or questions i d ∷ []) status last places → Answered old (take (i + 1) questions) status last places
one_answered old questions i d status last places inside all = subst (λ qs. Answered old qs status last places) (sym (take_more questions i d inside)) all

-- after the last, whatever their order was
pub all_answered : (old : List ℕ) (questions sorted items : List Vpkg) (i : ℕ) (status : List Placed) (asked : Option Vpkg) (places : List ℕ) → IsPermutation questions sorted → items ≡ sorted → length items ≤ i
    → Answered old (take i items) status asked places → (p : ℕ) → has places p ≡ will_have old questions status p
all_answered old questions sorted items i status asked places moved is beyond all p =
    all.there p ∙ ap (λ qs. will_have old qs status p) (take_all i items beyond ∙ is)
    ∙ ap (λ b. has old p || b) (sym (list_any-IsPermutation (λ v. passes_at (meets_alone (vpkg_view v)) p status) questions sorted moved))
