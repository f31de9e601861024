-- Questions of names with many provisions, and what is left of one where another one is answered (own).
use Rattle.std.specs.Prelude.{◌≡◌, ℕ, ◌==◌, Bool, true, false, ◌&&◌, ◌||◌, nat_lt, nat_le, List, [], ◌∷◌, ◌++◌, Option, Some, None}
use Rattle.std.specs.List.{list_any}
use Rattle.cudf_value.specs.Promises.Views.{vpkg_view}
use Rattle.cudf_value.specs.declared.vpkg.Relop.{Relop}
use Rattle.cudf_value.specs.declared.vpkg.Relop.TheVariants.{Eq, Neq, Geq, Gt, Leq, Lt}
use Rattle.cudf_value.specs.declared.vpkg.Vpkg.{Vpkg}
use Rattle.cudf_index.specs.Satisfaction.{Placed, meets_alone}
use Rattle.cudf_index.specs.Working.Gathering.{given_by}
use Rattle.cudf_index.specs.Working.Places.{has, passes_at}
use Rattle.cudf_index.specs.Working.ProvisionTest.{passes}
use Rattle.cudf_index.specs.declared.index.gathered_names.Provision.{Provision}
use Rattle.cudf_index.specs.declared.index.named_trees.ProvisionTest.{ProvisionTest}
use Rattle.cudf_index.specs.declared.index.named_trees.ProvisionTest.TheVariants.{Meeting, Number}

-- the place is there, or the package at it answers one of the questions
abbrev pub will_have : List ℕ → List Vpkg → List Placed → ℕ → Bool
will_have places questions status place = has places place || list_any (λ v. passes_at (meets_alone (vpkg_view v)) place status) questions

-- the places of the packages that pass are there, or will be, beside the old ones
abbrev pub WillAdd : (Placed → Bool) → List Placed → List ℕ → List Vpkg → List ℕ → List Vpkg → Type 0
WillAdd test status old asked new asking = (place : ℕ) → will_have new asking status place ≡ (will_have old asked status place || passes_at test place status)

-- the package at a place passes, or its place will be there anyway; or the places of those that pass will be there
abbrev pub PassesOrAsks : Bool → (Placed → Bool) → ℕ → List Placed → List ℕ → List Vpkg → List ℕ → List Vpkg → Type 0
PassesOrAsks true test own status old asked new asking = (will_have old asked status own || passes_at test own status) ≡ true
PassesOrAsks false test own status old asked new asking = WillAdd test status old asked new asking

-- ---- what is left to ask

abbrev pub passes_left : Option ProvisionTest → Provision → Bool
passes_left None g = false
passes_left (Some w) g = passes w g

-- all that meet a bound pass what is left, or meet the bound that was asked before; nothing else does
abbrev pub LeavesBound : Option (Relop × ℕ) → Option (Relop × ℕ) → Option ProvisionTest → Type 0
LeavesBound asked bound left = (g : Provision) → (passes (Meeting asked) g || passes_left left g) ≡ (passes (Meeting asked) g || passes (Meeting bound) g)

-- of bounds with one operator: each number that meets the second meets the first
abbrev pub covers : Relop → ℕ → ℕ → Bool
covers Eq asked number = asked == number
covers Neq asked number = asked == number
covers Geq asked number = nat_le asked number
covers Gt asked number = nat_le asked number
covers Leq asked number = nat_le number asked
covers Lt asked number = nat_le number asked && nat_lt 1 number

-- and what is left where it doesn't
abbrev pub rest_of : Relop → ℕ → ℕ → ProvisionTest
rest_of Eq asked number = Number (Some (Eq, number))
rest_of Neq asked number = Number (Some (Eq, asked))
rest_of relop asked number = Meeting (Some (relop, number))

-- a package of the status at the place gives a provision of the name that passes
abbrev pub gives_at : (Provision → Bool) → List ℕ → ℕ → List Placed → Bool
gives_at test name place status = passes_at (λ q. list_any test (given_by name q)) place status

-- the package at the place answers the question, if there is one
abbrev pub answers : Option Vpkg → ℕ → List Placed → Bool
answers None place status = false
answers (Some v) place status = passes_at (meets_alone (vpkg_view v)) place status

-- the same of what is left of a question where another one is answered
abbrev pub Leaves : Option Vpkg → Vpkg → Option ProvisionTest → Type 0
Leaves asked question left = (place : ℕ) (status : List Placed) → (answers asked place status || gives_at (passes_left left) question.name.now place status) ≡ (answers asked place status || passes_at (meets_alone (vpkg_view question)) place status)

-- what was asked last is there, and so is the answer to each question so far
pub record Answered (old : List ℕ) (questions : List Vpkg) (status : List Placed) (asked : Option Vpkg) (places : List ℕ) : Type 0 where
  pub known : (place : ℕ) → (answers asked place status || has places place) ≡ has places place
  pub there : (place : ℕ) → has places place ≡ will_have old questions status place

-- one question more is answered
abbrev pub AnswersMore : Vpkg → List Placed → Option Vpkg → List ℕ → Option Vpkg → List ℕ → Type 0
AnswersMore question status asked places last new = (old : List ℕ) (before : List Vpkg) → Answered old before status asked places → Answered old (before ++ question ∷ []) status last new
