-- The first provision of a name that meets a bound, and the first package.
use Rattle.std.proofs.Common.{◌≡◌, ℕ, Bool, true, false, not, cond, ◌||◌, ◌&&◌, ◌==◌, nat_lt, List, [], ◌∷◌, map, Option, Some, None, refl, sym, ap, ◌∙◌, bytes_eq}
use Rattle.std.specs.Prelude.{filter_map, find, option_map, if◌then◌else◌}
use Rattle.std.specs.List.{count_by, list_any, list_all, cons_option}
use Rattle.std.specs.Option.{option_or, is_none, is_some, IfSome}
use Rattle.std.proofs.Math.Bool.{or_assoc}
use Rattle.std.proofs.lemmas.Bool.{true≢false, eqb-true}
use Rattle.cudf_value.specs.declared.vpkg.Relop.{Relop}
use Rattle.cudf_value.specs.Vpkgs.{PlainVpkg, meets}
use Rattle.cudf_problem.proofs.ListLemmas.{find_none}
use Rattle.cudf_index.specs.Promises.Members.{other_than}
use Rattle.cudf_problem.specs.Documents.{is_empty}
use Rattle.cudf_index.specs.Satisfaction.{Placed, meets_alone, first_meeting, is_met_by, is_below_one, satisfies}
use Rattle.cudf_index.specs.Working.Gathering.{provisions_of, own_entry, given_by, given_of, sole_place, Completes}
use Rattle.cudf_index.specs.Working.Kept.{IsSole}
use Rattle.cudf_index.specs.Working.Members.{entry_meets, provision_meets, is_other}
use Rattle.cudf_index.specs.Working.FirstPlaces.{number_meets, meets_beside, first_place_of, is_sole, may_meet}
use Rattle.cudf_index.specs.declared.index.gathered_names.Entries.{Entries}
use Rattle.cudf_index.specs.declared.index.gathered_names.Provision.{Provision}
use Rattle.cudf_index.proofs.CountLemmas.{any-count, unless}
use Rattle.cudf_index.proofs.GatheringLemmas.{provisions-cons}
use Rattle.cudf_index.proofs.HalvesLemmas.{first-append}
use Rattle.cudf_index.proofs.SatisfactionLemmas.{member_alone, meets_alone-parts, or_split}
use Rattle.cudf_index.proofs.SearchLemmas.{find-filter, found_place, none_narrowed}

-- ---- a row in which none is found

-- the numbers, and whether there are provisions without one, tell whether one meets the bound
any_tells : (bound : Option (Relop × ℕ)) (row : List Provision) → list_any (λ g. number_meets bound g.number) row
    ≡ (list_any (meets bound) (filter_map (λ g. g.number) row) || (list_any (λ g. is_none g.number) row && not (is_below_one bound)))
any_tells bound [] = refl
any_tells bound (g ∷ gs) = ap (λ b. number_meets bound g.number || b) (any_tells bound gs) ∙ by g.number (list_any (λ h. is_none h.number) gs)
  where
    some : Bool
    some = list_any (meets bound) (filter_map (λ h. h.number) gs)

    by : (o : Option ℕ) (none : Bool) → (number_meets bound o || (some || (none && not (is_below_one bound)))) ≡ (list_any (meets bound) (cons_option o (filter_map (λ h. h.number) gs)) || ((is_none o || none) && not (is_below_one bound)))
    by None none = sym (or_split false some true none (not (is_below_one bound)))
    by (Some n) none = sym (or_assoc (meets bound n) some (none && not (is_below_one bound)))

none_elsewhere : (place : ℕ) (bound : Option (Relop × ℕ)) (row : List Provision) → list_all (λ q. q == place) (map (λ g. g.place) row) ≡ true → list_any (meets_beside (Some place) bound) row ≡ false
none_elsewhere place bound [] e = refl
none_elsewhere place bound (g ∷ gs) e = by (g.place == place) e (none_elsewhere place bound gs)
  where
    by : (b : Bool) → (b && list_all (λ q. q == place) (map (λ h. h.place) gs)) ≡ true → (list_all (λ q. q == place) (map (λ h. h.place) gs) ≡ true → list_any (meets_beside (Some place) bound) gs ≡ false)
        → ((not b && number_meets bound g.number) || list_any (meets_beside (Some place) bound) gs) ≡ false
    by true e rest = rest e
    by false e rest = absurd (true≢false (sym e))

-- all places are the sole one
pub sole_all : (places : List ℕ) (sole : ℕ) → Some sole ≡ sole_place places → list_all (λ q. q == sole) places ≡ true
sole_all [] sole e = refl
sole_all (place ∷ places) sole e = by (list_all (λ q. q == place) (place ∷ places)) refl e
  where
    by : (b : Bool) → list_all (λ q. q == place) (place ∷ places) ≡ b → Some sole ≡ (if b then Some place else None) → list_all (λ q. q == sole) (place ∷ places) ≡ true
    by true all e = ap (λ s. list_all (λ q. q == s) (place ∷ places)) (inside e) ∙ all
      where
        inside : Some sole ≡ Some place → sole ≡ place
        inside e = cc
    by false all e = absurd cc

-- what is kept of a row tells whether one of it meets the bound
pub counted : (bound : Option (Relop × ℕ)) (row : List Provision) (e : Entries) → Completes row e
    → list_any (λ g. number_meets bound g.number) row ≡ (nat_lt 0 (count_by (meets bound) e.numbers) || nat_lt 0 (if is_below_one bound then 0 else e.unversioned))
counted bound row e whole =
    any_tells bound row
    ∙ (λ i. (any-count (meets bound) (filter_map (λ g. g.number) row) ∙ ap (nat_lt 0) (sym (whole.numbers (meets bound)))) i || ((any-count (λ g. is_none g.number) row ∙ ap (nat_lt 0) (sym whole.unversioned)) i && not (is_below_one bound)))
    ∙ ap (λ b. nat_lt 0 (count_by (meets bound) e.numbers) || b) (sym (unless 0 (is_below_one bound) e.unversioned))

module _ (except : Option ℕ) (bound : Option (Relop × ℕ)) (row : List Provision) (e : Entries) (whole : Completes row e) where
  none_counted : (nat_lt 0 (count_by (meets bound) e.numbers) || nat_lt 0 (if is_below_one bound then 0 else e.unversioned)) ≡ false → list_any (meets_beside except bound) row ≡ false
  none_counted none = none_narrowed (λ g. number_meets bound g.number) (λ g. is_other except g.place) row (counted bound row e whole ∙ none)

pub none_met : (except : Option ℕ) (bound : Option (Relop × ℕ)) (row : List Provision) (e : Entries) → Completes row e → may_meet except bound e ≡ false → first_place_of except bound row ≡ None
none_met except bound row e whole never = ap (option_map (λ g. g.place)) (find_none (meets_beside except bound) row (by except e.sole refl never))
  where
    test : Bool
    test = nat_lt 0 (count_by (meets bound) e.numbers) || nat_lt 0 (if is_below_one bound then 0 else e.unversioned)

    by : (o sole : Option ℕ) → e.sole ≡ sole → (not (is_sole o sole) && (nat_lt 0 (count_by (meets bound) e.numbers) || nat_lt 0 (if is_below_one bound then 0 else e.unversioned))) ≡ false → list_any (meets_beside o bound) row ≡ false
    by None sole is none = none_counted None bound row e whole none
    by (Some place) None is none = none_counted (Some place) bound row e whole none
    by (Some place) (Some sole) is none = at (sole == place) refl none
      where
        at : (b : Bool) → (sole == place) ≡ b → (not b && (nat_lt 0 (count_by (meets bound) e.numbers) || nat_lt 0 (if is_below_one bound then 0 else e.unversioned))) ≡ false → list_any (meets_beside (Some place) bound) row ≡ false
        at false same none = none_counted (Some place) bound row e whole none
        at true same none =
            none_elsewhere place bound row (ap (λ s. list_all (λ q. q == s) (map (λ g. g.place) row)) (sym (eqb-true sole place same)) ∙ sole_all (map (λ g. g.place) row) sole (sym is ∙ whole.sole))

-- ---- the provisions of a status

module _ (v : PlainVpkg) (except : Option ℕ) where
  abbrev first_in : List Provision → Option ℕ
  first_in row = first_place_of except v.bound row

  first_of_entries : (own : Bool) (place : ℕ) (es : List PlainVpkg) → first_in (provisions_of own v.name place es) ≡ cond (is_other except place && list_any (entry_meets v) es) (Some place) None
  first_of_entries own place [] = none (is_other except place)
    where
      none : (b : Bool) → None ≡ cond (b && false) (Some place) None
      none true = refl
      none false = refl
  first_of_entries own place (e ∷ es) =
      ap first_in (provisions-cons own v.name place e es)
      ∙ first-append (meets_beside except v.bound) (cond (bytes_eq e.name v.name) (record { number = option_map (λ b. b.1) e.bound; place = place; is_version = own } ∷ []) []) (provisions_of own v.name place es)
      ∙ ap (option_or (first_in (cond (bytes_eq e.name v.name) (record { number = option_map (λ b. b.1) e.bound; place = place; is_version = own } ∷ []) []))) (first_of_entries own place es)
      ∙ by (bytes_eq e.name v.name) e.bound (list_any (entry_meets v) es)
    where
      same : (bound : Option (Relop × ℕ)) → number_meets v.bound (option_map (λ b. b.1) bound) ≡ provision_meets v.bound bound
      same None = refl
      same (Some n) = refl

      by : (named : Bool) (bound : Option (Relop × ℕ)) (rest : Bool)
          → option_or (first_in (cond named (record { number = option_map (λ b. b.1) bound; place = place; is_version = own } ∷ []) [])) (cond (is_other except place && rest) (Some place) None)
          ≡ cond (is_other except place && ((named && provision_meets v.bound bound) || rest)) (Some place) None
      by false bound rest = refl
      by true bound rest = placed (is_other except place) (number_meets v.bound (option_map (λ b. b.1) bound)) ∙ ap (λ m. cond (is_other except place && (m || rest)) (Some place) None) (same bound)
        where
          placed : (o m : Bool) → option_or (option_map (λ (g : Provision). g.place) (cond (o && m) (Some (record { number = option_map (λ b. b.1) bound; place = place; is_version = own })) None)) (cond (o && rest) (Some place) None) ≡ cond (o && (m || rest)) (Some place) None
          placed true true = refl
          placed true false = refl
          placed false m = refl

  pub first_by : (p : Placed) → first_in (given_by v.name p) ≡ cond (is_other except p.0 && meets_alone v p) (Some p.0) None
  first_by p =
      first-append (meets_beside except v.bound) (provisions_of true v.name p.0 (own_entry p.1 ∷ [])) (provisions_of false v.name p.0 p.1.provides)
      ∙ ap (λ o. option_or o (first_in (provisions_of false v.name p.0 p.1.provides))) (first_of_entries true p.0 (own_entry p.1 ∷ []))
      ∙ ap (option_or (cond (is_other except p.0 && list_any (entry_meets v) (own_entry p.1 ∷ [])) (Some p.0) None)) (first_of_entries false p.0 p.1.provides)
      ∙ joined (is_other except p.0) (is_met_by v (p.1.name, p.1.version)) (list_any (entry_meets v) p.1.provides)
      ∙ ap (λ m. cond (is_other except p.0 && m) (Some p.0) None) (sym (meets_alone-parts v p))
    where
      joined : (o a b : Bool) → option_or (cond (o && (a || false)) (Some p.0) None) (cond (o && b) (Some p.0) None) ≡ cond (o && (a || b)) (Some p.0) None
      joined true true b = refl
      joined true false b = refl
      joined false a b = refl

  first_package : (status : List Placed) → first_in (given_of v.name status) ≡ option_map (λ p. p.0) (find (λ p. is_other except p.0 && meets_alone v p) status)
  first_package [] = refl
  first_package (p ∷ ps) =
      first-append (meets_beside except v.bound) (given_by v.name p) (given_of v.name ps)
      ∙ ap (λ o. option_or o (first_in (given_of v.name ps))) (first_by p)
      ∙ ap (option_or (cond (is_other except p.0 && meets_alone v p) (Some p.0) None)) (first_package ps)
      ∙ by (is_other except p.0 && meets_alone v p)
    where
      by : (b : Bool) → option_or (cond b (Some p.0) None) (option_map (λ q. q.0) (find (λ q. is_other except q.0 && meets_alone v q) ps)) ≡ option_map (λ q. q.0) (cond b (Some p) (find (λ q. is_other except q.0 && meets_alone v q) ps))
      by true = refl
      by false = refl

  find_others : (o : Option ℕ) (status : List Placed) → find (λ p. is_other o p.0 && meets_alone v p) status ≡ find (meets_alone v) (other_than o status)
  find_others None status = refl
  find_others (Some place) status = sym (find-filter (meets_alone v) (λ p. is_other (Some place) p.0) status)

  pub first_given : (status : List Placed) → first_in (given_of v.name status) ≡ first_meeting (other_than except status) v
  first_given status = first_package status ∙ ap (option_map (λ p. p.0)) (find_others except status)

  -- that there is one tells whether the status, less the package that is named, satisfies the vpkg
  first_tells : (status : List Placed) → is_some (first_in (given_of v.name status)) ≡ satisfies (other_than except status) v
  first_tells status = ap is_some (first_given status) ∙ found_place (λ p. p.0) (meets_alone v) (other_than except status) ∙ sym (member_alone (other_than except status) v)

-- a vpkg without a bound is satisfied where something is given of its name
pub given-bare : (name : List ℕ) (status : List Placed) → not (is_empty (given_of name status)) ≡ satisfies status (record { name = name; bound = None })
given-bare name status = some (given_of name status) ∙ first_tells (record { name = name; bound = None }) None status
  where
    some : (row : List Provision) → not (is_empty row) ≡ is_some (first_place_of None None row)
    some [] = refl
    some (g ∷ gs) = by g.number
      where
        by : (o : Option ℕ) → true ≡ is_some (option_map (λ (h : Provision). h.place) (cond (number_meets None o) (Some g) (find (meets_beside None None) gs)))
        by None = refl
        by (Some n) = refl

-- the place of all that is given of a name is that of the only package without which no vpkg of that name is satisfied
pub sole_given : (name : List ℕ) (status : List Placed) → IfSome (sole_place (map (λ g. g.place) (given_of name status))) (IsSole name status)
sole_given name status = by (sole_place (map (λ g. g.place) (given_of name status))) refl
  where
    by : (o : Option ℕ) → o ≡ sole_place (map (λ g. g.place) (given_of name status)) → IfSome o (IsSole name status)
    by None e = tt
    by (Some place) e = λ v named.
        let all = ap (λ n. list_all (λ q. q == place) (map (λ g. g.place) (given_of n status))) named ∙ sole_all (map (λ g. g.place) (given_of name status)) place e in
        sym (first_tells v (Some place) status)
        ∙ ap (λ found. is_some (option_map (λ (g : Provision). g.place) found)) (find_none (meets_beside (Some place) v.bound) (given_of v.name status) (none_elsewhere place v.bound (given_of v.name status) all))
