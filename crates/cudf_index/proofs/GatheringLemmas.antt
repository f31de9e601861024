-- What packages give, gathered by name.
use Rattle.std.proofs.Common.{◌≡◌, ℕ, ◌+◌, ◌<◌, zero, suc, Bool, true, false, not, cond, ◌||◌, List, [], ◌∷◌, ◌++◌, length, get_or, take, map, Option, Some, None, refl, sym, ap, ◌∙◌, arith, bytes_eq, subst, length-append}
use Rattle.std.specs.Prelude.{filter, filter_map, option_map, slice_get, option_to_list, if◌then◌else◌}
use Rattle.std.specs.Option.{is_none}
use Rattle.std.specs.List.{count_by, cons_option}
use Rattle.std.proofs.Math.Bool.{or-false, or-true}
use Rattle.std.proofs.lemmas.List.{map-append, flat_map_more, take_more, length-take-le}
use Rattle.std.proofs.lemmas.List.Elements.{filter-append, filter_map-append}
use Rattle.cudf_value.specs.Vpkgs.{PlainVpkg}
use Rattle.cudf_index.specs.declared.index.gathered_names.Provision.{Provision}
use Rattle.cudf_value.specs.declared.vpkg.Relop.{Relop}
use Rattle.cudf_problem.specs.Documents.{is_empty}
use Rattle.cudf_problem.specs.Universe.{PlainPackage}
use Rattle.cudf_index.specs.Satisfaction.{Placed, members, entry_pair, unversioned_name, package_pairs, gives, gives_all_versions, numbers_of}
use Rattle.cudf_problem.specs.Ids.{Id}
use Rattle.cudf_index.specs.Working.Gathering.{provisions_of, own_entry, given_by, given_of, BothAt}
use Rattle.cudf_index.proofs.MemberLemmas.{members_kept, members_left_out}
use Rattle.cudf_index.proofs.CountLemmas.{count-cons, count-append}

-- ---- rows that are completed in turn

module _ {R E : Type 0} (Keeps : R → E → Type 0) where
  both_push : (xs : List R) (ys : List E) (x : R) (y : E) → length ys ≡ length xs → ((k : ℕ) → BothAt Keeps (slice_get xs k) (slice_get ys k)) → Keeps x y
      → (k : ℕ) → BothAt Keeps (slice_get (xs ++ x ∷ []) k) (slice_get (ys ++ y ∷ []) k)
  both_push [] [] x y same done more zero = more
  both_push [] [] x y same done more (suc k) = tt
  both_push [] (y' ∷ ys) x y same done more k = absurd (omega arith)
  both_push (x' ∷ xs) [] x y same done more k = absurd (omega arith)
  both_push (x' ∷ xs) (y' ∷ ys) x y same done more zero = done zero
  both_push (x' ∷ xs) (y' ∷ ys) x y same done more (suc k) = both_push xs ys x y (omega arith) (λ j. done (suc j)) more k

  -- one row more of those that there are
  pub one_more : (rows : List R) (done now : List E) (i : ℕ) (row : R) (e : E) → i < length rows → length done ≡ i → ((k : ℕ) → BothAt Keeps (slice_get (take i rows) k) (slice_get done k))
      → row ≡ get_or rows i row → Keeps row e → now ≡ done ++ e ∷ [] → (length now ≡ i + 1) × ((k : ℕ) → BothAt Keeps (slice_get (take (i + 1) rows) k) (slice_get now k))
  one_more rows done now i row e inside len before is whole same = (
    omega (arith, ap length same, length-append {A = E}),
    λ k. subst (λ es. BothAt Keeps (slice_get (take (i + 1) rows) k) (slice_get es k)) (sym same)
        (subst (λ rs. BothAt Keeps (slice_get rs k) (slice_get (done ++ e ∷ []) k)) (sym (take_more rows i row inside ∙ ap (λ r. take i rows ++ r ∷ []) (sym is)))
        (both_push (take i rows) done row e (omega (arith, length-take-le i rows (omega arith))) before whole k)),
  )

-- each item of a row has a number or none
pub numbers_and_none : (row : List Provision) → length (filter_map (λ g. g.number) row) + count_by (λ g. is_none g.number) row ≡ length row
numbers_and_none [] = refl
numbers_and_none (g ∷ gs) =
    ap (λ n. length (cons_option g.number (filter_map (λ h. h.number) gs)) + n) (count-cons (λ h. is_none h.number) g gs)
    ∙ by g.number ∙ ap (λ n. n + 1) (numbers_and_none gs) ∙ omega arith
  where
    by : (o : Option ℕ) → length (cons_option o (filter_map (λ g. g.number) gs)) + (cond (is_none o) 1 0 + count_by (λ g. is_none g.number) gs) ≡ (length (filter_map (λ g. g.number) gs) + count_by (λ g. is_none g.number) gs) + 1
    by None = omega arith
    by (Some n) = omega arith

-- one entry more
pub provisions-push : (v : Bool) (f : List ℕ) (place : ℕ) (xs : List PlainVpkg) (e : PlainVpkg)
    → provisions_of v f place (xs ++ e ∷ []) ≡ provisions_of v f place xs ++ cond (bytes_eq e.name f) (record { number = option_map (λ b. b.1) e.bound; place = place; is_version = v } ∷ []) []
provisions-push v f place xs e =
    ap (map given) (filter-append (λ entry. bytes_eq entry.name f) xs (e ∷ []))
    ∙ map-append given (filter (λ entry. bytes_eq entry.name f) xs) (cond (bytes_eq e.name f) (e ∷ []) [])
    ∙ ap (λ ys. provisions_of v f place xs ++ ys) (by (bytes_eq e.name f))
  where
    given : PlainVpkg → Provision
    given entry = record { number = option_map (λ b. b.1) entry.bound; place = place; is_version = v }

    by : (b : Bool) → map given (cond b (e ∷ []) []) ≡ cond b (given e ∷ []) []
    by true = refl
    by false = refl

pub filter_map_push : {X Y : Type 0} (h : X → Option Y) (xs : List X) (x : X) → filter_map h (xs ++ x ∷ []) ≡ filter_map h xs ++ option_to_list (h x)
filter_map_push {Y = Y} h xs x = filter_map-append h xs (x ∷ []) ∙ ap (λ ys. filter_map h xs ++ ys) (by (h x))
  where
    by : (o : Option Y) → cons_option o [] ≡ option_to_list o
    by None = refl
    by (Some y) = refl

-- one entry first
pub provisions-cons : (v : Bool) (f : List ℕ) (place : ℕ) (e : PlainVpkg) (es : List PlainVpkg)
    → provisions_of v f place (e ∷ es) ≡ cond (bytes_eq e.name f) (record { number = option_map (λ b. b.1) e.bound; place = place; is_version = v } ∷ []) [] ++ provisions_of v f place es
provisions-cons v f place e es = by (bytes_eq e.name f)
  where
    given : PlainVpkg → Provision
    given entry = record { number = option_map (λ b. b.1) entry.bound; place = place; is_version = v }

    by : (b : Bool) → map given (cond b (e ∷ filter (λ entry. bytes_eq entry.name f) es) (filter (λ entry. bytes_eq entry.name f) es)) ≡ cond b (given e ∷ []) [] ++ provisions_of v f place es
    by true = refl
    by false = refl

-- ---- one package more

module _ {A : Type 0} (view : A → PlainPackage) (f : List ℕ) (holds : ℕ → Bool) (xs : List A) (i : ℕ) (d : A) (inside : i < length xs) where
  pub given_kept : (done now : List Provision) → holds (i + 1) ≡ true → done ≡ given_of f (members holds (map view (take i xs))) → now ≡ done ++ given_by f (i + 1, view (get_or xs i d)) → now ≡ given_of f (members holds (map view (take (i + 1) xs)))
  given_kept done now e before more =
      more ∙ ap (λ ps. ps ++ given_by f (i + 1, view (get_or xs i d))) before
      ∙ flat_map_more (given_by f) [] (members holds (map view (take i xs))) (i + 1, view (get_or xs i d)) ∙ ap (given_of f) (sym (members_kept view holds xs i d inside e))

  pub given_left_out : (done : List Provision) → holds (i + 1) ≡ false → done ≡ given_of f (members holds (map view (take i xs))) → done ≡ given_of f (members holds (map view (take (i + 1) xs)))
  given_left_out done e before = before ∙ ap (given_of f) (sym (members_left_out view holds xs i d inside e))

-- ---- what is gathered is what the status gives

-- the provisions of an entry
abbrev one_given : Bool → Bool → Option ℕ → ℕ → List Provision
one_given v b number place = cond b (record { number = number; place = place; is_version = v } ∷ []) []

module _ (f : List ℕ) where
  abbrev named_numbers : List Id → List ℕ
  named_numbers pairs = map (λ pair. pair.1) (filter (λ pair. bytes_eq pair.0 f) pairs)

  numbers-append : (xs ys : List Id) → named_numbers (xs ++ ys) ≡ named_numbers xs ++ named_numbers ys
  numbers-append xs ys =
      ap (map (λ (pair : Id). pair.1)) (filter-append (λ (pair : Id). bytes_eq pair.0 f) xs ys)
      ∙ map-append (λ (pair : Id). pair.1) (filter (λ (pair : Id). bytes_eq pair.0 f) xs) (filter (λ (pair : Id). bytes_eq pair.0 f) ys)

  entry_numbers : (v : Bool) (place : ℕ) (es : List PlainVpkg) → named_numbers (filter_map entry_pair es) ≡ filter_map (λ g. g.number) (provisions_of v f place es)
  entry_numbers v place [] = refl
  entry_numbers v place (e ∷ es) =
      by e.bound (entry_numbers v place es)
      ∙ sym (filter_map-append (λ g. g.number) (one_given v (bytes_eq e.name f) (option_map (λ b. b.1) e.bound) place) (provisions_of v f place es))
      ∙ ap (filter_map (λ g. g.number)) (sym (provisions-cons v f place e es))
    where
      with_number : (b : Bool) (n : ℕ) (rest : named_numbers (filter_map entry_pair es) ≡ filter_map (λ g. g.number) (provisions_of v f place es))
          → map (λ pair. pair.1) (cond b ((e.name, n) ∷ filter (λ pair. bytes_eq pair.0 f) (filter_map entry_pair es)) (filter (λ pair. bytes_eq pair.0 f) (filter_map entry_pair es)))
          ≡ filter_map (λ g. g.number) (one_given v b (Some n) place) ++ filter_map (λ g. g.number) (provisions_of v f place es)
      with_number true n rest = ap (λ ns. n ∷ ns) rest
      with_number false n rest = rest

      without_number : (b : Bool) → filter_map (λ g. g.number) (provisions_of v f place es) ≡ filter_map (λ g. g.number) (one_given v b None place) ++ filter_map (λ g. g.number) (provisions_of v f place es)
      without_number true = refl
      without_number false = refl

      by : (o : Option (Relop × ℕ)) → named_numbers (filter_map entry_pair es) ≡ filter_map (λ g. g.number) (provisions_of v f place es)
          → named_numbers (cons_option (option_map (λ bound. (e.name, bound.1)) o) (filter_map entry_pair es)) ≡ filter_map (λ g. g.number) (one_given v (bytes_eq e.name f) (option_map (λ b. b.1) o) place) ++ filter_map (λ g. g.number) (provisions_of v f place es)
      by None rest = rest ∙ without_number (bytes_eq e.name f)
      by (Some bound) rest = with_number (bytes_eq e.name f) bound.1 rest

  entry_names : (v : Bool) (place : ℕ) (es : List PlainVpkg) → count_by (λ given. bytes_eq given f) (filter_map unversioned_name es) ≡ count_by (λ g. is_none g.number) (provisions_of v f place es)
  entry_names v place [] = refl
  entry_names v place (e ∷ es) =
      by e.bound (entry_names v place es)
      ∙ sym (count-append (λ g. is_none g.number) (one_given v (bytes_eq e.name f) (option_map (λ b. b.1) e.bound) place) (provisions_of v f place es))
      ∙ ap (count_by (λ g. is_none g.number)) (sym (provisions-cons v f place e es))
    where
      all_versions : (b : Bool) → cond b 1 0 ≡ count_by (λ g. is_none g.number) (one_given v b None place)
      all_versions true = refl
      all_versions false = refl

      number : (b : Bool) (n : ℕ) → 0 ≡ count_by (λ g. is_none g.number) (one_given v b (Some n) place)
      number true n = refl
      number false n = refl

      by : (o : Option (Relop × ℕ)) → count_by (λ given. bytes_eq given f) (filter_map unversioned_name es) ≡ count_by (λ g. is_none g.number) (provisions_of v f place es)
          → count_by (λ given. bytes_eq given f) (cons_option (if is_none o then Some e.name else None) (filter_map unversioned_name es)) ≡ count_by (λ g. is_none g.number) (one_given v (bytes_eq e.name f) (option_map (λ b. b.1) o) place) + count_by (λ g. is_none g.number) (provisions_of v f place es)
      by None rest = omega (arith, count-cons (λ given. bytes_eq given f) e.name (filter_map unversioned_name es), rest, all_versions (bytes_eq e.name f))
      by (Some bound) rest = omega (arith, rest, number (bytes_eq e.name f) bound.1)

  -- the same of a status
  pairs_numbers : (p : Placed) → named_numbers (package_pairs p.1) ≡ filter_map (λ g. g.number) (given_by f p)
  pairs_numbers p =
      numbers-append ((p.1.name, p.1.version) ∷ []) (filter_map entry_pair p.1.provides)
      ∙ ap (λ ns. ns ++ named_numbers (filter_map entry_pair p.1.provides)) (entry_numbers true p.0 (own_entry p.1 ∷ []))
      ∙ ap (λ ns. filter_map (λ g. g.number) (provisions_of true f p.0 (own_entry p.1 ∷ [])) ++ ns) (entry_numbers false p.0 p.1.provides)
      ∙ sym (filter_map-append (λ g. g.number) (provisions_of true f p.0 (own_entry p.1 ∷ [])) (provisions_of false f p.0 p.1.provides))

  pub numbers_given : (status : List Placed) → numbers_of f status ≡ filter_map (λ g. g.number) (given_of f status)
  numbers_given [] = refl
  numbers_given (p ∷ ps) =
      numbers-append (package_pairs p.1) (gives ps)
      ∙ ap (λ ns. ns ++ numbers_of f ps) (pairs_numbers p)
      ∙ ap (λ ns. filter_map (λ g. g.number) (given_by f p) ++ ns) (numbers_given ps)
      ∙ sym (filter_map-append (λ g. g.number) (given_by f p) (given_of f ps))

  pub names_given_all : (status : List Placed) → count_by (λ given. bytes_eq given f) (gives_all_versions status) ≡ count_by (λ g. is_none g.number) (given_of f status)
  names_given_all [] = refl
  names_given_all (p ∷ ps) =
      omega (
        arith,
        count-append (λ given. bytes_eq given f) (filter_map unversioned_name p.1.provides) (gives_all_versions ps),
        entry_names true p.0 (own_entry p.1 ∷ []),
        entry_names false p.0 p.1.provides,
        names_given_all ps,
        count-append (λ g. is_none g.number) (provisions_of true f p.0 (own_entry p.1 ∷ [])) (provisions_of false f p.0 p.1.provides),
        count-append (λ g. is_none g.number) (given_by f p) (given_of f ps),
      )

-- ---- which names have rows

-- a provision more of this name or of another
pub filled-push : (row : List Provision) (provision : Provision) (has own : Bool) → has ≡ not (is_empty row) → (has || own) ≡ not (is_empty (row ++ cond own (provision ∷ []) []))
filled-push [] provision has true is = or-true has
filled-push [] provision has false is = or-false has ∙ is
filled-push (first ∷ row) provision has own is = ap (λ b. b || own) is
