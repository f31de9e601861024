-- Lists that are one after the other, and one more after them.
use Rattle.std.proofs.Common.{◌≡◌, ℕ, ◌-◌, ◌≤◌, List, [], ◌∷◌, ◌++◌, length, take, drop, map, refl, sym, ap, ◌∙◌, arith, length-append, length-drop}
use Rattle.std.specs.Prelude.{All, Result, Ok, Err, false, is_err, is_ok, slice_range, if◌then◌else◌}
use Rattle.std.specs.List.{flat_map}
use Rattle.std.proofs.lemmas.List.{append-nil, take-append-le, drop-append-le, drop_at, take_all, map-append}
use Rattle.std.proofs.lemmas.List.Concat.{flat_map-append}
use Rattle.std.proofs.lemmas.List.Elements.{All-head, All-tail}
use Rattle.cudf_lrat.specs.declared.cnf.Span.{Span}

-- a span that was pushed, as no error came
pub was_pushed : {T E : Type 0} (r : Result (Unit {0}) E) (more spans same : List T) → is_err r ≡ false → more ≡ (if is_ok r then spans else same) → more ≡ spans
was_pushed (Ok u) more spans same h is = is
was_pushed (Err e) more spans same h is = cc

abbrev pub piece : {T : Type 0} → List T → Span → List T
piece items span = slice_range items span.start span.end

abbrev pub IsInside : {T : Type 0} → List T → Span → Type 0
IsInside items span = (span.start ≤ span.end) × (span.end ≤ length items)

range_kept : {T : Type 0} (xs ys : List T) (a b : ℕ) → a ≤ b → b ≤ length xs → slice_range (xs ++ ys) a b ≡ slice_range xs a b
range_kept xs ys a b below inside =
    let first : a ≤ length xs = omega arith in
    let rest : b - a ≤ length (drop a xs) = omega (arith, length-drop a xs) in
    ap (take (b - a)) (drop-append-le a xs ys first) ∙ take-append-le (b - a) (drop a xs) ys rest

pieces_kept : {T : Type 0} (xs ys : List T) (spans : List Span) → All (IsInside xs) spans → map (piece (xs ++ ys)) spans ≡ map (piece xs) spans
pieces_kept xs ys [] inside = refl
pieces_kept xs ys (span ∷ spans) inside =
    let here = All-head (IsInside xs) span spans inside in
    let first : piece (xs ++ ys) span ≡ piece xs span = range_kept xs ys span.start span.end here.0 here.1 in
    let rest : map (piece (xs ++ ys)) spans ≡ map (piece xs) spans = pieces_kept xs ys spans (All-tail (IsInside xs) span spans inside) in
    cc

last_piece : {T : Type 0} (xs ys : List T) (a b : ℕ) → a ≡ length xs → b ≡ length (xs ++ ys) → slice_range (xs ++ ys) a b ≡ ys
last_piece xs ys a b start end =
    let rest : drop a (xs ++ ys) ≡ ys = drop_at xs ys a (sym start) in
    let enough : length ys ≤ b - a = omega (arith, length-append xs ys) in
    ap (take (b - a)) rest ∙ take_all (b - a) ys enough

-- one more list
pub pieces_pushed : {T : Type 0} (xs ys zs : List T) (spans more : List Span) (span : Span) → All (IsInside xs) spans → zs ≡ xs ++ ys → more ≡ spans ++ span ∷ [] → span.start ≡ length xs → span.end ≡ length zs → map (piece zs) more ≡ map (piece xs) spans ++ ys ∷ []
pieces_pushed xs ys zs spans more span inside items all start end =
    let kept : map (piece (xs ++ ys)) spans ≡ map (piece xs) spans = pieces_kept xs ys spans inside in
    let new : piece (xs ++ ys) span ≡ ys = last_piece xs ys span.start span.end start (end ∙ ap length items) in
    let split : map (piece (xs ++ ys)) (spans ++ span ∷ []) ≡ map (piece (xs ++ ys)) spans ++ piece (xs ++ ys) span ∷ [] = map-append (piece (xs ++ ys)) spans (span ∷ []) in
    let same : map (piece zs) more ≡ map (piece (xs ++ ys)) (spans ++ span ∷ []) = cc in
    let joined : map (piece (xs ++ ys)) spans ++ piece (xs ++ ys) span ∷ [] ≡ map (piece xs) spans ++ ys ∷ [] = cc in
    same ∙ split ∙ joined

-- items after the last list belong to none
pub pieces_as_before : {T : Type 0} (xs ys zs : List T) (spans same : List Span) → All (IsInside xs) spans → zs ≡ xs ++ ys → same ≡ spans → map (piece zs) same ≡ map (piece xs) spans
pieces_as_before xs ys zs spans same inside items is =
    let kept : map (piece (xs ++ ys)) spans ≡ map (piece xs) spans = pieces_kept xs ys spans inside in
    let all : map (piece zs) same ≡ map (piece (xs ++ ys)) spans = cc in
    all ∙ kept

-- ---- no item is in no list

joined_kept : {T : Type 0} (xs ys : List T) (spans : List Span) → All (IsInside xs) spans → flat_map (piece (xs ++ ys)) spans ≡ flat_map (piece xs) spans
joined_kept xs ys [] inside = refl
joined_kept xs ys (span ∷ spans) inside =
    let here = All-head (IsInside xs) span spans inside in
    let first : piece (xs ++ ys) span ≡ piece xs span = range_kept xs ys span.start span.end here.0 here.1 in
    let rest : flat_map (piece (xs ++ ys)) spans ≡ flat_map (piece xs) spans = joined_kept xs ys spans (All-tail (IsInside xs) span spans inside) in
    cc

pub joined_pushed : {T : Type 0} (xs ys zs : List T) (spans more : List Span) (span : Span) → All (IsInside xs) spans → zs ≡ xs ++ ys → more ≡ spans ++ span ∷ [] → span.start ≡ length xs → span.end ≡ length zs → flat_map (piece xs) spans ≡ xs → flat_map (piece zs) more ≡ zs
joined_pushed xs ys zs spans more span inside items all start end whole =
    let kept : flat_map (piece (xs ++ ys)) spans ≡ flat_map (piece xs) spans = joined_kept xs ys spans inside in
    let new : piece (xs ++ ys) span ≡ ys = last_piece xs ys span.start span.end start (end ∙ ap length items) in
    let split : flat_map (piece (xs ++ ys)) (spans ++ span ∷ []) ≡ flat_map (piece (xs ++ ys)) spans ++ flat_map (piece (xs ++ ys)) (span ∷ []) = flat_map-append (piece (xs ++ ys)) spans (span ∷ []) in
    let last : flat_map (piece (xs ++ ys)) (span ∷ []) ≡ ys = append-nil (piece (xs ++ ys) span) ∙ new in
    let same : flat_map (piece zs) more ≡ flat_map (piece (xs ++ ys)) (spans ++ span ∷ []) = cc in
    let joined : flat_map (piece (xs ++ ys)) spans ++ flat_map (piece (xs ++ ys)) (span ∷ []) ≡ xs ++ ys = cc in
    same ∙ split ∙ joined ∙ sym items
