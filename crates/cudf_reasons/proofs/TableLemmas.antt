-- One row more.
use Rattle.std.proofs.Common.{◌≡◌, ℕ, ◌-◌, ◌≤◌, List, [], ◌∷◌, ◌++◌, length, take, drop, map, refl, sym, ap, ap₂, ◌∙◌, arith, length-append, length-drop}
use Rattle.std.specs.Prelude.{All, slice_range}
use Rattle.std.proofs.lemmas.List.{append-nil, append_assoc, drop-append-le, drop_at, map-append, take-append-le, take_at}
use Rattle.std.proofs.lemmas.List.Elements.{All-head, All-tail}
use Rattle.cudf_job.specs.Keys.{PlainKey}
use Rattle.cudf_job.specs.KeyViews.{key_view}
use Rattle.cudf_reasons.specs.Reasons.{PlainReason}
use Rattle.cudf_reasons.specs.Working.Tables.{IsInside, reason_in}
use Rattle.cudf_reasons.specs.declared.gathering.Reason.{Reason}

abbrev pub reason : PlainKey → List ℕ → List ℕ → PlainReason
reason key named met = record { key = key; named = named; met = met }

range_kept : (xs ys : List ℕ) (a b : ℕ) → a ≤ b → b ≤ length xs → slice_range (xs ++ ys) a b ≡ slice_range xs a b
range_kept xs ys a b below inside =
    let first : a ≤ length xs = omega arith in
    let rest : b - a ≤ length (drop a xs) = omega (arith, length-drop a xs) in
    ap (take (b - a)) (drop-append-le a xs ys first) ∙ take-append-le (b - a) (drop a xs) ys rest

-- what is between two lengths
range_new : (xs ys zs : List ℕ) (a b : ℕ) → a ≡ length xs → b ≡ length (xs ++ ys) → slice_range ((xs ++ ys) ++ zs) a b ≡ ys
range_new xs ys zs a b start end =
    let rest : drop a ((xs ++ ys) ++ zs) ≡ ys ++ zs = ap (drop a) (append_assoc xs ys zs) ∙ drop_at xs (ys ++ zs) a (sym start) in
    ap (take (b - a)) rest ∙ take_at ys zs (b - a) (omega (arith, length-append xs ys))

kept : (xs ys : List ℕ) (rows : List Reason) → All (IsInside xs) rows → map (reason_in (xs ++ ys)) rows ≡ map (reason_in xs) rows
kept xs ys [] inside = refl
kept xs ys (row ∷ rows) inside =
    let here = All-head (IsInside xs) row rows inside in
    let named : slice_range (xs ++ ys) row.start row.middle ≡ slice_range xs row.start row.middle = range_kept xs ys row.start row.middle here.0 (omega (arith, here.1, here.2)) in
    let met : slice_range (xs ++ ys) row.middle row.end ≡ slice_range xs row.middle row.end = range_kept xs ys row.middle row.end here.1 here.2 in
    let first : reason_in (xs ++ ys) row ≡ reason_in xs row =
    ap (λ w. reason (key_view row.key) w (slice_range (xs ++ ys) row.middle row.end)) named ∙ ap (λ w. reason (key_view row.key) (slice_range xs row.start row.middle) w) met in
    ap₂ (λ (r : PlainReason) (rs : List PlainReason). r ∷ rs) first (kept xs ys rows (All-tail (IsInside xs) row rows inside))

-- a row of what was put after the places
pub pushed : (xs named met ys zs : List ℕ) (rows more : List Reason) (row : Reason) → All (IsInside xs) rows → ys ≡ xs ++ named → zs ≡ ys ++ met → more ≡ rows ++ row ∷ []
    → row.start ≡ length xs → row.middle ≡ length ys → row.end ≡ length zs → map (reason_in zs) more ≡ map (reason_in xs) rows ++ reason (key_view row.key) named met ∷ []
pushed xs named met ys zs rows more row inside first second all start middle end =
    let whole : zs ≡ (xs ++ named) ++ met = second ∙ ap (λ ws. ws ++ met) first in
    let n : slice_range zs row.start row.middle ≡ named = ap (λ ws. slice_range ws row.start row.middle) whole ∙ range_new xs named met row.start row.middle start (middle ∙ ap length first) in
    let m : slice_range zs row.middle row.end ≡ met =
    ap (λ ws. slice_range ws row.middle row.end) (whole ∙ sym (append-nil ((xs ++ named) ++ met))) ∙ range_new (xs ++ named) met [] row.middle row.end (middle ∙ ap length first) (end ∙ ap length whole) in
    let new : reason_in zs row ≡ reason (key_view row.key) named met = ap (λ w. reason (key_view row.key) w (slice_range zs row.middle row.end)) n ∙ ap (λ w. reason (key_view row.key) named w) m in
    let old : map (reason_in zs) rows ≡ map (reason_in xs) rows = ap (λ ws. map (reason_in ws) rows) (whole ∙ append_assoc xs named met) ∙ kept xs (named ++ met) rows inside in
    ap (map (reason_in zs)) all ∙ map-append (reason_in zs) rows (row ∷ []) ∙ ap₂ (λ (rs : List PlainReason) (r : PlainReason). rs ++ r ∷ []) old new
