-- Characters with their places, and the pieces between separators.
use Rattle.std.proofs.Common.{◌≡◌, ℕ, zero, suc, ◌+◌, ◌<◌, ◌≤◌, Bool, true, false, ◌==◌, cond, List, [], ◌∷◌, length, get_or, take, drop, map, Some, None, option_map, refl, ap, sym, ◌∙◌, arith, add-one, take-append-drop}
use Rattle.std.specs.List.{fold, slice_split, position_or_len}
use Rattle.std.proofs.Math.Seq.{drop-cons}
use Rattle.std.proofs.lemmas.Bool.{and_parts, eqb-true}
use Rattle.std.proofs.lemmas.List.{take_more, take_all}
use Rattle.std.proofs.lemmas.List.Elements.{All-from_get_or}
use Rattle.std.proofs.lemmas.List.Sums.{fails_before_first, fold-append}
use Rattle.std.proofs.lemmas.List.Splits.{slice_split_first, slice_split_none}
use Rattle.cudf_value.specs.Spots.{Spot, unquoted, next_spot, with_spots, is_outside, separates, pieces}
use Rattle.cudf_value.specs.Working.Spots.{is_quotable_from}

-- the characters without their spots
abbrev pub characters : List (Spot × ℕ) → List ℕ
characters xs = map (λ x. x.1) xs

length-with_spots : (spot : Spot) (text : List ℕ) → length (with_spots spot text) ≡ length text
length-with_spots spot [] = refl
length-with_spots spot (b ∷ text) = ap suc (length-with_spots (next_spot spot b) text)

characters-with_spots : (spot : Spot) (text : List ℕ) → characters (with_spots spot text) ≡ text
characters-with_spots spot [] = refl
characters-with_spots spot (b ∷ text) = ap (λ bs. b ∷ bs) (characters-with_spots (next_spot spot b) text)

-- the characters of the first n are the first n
characters-take : (n : ℕ) (spot : Spot) (text : List ℕ) → characters (take n (with_spots spot text)) ≡ take n text
characters-take zero spot text = refl
characters-take (suc n) spot [] = refl
characters-take (suc n) spot (b ∷ text) = ap (λ bs. b ∷ bs) (characters-take n (next_spot spot b) text)

-- the rest begins at the spot after the first n
drop-with_spots : (n : ℕ) (spot : Spot) (text : List ℕ) → drop n (with_spots spot text) ≡ with_spots (fold next_spot spot (take n text)) (drop n text)
drop-with_spots zero spot text = refl
drop-with_spots (suc n) spot [] = refl
drop-with_spots (suc n) spot (b ∷ text) = drop-with_spots n (next_spot spot b) text

-- one more character, at the front of what is left and after what was passed
pub spot_step : (text : List ℕ) (n : ℕ) (spot : Spot) → n < length text → spot ≡ fold next_spot (unquoted false) (take n text)
    → next_spot spot (get_or text n 0) ≡ fold next_spot (unquoted false) (take (n + 1) text)
spot_step text n spot inside is =
    ap (λ p. next_spot p (get_or text n 0)) is
    ∙ sym (ap (fold next_spot (unquoted false)) (take_more text n 0 inside) ∙ fold-append next_spot (unquoted false) (take n text) (get_or text n 0 ∷ []))

pub len_step : (text : List ℕ) (n : ℕ) (spot : Spot) → n < length text → separates (spot, get_or text n 0) ≡ false
    → (n + 1) + position_or_len separates (with_spots (next_spot spot (get_or text n 0)) (drop (n + 1) text)) ≡ n + position_or_len separates (with_spots spot (drop n text))
len_step text n spot inside inner = rw (drop-cons text n 0 inside, add-one, inner) (omega arith)

map_if : {A B : Type 0} (f : A → B) (test : Bool) (value : A) → option_map f (cond test (Some value) None) ≡ cond test (Some (f value)) None
map_if f true value = refl
map_if f false value = refl

outside_is : (spot : Spot) → is_outside spot ≡ true → spot ≡ (unquoted false)
outside_is (unquoted false) is = refl
outside_is _ is = cc

-- the first part ends at the first element that passes
split_at : {X : Type 0} (test : X → Bool) (xs : List X) (n : ℕ) (d : X) → n < length xs → n ≡ position_or_len test xs
    → slice_split test xs ≡ take n xs ∷ slice_split test (drop (n + 1) xs)
split_at test xs n d inside len = rw len (slice_split_first test xs d (rw len at inside))

-- a separator is at n, the first: the piece before it, and the pieces after it
pub pieces_more : (text : List ℕ) (n : ℕ) (spot : Spot) → n < length text → n ≡ position_or_len separates (with_spots (unquoted false) text)
    → spot ≡ fold next_spot (unquoted false) (take n text) → separates (spot, get_or text n 0) ≡ true
    → pieces text ≡ option_map (λ ps. take n text ∷ ps) (pieces (drop (n + 1) text))
pieces_more text n spot inside len is ends =
    let at = and_parts (is_outside spot) (get_or text n 0 == 44) ends in
    let outside : fold next_spot (unquoted false) (take (n + 1) text) ≡ (unquoted false) =
    sym (spot_step text n spot inside is) ∙ ap (λ p. next_spot p (get_or text n 0)) (outside_is spot at.0)
    ∙ ap (next_spot (unquoted false)) (eqb-true (get_or text n 0) 44 at.1) in
    let ended : fold next_spot (unquoted false) text ≡ fold next_spot (unquoted false) (drop (n + 1) text) =
    ap (fold next_spot (unquoted false)) (sym (take-append-drop (n + 1) text))
    ∙ fold-append next_spot (unquoted false) (take (n + 1) text) (drop (n + 1) text)
    ∙ ap (λ p. fold next_spot p (drop (n + 1) text)) outside in
    let rest : drop (n + 1) (with_spots (unquoted false) text) ≡ with_spots (unquoted false) (drop (n + 1) text) =
    drop-with_spots (n + 1) (unquoted false) text ∙ ap (λ p. with_spots p (drop (n + 1) text)) outside in
    let there : n < length (with_spots (unquoted false) text) = omega (arith, length-with_spots (unquoted false) text) in
    let split : map characters (slice_split separates (with_spots (unquoted false) text))
    ≡ take n text ∷ map characters (slice_split separates (with_spots (unquoted false) (drop (n + 1) text))) =
    ap (map characters) (split_at separates (with_spots (unquoted false) text) n ((unquoted false), 0) there len)
    ∙ ap (λ front. front ∷ map characters (slice_split separates (drop (n + 1) (with_spots (unquoted false) text)))) (characters-take n (unquoted false) text)
    ∙ ap (λ xs. take n text ∷ map characters (slice_split separates xs)) rest in
    rw (ended, split)
    (sym (map_if (λ ps. take n text ∷ ps) (is_outside (fold next_spot (unquoted false) (drop (n + 1) text)))
    (map characters (slice_split separates (with_spots (unquoted false) (drop (n + 1) text))))))

-- no separator: the text is the one piece
pub pieces_last : (text : List ℕ) → length text ≤ position_or_len separates (with_spots (unquoted false) text)
    → pieces text ≡ cond (is_outside (fold next_spot (unquoted false) text)) (Some (text ∷ [])) None
pieces_last text all =
    let single : slice_split separates (with_spots (unquoted false) text) ≡ with_spots (unquoted false) text ∷ [] =
    slice_split_none separates (with_spots (unquoted false) text)
    (All-from_get_or (λ x. separates x ≡ false) (with_spots (unquoted false) text) ((unquoted false), 0)
    (λ i inside. fails_before_first separates (with_spots (unquoted false) text) i ((unquoted false), 0) (omega (arith, length-with_spots (unquoted false) text)))) in
    rw (single, characters-with_spots (unquoted false) text) refl

-- the same, by the spot after the whole text
whole_spot : (text : List ℕ) (n : ℕ) (spot : Spot) → n ≡ length text → spot ≡ fold next_spot (unquoted false) (take n text) → fold next_spot (unquoted false) text ≡ spot
whole_spot text n spot all is = sym (is ∙ ap (fold next_spot (unquoted false)) (take_all n text (omega arith)))

pub whole_piece : (text : List ℕ) (n : ℕ) (spot : Spot) → n ≡ length text → n ≡ position_or_len separates (with_spots (unquoted false) text)
    → spot ≡ fold next_spot (unquoted false) (take n text) → is_outside spot ≡ true → pieces text ≡ Some (text ∷ [])
whole_piece text n spot all len is outside =
    pieces_last text (omega arith) ∙ rw (whole_spot text n spot all is, outside) refl

-- the text was closed before its end
pub quotable_closed : (text : List ℕ) (n : ℕ) (spot : Spot) → n < length text → is_outside spot ≡ true → is_quotable_from spot (drop n text) ≡ false
quotable_closed text n spot inside closed = rw (drop-cons text n 0 inside, closed) refl
