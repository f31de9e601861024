-- Reading the pieces of a text one by one.
use Rattle.std.proofs.Common.{◌≡◌, ℕ, List, [], ◌∷◌, ◌++◌, map, Option, Some, None, option_map, ap, sym, ◌∙◌}
use Rattle.std.specs.Prelude.{option_and_then}
use Rattle.cudf_value.specs.Parts.{all_some}
use Rattle.cudf_value.specs.Spots.{pieces}
use Rattle.cudf_value.specs.Working.Rests.{read_pieces}
use Rattle.cudf_value.proofs.PartsLemmas.{onto, read_step}

-- the values of the pieces, if there are any
values : {A : Type 0} → (List ℕ → Option A) → Option (List (List ℕ)) → Option (List A)
values read found = option_and_then (λ ps. all_some (map read ps)) found

found_step : {A X : Type 0} (view : X → A) (read : List ℕ → Option A) (all : Option (List A)) (done : List X) (x : X) (piece : List ℕ) (more : Option (List (List ℕ)))
    → onto (map view done) (values read (option_map (λ ps. piece ∷ ps) more)) ≡ all → Some (view x) ≡ read piece
    → onto (map view (done ++ x ∷ [])) (values read more) ≡ all
unfolding values
found_step view read all done x piece None so_far is = so_far
found_step view read all done x piece (Some more) so_far is = read_step view read all done x piece more so_far is

-- one more value is read from the pieces that are left
pub pieces_step : {A X : Type 0} (view : X → A) (read : List ℕ → Option A) (all : Option (List A)) (done : List X) (x : X) (text piece more : List ℕ)
    → onto (map view done) (read_pieces read text) ≡ all → pieces text ≡ option_map (λ ps. piece ∷ ps) (pieces more) → Some (view x) ≡ read piece
    → onto (map view (done ++ x ∷ [])) (read_pieces read more) ≡ all
unfolding values
pieces_step view read all done x text piece more so_far cut is =
    found_step view read all done x piece (pieces more)
    (ap (λ found. onto (map view done) (values read found)) (sym cut) ∙ so_far) is
