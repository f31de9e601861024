-- What packages with many provisions give (own).
use Rattle.std.specs.Prelude.{◌≡◌, ◌≤◌, ◌==◌, List, All, Some, find, length}
use Rattle.cudf_index.specs.Satisfaction.{Placed}

-- so many provisions are kept by name
abbrev pub GivesMuch : Placed → Type 0
GivesMuch p = 64 ≤ length p.1.provides

-- each is the package of the status at its place
abbrev pub AreShares : List Placed → List Placed → Type 0
AreShares status shares = All (λ p. Some p ≡ find (λ q. q.0 == p.0) status) shares
