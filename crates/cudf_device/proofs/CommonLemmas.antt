-- Small facts that several proofs use: of counts and errors.
use Rattle.std.proofs.Common.{◌≡◌, ◌<◌, ℕ, Result, Err, arith}
use Rattle.cudf_device.specs.declared.outcome.RunError.{RunError}

-- no count is below itself
pub none_below : (f g : ℕ) → f ≡ g → f < g → ⊥
none_below f g same below = omega arith

pub same_error : {V : Type 0} {a b : RunError} → ◌≡◌ {0} {A = Result V RunError} (Err a) (Err b) → a ≡ b
same_error h = cc h
