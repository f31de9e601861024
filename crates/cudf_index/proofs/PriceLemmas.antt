-- Binary digits.
use Rattle.std.proofs.Common.{◌≡◌, ℕ, zero, suc, ◌+◌, ◌*◌, ◌<◌, ◌≤◌, ◌/◌, refl, ap, arith}
use Rattle.cudf_index.specs.Promises.Prices.{digits_within, digits}

pub digits_within-fuel : (f g n : ℕ) → n ≤ f → n ≤ g → digits_within f n ≡ digits_within g n
unfolding digits_within
digits_within-fuel zero zero n a b = refl
digits_within-fuel zero (suc g) zero a b = refl
digits_within-fuel zero (suc g) (suc n) a b = absurd (omega arith)
digits_within-fuel (suc f) zero zero a b = refl
digits_within-fuel (suc f) zero (suc n) a b = absurd (omega arith)
digits_within-fuel (suc f) (suc g) zero a b = refl
digits_within-fuel (suc f) (suc g) (suc n) a b = ap (λ k. k + 1) (digits_within-fuel f g (suc n / 2) (omega arith) (omega arith))

pub digits_within-mono : (f m n : ℕ) → m ≤ n → digits_within f m ≤ digits_within f n
unfolding digits_within
digits_within-mono zero m n h = omega arith
digits_within-mono (suc f) zero n h = omega arith
digits_within-mono (suc f) (suc m) zero h = absurd (omega arith)
digits_within-mono (suc f) (suc m) (suc n) h = omega (arith, digits_within-mono f (suc m / 2) (suc n / 2) (omega arith))

-- half of a number has a digit less
pub digits-halved : (m n : ℕ) → 0 < n → m + m ≤ n → digits m + 1 ≤ digits n
unfolding digits digits_within
digits-halved m zero positive h = absurd (omega arith)
digits-halved m (suc k) positive h = omega (arith, digits_within-fuel m k m (omega arith) (omega arith), digits_within-mono k m (suc k / 2) (omega arith))

-- one number less has two digits less, where each digit counts twice
pub digits-but_one : (n : ℕ) → digits n + 2 ≤ 2 * digits (suc n)
unfolding digits digits_within
digits-but_one zero = omega arith
digits-but_one (suc k) = omega (arith, digits_within-fuel (suc k) (suc (suc k)) (suc k) (omega arith) (omega arith), digits_within-mono (suc (suc k)) (suc k) (suc (suc k)) (omega arith), digits-halved 1 (suc (suc k)) (omega arith) (omega arith))

digits-step : (k : ℕ) → digits (suc k) ≡ digits (suc k / 2) + 1
unfolding digits digits_within
digits-step k = ap (λ d. d + 1) (digits_within-fuel k (suc k / 2) (suc k / 2) (omega arith) (omega arith))

digits-whole : (fuel n : ℕ) → n ≤ fuel → digits n ≤ n
unfolding digits digits_within
digits-whole fuel zero h = omega arith
digits-whole zero (suc k) h = absurd (omega arith)
digits-whole (suc fuel) (suc k) h = omega (arith, digits-step k, digits-whole fuel (suc k / 2) (omega arith))

digits-half : (n : ℕ) → digits n ≤ n / 2 + 1
unfolding digits digits_within
digits-half zero = omega arith
digits-half (suc k) = omega (arith, digits-step k, digits-whole (suc k / 2) (suc k / 2) (omega arith))

digits-quarter : (n : ℕ) → digits n ≤ n / 2 / 2 + 2
unfolding digits digits_within
digits-quarter zero = omega arith
digits-quarter (suc k) = omega (arith, digits-step k, digits-half (suc k / 2))

-- two searches among many numbers cost less than to go through them
pub digits-of_many : (n m : ℕ) → 64 ≤ m → n ≤ m + 1 → 2 * digits n ≤ m
digits-of_many n m many fits = omega (arith, digits-quarter n)
