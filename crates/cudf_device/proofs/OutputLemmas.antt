-- What a writer took, step by step.
use Rattle.std.proofs.Common.{◌≡◌, ℕ, zero, suc, ◌-◌, ◌<◌, List, ◌++◌, Option, Ok, length, take, drop, refl, sym, ap, ◌∙◌, append_assoc, take-append-drop, arith}
use Rattle.std.proofs.lemmas.List.{take_rest}
use Rattle.std.specs.Io.KnownBytes.{Appends}
use Rattle.std.proofs.KnownBytes.{Appends-trans}
use Rattle.cudf_device.specs.Device.{failed_writes}
use Rattle.cudf_device.specs.Writers.{AppendsPrefix}

-- of `all` the writer took a prefix, and `left` is still to be written
pub record Moved (old new : Option (List ℕ)) (all left : List ℕ) : Type 0 where
  pub taken : List ℕ
  pub whole : all ≡ taken ++ left
  pub appended : Appends old new taken

-- the writer took n bytes more
pub Moved-on : (a b c : Option (List ℕ)) (all left : List ℕ) (n : ℕ) → Moved a b all left → Appends b c (take n left) → Moved a c all (take (length left - n) (drop n left))
Moved-on a b c all left n m p = record {
  taken = m.taken ++ take n left;
  whole =
      m.whole ∙ ap (λ l. m.taken ++ l) (sym (take-append-drop n left)) ∙ sym (append_assoc m.taken (take n left) (drop n left))
      ∙ ap (λ l. (m.taken ++ take n left) ++ l) (sym (take_rest left n));
  appended = Appends-trans a b c m.taken (take n left) m.appended p;
}

-- a write that took a byte is no failure
pub failed_writes-Ok : (n : ℕ) → 0 < n → failed_writes (Ok n) ≡ 0
failed_writes-Ok zero h = absurd (omega arith)
failed_writes-Ok (suc n) h = refl

-- a prefix of a text is one of every longer text
pub AppendsPrefix-longer : (a b : Option (List ℕ)) (text more : List ℕ) → AppendsPrefix a b text → AppendsPrefix a b (text ++ more)
AppendsPrefix-longer a b text more f = record {
  taken = f.taken;
  left = f.left ++ more;
  whole = sym (append_assoc f.taken f.left more) ∙ ap (λ l. l ++ more) f.whole;
  appended = f.appended;
}
