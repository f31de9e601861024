-- What a call answers: of words that ask for no order, and of a report that was written, or wasn't.
use Rattle.std.proofs.Common.{◌≡◌, ◌⊎◌, inl, inr, ◌∙◌, ◌++◌, ◌-◌, ℕ, Bool, true, false, if◌then◌else◌, List, [], ◌∷◌, length, map, take, drop, codes, string_bytes, refl, sym, ap, subst, arith, vec_len, String, Global}
use Rattle.std.proofs.lemmas.List.{length-map, take-map}
use Rattle.std.specs.List.{All, list_any}
use Rattle.std.specs.Str.{IsUtf8}
use Rattle.cudf_check.specs.JobReport.{report}
use Rattle.cudf_command_line.specs.Usage.{usage_status}
use Rattle.cudf_command_line.specs.declared.command.Order.{Order}
use Rattle.cudf_command_line.specs.declared.usage.UsageError.{UsageError}
use Rattle.cudf_command_line.specs.declared.usage.UsageError.TheVariants.{Told, Mistake, Refused, Memory}
use Rattle.cudf_device.specs.Outcomes.{Report, outcome_status}
use Rattle.cudf_device.specs.Readers.{OfOne}
use Rattle.cudf_device.specs.declared.outcome.Outcome.{Outcome}
use Rattle.cudf_problem.proofs.ListLemmas.{list_any-map}
use Rattle.cudf_calls.specs.Calls.{BreaksOff, Does, Explains, IsLong, IsShort, Left, Reports, Says, Shows, is_better, labels, left, names_behind, names_of, texts_of}
use Rattle.cudf_calls.specs.Working.Fronts.{IsWritten}
use Rattle.cudf_calls.specs.declared.NamedBytes.{NamedBytes}
use Rattle.cudf_calls.specs.declared.Word.{Word}
use Rattle.cudf_calls.specs.declared.front.CallerBuffer.{CallerBuffer}
use Rattle.cudf_calls.specs.declared.carried.Stop.{Stop}
use Rattle.cudf_calls.specs.declared.carried.Stop.TheVariants as stops
use Rattle.cudf_calls.proofs.RoomLemmas.{over-is}

-- words that ask for neither help nor the version
pub says : (usage : UsageError) (call : Left) → ((text : String Global) → usage ≡ Told text → ⊥) → ((usage_status usage ≡ 4) × Explains 4 call) ⊎ BreaksOff 6 call → Says usage call
says (Told text) call other is = absurd (other text refl)
says (Mistake topic text) call other is = is
says (Refused topic refusal) call other is = is
says Memory call other is = is

-- the report was written to a front of the caller's buffer
pub reports : (answer : Report) (old new : CallerBuffer) (before after : List ℕ) (told : ℕ) (outcome : Outcome) (status : ℕ) → IsWritten answer old new outcome
    → old.room.now ≡ before → after ≡ new.room.now → told ≡ new.length → status ≡ outcome_status outcome → Reports answer (left before after told status)
reports answer old new before after told outcome status is was now long tells = inl (record {
  status_is = tells ∙ ap outcome_status is.outcome_is;
  shows = record { length_is = long ∙ is.length_is; shown = now ∙ is.shown ∙ over-is old.room.now answer.text ∙ ap (λ room. take (length room) answer.text ++ drop (length answer.text) room) was };
})

-- ---- what is done

pub explained : (text : List ℕ) (call : Left) → call.status ≡ 4 → Shows text call → Explains 4 call
explained text call status shows = record { message = text; status_is = status; shows = shows }

pub does_none : (order : Order) (documents : List NamedBytes) (call : Left) → length documents ≡ 0 → Explains 4 call → Does order documents call
does_none order [] call none is = is
does_none order (first ∷ others) call none is = absurd (omega (arith, none))

module _ (order : Order) (documents : List NamedBytes) (first : NamedBytes) (others : List NamedBytes) (call : Left) (are : documents ≡ first ∷ others) (files : ℕ) (many : files ≡ vec_len order.others) where
  abbrev answer : Report
  answer = report order.job order.mode (labels order.names_files first others) first.text.now (texts_of others)

  each : vec_len order.others ≡ length order.others.items
  each = order.others.ok.0

  done : Does order (first ∷ others) call → Does order documents call
  done is = subst (λ ds. Does order ds call) (sym are) is

  pub does_named : (length others ≡ files → ⊥) → Explains 4 call → Does order documents call
  does_named differ is = done (inl ((λ same. differ (same ∙ sym each ∙ sym many)), is))

  pub does_long : length others ≡ files → OfOne IsLong (texts_of documents) → BreaksOff 5 call → Does order documents call
  does_long same long is = done (inr (same ∙ many ∙ each, inl (subst (λ ds. OfOne IsLong (texts_of ds)) are long, is)))

  pub does_report : length others ≡ files → All IsShort (texts_of documents) → Reports answer call → Does order documents call
  does_report same short is = done (inr (same ∙ many ∙ each, inr (subst (λ ds. All IsShort (texts_of ds)) are short, is)))

-- ---- the words of the command line

-- a word is refused, or memory ran out
pub refused_so : {A B : Type 0} (stop : Stop) → (A → B) → (stop ≡ stops.Memory) ⊎ ((stop ≡ stops.Refused) × A) → (stop ≡ stops.Memory) ⊎ ((stop ≡ stops.Refused) × B)
refused_so stop more (inl out) = inl out
refused_so stop more (inr refused) = inr (refused.0, more refused.1)

-- the documents whose files are named behind the words
module _ (words : List Word) (documents : List NamedBytes) (items : List (String Global)) (are : map (λ word. string_bytes word) items ≡ names_of documents) where
  abbrev texts : List (List ℕ)
  texts = map (λ word. word.bytes.now) words

  behind_if : (b : Bool) → list_any (λ word. is_better word.bytes.now) words ≡ b
      → names_behind texts documents ≡ if b then take (length documents - 1) (names_of documents) else names_of documents
  behind_if b is = ap (λ t. if t then take (length documents - 1) (names_of documents) else names_of documents) (list_any-map (λ word. word.bytes.now) is_better words ∙ is)

  pub names_all : list_any (λ word. is_better word.bytes.now) words ≡ false → map (λ word. string_bytes word) items ≡ names_behind texts documents
  names_all none = are ∙ sym (behind_if false none)

  same_length : length items ≡ length documents
  same_length = sym (length-map items (λ word. string_bytes word)) ∙ ap length are ∙ length-map documents (λ document. document.name.now)

  pub names_front : (n : ℕ) → n ≡ length items - 1 → list_any (λ word. is_better word.bytes.now) words ≡ true
      → map (λ word. string_bytes word) (take n items) ≡ names_behind texts documents
  names_front n count some =
      sym (take-map (λ word. string_bytes word) n items) ∙ ap (take n) are ∙ ap (λ k. take k (names_of documents)) (count ∙ ap (λ k. k - 1) same_length) ∙ sym (behind_if true some)

-- the program's own words are texts
pub own_name : IsUtf8 (codes "cudf_check")
unfolding lib.Utf8.encode
own_name = (codes "cudf_check", (refl, refl))

pub own_dashes : IsUtf8 (codes "--")
unfolding lib.Utf8.encode
own_dashes = (codes "--", (refl, refl))
