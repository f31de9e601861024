-- A document in memory as a run sees it, for proofs.
use Rattle.std.specs.Prelude.{◌≡◌, ℕ, List, Bool, Some, Ok, option_map}
use Rattle.cudf_device.specs.Device.{SourceState}
use Rattle.cudf_calls.specs.Calls.{label}
use Rattle.cudf_calls.specs.Working.Given.{given_before}
use Rattle.cudf_calls.specs.declared.NamedBytes.{NamedBytes}
use Rattle.cudf_calls.specs.declared.document.MemorySource.{MemorySource}

-- it has the rest of its text left, and never fails
abbrev pub document_state : MemorySource → SourceState
document_state d = record {
  name = option_map (λ n. n.now) d.name;
  remaining = Some d.rest.now;
  calls = d.calls;
  failures = 0;
  ends = d.ends;
  given = given_before d.rest.now;
  last = Some (Ok d.last);
}

-- the whole text is left
pub record IsUnread (text : List ℕ) (d : MemorySource) : Type 0 where
  pub rest : d.rest.now ≡ text
  pub calls : d.calls ≡ given_before text
  pub ends : d.ends ≡ 0

-- it is of this input, under its name where lines name files, and nothing of it was read
pub record IsNew (names_files : Bool) (input : NamedBytes) (d : MemorySource) : Type 0 where
  pub unread : IsUnread input.text.now d
  pub named : option_map (λ n. n.now) d.name ≡ label names_files input.name.now
