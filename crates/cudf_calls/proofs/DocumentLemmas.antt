-- What became of documents in memory that a run has read.
use Rattle.std.proofs.Common.{◌≡◌, ◌++◌, ℕ, Bool, List, [], ◌∷◌, map, length, refl, sym, ap, ◌∙◌, subst, arith, append-nil}
use Rattle.std.specs.List.{AllZip}
use Rattle.cudf_check.specs.Naming.{names_of as reader_names}
use Rattle.cudf_device.specs.Device.{SourceState}
use Rattle.cudf_device.specs.Readers.{Change, change, ReadsAll, changes}
use Rattle.cudf_calls.specs.Calls.{label, labels, texts_of}
use Rattle.cudf_calls.specs.Working.Documents.{IsNew, document_state}
use Rattle.cudf_calls.specs.declared.NamedBytes.{NamedBytes}
use Rattle.cudf_calls.specs.declared.document.MemorySource.{MemorySource}

module _ (names_files : Bool) where
  -- a reader of this input: what was read of it is the text, and its name is the input's
  pub record OfInput (input : NamedBytes) (reader : Change SourceState) : Type 0 where
    pub whole : (bytes : List ℕ) → ReadsAll reader bytes → bytes ≡ input.text.now
    pub named : reader.before.name ≡ label names_files input.name.now

  pub of_document : (input : NamedBytes) (old new : MemorySource) → IsNew names_files input old → OfInput input (change document_state old new)
  of_document input old new is = record {
    whole = λ bytes read. sym (append-nil bytes) ∙ ap (λ left. bytes ++ left) (sym read.at_end) ∙ sym read.consumed ∙ is.unread.rest;
    named = is.named;
  }

  -- the same of documents in a row
  pub of_documents : (inputs : List NamedBytes) (olds news : List MemorySource) → length news ≡ length olds → AllZip (IsNew names_files) inputs olds
      → AllZip OfInput inputs (changes document_state olds news)
  of_documents [] [] news same are = tt
  of_documents [] (old ∷ olds) news same are = absurd are
  of_documents (input ∷ inputs) [] news same are = absurd are
  of_documents (input ∷ inputs) (old ∷ olds) [] same are = absurd (omega (arith, same))
  of_documents (input ∷ inputs) (old ∷ olds) (new ∷ news) same are = (of_document input old new are.0, of_documents inputs olds news (omega (arith, same)) are.1)

  -- ---- inputs of which each has its reader

  pub all_whole : (inputs : List NamedBytes) (readers : List (Change SourceState)) (read : List (List ℕ)) → AllZip OfInput inputs readers → AllZip ReadsAll readers read → read ≡ texts_of inputs
  all_whole [] [] [] each all = refl
  all_whole [] [] (b ∷ read) each all = absurd all
  all_whole [] (r ∷ readers) read each all = absurd each
  all_whole (i ∷ inputs) [] read each all = absurd each
  all_whole (i ∷ inputs) (r ∷ readers) [] each all = absurd all
  all_whole (i ∷ inputs) (r ∷ readers) (b ∷ read) each all =
      ap (λ x. x ∷ read) (each.0.whole b all.0) ∙ ap (λ xs. i.text.now ∷ xs) (all_whole inputs readers read each.1 all.1)

  pub are_named : (first : NamedBytes) (reader : Change SourceState) (inputs : List NamedBytes) (readers : List (Change SourceState)) → OfInput first reader → AllZip OfInput inputs readers
      → reader_names reader readers ≡ labels names_files first inputs
  are_named first reader inputs readers of_first of_others = λ k. record { first = of_first.named k; others = go inputs readers of_others k }
    where
      go : (inputs : List NamedBytes) (readers : List (Change SourceState)) → AllZip OfInput inputs readers → map (λ r. r.before.name) readers ≡ map (λ i. label names_files i.name.now) inputs
      go [] [] all = refl
      go [] (r ∷ readers) all = absurd all
      go (i ∷ inputs) [] all = absurd all
      go (i ∷ inputs) (r ∷ readers) all = λ k. all.0.named k ∷ go inputs readers all.1 k

  -- documents as they are lent and returned
  pub of_others : (inputs : List NamedBytes) (lent olds news : List MemorySource) → olds ≡ lent → AllZip (IsNew names_files) inputs lent → length news ≡ length olds
      → AllZip OfInput inputs (changes document_state olds news)
  of_others inputs lent olds news value are same = of_documents inputs olds news same (subst (λ ds. AllZip (IsNew names_files) inputs ds) (sym value) are)
