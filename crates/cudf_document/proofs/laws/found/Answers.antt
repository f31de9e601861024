use Rattle.cudf_document.proofs.FoundFaultLemmas.{faults_are_found}
use Rattle.cudf_document.proofs.laws.found.Goals as goal

pub returns : goal.returns
returns c = faults_are_found
