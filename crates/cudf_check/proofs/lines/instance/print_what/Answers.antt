use Rattle.cudf_device.proofs.PaperLemmas.{◌▸◌}
use Rattle.cudf_check.proofs.lines.instance.print_what.Goals as goal

pub returns-in-ConflictsWith : goal.returns-in-ConflictsWith
returns-in-ConflictsWith g c = rw c.in-ConflictsWith.is c.print_met.ensures

pub returns-in-KeepVersion : goal.returns-in-KeepVersion
returns-in-KeepVersion g c = rw c.in-KeepVersion.is c.text-in-KeepVersion.ensures

pub returns-in-KeepPackage : goal.returns-in-KeepPackage
returns-in-KeepPackage g c = rw c.in-KeepPackage.is c.text-in-KeepPackage.ensures

pub returns-in-KeepFeature : goal.returns-in-KeepFeature
returns-in-KeepFeature g c = rw c.in-KeepFeature.is (c.text-in-KeepFeature.ensures ▸ c.print_vpkg.ensures)
