use Rattle.std.proofs.Common.{◌++◌, ap, codes, decimal}
use Rattle.cudf_device.proofs.PaperLemmas.{Says-as}
use Rattle.cudf_check.proofs.lines.detail.print_detail.Goals as goal

pub returns-in-BeginsWith : goal.returns-in-BeginsWith
returns-in-BeginsWith g c = rw c.in-BeginsWith.is c.print_texts.ensures

pub returns-in-Undeclared : goal.returns-in-Undeclared
returns-in-Undeclared g c = rw c.in-Undeclared.is c.print_undeclared.ensures

pub returns-in-ByteOrderMark : goal.returns-in-ByteOrderMark
returns-in-ByteOrderMark g c = rw c.in-ByteOrderMark.is c.text-in-ByteOrderMark.ensures

pub returns-in-RequestOn : goal.returns-in-RequestOn
returns-in-RequestOn g c = rw c.in-RequestOn.is (Says-as _ _ _ _ _ (ap (λ n. codes "the request stands on line " ++ decimal n) c.line_in.ensures) c.print_numbered.ensures)

pub returns-in-Misdeclared : goal.returns-in-Misdeclared
returns-in-Misdeclared g c = rw c.in-Misdeclared.is c.print_numbered-in-Misdeclared.ensures
