-- What contracts see of details.
use Rattle.cudf_document.specs.Details.{PlainDetail, invalid_byte, of_format, byte_order_mark, line_text, no_bytes, begins_with, request_on, name_on, undeclared, mistyped, misdeclared, package_on, lacking, misplaced}
use Rattle.cudf_document.specs.declared.details.Detail.{Detail}
use Rattle.cudf_document.specs.declared.details.Detail.TheVariants as detail

abbrev pub detail_view : Detail → PlainDetail
detail_view (detail.InvalidByte place byte) = invalid_byte place byte
detail_view (detail.OfFormat format) = of_format format
detail_view detail.ByteOrderMark = byte_order_mark
detail_view (detail.LineText text) = line_text text.now
detail_view detail.NoBytes = no_bytes
detail_view (detail.BeginsWith name) = begins_with name.now
detail_view (detail.RequestOn line) = request_on line
detail_view (detail.NameOn name line) = name_on name.now line
detail_view (detail.Undeclared name) = undeclared name.now
detail_view (detail.Mistyped name word entry text) = mistyped name.now word.now entry text.now
detail_view (detail.Misdeclared number) = misdeclared number
detail_view (detail.PackageOn name version line) = package_on name.now version line
detail_view (detail.Lacking name) = lacking name.now
detail_view (detail.Misplaced name) = misplaced name.now
