-- Values that are texts of their own, and no parts of the source.
use Rattle.std.specs.Prelude.{Bool, true, false}
use Rattle.std.specs.declared.alloc.Global.{Global}
use Rattle.std.specs.declared.borrow.CowStr.{CowStr}
use Rattle.std.specs.declared.borrow.CowStr.TheVariants as value

-- the value is a text of its own
abbrev pub is_owned : CowStr Global → Bool
is_owned (value.Borrowed r) = false
is_owned (value.Owned s) = true
