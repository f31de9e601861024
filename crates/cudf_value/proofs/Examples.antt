-- What no reader is asked: each trims its text first.
use Rattle.std.proofs.Common.{◌≡◌, None, codes, refl}
use Rattle.cudf_value.specs.Numbers.{natural, positive}
use Rattle.cudf_value.specs.Vpkgs.{vpkg}

vpkg_blank_behind : vpkg (codes "a ") ≡ None
unfolding vpkg positive natural
vpkg_blank_behind = refl
