use Rattle.std.proofs.Common.{◌∙◌, arith, sum}
use Rattle.cudf_referee.specs.Proposals.{proposal}
use Rattle.cudf_referee.specs.Violations.{listing}
use Rattle.cudf_referee.proofs.AscentLemmas.{listing_ascends}
use Rattle.cudf_referee.proofs.PagingLemmas.{pages-joined, take-whole, price-page}
use Rattle.cudf_referee.proofs.laws.pages.Goals as goal

pub returns-clause-joined : goal.returns-clause-joined
returns-clause-joined c = λ read reads problem was is unknown h written sizes.
    pages-joined read reads (proposal problem was is unknown) sizes written (listing_ascends (proposal problem was is unknown) h)

pub returns-clause-whole : goal.returns-clause-whole
returns-clause-whole c = λ read reads problem was is unknown h written sizes suffice.
    let s = proposal problem was is unknown in
    pages-joined read reads s sizes written (listing_ascends s h) ∙ take-whole (sum sizes) (listing s) suffice

pub returns-clause-price : goal.returns-clause-price
returns-clause-price c = λ problem was is unknown h key n.
    omega (arith, price-page (proposal problem was is unknown) key n (listing_ascends (proposal problem was is unknown) h))
