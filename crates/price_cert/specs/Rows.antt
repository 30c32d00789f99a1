-- What the rows of a table of prices state; this project's profile. Releases are given by index, by
-- ascending version.
use Rattle.std.specs.Prelude.{ℕ, List, slice_index_or, Option, None, Some}
use Rattle.price_cert.specs.declared.row.Row.{Row}
use Rattle.price_cert.specs.declared.row.Row.TheVariants.{Nothing, End, Price}

-- a row's price, 0 at the end
abbrev pub price_of : Row → Option ℕ
price_of Nothing = None
price_of End = Some 0
price_of (Price price kind to) = Some price

-- the row of a release; one that isn't there has nothing
abbrev pub row_at : List Row → ℕ → Row
row_at rows release = slice_index_or rows release Nothing

-- the price of a release
abbrev pub price_at : List Row → ℕ → Option ℕ
price_at rows release = price_of (row_at rows release)
