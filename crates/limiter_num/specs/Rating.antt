-- The numbers of a rating.
use Rattle.std.specs.Prelude.{ℕ, nat_le}
use Rattle.limiter_num.specs.Greatest.{greatest_up_to}
use Rattle.limiter_num.specs.Milliwatts.{mw_of, full_of}
use Rattle.limiter_num.specs.declared.rating.Rating.{Rating}

-- the milliwatts of a raw percentage
abbrev pub mw : Rating → ℕ → ℕ
mw rating raw = mw_of rating.wmax rating.wsf rating.psf raw

-- the greatest raw percentage that is at most 100 percent
abbrev pub full : Rating → ℕ
full rating = full_of rating.psf

-- the milliwatts of the greatest raw percentage
abbrev pub rated : Rating → ℕ
rated rating = mw rating (full rating)

-- the greatest raw percentage from 0 to full whose milliwatts are at most these
unfoldable pub raw_at_most : Rating → ℕ → ℕ
raw_at_most rating watts = greatest_up_to (full rating) (λ raw. nat_le (mw rating raw) watts)
