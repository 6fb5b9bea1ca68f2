-- The site that is simulated.
use Rattle.std.specs.Prelude.{◌≡◌, ℕ, ◌*◌, ◌<◌, ◌≤◌, ◌^◌, pos, negsuc, replicate}
use Rattle.std.proofs.Common.{sym, subst, lit<, lit≤, arith}
use Rattle.std.proofs.lemmas.Int.{ints}
use Rattle.limiter_num.specs.declared.rules.Rules.{Rules}
use Rattle.limiter_num.specs.declared.rating.Rating.{Rating}
use Rattle.limiter_num.specs.Milliwatts.{scaled_up, mw_of, full_of, IsRated}
use Rattle.limiter_num.proofs.Scaled.{full-negsuc}
use Rattle.share_policy.specs.declared.claim.Policy.TheVariants.{Fair}
use Rattle.plant_book.specs.declared.site.Unit as units
use Rattle.plant_book.specs.Site.{SiteRecord}

-- a write acts at most 5 s after its grant, and the reversion timer of 60 s runs out 58.3 s to 61.7 s after it
abbrev pub rules : Rules
rules = record {
  send = 1000;
  delay = 4000;
  timer = 60;
  per_mille = 20;
  slack = 500;
  send_low = lit≤ tt;
  send_high = lit≤ tt;
  delay_high = lit≤ tt;
  timer_low = lit≤ tt;
  timer_high = lit≤ tt;
  per_mille_high = lit≤ tt;
  slack_high = lit≤ tt;
}

pub full_is : full_of (negsuc 0) ≡ 1000
full_is = full-negsuc 0

rated_small : mw_of 6000 (pos 0) (negsuc 0) (full_of (negsuc 0)) ≤ 10 ^ 12
unfolding mw_of scaled_up
rated_small = subst (λ (n : ℕ). mw_of 6000 (pos 0) (negsuc 0) n ≤ 10 ^ 12) (sym full_is) (lit≤ tt)

pub sound : IsRated 6000 (pos 0) (negsuc 0)
sound = record {
  implemented = lit< tt;
  positive = lit< tt;
  wsf_low = omega (arith, ints);
  wsf_high = omega (arith, ints);
  psf_low = omega (arith, ints);
  psf_high = omega (arith, ints);
  resolves = subst (λ (n : ℕ). 0 < n) (sym full_is) (lit< tt);
  rated_small = rated_small;
}

pub within : 100 ≤ full_of (negsuc 0)
within = subst (λ (n : ℕ). 100 ≤ n) (sym full_is) (lit≤ tt)

-- 6000 W, in steps of a tenth of a percent
abbrev pub rating : Rating
rating = record { wmax = 6000; wsf = pos 0; psf = negsuc 0; sound = sound }

-- the floor is 10 percent
abbrev pub unit : units.Unit
unit = record { rating = rating; floor = 100; within = within }

-- the site of so many inverters, of which half may run at their ratings
abbrev pub site_of : ℕ → SiteRecord
site_of count = record {
  cap = count * 3000000;
  rules = rules;
  policy = Fair;
  room = 1048576;
  units = replicate count unit;
}
