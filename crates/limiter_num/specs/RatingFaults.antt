-- Why points make no rating, by the first cause in the order of this file.
use Rattle.std.specs.Prelude.{◌≡◌, ℕ, ◌^◌, Bool, true, false, nat_lt, ◌==◌, ◌||◌}
use Rattle.std.specs.Prelude.{if◌then◌else◌, Option, Some, None, ℤ, pos, negsuc}
use Rattle.std.specs.Int.RustNames.{int_lt}
use Rattle.limiter_num.specs.Milliwatts.{mw_of, full_of}
use Rattle.limiter_num.specs.declared.rating.RatingFault.{RatingFault}
use Rattle.limiter_num.specs.declared.rating.RatingFault.TheVariants.{NotImplemented, ScaleOut, NoResolution, TooLarge}
use Rattle.limiter_num.specs.declared.rating.Point.{Point}
use Rattle.limiter_num.specs.declared.rating.Point.TheVariants.{WMax, WSf, PctSf}

-- the value that a scale factor has where the device lacks it, -32768
abbrev pub is_missing : ℤ → Bool
is_missing (pos n) = false
is_missing (negsuc n) = n == 32767

-- the first of the three points that the device lacks
abbrev pub missing_fault : ℕ → ℤ → ℤ → Option RatingFault
missing_fault wmax wsf psf =
    if wmax == 65535 then Some (NotImplemented WMax)
    else if is_missing wsf then Some (NotImplemented WSf)
    else if is_missing psf then Some (NotImplemented PctSf)
    else None

-- a factor that is no power of ten from -10 to 10
abbrev pub scale_fault : Point → ℤ → Option RatingFault
scale_fault point factor = if int_lt factor (negsuc 9) || int_lt (pos 10) factor then Some
    (ScaleOut point factor) else None

-- a rating of nothing, or of more than 10^12 mW
abbrev pub size_fault : ℕ → ℤ → ℤ → Option RatingFault
size_fault wmax wsf psf =
    if wmax == 0 || full_of psf == 0 then Some NoResolution
    else if nat_lt (10 ^ 12) (mw_of wmax wsf psf (full_of psf)) then Some (TooLarge (mw_of wmax wsf psf
    (full_of psf)))
    else None

-- this fault, or the later one where there is none
abbrev pub before : Option RatingFault → Option RatingFault → Option RatingFault
before None later = later
before (Some fault) later = Some fault

-- why these points make no rating
abbrev pub rating_fault : ℕ → ℤ → ℤ → Option RatingFault
rating_fault wmax wsf psf = before (missing_fault wmax wsf psf) (before (scale_fault WSf wsf) (before
    (scale_fault PctSf psf) (size_fault wmax wsf psf)))
