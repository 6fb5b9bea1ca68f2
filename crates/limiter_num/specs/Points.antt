-- The names of points in texts.
use Rattle.std.specs.Prelude.{ℕ, List, codes}
use Rattle.limiter_num.specs.declared.rating.Point.{Point}
use Rattle.limiter_num.specs.declared.rating.Point.TheVariants as points

-- the name of a point in lower-case letters
abbrev pub name_of_point : Point → List ℕ
name_of_point points.WMax = codes "wmax"
name_of_point points.WSf = codes "wsf"
name_of_point points.PctSf = codes "pctsf"
name_of_point points.Base = codes "base"
name_of_point points.Ena = codes "ena"
name_of_point points.Pct = codes "pct"
name_of_point points.PctRvrt = codes "pctrvrt"
name_of_point points.EnaRvrt = codes "enarvrt"
name_of_point points.RvrtTms = codes "rvrttms"
