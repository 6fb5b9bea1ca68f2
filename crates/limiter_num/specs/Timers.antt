-- The moments of a reversion timer, in milliseconds, and the last moment at which a write may still act.
use Rattle.std.specs.Prelude.{◌≡◌, ℕ, ◌+◌, ◌-◌, ◌*◌, ◌/◌, ◌<◌, ◌≤◌, nat_lt, ◌||◌, if◌then◌else◌, Option, Some, None}
use Rattle.std.specs.Int.{div_ceil}
use Rattle.limiter_num.specs.declared.rules.Rules.{Rules}
use Rattle.limiter_num.specs.declared.rules.RulesOut.{RulesOut}
use Rattle.limiter_num.specs.declared.rules.RulesField.{RulesField}
use Rattle.limiter_num.specs.declared.rules.RulesField.TheVariants.{Send, Delay, Timer, PerMille, Slack}

-- the latest moment after an act at which its timer runs out
unfoldable pub tmax : Rules → ℕ
tmax rules = div_ceil (rules.timer * 1000 * (1000 + rules.per_mille)) 1000 + rules.slack

-- the earliest moment after an act at which its timer runs out
unfoldable pub tmin : Rules → ℕ
tmin rules = rules.timer * 1000 * (1000 - rules.per_mille) / 1000 - rules.slack

-- how long after its grant a write may still be held
unfoldable pub reach : Rules → ℕ
reach rules = rules.send + rules.delay + tmax rules

-- the last moment at which a write that was granted at this moment may act: sent at the end of its window, and as
-- late as a frame may be
abbrev pub last_act : Rules → ℕ → ℕ
last_act rules at = at + rules.send + rules.delay

-- the last moment at which it may be held: the longest timer after that
abbrev pub last_moment : Rules → ℕ → ℕ
last_moment rules at = at + reach rules

-- a number outside its range
abbrev pub range_fault : RulesField → ℕ → ℕ → ℕ → Option RulesOut
range_fault field value low high = if nat_lt value low || nat_lt high value then Some
    (record { field = field; value = value }) else None

-- this fault, or the later one where there is none
abbrev pub before : Option RulesOut → Option RulesOut → Option RulesOut
before None later = later
before (Some fault) later = Some fault

-- the first of these numbers that is out of its range
abbrev pub rules_out : ℕ → ℕ → ℕ → ℕ → ℕ → Option RulesOut
rules_out send delay timer per_mille slack =
    before (range_fault Send send 1 60000) (before (range_fault Delay delay 0 600000) (before
    (range_fault Timer timer 1 86400)
    (before (range_fault PerMille per_mille 0 500) (range_fault Slack slack 0 600000))))
