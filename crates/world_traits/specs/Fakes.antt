-- What contracts see of the fakes in memory, and the state of each after each call.
use Rattle.std.specs.Prelude.{◌≡◌, ◌==◌, ℕ, ◌⊎◌, List, [], ◌++◌, drop, Contains, if◌then◌else◌}
use Rattle.world_traits.specs.Causes.{one_more}

-- the numbers of the calls that fail, the count of calls so far and the count of faults
pub record ScheduleState : Type 0 where
  pub failing : List ℕ
  pub calls : ℕ
  pub faults : ℕ

-- no call yet
abbrev pub new_schedule : List ℕ → ScheduleState
new_schedule failing = record { failing = failing; calls = 0; faults = 0 }

-- the next call is one of those that fail
abbrev pub FailsNext : ScheduleState → Type 0
FailsNext schedule = Contains schedule.failing schedule.calls

-- after a call that worked: one call more
abbrev pub after_success : ScheduleState → ScheduleState
after_success schedule = record schedule { calls = one_more schedule.calls }

-- after a call that failed: one call more and one fault more
abbrev pub after_failure : ScheduleState → ScheduleState
after_failure schedule = record schedule { calls = one_more schedule.calls; faults = one_more schedule.faults }

-- the state after a call that failed: the first where it was to fail, and the second where it wasn't and memory ran out
abbrev pub IsRefusedOrStarved : {State : Type 0} → Type 0 → State → State → State → Type 0
IsRefusedOrStarved WasToFail refused starved state = WasToFail × (state ≡ refused) ⊎ ¬ WasToFail × (state ≡ starved)

-- the bytes that are left, and which calls fail
pub record SourceState : Type 0 where
  pub left : List ℕ
  pub schedule : ScheduleState

-- no read yet
abbrev pub new_source : List ℕ → List ℕ → SourceState
new_source bytes failing = record { left = bytes; schedule = new_schedule failing }

-- after a read that gave so many bytes
abbrev pub after_read : SourceState → ℕ → SourceState
after_read source count = record { left = drop count source.left; schedule = after_success source.schedule }

-- after a read that failed
abbrev pub after_failed_read : SourceState → SourceState
after_failed_read source = record source { schedule = after_failure source.schedule }

-- the bytes that were taken, which calls fail, the count of writes that worked after one had failed, and the count of
-- refusals for memory
pub record SinkState : Type 0 where
  pub taken : List ℕ
  pub schedule : ScheduleState
  pub late : ℕ
  pub starved : ℕ

-- no write yet
abbrev pub new_sink : List ℕ → SinkState
new_sink failing = record { taken = []; schedule = new_schedule failing; late = 0; starved = 0 }

-- the count of late writes after one more that worked, where so many had failed
abbrev pub late_after : (faults late : ℕ) → ℕ
late_after faults late = if faults == 0 then late else one_more late

-- after a write that took a piece whole
abbrev pub after_write : SinkState → List ℕ → SinkState
after_write sink bytes = record sink {
  taken = sink.taken ++ bytes;
  schedule = after_success sink.schedule;
  late = late_after sink.schedule.faults sink.late;
}

-- after a write that was to fail
abbrev pub after_failed_write : SinkState → SinkState
after_failed_write sink = record sink { schedule = after_failure sink.schedule }

-- after a write that was not to fail and found no memory
abbrev pub after_starved_write : SinkState → SinkState
after_starved_write sink = record sink { schedule = after_failure sink.schedule; starved = one_more sink.starved }
