-- What `run` writes, how it ends, and which end comes.
use Rattle.std.specs.Prelude.{◌≡◌, ℕ, ◌≤◌, ◌⊎◌, Bool, true, false, List, Option, None, IfSome, length}
use Rattle.world_traits.specs.Links.{Links}
use Rattle.world_traits.specs.Causes.{HasCause}
use Rattle.plant_book.specs.Part.{PartRecord}
use Rattle.plant_book.specs.Life.{Life, IsLife, joined_book}
use Rattle.plant_ledger.specs.Plant.{IsSafeLife}
use Rattle.script_replay.specs.Lives.{life_text}
use Rattle.script_replay.specs.Replay.{IsReplay}
use Rattle.site_config.specs.SiteFile.{SiteFileRecord, IsSiteFile}
use Rattle.worker_turn.specs.Worker.{WorkerRecord}
use Rattle.operator_console.specs.declared.session.ConsoleEnd.{ConsoleEnd}
use Rattle.operator_console.specs.Transcript.{at_input, at_output}
use Rattle.plant_run.specs.Works.{HasFullBook}
use Rattle.site_run.specs.declared.report.Finish.{Finish}
use Rattle.site_run.specs.declared.report.Finish.TheVariants as finishes
use Rattle.site_run.specs.Run.{IsRun}
use Rattle.site_run.specs.Report.{finish_of, text_of_run, wrote_whole}
use Rattle.command_io.specs.declared.ended.Ended.{Ended}
use Rattle.command_io.specs.declared.ended.Ended.TheVariants as ends
use Rattle.stream_io.specs.Streams.{Change, Fails, Works, GainsText, GainsFront, GainsNothing}
use Rattle.command_io.specs.Site.{site_limit, HasSiteCause, ReadsSite, FindsNoSite, RefusesBadSite}

-- how the command ends, by how the run finished and whether all of its text was written
abbrev pub end_of : Finish → (written : Bool) → Ended
end_of finishes.NoMemory written = ends.NoMemory
end_of finishes.WriteFault written = ends.WriteFault
end_of finish false = ends.WriteFault
end_of finishes.ReadFault true = ends.ReadFault
end_of (finishes.BookFull calls) true = ends.BookFull calls
end_of finishes.Done true = ends.Done

-- the text of a run, behind what its console wrote
abbrev pub IsRunText : PartRecord → List WorkerRecord → List ℕ → Type 0
IsRunText plant workers text = text ≡ text_of_run plant workers

-- What was written of a run behind what its console wrote, and how the command ends then: the text of the run; a front
-- of that, where a write failed; nothing, where there was no memory for it; or nothing, where the console, which ended
-- so, had not written its last text whole.
pub data IsTold (plant : PartRecord) (workers : List WorkerRecord) (ending : ConsoleEnd) (output : Change)
    (ended : Ended) : Type 0 where
  whole : wrote_whole ending ≡ true → GainsText (IsRunText plant workers) output
      → ended ≡ end_of (finish_of plant workers ending) true → IsTold plant workers ending output ended
  cut_short : wrote_whole ending ≡ true → Fails output → GainsFront (IsRunText plant workers) output
      → ended ≡ end_of (finish_of plant workers ending) false → IsTold plant workers ending output ended
  untold : wrote_whole ending ≡ true → GainsNothing output → ended ≡ ends.NoMemory
      → IsTold plant workers ending output ended
  broken_off : wrote_whole ending ≡ false → GainsNothing output
      → ended ≡ end_of (finish_of plant workers ending) true → IsTold plant workers ending output ended

-- the change of a stream behind a moment at which it told these bytes and faults
abbrev pub since : (bytes : Option (List ℕ)) → (faults : ℕ) → Change → Change
since bytes faults stream =
    record { old = bytes; new = stream.new; faults_old = faults; faults_new = stream.faults_new }

-- nothing was done with a stream
abbrev pub IsUntouched : Change → Type 0
IsUntouched stream = (stream.new ≡ stream.old) × Works stream

-- The ends of `run` with so many turns, each with what it says of the bytes of the site file that were read, of the
-- console and of the output: it was given no site file, there was no memory to begin with, or the plant ran. Then the
-- console ended so, at a failed read or write exactly where one failed, and behind what it wrote the run is told of.
pub data IsRunEnd {N : Type 0} (links : N → Option Links) (faults : N → ℕ) (may_give : ℕ → Bool) (turns : ℕ)
    (read : List ℕ) (site console output : Change) (dialers dialers_now : List N) (ended : Ended) : Type 0 where
  no_site : FindsNoSite ended read site → IsUntouched console → GainsNothing output → dialers_now ≡ dialers
      → IsRunEnd links faults may_give turns read site console output dialers dialers_now ended
  not_begun : (file : SiteFileRecord) → ReadsSite file read site → IsUntouched console → GainsNothing output
      → dialers_now ≡ dialers → ended ≡ ends.NoMemory
      → IsRunEnd links faults may_give turns read site console output dialers dialers_now ended
  ran : (file : SiteFileRecord) (plant : PartRecord) (workers : List WorkerRecord) (ending : ConsoleEnd)
      (shown : Option (List ℕ)) (shown_faults : ℕ) → ReadsSite file read site
      → IsRun links faults may_give file turns dialers dialers_now plant workers ending console.old console.new
      output.old shown
      → HasCause console.faults_old console.faults_new (at_input ending)
      → HasCause output.faults_old shown_faults (at_output ending)
      → IsTold plant workers ending (since shown shown_faults output) ended
      → IsRunEnd links faults may_give turns read site console output dialers dialers_now ended

-- what an end says of the site file, and of the console: a failed read is one of either
pub record HasRunCause (ended : Ended) (site console : Change) : Type 0 where
  pub file : (ended ≡ ends.ReadFault → ⊥) → HasSiteCause ended site
  pub read_fault : ended ≡ ends.ReadFault → Fails site ⊎ Fails console

-- the text tells of a life that is safe at every moment, and replays as the text of that life
pub record TellsSafeLife (text : List ℕ) : Type 0 where
  pub life : Life
  pub answered : IsLife life
  pub safe : IsSafeLife (joined_book life)
  pub replays : IsReplay text None (life_text life)

-- The text tells of a life of the site file that the bytes are, and replays as the text of that life. A book of it is
-- full: it has so many calls, which are all that the site has room for.
pub record TellsFullBook (calls : ℕ) (bytes text : List ℕ) : Type 0 where
  pub file : SiteFileRecord
  pub is_file : IsSiteFile bytes file
  pub room : calls ≡ file.site.room
  pub life : Life
  pub site : life.last.site ≡ file.site
  pub answered : IsLife life
  pub full : HasFullBook life
  pub replays : IsReplay text None (life_text life)

-- Which end comes where neither the site file, the console nor the output fails, and memory doesn't run out: the plant
-- of a site file ran, to a full book or not, and without one the command is refused.
pub record IsRunDue (ended : Ended) (site console output : Change) : Type 0 where
  pub complete : IfSome site.old (λ bytes. length bytes ≤ site_limit
      → (file : SiteFileRecord) → IsSiteFile bytes file → (Fails site → ⊥) → (Fails console → ⊥) → (Fails output → ⊥)
      → (ended ≡ ends.Done) ⊎ ((ended ≡ ends.NoMemory) ⊎ ((calls : ℕ) × (ended ≡ ends.BookFull calls))))
  pub bad_site : RefusesBadSite ended site
