-- What is told of a run.
use Rattle.std.specs.Prelude.{ℕ, Bool, true, false, if◌then◌else◌, List, [], ◌++◌, codes}
use Rattle.std.specs.List.{flat_map, enumerate_from, list_any}
use Rattle.std.specs.Fmt.{decimal}
use Rattle.limiter_num.specs.Points.{name_of_point}
use Rattle.plant_book.specs.Part.{PartRecord}
use Rattle.script_text.specs.Text.{entry_text}
use Rattle.operator_console.specs.declared.session.ConsoleEnd.{ConsoleEnd}
use Rattle.operator_console.specs.declared.session.ConsoleEnd.TheVariants as consoles
use Rattle.operator_console.specs.Comments.{head_before}
use Rattle.inverter_worker.specs.declared.state.End.{End}
use Rattle.inverter_worker.specs.declared.state.End.TheVariants as ends
use Rattle.inverter_worker.specs.declared.state.Step.{Step}
use Rattle.inverter_worker.specs.declared.state.Step.TheVariants.{Over}
use Rattle.worker_turn.specs.Worker.{WorkerRecord}
use Rattle.site_run.specs.declared.report.Finish.{Finish}
use Rattle.site_run.specs.declared.report.Finish.TheVariants as finish

-- how a worker is over, as it is told
abbrev pub end_name : End → List ℕ
end_name ends.TurnsDone = codes "turns"
end_name ends.Stopped = codes "stopped"
end_name ends.BookFull = codes "bookfull"
end_name (ends.Unfit point wanted found) =
    codes "unfit " ++ name_of_point point ++ codes " " ++ decimal wanted ++ codes " " ++ decimal found
end_name ends.NoMemory = codes "nomemory"

-- the comment line of a worker that is over
abbrev pub worker_line : (number : ℕ) → Step → List ℕ
worker_line number (Over end) = codes "# worker " ++ decimal number ++ codes " " ++ end_name end ++ codes "\n"
worker_line number step = []

-- those of all workers, by their numbers from 0
abbrev pub worker_lines : List WorkerRecord → List ℕ
worker_lines workers = flat_map (λ seat. worker_line seat.0 seat.1.state.step) (enumerate_from 0 workers)

-- the text of the last book of a life; the head of the life stands before it where no book ended before
abbrev pub last_text : PartRecord → List ℕ
last_text plant = head_before plant.site plant.start plant.carry ++ flat_map entry_text plant.entries

-- What is told of a run behind what its console wrote, where each book that ended is told: the last book, and then the
-- lines of the workers.
abbrev pub text_of_run : PartRecord → List WorkerRecord → List ℕ
text_of_run plant workers = last_text plant ++ worker_lines workers

-- whether a console that ended so wrote its last text whole: else nothing is told behind it
abbrev pub wrote_whole : ConsoleEnd → Bool
wrote_whole consoles.WriteFault = false
wrote_whole consoles.NoMemory = false
wrote_whole _ = true

-- whether a worker is over for want of memory, or at a full book
abbrev pub lacks_memory : Step → Bool
lacks_memory (Over ends.NoMemory) = true
lacks_memory step = false

abbrev pub found_full : Step → Bool
found_full (Over ends.BookFull) = true
found_full step = false

-- how a run finished by how its console ended, and by whether a worker found a book full, which has so much room
abbrev pub finish_behind : (room : ℕ) → (full : Bool) → ConsoleEnd → Finish
finish_behind room full consoles.NoMemory = finish.NoMemory
finish_behind room full consoles.WriteFault = finish.WriteFault
finish_behind room full consoles.ReadFault = finish.ReadFault
finish_behind room full consoles.BookFull = finish.BookFull room
finish_behind room true _ = finish.BookFull room
finish_behind room false _ = finish.Done

-- How a run finished: for want of memory where a worker or the console did; else at a write of the console that failed;
-- else at such a read; else at a full book where a worker or the console found one.
abbrev pub finish_of : PartRecord → List WorkerRecord → ConsoleEnd → Finish
finish_of plant workers console =
    if list_any (λ worker. lacks_memory worker.state.step) workers then finish.NoMemory
    else finish_behind plant.site.room (list_any (λ worker. found_full worker.state.step) workers) console
