-- One step of a simulation: time passes, then one thing happens.
use Rattle.std.specs.Prelude.{ℕ, ◌+◌, ◌==◌, nat_lt, if◌then◌else◌, List, [], ◌∷◌, length, map, slice_get, Option, Some, None}
use Rattle.std.proofs.Common.{zero, suc}
use Rattle.std.specs.Option.{option_map_or}
use Rattle.plant_book.specs.declared.call.Call.TheVariants as calls
use Rattle.plant_book.specs.declared.call.Write as writes
use Rattle.plant_book.specs.Answer.{goal_raw}
use Rattle.plant_simulator.specs.declared.inverter.Request.{Request}
use Rattle.plant_simulator.specs.declared.inverter.Request.TheVariants as requests
use Rattle.plant_simulator.specs.declared.inverter.OldWrite.{OldWrite}
use Rattle.plant_simulator.specs.Words.{behind, draw}
use Rattle.plant_simulator.specs.World.{InverterRecord, World, held_by}
use Rattle.plant_simulator.specs.Inverter.{inverter_at, queued, holding, emptied, without_first, without_old, changed_at}
use Rattle.plant_simulator.specs.Call.{reply_in, called}

-- the plant behind so many draws
abbrev pub drawn : ℕ → World → World
drawn count world = record world { words = behind count world.words }

-- the plant with one inverter changed
abbrev pub changed : ℕ → (InverterRecord → InverterRecord) → World → World
changed number change world = record world { inverters = changed_at number change world.inverters }

-- Time passes: reverts that are due come, and writes that are too late leave.
unfoldable pub passed : World → World
passed world =
    let now = world.moment + draw 0 2000 world.words in
    drawn 1 (record world { moment = now; inverters = map (inverter_at now) world.inverters })

-- an Ask for a limit: the granted write joins the line
unfoldable pub asked_for : ℕ → ℕ → World → World
asked_for number raw world =
    let call = calls.Ask world.moment number raw in
    changed number (queued (reply_in world call)) (called call world)

-- an Ask for the goal, or for any limit
unfoldable pub asked : ℕ → World → World
asked number world = if draw 0 2 world.words == 0
    then asked_for number (goal_raw world.book number) (drawn 1 world)
    else asked_for number (draw 1 1001 world.words) (drawn 2 world)

-- a Read: the numbered read joins the line
unfoldable pub read_back : ℕ → World → World
read_back number world =
    let call = calls.Read world.moment number in
    changed number (queued (reply_in world call)) (called call world)

-- a write that is delivered acts: the inverter holds it until its timer runs out
unfoldable pub acted : ℕ → writes.Write → World → World
acted number write world =
    changed number (holding write.raw (world.moment + 58300 + draw 0 3401 world.words)) (drawn 1 world)

-- a request of the line that is delivered: a write acts, and a read shows what is held
unfoldable pub delivered : ℕ → Request → World → World
delivered number (requests.Write write) world = acted number write world
delivered number (requests.Read read) world =
    called (calls.Saw world.moment number read.number (held_by world number)) world

-- the line of an inverter
abbrev pub line_of : ℕ → World → List Request
line_of number world = option_map_or (λ its. its.line) (slice_get world.inverters number) []

-- what happens to the first request of a line: it is lost once in four times, else it is delivered, and stays
-- in the line once in eight times
unfoldable pub reached : ℕ → Request → World → World
reached number request world =
    if draw 0 4 world.words == 0 then changed number without_first (drawn 2 world)
    else if draw 1 8 world.words == 0 then delivered number request (drawn 2 world)
    else delivered number request (changed number without_first (drawn 2 world))

-- what happens to a line
abbrev pub by_line : ℕ → List Request → World → World
by_line number [] world = world
by_line number (request ∷ rest) world = reached number request world

-- the old writes of an inverter
abbrev pub old_of : ℕ → World → List OldWrite
old_of number world = option_map_or (λ its. its.strays) (slice_get world.inverters number) []

-- the old write that is chosen acts, and leaves with the earlier ones of its link
abbrev pub by_place : ℕ → ℕ → Option OldWrite → World → World
by_place number place None world = world
by_place number place (Some chosen) world = acted number chosen.write (changed number (without_old place chosen) world)

-- what happens to old writes
unfoldable pub came_late : ℕ → World → World
came_late number world =
    if length (old_of number world) == 0 then world
    else by_place number (draw 0 (length (old_of number world)) world.words)
    (slice_get (old_of number world) (draw 0 (length (old_of number world)) world.words)) (drawn 1 world)

-- a wish
unfoldable pub wished : ℕ → World → World
wished number world = called (calls.Want world.moment number (draw 0 6000001 world.words)) (drawn 1 world)

-- a new link: what is on its way is old
unfoldable pub relinked : ℕ → World → World
relinked number world = called (calls.Link world.moment number) (changed number (emptied world.life) world)

-- the first inverters get a Link, in order
unfoldable pub linked : ℕ → World → World
linked zero world = world
linked (suc count) world = called (calls.Link world.moment count) (linked count world)

-- the plant with an empty book of the next life
abbrev pub next_life : World → World
next_life world = record world {
  life = world.life + 1;
  book = record { site = world.book.site; start = world.moment; entries = [] };
  inverters = map (emptied world.life) world.inverters;
}

-- a restart
unfoldable pub restarted : World → World
restarted world = linked (length world.inverters) (next_life world)

-- a Tick, or once in 64 times a restart
unfoldable pub ticked : World → World
ticked world = if draw 0 64 world.words == 0 then restarted (drawn 1 world)
    else called (calls.Tick world.moment) (drawn 1 world)

-- what happens, by the number that was drawn for it
unfoldable pub happened : ℕ → ℕ → World → World
happened kind number world =
    if nat_lt kind 4 then asked number world
    else if nat_lt kind 7 then read_back number world
    else if nat_lt kind 12 then by_line number (line_of number world) world
    else if kind == 12 then came_late number world
    else if kind == 13 then wished number world
    else if kind == 14 then relinked number world
    else ticked world

-- the plant behind one step
unfoldable pub stepped : World → World
stepped world =
    let at = passed world in
    happened (draw 1 16 at.words) (draw 0 (length at.inverters) at.words) (drawn 2 at)
